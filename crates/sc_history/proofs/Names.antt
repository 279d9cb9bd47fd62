-- Names of parts: the test for a name, and their order.
use Rattle.std.proofs.Common.{◌≡◌, ℕ, true, false, ◌&&◌, List, refl, ap, ◌∙◌, bytes_eq, eq-eqb, Ordering, Less, Equal, Greater, is_eq}
use Rattle.std.specs.Cmp.{IsTotalOrder}
use Rattle.std.specs.Ordering.{int_cmp, int_eq, nat_cmp, ordering_reverse, ordering_then}
use Rattle.std.specs.Cmp.Lexicographic.{texts_ties}
use Rattle.std.proofs.lemmas.Bool.{and_parts, and_from}
use Rattle.std.proofs.lemmas.Bool.Decides.{Decides-int_eq}
use Rattle.std.proofs.lemmas.Cmp.{by_ranked, ranked, int_ranked, on_total, then_total, int_cmp_total, nat_cmp_total, nat_list_cmp_total}
use Rattle.sc_base.specs.Text.{text_order}
use Rattle.sc_cut.specs.declared.cut.Cut.{Cut}
use Rattle.sc_cut.specs.declared.cut.Cut.TheVariants.{Whole, Year, Month}
use Rattle.sc_cut.specs.declared.name.PartName.{PartName}
use Rattle.sc_history.specs.Names.{cut_place, is_cut, is_name, name_order}
use Rattle.sc_history.proofs.Texts.{never, same_text, text_self}

pub name_total : IsTotalOrder name_order
name_total = then_total (on_total (λ (n : PartName). n.collection) nat_list_cmp_total) (then_total (on_total (λ (n : PartName). cut_place n.cut) nat_cmp_total) (on_total (λ (n : PartName). n.key) int_cmp_total))

pub same_cut : (a b : Cut) → is_cut a b ≡ true → a ≡ b
same_cut Whole Whole e = refl
same_cut Whole Year e = never false e refl
same_cut Whole Month e = never false e refl
same_cut Year Whole e = never false e refl
same_cut Year Year e = refl
same_cut Year Month e = never false e refl
same_cut Month Whole e = never false e refl
same_cut Month Year e = never false e refl
same_cut Month Month e = refl

pub same_name : (a b : PartName) → is_name a b ≡ true → a ≡ b
same_name a b e =
    let last = and_parts (bytes_eq a.collection b.collection && is_cut a.cut b.cut) (int_eq a.key b.key) e in
    let first = and_parts (bytes_eq a.collection b.collection) (is_cut a.cut b.cut) last.0 in
    let c = same_text a.collection b.collection first.0 in
    let k = same_cut a.cut b.cut first.1 in
    let n = (Decides-int_eq a.key b.key).0 last.1 in
    λ i. record { collection = c i; cut = k i; key = n i }

pub name_self : (a : PartName) → is_name a a ≡ true
name_self a = and_from _ _ (and_from _ _ (text_self a.collection) (eq-eqb (cut_place a.cut) (cut_place a.cut) refl)) ((Decides-int_eq a.key a.key).1 refl)

-- ---- names that tie are one

then_equal : (o p : Ordering) → ordering_then o p ≡ Equal → (o ≡ Equal) × (p ≡ Equal)
then_equal Less p e = cc
then_equal Equal p e = (refl, e)
then_equal Greater p e = cc

pub text_tie : (a b : List ℕ) → text_order a b ≡ Equal → a ≡ b
text_tie a b e = same_text a b (texts_ties a b ∙ ap is_eq e)

number_tie : (x y : ℕ) → nat_cmp x y ≡ Equal → x ≡ y
number_tie x y e = by_ranked _ _ _ (nat_cmp x y) (ranked x y (nat_cmp x y) refl) (λ l _. cc (l, e)) (λ _ h. h) (λ g _. cc (g, e))

key_tie : (a b : PartName) → int_cmp a.key b.key ≡ Equal → a.key ≡ b.key
key_tie a b e = by_ranked _ _ _ (int_cmp a.key b.key) (int_ranked a.key b.key (int_cmp a.key b.key) refl) (λ l _. cc (l, e)) (λ _ h. h) (λ g _. cc (g, e))

pub name_tie : (a b : PartName) → name_order a b ≡ Equal → a ≡ b
name_tie a b e =
    let first = then_equal (text_order a.collection b.collection) _ e in
    let second = then_equal (nat_cmp (cut_place a.cut) (cut_place b.cut)) _ first.1 in
    let c = text_tie a.collection b.collection first.0 in
    let k = same_cut a.cut b.cut (eq-eqb (cut_place a.cut) (cut_place b.cut) (number_tie (cut_place a.cut) (cut_place b.cut) second.0)) in
    let n = key_tie a b second.1 in
    λ i. record { collection = c i; cut = k i; key = n i }

pub name_turned : (a b : PartName) → name_order a b ≡ Greater → name_order b a ≡ Less
name_turned a b e = name_total.antisymm b a ∙ ap ordering_reverse e

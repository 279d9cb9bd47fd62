-- The items of one part more.
use Rattle.std.proofs.Common.{◌≡◌, ◌<◌, ◌+◌, ℕ, Bool, true, false, cond, Option, List, [], ◌∷◌, ◌++◌, take, drop, filter, length, get_or, refl, sym, ap, ◌∙◌, subst, append_assoc, append-nil}
use Rattle.std.specs.List.{All}
use Rattle.std.proofs.lemmas.List.{take_more, take-append-drop}
use Rattle.std.proofs.lemmas.List.Elements.{All-from_recursion, filter-append, recursion_from_All}
use Rattle.sqlite_keyed.proofs.ListLemmas.{all-append}
use Rattle.sc_item.specs.Feature.{Feature}
use Rattle.sc_item.specs.Names.{AreApart}
use Rattle.sc_sort.specs.declared.key.Key.{Key}
use Rattle.sc_history.specs.Part.{Part}
use Rattle.sc_shelf.specs.Kept.{all_items}
use Rattle.sc_page.proofs.Shared.{apart_front}
use Rattle.sc_walk.specs.Walk.{is_done}

pub items_of_both : (xs ys : List Part) → all_items (xs ++ ys) ≡ all_items xs ++ all_items ys
items_of_both [] ys = refl
items_of_both (x ∷ xs) ys = ap (λ l. x.items ++ l) (items_of_both xs ys) ∙ sym (append_assoc x.items (all_items xs) (all_items ys))

pub items_next : (parts : List Part) (i : ℕ) (part : Part) → i < length parts → part ≡ get_or parts i part → all_items (take (i + 1) parts) ≡ all_items (take i parts) ++ part.items
items_next parts i part lt here =
    ap all_items (take_more parts i part lt ∙ ap (λ p. take i parts ++ p ∷ []) (sym here)) ∙ items_of_both (take i parts) (part ∷ []) ∙ ap (λ l. all_items (take i parts) ++ l) (append-nil part.items)

pub apart_as_far : (parts : List Part) (i : ℕ) (part : Part) → i < length parts → part ≡ get_or parts i part → AreApart (all_items parts) → AreApart (all_items (take i parts) ++ part.items)
apart_as_far parts i part lt here apart =
    let whole : all_items parts ≡ (all_items (take i parts) ++ part.items) ++ all_items (drop (i + 1) parts) =
    ap all_items (sym (take-append-drop (i + 1) parts)) ∙ items_of_both (take (i + 1) parts) (drop (i + 1) parts) ∙ ap (λ l. l ++ all_items (drop (i + 1) parts)) (items_next parts i part lt here) in
    apart_front _ (all_items (drop (i + 1) parts)) (subst AreApart whole apart)

pub apart_taken : (parts : List Part) (i : ℕ) → AreApart (all_items parts) → AreApart (all_items (take i parts))
apart_taken parts i apart =
    apart_front (all_items (take i parts)) (all_items (drop i parts)) (subst AreApart (ap all_items (sym (take-append-drop i parts)) ∙ items_of_both (take i parts) (drop i parts)) apart)

-- what the test of the walk tells
pub told_done : (sort keys : List Key) (last kept : Option Feature) (opened part : Part) (told : Bool) → told ≡ is_done keys last opened → keys ≡ sort → last ≡ kept → opened ≡ part → told ≡ is_done sort kept part
told_done sort keys last kept opened part told is same_sort same_last same_part =
    is ∙ ap (λ k. is_done k last opened) same_sort ∙ ap (λ l. is_done sort l opened) same_last ∙ ap (is_done sort kept) same_part

-- ---- parts one by one

pub all_next : (P : Part → Type 0) (parts : List Part) (i : ℕ) (part : Part) → i < length parts → part ≡ get_or parts i part → All P (take i parts) → P part → All P (take (i + 1) parts)
all_next P parts i part lt here all p =
    subst (All P) (sym (take_more parts i part lt ∙ ap (λ q. take i parts ++ q ∷ []) (sym here)))
    (All-from_recursion P (take i parts ++ part ∷ []) (all-append P (take i parts) (part ∷ []) (recursion_from_All P (take i parts) all) (p, tt)))

filter_next : (test : Part → Bool) (parts : List Part) (i : ℕ) (part : Part) (b : Bool) → i < length parts → part ≡ get_or parts i part → test part ≡ b
    → filter test (take (i + 1) parts) ≡ filter test (take i parts) ++ cond b (part ∷ []) []
filter_next test parts i part b lt here e =
    ap (filter test) (take_more parts i part lt ∙ ap (λ q. take i parts ++ q ∷ []) (sym here)) ∙ filter-append test (take i parts) (part ∷ [])
    ∙ ap (λ (c : Bool). filter test (take i parts) ++ cond c (part ∷ []) []) e

pub filter_with : (test : Part → Bool) (parts : List Part) (i : ℕ) (part : Part) → i < length parts → part ≡ get_or parts i part → test part ≡ true → filter test (take (i + 1) parts) ≡ filter test (take i parts) ++ part ∷ []
filter_with test parts i part lt here e = filter_next test parts i part true lt here e

pub filter_without : (test : Part → Bool) (parts : List Part) (i : ℕ) (part : Part) → i < length parts → part ≡ get_or parts i part → test part ≡ false → filter test (take (i + 1) parts) ≡ filter test (take i parts)
filter_without test parts i part lt here e = filter_next test parts i part false lt here e ∙ append-nil (filter test (take i parts))

-- Parts whose names rise, on both sides of a name, and the run of those of one collection.
use Rattle.std.proofs.Common.{◌≡◌, ◌≢◌, ℕ, ◌+◌, ◌<◌, ◌≤◌, ⊎_elim, Bool, true, false, List, ◌∷◌, ◌++◌, length, get_or, take, drop, Option, Some, None, refl, sym, ap, ◌∙◌, subst, arith, Ordering, Less, Equal, Greater, is_lt, is_gt, true≢false, bytes_eq}
use Rattle.std.specs.List.{All, AllWithin}
use Rattle.std.specs.List.Sorted.{IsPartitionedBy, IsPartitionPoint, IsSortedBy}
use Rattle.std.specs.Ordering.{ordering_then, ordering_reverse}
use Rattle.std.proofs.lemmas.Bool.{cases_lt}
use Rattle.std.proofs.lemmas.Cmp.{nat_list_cmp_total, tied_itself}
use Rattle.std.proofs.lemmas.List.{take-append-drop, drop_more, get_or_default, get_or-take, get_or-drop, length-take-le, length-drop}
use Rattle.sc_base.specs.Text.{text_order}
use Rattle.sc_cut.specs.declared.name.PartName.{PartName}
use Rattle.sc_history.specs.Names.{name_order}
use Rattle.sc_history.specs.Part.{Part, AreInOrder, lookup}
use Rattle.sc_history.proofs.Names.{name_tie, name_total, name_turned, text_tie}
use Rattle.sc_history.proofs.Texts.{same_text, text_self}
use Rattle.sc_shelf.specs.Split.{IsSplit}
use Rattle.sc_shelf.specs.Run.{IsRunOf}
use Rattle.std.proofs.lemmas.List.Elements.{recursion_from_All}
use Rattle.sc_shelf.proofs.Between.{IsAbove, IsBelow, found_between}

-- ---- a split

pub split_found : (name : PartName) (parts : List Part) (at : ℕ) (x : Part) → AreInOrder parts → at < length parts → x ≡ get_or parts at x → name_order x.name name ≡ Equal → IsSplit name parts (take at parts) (Some x) (drop (at + 1) parts)
split_found name parts at x rise lt here tie = record {
  whole = sym (take-append-drop at parts) ∙ ap (λ l. take at parts ++ l) (drop_more parts at x lt ∙ ap (λ p. p ∷ drop (at + 1) parts) (sym here));
  below = λ k d low.
      let l : k < at = omega (arith, low, length-take-le at parts (omega (arith, lt))) in
      subst (λ p. name_order p.name name ≡ Less) (sym (get_or-take at parts k d l)) (at_name k d l);
  named = named;
  above = λ k d low.
      let l : at + 1 + k < length parts = omega (arith, low, length-drop (at + 1) parts, lt) in
      subst (λ p. name_order name p.name ≡ Less) (sym (get_or-drop (at + 1) parts k d)) (from_name (at + 1 + k) d (omega arith) l);
}
  where
    named : x.name ≡ name
    named = name_tie x.name name tie

    here_at : (d : Part) → get_or parts at d ≡ x
    here_at d = get_or_default parts at d x lt ∙ sym here

    at_name : (k : ℕ) (d : Part) → k < at → name_order (get_or parts k d).name name ≡ Less
    at_name k d l = subst (λ n. name_order (get_or parts k d).name n ≡ Less) (ap (λ p. p.name) (here_at d) ∙ named) (rise k at d l lt)

    from_name : (k : ℕ) (d : Part) → at < k → k < length parts → name_order name (get_or parts k d).name ≡ Less
    from_name k d l m = subst (λ n. name_order n (get_or parts k d).name ≡ Less) (ap (λ p. p.name) (here_at d) ∙ named) (rise at k d l m)

pub split_missing : (name : PartName) (parts : List Part) (at : ℕ) → at ≤ length parts → IsPartitionPoint (λ (p : Part). name_order p.name name ≡ Less) (λ p. name_order p.name name ≡ Greater) parts at
    → IsSplit name parts (take at parts) None (drop at parts)
split_missing name parts at le (before, behind) = record {
  whole = sym (take-append-drop at parts);
  below = λ k d low.
      let l : k < at = omega (arith, low, length-take-le at parts le) in
      subst (λ p. name_order p.name name ≡ Less) (sym (get_or-take at parts k d l)) (before k d (omega arith) l);
  named = tt;
  above = λ k d low.
      let l : at + k < length parts = omega (arith, low, length-drop at parts, le) in
      subst (λ p. name_order name p.name ≡ Less) (sym (get_or-drop at parts k d)) (name_turned (get_or parts (at + k) d).name name (behind (at + k) d (omega arith) l));
}

-- the part that has the name is the one between them
pub found_split : (name : PartName) (parts before : List Part) (here : Option Part) (after : List Part) → IsSplit name parts before here after → lookup name parts ≡ here
found_split name parts before here after split =
    ap (lookup name) split.whole
    ∙ found_between name before here after (recursion_from_All (IsBelow name) before split.below) split.named (recursion_from_All (IsAbove name) after split.above)

-- parts in the order of names are sorted by them
pub names_sorted : (parts : List Part) → AreInOrder parts → IsSortedBy (λ (a b : Part). is_lt (name_order a.name b.name)) parts
names_sorted parts rise k d low lt = ap is_lt (name_total.antisymm (get_or parts (k + 1) d).name (get_or parts k d).name ∙ ap ordering_reverse (rise k (k + 1) d (omega arith) lt))

-- ---- a run

not_greater : (o p : Ordering) → ordering_then o p ≡ Less → is_gt o ≡ false
not_greater Less p e = refl
not_greater Equal p e = refl
not_greater Greater p e = cc

-- the collections of names that rise don't fall
collections_rise : (a b : PartName) → name_order a b ≡ Less → is_gt (text_order a.collection b.collection) ≡ false
collections_rise a b e = not_greater (text_order a.collection b.collection) _ e

-- what isn't after a text that is before a third is before it too
less_through : (x y c : List ℕ) → is_gt (text_order x y) ≡ false → is_lt (text_order y c) ≡ true → is_lt (text_order x c) ≡ true
less_through x y c le lt = go (text_order x y) refl le (text_order y c) refl lt
  where
    go : (o : Ordering) → text_order x y ≡ o → is_gt o ≡ false → (q : Ordering) → text_order y c ≡ q → is_lt q ≡ true → is_lt (text_order x c) ≡ true
    go Less e l Less f m = ap is_lt (nat_list_cmp_total.trans x y c e f)
    go Less e l Equal f m = absurd (true≢false (sym m))
    go Less e l Greater f m = absurd (true≢false (sym m))
    go Equal e l q f m = ap is_lt (nat_list_cmp_total.congr x y c e ∙ f) ∙ m
    go Greater e l q f m = absurd (true≢false l)

-- a text that is neither before nor after another is it
neither : (x c : List ℕ) → is_lt (text_order x c) ≡ false → is_gt (text_order x c) ≡ false → x ≡ c
neither x c l g = go (text_order x c) refl l g
  where
    go : (o : Ordering) → text_order x c ≡ o → is_lt o ≡ false → is_gt o ≡ false → x ≡ c
    go Less e l g = absurd (true≢false l)
    go Equal e l g = text_tie x c e
    go Greater e l g = absurd (true≢false g)

abbrev pub is_early : List ℕ → Part → Bool
is_early collection part = is_lt (text_order part.name.collection collection)

abbrev pub is_within : List ℕ → Part → Bool
is_within collection part = bytes_eq part.name.collection collection

between : (parts : List Part) (i j : ℕ) (d : Part) → AreInOrder parts → i ≤ j → j < length parts → is_gt (text_order (get_or parts i d).name.collection (get_or parts j d).name.collection) ≡ false
between parts i j d rise le lt = ⊎_elim (λ l. collections_rise (get_or parts i d).name (get_or parts j d).name (rise i j d l lt)) (λ m. same (omega (arith, le, m))) (cases_lt i j)
  where
    same : i ≡ j → is_gt (text_order (get_or parts i d).name.collection (get_or parts j d).name.collection) ≡ false
    same e = subst (λ k. is_gt (text_order (get_or parts i d).name.collection (get_or parts k d).name.collection) ≡ false) e (ap is_gt (tied_itself nat_list_cmp_total (get_or parts i d).name.collection))

-- those of earlier collections stand first
pub early_first : (collection : List ℕ) (parts : List Part) → AreInOrder parts → IsPartitionedBy (is_early collection) parts
early_first collection parts rise i j d le lt e = less_through (get_or parts i d).name.collection (get_or parts j d).name.collection collection (between parts i j d rise le lt) e

-- and then those of the collection
pub within_next : (collection : List ℕ) (rest : List Part) → AreInOrder rest → All (λ p. is_early collection p ≡ false) rest → IsPartitionedBy (is_within collection) rest
within_next collection rest rise late i j d le lt e =
    let here = same_text (get_or rest j d).name.collection collection e in
    let le' = subst (λ c. is_gt (text_order (get_or rest i d).name.collection c) ≡ false) here (between rest i j d rise le lt) in
    subst (λ c. bytes_eq c collection ≡ true) (sym (neither (get_or rest i d).name.collection collection (late i d (omega (arith, le, lt))) le')) (text_self collection)

pub rest_in_order : (parts : List Part) (at : ℕ) → at ≤ length parts → AreInOrder parts → AreInOrder (drop at parts)
rest_in_order parts at le rise i j d l m =
    let lt : at + j < length parts = omega (arith, m, length-drop at parts, le) in
    subst (λ p. name_order p.name (get_or (drop at parts) j d).name ≡ Less) (sym (get_or-drop at parts i d)) (subst (λ p. name_order (get_or parts (at + i) d).name p.name ≡ Less) (sym (get_or-drop at parts j d)) (rise (at + i) (at + j) d (omega (arith, l)) lt))

pub late_rest : (collection : List ℕ) (parts : List Part) (at : ℕ) → at ≤ length parts → AllWithin (λ p. is_early collection p ≡ false) parts at (length parts) → All (λ p. is_early collection p ≡ false) (drop at parts)
late_rest collection parts at le late k d l =
    let lt : at + k < length parts = omega (arith, l, length-drop at parts, le) in
    subst (λ p. is_early collection p ≡ false) (sym (get_or-drop at parts k d)) (late (at + k) d (omega arith) lt)

early_other : (collection other : List ℕ) → is_lt (text_order other collection) ≡ true → other ≢ collection
early_other collection other e same = go (subst (λ c. is_lt (text_order c collection) ≡ true) same e)
  where
    go : is_lt (text_order collection collection) ≡ true → ⊥
    go t = true≢false (sym t ∙ ap is_lt (tied_itself nat_list_cmp_total collection))

pub run_is : (collection : List ℕ) (parts : List Part) (at count : ℕ) → at ≤ length parts → count ≤ length (drop at parts)
    → AllWithin (λ p. is_early collection p ≡ true) parts 0 at
    → IsPartitionPoint (λ p. is_within collection p ≡ true) (λ p. is_within collection p ≡ false) (drop at parts) count
    → IsRunOf collection parts (take count (drop at parts))
run_is collection parts at count le le' early (inside, behind) = record {
  before = take at parts;
  after = drop count (drop at parts);
  whole = sym (ap (λ l. take at parts ++ l) (take-append-drop count (drop at parts)) ∙ take-append-drop at parts);
  others = λ k d low.
      let l : k < at = omega (arith, low, length-take-le at parts le) in
      subst (λ p. p.name.collection ≢ collection) (sym (get_or-take at parts k d l)) (early_other collection (get_or parts k d).name.collection (early k d (omega arith) l));
  of = λ k d low.
      let l : k < count = omega (arith, low, length-take-le count (drop at parts) le') in
      subst (λ p. p.name.collection ≡ collection) (sym (get_or-take count (drop at parts) k d l)) (same_text (get_or (drop at parts) k d).name.collection collection (inside k d (omega arith) l));
  behind = λ k d low.
      let l : count + k < length (drop at parts) = omega (arith, low, length-drop count (drop at parts), le') in
      subst (λ p. p.name.collection ≢ collection) (sym (get_or-drop count (drop at parts) k d)) (λ e. true≢false (sym (subst (λ c. bytes_eq c collection ≡ true) (sym e) (text_self collection)) ∙ behind (count + k) d (omega arith) l));
}

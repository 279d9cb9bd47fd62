-- What is answered for the numbers of a box is what the definition by cases gives.
use Rattle.std.proofs.Common.{rules, ◌≡◌, ℤ, ◌≤ℤ◌, ◌<ℤ◌, int_le, int_lt, List, [], ◌∷◌, Bool, true, false, cond, ◌&&◌, Option, Some, None, refl, sym, ◌⊎◌, inl, inr}
use Rattle.sc_decimal.specs.Number.{Number}
use Rattle.sc_geom.specs.declared.rects.Rects.{Rects}
use Rattle.sc_geom.specs.Place.{longitude_of, latitude_of}
use Rattle.sc_geom.specs.Rects.{sides_from, sides_of, Spans, AreRects, Answers, east_end, west_end}
use Rattle.sc_cqlvalue.specs.Boxes.{one_of, two_of, rects_spanned, rects_between, rects_of}

lt_untested : (a b : ℤ) → b ≤ℤ a → int_lt a b ≡ false
lt_untested a b le = search rules

le_untested : (a b : ℤ) → b <ℤ a → int_le a b ≡ false
le_untested a b lt = search rules

le_tested : (a b : ℤ) → a ≤ℤ b → int_le a b ≡ true
le_tested a b le = search rules

both_tested : (a b d e : ℤ) → a ≤ℤ b → d ≤ℤ e → (int_le a b && int_le d e) ≡ true
both_tested a b d e le le' = search rules

module _ (west south east north : ℤ) (rects : Rects) where
  pub spans_one : west ≤ℤ east → south ≤ℤ north → rects ≡ one_of west south east north → rects_spanned west south east north ≡ Some rects
  spans_one across up same = rw (lt_untested north south up, le_tested west east across, same) refl

  pub spans_two : east <ℤ west → south ≤ℤ north → west ≤ℤ east_end → west_end ≤ℤ east → rects ≡ two_of west south east north → rects_spanned west south east north ≡ Some rects
  spans_two crosses up west_in east_in same = rw (lt_untested north south up, le_untested west east crosses, both_tested west east_end west_end east west_in east_in, same) refl

-- ---- by the numbers on the grid

spans_are : (w s e n : Option ℤ) (sides : _) (rects : Rects) → sides_from w s e n ≡ Some sides → Spans sides rects → rects_between w s e n ≡ Some rects
spans_are None s e n sides rects is spans = cc
spans_are (Some west) None e n sides rects is spans = cc
spans_are (Some west) (Some south) None n sides rects is spans = cc
spans_are (Some west) (Some south) (Some east) None sides rects is spans = cc
spans_are (Some west) (Some south) (Some east) (Some north) sides rects is (inl one) =
    let w : sides.west ≡ west = cc in
    let s : sides.south ≡ south = cc in
    let e : sides.east ≡ east = cc in
    let n : sides.north ≡ north = cc in
    let across = rw (w, e) at one.across in
    let up = rw (s, n) at one.up in
    let same = rw (w, s, e, n) at one.same in
    spans_one west south east north rects across up same
spans_are (Some west) (Some south) (Some east) (Some north) sides rects is (inr two) =
    let w : sides.west ≡ west = cc in
    let s : sides.south ≡ south = cc in
    let e : sides.east ≡ east = cc in
    let n : sides.north ≡ north = cc in
    let crosses = rw (w, e) at two.crosses in
    let up = rw (s, n) at two.up in
    let west_in = rw w at two.west_in in
    let east_in = rw e at two.east_in in
    let same = rw (w, s, e, n) at two.same in
    spans_two west south east north rects crosses up west_in east_in same

known : (numbers : List Number) (sides : _) (rects : Rects) → sides_of numbers ≡ Some sides → Spans sides rects → rects_of numbers ≡ Some rects
unfolding sides_of rects_of
known [] sides rects is spans = cc
known (a ∷ []) sides rects is spans = cc
known (a ∷ b ∷ []) sides rects is spans = cc
known (a ∷ b ∷ c ∷ []) sides rects is spans = cc
known (a ∷ b ∷ c ∷ d ∷ []) sides rects is spans = spans_are (longitude_of a) (latitude_of b) (longitude_of c) (latitude_of d) sides rects is spans
known (a ∷ b ∷ c ∷ d ∷ e ∷ []) sides rects is spans = cc
known (a ∷ b ∷ c ∷ d ∷ e ∷ f ∷ []) sides rects is spans = spans_are (longitude_of a) (latitude_of b) (longitude_of d) (latitude_of e) sides rects is spans
known (a ∷ b ∷ c ∷ d ∷ e ∷ f ∷ g ∷ more) sides rects is spans = cc

-- ---- and what is given is spanned

le_test : (a b : ℤ) → int_le a b ≡ true → a ≤ℤ b
le_test a b test = search rules

lt_not : (a b : ℤ) → int_lt a b ≡ false → b ≤ℤ a
lt_not a b test = search rules

le_not : (a b : ℤ) → int_le a b ≡ false → b <ℤ a
le_not a b test = search rules

both_tests : (a b d e : ℤ) → (int_le a b && int_le d e) ≡ true → (a ≤ℤ b) × (d ≤ℤ e)
both_tests a b d e test = search rules

module _ (west south east north : ℤ) (rects : Rects) where
  abbrev One : Type 0
  One = (west ≤ℤ east) × (south ≤ℤ north) × (rects ≡ one_of west south east north)

  abbrev Two : Type 0
  Two = (east <ℤ west) × (south ≤ℤ north) × (west ≤ℤ east_end) × (west_end ≤ℤ east) × (rects ≡ two_of west south east north)

  chosen : (down across in_world : Bool) → int_lt north south ≡ down → int_le west east ≡ across → (int_le west east_end && int_le west_end east) ≡ in_world → cond down None (cond across (Some (one_of west south east north)) (cond in_world (Some (two_of west south east north)) None)) ≡ Some rects → One ⊎ Two
  chosen true across in_world d a i is = cc
  chosen false true in_world d a i is = inl (le_test west east a, lt_not north south d, cc)
  chosen false false true d a i is = let both = both_tests west east_end west_end east i in inr (le_not west east a, lt_not north south d, both.0, both.1, cc)
  chosen false false false d a i is = cc

  spanned_so : rects_spanned west south east north ≡ Some rects → One ⊎ Two
  spanned_so is = chosen (int_lt north south) (int_le west east) (int_le west east_end && int_le west_end east) refl refl refl is

abbrev AreFrom : Option ℤ → Option ℤ → Option ℤ → Option ℤ → Rects → Type 0
AreFrom w s e n rects = (sides : _) × (sides_from w s e n ≡ Some sides) × Spans sides rects

between_so : (w s e n : Option ℤ) (rects : Rects) → rects_between w s e n ≡ Some rects → AreFrom w s e n rects
between_so None s e n rects is = cc
between_so (Some west) None e n rects is = cc
between_so (Some west) (Some south) None n rects is = cc
between_so (Some west) (Some south) (Some east) None rects is = cc
between_so (Some west) (Some south) (Some east) (Some north) rects is =
    elim (spanned_so west south east north rects is) [
      | inl one ↦ (record { west = west; south = south; east = east; north = north }, refl, inl (record { across = one.0; up = one.1; same = one.2 }))
      | inr two ↦ (record { west = west; south = south; east = east; north = north }, refl, inr (record { crosses = two.0; up = two.1; west_in = two.2; east_in = two.3; same = two.4 }))
    ]

known_so : (numbers : List Number) (rects : Rects) → rects_of numbers ≡ Some rects → AreRects numbers rects
unfolding sides_of rects_of
known_so [] rects is = cc
known_so (a ∷ []) rects is = cc
known_so (a ∷ b ∷ []) rects is = cc
known_so (a ∷ b ∷ c ∷ []) rects is = cc
known_so (a ∷ b ∷ c ∷ d ∷ []) rects is = between_so (longitude_of a) (latitude_of b) (longitude_of c) (latitude_of d) rects is
known_so (a ∷ b ∷ c ∷ d ∷ e ∷ []) rects is = cc
known_so (a ∷ b ∷ c ∷ d ∷ e ∷ f ∷ []) rects is = between_so (longitude_of a) (latitude_of b) (longitude_of d) (latitude_of e) rects is
known_so (a ∷ b ∷ c ∷ d ∷ e ∷ f ∷ g ∷ more) rects is = cc

none_so : (numbers : List Number) (found : Option Rects) → rects_of numbers ≡ found → Answers numbers None → None ≡ rects_of numbers
none_so numbers None is refused = sym is
none_so numbers (Some rects) is refused = absurd (refused rects (known_so numbers rects is))

pub answered : (numbers : List Number) (found : Option Rects) → Answers numbers found → found ≡ rects_of numbers
answered numbers (Some rects) are = sym (known numbers are.0 rects are.1 are.2)
answered numbers None refused = none_so numbers (rects_of numbers) refl refused

answers_found : (numbers : List Number) (found : Option Rects) → rects_of numbers ≡ found → Answers numbers found
answers_found numbers (Some rects) is = known_so numbers rects is
answers_found numbers None is = λ rects are. let found : rects_of numbers ≡ Some rects = known numbers are.0 rects are.1 are.2 in cc

pub rects_answer : (numbers : List Number) → Answers numbers (rects_of numbers)
rects_answer numbers = answers_found numbers (rects_of numbers) refl

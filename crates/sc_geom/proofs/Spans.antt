-- Four or six numbers are sides, and the rectangles of the sides are those of the numbers.
use Rattle.std.proofs.Common.{◌≡◌, List, [], ◌∷◌, length, get_or, Option, Some, None, refl, subst, arith}
use Rattle.sc_decimal.specs.Number.{Number}
use Rattle.sc_geom.specs.declared.rects.Rects.{Rects}
use Rattle.sc_geom.specs.declared.rects.Sides.{Sides}
use Rattle.sc_geom.specs.Rects.{sides_between, sides_of, Spans, SpannedBy, Answers}

pub four_sides : (xs : List Number) (w s e n : Number) → length xs ≡ 4 → w ≡ get_or xs 0 w → s ≡ get_or xs 1 s → e ≡ get_or xs 2 e → n ≡ get_or xs 3 n → sides_of xs ≡ sides_between w s e n
unfolding sides_of
four_sides [] w s e n l a b c d = absurd (omega arith)
four_sides (x0 ∷ []) w s e n l a b c d = absurd (omega arith)
four_sides (x0 ∷ x1 ∷ []) w s e n l a b c d = absurd (omega arith)
four_sides (x0 ∷ x1 ∷ x2 ∷ []) w s e n l a b c d = absurd (omega arith)
four_sides (x0 ∷ x1 ∷ x2 ∷ x3 ∷ []) w s e n l a b c d = rw (a, b, c, d) refl
four_sides (x0 ∷ x1 ∷ x2 ∷ x3 ∷ x4 ∷ xs) w s e n l a b c d = absurd (omega arith)

pub six_sides : (xs : List Number) (w s e n : Number) → length xs ≡ 6 → w ≡ get_or xs 0 w → s ≡ get_or xs 1 s → e ≡ get_or xs 3 e → n ≡ get_or xs 4 n → sides_of xs ≡ sides_between w s e n
unfolding sides_of
six_sides [] w s e n l a b c d = absurd (omega arith)
six_sides (x0 ∷ []) w s e n l a b c d = absurd (omega arith)
six_sides (x0 ∷ x1 ∷ []) w s e n l a b c d = absurd (omega arith)
six_sides (x0 ∷ x1 ∷ x2 ∷ []) w s e n l a b c d = absurd (omega arith)
six_sides (x0 ∷ x1 ∷ x2 ∷ x3 ∷ []) w s e n l a b c d = absurd (omega arith)
six_sides (x0 ∷ x1 ∷ x2 ∷ x3 ∷ x4 ∷ []) w s e n l a b c d = absurd (omega arith)
six_sides (x0 ∷ x1 ∷ x2 ∷ x3 ∷ x4 ∷ x5 ∷ []) w s e n l a b c d = rw (a, b, c, d) refl
six_sides (x0 ∷ x1 ∷ x2 ∷ x3 ∷ x4 ∷ x5 ∷ x6 ∷ xs) w s e n l a b c d = absurd (omega arith)

pub no_sides : (xs : List Number) → (length xs ≡ 4 → ⊥) → (length xs ≡ 6 → ⊥) → sides_of xs ≡ None
unfolding sides_of
no_sides [] f s = refl
no_sides (x0 ∷ []) f s = refl
no_sides (x0 ∷ x1 ∷ []) f s = refl
no_sides (x0 ∷ x1 ∷ x2 ∷ []) f s = refl
no_sides (x0 ∷ x1 ∷ x2 ∷ x3 ∷ []) f s = absurd (f (omega arith))
no_sides (x0 ∷ x1 ∷ x2 ∷ x3 ∷ x4 ∷ []) f s = refl
no_sides (x0 ∷ x1 ∷ x2 ∷ x3 ∷ x4 ∷ x5 ∷ []) f s = absurd (s (omega arith))
no_sides (x0 ∷ x1 ∷ x2 ∷ x3 ∷ x4 ∷ x5 ∷ x6 ∷ xs) f s = refl

pub spanned : (o : Option Rects) (numbers : List Number) (s : Sides) → sides_of numbers ≡ Some s → SpannedBy s o → Answers numbers o
spanned None numbers s e h = λ rects are. let same : are.0 ≡ s = cc in h rects (subst (λ (x : Sides). Spans x rects) same are.2)
spanned (Some rects) numbers s e h = (s, e, h)

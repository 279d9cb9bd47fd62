-- The boxes that given numbers have.
use Rattle.std.proofs.Common.{◌≡◌, List, Option, Some, None, subst}
use Rattle.std.specs.Prelude.{MatchOption}
use Rattle.sc_decimal.specs.Number.{Number}
use Rattle.sc_geom.specs.declared.rects.Rects.{Rects}
use Rattle.sc_geom.specs.Rects as boxes
use Rattle.sc_query.specs.Given.{Parameter}
use Rattle.sc_query.specs.Space.{numbers_given, IsBbox}

same_numbers : (a b : List Number) → Some a ≡ Some b → a ≡ b
same_numbers a b e = cc

pub found : (given : Parameter) (numbers : List Number) (result : Option Rects) → numbers_given given ≡ Some numbers → boxes.Answers numbers result → MatchOption result ((rects : Rects) → IsBbox given rects → ⊥) (IsBbox given)
found given numbers None e h = λ rects box. h rects (subst (λ (ns : List Number). boxes.AreRects ns rects) (same_numbers box.numbers numbers (cc)) box.spanned)
found given numbers (Some rects) e h = record { numbers = numbers; are = e; spanned = h }

pub not_found : (given : Parameter) → numbers_given given ≡ None → (rects : Rects) → IsBbox given rects → ⊥
not_found given e rects box = let are = box.are in cc

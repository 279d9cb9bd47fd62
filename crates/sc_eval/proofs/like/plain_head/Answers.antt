use Rattle.std.proofs.Common.{◌∷◌, [], refl}
use Rattle.std.specs.Char.{char_set_contains}
use Rattle.std.proofs.lemmas.Str.{IsUtf8-take}
use Rattle.sc_eval.proofs.Places.{whole_is_head, front_is_head}
use Rattle.sc_eval.proofs.like.plain_head.Goals as goal

pub returns-in-None : goal.returns-in-None
returns-in-None c = whole_is_head _ c.utf8.pattern (c.in-None.ensures.cases (char_set_contains (37 ∷ 95 ∷ 92 ∷ [])) (λ d. refl))

pub returns-in-Some : goal.returns-in-Some
returns-in-Some c =
    let found = c.in-Some.ensures.cases in
    front_is_head _ _ c.in-Some.at (IsUtf8-take _ _ c.utf8.pattern found.3) c.split_at.ensures.front (found.1 (char_set_contains (37 ∷ 95 ∷ 92 ∷ [])) (λ d. refl)).0

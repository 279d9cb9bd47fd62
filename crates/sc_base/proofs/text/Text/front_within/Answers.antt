use Rattle.std.proofs.Common.{◌≡◌, ap, ◌∙◌, take, ◌-◌, arith}
use Rattle.sc_base.specs.Text.{front_within}
use Rattle.sc_base.proofs.Fronts.{front_is}
use Rattle.sc_base.proofs.text.Text.front_within.Goals as goal

pub returns : goal.returns
returns c =
    let all : c.floor_char_boundary.result - 0 ≡ c.floor_char_boundary.result = omega arith in
    c.range.ensures.value
    ∙ ap (λ k. take k c.as_str-text.result.now) all
    ∙ front_is c.as_str-text.result.now c.args.most c.floor_char_boundary.result c.as_str-text.utf8 c.floor_char_boundary.ensures.bound c.floor_char_boundary.ensures.boundary c.floor_char_boundary.ensures.nearest
    ∙ ap (front_within c.args.most) c.as_str-text.ensures

use Rattle.std.proofs.Common.{ap, ◌∙◌, Some, arith, pos}
use Rattle.std.specs.Int.{w128}
use Rattle.std.proofs.lemmas.Int.{to_z_pos}
use Rattle.sc_token.proofs.Decimals.{parsed_size, parsed_none}
use Rattle.sc_token.proofs.moment.size_of.Goals as goal

pub returns-in-Ok-clause-size : goal.returns-in-Ok-clause-size
returns-in-Ok-clause-size c n small e =
    let same = parsed_size n c.in-Ok.size c.args.digits.now c.parse.result small e c.parse.ensures.value.0 c.in-Ok.is in
    ap Some (to_z_pos w128 c.in-Ok.size (omega (arith, same, small)) ∙ ap pos same)

pub returns-in_default-clause-size : goal.returns-in_default-clause-size
returns-in_default-clause-size c n small e =
    let same = parsed_size n c.in-Ok.size c.args.digits.now c.parse.result small e c.parse.ensures.value.0 c.in-Ok.is in
    let large = c.if-size-le-MOST.false in
    absurd (omega (arith, same, small, large))

pub returns-in_default-2-clause-size : goal.returns-in_default-2-clause-size
returns-in_default-2-clause-size c n small e = absurd (parsed_none n c.args.digits.now c.parse.result c.in_default.field-0 small e c.parse.ensures.value.0 c.in_default.is)

use Rattle.std.proofs.Common.{◌∙◌, ap, sym, take, get_or}
use Rattle.std.proofs.lemmas.List.{take_more}
use Rattle.std.specs.Option.{option_and_then}
use Rattle.sc_json.specs.Numbers.{next_part, parts_on}
use Rattle.sc_json.proofs.RunsOn.{parts_on-push}
use Rattle.sc_json.proofs.runs.number_len.Goals as goal

pub loop-i-preserved : goal.loop-i-preserved
loop-i-preserved c =
    let bs = c.args.bytes.now in let i = c.loop-i.i in
    ap (parts_on c.args.part) (take_more bs i 0 c.loop-i-test.true) ∙ parts_on-push c.args.part (take i bs) (get_or bs i 0)
    ∙ ap (option_and_then (λ p. next_part p (get_or bs i 0))) c.loop-i.invariant ∙ (sym c.part_on.ensures ∙ c.in-Some.is)

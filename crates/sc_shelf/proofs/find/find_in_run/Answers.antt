use Rattle.std.proofs.Common.{ap, ◌∙◌}
use Rattle.std.specs.Prelude.{find}
use Rattle.std.specs.Str.{bytes_eq}
use Rattle.std.specs.Arc.{arc_value}
use Rattle.sc_shelf.proofs.Finding.{part_has, part_lacks}
use Rattle.sc_shelf.proofs.find.find_in_run.Goals as goal

pub returns-in-Some : goal.returns-in-Some
returns-in-Some c =
    let p = c.part-item.result in
    part_has c.args.collection.now c.args.id.now c.args.run.now c.loop-part.part-index p c.loop-part-test.true c.part-item.is c.requires.own c.requires.of c.loop-part.invariant (arc_value c.in-Some.item.now)
    (c.in-Some.ensures ∙ ap (λ v. find (λ other. bytes_eq other.id c.args.id.now) v.items) c.version.ensures.version)

pub loop-part-preserved : goal.loop-part-preserved
loop-part-preserved c =
    let p = c.part-item.result in
    part_lacks c.args.collection.now c.args.id.now c.args.run.now c.loop-part.part-index p c.loop-part-test.true c.part-item.is c.requires.own c.requires.of c.loop-part.invariant
    (c.in_default.ensures ∙ ap (λ v. find (λ other. bytes_eq other.id c.args.id.now) v.items) c.version.ensures.version)

use Rattle.std.proofs.Common.{◌∙◌, length, rules, sym}
use Rattle.sc_part.specs.Entry.{ids_of}
use Rattle.sc_part.proofs.Changing.{count_is}
use Rattle.sc_part.proofs.Indexing.{mark_step, marks_begin}
use Rattle.sc_part.proofs.index.marks_of.Goals as goal

pub loop-id-init : goal.loop-id-init
loop-id-init c = c.in_ok-marks.ensures.items_if_clones_equal (λ y h. search rules) ∙ marks_begin (ids_of c.args.items.now) (length c.args.items.now) (sym (count_is c.args.items.now))

pub loop-id-preserved : goal.loop-id-preserved
loop-id-preserved c =
    let said = rw c.as_str.ensures at c.place_of.ensures in
    c.set_mark.ensures
    ∙ mark_step c.args.gone.now c.loop-id.id-index c.id-item.result (ids_of c.args.items.now) c.loop-id.marks.items c.place_of.result c.loop-id-test.true c.id-item.is c.requires.distinct (length c.args.items.now) (count_is c.args.items.now) said c.loop-id.invariant

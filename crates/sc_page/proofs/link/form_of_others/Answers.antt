use Rattle.std.proofs.Common.{sym, ◌∙◌}
use Rattle.sc_page.proofs.Pairs.{form_more, form_same}
use Rattle.sc_page.proofs.link.form_of_others.Goals as goal
use Rattle.sc_page.proofs.link.form_of_others.Goals.{then-is_other_pair+in_ok-append_pair, else-is_other_pair}

pub loop-pair-preserved : goal.loop-pair-preserved
loop-pair-preserved c =
    let pairs = c.args.pairs.now in
    let i = c.loop-pair.pair-index in
    let p = c.pair-item.result in
    let lt = c.loop-pair-test.true in
    let here = c.pair-item.is in
    elim c.if-is_other_pair.branch [
      | then-is_other_pair+in_ok-append_pair w ↦
          rw w.form-is
          (form_more c.loop-pair.form _ pairs i p _ _ lt here (sym c.is_other_pair.ensures ∙ w.if-is_other_pair.true) c.loop-pair.invariant w.as_str.ensures w.as_str-then-is_other_pair.ensures w.in_ok-append_pair.ensures.ok)
      | else-is_other_pair w ↦ rw w.form-is (form_same c.loop-pair.form pairs i p lt here (sym c.is_other_pair.ensures ∙ w.if-is_other_pair.false) c.loop-pair.invariant)
    ]

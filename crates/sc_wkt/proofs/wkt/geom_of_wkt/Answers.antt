use Rattle.std.proofs.Common.{sym, ◌∙◌}
use Rattle.sc_wkt.proofs.Finishing.{memory_alone}
use Rattle.sc_wkt.proofs.wkt.geom_of_wkt.Goals as goal

pub finish-requires : goal.finish-requires
finish-requires c =
    let reading = c.in_ok-drawing.ensures in
    let end = rw c.in-Whole.is at reading.end_is in (
      end.0,
      end.2,
      memory_alone _ _ reading.tokens c.in-Whole.to end.0 c.args.most end.1 (sym reading.wide_is ∙ c.in_default.is) (sym (c.if-is_bad.ensures end.0 end.2)),
    )

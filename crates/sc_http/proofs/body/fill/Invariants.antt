use Rattle.std.proofs.Common.{◌≡◌, true, ◌-◌, ◌≤◌, ◌^◌, length}
use Rattle.sc_http.specs.Intake.{Takes}
use Rattle.sc_http.proofs.body.fill.Given as goal

abbrev pub invariant-filling : goal.invariant-filling
invariant-filling g l = record {
  takes : Takes l.fn.body.items l.body.items l.fn.total l.total (g.S.Source.left l.fn.source) (g.S.Source.left l.source);
  most : length l.body.items ≤ l.len;
  limit : l.total ≤ 2 ^ 40;
  open_still : g.S.Source.ended l.source ≡ true → g.S.Source.ended l.fn.source ≡ true;
  later : g.S.Source.faults l.fn.source ≤ g.S.Source.faults l.source;
}

abbrev pub decreases-filling : goal.decreases-filling
decreases-filling g l = l.len - length l.body.items

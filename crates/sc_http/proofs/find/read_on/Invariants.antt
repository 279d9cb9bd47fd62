use Rattle.std.proofs.Common.{◌≡◌, true, ◌+◌, ◌-◌, ◌≤◌, ◌^◌, length, drop}
use Rattle.sc_http.specs.Intake.{IsUnfinishedHead, Reads}
use Rattle.sc_http.specs.Reading.{IsMeasured}
use Rattle.sc_http.proofs.find.read_on.Given as goal

abbrev pub invariant-finding : goal.invariant-finding
invariant-finding g l = record {
  reads : Reads (drop l.at l.fn.held.items) (drop l.at l.held.items) l.fn.total l.total (g.S.Source.left l.fn.source) (g.S.Source.left l.source);
  within : l.at ≤ length l.held.items;
  limit : l.total ≤ 2 ^ 40;
  measured : IsMeasured l.lines (drop l.at l.held.items);
  none : IsUnfinishedHead (drop l.at l.held.items);
  open_still : g.S.Source.ended l.source ≡ true → g.S.Source.ended l.fn.source ≡ true;
  later : g.S.Source.faults l.fn.source ≤ g.S.Source.faults l.source;
}

abbrev pub decreases-finding : goal.decreases-finding
decreases-finding g l = l.at + 65536 - length l.held.items

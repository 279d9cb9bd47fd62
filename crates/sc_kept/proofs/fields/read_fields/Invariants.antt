use Rattle.std.proofs.Common.{length}
use Rattle.sc_kept.proofs.Splitting.{AreRead}
use Rattle.sc_kept.proofs.fields.read_fields.Given as goal

abbrev pub invariant-fields : goal.invariant-fields
invariant-fields l = AreRead l.bytes l.fields.items l.rest

abbrev pub decreases-fields : goal.decreases-fields
decreases-fields l = length l.rest

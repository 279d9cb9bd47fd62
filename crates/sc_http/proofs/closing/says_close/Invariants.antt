use Rattle.std.proofs.Common.{◌≡◌, length}
use Rattle.std.specs.List.{list_any}
use Rattle.sc_base.specs.Parts.{parts_between}
use Rattle.sc_http.specs.Headers.{is_close}
use Rattle.sc_http.proofs.closing.says_close.Given as goal

abbrev pub invariant-members : goal.invariant-members
invariant-members l = list_any is_close (parts_between 44 l.left) ≡ list_any is_close (parts_between 44 l.value)

abbrev pub decreases-members : goal.decreases-members
decreases-members l = length l.left

use Rattle.std.proofs.Common.{◌≡◌, length}
use Rattle.std.specs.List.{list_any}
use Rattle.sc_http.specs.Headers.{values_of, connection_name, says_close}
use Rattle.sc_http.proofs.closing.asks_to_close.Given as goal

abbrev pub invariant-lines : goal.invariant-lines
invariant-lines l = list_any says_close (values_of connection_name l.rest) ≡ list_any says_close (values_of connection_name l.headers)

abbrev pub decreases-lines : goal.decreases-lines
decreases-lines l = length l.rest

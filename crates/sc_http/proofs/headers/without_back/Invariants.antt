use Rattle.std.proofs.Common.{◌≡◌, length}
use Rattle.std.specs.Prelude.{reverse}
use Rattle.httparse.specs.Grammar.{skip_ows}
use Rattle.sc_http.proofs.headers.without_back.Given as goal

abbrev pub invariant-skipping : goal.invariant-skipping
invariant-skipping l = skip_ows (reverse l.rest) ≡ skip_ows (reverse l.bytes)

abbrev pub decreases-skipping : goal.decreases-skipping
decreases-skipping l = length l.rest

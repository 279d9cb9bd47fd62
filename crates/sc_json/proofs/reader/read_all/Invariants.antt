use Rattle.std.proofs.Common.{◌≡◌, ◌≤◌, ◌-◌, drop, length}
use Rattle.sc_json.specs.Machine.{read_from, read_of}
use Rattle.sc_json.proofs.reader.read_all.Given as goal

-- what is left goes on as all of it
abbrev pub invariant-reading : goal.invariant-reading
invariant-reading l = record {
  within : l.at ≤ length l.bytes;
  same : read_from (drop l.at l.bytes) l.at l.state ≡ read_of l.bytes;
}

abbrev pub decreases-reading : goal.decreases-reading
decreases-reading l = length l.bytes - l.at

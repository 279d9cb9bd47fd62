-- What a source and a sink in memory tell.
use Rattle.std.specs.Prelude.{ℕ, Bool, List, drop}
use Rattle.sc_outside.specs.declared.memory.MemSource.{MemSource}
use Rattle.sc_outside.specs.declared.memory.MemSink.{MemSink}

-- the bytes that are left
abbrev pub source_left : MemSource → List ℕ
source_left m = drop m.at m.bytes

-- the numbers of the calls that fail
abbrev pub source_failing : MemSource → List ℕ
source_failing m = m.failing

-- the number of the next call
abbrev pub source_calls : MemSource → ℕ
source_calls m = m.calls

abbrev pub source_faults : MemSource → ℕ
source_faults m = m.faults

abbrev pub source_ended : MemSource → Bool
source_ended m = m.ended

-- the bytes that were written
abbrev pub sink_bytes : MemSink → List ℕ
sink_bytes m = m.bytes.items

-- how many bytes it takes in all
abbrev pub sink_room : MemSink → ℕ
sink_room m = m.room

-- the numbers of the calls that fail
abbrev pub sink_failing : MemSink → List ℕ
sink_failing m = m.failing

-- the number of the next call
abbrev pub sink_calls : MemSink → ℕ
sink_calls m = m.calls

abbrev pub sink_faults : MemSink → ℕ
sink_faults m = m.faults

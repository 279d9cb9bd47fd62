-- What a listener in memory tells.
use Rattle.std.specs.Prelude.{ℕ, List}
use Rattle.sc_outside.specs.declared.memory.MemSource.{MemSource}
use Rattle.sc_outside.specs.declared.memory.MemSink.{MemSink}
use Rattle.sc_outside.specs.declared.mem_listen.MemListen.{MemListen}

-- the connections that are left, in order
abbrev pub connections_left : MemListen → List (MemSource × MemSink)
connections_left l = l.left.items

-- the connections that were handed back, in order
abbrev pub connections_back : MemListen → List (MemSource × MemSink)
connections_back l = l.handed_back.items

-- how many were handed out
abbrev pub connections_out : MemListen → ℕ
connections_out l = l.handed_out

-- the numbers of the calls that fail
abbrev pub listen_failing : MemListen → List ℕ
listen_failing l = l.failing

-- the number of the next call
abbrev pub listen_calls : MemListen → ℕ
listen_calls l = l.calls

abbrev pub listen_faults : MemListen → ℕ
listen_faults l = l.faults

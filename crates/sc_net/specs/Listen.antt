-- What a TCP listener tells.
use Rattle.std.specs.Prelude.{ℕ}
use Rattle.sc_net.specs.declared.listen.TcpListen.{TcpListen}

abbrev pub tcp_faults : TcpListen → ℕ
tcp_faults l = l.faults

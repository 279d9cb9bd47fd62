-- What the status of a connection says of the faults of its source and its sink.
use Rattle.std.proofs.Common.{◌≡◌, ℕ, List, [], refl, arith, ⊎_elim}
use Rattle.std.proofs.lemmas.List.Elements.{All-nil}
use Rattle.sc_outside.specs.Causes.{Rose}
use Rattle.sc_catalog.specs.declared.entry.Entry.{Entry}
use Rattle.sc_visit.specs.Visits.{Visitor}
use Rattle.sc_session.specs.declared.ending.ConnEnd.{ConnEnd}
use Rattle.sc_session.specs.declared.ending.ConnEnd.TheVariants as Conn
use Rattle.sc_session.specs.Session.{Place, Session}
use Rattle.sc_serve.specs.Service.{api}
use Rattle.sc_serve.specs.Desks.{IsAlone}
use Rattle.stacd.specs.Program.{Input, Output, RanPipe, status_of_connection}

-- a pass that is alone, at a desk with this number
abbrev pub lone : Visitor Entry
lone = record {
  desk = record { words = 0; slots = 0; views_name = 0; atom = 0; block = 0; offset = 0; slot_names = [] };
  number = 1;
  start = 0;
  seen = [];
  visits = [];
}

alone : IsAlone [] lone
alone = record { number_is = refl; seen_is = refl; own = All-nil (λ entry. entry.by ≡ 1) }

module _ (base : List ℕ) (old new : Place Entry) where
  read_failed : (end : ConnEnd) → Session (api base) old new end → status_of_connection end ≡ 4 → Rose old.faults new.faults
  read_failed Conn.Ended s e = absurd (omega (arith, e))
  read_failed (Conn.Cut n) s e = absurd (omega (arith, e))
  read_failed (Conn.BadHead fault) s e = absurd (omega (arith, e))
  read_failed (Conn.BadLength fault) s e = absurd (omega (arith, e))
  read_failed Conn.Spent s e = absurd (omega (arith, e))
  read_failed Conn.ReadFault s e = s.ends.cause.1
  read_failed Conn.WriteFault s e = absurd (omega (arith, e))
  read_failed Conn.OutOfMemory s e = absurd (omega (arith, e))

  write_failed : (end : ConnEnd) → Session (api base) old new end → status_of_connection end ≡ 5 → Rose old.write_faults new.write_faults
  write_failed Conn.Ended s e = absurd (omega (arith, e))
  write_failed (Conn.Cut n) s e = absurd (omega (arith, e))
  write_failed (Conn.BadHead fault) s e = absurd (omega (arith, e))
  write_failed (Conn.BadLength fault) s e = absurd (omega (arith, e))
  write_failed Conn.Spent s e = absurd (omega (arith, e))
  write_failed Conn.ReadFault s e = absurd (omega (arith, e))
  write_failed Conn.WriteFault s e = ⊎_elim (λ x. x.cuts.0) (λ x. x.cuts.0) s.ends
  write_failed Conn.OutOfMemory s e = absurd (omega (arith, e))

-- the input failed where the status is 4, and the output where it is 5
module _ (base : List ℕ) (end : ConnEnd) (input input' : Input) (output output' : Output) (ran : RanPipe base end input input' output output') where
  pub input_failed : status_of_connection end ≡ 4 → Rose input.faults input'.faults
  input_failed e = read_failed base _ _ end (ran lone alone).2 e

  pub output_failed : status_of_connection end ≡ 5 → Rose output.faults output'.faults
  output_failed e = write_failed base _ _ end (ran lone alone).2 e

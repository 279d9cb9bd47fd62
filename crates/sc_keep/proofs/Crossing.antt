-- A kept catalogue, and a pass of its desk, may go to another thread where the disk may.
use denote.Ref.{NamedLft}
use denote.RattleType.{RattleType}
use denote.Param.Send.{IsSend, sendable}
use Rattle.std.proofs.Crossing.{crosses}
use Rattle.sc_catalog.proofs.Crossing.{catalogue_send}
use Rattle.sc_journal.proofs.journal.Journal.TheSendSync as the_journal
use Rattle.sc_journal.proofs.sealed.Sealed.TheSendSync as the_sealed
use Rattle.sc_journal.specs.declared.disk.Disk.{Ghosts}
use Rattle.sc_turn.proofs.pass.Pass.TheSendSync as the_pass
use Rattle.sc_kept.specs.contracts.kept.Kept as kept
use Rattle.sc_keep.specs.contracts.pass.KeptPass as pass

module _ (D : RattleType) (g : Ghosts D.Denot) where
  pub catalogue_kept_send : IsSend D → IsSend (kept.the_row D g)
  catalogue_kept_send disk = search (catalogue_send, the_journal.the_field_send, the_sealed.the_send, sendable, crosses) depth 20 fits 6000

  pub kept_send : (l : NamedLft) → IsSend D → IsSend (pass.the_row l D g)
  kept_send l disk = let held = catalogue_kept_send disk in search (the_pass.the_field_send, sendable, crosses) depth 20 fits 6000

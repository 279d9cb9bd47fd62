-- What a step of a pen writes. No public clause cites it.
use Rattle.std.specs.Prelude.{◌≡◌, ℕ, List, [], ◌∷◌, ◌++◌}
use mathlib.Core.Option.{some}
use Rattle.std.specs.declared.snapshot.Snapshot.{Snapshot}
use Rattle.atomic_table.specs.Table.{Me, Step}
use Rattle.atomic_table.specs.Seated.{TableId}
use Rattle.sc_notice.specs.declared.notice.Notice.{Notice}
use Rattle.sc_notice.specs.declared.notice.Call.{Call}
use Rattle.sc_notice.specs.declared.record.Record.{Record}

-- the call that is made of the notice said
abbrev pub wrote : (Notice → Call) → Step (Snapshot Notice) → Me (Snapshot Notice) (List Call) → ℕ → Me (Snapshot Notice) (List Call) → Type 0
wrote call st me found after = (said : Snapshot Notice) → st.said ≡ some said → after ≡ (me.0 ++ call said.value ∷ [], me.1)

abbrev pub record_id : Record → TableId
record_id r = r.table.shared.table_id

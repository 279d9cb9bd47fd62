-- What contracts see of a worker.
use Rattle.std.specs.Prelude.{◌≡◌, ◌<◌, ℕ, List, length, slice_index_or, replicate}
use Rattle.sc_turn.specs.{TableId}
use Rattle.sc_turn.specs.Passes.{pass_desk, pass_number, card_desk, card_number, card_seen}
use Rattle.sc_turn.specs.declared.booked.Booked.{Ghosts}
use Rattle.sc_turn.specs.declared.pass.Card.{Card}
use Rattle.bench_turn.specs.Numbers.{own}
use Rattle.bench_turn.specs.declared.numbers.Numbers.{Numbers}
use Rattle.bench_turn.specs.declared.worker.Worker.{Worker}

abbrev pub worker_desk : Worker → TableId
worker_desk w = pass_desk w.pass

abbrev pub worker_number : Worker → ℕ
worker_number w = pass_number w.pass

-- each worker is of its desk and has its number, as before
abbrev pub SameWorkers : List Worker → List Worker → Type 0
SameWorkers old new = (i : ℕ) (d : Worker) → i < length old
    → (worker_desk (slice_index_or new i d) ≡ worker_desk (slice_index_or old i d)) × (worker_number (slice_index_or new i d) ≡ worker_number (slice_index_or old i d))

-- the card of this worker, whose own entries are as many as it has added
pub record IsCardOf {g : Ghosts Numbers (ℕ × ℕ)} (w : Worker) (c : Card Numbers (ℕ × ℕ) g) : Type 0 where
  pub of : card_desk c ≡ worker_desk w
  pub numbered : card_number c ≡ worker_number w
  pub own_entries : own (card_number c) (card_seen c) ≡ replicate w.done (card_number c, 1)

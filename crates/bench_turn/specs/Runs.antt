-- What contracts see of a run.
use Rattle.std.specs.Prelude.{◌≡◌, ℕ, ◌+◌, ◌<◌, ◌≤◌, List, length, slice_index_or, replicate, All}
use Rattle.sc_turn.specs.{TableId}
use Rattle.sc_turn.specs.declared.booked.Booked.{Ghosts}
use Rattle.sc_turn.specs.declared.pass.Card.{Card}
use Rattle.bench_turn.specs.declared.numbers.Numbers.{Numbers}
use Rattle.bench_turn.specs.declared.worker.Worker.{Worker}
use Rattle.bench_turn.specs.Numbers.{own}
use Rattle.bench_turn.specs.Workers.{worker_desk, worker_number, IsCardOf}

-- the workers of a desk, numbered from 1
pub record AreBound (desk : TableId) (n : ℕ) (workers : List Worker) : Type 0 where
  pub count : length workers ≡ n
  pub each : (k : ℕ) (d : Worker) → k < n → (worker_desk (slice_index_or workers k d) ≡ desk) × (worker_number (slice_index_or workers k d) ≡ k + 1)

-- the cards of these workers, in order
pub record AreBack {g : Ghosts Numbers (ℕ × ℕ)} (workers : List Worker) (cards : List (Card Numbers (ℕ × ℕ) g)) : Type 0 where
  pub count : length cards ≡ length workers
  pub each : (k : ℕ) (w : Worker) (c : Card Numbers (ℕ × ℕ) g) → k < length workers → IsCardOf (slice_index_or workers k w) (slice_index_or cards k c)

-- each of n workers has added 1 some times, and there are no other entries
pub record HasRun (n : ℕ) (entries : List (ℕ × ℕ)) : Type 0 where
  pub each : (k : ℕ) → 1 ≤ k → k ≤ n → (d : ℕ) × (own k entries ≡ replicate d (k, 1))
  pub numbered : All (λ e. (1 ≤ e.0) × (e.0 ≤ n)) entries

-- What contracts see of a list of numbers.
use Rattle.std.specs.Prelude.{ℕ, List, ◌==◌, filter}
use Rattle.bench_turn.specs.declared.numbers.Numbers.{Numbers}

abbrev pub entries_of : Numbers → List (ℕ × ℕ)
entries_of n = n.entries

-- the entries with one number
abbrev pub own : ℕ → List (ℕ × ℕ) → List (ℕ × ℕ)
own n xs = filter (λ e. e.0 == n) xs

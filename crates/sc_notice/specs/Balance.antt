-- The rule of the queue: what was told is what was heard and what the queue holds, however notices are weighed.
use Rattle.std.specs.Prelude.{◌≡◌, ℕ, ◌+◌, List, []}
use Rattle.std.specs.List.{sum_by}
use mathlib.Core.Option.{some}
use lib.ListN.{get_elem?}
use Rattle.sc_notice.specs.declared.protocol.Hand.{Hand}
use Rattle.sc_notice.specs.declared.notice.Notice.{Notice}

abbrev pub hand : ℕ → List Notice → List Notice → Hand
hand shares told heard = record { shares = shares; told = told; heard = heard }

-- who has no share has told and heard nothing
abbrev pub IdleIsEmpty : List Hand → Type 0
IdleIsEmpty views = (port : ℕ) (v : Hand) → get_elem? views port ≡ some v → v.shares ≡ 0 → (v.told ≡ []) × (v.heard ≡ [])

abbrev pub Balanced : List Notice → List Hand → Type 0
Balanced items views = (sum_by (λ v. v.shares) views ≡ 1_024)
    × ((weight : Notice → ℕ) → sum_by (λ v. sum_by weight v.told) views ≡ sum_by (λ v. sum_by weight v.heard) views + sum_by weight items) × IdleIsEmpty views

-- who has all shares knows that the queue holds what it has told and not heard
abbrev pub KnowsAll : Hand → List Notice → Type 0
KnowsAll v items = v.shares ≡ 1_024 → (weight : Notice → ℕ) → sum_by weight v.told ≡ sum_by weight v.heard + sum_by weight items

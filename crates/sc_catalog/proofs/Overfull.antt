-- The faults by the limits, and that none holds.
use Rattle.std.proofs.Common.{◌≡◌, ◌≤◌, ◌<◌, ◌+◌, ◌-◌, ◌^◌, ◌⊎◌, inl, inr, ℕ, min, List, length, ◌∙◌, subst, arith}
use Rattle.sc_item.specs.Feature.{Feature}
use Rattle.sc_load.specs.declared.load.Load.{Load}
use Rattle.sc_history.specs.Changes.{Change}
use Rattle.sc_history.specs.History.{replay}
use Rattle.sc_history.specs.Refusals.{HasRoom, IsAllowed, OverfillsHistory, bytes_with, entries_with, told}
use Rattle.sc_catalog.specs.Answers.{IsOverfull}

counted : (x : ℕ) → x ≤ 1_000_001 → x ≡ told x
counted x le = omega (arith, le)

more_bytes : (x : ℕ) → 2 ^ 29 < told x → 2 ^ 29 < x
more_bytes x lt = omega (arith, lt)

few_bytes : (x : ℕ) → told x ≤ 2 ^ 29 → x ≤ 2 ^ 29
few_bytes x le = omega (arith, le)

pub overfills : (past : List Change) (load : Load) (come : List Feature) (entries bytes told_entries told_bytes : ℕ) → IsAllowed (replay past) (record { load = load; come = come }) → length past ≤ 1_000_000
    → entries ≡ length past + 1 → bytes ≡ told (bytes_with past load) → IsOverfull entries bytes told_entries told_bytes → OverfillsHistory past load told_entries told_bytes
overfills past load come entries bytes told_entries told_bytes t few e b is = record {
  come = come;
  allowed = t;
  full = go is.full;
  entries_are = is.entries_are ∙ (e ∙ counted (entries_with past load) (omega (arith, few)));
  bytes_are = is.bytes_are ∙ b;
}
  where
    go : ((1_000_000 < entries) ⊎ (2 ^ 29 < bytes)) → (1_000_000 < entries_with past load) ⊎ (2 ^ 29 < bytes_with past load)
    go (inl lt) = inl (subst (λ n. 1_000_000 < n) e lt)
    go (inr lt) = inr (more_bytes (bytes_with past load) (subst (λ n. 2 ^ 29 < n) b lt))

pub has_room : (past : List Change) (load : Load) (entries bytes : ℕ) → entries ≡ length past + 1 → bytes ≡ told (bytes_with past load) → entries ≤ 1_000_000 → bytes ≤ 2 ^ 29 → HasRoom past load
has_room past load entries bytes e b few small = record {
  entries = subst (λ n. n ≤ 1_000_000) e few;
  bytes = few_bytes (bytes_with past load) (subst (λ n. n ≤ 2 ^ 29) b small);
}

-- with the bytes of the load
pub bytes_more : (before size bytes : ℕ) → before ≤ 2 ^ 29 → bytes ≡ min (before + min size (2 ^ 64 - 1)) (2 ^ 64 - 1) → bytes ≡ told (before + size)
bytes_more before size bytes le e = e ∙ omega (arith, le)

-- within the limit the number of bytes is exact
pub exact_bytes : (bytes whole : ℕ) → bytes ≡ told whole → bytes ≤ 2 ^ 29 → bytes ≡ whole
exact_bytes bytes whole e le = omega (arith, le, e)

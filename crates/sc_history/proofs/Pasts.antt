-- Histories of accepted loads: their contents, and what stood at an earlier revision.
use Rattle.std.proofs.Common.{◌≡◌, ℕ, ◌+◌, ◌≤◌, Bool, true, false, cond, nat_lt, List, [], ◌∷◌, ◌++◌, length, refl, ◌∙◌, arith, le-ltb, lt-ltb, length-append}
use Rattle.sc_history.specs.Content.{IsContent}
use Rattle.sc_history.specs.Changes.{Change}
use Rattle.sc_history.specs.History.{replay, back}
use Rattle.sc_history.specs.Refusals.{IsAllowed}
use Rattle.sc_history.specs.Taken.{IsPast}
use Rattle.sc_history.proofs.Contents.{content_after, content_nothing}
use Rattle.sc_history.proofs.Standing.{Next, next}

pub past_content : (past : List Change) → IsPast past → IsContent (replay past)
unfolding replay
past_content [] is = content_nothing
past_content (change ∷ past) is = content_after (replay past) change is.0.allowed (past_content past is.1)

pub past_next : (past : List Change) (change : Change) → IsPast past → IsAllowed (replay past) change → Next past change
past_next past change is allowed = next past change (past_content past is) allowed

-- ---- the changes up to a revision

pub back_less : (past : List Change) (change : Change) (revision : ℕ) → revision ≤ length past → back revision (change ∷ past) ≡ back revision past
unfolding back
back_less past change revision le = rw (lt-ltb revision (length past + 1) (omega (arith, le))) refl

pub back_whole : (past : List Change) (revision : ℕ) → length past ≤ revision → back revision past ≡ past
unfolding back
back_whole [] revision le = refl
back_whole (change ∷ past) revision le = rw (le-ltb revision (length past + 1) (omega (arith, le))) refl

pub back_past : (past : List Change) (revision : ℕ) → IsPast past → IsPast (back revision past)
unfolding back
back_past [] revision is = tt
back_past (change ∷ past) revision is = go (nat_lt revision (length past + 1)) (back_past past revision is.1)
  where
    go : (b : Bool) → IsPast (back revision past) → IsPast (cond b (back revision past) (change ∷ past))
    go true more = more
    go false more = is

-- what was told up to a revision stays as the history grows
pub back_grown : (newer past : List Change) (revision : ℕ) → revision ≤ length past → back revision (newer ++ past) ≡ back revision past
back_grown [] past revision le = refl
back_grown (change ∷ newer) past revision le =
    let longer : revision ≤ length (newer ++ past) = omega (arith, le, length-append newer past) in
    back_less (newer ++ past) change revision longer ∙ back_grown newer past revision le

pub longer : (newer past : List Change) (revision : ℕ) → revision ≤ length past → revision ≤ length (newer ++ past)
longer newer past revision le = omega (arith, le, length-append newer past)

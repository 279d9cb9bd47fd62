-- What a crash may leave of a disk in memory: what it had at its last sync, torn by each write since.
use Rattle.std.specs.Prelude.{◌≡◌, ◌⊎◌, ℕ, suc, ◌+◌, ◌≤◌, List, [], ◌∷◌, length}
use Rattle.std.proofs.Common.{inl, inr, ⊎_elim, refl}
use Rattle.std.proofs.lemmas.List.{take_min}
use Rattle.std.proofs.Math.Nat.{le_refl, le-max_left, not-suc-le_self}
use Rattle.sc_journal.specs.Disk.{Torn, TornFrom, Within, Same}

-- what changed a disk
pub data Change : Type 0 where
  -- so many bytes were to be written at a place, over these bytes of the whole disk
  Write : (at size : ℕ) (before : List ℕ) → Change
  -- what was written before is stored
  Synced : Change

-- how many syncs there were; the newest change stands first
abbrev pub syncs : List Change → ℕ
syncs [] = 0
syncs (Write at size before ∷ earlier) = syncs earlier
syncs (Synced ∷ earlier) = suc (syncs earlier)

-- what a crash now may leave where the disk has these bytes: them, or what was before the last write, torn by it
abbrev pub MayBeLeft : List Change → List ℕ → List ℕ → Type 0
MayBeLeft [] bytes file = file ≡ bytes
MayBeLeft (Write at size before ∷ earlier) bytes file = (file ≡ bytes) ⊎ TornFrom at size (MayBeLeft earlier before) file
MayBeLeft (Synced ∷ earlier) bytes file = file ≡ bytes

-- what a crash may have left after some change since so many syncs were done
abbrev pub LeftSince : List Change → List ℕ → ℕ → List ℕ → Type 0
LeftSince [] bytes t file = file ≡ bytes
LeftSince (Write at size before ∷ earlier) bytes t file = MayBeLeft (Write at size before ∷ earlier) bytes file ⊎ ((t ≤ syncs earlier) × LeftSince earlier before t file)
LeftSince (Synced ∷ earlier) bytes t file = (file ≡ bytes) ⊎ ((t ≤ syncs earlier) × LeftSince earlier bytes t file)

-- a crash may leave what reads give
pub reads_now : (changes : List Change) (bytes : List ℕ) → MayBeLeft changes bytes bytes
reads_now [] bytes = refl
reads_now (Write at size before ∷ earlier) bytes = inl refl
reads_now (Synced ∷ earlier) bytes = refl

pub left_now : (changes : List Change) (bytes : List ℕ) (t : ℕ) → Within (MayBeLeft changes bytes) (LeftSince changes bytes t)
left_now [] bytes t file now = now
left_now (Write at size before ∷ earlier) bytes t file now = inl now
left_now (Synced ∷ earlier) bytes t file now = inl now

untorn : (at n : ℕ) (file : List ℕ) → Torn at n file file
untorn at n file = record { before = take_min at file; after = refl; no_shorter = le_refl (length file); no_longer = le-max_left (length file) (at + n) }

only_now : (changes : List Change) (bytes : List ℕ) → Within (LeftSince changes bytes (syncs changes)) (MayBeLeft changes bytes)
only_now [] bytes file left = left
only_now (Write at size before ∷ earlier) bytes file left = ⊎_elim (λ now. now) (λ was. inr (file, only_now earlier before file was.1, untorn at size file)) left
only_now (Synced ∷ earlier) bytes file left = ⊎_elim (λ now. now) (λ was. absurd (not-suc-le_self (syncs earlier) was.0)) left

-- since the last sync a crash may have left what it may leave now
pub since_now : (changes : List Change) (bytes : List ℕ) → Same (MayBeLeft changes bytes) (LeftSince changes bytes (syncs changes))
since_now changes bytes = record { none_lost = left_now changes bytes (syncs changes); none_new = only_now changes bytes }

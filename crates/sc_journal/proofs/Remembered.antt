-- How the changes of a disk in memory go on.
use Rattle.std.proofs.Common.{◌≡◌, inl, inr, ⊎_elim, ℕ, ◌+◌, ◌-◌, ◌≤◌, min, List, [], ◌∷◌, ◌++◌, length, take, drop, reverse, refl, sym, ◌∙◌, ap, subst, arith, append_assoc, length-append, length-drop}
use Rattle.std.proofs.lemmas.List.{take_at, drop_at, drop-drop, length-take, reverse-append}
use Rattle.sc_journal.specs.Disk.{Torn, TornFrom, Within, Written, Gains}
use Rattle.sc_journal.specs.Images.{Change, Write, syncs, MayBeLeft, LeftSince, left_now, reads_now}
use Rattle.sc_journal.specs.Recorded.{changes_by}
use Rattle.sc_journal.specs.declared.recorded.Call.{Call}
use Rattle.sc_journal.specs.declared.recorded.Call.TheVariants.{WriteAt}

-- nothing changed
pub gains_none : (changes : List Change) (bytes : List ℕ) → Gains (syncs changes) (LeftSince changes bytes) (LeftSince changes bytes) (MayBeLeft changes bytes)
gains_none changes bytes = record { nothing_else = λ t c le left. inl left; kept = λ t c le left. left; gained = λ t c le now. left_now changes bytes t c now }

-- something was to be written
pub gains_write : (changes : List Change) (at size : ℕ) (before bytes : List ℕ) → Gains (syncs changes) (LeftSince changes before) (LeftSince (Write at size before ∷ changes) bytes) (MayBeLeft (Write at size before ∷ changes) bytes)
gains_write changes at size before bytes = record {
  nothing_else = λ t c le left. ⊎_elim (λ now. inr now) (λ was. inl was.1) left;
  kept = λ t c le left. inr (le, left);
  gained = λ t c le now. inl now;
}

-- a write that is torn leaves what the one before may have left, torn by it
pub crash_write : (changes : List Change) (at size : ℕ) (before bytes : List ℕ) → Torn at size before bytes → Within (MayBeLeft (Write at size before ∷ changes) bytes) (TornFrom at size (MayBeLeft changes before))
crash_write changes at size before bytes torn c left = ⊎_elim (λ is. (before, reads_now changes before, subst (Torn at size before) (sym is) torn)) (λ from. from) left

-- a front of what was to be written tears less
pub wider : (at n m : ℕ) (old new : List ℕ) → n ≤ m → Torn at n old new → Torn at m old new
wider at n m old new le torn = record {
  before = torn.before;
  after =
      let is : at + n + (m - n) ≡ at + m = omega (arith, le) in
      let far : (l : List ℕ) → drop (at + m) l ≡ drop (m - n) (drop (at + n) l) = λ l. ap (λ (k : ℕ). drop k l) (sym is) ∙ sym (drop-drop (m - n) (at + n) l) in
      far new ∙ ap (λ (l : List ℕ). drop (m - n) l) torn.after ∙ sym (far old);
  no_shorter = torn.no_shorter;
  no_longer = omega (arith, le, torn.no_longer);
}

-- the bytes before the place, some where it is past the end, the piece, and the bytes behind it
pub pieced : (at : ℕ) (piece file pad : List ℕ) → length (take at file ++ pad) ≡ at → Written at piece file (take at file ++ pad ++ piece ++ drop (at + length piece) file)
pieced at piece file pad size =
    let rest = drop (at + length piece) file in
    let front = take at file ++ pad in
    let whole = front ++ piece ++ rest in
    let split : whole ≡ front ++ (piece ++ rest) = append_assoc front piece rest in
    let both : length (front ++ piece) ≡ at + length piece = omega (arith, length-append front piece, size) in
    let far : whole ≡ take at file ++ (pad ++ piece ++ rest) =
    split ∙ append_assoc (take at file) pad (piece ++ rest) ∙ ap (λ (l : List ℕ). take at file ++ l) (sym (append_assoc pad piece rest)) in
    let rest_length = length-drop (at + length piece) file in
    let whole_length : length whole ≡ at + length piece + length rest = omega (arith, both, length-append (front ++ piece) rest) in
    record {
      torn = record {
        before = ap (λ (l : List ℕ). take (min at (length file)) l) far ∙ take_at (take at file) (pad ++ piece ++ rest) (min at (length file)) (length-take at file);
        after = drop_at (front ++ piece) rest (at + length piece) both;
        no_shorter = omega (arith, whole_length, rest_length);
        no_longer = omega (arith, whole_length, rest_length);
      };
      range = ap (λ (l : List ℕ). take (length piece) (drop at l)) split ∙ ap (λ (l : List ℕ). take (length piece) l) (drop_at front (piece ++ rest) at size) ∙ take_at piece rest (length piece) refl;
    }

-- ---- the record of calls

-- one write more
pub recorded_write : (calls : List Call) (earlier : List ℕ) (at size : ℕ) (bytes : List ℕ) → changes_by (reverse (calls ++ WriteAt at size (length bytes) ∷ [])) (earlier ++ bytes) ≡ Write at size bytes ∷ changes_by (reverse calls) earlier
recorded_write calls earlier at size bytes =
    let count : length (earlier ++ bytes) - length bytes ≡ length earlier = omega (arith, length-append earlier bytes) in
    let front : take (length (earlier ++ bytes) - length bytes) (earlier ++ bytes) ≡ earlier = ap (λ (k : ℕ). take k (earlier ++ bytes)) count ∙ take_at earlier bytes (length earlier) refl in
    let last : drop (length (earlier ++ bytes) - length bytes) (earlier ++ bytes) ≡ bytes = ap (λ (k : ℕ). drop k (earlier ++ bytes)) count ∙ drop_at earlier bytes (length earlier) refl in
    ap (λ (l : List Call). changes_by l (earlier ++ bytes)) (reverse-append calls (WriteAt at size (length bytes) ∷ []))
    ∙ (λ i. Write at size (last i) ∷ changes_by (reverse calls) (front i))

-- ---- the calls of a disk

-- memory was found, or not, and nothing was written
pub gains_kept : (was is : List Change) (before bytes : List ℕ) → is ≡ was → bytes ≡ before → Gains (syncs was) (LeftSince was before) (LeftSince is bytes) (MayBeLeft is bytes)
gains_kept was is before bytes same_changes same_bytes = subst (λ (l : List Change). Gains (syncs was) (LeftSince was before) (LeftSince l bytes) (MayBeLeft l bytes)) (sym same_changes)
    (subst (λ (l : List ℕ). Gains (syncs was) (LeftSince was before) (LeftSince was l) (MayBeLeft was l)) (sym same_bytes) (gains_none was before))

-- a front of what was to be written tears what was before
pub torn_front : (at n size : ℕ) (before mid bytes : List ℕ) → mid ≡ before → n ≤ size → Torn at n mid bytes → Torn at size before bytes
torn_front at n size before mid bytes same le torn = wider at n size before bytes le (subst (λ (l : List ℕ). Torn at n l bytes) same torn)

-- memory was found, and a front of what was to be written was written
pub crash_front : (was mid is : List Change) (at n size : ℕ) (before between bytes : List ℕ) → mid ≡ was → between ≡ before → is ≡ Write at size between ∷ mid → n ≤ size → Torn at n between bytes → Within (MayBeLeft is bytes) (TornFrom at size (MayBeLeft was before))
crash_front was mid is at n size before between bytes same_changes same_bytes written le torn =
    let now : is ≡ Write at size before ∷ was = written ∙ (λ i. Write at size (same_bytes i) ∷ same_changes i) in
    subst (λ (l : List Change). Within (MayBeLeft l bytes) (TornFrom at size (MayBeLeft was before))) (sym now)
    (crash_write was at size before bytes (torn_front at n size before between bytes same_bytes le torn))

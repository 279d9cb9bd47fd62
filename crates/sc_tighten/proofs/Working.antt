-- What turns of the work make together.
use Rattle.std.proofs.Common.{◌≡◌, ℕ, zero, suc, ◌+◌, ◌<◌, ◌⊎◌, ⊎_elim, List, [], ◌∷◌, ◌++◌, length, refl, sym, ap, subst, ◌∙◌, arith, All}
use Rattle.std.proofs.lemmas.List.{append-nil}
use Rattle.std.proofs.lemmas.List.Elements.{All-nil, All-append}
use Rattle.std.specs.Prelude.{Some, None}
use Rattle.sc_cut.specs.declared.name.PartName.{PartName}
use Rattle.sc_part.specs.Version.{Version}
use Rattle.sc_history.specs.declared.installed.Installed.{Installed}
use Rattle.sc_history.specs.declared.installed.Installed.TheVariants as installed
use Rattle.sc_catalog.specs.declared.entry.Entry.{Entry}
use Rattle.sc_catalog.specs.Entries.{by}
use Rattle.sc_visit.specs.Visits.{Visitor, TakesTurn, TakesTurns}
use Rattle.sc_notice.specs.declared.notice.Notice.TheVariants.{Part, Stop}
use Rattle.sc_notice.specs.declared.notice.Call.{Call}
use Rattle.sc_notice.specs.declared.notice.Call.TheVariants.{Heard, HeardNone}
use Rattle.sc_notice.specs.Callers.{Caller, Calls, told_by, told_in}
use Rattle.sc_notice.proofs.Weights.{told_more}
use Rattle.sc_tighten.specs.declared.outcome.Outcome.{Outcome}
use Rattle.sc_tighten.specs.declared.outcome.Outcome.TheVariants.{Idle, Told, NoMemory}
use Rattle.sc_tighten.specs.declared.count.WorkCount.{WorkCount}
use Rattle.sc_tighten.specs.declared.count.WorkDone.{WorkDone}
use Rattle.sc_tighten.specs.declared.count.WorkDone.TheVariants.{Done, Stopped}
use Rattle.sc_tighten.specs.Work.{Installs, Looks, Tightener, TightensPart, WorkTurn, WorkTurns, Works, counted, no_turn, plus, total}

-- ---- a turn more

pub turns_more : (outcomes : List Outcome) (outcome : Outcome) (old mid new : Tightener) → WorkTurns outcomes old mid → WorkTurn outcome mid new → WorkTurns (outcomes ++ outcome ∷ []) old new
turns_more [] outcome old mid new is turn = (new, subst (λ x. WorkTurn outcome x new) is turn, refl)
turns_more (first ∷ more) outcome old mid new turns turn = (turns.0, turns.1, turns_more more outcome turns.0 mid new turns.2 turn)

pub counted_more : (outcomes : List Outcome) (outcome : Outcome) (count : WorkCount) → counted (outcomes ++ outcome ∷ []) count ≡ plus outcome (counted outcomes count)
counted_more [] outcome count = refl
counted_more (first ∷ more) outcome count = counted_more more outcome (plus first count)

-- ---- each turn counts once

total_plus : (outcome : Outcome) (count : WorkCount) → total (plus outcome count) ≡ total count + 1
total_plus Idle count = omega arith
total_plus (Told installed.Exact) count = omega arith
total_plus (Told installed.Joined) count = omega arith
total_plus (Told (installed.TooOld kept_from)) count = omega arith
total_plus (Told installed.Gone) count = omega arith
total_plus NoMemory count = omega arith

total_counted : (outcomes : List Outcome) (count : WorkCount) → total (counted outcomes count) ≡ total count + length outcomes
total_counted [] count = omega arith
total_counted (first ∷ more) count = let one = total_plus first count in let rest = total_counted more (plus first count) in omega (arith, one, rest)

pub total_is : (outcomes : List Outcome) (count : WorkCount) → count ≡ counted outcomes no_turn → total count ≡ length outcomes
total_is outcomes count is = let same = ap total is in let sum = total_counted outcomes no_turn in omega (arith, same, sum)

-- ---- the turns at the desk

module _ {E : Type 0} (numbers : E → ℕ) where
  join_turns : (owns more : List (List E)) (old mid new : Visitor E) → TakesTurns numbers owns old mid → TakesTurns numbers more mid new
      → TakesTurns numbers (owns ++ more) old new
  join_turns [] more old mid new is turns = subst (λ x. TakesTurns numbers more x new) is turns
  join_turns (own ∷ owns) more old mid new first turns = (first.0, first.1, join_turns owns more first.0 mid new first.2 turns)

-- turns that add no entry
abbrev pub Quiet : Visitor Entry → Visitor Entry → Type 0
Quiet old new = (owns : List (List Entry)) × All (λ own. own ≡ []) owns × TakesTurns by owns old new

quiet_none : (old new : Visitor Entry) → new ≡ old → Quiet old new
quiet_none old new is = ([], All-nil (λ (own : List Entry). own ≡ []), is)

one_empty : All (λ (own : List Entry). own ≡ []) ([] ∷ [])
one_empty zero d lt = refl
one_empty (suc k) d lt = absurd (omega arith)

quiet_one : (old new : Visitor Entry) → TakesTurn by [] old new → Quiet old new
quiet_one old new turn = ([] ∷ [], one_empty, (new, turn, refl))

quiet_join : (old mid new : Visitor Entry) → Quiet old mid → Quiet mid new → Quiet old new
quiet_join old mid new a b = (a.0 ++ b.0, All-append (λ (own : List Entry). own ≡ []) a.0 b.0 a.1 b.1, join_turns by a.0 b.0 old mid new a.2 b.2)

quiet_two : (old mid new : Visitor Entry) → TakesTurn by [] old mid → TakesTurn by [] mid new → Quiet old new
quiet_two old mid new a b = quiet_join old mid new (quiet_one old mid a) (quiet_one mid new b)

part_quiet : (name : PartName) (outcome : Outcome) (old new : Visitor Entry) → TightensPart name outcome old new → Quiet old new
part_quiet name Idle old new non = absurd non
part_quiet name (Told told) old new is = ⊎_elim (λ (x : (told ≡ installed.Gone) × Looks name None old new). quiet_one old new x.1.0)
    (λ (x : (mid : Visitor Entry) × (ticket : Version) × Looks name (Some ticket) old mid × Installs ticket told mid new). quiet_two old x.0 new x.2.0 x.3.0) is
part_quiet name NoMemory old new is = ⊎_elim (λ (x : TakesTurn by [] old new). quiet_one old new x)
    (λ (x : (mid : Visitor Entry) × (ticket : Version) × Looks name (Some ticket) old mid × TakesTurn by [] mid new). quiet_two old x.0 new x.2.0 x.3) is

turn_quiet : (outcome : Outcome) (old new : Tightener) → WorkTurn outcome old new → Quiet old.desk new.desk
turn_quiet Idle old new is = quiet_none old.desk new.desk is.0
turn_quiet (Told told) old new is = part_quiet is.0 (Told told) old.desk new.desk is.2
turn_quiet NoMemory old new is = part_quiet is.0 NoMemory old.desk new.desk is.2

turns_quiet : (outcomes : List Outcome) (old new : Tightener) → WorkTurns outcomes old new → Quiet old.desk new.desk
turns_quiet [] old new is = quiet_none old.desk new.desk (ap (λ (x : Tightener). x.desk) is)
turns_quiet (first ∷ more) old new is = quiet_join old.desk is.0.desk new.desk (turn_quiet first old is.0 is.1) (turns_quiet more is.0 new is.2)

pub work_quiet : (turns : ℕ) (done : WorkDone) (old new : Tightener) → Works turns done old new → Quiet old.desk new.desk
work_quiet turns (Done count) old new is = turns_quiet is.0 old new is.2
work_quiet turns (Stopped count) old new is = quiet_join old.desk is.1.desk new.desk (turns_quiet is.0 old is.1 is.3) (quiet_none is.1.desk new.desk is.4.0)

-- ---- the calls of the notices' pass

-- it is the pass of the same queue, and has told no more
pub record Listens (old new : Caller) : Type 0 where
  pub of_is : new.of ≡ old.of
  pub shares_are : new.shares ≡ old.shares
  pub told_are : told_in new.calls ≡ told_in old.calls

call_listens : (call : Call) (old new : Caller) → told_by call ≡ [] → Calls call old new → Listens old new
call_listens call old new none is = record {
  of_is = is.of_is;
  shares_are = is.shares_are;
  told_are = ap told_in is.calls_are ∙ told_more old.calls call ∙ ap (λ l. told_in old.calls ++ l) none ∙ append-nil (told_in old.calls);
}

then_listens : (old mid new : Caller) → Listens old mid → Listens mid new → Listens old new
then_listens old mid new a b = record { of_is = b.of_is ∙ a.of_is; shares_are = b.shares_are ∙ a.shares_are; told_are = b.told_are ∙ a.told_are }

turn_listens : (outcome : Outcome) (old new : Tightener) → WorkTurn outcome old new → Listens old.notices new.notices
turn_listens Idle old new is = call_listens HeardNone old.notices new.notices refl is.1
turn_listens (Told told) old new is = call_listens (Heard (Part is.0)) old.notices new.notices refl is.1
turn_listens NoMemory old new is = call_listens (Heard (Part is.0)) old.notices new.notices refl is.1

turns_listen : (outcomes : List Outcome) (old new : Tightener) → WorkTurns outcomes old new → Listens old.notices new.notices
turns_listen [] old new is = record { of_is = ap (λ (x : Tightener). x.notices.of) is; shares_are = ap (λ (x : Tightener). x.notices.shares) is; told_are = ap (λ (x : Tightener). told_in x.notices.calls) is }
turns_listen (first ∷ more) old new is = then_listens old.notices is.0.notices new.notices (turn_listens first old is.0 is.1) (turns_listen more is.0 new is.2)

pub work_listens : (turns : ℕ) (done : WorkDone) (old new : Tightener) → Works turns done old new → Listens old.notices new.notices
work_listens turns (Done count) old new is = turns_listen is.0 old new is.2
work_listens turns (Stopped count) old new is =
    then_listens old.notices is.1.notices new.notices (turns_listen is.0 old is.1 is.3) (call_listens (Heard Stop) is.1.notices new.notices refl is.4.1)

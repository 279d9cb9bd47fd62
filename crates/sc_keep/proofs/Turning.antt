-- One turn at a kept catalogue, from what it finds to what it leaves.
use Rattle.std.proofs.Common.{◌≡◌, ℕ, [], ◌∷◌, ◌++◌, length, sym, ap, ◌∙◌, subst, arith}
use Rattle.std.proofs.lemmas.List.{append-nil}
use Rattle.sc_load.specs.declared.load.Load.{Load}
use Rattle.sc_load.specs.declared.fault.LoadFault.{LoadFault}
use Rattle.sc_history.specs.Taken as history
use Rattle.sc_catalog.specs.declared.entry.Entry.{Entry}
use Rattle.sc_catalog.specs.declared.entry.Published.{Published}
use Rattle.sc_catalog.specs.Entries.{IsTaken, by, entry_of, loads_of}
use Rattle.sc_catalog.specs.Holdings.{Holdings, IsPublished}
use Rattle.sc_turn.specs.History.{Knows}
use Rattle.sc_turn.specs.declared.pass.Pass.{Pass}
use Rattle.sc_turn.specs.Passes.{pass_desk, pass_number, pass_start, pass_seen, pass_visits}
use Rattle.sc_visit.specs.Visits.{visitor_of}
use Rattle.sc_desk.proofs.Passing.{taken_of, turn_of}
use Rattle.sc_outside.specs.Causes.{Rose}
use Rattle.sc_kept.specs.Keeping.{IsSure}
use Rattle.sc_keep.specs.Turns.{Adds, Refuses}

module _ {V : Type 0} (load : Load) (before after : Holdings) (old mid new : Pass V Entry)
    (entered : (pass_desk mid ≡ pass_desk old) × (pass_number mid ≡ pass_number old) × (pass_start mid ≡ pass_start old) × (pass_visits mid ≡ pass_visits old))
    (knows : Knows by (pass_number old) (pass_seen old) before.entries)
    (kept : (pass_desk new ≡ pass_desk mid) × (pass_number new ≡ pass_number mid) × (pass_start new ≡ pass_start mid))
    (seen : pass_seen new ≡ after.entries) (visits : pass_visits new ≡ pass_visits mid ++ length after.entries ∷ []) where
  pub adds : (number : ℕ) (published : Published) → number ≡ pass_number old → IsPublished number load before after published → Adds load published (visitor_of old) (visitor_of new)
  adds number published same is =
      let taken = taken_of number load before after published is in
      record {
        turn = (
          turn_of by (entry_of (pass_number old) load ∷ []) before.entries after.entries old mid new entered knows kept seen visits
              (is.entries_are ∙ ap (λ n. before.entries ++ entry_of n load ∷ []) same),
          is.takes,
        );
        taken = subst (λ n. IsTaken n load (pass_seen new) published) same (subst (λ l. IsTaken number load l published) (sym seen) taken);
      }

  pub refuses : (fault : LoadFault) → after.entries ≡ before.entries → history.Refuses (loads_of before.entries) load fault → Refuses load fault (visitor_of old) (visitor_of new)
  refuses fault same is = record {
    turn = turn_of by [] before.entries after.entries old mid new entered knows kept seen visits (same ∙ sym (append-nil before.entries));
    is = subst (λ l. history.Refuses (loads_of l) load fault) (sym (seen ∙ same)) is;
  }

-- no count of faults rises on a disk of a type that never fails
pub never_rises : {D : Type 0} (faults : D → ℕ) (old new : D) → IsSure faults → Rose (faults old) (faults new) → ⊥
never_rises faults old new sure rose = let a = sure old in let b = sure new in omega (arith, a, b, rose)

-- One turn of a pass, from what it finds to what it leaves.
use Rattle.std.proofs.Common.{◌≡◌, ℕ, List, [], ◌∷◌, ◌++◌, length, sym, ap, ◌∙◌, subst}
use Rattle.sc_load.specs.declared.load.Load.{Load}
use Rattle.sc_shelf.specs.Ticket.{Hull}
use Rattle.sc_catalog.specs.declared.entry.Entry.{Entry}
use Rattle.sc_catalog.specs.declared.entry.Published.{Published}
use Rattle.sc_catalog.specs.Entries.{IsTaken, IsTightOf, by}
use Rattle.sc_catalog.specs.Holdings.{Holdings, IsPublished}
use Rattle.sc_catalog.proofs.Hulls.{tight_on}
use Rattle.sc_turn.specs.History.{Knows}
use Rattle.sc_turn.specs.declared.pass.Pass.{Pass}
use Rattle.sc_turn.specs.Passes.{pass_desk, pass_number, pass_start, pass_seen, pass_visits}
use Rattle.sc_visit.specs.Visits.{Visitor, TakesTurn, TakesTurns, visitor_of}
use Rattle.sc_visit.proofs.Turning.{turns_grow}

abbrev pub turn_of : {V E : Type 0} (by : E → ℕ) (own found left : List E) (old mid new : Pass V E)
    → (pass_desk mid ≡ pass_desk old) × (pass_number mid ≡ pass_number old) × (pass_start mid ≡ pass_start old) × (pass_visits mid ≡ pass_visits old)
    → Knows by (pass_number old) (pass_seen old) found
    → (pass_desk new ≡ pass_desk mid) × (pass_number new ≡ pass_number mid) × (pass_start new ≡ pass_start mid)
    → pass_seen new ≡ left → pass_visits new ≡ pass_visits mid ++ length left ∷ [] → left ≡ found ++ own → TakesTurn by own (visitor_of old) (visitor_of new)
turn_of by own found left old mid new entered knows kept seen visits is = record {
  same = record { desk_is = kept.0 ∙ entered.0; number_is = kept.1 ∙ entered.1; start_is = kept.2 ∙ entered.2 };
  found = found;
  knows = knows;
  left = seen ∙ is;
  visit = visits ∙ ap (λ l. l ++ length left ∷ []) entered.3 ∙ ap (λ l. pass_visits old ++ length l ∷ []) (sym seen);
}

-- what a load leaves of a history
pub taken_of : (number : ℕ) (load : Load) (old new : Holdings) (published : Published) → IsPublished number load old new published → IsTaken number load new.entries published
taken_of number load old new published is = record { before = old.entries; whole = is.entries_are; takes = is.takes; touched_are = is.touched_are; revision_is = is.revision_is }

-- what could be installed still can in a history that goes on from the one seen
pub tight_found : (number : ℕ) (seen found : List Entry) (hull : Hull) → Knows by number seen found → IsTightOf seen hull → IsTightOf found hull
tight_found number seen found hull knows tight = subst (λ l. IsTightOf l hull) (sym knows.whole) (tight_on seen knows.rest hull tight)

pub turns_tight : (owns : List (List Entry)) (old new : Visitor Entry) (hull : Hull) → TakesTurns by owns old new → IsTightOf old.seen hull → IsTightOf new.seen hull
turns_tight owns old new hull turns tight =
    let more = turns_grow by owns old new turns in
    subst (λ l. IsTightOf l hull) (sym more.1) (tight_on old.seen more.0 hull tight)

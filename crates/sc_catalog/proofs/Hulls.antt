-- What is taken of a history stays what it is: a hull that is tight, of a ticket as it is looked at and after each load, and a snapshot.
use Rattle.std.proofs.Common.{◌≡◌, ℕ, List, [], ◌∷◌, ◌++◌, map, reverse, Option, Some, None, refl, sym, ap, ◌∙◌, subst}
use Rattle.std.specs.Prelude.{IfSome}
use Rattle.std.proofs.lemmas.List.{reverse-append}
use Rattle.sc_cut.specs.declared.name.PartName.{PartName}
use Rattle.sc_part.specs.Version.{Version}
use Rattle.sc_load.specs.declared.load.Load.{Load}
use Rattle.sc_history.specs.Changes.{Change}
use Rattle.sc_history.specs.Views.{IsSnapshot, IsTight, Snap, Stood}
use Rattle.sc_history.proofs.Taking.{snapshot_stays, ticket_tight, tight_stays}
use Rattle.sc_history.proofs.Telling.{one_telling, told_split}
use Rattle.sc_shelf.specs.Ticket.{Hull, hull_at}
use Rattle.sc_catalog.specs.declared.entry.Entry.{Entry}
use Rattle.sc_catalog.specs.Entries.{IsLookOf, IsSnapshotOf, IsTightOf, TellsOf, loads_of}

-- ---- a longer history

mapped : (a b : List Entry) → map (λ (e : Entry). e.load) (a ++ b) ≡ map (λ (e : Entry). e.load) a ++ map (λ (e : Entry). e.load) b
mapped [] b = refl
mapped (x ∷ a) b = ap (λ l. x.load ∷ l) (mapped a b)

pub loads_on : (seen rest : List Entry) → loads_of (seen ++ rest) ≡ loads_of rest ++ loads_of seen
loads_on seen rest = ap reverse (mapped seen rest) ∙ reverse-append (map (λ (e : Entry). e.load) seen) (map (λ (e : Entry). e.load) rest)

pub told_on : (seen rest : List Entry) (past : List Change) → TellsOf (seen ++ rest) past → (later : List Change) × (before : List Change) × (past ≡ later ++ before) × TellsOf seen before
told_on seen rest past told = told_split (loads_of rest) (loads_of seen) past (subst (λ l. Rattle.sc_history.specs.Taken.Tells l past) (loads_on seen rest) told)

-- ---- hulls

pub tight_told : (entries : List Entry) (hull : Hull) → IsTightOf entries hull → (past : List Change) → TellsOf entries past → IsTight past hull.name hull.stamp hull.bounds
unfolding IsTightOf
tight_told entries hull is = is

pub tight_from : (entries : List Entry) (hull : Hull) → ((past : List Change) → TellsOf entries past → IsTight past hull.name hull.stamp hull.bounds) → IsTightOf entries hull
unfolding IsTightOf
tight_from entries hull is = is

pub tight_on : (seen rest : List Entry) (hull : Hull) → IsTightOf seen hull → IsTightOf (seen ++ rest) hull
tight_on seen rest hull tight = tight_from (seen ++ rest) hull (λ past told.
    let r = told_on seen rest past told in
    subst (λ p. IsTight p hull.name hull.stamp hull.bounds) (sym r.2) (tight_stays r.0 r.1 hull.name hull.stamp hull.bounds (tight_told seen hull tight r.1 r.3)))

-- the same history
pub entries_tight : (old new : List Entry) (hull : Hull) → new ≡ old → IsTightOf old hull → IsTightOf new hull
entries_tight old new hull e tight = subst (λ l. IsTightOf l hull) (sym e) tight

-- the ticket of a look
pub hull_of_look : (entries : List Entry) (name : PartName) (ticket : Version) → IsLookOf entries name (Some ticket) → IsTightOf entries (hull_at ticket)
hull_of_look entries name ticket is = tight_from entries (hull_at ticket) (λ past told.
    let same : is.past ≡ past = one_telling (loads_of entries) is.past past is.told told in
    subst (λ p. IsTight p ticket.name ticket.stamp (hull_at ticket).bounds) same
    (subst (λ n. IsTight is.past n ticket.stamp (hull_at ticket).bounds) (sym is.answers.name_is) (ticket_tight is.past name ticket.stamp ticket.items is.answers.is)))

pub look_tight : (entries : List Entry) (name : PartName) (ticket : Option Version) → IsLookOf entries name ticket → IfSome ticket (λ t. IsTightOf entries (hull_at t))
look_tight entries name None is = tt
look_tight entries name (Some t) is = hull_of_look entries name t is

-- ---- snapshots

pub snapshot_stood : (entries : List Entry) (snap : Snap) → IsSnapshotOf entries snap → Stood snap
snapshot_stood entries snap is = record { past = is.past; is = is.told.accepted; has = is.is }

pub snapshot_on : (seen rest : List Entry) (snap : Snap) (past : List Change) → IsSnapshotOf seen snap → TellsOf (seen ++ rest) past → IsSnapshot past snap
snapshot_on seen rest snap past is told =
    let r = told_on seen rest past told in
    let same : is.past ≡ r.1 = one_telling (loads_of seen) is.past r.1 is.told r.3 in
    subst (λ p. IsSnapshot p snap) (sym r.2) (snapshot_stays r.0 r.1 snap (subst (λ p. IsSnapshot p snap) same is.is))

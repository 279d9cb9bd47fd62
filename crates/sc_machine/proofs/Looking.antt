-- Snapshots and looks, by what the fields of a machine are.
use Rattle.std.proofs.Common.{◌≡◌, ℕ, ℤ, Bool, true, false, cond, List, length, map, find, Option, Some, None, option_map, refl, sym, ap, ◌∙◌, subst, arith}
use Rattle.std.specs.Option.{is_some, option_and_then}
use Rattle.std.specs.Prelude.{if◌then◌else◌}
use Rattle.std.specs.Ordering.{is_eq}
use Rattle.std.specs.BTreeMap.{get}
use Rattle.std.proofs.lemmas.List.{length-reverse, length-map}
use Rattle.sc_base.specs.Text.{text_order}
use Rattle.sc_cut.specs.declared.cut.Cut.{Cut}
use Rattle.sc_cut.specs.declared.name.PartName.{PartName}
use Rattle.sc_part.specs.Version.{Version}
use Rattle.sc_history.specs.Content.{Collection, is_called}
use Rattle.sc_history.specs.Changes.{Change}
use Rattle.sc_history.specs.Names.{is_empty, part_of}
use Rattle.sc_history.specs.History.{back, replay, stamp}
use Rattle.sc_history.specs.Views.{Snap}
use Rattle.sc_history.proofs.Pasts.{back_whole}
use Rattle.sc_history.proofs.Installing.{since_stamp}
use Rattle.sc_history.proofs.Telling.{one_telling, told_length}
use Rattle.sc_shelf.specs.Ticket.{Hull, hull_at}
use Rattle.sc_catalog.specs.declared.entry.Entry.{Entry}
use Rattle.sc_catalog.specs.Entries.{IsLookOf, IsSnapshotOf, loads_of}
use Rattle.sc_catalog.specs.Holdings.{Holdings}
use Rattle.sc_outcome.specs.declared.outcome.Outcome.{Outcome}
use Rattle.sc_outcome.specs.declared.outcome.Outcome.TheVariants as gives
use Rattle.sc_outcome.specs.Refused.{name_taken}
use Rattle.sc_machine.specs.State.{State, IsNamed, named}
use Rattle.sc_machine.specs.Looks.{Finds, LooksAt, TakesLook, TakesSnapshot, if_some}
use Rattle.sc_machine.specs.Inside.{Hulls, IsPartAt, Snaps, looked, state_of, taken}
use Rattle.sc_machine.proofs.Seen.{named_more, named_seen}

-- ---- snapshots

module _ (holdings : Holdings) (hulls : Hulls) (name : List ℕ) (outcome : Outcome) where
  abbrev pub at : Snaps → State
  at snaps = state_of holdings snaps hulls

  pub snapshot_there : (snaps : Snaps) → is_some (get text_order snaps name) ≡ true → outcome ≡ name_taken name → TakesSnapshot name (named name (at snaps).snapshots) (at snaps) (at snaps) outcome
  snapshot_there snaps there told = subst (λ o. TakesSnapshot name o (at snaps) (at snaps) outcome) (sym (named_seen taken snaps name)) (go (get text_order snaps name) there)
    where
      go : (o : Option Snap) → is_some o ≡ true → TakesSnapshot name (option_map taken o) (at snaps) (at snaps) outcome
      go None e = absurd cc
      go (Some x) e = (refl, told)

  pub snapshot_taken : (old new : Snaps) (snap : Snap) → is_some (get text_order old name) ≡ false → ((other : List ℕ) → get text_order new other ≡ cond (is_eq (text_order name other)) (Some snap) (get text_order old other))
      → snap ≡ record { revision = length holdings.entries; collections = holdings.collections; parts = holdings.parts } → outcome ≡ gives.Revision snap.revision
      → TakesSnapshot name (named name (at old).snapshots) (at old) (at new) outcome
  snapshot_taken old new snap none updates is told = subst (λ o. TakesSnapshot name o (at old) (at new) outcome) (sym (named_seen taken old name)) (go (get text_order old name) none)
    where
      go : (o : Option Snap) → is_some o ≡ false → TakesSnapshot name (option_map taken o) (at old) (at new) outcome
      go (Some x) e = absurd cc
      go None e = record {
        entries_are = refl;
        bounds_are = refl;
        names = subst (λ t. IsNamed name t (at old).snapshots (at new).snapshots) (ap taken is) (named_more taken old new name snap updates);
        tickets_are = refl;
        told = told ∙ ap (λ (s : Snap). gives.Revision s.revision) is;
      }

-- ---- parts by their keys

module _ (entries : List Entry) (snap : Snap) (is : IsSnapshotOf entries snap) where
  whole : back snap.revision is.past ≡ is.past
  whole =
      let e = told_length (loads_of entries) is.past is.told ∙ length-reverse (map (λ (e : Entry). e.load) entries) ∙ length-map entries (λ (e : Entry). e.load) in
      back_whole is.past snap.revision (omega (arith, e, is.revision_is))

  collections_of : snap.collections ≡ (replay is.past).collections
  collections_of = is.is.collections_are ∙ ap (λ (p : List Change). (replay p).collections) whole

  -- the part of a collection that is there with this cut, or isn't there
  pub part_found : (collection : List ℕ) (key : ℤ) (cut : Option Cut) → cut ≡ option_map (λ c. c.cut) (find (is_called collection) snap.collections)
      → IsPartAt entries collection key (option_map (λ cut. record { collection = collection; cut = cut; key = key }) cut)
  part_found collection key cut e = record {
    past = is.past;
    told = is.told;
    is = ap (λ o. option_map (λ (cut : Cut). record { collection = collection; cut = cut; key = key }) o) (e ∙ ap (λ cs. option_map (λ (c : Collection). c.cut) (find (is_called collection) cs)) collections_of) ∙ go (find (is_called collection) (replay is.past).collections);
  }
    where
      go : (o : Option Collection) → ◌≡◌ {A = Option PartName} (option_map (λ (cut : Cut). record { collection = collection; cut = cut; key = key }) (option_map (λ (c : Collection). c.cut) o)) (option_map (λ (c : Collection). record { collection = collection; cut = c.cut; key = key }) o)
      go None = refl
      go (Some c) = refl

-- ---- looks

module _ (holdings : Holdings) (snaps : Snaps) (name collection : List ℕ) (key : ℤ) where
  abbrev pub before : Hulls → State
  before hulls = state_of holdings snaps hulls

  found : (hulls new : Hulls) (outcome : Outcome) (part : Option PartName) (is : IsPartAt holdings.entries collection key part)
      → Finds is.past name (option_and_then (if_some (replay is.past)) part) (before hulls) (before new) outcome → LooksAt name collection key (before hulls) (before new) outcome
  found hulls new outcome part is finds = record {
    past = is.past;
    told = is.told;
    finds = subst (λ o. Finds is.past name (option_and_then (if_some (replay is.past)) o) (before hulls) (before new) outcome) is.is finds;
  }

  pub look_nowhere : (hulls : Hulls) (part : Option PartName) → part ≡ None → IsPartAt holdings.entries collection key part → LooksAt name collection key (before hulls) (before hulls) gives.Gone
  look_nowhere hulls part none is = found hulls hulls gives.Gone part is (subst (λ o. Finds is.past name (option_and_then (if_some (replay is.past)) o) (before hulls) (before hulls) gives.Gone) (sym none) (refl, refl))

  module _ (part : PartName) (is : IsPartAt holdings.entries collection key (Some part)) where
    pub look_empty : (hulls : Hulls) → IsLookOf holdings.entries part None → LooksAt name collection key (before hulls) (before hulls) gives.Gone
    look_empty hulls look =
        let same : look.past ≡ is.past = one_telling (loads_of holdings.entries) look.past is.past look.told is.told in
        let none : is_empty (part_of (replay is.past) part) ≡ true = ap is_empty (ap (λ (p : List Change). part_of (replay p) part) (sym same) ∙ look.answers) in
        found hulls hulls gives.Gone (Some part) is (subst (λ (b : Bool). Finds is.past name (if b then None else Some part) (before hulls) (before hulls) gives.Gone) (sym none) (refl, refl))

    pub look_taken : (old new : Hulls) (ticket : Version) (hull : Hull) → IsLookOf holdings.entries part (Some ticket) → hull ≡ hull_at ticket
        → ((other : List ℕ) → get text_order new other ≡ cond (is_eq (text_order name other)) (Some hull) (get text_order old other))
        → LooksAt name collection key (before old) (before new) (gives.Stamp ticket.stamp)
    look_taken old new ticket hull look tight updates =
        let same : look.past ≡ is.past = one_telling (loads_of holdings.entries) look.past is.past look.told is.told in
        let at : ticket.stamp ≡ stamp is.past part = look.answers.stamp_is ∙ ap (λ (p : List Change). stamp p part) same in
        let some_then : is_empty (part_of (replay (back ticket.stamp is.past)) part) ≡ false = subst (λ (p : List Change). is_empty (part_of (replay (back ticket.stamp p)) part) ≡ false) same look.answers.is.at.some in
        let some : is_empty (part_of (replay is.past) part) ≡ false =
        ap is_empty (sym (since_stamp is.past part is.told.accepted)) ∙ subst (λ (n : ℕ). is_empty (part_of (replay (back n is.past)) part) ≡ false) at some_then in
        let seen : looked hull ≡ record { part = part; stamp = stamp is.past part } =
        ap looked tight ∙ ap (λ (n : PartName). record { part = n; stamp = ticket.stamp }) look.answers.name_is ∙ ap (λ (n : ℕ). record { part = part; stamp = n }) at in
        found old new (gives.Stamp ticket.stamp) (Some part) is (subst (λ (b : Bool). Finds is.past name (if b then None else Some part) (before old) (before new) (gives.Stamp ticket.stamp)) (sym some)
        (record {
          entries_are = refl;
          bounds_are = refl;
          snapshots_are = refl;
          names = subst (λ t. IsNamed name t (before old).tickets (before new).tickets) seen (named_more looked old new name hull updates);
          told = ap gives.Stamp at;
        }))

  pub look_there : (hulls : Hulls) (outcome : Outcome) → is_some (get text_order hulls name) ≡ true → outcome ≡ name_taken name → TakesLook name (named name (before hulls).tickets) collection key (before hulls) (before hulls) outcome
  look_there hulls outcome there told = subst (λ o. TakesLook name o collection key (before hulls) (before hulls) outcome) (sym (named_seen looked hulls name)) (go (get text_order hulls name) there)
    where
      go : (o : Option Hull) → is_some o ≡ true → TakesLook name (option_map looked o) collection key (before hulls) (before hulls) outcome
      go None e = absurd cc
      go (Some x) e = (refl, told)

  pub look_free : (old new : Hulls) (outcome : Outcome) → is_some (get text_order old name) ≡ false → LooksAt name collection key (before old) (before new) outcome → TakesLook name (named name (before old).tickets) collection key (before old) (before new) outcome
  look_free old new outcome none looks = subst (λ o. TakesLook name o collection key (before old) (before new) outcome) (sym (named_seen looked old name)) (go (get text_order old name) none)
    where
      go : (o : Option Hull) → is_some o ≡ false → TakesLook name (option_map looked o) collection key (before old) (before new) outcome
      go (Some x) e = absurd cc
      go None e = looks

-- The turns of a pass, and of the one pass of a catalogue that nobody else has.
use Rattle.std.proofs.Common.{◌≡◌, ◌≢◌, ℕ, List, [], ◌∷◌, ◌++◌, length, Result, Ok, Err, refl, sym, ap, ◌∙◌, subst}
use Rattle.std.specs.Prelude.{IfOk, All}
use Rattle.std.proofs.lemmas.List.{append-nil}
use Rattle.std.proofs.lemmas.List.Elements.{All-nil, All-cons, All-append}
use Rattle.sc_load.specs.declared.load.Load.{Load}
use Rattle.sc_load.specs.declared.fault.LoadFault.{LoadFault}
use Rattle.sc_history.specs.Taken.{Refuses}
use Rattle.sc_history.specs.Views.{Snap}
use Rattle.sc_catalog.specs.declared.entry.Entry.{Entry}
use Rattle.sc_catalog.specs.declared.entry.Published.{Published}
use Rattle.sc_catalog.specs.Entries.{by, entry_of, loads_of, IsSnapshotOf, Takes}
use Rattle.sc_catalog.specs.Holdings.{Holdings, IsPublished}
use Rattle.sc_turn.specs.History.{Knows}
use Rattle.sc_visit.specs.Visits.{Visitor, TakesTurn}
use Rattle.sc_serve.specs.declared.desk.Tried.TheVariants.{Taken}
use Rattle.sc_serve.specs.Desks.{TakesSnapshot, TriesLoad, IsAlone}

-- ---- a catalogue that nobody else has

-- the pass behind a turn of its own
abbrev after : Visitor Entry → List Entry → Visitor Entry
after old own = record { desk = old.desk; number = old.number; start = old.start; seen = old.seen ++ own; visits = old.visits ++ length (old.seen ++ own) ∷ [] }

nobody : (v : Visitor Entry) → Knows by v.number v.seen v.seen
nobody v = record { rest = []; whole = sym (append-nil v.seen); others = All-nil (λ e. by e ≢ v.number) }

abbrev takes : (own : List Entry) (old : Visitor Entry) → TakesTurn by own old (after old own)
takes own old = record { same = record { desk_is = refl; number_is = refl; start_is = refl }; found = old.seen; knows = nobody old; left = refl; visit = refl }

stays : (entries : List Entry) (old : Visitor Entry) → IsAlone entries old → IsAlone entries (after old [])
stays entries old alone = record { number_is = alone.number_is; seen_is = append-nil old.seen ∙ alone.seen_is; own = subst (λ l. All (λ e. e.by ≡ 1) l) (sym (append-nil old.seen)) alone.own }

module _ (h : Holdings) (old : Visitor Entry) (alone : IsAlone h.entries old) where
  seen_still : h.entries ≡ old.seen ++ []
  seen_still = sym (append-nil old.seen ∙ alone.seen_is)

  pub snaps : {F : Type 0} (r : Result Snap F) → IfOk r (IsSnapshotOf h.entries) → (new : Visitor Entry) × IsAlone h.entries new × TakesSnapshot r old new
  snaps {F} (Ok snap) stands = (after old [], stays h.entries old alone, record { turn = takes [] old; is = subst (λ l. IsSnapshotOf l snap) seen_still stands })
  snaps {F} (Err fault) stands = (after old [], stays h.entries old alone, record { turn = takes [] old; is = tt })

  pub refuses : (load : Load) (fault : LoadFault) (revision : ℕ) → revision ≡ length h.entries → Refuses (loads_of h.entries) load fault
      → (new : Visitor Entry) × IsAlone h.entries new × TriesLoad ⊥ load (Err (record { fault = fault; revision = revision })) old new
  refuses load fault revision r is = (
    after old [],
    stays h.entries old alone,
    record {
      turn = takes [] old;
      is = subst (λ l. Refuses (loads_of l) load fault) seen_still is;
      revision_is = r ∙ ap length seen_still;
    },
  )

  module _ (new : Holdings) (load : Load) (published : Published) (is : IsPublished 1 load h new published) where
    abbrev next : Visitor Entry
    next = after old (entry_of 1 load ∷ [])

    pub takes_load : (next : Visitor Entry) × IsAlone new.entries next × TriesLoad ⊥ load (Ok (Taken published.revision)) old next
    takes_load =
        let seen : next.seen ≡ new.entries = ap (λ l. l ++ entry_of 1 load ∷ []) alone.seen_is ∙ sym is.entries_are in (
          next,
          record {
            number_is = alone.number_is;
            seen_is = seen;
            own = All-append (λ e. e.by ≡ 1) old.seen (entry_of 1 load ∷ []) alone.own (All-cons (λ e. e.by ≡ 1) (entry_of 1 load) [] refl (All-nil (λ e. e.by ≡ 1)));
          },
          record {
            turn = subst (λ n. (turn : TakesTurn by (entry_of n load ∷ []) old next) × Takes turn.found load) (sym alone.number_is)
                (takes (entry_of 1 load ∷ []) old, subst (λ l. Takes l load) (sym alone.seen_is) is.takes);
            revision_is = is.revision_is ∙ ap length (sym seen);
          },
        )

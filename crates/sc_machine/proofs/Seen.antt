-- What is seen of the fields of a machine: the bounds of parts, what has a name, and a load that is published.
use Rattle.std.proofs.Common.{◌≡◌, ℕ, Bool, true, false, cond, List, [], ◌∷◌, ◌++◌, map, find, Option, Some, None, option_map, refl, sym, ap, ◌∙◌, subst, bytes_eq, append_assoc}
use Rattle.std.specs.Prelude.{IfSome, IfOk, Result, Ok, Err, if◌then◌else◌}
use Rattle.std.specs.List.{AllPairs}
use Rattle.std.specs.Map.{lookup}
use Rattle.std.specs.Ordering.{is_eq}
use Rattle.std.specs.BTreeMap.{BTreeMap, get}
use Rattle.std.specs.Cmp.Lexicographic.{texts_ties}
use Rattle.std.specs.declared.cmp.Ordering.TheVariants.{Less}
use Rattle.std.proofs.lemmas.Map.Made.{lookup-map_values}
use Rattle.sqlite_keyed.proofs.ListLemmas.{ascending-map}
use Rattle.sc_base.specs.Text.{text_order}
use Rattle.sc_cut.specs.declared.name.PartName.{PartName}
use Rattle.sc_bounds.specs.Extent.{Extent}
use Rattle.sc_history.specs.Names.{is_name, name_order}
use Rattle.sc_history.specs.Part.{Part, AreInOrder, bounds_of}
use Rattle.sc_history.specs.Touch.{bounds_next}
use Rattle.sc_history.specs.Taken.{Tells}
use Rattle.sc_history.specs.Views.{Snap}
use Rattle.sc_history.proofs.Telling.{told_next}
use Rattle.sc_catalog.proofs.Committing.{loads_more}
use Rattle.sc_history.proofs.Texts.{text_turn}
use Rattle.sc_history.proofs.Lists.{ascending_from_pairs, pairs_from_ascending}
use Rattle.sc_load.specs.declared.load.Load.{Load}
use Rattle.sc_shelf.specs.Ticket.{Hull}
use Rattle.sc_catalog.specs.declared.entry.Entry.{Entry}
use Rattle.sc_catalog.specs.declared.entry.Published.{Published}
use Rattle.sc_catalog.specs.Entries.{IsTightOf, change_of, entry_of, loads_of}
use Rattle.sc_catalog.specs.Holdings.{Holdings, IsPublished}
use Rattle.sc_machine.specs.State.{AreBoundsBy, Bounded, bounds_at, named, IsNamed}
use Rattle.sc_machine.specs.Loads.{IsLoaded}
use Rattle.sc_machine.specs.Inside.{Hulls, IsKept, IsOfHistory, Snaps, bounds_of_parts, state_of}

-- ---- bounds

abbrev bounded : Part → Bounded
bounded part = record { name = part.name; bounds = part.bounds }

pub bounds_seen : (name : PartName) (parts : List Part) → bounds_at name (bounds_of_parts parts) ≡ bounds_of name parts
bounds_seen name [] = refl
bounds_seen name (p ∷ parts) = go (is_name p.name name) (bounds_seen name parts)
  where
    go : (b : Bool) → bounds_at name (bounds_of_parts parts) ≡ bounds_of name parts
        → option_map (λ (x : Bounded). x.bounds) (cond b (Some (bounded p)) (find (λ x. is_name x.name name) (bounds_of_parts parts))) ≡ option_map (λ (x : Part). x.bounds) (cond b (Some p) (find (λ x. is_name x.name name) parts))
    go true more = refl
    go false more = more

rise_seen : (parts : List Part) → AreInOrder parts → AllPairs (λ a b. name_order a.name b.name ≡ Less) (bounds_of_parts parts)
rise_seen parts rise =
    pairs_from_ascending (λ (a b : Bounded). name_order a.name b.name ≡ Less) (bounds_of_parts parts)
    (ascending-map (λ (a b : Bounded). name_order a.name b.name ≡ Less) bounded parts (ascending_from_pairs (λ (p q : Part). name_order p.name q.name ≡ Less) parts rise))

pub seen_by : (by : PartName → Option Extent) (parts : List Part) → AreInOrder parts → ((name : PartName) → bounds_of name parts ≡ by name) → AreBoundsBy by (bounds_of_parts parts)
seen_by by parts rise each = record { rise = rise_seen parts rise; each = λ name. bounds_seen name parts ∙ each name }

-- ---- names

lookup_alike : {X : Type 0} (p q : List ℕ → Bool) → ((name : List ℕ) → p name ≡ q name) → (all : List (List ℕ × X)) → lookup p all ≡ lookup q all
lookup_alike p q same [] = refl
lookup_alike {X} p q same (e ∷ all) = ap (λ (b : Bool). cond b (Some e.1) (lookup p all)) (same e.0) ∙ ap (λ (o : Option X). cond (q e.0) (Some e.1) o) (lookup_alike p q same all)

-- what has a name in a map whose values are seen so
pub named_seen : {X Y : Type 0} (see : X → Y) (all : BTreeMap (List ℕ) X) (name : List ℕ) → named name (map (λ e. (e.0, see e.1)) all.entries) ≡ option_map see (get text_order all name)
named_seen see all name =
    lookup-map_values see (bytes_eq name) all.entries
    ∙ ap (λ o. option_map see o) (lookup_alike (bytes_eq name) (λ other. is_eq (text_order name other)) (λ other. texts_ties name other) all.entries)

-- one got the name
pub named_more : {X Y : Type 0} (see : X → Y) (old new : BTreeMap (List ℕ) X) (name : List ℕ) (this : X) → ((other : List ℕ) → get text_order new other ≡ cond (is_eq (text_order name other)) (Some this) (get text_order old other))
    → IsNamed name (see this) (map (λ e. (e.0, see e.1)) old.entries) (map (λ e. (e.0, see e.1)) new.entries)
named_more {X} {Y} see old new name this updates other =
    named_seen see new other ∙ ap (λ o. option_map see o) (updates other)
    ∙ ap (λ (b : Bool). option_map see (cond b (Some this) (get text_order old other))) (sym (texts_ties name other) ∙ turned)
    ∙ go (bytes_eq other name)
    ∙ ap (λ (o : Option Y). if bytes_eq other name then Some (see this) else o) (sym (named_seen see old other))
  where
    turned : bytes_eq name other ≡ bytes_eq other name
    turned = text_turn name other

    go : (b : Bool) → option_map see (cond b (Some this) (get text_order old other)) ≡ (if b then Some (see this) else option_map see (get text_order old other))
    go true = refl
    go false = refl

-- ---- loads

pub published_seen : (by : ℕ) (load : Load) (old new : Holdings) (published : Published) → IsPublished by load old new published → (snaps : Snaps) (hulls : Hulls) → IsLoaded by load (state_of old snaps hulls) (state_of new snaps hulls)
published_seen by load old new published is snaps hulls = record {
  takes = is.takes;
  entries_are = is.entries_are;
  bounds_are = seen_by _ new.parts is.parts_are.rise (λ name. is.bounds_are name ∙ ap (λ o. bounds_next is.takes.past (change_of load is.takes.come) name o) (sym (bounds_seen name old.parts)));
  snapshots_are = refl;
  tickets_are = refl;
}

-- what was taken of a history was taken of a longer one
of_longer : (old new more : List Entry) (snap : Snap) → new ≡ old ++ more → IsOfHistory old snap → IsOfHistory new snap
of_longer old new more snap longer is = record {
  seen = is.seen;
  rest = is.rest ++ more;
  whole = longer ∙ ap (λ l. l ++ more) is.whole ∙ append_assoc is.seen is.rest more;
  is = is.is;
}

if_each : {X : Type 0} (P Q : X → Type 0) → ((x : X) → P x → Q x) → (o : Option X) → IfSome o P → IfSome o Q
if_each P Q f None is = tt
if_each P Q f (Some x) is = f x is

pub kept_longer : (old new : Holdings) (by : ℕ) (load : Load) (published : Published) → IsPublished by load old new published → ((hull : Hull) → IsTightOf old.entries hull → IsTightOf new.entries hull) → (snaps : Snaps) (hulls : Hulls) → IsKept old.entries snaps hulls → IsKept new.entries snaps hulls
kept_longer old new by load published is tight snaps hulls kept = record {
  past = change_of load is.takes.come ∷ is.takes.past;
  told = subst (λ l. Tells l (change_of load is.takes.come ∷ is.takes.past)) (sym (ap loads_of is.entries_are ∙ loads_more old.entries (entry_of by load))) (told_next (loads_of old.entries) is.takes.past (change_of load is.takes.come) is.takes.told is.takes.accepted);
  snapshots = λ name. if_each (IsOfHistory old.entries) (IsOfHistory new.entries) (λ snap. of_longer old.entries new.entries (entry_of by load ∷ []) snap is.entries_are) (get text_order snaps name) (kept.snapshots name);
  tickets = λ name. if_each (IsTightOf old.entries) (IsTightOf new.entries) tight (get text_order hulls name) (kept.tickets name);
}

-- ---- answers

-- what is said of an answer is weakened
pub each_ok : {A E : Type 0} (P Q : A → Type 0) → ((x : A) → P x → Q x) → (r : Result A E) → IfOk r P → IfOk r Q
each_ok P Q f (Ok x) is = f x is
each_ok P Q f (Err e) is = tt

-- ---- tickets

-- a hull that can be installed got a name
pub hulls_more : (entries : List Entry) (snaps : Snaps) (old new : Hulls) (name : List ℕ) (hull : Hull) → IsTightOf entries hull → ((other : List ℕ) → get text_order new other ≡ cond (is_eq (text_order name other)) (Some hull) (get text_order old other))
    → IsKept entries snaps old → IsKept entries snaps new
hulls_more entries snaps old new name hull tight updates kept = record {
  past = kept.past;
  told = kept.told;
  snapshots = kept.snapshots;
  tickets = λ other. subst (λ (o : Option Hull). IfSome o (IsTightOf entries)) (sym (updates other)) (go (is_eq (text_order name other)) (get text_order old other) (kept.tickets other));
}
  where
    go : (b : Bool) (o : Option Hull) → IfSome o (IsTightOf entries) → IfSome (cond b (Some hull) o) (IsTightOf entries)
    go true o is = tight
    go false o is = is

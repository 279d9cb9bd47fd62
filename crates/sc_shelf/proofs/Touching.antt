-- A touched part by its fields.
use Rattle.std.proofs.Common.{◌≡◌, ◌≢◌, ℕ, ◌≤◌, ◌==◌, true, false, true≢false, eq-eqb, List, [], ◌∷◌, take, drop, length, Some, None, refl, sym, ap, ◌∙◌, arith}
use Rattle.std.specs.Arc.{arc_value}
use Rattle.std.specs.declared.alloc.Global.{Global}
use Rattle.std.specs.declared.sync.Arc.{Arc}
use Rattle.std.proofs.lemmas.Bool.{eqb-true}
use Rattle.std.proofs.lemmas.List.{length-map, take_all}
use Rattle.sc_item.specs.Feature.{Feature}
use Rattle.sc_cut.specs.declared.name.PartName.{PartName}
use Rattle.sc_bounds.specs.Extent.{Extent}
use Rattle.sc_bounds.specs.Sets.{join_of}
use Rattle.sc_part.specs.Scan.{after, shared}
use Rattle.sc_part.specs.Version.{Version}
use Rattle.sc_history.specs.declared.addition.Addition.{Addition}
use Rattle.sc_history.specs.Changes.{is_among}
use Rattle.sc_history.specs.History.{first_revision}
use Rattle.sc_history.specs.Names.{hull_of, is_empty, scan_of}
use Rattle.sc_history.specs.Part.{Part}
use Rattle.sc_history.specs.Touch.{made, renewed, stamped, touched, unless_empty, widened}
use Rattle.sc_history.proofs.Scans.{scan_empty}
use Rattle.sc_shelf.specs.declared.change.PartChange.{PartChange}
use Rattle.sc_shelf.specs.Changed.{changed, come_by}

-- ---- a part by its fields

pub same_part : (a b : Part) → a.name ≡ b.name → a.stamp ≡ b.stamp → a.items ≡ b.items → a.bounds ≡ b.bounds → a.kept_from ≡ b.kept_from → a.additions ≡ b.additions → a ≡ b
same_part a b n s x y k d = λ i. record { name = n i; stamp = s i; items = x i; bounds = y i; kept_from = k i; additions = d i }

-- ---- a part that is made

none_of : {X : Type 0} (xs : List X) → length xs ≡ 0 → is_empty xs ≡ true
none_of [] e = refl
none_of (x ∷ xs) e = absurd (omega (arith, e))

some_of : {X : Type 0} (xs : List X) → length xs ≢ 0 → is_empty xs ≡ false
some_of [] ne = absurd (ne refl)
some_of (x ∷ xs) ne = refl

pub made_none : (revision : ℕ) (name : PartName) (come : List Feature) → length come ≡ 0 → None ≡ unless_empty (made revision name come)
made_none revision name come e = rw (scan_empty come, none_of come e) refl

pub made_some : (revision : ℕ) (name : PartName) (come : List Feature) (part : Part) → length come ≢ 0 → part ≡ made revision name come → Some part ≡ unless_empty (made revision name come)
made_some revision name come part ne is = rw (scan_empty come, some_of come ne) (ap (λ p. Some p) is)

pub touched_made : (revision : ℕ) (change : PartChange) → unless_empty (made revision change.name (come_by change)) ≡ changed revision change.name (Some change) None
unfolding touched
touched_made revision change = refl

-- ---- a part that changes

widened_items : (revision : ℕ) (come : List Feature) (part : Part) → (widened revision come part).items ≡ part.items
widened_items revision [] part = refl
widened_items revision (item ∷ come) part = refl

pub renewed_none : (revision : ℕ) (change : PartChange) (part : Part) → length (scan_of (renewed (is_among change.gone) (come_by change) part.items)) ≡ 0 → None ≡ changed revision change.name (Some change) (Some part)
unfolding touched
renewed_none revision change part e =
    rw (widened_items revision (come_by change) (stamped revision (scan_of (renewed (is_among change.gone) (come_by change) part.items)) part), none_of (scan_of (renewed (is_among change.gone) (come_by change) part.items)) e) refl

pub renewed_some : (revision : ℕ) (change : PartChange) (part new : Part) → length (scan_of (renewed (is_among change.gone) (come_by change) part.items)) ≢ 0
    → new ≡ widened revision (come_by change) (stamped revision (scan_of (renewed (is_among change.gone) (come_by change) part.items)) part) → Some new ≡ changed revision change.name (Some change) (Some part)
unfolding touched
renewed_some revision change part new ne is =
    rw (widened_items revision (come_by change) (stamped revision (scan_of (renewed (is_among change.gone) (come_by change) part.items)) part), some_of (scan_of (renewed (is_among change.gone) (come_by change) part.items)) ne)
    (ap (λ p. Some p) is)

-- nothing came
pub widened_none : (revision : ℕ) (come : List Feature) (part : Part) → length come ≡ 0 → part ≡ widened revision come part
widened_none revision [] part e = refl
widened_none revision (item ∷ come) part e = absurd (omega (arith, e))

-- something came
pub widened_some : (revision : ℕ) (come : List Feature) (part new : Part) (hull : Extent) → length come ≢ 0 → hull ≡ hull_of come → new ≡ record {
  name = part.name;
  stamp = part.stamp;
  items = part.items;
  bounds = join_of part.bounds hull;
  kept_from = first_revision part.kept_from (drop 63 part.additions);
  additions = take 64 (record { revision = revision; hull = hull } ∷ part.additions);
} → new ≡ widened revision come part
widened_some revision [] part new hull ne e is = absurd (ne refl)
widened_some revision (item ∷ come) part new hull ne e is = is ∙ ap (λ h. record {
  name = part.name;
  stamp = part.stamp;
  items = part.items;
  bounds = join_of part.bounds h;
  kept_from = first_revision part.kept_from (drop 63 part.additions);
  additions = take 64 (record { revision = revision; hull = h } ∷ part.additions);
}) e

-- ---- by what the code finds

pub shared_none : (items : List (Arc Feature Global)) → true ≡ (length items == 0) → length (shared items) ≡ 0
shared_none items e = length-map items arc_value ∙ eqb-true (length items) 0 (sym e)

pub shared_some : (items : List (Arc Feature Global)) → false ≡ (length items == 0) → length (shared items) ≢ 0
shared_some items e none = true≢false (sym (eq-eqb (length items) 0 (sym (length-map items arc_value) ∙ none)) ∙ sym e)

-- with the newest at most 64 are kept
pub kept_all : (newest : Addition) (old : List Addition) (i : ℕ) → length old ≤ i → i ≤ 63 → newest ∷ take i old ≡ take 64 (newest ∷ old)
kept_all newest old i le few = ap (λ l. newest ∷ l) (take_all i old le ∙ sym (take_all 63 old (omega (arith, le, few))))

-- the items of the version that the code makes
pub renewed_items : (gone gone' : List (List ℕ)) (come come' : List (Arc Feature Global)) (items old old' : List Feature) → gone' ≡ gone → come' ≡ come → old' ≡ old → items ≡ scan_of (after gone' (shared come') old')
    → items ≡ scan_of (renewed (is_among gone) (shared come) old)
renewed_items gone gone' come come' items old old' g m o is =
    is ∙ ap (λ l. scan_of (after l (shared come') old')) g ∙ ap (λ l. scan_of (after gone (shared l) old')) m ∙ ap (λ l. scan_of (after gone (shared come) l)) o

pub widened_by : (revision : ℕ) (come : List Feature) (old new : Part) (version : Version) (hull : Extent) → length come ≢ 0 → hull ≡ hull_of come → version.name ≡ old.name → version.stamp ≡ revision
    → new ≡ record {
      name = version.name;
      stamp = version.stamp;
      items = version.items;
      bounds = join_of old.bounds hull;
      kept_from = first_revision old.kept_from (drop 63 old.additions);
      additions = take 64 (record { revision = revision; hull = hull } ∷ old.additions);
    } → new ≡ widened revision come (stamped revision version.items old)
widened_by revision come old new version hull ne is name stamp e =
    widened_some revision come (stamped revision version.items old) new hull ne is
    (e ∙ (λ i. record {
      name = name i;
      stamp = stamp i;
      items = version.items;
      bounds = join_of old.bounds hull;
      kept_from = first_revision old.kept_from (drop 63 old.additions);
      additions = take 64 (record { revision = revision; hull = hull } ∷ old.additions);
    }))

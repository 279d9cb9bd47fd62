-- What an install answers, and the bounds that it leaves. It brings the hull that a part's items had at some revision.
use Rattle.std.specs.Prelude.{◌≡◌, ℕ, ◌==◌, nat_lt, List, Option, Some, None, filter, if◌then◌else◌}
use Rattle.std.specs.Option.{option_map}
use Rattle.sc_cut.specs.declared.name.PartName.{PartName}
use Rattle.sc_bounds.specs.Extent.{Extent}
use Rattle.sc_bounds.specs.Sets.{meet_of}
use Rattle.sc_history.specs.declared.addition.Addition.{Addition}
use Rattle.sc_history.specs.declared.installed.Installed.{Installed}
use Rattle.sc_history.specs.declared.installed.Installed.TheVariants.{Exact, Joined, TooOld, Gone}
use Rattle.sc_history.specs.Changes.{Change}
use Rattle.sc_history.specs.Names.{is_empty, is_name, part_of}
use Rattle.sc_history.specs.History.{replay, stamp, added, kept_from, join_all}
use Rattle.sc_history.specs.Part.{Part, lookup, AreInOrder}

-- the additions after a revision
abbrev pub later : ℕ → List Addition → List Addition
later revision = filter (λ a. nat_lt revision a.revision)

-- Gone where there is no such part; Exact where nothing changed it since; TooOld where an addition since isn't kept; else Joined
abbrev pub answer : ℕ → Option Part → Installed
answer stamp None = Gone
answer stamp (Some part) = if stamp == part.stamp then Exact else if nat_lt stamp part.kept_from then TooOld part.kept_from else Joined

-- what lies within the bounds, and within the hull or an addition since
abbrev pub joined_bounds : ℕ → Extent → Part → Extent
joined_bounds stamp hull part = meet_of part.bounds (join_all hull (later stamp part.additions))

-- the bounds after it: an exact install puts the hull
abbrev pub bounds_after : ℕ → Extent → Part → Extent
bounds_after stamp hull part =
    if stamp == part.stamp then hull else if nat_lt stamp part.kept_from then part.bounds else joined_bounds stamp hull part

abbrev pub with_bounds : Extent → Part → Part
with_bounds bounds part = record {
  name = part.name;
  stamp = part.stamp;
  items = part.items;
  bounds = bounds;
  kept_from = part.kept_from;
  additions = part.additions;
}

-- the part after it
abbrev pub installed : ℕ → Extent → Part → Part
installed stamp hull part = with_bounds (bounds_after stamp hull part) part

-- the parts after it: only the one with the name has other bounds
pub record AreInstalled (name : PartName) (stamp : ℕ) (hull : Extent) (old new : List Part) : Type 0 where
  pub rise : AreInOrder new
  pub each : (other : PartName) → lookup other new ≡ (if is_name name other then option_map (installed stamp hull) (lookup name old) else lookup other old)

-- ---- the same by the history alone

-- Gone where the name has no items; Exact where its stamp is this revision; TooOld where an addition since isn't kept; else Joined
abbrev pub answer_in : List Change → PartName → ℕ → Installed
answer_in past name revision =
    if is_empty (part_of (replay past) name) then Gone
    else if revision == stamp past name then Exact
    else if nat_lt revision (kept_from past name) then TooOld (kept_from past name)
    else Joined

-- the bounds that it leaves of these: where it is joined, what lies within them, and within the hull or one of all additions since
abbrev pub bounds_in : List Change → PartName → ℕ → Extent → Extent → Extent
bounds_in past name revision hull bounds =
    if revision == stamp past name then hull
    else if nat_lt revision (kept_from past name) then bounds
    else meet_of bounds (join_all hull (later revision (added past name)))

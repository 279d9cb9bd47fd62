-- What a history of loads says of its content and of each part. A history is told as the changes that its loads made, the newest first; its length is its revision.
use Rattle.std.specs.Prelude.{ℕ, ◌+◌, ◌-◌, Bool, not, ◌&&◌, ◌||◌, nat_lt, List, [], ◌∷◌, length, filter, drop, if◌then◌else◌}
use Rattle.std.specs.List.{list_any}
use Rattle.sc_item.specs.Feature.{Feature}
use Rattle.sc_cut.specs.declared.name.PartName.{PartName}
use Rattle.sc_bounds.specs.Extent.{Extent, empty}
use Rattle.sc_bounds.specs.Sets.{join_of}
use Rattle.sc_history.specs.Content.{Content, nothing}
use Rattle.sc_history.specs.Changes.{Change, apply, goes}
use Rattle.sc_history.specs.Names.{belongs, part_of, is_empty, hull_of}
use Rattle.sc_history.specs.declared.addition.Addition.{Addition}

-- the content that the changes make of nothing
unfoldable pub replay : List Change → Content
replay [] = nothing
replay (change ∷ past) = apply (replay past) change

-- the changes up to a revision
unfoldable pub back : ℕ → List Change → List Change
back revision [] = []
back revision (change ∷ past) = if nat_lt revision (length past + 1) then back revision past else change ∷ past

-- the items that a change puts into a part
abbrev pub comes : Content → Change → PartName → List Feature
comes content change name = filter (belongs (apply content change).collections name) change.come

-- a change touches a part where it puts items into it or takes some out
abbrev pub touches : Content → Change → PartName → Bool
touches content change name = not (is_empty (comes content change name)) || list_any (goes change.load) (part_of content name)

-- the last revision that touched the part, or 0
unfoldable pub stamp : List Change → PartName → ℕ
stamp [] name = 0
stamp (change ∷ past) name = if touches (replay past) change name then length past + 1 else stamp past name

-- whether a change makes the part, which was empty before and isn't after
abbrev pub makes : Content → Change → PartName → Bool
makes content change name = is_empty (part_of content name) && not (is_empty (part_of (apply content change) name))

-- the last revision that made the part, or 0
unfoldable pub birth : List Change → PartName → ℕ
birth [] name = 0
birth (change ∷ past) name = if makes (replay past) change name then length past + 1 else birth past name

-- the revisions that put items into the part, with the hulls of these items, the newest first
unfoldable pub added : List Change → PartName → List Addition
added [] name = []
added (change ∷ past) name =
    if is_empty (comes (replay past) change name) then added past name
    else record { revision = length past + 1; hull = hull_of (comes (replay past) change name) } ∷ added past name

-- those since it was last made
abbrev pub additions : List Change → PartName → List Addition
additions past name = filter (λ a. not (nat_lt a.revision (birth past name))) (added past name)

abbrev pub first_revision : ℕ → List Addition → ℕ
first_revision otherwise [] = otherwise
first_revision otherwise (a ∷ more) = a.revision

-- the revision of the newest addition that isn't among the last 64, or the revision before the part was made
abbrev pub kept_from : List Change → PartName → ℕ
kept_from past name = first_revision (birth past name - 1) (drop 64 (additions past name))

-- bounds, and the hulls of additions
abbrev pub join_all : Extent → List Addition → Extent
join_all bounds [] = bounds
join_all bounds (a ∷ more) = join_of a.hull (join_all bounds more)

-- the hulls of all that was put into the part since it was last made
abbrev pub loose : List Change → PartName → Extent
loose past name = join_all empty (additions past name)

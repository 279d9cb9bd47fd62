-- What an install of a hull makes of a catalogue.
use Rattle.std.specs.Prelude.{◌≡◌, List, Option, Some, None}
use Rattle.std.specs.Option.{option_map}
use Rattle.sc_cut.specs.declared.name.PartName.{PartName}
use Rattle.sc_bounds.specs.Sets.{IsWithin}
use Rattle.sc_history.specs.Changes.{Change}
use Rattle.sc_history.specs.Part.{Part, bounds_of, lookup}
use Rattle.sc_history.specs.Installs.{AreInstalled, bounds_in}
use Rattle.sc_shelf.specs.Ticket.{Hull}
use Rattle.sc_catalog.specs.Entries.{TellsOf}
use Rattle.sc_catalog.specs.Holdings.{Holdings}

-- a part stays there or away, and its bounds become no wider
abbrev pub IsNoWider : Option Part → Option Part → Type 0
IsNoWider None None = Unit {0}
IsNoWider None (Some new) = ⊥
IsNoWider (Some old) None = ⊥
IsNoWider (Some old) (Some new) = IsWithin new.bounds old.bounds

-- the part with the hull's name has the bounds that the install leaves, by the history of the loads too, and nothing else changes
pub record IsInstalled (hull : Hull) (old new : Holdings) : Type 0 where
  pub entries_are : new.entries ≡ old.entries
  pub collections_are : new.collections ≡ old.collections
  pub parts_are : AreInstalled hull.name hull.stamp hull.bounds old.parts new.parts
  pub bounds_are : (past : List Change) → TellsOf old.entries past → bounds_of hull.name new.parts ≡ option_map (bounds_in past hull.name hull.stamp hull.bounds) (bounds_of hull.name old.parts)
  pub narrower : (name : PartName) → IsNoWider (lookup name old.parts) (lookup name new.parts)

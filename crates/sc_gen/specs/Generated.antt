-- The load that a seed, a number and a count make: an insert of so many items, each of which its document spells.
use Rattle.std.specs.Prelude.{◌≡◌, ℕ, List, map}
use Rattle.std.specs.List.{AllZip, range_with_len}
use Rattle.std.specs.Arc.{arc_value}
use Rattle.sc_json.specs.declared.tree.Json.{Json}
use Rattle.sc_json.specs.Spells.{Spells}
use Rattle.sc_time.specs.Written.{IsWritten}
use Rattle.sc_item.specs.Feature.{Feature}
use Rattle.sc_item.specs.Reading.{IsItem}
use Rattle.sc_load.specs.declared.load.Load.{Load}
use Rattle.sc_load.specs.declared.load.Load.TheVariants.{AddCollection, DropCollection, Insert, Upsert, Replace, Patch, Delete}
use Rattle.sc_gen.specs.declared.draw.Draw.{Draw}
use Rattle.sc_gen.specs.Draws.{draw_at, moment_of}
use Rattle.sc_gen.specs.Document.{collection_of, document_text}

-- the text is the document of an item with these words
pub record IsDocument (collection : List ℕ) (load number : ℕ) (draw : Draw) (text : List ℕ) : Type 0 where
  pub moment : List ℕ
  pub moment_is : IsWritten (moment_of draw.moment) moment
  pub text_is : text ≡ document_text collection load number draw moment

-- the text spells the item in the collection
pub record IsSpelled (collection : List ℕ) (text : List ℕ) (item : Feature) : Type 0 where
  pub tree : Json
  pub spelled : Spells text tree
  pub item_is : IsItem collection tree item

-- the item of a number in a load
pub record IsGeneratedItem (seed load number : ℕ) (item : Feature) : Type 0 where
  pub text : List ℕ
  pub document : IsDocument (collection_of load) load number (draw_at seed load number) text
  pub item_is : IsSpelled (collection_of load) text item

-- the items of the numbers below a count, in their order
abbrev pub AreGeneratedItems : ℕ → ℕ → ℕ → List Feature → Type 0
AreGeneratedItems seed load count items = AllZip (IsGeneratedItem seed load) (range_with_len 0 count) items

-- an insert of them into the load's collection
abbrev pub IsGenerated : ℕ → ℕ → ℕ → Load → Type 0
IsGenerated seed load count (AddCollection id cut tree) = ⊥
IsGenerated seed load count (DropCollection id) = ⊥
IsGenerated seed load count (Insert collection items) = (collection ≡ collection_of load) × AreGeneratedItems seed load count (map arc_value items)
IsGenerated seed load count (Upsert collection items) = ⊥
IsGenerated seed load count (Replace collection item) = ⊥
IsGenerated seed load count (Patch collection id patch) = ⊥
IsGenerated seed load count (Delete collection id) = ⊥

-- What an index finds, as tests of a content's items.
use Rattle.std.proofs.Common.{◌≡◌, ℕ, Bool, true, false, cond, ◌||◌, List, [], ◌∷◌, Option, Some, None, find, option_map, refl, ap, ◌∙◌}
use Rattle.std.specs.Option.{is_some}
use Rattle.std.specs.List.{list_any}
use Rattle.sc_item.specs.Feature.{Feature}
use Rattle.sc_history.specs.Content.{is_item, has_item}
use Rattle.sc_index.specs.declared.index.ItemIndex.{ItemIndex}
use Rattle.sc_index.specs.Found.{Indexes, found}

pub some_found : {X : Type 0} (p : X → Bool) (xs : List X) → is_some (find p xs) ≡ list_any p xs
some_found p [] = refl
some_found p (x ∷ xs) = go (p x) (some_found p xs)
  where
    go : (b : Bool) → is_some (find p xs) ≡ list_any p xs → is_some (cond b (Some x) (find p xs)) ≡ (b || list_any p xs)
    go true e = refl
    go false e = e

pub some_mapped : {X Y : Type 0} (f : X → Y) (o : Option X) → is_some o ≡ is_some (option_map f o)
some_mapped f None = refl
some_mapped f (Some x) = refl

-- whether something is found
pub some_there : {X : Type 0} (f : X → Feature) (o : Option X) (content : List Feature) (index : ItemIndex) (collection id : List ℕ) → Indexes content index → option_map f o ≡ found index collection id
    → is_some o ≡ has_item content collection id
some_there f o content index collection id is e = some_mapped f o ∙ (ap is_some (e ∙ is.each collection id) ∙ some_found (is_item collection id) content)

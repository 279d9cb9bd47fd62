-- The collection that a document describes: its id, and how it is cut into parts.
use Rattle.std.specs.Prelude.{◌≡◌, ℕ, List, Option, Some, None}
use Rattle.sc_json.specs.declared.tree.Json.{Json}
use Rattle.sc_json.specs.Member.{member_value}
use Rattle.sc_item.specs.Trees.{text_of}
use Rattle.sc_item.specs.Reading.{IsId}
use Rattle.sc_cut.specs.declared.cut.Cut.{Cut}
use Rattle.sc_cut.specs.declared.cut.Cut.TheVariants.{Whole, Year, Month}
use Rattle.sc_load.specs.Words.{cut_name, whole_word, year_word, month_word}

-- the word for a cut
abbrev pub word_of : Cut → List ℕ
word_of Whole = whole_word
word_of Year = year_word
word_of Month = month_word

-- the value is the word for the cut
abbrev pub NamesCut : Json → Cut → Type 0
NamesCut value cut = text_of value ≡ Some (word_of cut)

-- the member `catalogue:cut` names the cut; where it is missing, the collection is whole
abbrev pub IsCutOf : Option Json → Cut → Type 0
IsCutOf None cut = cut ≡ Whole
IsCutOf (Some value) cut = NamesCut value cut

-- an object with an `id`, a text of 1 to 256 bytes, and a cut
pub record IsCollection (tree : Json) (id : List ℕ) (cut : Cut) : Type 0 where
  pub id_is : IsId tree id
  pub cut_is : IsCutOf (member_value tree cut_name) cut

abbrev pub IsNoCollection : Json → Type 0
IsNoCollection tree = (id : List ℕ) (cut : Cut) → IsCollection tree id cut → ⊥

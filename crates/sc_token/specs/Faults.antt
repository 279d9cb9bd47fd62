-- The faults that a step of reading may answer.
use Rattle.std.specs.Prelude.{ℕ, List}
use Rattle.sc_json.specs.declared.tree.Json.{Json}
use Rattle.sc_json.specs.declared.tree.Json.TheVariants as trees
use Rattle.sc_json.specs.Spells.{Spells}
use Rattle.sc_json.specs.declared.fault.JsonFault.{JsonFault}
use Rattle.sc_json.specs.declared.fault.JsonFault.TheVariants as json
use Rattle.sc_token.specs.declared.fault.TokenFault.{TokenFault}
use Rattle.sc_token.specs.declared.fault.TokenFault.TheVariants.{NotHex, NotAList, WrongCount, WrongKind, OutOfMemory}
use Rattle.sc_token.specs.Reading.{IsHex}

abbrev pub IsNotHex : List ℕ → TokenFault → Type 0
IsNotHex text NotHex = IsHex text → ⊥
IsNotHex text NotAList = ⊥
IsNotHex text (WrongCount count) = ⊥
IsNotHex text WrongKind = ⊥
IsNotHex text OutOfMemory = Unit {0}

abbrev pub IsNoList : List ℕ → TokenFault → Type 0
IsNoList bytes NotHex = ⊥
IsNoList bytes NotAList = (elements : List Json) → Spells bytes (trees.List elements) → ⊥
IsNoList bytes (WrongCount count) = ⊥
IsNoList bytes WrongKind = ⊥
IsNoList bytes OutOfMemory = Unit {0}

-- a text that is no JSON is no list
abbrev pub fault_for : JsonFault → TokenFault
fault_for (json.Syntax at) = NotAList
fault_for (json.Duplicate at) = NotAList
fault_for (json.TooDeep at) = NotAList
fault_for (json.NumberTooWide at) = NotAList
fault_for (json.NotUtf8 at) = NotAList
fault_for json.OutOfMemory = OutOfMemory

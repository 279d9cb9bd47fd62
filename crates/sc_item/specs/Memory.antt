-- Faults that are want of memory.
use Rattle.std.specs.Prelude.{Bool, true, false}
use Rattle.sc_json.specs.declared.fault.JsonFault.{JsonFault}
use Rattle.sc_json.specs.declared.fault.JsonFault.TheVariants as json
use Rattle.sc_item.specs.declared.fault.ItemFault.{ItemFault}
use Rattle.sc_item.specs.declared.fault.ItemFault.TheVariants.{NotAFeature, BadId, WrongCollection, BadTime, BadGeometry, OutOfMemory}

abbrev pub is_memory : ItemFault → Bool
is_memory NotAFeature = false
is_memory BadId = false
is_memory WrongCollection = false
is_memory BadTime = false
is_memory (BadGeometry fault) = false
is_memory OutOfMemory = true

abbrev pub is_text_memory : JsonFault → Bool
is_text_memory (json.Syntax at) = false
is_text_memory (json.Duplicate at) = false
is_text_memory (json.TooDeep at) = false
is_text_memory (json.NumberTooWide at) = false
is_text_memory (json.NotUtf8 at) = false
is_text_memory json.OutOfMemory = true

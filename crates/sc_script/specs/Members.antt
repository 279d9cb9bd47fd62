-- What the members of a step's object (RFC 8259 §4) give: texts, names, whole numbers, and parts of the tree.
use Rattle.std.specs.Prelude.{ℕ, ℤ, pos, negsuc, Bool, true, false, ◌==◌, ◌&&◌, ◌||◌, nat_le, int_le, if◌then◌else◌, List, length, Option, Some, None}
use Rattle.std.specs.List.{list_any}
use Rattle.sc_decimal.specs.Number.{integer_of}
use Rattle.sc_json.specs.declared.tree.Json.{Json}
use Rattle.sc_json.specs.declared.tree.Num.{Num}
use Rattle.sc_json.specs.declared.tree.Json.TheOpen as layer
use Rattle.sc_json.specs.declared.tree.Json.TheOpen.{Json-F}
use Rattle.sc_json.specs.declared.tree.Json.TheViews.{out-Json}
use Rattle.sc_json.specs.declared.tree.Member.{Member}
use Rattle.sc_json.specs.Member.{members_of}

-- whether the tree is an object with so many members; the names of a good tree's members differ
abbrev pub has_size : ℕ → Json → Bool
has_size size tree = length (members_of (out-Json tree)) == size

-- ---- names

-- a name has 1 to 64 bytes
abbrev pub as_name : List ℕ → Option (List ℕ)
as_name text = if nat_le 1 (length text) && nat_le (length text) 64 then Some text else None

-- ---- whole numbers

-- a byte that stands in a fraction or an exponent alone: `+`, `.`, `E`, `e`
abbrev pub is_mark : ℕ → Bool
is_mark byte = (byte == 43) || ((byte == 46) || ((byte == 69) || (byte == 101)))

-- a number without fraction and exponent
abbrev pub whole_number : Num → Option ℤ
whole_number number = if list_any is_mark number.literal then None else integer_of number.dec

abbrev pub whole_in : Json-F Json Member → Option ℤ
whole_in (layer.Number number) = whole_number number
whole_in _ = None

-- the whole number that a tree is
unfoldable pub whole_of : Json → Option ℤ
whole_of tree = whole_in (out-Json tree)

-- the number of who publishes
abbrev pub publisher : ℤ → Option ℕ
publisher (pos n) = if nat_le n 4_294_967_295 then Some n else None
publisher (negsuc n) = None

-- the key of a part
abbrev pub part_key : ℤ → Option ℤ
part_key key = if int_le (negsuc 2_147_483_647) key && int_le key (pos 2_147_483_647) then Some key else None

-- ---- kinds of trees

abbrev pub object_in : Json-F Json Member → Bool
object_in (layer.Object members) = true
object_in _ = false

-- the tree, if it is an object
unfoldable pub as_object : Json → Option Json
as_object tree = if object_in (out-Json tree) then Some tree else None

-- Good trees, which are all that a reader gives: the names in each object differ (RFC 8259 §4), each number is as it was
-- sent (§6), texts and names are UTF-8 (§8.1), and lists and objects nest at most 64 deep.
use Rattle.std.specs.Prelude.{◌≡◌, ◌≢◌, ℕ, ◌+◌, ◌≤◌, max, List, [], ◌∷◌, false, AllPairs, IsUtf8}
use Rattle.sc_decimal.specs.Value.{number_of, is_wide}
use Rattle.sc_json.specs.declared.tree.Num.{Num}
use Rattle.sc_json.specs.declared.tree.Json.{Json}
use Rattle.sc_json.specs.declared.tree.Json.TheOpen as layer
use Rattle.sc_json.specs.declared.tree.Json.TheOpen.{Json-F, Member-F}
use Rattle.sc_json.specs.declared.tree.Json.TheFolds.{fold-Json, every-Json}
use Rattle.sc_json.specs.declared.tree.Member.{Member, out-Member}
use Rattle.sc_json.specs.Grammar.{Literal}

-- ---- depth

-- the greatest of the numbers; 0 of none
abbrev pub greatest : List ℕ → ℕ
greatest [] = 0
greatest (n ∷ ns) = max n (greatest ns)

-- one level, with the depth of each child in its place
abbrev pub level_depth : Json-F ℕ ℕ → ℕ
level_depth layer.Null = 0
level_depth (layer.Truth b) = 0
level_depth (layer.Number n) = 0
level_depth (layer.Text t) = 0
level_depth (layer.List depths) = greatest depths + 1
level_depth (layer.Object depths) = greatest depths + 1

abbrev pub member_depth : Member-F ℕ ℕ → ℕ
member_depth m = m.value

-- a scalar has depth 0, and a list or an object is one deeper than the deepest value in it
abbrev pub depth : Json → ℕ
depth = fold-Json ℕ ℕ level_depth member_depth

-- ---- levels

-- the literal is a number of the grammar, which is read as this decimal number
pub record IsAsSent (n : Num) : Type 0 where
  pub literal : Literal n.literal
  pub reads : n.dec ≡ number_of n.literal
  pub narrow : is_wide n.literal ≡ false

abbrev pub NamesDiffer : List Member → Type 0
NamesDiffer ms = AllPairs (λ a b. (out-Member a).name ≢ (out-Member b).name) ms

abbrev pub IsGoodLevel : Json-F Json Member → Type 0
IsGoodLevel layer.Null = Unit {0}
IsGoodLevel (layer.Truth b) = Unit {0}
IsGoodLevel (layer.Number n) = IsAsSent n
IsGoodLevel (layer.Text t) = IsUtf8 t
IsGoodLevel (layer.List ts) = Unit {0}
IsGoodLevel (layer.Object ms) = NamesDiffer ms

abbrev pub IsGoodMember : Member-F Json Member → Type 0
IsGoodMember m = IsUtf8 m.name

pub record Good (tree : Json) : Type 0 where
  pub levels : every-Json IsGoodLevel IsGoodMember tree
  pub shallow : depth tree ≤ 64

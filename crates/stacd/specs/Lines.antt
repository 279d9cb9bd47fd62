-- Which lines of the input are items, and which line is the first bad one.
use Rattle.std.specs.Prelude.{◌≡◌, ℕ, ◌+◌, ◌^◌, ◌≤◌, List, [], ◌∷◌, ◌++◌, length}
use Rattle.std.specs.List.{AllZip, concat}
use Rattle.sc_outside.specs.Lines.{without_feed}
use Rattle.sc_item.specs.Feature.{Feature}
use Rattle.sc_item.specs.Line.{IsLine}
use Rattle.sc_item.specs.Names.{AreApart}
use Rattle.sc_page.specs.Order.{default_order}
use Rattle.sc_page.specs.Page.{every_item, IsFlatPage}
use Rattle.stacd.specs.declared.fault.LineFault.{LineFault}
use Rattle.stacd.specs.declared.fault.LineFault.TheVariants.{BadLine, OutOfMemory}

-- each line spells its item, and the lines are within the limits
pub record AreSpelled (lines : List (List ℕ)) (items : List Feature) : Type 0 where
  pub each : AllZip (λ line item. IsLine (without_feed line) item) lines items
  pub few : length lines ≤ 1000000
  pub short : length (concat lines) ≤ 2 ^ 28

-- the items of the lines, no two of which have one name
pub record AreItems (lines : List (List ℕ)) (items : List Feature) : Type 0 where
  pub spelled : AreSpelled lines items
  pub apart : AreApart items

-- the lines are items, and this is their page
pub record ArePaged (lines : List (List ℕ)) (limit : ℕ) (page : List Feature) : Type 0 where
  pub items : List Feature
  pub are : AreItems lines items
  pub flat : IsFlatPage every_item default_order limit items page

-- line n, from 1, is the first that can't stand with those before it
pub record IsFirstBad (lines : List (List ℕ)) (n : ℕ) : Type 0 where
  pub before : List (List ℕ)
  pub line : List ℕ
  pub after : List (List ℕ)
  pub place : lines ≡ before ++ (line ∷ after)
  pub number : n ≡ length before + 1
  pub good : (items : List Feature) × AreItems before items
  pub bad : (items : List Feature) → AreItems (before ++ (line ∷ [])) items → ⊥

-- what a fault says of the lines; want of memory says nothing
abbrev pub IsFault : List (List ℕ) → LineFault → Type 0
IsFault lines (BadLine n) = IsFirstBad lines n
IsFault lines OutOfMemory = Unit {0}

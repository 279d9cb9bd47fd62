-- How deep the parentheses of tokens nest.
use Rattle.std.specs.Prelude.{ℕ, max, List, [], ◌∷◌}
use Rattle.sc_grammar.specs.declared.token.Token.{Token}
pub use Rattle.sc_wkt.specs.Levels.{level_behind}

-- the most that are open at once, where so many are at the front
abbrev pub deepest_from : ℕ → List Token → ℕ
deepest_from level [] = level
deepest_from level (t ∷ ts) = max level (deepest_from (level_behind t.class level) ts)

abbrev pub deepest : List Token → ℕ
deepest tokens = deepest_from 0 tokens

-- What the tokens of a text come to, whatever literals can't be read.
use Rattle.std.specs.Prelude.{ℕ, ◌<◌, ◌≤◌, List, Bool}
use Rattle.sc_grammar.specs.declared.token.Token.{Token}
use Rattle.sc_cqlread.specs.declared.taking.End.{End}
use Rattle.sc_cqlread.specs.declared.taking.End.TheVariants.{Whole, Broken, TooDeep}
use Rattle.sc_cqlread.specs.Tokens.{AreTokensFrom}
use Rattle.sc_cqlread.specs.Nesting.{deepest}
use Rattle.sc_cqlread.specs.Reading.{Reading}
use Rattle.sc_cqlread.specs.Filters.{Makes, Breaks}

abbrev pub Ends : List ℕ → Bool → End → Reading → Type 0
Ends chars is_whole Whole made = (tokens : List Token) × AreTokensFrom chars is_whole 0 tokens × (deepest tokens ≤ 64) × Makes chars tokens made
Ends chars is_whole (Broken place) made = (tokens : List Token) × AreTokensFrom chars is_whole 0 tokens × (deepest tokens ≤ 64) × Breaks chars tokens place made
Ends chars is_whole TooDeep made = (tokens : List Token) × AreTokensFrom chars is_whole 0 tokens × (64 < deepest tokens)

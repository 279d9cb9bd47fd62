-- What spells a good tree: a JSON text (RFC 8259 §2) of it.
use Rattle.std.specs.Prelude.{ℕ, List}
use Rattle.sc_json.specs.declared.tree.Json.{Json}
use Rattle.sc_json.specs.Grammar.{Padded}
use Rattle.sc_json.specs.Good.{Good}

pub record Spells (bytes : List ℕ) (tree : Json) : Type 0 where
  pub text : Padded bytes tree
  pub good : Good tree

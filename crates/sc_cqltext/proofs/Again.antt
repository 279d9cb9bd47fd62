-- A text with the bytes that are written of a filter is read as that filter.
use Rattle.std.proofs.Common.{◌≡◌, ℕ, List, false, sym, subst, IsUtf8}
use Rattle.sc_expr.specs.declared.expr.Expr.{Expr}
use Rattle.sc_expr.specs.Filter.{IsFilter}
use Rattle.sc_cqlread.specs.Filters.{IsCqlText}
use Rattle.sc_cqlwrite.specs.Written.{tokens_of, written}
use Rattle.sc_cqlwrite.specs.Spellable.{some_text_ends}
use Rattle.sc_cqlback.proofs.Expressions.{filter_lexical}
use Rattle.sc_cqlback.proofs.Readings.{text_read}
use Rattle.sc_cqltext.proofs.Whole.{read_as}

pub read_again : (expr : Expr) (text : List ℕ) → IsFilter expr → some_text_ends expr ≡ false → IsUtf8 text → text ≡ written expr → IsCqlText text expr
read_again expr text is ends utf8 same =
    subst (λ (t : List ℕ). IsCqlText t expr) (sym same)
    (read_as expr is (subst (λ (t : List ℕ). IsUtf8 t) same utf8) (text_read (tokens_of expr) (filter_lexical expr is ends)))

use Rattle.std.proofs.Common.{sym, ap, ◌∙◌}
use Rattle.sc_expr.specs.declared.expr.Expr.{Expr}
use Rattle.sc_cqlwrite.specs.Spelling.{Spelled, with_tokens}
use Rattle.sc_cqlwrite.specs.Written.{tokens_of, written}
use Rattle.sc_cqlwrite.specs.Spellable.{some_text_ends}
use Rattle.sc_cqlwrite.proofs.Spellings.{text_spelled}
use Rattle.sc_cqlwrite.proofs.write.write_text.Goals as goal

pub returns : goal.returns
returns c =
    let expr : Expr = c.expr-expr.result.now in (
      c.into_text.ensures
          ∙ ap (λ (s : Spelled). s.bytes) (c.in_ok-push_expr.ensures ∙ ap (λ (s : Spelled). with_tokens s (tokens_of expr)) c.new-out.ensures)
          ∙ text_spelled (tokens_of expr) ∙ ap (λ (e : Expr). written e) c.expr-expr.ensures.expr,
      sym (c.some_text_ends.ensures ∙ ap (λ (e : Expr). some_text_ends e) c.expr-expr.ensures.expr) ∙ c.if-some_text_ends.false,
    )

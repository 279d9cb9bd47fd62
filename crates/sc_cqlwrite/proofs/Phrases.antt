-- The tokens of a folded scalar, and of And and Or, by those of their members.
use Rattle.std.proofs.Common.{◌≡◌, List, map, codes, sym, ap, ◌∙◌}
use Rattle.std.proofs.lemmas.Simd.{map-map}
use Rattle.sc_expr.specs.declared.scalar.Scalar.{Scalar}
use Rattle.sc_expr.specs.declared.scalar.Scalar.TheVariants as scalars
use Rattle.sc_expr.specs.declared.scalar.Scalar.TheOpen as inner
use Rattle.sc_expr.specs.declared.scalar.Scalar.TheFolds.{fold-roll-Scalar}
use Rattle.sc_expr.specs.declared.expr.Expr.{Expr}
use Rattle.sc_expr.specs.declared.expr.Expr.TheVariants as exprs
use Rattle.sc_expr.specs.declared.expr.Expr.TheOpen as outer
use Rattle.sc_expr.specs.declared.expr.Expr.TheFolds.{fold-roll-Expr}
use Rattle.sc_cqlwrite.specs.Tokens as tokens
use Rattle.sc_cqlwrite.specs.Tokens.{Token, between}
use Rattle.sc_cqlwrite.specs.Scalars.{scalar_level, scalar_tokens, folded_tokens}
use Rattle.sc_cqlwrite.specs.Written.{Phrase, level, member_of, phrase_of, member_tokens, tokens_of}

pub folded_scalar : (scalar : Scalar) → scalar_tokens (scalars.Folded scalar) ≡ folded_tokens (scalar_tokens scalar)
folded_scalar scalar =
    ap scalar_tokens (sym (scalars.rolls-Folded scalar)) ∙ fold-roll-Scalar (List Token) scalar_level (inner.Folded scalar)

pub and_tokens : (members : List Expr) → tokens_of (exprs.And members) ≡ between (tokens.word (codes "AND")) (map member_tokens members)
and_tokens members =
    ap tokens_of (sym (exprs.rolls-And members)) ∙ ap (λ (p : Phrase). p.tokens) (fold-roll-Expr Phrase level (outer.And members))
    ∙ ap (between (tokens.word (codes "AND"))) (map-map member_of phrase_of members)

pub or_tokens : (members : List Expr) → tokens_of (exprs.Or members) ≡ between (tokens.word (codes "OR")) (map member_tokens members)
or_tokens members =
    ap tokens_of (sym (exprs.rolls-Or members)) ∙ ap (λ (p : Phrase). p.tokens) (fold-roll-Expr Phrase level (outer.Or members))
    ∙ ap (between (tokens.word (codes "OR"))) (map-map member_of phrase_of members)

use Rattle.std.proofs.Common.{sym, ap, subst, ◌∙◌}
use Rattle.sc_grammar.specs.Tokens.{IsNext}
use Rattle.sc_grammar.specs.Lexing.{lexeme_from, lexeme_at}
use Rattle.sc_grammar.proofs.Next.{next_is, lexeme_goes_on}
use Rattle.sc_grammar.proofs.lexing.lexeme_at.Goals as goal

pub returns-clause-next : goal.returns-clause-next
unfolding lexeme_at
returns-clause-next c =
    subst (IsNext c.args.text.now c.args.is_whole c.args.at)
    (sym (c.lexeme_from.ensures.lexeme ∙ ap (lexeme_from c.args.text.now c.args.is_whole) c.skip_blanks.ensures.end))
    (next_is c.args.text.now c.args.is_whole c.args.at c.requires)

pub returns-clause-forward : goal.returns-clause-forward
unfolding lexeme_at
returns-clause-forward c =
    lexeme_goes_on c.args.text.now c.args.is_whole c.args.at c.lexeme_from.result
    (subst (IsNext c.args.text.now c.args.is_whole c.args.at)
    (sym (c.lexeme_from.ensures.lexeme ∙ ap (lexeme_from c.args.text.now c.args.is_whole) c.skip_blanks.ensures.end))
    (next_is c.args.text.now c.args.is_whole c.args.at c.requires))

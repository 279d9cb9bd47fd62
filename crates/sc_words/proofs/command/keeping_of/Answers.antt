use Rattle.std.proofs.Common.{rules, MatchOption, subst}
use Rattle.sc_words.specs.Asks.{AreKeepWords}
use Rattle.sc_words.specs.declared.command.Keeping.{Keeping}
use Rattle.sc_words.proofs.Asking.{five}
use Rattle.sc_words.proofs.command.keeping_of.Goals as goal

pub returns-then-eq : goal.returns-then-eq
returns-then-eq c =
    subst (λ t. MatchOption c.keeping_in.result ((keeping : Keeping) → AreKeepWords t keeping → ⊥) (AreKeepWords t))
    (five c.args.words.now _ _ (search rules) (search rules) (search rules)) c.keeping_in.ensures

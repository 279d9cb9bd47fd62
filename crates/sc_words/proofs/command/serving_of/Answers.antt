use Rattle.std.proofs.Common.{rules, MatchOption, subst}
use Rattle.sc_words.specs.Asks.{AreServeWords}
use Rattle.sc_words.specs.declared.command.Serving.{Serving}
use Rattle.sc_words.proofs.Asking.{five}
use Rattle.sc_words.proofs.command.serving_of.Goals as goal

pub returns-then-eq : goal.returns-then-eq
returns-then-eq c =
    subst (λ t. MatchOption c.serving_in.result ((serving : Serving) → AreServeWords t serving → ⊥) (AreServeWords t))
    (five c.args.words.now _ _ (search rules) (search rules) (search rules)) c.serving_in.ensures

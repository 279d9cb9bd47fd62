use Rattle.std.proofs.Common.{rules, ◌≡◌, List, ℕ, map, Some, MatchOption, sym, subst}
use Rattle.sc_words.specs.Asks.{Asks}
use Rattle.sc_words.specs.Forms.{form_of}
use Rattle.sc_words.specs.View.{view_of}
use Rattle.sc_words.specs.declared.command.Command.{Command}
use Rattle.sc_words.proofs.Asking.{form_words}
use Rattle.sc_words.proofs.command.command_of.Goals as goal

pub returns-in-Some : goal.returns-in-Some
returns-in-Some c =
    let words : List (List ℕ) = map (λ s. s.now) c.args.words.now in
    let is : Some (view_of c.in-Some.form) ≡ form_of words = search rules in
    subst (λ t. MatchOption c.command_in.result ((command : Command) → Asks t command → ⊥) (Asks t)) (sym (form_words words (view_of c.in-Some.form) (sym is))) c.command_in.ensures

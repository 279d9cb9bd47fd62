use Rattle.std.proofs.Common.{ℕ, List, ◌++◌, sym, subst, ap, ◌∙◌}
use Rattle.sc_json.specs.Compact.{compact}
use Rattle.sc_json.specs.Spells.{Spells}
use Rattle.sc_json.proofs.Written.{written_spells}
use Rattle.sc_json.proofs.writer.write_json.Goals as goal

pub returns-clause-spells : goal.returns-clause-spells
returns-clause-spells c =
    let tree = c.args.tree.now in
    λ good. subst (λ (x : List ℕ). Spells x tree)
    (sym (c.from_string.ensures ∙ (c.in_ok-push_json.ensures ∙ ap (λ (x : List ℕ). x ++ compact tree) c.new-out.ensures.bytes)))
    (written_spells tree good)

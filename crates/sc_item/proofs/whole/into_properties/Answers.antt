use Rattle.std.proofs.Common.{ℕ, List, ap, sym, ◌∙◌}
use Rattle.sc_json.specs.Member.{value_in}
use Rattle.sc_item.proofs.Extending.{properties_are, no_properties}
use Rattle.sc_item.proofs.whole.into_properties.Goals as goal

pub returns-in-Some : goal.returns-in-Some
returns-in-Some c =
    properties_are c.args.tree c.in-Some.value c.into_members-members.result c.into_members.result c.into_members-members.ensures
    (sym (c.into_value.ensures ∙ ap (λ (x : List ℕ). value_in c.into_members-members.result x) c.properties_name.ensures) ∙ c.in-Some.is) c.into_members.ensures

pub returns-in-None : goal.returns-in-None
returns-in-None c =
    c.new.ensures ∙ no_properties c.args.tree c.into_members-members.result c.into_members-members.ensures
    (sym (c.into_value.ensures ∙ ap (λ (x : List ℕ). value_in c.into_members-members.result x) c.properties_name.ensures) ∙ c.in-None.is)

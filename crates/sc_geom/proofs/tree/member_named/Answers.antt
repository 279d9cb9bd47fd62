use Rattle.std.proofs.Common.{Some, ap, sym, ◌∙◌}
use Rattle.std.specs.Prelude.{nat_eq}
use Rattle.std.specs.Option.{option_map}
use Rattle.std.specs.Cmp.Lexicographic.{pointwise}
use Rattle.sc_json.specs.declared.tree.Member.{Member, out-Member}
use Rattle.sc_geom.proofs.Members.{found_at, found_nowhere}
use Rattle.sc_geom.proofs.tree.member_named.Goals as goal

pub returns-in-Some : goal.returns-in-Some
returns-in-Some c =
    ap (option_map (λ (m : Member). (out-Member m).value)) (found_at (λ (m : Member). pointwise nat_eq (out-Member m).name c.args.name.now) c.args.members.now c.in-Some.at c.index-members-at.result (sym c.in-Some.ensures) c.index-members-at.is)
    ∙ ap (λ (m : Member). Some (out-Member m).value) c.index-members-at.is

pub returns-in-None : goal.returns-in-None
returns-in-None c =
    ap (option_map (λ (m : Member). (out-Member m).value)) (found_nowhere (λ (m : Member). pointwise nat_eq (out-Member m).name c.args.name.now) c.args.members.now (sym c.in-None.ensures))

use Rattle.std.proofs.Common.{rules, sym, ap, ◌∙◌, map, to_z-of_z}
use Rattle.std.specs.Arc.{arc_value}
use Rattle.std.specs.BTreeMap.{get}
use Rattle.std.specs.Ordering.{int_cmp}
use Rattle.sc_catalog.specs.declared.groups.Group.{Group}
use Rattle.sc_catalog.proofs.Steps.{made_there, mapped_push, put_in}
use Rattle.sc_catalog.proofs.groups.add_arrival.Goals as goal

pub unreachable-requires : goal.unreachable-requires
unreachable-requires c = made_there (get int_cmp c.args.groups.now c.args.key) (get int_cmp c.make_group.new.groups c.args.key) c.args.key (rw (to_z-of_z c.ranges.key) at (c.in_ok-make_group.ensures.some c.args.key)) (rw (to_z-of_z c.ranges.key) at c.in-None.ensures.value)

pub returns-clause-come : goal.returns-clause-come
returns-clause-come c = λ k.
    let after : Group = record { gone = c.in-Some.group.now.gone; come = c.push.new.self } in
    let written = (c.get_mut.follows.holds after).3 (search rules) in
    put_in (get int_cmp c.args.groups.now) (get int_cmp c.make_group.new.groups) (get int_cmp (c.get_mut.follows.lender after)) c.in-Some.group.now after c.args.key k (arc_value c.args.item.now)
    (sym (rw (to_z-of_z c.ranges.key) at c.in-Some.ensures.value)) (rw (to_z-of_z c.ranges.key) at written.0 k)
    (ap (map arc_value) c.in_ok-push-in-Some.ensures.items ∙ mapped_push c.in-Some.group.now.come.items c.in_ok-item.item (arc_value c.args.item.now) (search rules)) (c.in_ok-make_group.ensures.come k)

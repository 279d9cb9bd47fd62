use Rattle.std.proofs.Common.{sym, ◌∙◌}
use Rattle.sc_load.proofs.Goods.{listed_by, not_listed}
use Rattle.sc_load.proofs.features.into_features.Goals as goal

pub unreachable-requires : goal.unreachable-requires
unreachable-requires c =
    not_listed c.into_list.result c.in-Some.field-0.now
    (listed_by c.args.tree c.features_name.result.now c.in-Some.field-0.now c.into_list.result c.in-Some.ensures c.into_list.ensures c.features_name.ensures) c.in-None-into_list.is

pub returns-in-Some-into_list : goal.returns-in-Some-into_list
returns-in-Some-into_list c =
    c.in-Some.ensures
    ∙ sym (listed_by c.args.tree c.features_name.result.now c.in-Some.field-0.now c.into_list.result c.in-Some.ensures c.into_list.ensures c.features_name.ensures)
    ∙ c.in-Some-into_list.is

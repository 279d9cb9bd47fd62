use Rattle.std.proofs.Common.{rules, ◌∙◌, ap, filter}
use Rattle.std.proofs.lemmas.Fn.{filter_same}
use Rattle.sc_eval.specs.Selection.{is_one_of}
use Rattle.sc_need.proofs.join.names_in_both.Goals as goal

pub returns : goal.returns
returns c =
    c.of-2.ensures
    ∙ filter_same _ (is_one_of c.args.b.now) _ (λ x b f' k. let same = c.in_ok-table.ensures x in search (rules, same)) _ _ c.retain.ensures.filtered
    ∙ ap (filter (is_one_of c.args.b.now)) c.into_vec-names.ensures

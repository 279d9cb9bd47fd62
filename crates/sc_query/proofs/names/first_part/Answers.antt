use Rattle.std.proofs.Common.{◌∙◌, ap, lit<}
use Rattle.std.proofs.lemmas.Str.Pattern.{split_parts}
use Rattle.sc_base.specs.Parts.{parts_between}
use Rattle.sc_sort.proofs.Commas.{cut_at, uncut}
use Rattle.sc_query.proofs.names.first_part.Goals as goal

pub returns-in-Some-clause-parts : goal.returns-in-Some-clause-parts
returns-in-Some-clause-parts c =
    let parts = split_parts 44 c.args.text.now c.split_once.result c.split_once.ensures.cases (lit< tt) in
    let s = rw c.in-Some.is at parts in
    ap (parts_between 44) s.0 ∙ cut_at _ _ s.1

pub returns-in-None-clause-parts : goal.returns-in-None-clause-parts
returns-in-None-clause-parts c =
    let parts = split_parts 44 c.args.text.now c.split_once.result c.split_once.ensures.cases (lit< tt) in
    uncut _ (rw c.in-None.is at parts)

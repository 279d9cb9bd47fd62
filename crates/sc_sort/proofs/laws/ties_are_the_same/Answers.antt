use Rattle.std.proofs.lemmas.List.Elements.{recursion_from_All}
use Rattle.sc_sort.proofs.Ties.{tie_parts, all_tied, one_list}
use Rattle.sc_sort.proofs.laws.ties_are_the_same.Goals as goal

pub returns : goal.returns
returns c sort a b k l p q e =
    let t = tie_parts sort a b e in
    let v = one_list sort a.values b.values k l (recursion_from_All _ _ p) (recursion_from_All _ _ q) (all_tied sort a.values b.values t.0) in
    λ i. record { values = v i; collection = t.1 i; id = t.2 i }

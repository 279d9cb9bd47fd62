use Rattle.sc_sort.proofs.Ties.{tie_parts, tie_from_parts, all_tied}
use Rattle.sc_sort.proofs.laws.ties_are_of_one_name.Goals as goal

pub returns : goal.returns
returns c = record {
  collection = λ sort a b e. (tie_parts sort a b e).1;
  id = λ sort a b e. (tie_parts sort a b e).2;
  values = λ sort a b e. all_tied sort a.values b.values (tie_parts sort a b e).0;
  tied = tie_from_parts;
}

use Rattle.std.proofs.Common.{rules}
use Rattle.std.proofs.lemmas.List.Sorted.{ranks_by}
use Rattle.std.proofs.lemmas.Fn.{always_returns_same}
use Rattle.sc_part.specs.Entry.{ids_of, key_of}
use Rattle.sc_part.proofs.Indexing.{for_permutation}
use Rattle.sc_part.proofs.Scanning.{key_total}
use Rattle.sc_part.proofs.index.index_of.Goals as goal

pub returns : goal.returns
returns c = record {
  entries = for_permutation (ids_of c.args.items.now) _ _ (ids_of c.args.items.now) c.in_ok-sort_by.ensures.permutation c.requires;
  ordered = c.in_ok-sort_by.ensures.sorted _ (ranks_by key_total (key_of (ids_of c.args.items.now))) (always_returns_same _ _ _ (λ a r f' k. search rules));
}

use Rattle.sc_need.proofs.Selects.{selected_satisfies}
use Rattle.sc_need.proofs.laws.selected_items_satisfy.Goals as goal

pub returns : goal.returns
returns c select item select_kept kept e = selected_satisfies item kept.place kept.shaped select select_kept e

use Rattle.sc_need.specs.Need.{need_of}
use Rattle.sc_need.proofs.Selects.{selected_satisfies}
use Rattle.sc_need.proofs.Covering.{may_match_holds}
use Rattle.sc_need.proofs.laws.parts_with_selected_items_may_match.Goals as goal

pub returns : goal.returns
returns c select item bounds name select_kept kept e here covers =
    may_match_holds (need_of select) item bounds name (selected_satisfies item kept.place kept.shaped select select_kept e) kept.place here covers

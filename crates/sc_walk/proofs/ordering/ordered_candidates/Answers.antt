use Rattle.std.proofs.Common.{filter, subst, ap, ◌∙◌}
use Rattle.std.specs.Prelude.{All}
use Rattle.sc_history.proofs.Covering.{snapshot_apart, snapshot_covers}
use Rattle.sc_part.specs.Version.{IsKept}
use Rattle.sc_shelf.specs.Ticket.{version_of}
use Rattle.sc_walk.specs.Walk.{AreSorted, is_candidate}
use Rattle.sc_walk.proofs.Candidates.{apart_sorted, cost_sorted, found_sorted, walked}
use Rattle.sc_walk.proofs.ordering.ordered_candidates.Goals as goal

pub returns : goal.returns
returns c =
    let asked = c.args.search.now in
    let snap = c.args.snapshot.now in
    let parts = snap.parts in
    let stood = c.revision-revision.ensures.stood in
    let covers = snapshot_covers snap stood in
    let last = c.sort_candidates.new.candidates.items in
    let found = c.in_ok-candidates.ensures in
    let kept = subst (All (λ part. IsKept (version_of part))) c.parts.ensures found.kept in
    let sorted : AreSorted asked.sort (filter (is_candidate asked) parts) last =
    subst (λ s. AreSorted s (filter (is_candidate asked) parts) last) c.sort.ensures
    (subst (λ l. AreSorted c.sort.result.now l last) (found.are ∙ ap (filter (is_candidate asked)) c.parts.ensures) c.in_ok-sort_candidates.ensures) in
    record {
      walked = walked asked parts last found.select covers kept sorted;
      apart = apart_sorted asked parts last found.select covers kept sorted (snapshot_apart snap stood);
      found = found_sorted asked parts last found.select covers kept sorted;
      cost = cost_sorted asked parts last found.select covers kept sorted;
    }

use Rattle.std.proofs.Common.{◌≡◌, ◌∙◌, [], ◌∷◌, ap, sym, false}
use Rattle.std.proofs.lemmas.List.{append-nil}
use Rattle.sc_cross.specs.Segment.{segments_of}
use Rattle.sc_cross.specs.Area.{edges_of}
use Rattle.sc_cross.specs.Parts.{turned_over, IsInRing}
use Rattle.sc_cross.proofs.Counts.{inside}
use Rattle.sc_cross.proofs.area.is_in_ring.Goals as goal

pub returns : goal.returns
unfolding IsInRing
returns c =
    let whole : c.turned_over.result ≡ turned_over c.args.at false (edges_of (c.args.ring.now ∷ [])) =
    c.turned_over.ensures ∙ ap (turned_over c.args.at false) (sym (append-nil (segments_of c.args.ring.now))) in
    let test = inside c.args.at (c.args.ring.now ∷ []) in
    (λ yes. test.0 (sym whole ∙ yes), λ in_area. whole ∙ test.1 in_area)

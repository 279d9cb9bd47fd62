-- The text of a box, corner by corner.
use Rattle.std.proofs.Common.{◌≡◌, ℕ, List, [], ◌∷◌, ◌++◌, ◌∙◌, ap, append_assoc}
use Rattle.sc_geom.specs.Rectangle.{Rectangle}
use Rattle.sc_outcome.specs.Outcome.{box_text, pair_text}

pub box_written : (old corner comma : List ℕ) (box : Rectangle) → corner ≡ old ++ pair_text box.west box.south → comma ≡ corner ++ 44 ∷ [] → comma ++ pair_text box.east box.north ≡ old ++ box_text box
box_written old corner comma box p q =
    ap (λ t. t ++ pair_text box.east box.north) (q ∙ ap (λ t. t ++ 44 ∷ []) p)
    ∙ append_assoc (old ++ pair_text box.west box.south) (44 ∷ []) (pair_text box.east box.north)
    ∙ append_assoc old (pair_text box.west box.south) (44 ∷ pair_text box.east box.north)

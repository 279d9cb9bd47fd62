-- Geometries by their points, lines and areas: what holds of all positions, and where some segment or position is found.
use Rattle.std.proofs.Common.{◌≡◌, ◌↔◌, ◌⊎◌, inl, inr, sym, subst, Bool, true, false, IsTrue, List, [], ◌∷◌, ◌++◌, All, Any}
use Rattle.std.proofs.lemmas.List.Elements.{All-nil, All-cons, All-head, All-tail}
use Rattle.sc_geom.specs.declared.point.Pt.{Pt}
use Rattle.sc_geom.specs.Point.{IsInWorld}
use Rattle.sc_geom.specs.Rectangle.{Rectangle, Holds}
use Rattle.sc_geom.specs.Shapes.{Shapes, joined, rings_of, positions_of}
use Rattle.sc_geom.specs.Geometry.{IsGeometry}
use Rattle.sc_cross.specs.declared.segment.Segment.{Segment}
use Rattle.sc_cross.specs.Segment.{segments_from, segments_of}
use Rattle.sc_cross.specs.Meets.{segments_in, SomePair}
use Rattle.sc_cross.specs.Parts.{IsRingIn}
use Rattle.sc_cross.proofs.Verdicts.{no_of, found_way}
use Rattle.sc_cross.proofs.Anys.{any_none, any_first, any_append, any_flat_map}

-- an element with what holds of all and of it
pub at_any : {X : Type 0} (Q P : X → Type 0) (xs : List X) → All Q xs → Any P xs → (x : X) × Q x × P x
at_any Q P xs all any = (any.1, subst Q any.3 (all any.0 any.1 any.2), any.4)

all_left : {X : Type 0} (P : X → Type 0) (xs ys : List X) → All P (xs ++ ys) → All P xs
all_left P [] ys h = All-nil P
all_left P (x ∷ xs) ys h = All-cons P x xs (All-head P x (xs ++ ys) h) (all_left P xs ys (All-tail P x (xs ++ ys) h))

all_right : {X : Type 0} (P : X → Type 0) (xs ys : List X) → All P (xs ++ ys) → All P ys
all_right P [] ys h = h
all_right P (x ∷ xs) ys h = all_right P xs ys (All-tail P x (xs ++ ys) h)

all_joined : {X : Type 0} (P : X → Type 0) (xs : List (List X)) → All P (joined xs) → All (All P) xs
all_joined P [] h = All-nil (All P)
all_joined P (x ∷ xs) h = All-cons (All P) x xs (all_left P x (joined xs) h) (all_joined P xs (all_right P x (joined xs) h))

-- the positions of points, of lines and of rings
pub points_all : (Q : Pt → Type 0) (g : Shapes Pt) → All Q (positions_of g) → All Q g.points
points_all Q g all = all_left Q g.points (joined g.lines) (all_left Q (g.points ++ joined g.lines) (joined (rings_of g)) all)

pub lines_all : (Q : Pt → Type 0) (g : Shapes Pt) → All Q (positions_of g) → All (All Q) g.lines
lines_all Q g all = all_joined Q g.lines (all_right Q g.points (joined g.lines) (all_left Q (g.points ++ joined g.lines) (joined (rings_of g)) all))

rings_all : (Q : Pt → Type 0) (g : Shapes Pt) → All Q (positions_of g) → All (All Q) (rings_of g)
rings_all Q g all = all_joined Q (rings_of g) (all_right Q (g.points ++ joined g.lines) (joined (rings_of g)) all)

pub areas_all : (Q : Pt → Type 0) (g : Shapes Pt) → All Q (positions_of g) → All (All (All Q)) g.areas
areas_all Q g all = all_joined (All Q) g.areas (rings_all Q g all)

pub areas_in : (r : Rectangle) (g : Shapes Pt) → IsGeometry g → All (Holds r) (positions_of g) → All (All (IsRingIn r)) g.areas
areas_in r g is all =
    let world = rings_all IsInWorld g is.in_world in
    let held = rings_all (Holds r) g all in
    all_joined (IsRingIn r) g.areas (λ k d below. record { is_ring = is.rings k d below; path = record { in_world = world k d below; in_box = held k d below } })

-- what is known of areas whose rings lie in a box
pub rings_in_world : (r : Rectangle) (areas : List (List (List Pt))) → All (All (IsRingIn r)) areas → All (All (All IsInWorld)) areas
rings_in_world r areas all k d below = λ k' d' below'. (all k d below k' d' below').path.in_world

-- where a segment or a position of a geometry is found
pub any_segment : (P : Segment → Type 0) (g : Shapes Pt) →
    Any P (segments_in g) ↔ (Any (λ path. Any P (segments_of path)) g.lines ⊎ Any (λ rings. Any (λ ring. Any P (segments_of ring)) rings) g.areas)
any_segment P g =
    let Q : List Pt → Type 0 = λ path. Any P (segments_of path) in
    let paths = any_flat_map P segments_of (g.lines ++ rings_of g) in
    let either = any_append Q g.lines (rings_of g) in
    let rings = any_flat_map Q (λ part. part) g.areas in (
      λ h. elim (either.0 (paths.0 h)) [ inl l ↦ inl l | inr r ↦ inr (rings.0 r) ],
      λ h. elim h [ inl l ↦ paths.1 (either.1 (inl l)) | inr r ↦ paths.1 (either.1 (inr (rings.1 r))) ],
    )

pub any_position : (P : Pt → Type 0) (g : Shapes Pt) →
    Any P (positions_of g) ↔ (Any P g.points ⊎ (Any (Any P) g.lines ⊎ Any (Any (Any P)) g.areas))
any_position P g =
    let all = any_append P (g.points ++ joined g.lines) (joined (rings_of g)) in
    let first = any_append P g.points (joined g.lines) in
    let lines = any_flat_map P (λ part. part) g.lines in
    let rings = any_flat_map P (λ part. part) (rings_of g) in
    let areas = any_flat_map (Any P) (λ part. part) g.areas in (
      λ h. elim (all.0 h) [
        | inl q ↦ elim (first.0 q) [ inl p ↦ inl p | inr l ↦ inr (inl (lines.0 l)) ]
        | inr r ↦ inr (inr (areas.0 (rings.0 r)))
      ],
      λ h. elim h [
        | inl p ↦ all.1 (inl (first.1 (inl p)))
        | inr q ↦ elim q [ inl l ↦ all.1 (inl (first.1 (inr (lines.1 l)))) | inr r ↦ all.1 (inr (rings.1 (areas.1 r))) ]
      ],
    )

-- a segment that is found, with what holds of its ends
found_from : (Q : Pt → Type 0) (P : Segment → Type 0) (v : Pt) (vs : List Pt) → Q v → All Q vs → Any P (segments_from v vs) → (s : Segment) × Q s.from × Q s.to × P s
found_from Q P v [] here rest any = absurd (any_none P any)
found_from Q P v (w ∷ ws) here rest any =
    let s : Segment = record { from = v; to = w } in
    elim (any_first P s (segments_from w ws) any) [
      | inl p ↦ (s, here, All-head Q w ws rest, p)
      | inr more ↦ found_from Q P w ws (All-head Q w ws rest) (All-tail Q w ws rest) more
    ]

found_of : (Q : Pt → Type 0) (P : Segment → Type 0) (path : List Pt) → All Q path → Any P (segments_of path) → (s : Segment) × Q s.from × Q s.to × P s
found_of Q P [] all any = absurd (any_none P any)
found_of Q P (v ∷ vs) all any = found_from Q P v vs (All-head Q v vs all) (All-tail Q v vs all) any

pub found_in : (Q : Pt → Type 0) (P : Segment → Type 0) (g : Shapes Pt) → All Q (positions_of g) → Any P (segments_in g) → (s : Segment) × Q s.from × Q s.to × P s
found_in Q P g all any =
    let O : List Pt → Type 0 = λ path. Any P (segments_of path) in
    let here : List Pt → Type 0 = All Q in
    elim ((any_segment P g).0 any) [
      | inl l ↦ (let at = at_any here O g.lines (lines_all Q g all) l in found_of Q P at.0 at.1 at.2)
      | inr r ↦ (
          let at = at_any (All here) (Any O) g.areas (areas_all Q g all) r in
          let ring = at_any here O at.0 at.1 at.2 in
          found_of Q P ring.0 ring.1 ring.2
          )
    ]

-- the code's answers over lines, and then over areas
pub on_lines : (P : Segment → Type 0) (g : Shapes Pt) (lines : List (List Pt)) (r : Bool) → lines ≡ g.lines →
    IsTrue r ↔ Any (λ path. Any P (segments_of path)) lines → r ≡ true → IsTrue true ↔ Any P (segments_in g)
on_lines P g lines r are test is =
    let O : List Pt → Type 0 = λ path. Any P (segments_of path) in
    found_way r test is (λ h. (any_segment P g).1 (inl (subst (Any O) are h)))

pub on_rings : (P : Segment → Type 0) (g : Shapes Pt) (lines : List (List Pt)) (areas : List (List (List Pt))) (r r' : Bool) → lines ≡ g.lines → areas ≡ g.areas →
    IsTrue r ↔ Any (λ path. Any P (segments_of path)) lines → r ≡ false →
    IsTrue r' ↔ Any (λ rings. Any (λ ring. Any P (segments_of ring)) rings) areas → IsTrue r' ↔ Any P (segments_in g)
on_rings P g lines areas r r' are are' test none test' =
    let O : List Pt → Type 0 = λ path. Any P (segments_of path) in (
      λ yes. (any_segment P g).1 (inr (subst (Any (Any O)) are' (test'.0 yes))),
      λ h. elim ((any_segment P g).0 h) [
        | inl l ↦ absurd (no_of r test none (subst (Any O) (sym are) l))
        | inr a ↦ test'.1 (subst (Any (Any O)) (sym are') a)
      ],
    )

pub of_points : (P : Pt → Type 0) (g : Shapes Pt) (points : List Pt) (r : Bool) → points ≡ g.points →
    IsTrue r ↔ Any P points → r ≡ true → IsTrue true ↔ Any P (positions_of g)
of_points P g points r are test is = found_way r test is (λ h. (any_position P g).1 (inl (subst (Any P) are h)))

pub of_lines : (P : Pt → Type 0) (g : Shapes Pt) (lines : List (List Pt)) (r : Bool) → lines ≡ g.lines →
    IsTrue r ↔ Any (Any P) lines → r ≡ true → IsTrue true ↔ Any P (positions_of g)
of_lines P g lines r are test is = found_way r test is (λ h. (any_position P g).1 (inr (inl (subst (Any (Any P)) are h))))

pub of_rings : (P : Pt → Type 0) (g : Shapes Pt) (points : List Pt) (lines : List (List Pt)) (areas : List (List (List Pt))) (r r' r'' : Bool) →
    points ≡ g.points → lines ≡ g.lines → areas ≡ g.areas →
    IsTrue r ↔ Any P points → r ≡ false → IsTrue r' ↔ Any (Any P) lines → r' ≡ false →
    IsTrue r'' ↔ Any (Any (Any P)) areas → IsTrue r'' ↔ Any P (positions_of g)
of_rings P g points lines areas r r' r'' are are' are'' test none test' none' test'' = (
  λ yes. (any_position P g).1 (inr (inr (subst (Any (Any (Any P))) are'' (test''.0 yes)))),
  λ h. elim ((any_position P g).0 h) [
    | inl p ↦ absurd (no_of r test none (subst (Any P) (sym are) p))
    | inr q ↦ elim q [
      | inl l ↦ absurd (no_of r' test' none' (subst (Any (Any P)) (sym are') l))
      | inr a ↦ test''.1 (subst (Any (Any (Any P))) (sym are'') a)
    ]
  ],
)

-- a test of lists that are equal to others
pub pairs_at : {X Y : Type 0} (R : X → Y → Type 0) (xs xs' : List X) (ys ys' : List Y) (r : Bool) → xs ≡ xs' → ys ≡ ys' → IsTrue r ↔ SomePair R xs ys → IsTrue r ↔ SomePair R xs' ys'
pairs_at R xs xs' ys ys' r is is' test = subst (λ zs. IsTrue r ↔ SomePair R zs ys') is (subst (λ zs. IsTrue r ↔ SomePair R xs zs) is' test)

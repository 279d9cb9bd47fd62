-- What lies in an area lies in the box of its rings: past the box no edge is crossed, and west of it each edge that passes the height is, of which a closed ring has an even number.
use Rattle.std.proofs.Common.{◌≡◌, refl, ap, ◌∙◌, sym, arith, List, [], ◌∷◌, Bool, true, false, not, cond, ◌&&◌, ◌||◌, pos, ◌≤ℤ◌, ◌<ℤ◌, int_lt, All}
use Rattle.std.proofs.lemmas.Int.{ints, by_lt_z}
use Rattle.std.proofs.lemmas.List.Elements.{All-head, All-tail, All-weaker}
use Rattle.sc_geom.specs.declared.point.Pt.{Pt}
use Rattle.sc_geom.specs.Rectangle.{Rectangle, Holds}
use Rattle.sc_geom.specs.Shapes.{first_of, last_of, last_behind}
use Rattle.sc_cross.specs.declared.segment.Segment.{Segment}
use Rattle.sc_cross.specs.Segment.{segments_of, segments_from, side, turned}
use Rattle.sc_cross.specs.Area.{rises_east, is_crossed, edges_of, IsInside}
use Rattle.sc_cross.specs.Parts.{turned_over, IsRingIn}
use Rattle.sc_cross.proofs.Products.{right_of, left_of}
use Rattle.sc_cross.proofs.Verdicts.{le_tested, le_untested, lt_tested, lt_untested}
use Rattle.sc_cross.proofs.Counts.{turned_append, inside}

-- an edge that doesn't rise past the height, or does so west of the position
rises_not : (p : Pt) (e : Segment) → (e.from.y ≤ℤ p.y → p.y <ℤ e.to.y → side e p ≤ℤ pos 0) → rises_east p e ≡ false
rises_not p e west =
    by_lt_z p.y e.from.y
    (λ below. rw (le_untested e.from.y p.y below) refl)
    (λ from. by_lt_z p.y e.to.y
    (λ to. rw (le_tested e.from.y p.y from, lt_tested p.y e.to.y to, lt_untested (pos 0) (side e p) (west from to)) refl)
    (λ above. rw (le_tested e.from.y p.y from, lt_untested p.y e.to.y above) refl))

-- one that rises past the height east of the position

rises_as : (p : Pt) (e : Segment) → (e.from.y ≤ℤ p.y → p.y <ℤ e.to.y → pos 0 <ℤ side e p) → rises_east p e ≡ (not (int_lt p.y e.from.y) && int_lt p.y e.to.y)
rises_as p e east =
    by_lt_z p.y e.from.y
    (λ below. rw (le_untested e.from.y p.y below, lt_tested p.y e.from.y below) refl)
    (λ from. by_lt_z p.y e.to.y
    (λ to. rw (le_tested e.from.y p.y from, lt_untested p.y e.from.y from, lt_tested p.y e.to.y to, lt_tested (pos 0) (side e p) (east from to)) refl)
    (λ above. rw (le_tested e.from.y p.y from, lt_untested p.y e.from.y from, lt_untested p.y e.to.y above) refl))

-- the second, turned over where the first holds
abbrev flip : Bool → Bool → Bool
flip true b = not b
flip false b = b

-- exactly one of two ends lies north of the height
abbrev passes : Bool → Bool → Bool
passes x y = (not x && y) || (not y && x)

-- no edge between positions of this kind is crossed
along_none : (p : Pt) (Q : Pt → Type 0) → ((v w : Pt) → Q v → Q w → (let e : Segment = record { from = v; to = w } in is_crossed p e ≡ false)) →
    (v : Pt) (vs : List Pt) (b : Bool) → Q v → All Q vs → turned_over p b (segments_from v vs) ≡ b
along_none p Q none v [] b here rest = refl
along_none p Q none v (w ∷ vs) b here rest =
    let next = All-head Q w vs rest in
    ap (λ (c : Bool). turned_over p (cond c (not b) b) (segments_from w vs)) (none v w here next)
    ∙ along_none p Q none w vs b next (All-tail Q w vs rest)

-- each edge between positions of this kind is crossed where it passes the height
turned_ends : (v w last b : Bool) → flip w (flip last (cond (passes v w) (not b) b)) ≡ flip v (flip last b)
turned_ends true true true true = refl
turned_ends true true true false = refl
turned_ends true true false true = refl
turned_ends true true false false = refl
turned_ends true false true true = refl
turned_ends true false true false = refl
turned_ends true false false true = refl
turned_ends true false false false = refl
turned_ends false true true true = refl
turned_ends false true true false = refl
turned_ends false true false true = refl
turned_ends false true false false = refl
turned_ends false false true true = refl
turned_ends false false true false = refl
turned_ends false false false true = refl
turned_ends false false false false = refl

twice : (v b : Bool) → flip v (flip v b) ≡ b
twice true true = refl
twice true false = refl
twice false b = refl

along_passing : (p : Pt) (Q : Pt → Type 0) →
    ((v w : Pt) → Q v → Q w → (let e : Segment = record { from = v; to = w } in is_crossed p e ≡ passes (int_lt p.y v.y) (int_lt p.y w.y))) →
    (v : Pt) (vs : List Pt) (b : Bool) → Q v → All Q vs →
    turned_over p b (segments_from v vs) ≡ flip (int_lt p.y v.y) (flip (int_lt p.y (last_behind v vs).y) b)
along_passing p Q passing v [] b here rest = sym (twice (int_lt p.y v.y) b)
along_passing p Q passing v (w ∷ vs) b here rest =
    let next = All-head Q w vs rest in
    let e : Segment = record { from = v; to = w } in
    along_passing p Q passing w vs (cond (is_crossed p e) (not b) b) next (All-tail Q w vs rest)
    ∙ ap (λ (c : Bool). flip (int_lt p.y w.y) (flip (int_lt p.y (last_behind w vs).y) (cond c (not b) b))) (passing v w here next)
    ∙ turned_ends (int_lt p.y v.y) (int_lt p.y w.y) (int_lt p.y (last_behind w vs).y) b

-- neither way round
not_crossed : (p : Pt) (e : Segment) → rises_east p e ≡ false → rises_east p (turned e) ≡ false → is_crossed p e ≡ false
not_crossed p e one other = rw (one, other) refl

crossed_as : (p v w : Pt) → (let e : Segment = record { from = v; to = w } in
    rises_east p e ≡ (not (int_lt p.y v.y) && int_lt p.y w.y) → rises_east p (turned e) ≡ (not (int_lt p.y w.y) && int_lt p.y v.y) →
    is_crossed p e ≡ passes (int_lt p.y v.y) (int_lt p.y w.y))
crossed_as p v w one other = rw (one, other) refl

none_north : (p v w : Pt) → p.y <ℤ v.y → p.y <ℤ w.y → (let e : Segment = record { from = v; to = w } in is_crossed p e ≡ false)
none_north p v w a b =
    let e : Segment = record { from = v; to = w } in
    not_crossed p e (rises_not p e (λ from to. absurd (omega (arith, ints)))) (rises_not p (turned e) (λ from to. absurd (omega (arith, ints))))

none_south : (p v w : Pt) → v.y ≤ℤ p.y → w.y ≤ℤ p.y → (let e : Segment = record { from = v; to = w } in is_crossed p e ≡ false)
none_south p v w a b =
    let e : Segment = record { from = v; to = w } in
    not_crossed p e (rises_not p e (λ from to. absurd (omega (arith, ints)))) (rises_not p (turned e) (λ from to. absurd (omega (arith, ints))))

none_west : (p v w : Pt) → v.x ≤ℤ p.x → w.x ≤ℤ p.x → (let e : Segment = record { from = v; to = w } in is_crossed p e ≡ false)
none_west p v w a b =
    let e : Segment = record { from = v; to = w } in
    not_crossed p e
    (rises_not p e (λ from to. right_of v.x v.y w.x w.y p.x p.y b a from to))
    (rises_not p (turned e) (λ from to. right_of w.x w.y v.x v.y p.x p.y a b from to))

all_east : (p v w : Pt) → p.x <ℤ v.x → p.x <ℤ w.x → (let e : Segment = record { from = v; to = w } in is_crossed p e ≡ passes (int_lt p.y v.y) (int_lt p.y w.y))
all_east p v w a b =
    let e : Segment = record { from = v; to = w } in
    crossed_as p v w
    (rises_as p e (λ from to. left_of v.x v.y w.x w.y p.x p.y b a from to))
    (rises_as p (turned e) (λ from to. left_of w.x w.y v.x v.y p.x p.y a b from to))

-- a closed ring of such positions leaves the answer as it is
ring_none : (p : Pt) (Q : Pt → Type 0) → ((v w : Pt) → Q v → Q w → (let e : Segment = record { from = v; to = w } in is_crossed p e ≡ false)) →
    (ring : List Pt) (b : Bool) → All Q ring → turned_over p b (segments_of ring) ≡ b
ring_none p Q none [] b all = refl
ring_none p Q none (v ∷ vs) b all = along_none p Q none v vs b (All-head Q v vs all) (All-tail Q v vs all)

ring_passing : (p : Pt) (Q : Pt → Type 0) →
    ((v w : Pt) → Q v → Q w → (let e : Segment = record { from = v; to = w } in is_crossed p e ≡ passes (int_lt p.y v.y) (int_lt p.y w.y))) →
    (ring : List Pt) (b : Bool) → first_of ring ≡ last_of ring → All Q ring → turned_over p b (segments_of ring) ≡ b
ring_passing p Q passing [] b closed all = refl
ring_passing p Q passing (v ∷ vs) b closed all =
    let same : v ≡ last_behind v vs = cc in
    along_passing p Q passing v vs b (All-head Q v vs all) (All-tail Q v vs all)
    ∙ ap (λ (w : Pt). flip (int_lt p.y v.y) (flip (int_lt p.y w.y) b)) (sym same)
    ∙ twice (int_lt p.y v.y) b

held_as : (r : Rectangle) (Q : Pt → Type 0) → ((v : Pt) → Holds r v → Q v) → (ring : List Pt) → IsRingIn r ring → All Q ring
held_as r Q weaker ring is = All-weaker (Holds r) Q weaker ring is.path.in_box

-- a ring whose box doesn't have the position
abbrev IsCalm : Pt → List Pt → Type 0
IsCalm p ring = (b : Bool) → turned_over p b (segments_of ring) ≡ b

calm_north : (r : Rectangle) (p : Pt) → p.y <ℤ r.south → (ring : List Pt) → IsRingIn r ring → IsCalm p ring
calm_north r p out ring is b =
    ring_none p (λ v. p.y <ℤ v.y) (none_north p) ring b (held_as r (λ v. p.y <ℤ v.y) (λ v h. omega (arith, ints, h.south)) ring is)

calm_south : (r : Rectangle) (p : Pt) → r.north <ℤ p.y → (ring : List Pt) → IsRingIn r ring → IsCalm p ring
calm_south r p out ring is b =
    ring_none p (λ v. v.y ≤ℤ p.y) (none_south p) ring b (held_as r (λ v. v.y ≤ℤ p.y) (λ v h. omega (arith, ints, h.north)) ring is)

calm_west : (r : Rectangle) (p : Pt) → r.east <ℤ p.x → (ring : List Pt) → IsRingIn r ring → IsCalm p ring
calm_west r p out ring is b =
    ring_none p (λ v. v.x ≤ℤ p.x) (none_west p) ring b (held_as r (λ v. v.x ≤ℤ p.x) (λ v h. omega (arith, ints, h.east)) ring is)

calm_east : (r : Rectangle) (p : Pt) → p.x <ℤ r.west → (ring : List Pt) → IsRingIn r ring → IsCalm p ring
calm_east r p out ring is b =
    ring_passing p (λ v. p.x <ℤ v.x) (all_east p) ring b is.is_ring.closed (held_as r (λ v. p.x <ℤ v.x) (λ v h. omega (arith, ints, h.west)) ring is)

calm_rings : (r : Rectangle) (p : Pt) → ((ring : List Pt) → IsRingIn r ring → IsCalm p ring) →
    (rings : List (List Pt)) (b : Bool) → All (IsRingIn r) rings → turned_over p b (edges_of rings) ≡ b
calm_rings r p calm [] b all = refl
calm_rings r p calm (ring ∷ rings) b all =
    turned_append p b (segments_of ring) (edges_of rings)
    ∙ ap (λ (c : Bool). turned_over p c (edges_of rings)) (calm ring (All-head (IsRingIn r) ring rings all) b)
    ∙ calm_rings r p calm rings b (All-tail (IsRingIn r) ring rings all)

not_inside : (r : Rectangle) (p : Pt) → ((ring : List Pt) → IsRingIn r ring → IsCalm p ring) →
    (rings : List (List Pt)) → All (IsRingIn r) rings → IsInside p rings → ⊥
not_inside r p calm rings all is =
    let odd : turned_over p false (edges_of rings) ≡ true = (inside p rings).1 is in
    let even : turned_over p false (edges_of rings) ≡ false = calm_rings r p calm rings false all in
    let both : false ≡ true = sym even ∙ odd in
    cc

pub inside_box : (r : Rectangle) (p : Pt) (rings : List (List Pt)) → All (IsRingIn r) rings → IsInside p rings → Holds r p
inside_box r p rings all is = record {
  west = by_lt_z p.x r.west (λ out. absurd (not_inside r p (calm_east r p out) rings all is)) (λ in_box. in_box);
  east = by_lt_z r.east p.x (λ out. absurd (not_inside r p (calm_west r p out) rings all is)) (λ in_box. in_box);
  south = by_lt_z p.y r.south (λ out. absurd (not_inside r p (calm_north r p out) rings all is)) (λ in_box. in_box);
  north = by_lt_z r.north p.y (λ out. absurd (not_inside r p (calm_south r p out) rings all is)) (λ in_box. in_box);
}

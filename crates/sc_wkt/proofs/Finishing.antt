-- A whole geometry that isn't bad and has no number that is too wide is finished, unless memory runs out.
use Rattle.std.proofs.Common.{◌≡◌, ℕ, ◌<◌, ◌≤◌, List, length, map, Bool, true, false, ◌||◌, Some, None, refl, ap, ◌∙◌, arith, nat_lt}
use Rattle.std.proofs.lemmas.Bool.{or_parts, lt-ltb}
use Rattle.std.proofs.lemmas.List.{length-map}
use Rattle.sc_geom.specs.declared.point.Pt.{Pt}
use Rattle.sc_geom.specs.declared.fault.GeomFault.TheVariants as faults
use Rattle.sc_geom.specs.Shapes.{Shapes, joined, map_shapes}
use Rattle.sc_geom.specs.Sketch.{has_open_ring, leaves_world}
use Rattle.sc_geom.specs.Answers.{count_of}
use Rattle.sc_geom.proofs.Finished.{count_is, map_joined}
use Rattle.sc_grammar.specs.declared.token.Token.{Token}
use Rattle.sc_wkt.specs.Drawing.{Drawing, first_wide, is_bad, FailsByMemoryAlone}
use Rattle.sc_wkt.specs.Reading.{geometry, Draws}
use Rattle.sc_wkt.proofs.Inside.{drawn_inside}
use Rattle.sc_wkt.proofs.Filled.{drawn_filled}

pub count-map : {A B : Type 0} (f : A → B) (g : Shapes A) → count_of (map_shapes f g) ≡ count_of g
count-map f g =
    let mapped = count_is (map_shapes f g) in
    let plain = count_is g in
    let points = length-map g.points f in
    let lines = ap length (map_joined f g.lines) ∙ length-map (joined g.lines) f in
    let rings = ap (λ x. length (joined x)) (map_joined (map f) g.areas) ∙ ap length (map_joined f (joined g.areas)) ∙ length-map (joined (joined g.areas)) f in
    omega arith

clash : {A : Type 0} (b : Bool) → b ≡ true → b ≡ false → A
clash true e f = absurd cc
clash false e f = absurd cc

-- what holds of a drawing that isn't bad
pub record IsGood (most : ℕ) (d : Drawing) : Type 0 where
  pub long : d.is_short ≡ false
  pub closed : has_open_ring d.sketch ≡ false
  pub within : d.is_outside ≡ false
  pub few : nat_lt most (count_of d.sketch) ≡ false

pub good_is : (most : ℕ) (d : Drawing) → is_bad most d ≡ false → IsGood most d
good_is most d good =
    let few = or_parts (d.is_short || has_open_ring d.sketch || d.is_outside) (nat_lt most (count_of d.sketch)) good in
    let within = or_parts (d.is_short || has_open_ring d.sketch) d.is_outside few.0 in
    let closed = or_parts d.is_short (has_open_ring d.sketch) within.0 in
    record { long = closed.0; closed = closed.1; within = within.1; few = few.1 }

-- a drawing that has a position, stays in the world and isn't bad is finished
pub finished_but_memory : (most : ℕ) (d : Drawing) → IsGood most d → 1 ≤ count_of d.sketch → leaves_world d.sketch ≡ false → FailsByMemoryAlone most d
finished_but_memory most d good some inside faults.BadShape h = absurd (omega (arith, h, some))
finished_but_memory most d good some inside faults.OpenRing h = clash (has_open_ring d.sketch) h.1 good.closed
finished_but_memory most d good some inside faults.OutOfWorld h = clash (leaves_world d.sketch) h.2 inside
finished_but_memory most d good some inside (faults.TooManyPositions count) h =
    let same : count_of d.sketch ≡ count_of h.0 = ap count_of h.1.same ∙ count-map (λ (p : Pt). Some p) h.0 in
    let above : most < count_of d.sketch = omega (arith, h.2, h.3) in
    clash (nat_lt most (count_of d.sketch)) (lt-ltb most (count_of d.sketch) above) good.few
finished_but_memory most d good some inside faults.OutOfMemory h = refl

pub memory_alone : (text : List ℕ) (is_whole : Bool) (tokens : List Token) (to : ℕ) (d : Drawing) (most : ℕ) → Draws text is_whole tokens to d → first_wide text tokens ≡ None → is_bad most d ≡ false → FailsByMemoryAlone most d
memory_alone text is_whole tokens to d most whole narrow bad =
    let good = good_is most d bad in
    finished_but_memory most d good (drawn_filled text tokens d whole.derived good.long) (drawn_inside text geometry tokens d whole.derived narrow good.within)

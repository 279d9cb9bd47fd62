-- Points, lines and areas over positions of any kind.
use Rattle.std.specs.Prelude.{List, [], ◌∷◌, ◌++◌, map, Option, Some, None}
use Rattle.std.specs.List.{flat_map}

pub record Shapes (A : Type 0) : Type 0 where
  pub points : List A
  pub lines : List (List A)
  pub areas : List (List (List A))

abbrev pub joined : {A : Type 0} → List (List A) → List A
joined = flat_map (λ part. part)

-- the rings of all areas
abbrev pub rings_of : {A : Type 0} → Shapes A → List (List A)
rings_of s = joined s.areas

-- every position: of points, of lines and of rings
abbrev pub positions_of : {A : Type 0} → Shapes A → List A
positions_of s = s.points ++ joined s.lines ++ joined (rings_of s)

abbrev pub map_shapes : {A B : Type 0} → (A → B) → Shapes A → Shapes B
map_shapes f s = record { points = map f s.points; lines = map (map f) s.lines; areas = map (map (map f)) s.areas }

abbrev pub nothing : {A : Type 0} → Shapes A
nothing = record { points = []; lines = []; areas = [] }

-- the shapes of both, in order
abbrev pub beside : {A : Type 0} → Shapes A → Shapes A → Shapes A
beside s t = record { points = s.points ++ t.points; lines = s.lines ++ t.lines; areas = s.areas ++ t.areas }

-- the two ends of a list
abbrev pub first_of : {A : Type 0} → List A → Option A
first_of [] = None
first_of (p ∷ ps) = Some p

abbrev pub last_behind : {A : Type 0} → A → List A → A
last_behind p [] = p
last_behind p (q ∷ qs) = last_behind q qs

abbrev pub last_of : {A : Type 0} → List A → Option A
last_of [] = None
last_of (p ∷ ps) = Some (last_behind p ps)

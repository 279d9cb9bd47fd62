-- What trees depict one after another, and that a tree depicts one sketch at most.
use Rattle.std.proofs.Common.{suc, zero, ◌≡◌, ℕ, ◌<◌, List, [], ◌∷◌, ◌++◌, length, get_or, Some, None, refl, sym, subst, append_assoc, arith}
use Rattle.std.proofs.lemmas.List.{append-nil}
use Rattle.sc_json.specs.declared.tree.Json.{Json}
use Rattle.sc_json.specs.declared.tree.Member.{Member}
use Rattle.sc_geom.specs.declared.kind.Kind.{Kind}
use Rattle.sc_geom.specs.declared.kind.Kind.TheVariants.{GeometryCollection}
use Rattle.sc_geom.specs.Shapes.{Shapes, nothing, beside}
use Rattle.sc_geom.specs.Sketch.{Sketch}
use Rattle.sc_geom.specs.Tree.{list_of, members_of, member_named}
use Rattle.sc_geom.specs.Kinds.{coordinates_name, geometries_name}
use Rattle.sc_geom.specs.Drawn.{drawn}
use Rattle.sc_geom.specs.Depicts.{Depicts, AllDepict, by_coordinates, by_geometries, none_left, one_more, kind_in}

pub shapes_equal : {A : Type 0} (s t : Shapes A) → s.points ≡ t.points → s.lines ≡ t.lines → s.areas ≡ t.areas → s ≡ t
shapes_equal s t p l a = λ k. record { points = p k; lines = l k; areas = a k }

pub beside_assoc : {A : Type 0} (s t u : Shapes A) → beside (beside s t) u ≡ beside s (beside t u)
beside_assoc s t u = shapes_equal _ _ (append_assoc s.points t.points u.points) (append_assoc s.lines t.lines u.lines) (append_assoc s.areas t.areas u.areas)

pub beside_nothing : {A : Type 0} (s : Shapes A) → beside s nothing ≡ s
beside_nothing s = shapes_equal _ _ (append-nil s.points) (append-nil s.lines) (append-nil s.areas)

pub AllDepict-push : (trees : List Json) (s : Sketch) (tree : Json) (t : Sketch) → AllDepict trees s → Depicts tree t → AllDepict (trees ++ tree ∷ []) (beside s t)
AllDepict-push _ _ tree t none_left d = subst (AllDepict (tree ∷ [])) (beside_nothing t) (one_more tree [] t nothing d none_left)
AllDepict-push _ _ tree t (one_more first rest u v f r) d =
    subst (AllDepict (first ∷ (rest ++ tree ∷ []))) (sym (beside_assoc u v t)) (one_more first (rest ++ tree ∷ []) u (beside v t) f (AllDepict-push rest v tree t r d))

pub AllDepict-at : (trees : List Json) (s : Sketch) (i : ℕ) (tree : Json) → i < length trees → tree ≡ get_or trees i tree → AllDepict trees s → (u : Sketch) × Depicts tree u
AllDepict-at [] s i tree h e all = absurd (omega arith)
AllDepict-at (first ∷ rest) _ zero tree h e (one_more _ _ u v f r) = (u, subst (λ (x : Json). Depicts x u) (sym e) f)
AllDepict-at (first ∷ rest) _ (suc i) tree h e (one_more _ _ u v f r) = AllDepict-at rest v i tree (omega arith) e r

no_coordinates : (kind : Kind) (tree : Json) (s : Sketch) → kind ≡ GeometryCollection → drawn kind tree ≡ Some s → ⊥
no_coordinates kind tree s is d =
    let none : None ≡ Some s = subst (λ (k : Kind). drawn k tree ≡ Some s) is d in cc

pub no_members : (tree : Json) (t : Sketch) → members_of tree ≡ None → Depicts tree t → ⊥
no_members tree t n (by_coordinates _ members kind coordinates _ m k c d) = cc
no_members tree t n (by_geometries _ members geometries trees _ m k g l all) = cc

pub no_kind : (tree : Json) (members : List Member) (t : Sketch) → members_of tree ≡ Some members → kind_in members ≡ None → Depicts tree t → ⊥
no_kind tree members t is n (by_coordinates _ members' kind coordinates _ m k c d) = let same : members ≡ members' = cc in cc
no_kind tree members t is n (by_geometries _ members' geometries trees _ m k g l all) = let same : members ≡ members' = cc in cc

pub none_named : (tree : Json) (members : List Member) (kind : Kind) (t : Sketch) → members_of tree ≡ Some members → kind_in members ≡ Some kind → (kind ≡ GeometryCollection → ⊥) →
    member_named coordinates_name members ≡ None → Depicts tree t → ⊥
none_named tree members kind t is k' not n (by_coordinates _ members' kind' coordinates _ m k c d) = let same : members ≡ members' = cc in cc
none_named tree members kind t is k' not n (by_geometries _ members' geometries trees _ m k g l all) = let same : members ≡ members' = cc in let collection : kind ≡ GeometryCollection = cc in not collection

pub none_drawn : (tree : Json) (members : List Member) (kind : Kind) (value : Json) (t : Sketch) → members_of tree ≡ Some members → kind_in members ≡ Some kind → (kind ≡ GeometryCollection → ⊥) →
    member_named coordinates_name members ≡ Some value → drawn kind value ≡ None → Depicts tree t → ⊥
none_drawn tree members kind value t is k' not v n (by_coordinates _ members' kind' coordinates _ m k c d) =
    let same : members ≡ members' = cc in
    let same_kind : kind ≡ kind' = cc in
    let same_value : value ≡ coordinates = cc in
    cc
none_drawn tree members kind value t is k' not v n (by_geometries _ members' geometries trees _ m k g l all) = let same : members ≡ members' = cc in let collection : kind ≡ GeometryCollection = cc in not collection

-- what geometries a collection has, if any
pub collected : (tree : Json) (members : List Member) (t : Sketch) → members_of tree ≡ Some members → kind_in members ≡ Some GeometryCollection → Depicts tree t →
    (geometries : Json) × (trees : List Json) × (member_named geometries_name members ≡ Some geometries) × (list_of geometries ≡ Some trees) × AllDepict trees t
collected tree members t is k' (by_coordinates _ members' kind coordinates _ m k c d) =
    let same : members ≡ members' = cc in
    let collection : kind ≡ GeometryCollection = cc in
    absurd (no_coordinates kind coordinates t collection d)
collected tree members t is k' (by_geometries _ members' geometries trees _ m k g l all) =
    let same : members' ≡ members = cc in
    (geometries, trees, subst (λ (ms : List Member). member_named geometries_name ms ≡ Some geometries) same g, l, all)

mutual
  pub one_sketch : (tree : Json) (s t : Sketch) → Depicts tree s → Depicts tree t → s ≡ t
  one_sketch tree s t (by_coordinates _ members kind coordinates _ m k c d) (by_coordinates _ members' kind' coordinates' _ m' k' c' d') =
      let same_members : members ≡ members' = cc in
      let same_kind : kind ≡ kind' = cc in
      let same_coordinates : coordinates ≡ coordinates' = cc in
      cc
  one_sketch tree s t (by_coordinates _ members kind coordinates _ m k c d) (by_geometries _ members' geometries trees _ m' k' g l all) =
      let same_members : members ≡ members' = cc in
      let is : kind ≡ GeometryCollection = cc in
      absurd (no_coordinates kind coordinates s is d)
  one_sketch tree s t (by_geometries _ members' geometries trees _ m' k' g l all) (by_coordinates _ members kind coordinates _ m k c d) =
      let same_members : members ≡ members' = cc in
      let is : kind ≡ GeometryCollection = cc in
      absurd (no_coordinates kind coordinates t is d)
  one_sketch tree s t (by_geometries _ members geometries trees _ m k g l all) (by_geometries _ members' geometries' trees' _ m' k' g' l' all') =
      let same_members : members ≡ members' = cc in
      let same_geometries : geometries ≡ geometries' = cc in
      let same_trees : trees ≡ trees' = cc in
      one_sketch_each trees trees' s t same_trees all all'

  one_sketch_each : (trees trees' : List Json) (s t : Sketch) → trees ≡ trees' → AllDepict trees s → AllDepict trees' t → s ≡ t
  one_sketch_each _ _ _ _ e none_left none_left = refl
  one_sketch_each _ _ _ _ e none_left (one_more _ _ _ _ _ _) = absurd cc
  one_sketch_each _ _ _ _ e (one_more _ _ _ _ _ _) none_left = absurd cc
  one_sketch_each _ _ _ _ e (one_more tree trees u v d r) (one_more tree' trees' u' v' d' r') =
      let first : tree ≡ tree' = cc in
      let rest : trees ≡ trees' = cc in
      let one : u ≡ u' = one_sketch tree' u u' (subst (λ (x : Json). Depicts x u) first d) d' in
      let others : v ≡ v' = one_sketch_each trees trees' v v' rest r r' in
      cc

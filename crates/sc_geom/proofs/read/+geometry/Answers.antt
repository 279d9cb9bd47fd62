use Rattle.std.proofs.Common.{rules, ◌≡◌, ℕ, ◌+◌, List, [], ◌∷◌, ◌++◌, take, get_or, Some, None, false, ap, sym, subst, ◌∙◌}
use Rattle.std.proofs.lemmas.List.{take_more}
use Rattle.std.proofs.lemmas.Result.{err_from_is_err_and}
use Rattle.sc_json.specs.declared.tree.Json.{Json}
use Rattle.sc_json.specs.declared.tree.Member.{Member, out-Member}
use Rattle.sc_geom.specs.Shapes.{beside, nothing}
use Rattle.sc_geom.specs.Tree.{list_of, members_of, index_named, member_named}
use Rattle.sc_geom.specs.Kinds.{geometries_name, coordinates_name}
use Rattle.sc_geom.specs.declared.kind.Kind.{Kind}
use Rattle.sc_geom.specs.declared.kind.Kind.TheVariants.{GeometryCollection}
use Rattle.sc_geom.specs.contracts.kind.Kind.{the_type}
use denote.Enum.Bare.{sameb}
use Rattle.std.proofs.lemmas.Bool.{false≢true}
use Rattle.sc_geom.specs.Depicts.{AllDepict, none_left}
use Rattle.sc_geom.specs.Building.{IsDraft}
use Rattle.sc_geom.proofs.Depicting.{beside_assoc, beside_nothing, AllDepict-push, no_members}
use Rattle.sc_geom.proofs.Results.{members_of-object, list_of-list, named_at, named_nowhere, drawn_result, collected_result, none_listed, nowhere_collected, stopped_depicting}
use Rattle.sc_geom.proofs.read.+geometry.Goals as goal

pub add_geometry-returns-in-Object : goal.add_geometry-returns-in-Object
add_geometry-returns-in-Object t c = λ s is.
    c.add_members.ensures c.args.tree.now s (ap members_of c.in-Object.is ∙ members_of-object c.in-Object.members ∙ ap Some (sym c.as_slice.ensures)) is

pub add_geometry-returns-in_default : goal.add_geometry-returns-in_default
unfolding members_of
add_geometry-returns-in_default t c = λ s is u d. let none : members_of c.args.tree.now ≡ None = search rules in no_members c.args.tree.now u none d

pub add_collection-returns-in-List : goal.add_collection-returns-in-List
add_collection-returns-in-List t c = λ tree s m k is.
    let at : index_named geometries_name c.args.members.now ≡ Some c.in-Some.at = ap (λ (n : List ℕ). index_named n c.args.members.now) (sym c.geometries_name.ensures) ∙ sym c.in-Some.ensures in
    let member = get_or c.args.members.now c.in-Some.at c.index-members-at.result in
    collected_result c.add_geometries.result tree c.args.members.now (out-Member member).value c.as_slice.result.now s c.add_geometries.new.draft m k
    (named_at geometries_name c.args.members.now c.in-Some.at member at (ap (λ (d : Member). get_or c.args.members.now c.in-Some.at d) c.index-members-at.is))
    (ap list_of c.in-List.is ∙ list_of-list c.in-List.geometries ∙ ap Some (sym c.as_slice.ensures))
    (c.add_geometries.ensures s is)

pub add_collection-returns-in_default : goal.add_collection-returns-in_default
unfolding list_of
add_collection-returns-in_default t c = λ tree s m k is u d.
    let at : index_named geometries_name c.args.members.now ≡ Some c.in-Some.at = ap (λ (n : List ℕ). index_named n c.args.members.now) (sym c.geometries_name.ensures) ∙ sym c.in-Some.ensures in
    let member = get_or c.args.members.now c.in-Some.at c.index-members-at.result in
    let none : list_of (out-Member member).value ≡ None = search rules in
    none_listed tree c.args.members.now (out-Member member).value m k
    (named_at geometries_name c.args.members.now c.in-Some.at member at (ap (λ (d : Member). get_or c.args.members.now c.in-Some.at d) c.index-members-at.is)) none u d

pub add_collection-returns-in-None : goal.add_collection-returns-in-None
add_collection-returns-in-None t c = λ tree s m k is.
    let at : index_named geometries_name c.args.members.now ≡ None = ap (λ (n : List ℕ). index_named n c.args.members.now) (sym c.geometries_name.ensures) ∙ sym c.in-None.ensures in
    nowhere_collected tree c.args.members.now m k (named_nowhere geometries_name c.args.members.now at)

pub add_members-returns-in-Some-member_named : goal.add_members-returns-in-Some-member_named
add_members-returns-in-Some-member_named t c = λ tree s m is.
    let named : member_named coordinates_name c.args.members.now ≡ Some c.in-Some-member_named.coordinates.now = ap (λ (n : List ℕ). member_named n c.args.members.now) (sym c.coordinates_name.ensures) ∙ c.in-Some-member_named.ensures in
    let other : c.in-Some.kind ≡ GeometryCollection → ⊥ = λ collection. false≢true (subst (λ (k : Kind). false ≡ sameb the_type k GeometryCollection) collection c.if-eq.ensures) in
    drawn_result c.add_coordinates.result tree c.args.members.now c.in-Some.kind c.in-Some-member_named.coordinates.now s c.add_coordinates.new.draft m (sym c.in-Some.ensures) other named (c.add_coordinates.ensures s is)

pub add_geometries-loop-tree-init : goal.add_geometries-loop-tree-init
add_geometries-loop-tree-init t c = λ s is. (nothing, none_left, subst (IsDraft c.args.draft.now) (sym (beside_nothing s)) is)

pub add_geometries-returns-in_err-add_geometry : goal.add_geometries-returns-in_err-add_geometry
add_geometries-returns-in_err-add_geometry t c = λ s is.
    let before = c.loop-tree.invariant s is in
    let p = err_from_is_err_and c.from_residual.result c.from_residual.ensures.1 in
    rw (p.1, p.2) (stopped_depicting c.in_err-add_geometry.field-0.0 c.args.trees.now c.loop-tree.tree-index c.tree-item.result s (beside s before.0) _ _ c.loop-tree-test.true c.tree-item.is (c.in_err-add_geometry.ensures (beside s before.0) before.2))

pub add_geometries-loop-tree-preserved : goal.add_geometries-loop-tree-preserved
add_geometries-loop-tree-preserved t c = λ s is.
    let before = c.loop-tree.invariant s is in
    let one = c.in_ok-add_geometry.ensures (beside s before.0) before.2 in
    let grown : take (c.loop-tree.tree-index + 1) c.args.trees.now ≡ take c.loop-tree.tree-index c.args.trees.now ++ c.tree-item.result ∷ [] =
    take_more c.args.trees.now c.loop-tree.tree-index c.tree-item.result c.loop-tree-test.true ∙ ap (λ (x : Json). take c.loop-tree.tree-index c.args.trees.now ++ x ∷ []) (sym c.tree-item.is) in (
      beside before.0 one.0,
      subst (λ (l : List Json). AllDepict l (beside before.0 one.0)) (sym grown) (AllDepict-push (take c.loop-tree.tree-index c.args.trees.now) before.0 c.tree-item.result one.0 before.1 one.1),
      subst (IsDraft c.add_geometry.new.draft) (beside_assoc s before.0 one.0) one.2,
    )

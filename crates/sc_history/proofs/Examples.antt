-- The example.
use Rattle.std.proofs.Common.{◌≡◌, true, false, ℤ, pos, List, [], ◌∷◌, refl, codes, drop, map, ap}
use Rattle.std.specs.declared.alloc.Global.{Global}
use Rattle.std.specs.declared.sync.Arc.{Arc}
use Rattle.sc_json.specs.declared.tree.Json.{Json}
use Rattle.sc_item.specs.Feature.{Feature}
use Rattle.sc_bounds.specs.Extent.{Extent}
use Rattle.sc_cut.specs.declared.cut.Cut.TheVariants.{Month}
use Rattle.sc_cut.specs.Key.{has_key}
use Rattle.sc_history.specs.declared.addition.Addition.{Addition}
use Rattle.sc_history.specs.Names.{hull_of, part_of}
use Rattle.sc_history.specs.History.{replay, stamp, birth, added, additions, first_revision, kept_from}
use Rattle.sc_history.specs.Example.{IsExample, april, march, one_a_revision, one_again, one_moved, scene}

module _ (tree patch : Json) (first second : List (Arc Feature Global)) (day later : ℤ) (in_march : has_key Month (pos 24290) day ≡ true) (not_in_april : has_key Month (pos 24291) day ≡ false) (not_in_march : has_key Month (pos 24290) later ≡ false) (in_april : has_key Month (pos 24291) later ≡ true) where
  pub march_moved : part_of (replay (one_moved tree patch first second day later)) march ≡ scene (codes "k") day ∷ []
  unfolding replay
  march_moved = rw (in_march, not_in_march) refl

  pub april_moved : part_of (replay (one_moved tree patch first second day later)) april ≡ scene (codes "a") later ∷ []
  unfolding replay
  april_moved = rw (not_in_april, in_april) refl

  pub march_stamp : stamp (one_moved tree patch first second day later) march ≡ 4
  unfolding replay stamp
  march_stamp = rw (in_march, not_in_march) refl

  pub april_stamp : stamp (one_moved tree patch first second day later) april ≡ 4
  unfolding replay stamp
  april_stamp = rw (not_in_april, in_april) refl

  pub march_birth : birth (one_moved tree patch first second day later) march ≡ 2
  unfolding replay birth
  march_birth = rw in_march refl

  pub march_additions : additions (one_moved tree patch first second day later) march ≡ record { revision = 3; hull = hull_of (scene (codes "k") day ∷ []) } ∷ record { revision = 2; hull = hull_of (scene (codes "a") day ∷ []) } ∷ []
  unfolding replay birth added
  march_additions = rw (in_march, not_in_march) refl

  pub march_again : additions (one_again tree patch first second day later) march ≡ record { revision = 6; hull = hull_of (scene (codes "k") day ∷ []) } ∷ []
  unfolding replay birth added
  march_again = simp (in_march, not_in_march) refl

  pub march_kept : kept_from (one_again tree patch first second day later) march ≡ 5
  unfolding replay birth added
  march_kept = simp (in_march, not_in_march) refl

  pub march_stamp_again : stamp (one_again tree patch first second day later) march ≡ 6
  unfolding replay stamp
  march_stamp_again = simp (in_march, not_in_march) refl

pub one_dropped : (hull : Extent) → first_revision 1 (drop 64 (one_a_revision hull 65)) ≡ 2
one_dropped hull = refl

pub two_dropped : (hull : Extent) → first_revision 1 (drop 64 (one_a_revision hull 66)) ≡ 3
two_dropped hull = refl

-- ---- by clauses

pub moves : (tree patch : Json) (first second : List (Arc Feature Global)) (day later : ℤ) → IsExample day later → (part_of (replay (one_moved tree patch first second day later)) march ≡ scene (codes "k") day ∷ []) × (part_of (replay (one_moved tree patch first second day later)) april ≡ scene (codes "a") later ∷ [])
moves tree patch first second day later is =
    (march_moved tree patch first second day later is.in_march is.not_in_april is.not_in_march is.in_april, april_moved tree patch first second day later is.in_march is.not_in_april is.not_in_march is.in_april)

pub stamps : (tree patch : Json) (first second : List (Arc Feature Global)) (day later : ℤ) → IsExample day later → (stamp (one_moved tree patch first second day later) march ≡ 4) × (stamp (one_moved tree patch first second day later) april ≡ 4)
stamps tree patch first second day later is =
    (march_stamp tree patch first second day later is.in_march is.not_in_april is.not_in_march is.in_april, april_stamp tree patch first second day later is.in_march is.not_in_april is.not_in_march is.in_april)

pub adds : (tree patch : Json) (first second : List (Arc Feature Global)) (day later : ℤ) → IsExample day later → (birth (one_moved tree patch first second day later) march ≡ 2) × (map (λ a. a.revision) (additions (one_moved tree patch first second day later) march) ≡ 3 ∷ 2 ∷ [])
adds tree patch first second day later is =
    (march_birth tree patch first second day later is.in_march is.not_in_april is.not_in_march is.in_april, ap (map (λ (a : Addition). a.revision)) (march_additions tree patch first second day later is.in_march is.not_in_april is.not_in_march is.in_april))

pub comes_again : (tree patch : Json) (first second : List (Arc Feature Global)) (day later : ℤ) → IsExample day later →
    (stamp (one_again tree patch first second day later) march ≡ 6) × (map (λ a. a.revision) (additions (one_again tree patch first second day later) march) ≡ 6 ∷ []) × (kept_from (one_again tree patch first second day later) march ≡ 5)
comes_again tree patch first second day later is = (
  march_stamp_again tree patch first second day later is.in_march is.not_in_april is.not_in_march is.in_april,
  ap (map (λ (a : Addition). a.revision)) (march_again tree patch first second day later is.in_march is.not_in_april is.not_in_march is.in_april),
  march_kept tree patch first second day later is.in_march is.not_in_april is.not_in_march is.in_april,
)

pub keeps : (hull : Extent) → (first_revision 1 (drop 64 (one_a_revision hull 65)) ≡ 2) × (first_revision 1 (drop 64 (one_a_revision hull 66)) ≡ 3)
keeps hull = (one_dropped hull, two_dropped hull)

-- How a list holds its elements, so that a type may lead back to itself through it: the value is the list, so the
-- elements are the children, in order, and the shape is the length alone.
use mathlib.Core.Path.{◌≡◌, refl, sym}
use mathlib.Core.List.{List, []}
use mathlib.Core.Former.{Former, this, list, via, children}
use base.Stored.{code_map}
use denote.RattleType.{RattleType}
use denote.HoleLaws.{Alike}
use denote.HolePlaces.{Recodes, struct_places, laid}
use denote.Hole.Carrier.{listed, list-listed}
use denote.Hole.Fix.{over}
use denote.Param.Weighed.{Weighed, w_list}
use denote.Model.Placed.{view_places}
use Rattle.std.specs.formers.vec.Vec as vector
use Rattle.std.specs.declared.alloc.Global.{Global}
use Rattle.std.specs.contracts.alloc.Global as allocator
use Rattle.std.specs.contracts.impls.GlobalAllocator.TheImpl.{ghosts}
use Rattle.sc_base.specs.declared.seq.Seq.TheInside.{Inside}
use Rattle.sc_base.specs.declared.seq.Seq.TheView as seen
use Rattle.sc_base.specs.contracts.seq.Seq as whole
use Rattle.sc_base.specs.contracts.seq.Seq.TheInside as within

-- ---- the value

abbrev pub the_former : Former {0} → Former {0}
the_former element = list element

abbrev pub the_weighed : {element : Former {0}} → Weighed element → Weighed (the_former element)
the_weighed weight = w_list weight

pub the_empty : List ⊥
the_empty = []

abbrev pub the_items : (T : Type 0) → List T → List T
the_items T value = value

pub the_items_listed : (T : Type 0) (value : List T) → listed _ (children (the_former this) T value) ≡ the_items T value
the_items_listed T value = list-listed T value

-- ---- the memory: one field, a `Vec` of the elements

abbrev one_field : Former {0}
one_field = via (vector.the_former this Global) Inside (λ T s. s.items) (λ T v. record { items = v }) (λ T s. refl) (λ T v. refl)

pub the_places : (R R' : RattleType) (h : R.Denot → R'.Denot) → Alike R R' h → Alike (whole.the_row R) (whole.the_row R') ((the_former this).map R.Denot R'.Denot h)
the_places R R' h alike =
    view_places one_field (list this) seen.view (λ X Y k s. refl) (λ X s. refl) R.Denot R'.Denot h (whole.the_row R).coded (whole.the_row R').coded
    (seen.invariant R.Denot) (seen.invariant R'.Denot) (λ s p q. refl) (λ s p q. refl) (λ s e. tt) (λ s e. tt)
    (over (within.the_row R)) (over (within.the_row R'))
    (struct_places (within.the_type R) (within.the_type R') (vector.mapped h, tt) _ (λ s. refl) refl (laid _ _ _ (vector.the_places allocator.the_row ghosts R R' h alike), tt))

pub the_codes_placed : (R R' : RattleType) (h : R.Denot → R'.Denot) → Recodes R R' h → Recodes (whole.the_row R) (whole.the_row R') ((the_former this).map R.Denot R'.Denot h)
the_codes_placed R R' h recodes value = sym (code_map R.coded.code R'.coded.code h (λ x. sym (recodes x)) value)

-- A loop that reads one element after another.
use Rattle.std.proofs.Common.{◌≡◌, ℕ, ◌+◌, ◌<◌, ◌≤◌, Bool, true, false, List, [], ◌∷◌, ◌++◌, length, get_or, take, Option, Some, None, Ok, Err, refl, ap, sym, subst, ◌∙◌, arith}
use Rattle.std.specs.Prelude.{nat_le, if◌then◌else◌}
use Rattle.std.specs.Option.{option_and_then}
use Rattle.std.proofs.lemmas.Bool.Decides.{nat_tests}
use Rattle.std.proofs.lemmas.List.{take_more}
use Rattle.sc_json.specs.declared.tree.Json.{Json}
use Rattle.sc_geom.specs.declared.fault.GeomFault.{GeomFault}
use Rattle.sc_geom.specs.declared.fault.GeomFault.TheVariants.{BadShape, OpenRing, OutOfWorld, TooManyPositions, OutOfMemory}
use Rattle.sc_geom.specs.declared.point.Pt.{Pt}
use Rattle.sc_geom.specs.declared.draft.Draft.{Draft}
use Rattle.sc_geom.specs.Shapes.{beside}
use Rattle.sc_geom.specs.Sketch.{Sketch}
use Rattle.sc_geom.specs.Tree.{list_of}
use Rattle.sc_geom.specs.Drawn.{both_read, all_read, filled, elements_of, each, positions, long_line, line_of, area_of, lines_only, areas_only}
use Rattle.sc_geom.specs.Building.{Reads, Adds}
use Rattle.sc_geom.proofs.Lists.{push_read, all_read-push, all_read_stops}
use Rattle.sc_geom.proofs.Depicting.{beside_assoc}

pub read_ok : {A B : Type 0} (R : A → B → Type 0) (x : A) (o : Option B) → Reads R (Ok x) o → (y : B) × (o ≡ Some y) × R x y
read_ok R x None r = absurd r
read_ok R x (Some y) r = (y, refl, r)

pub read_more : {A B : Type 0} (f : A → Option B) (xs : List A) (i : ℕ) (x : A) (ys : List B) (y : B) → i < length xs → x ≡ get_or xs i x →
    all_read f (take i xs) ≡ Some ys → f x ≡ Some y → all_read f (take (i + 1) xs) ≡ Some (ys ++ y ∷ [])
read_more f xs i x ys y h is e g =
    let grown : all_read f (take (i + 1) xs) ≡ push_read (all_read f (take i xs)) (f (get_or xs i x)) = ap (all_read f) (take_more xs i x h) ∙ all_read-push f (take i xs) (get_or xs i x) in
    let here : f (get_or xs i x) ≡ Some y = sym (ap f is) ∙ g in
    rw (grown, e, here) refl

pub each_stops : {A : Type 0} (f : Json → Option A) (tree : Json) (xs : List Json) (i : ℕ) (x : Json) → elements_of tree ≡ Some xs → i < length xs → x ≡ get_or xs i x → f x ≡ None → each f tree ≡ None
each_stops f tree xs i x e h is n = ap (option_and_then (all_read f)) e ∙ all_read_stops f xs i x h is n

-- what stops the reading of a part stops that of the whole
pub stopped : {A B C D : Type 0} (R : A → B → Type 0) (S : C → D → Type 0) (e : GeomFault) (y : Option B) (z : Option D) → Reads R (Err e) y → (y ≡ None → z ≡ None) → Reads S (Err e) z
stopped R S BadShape (Some y) z r h = absurd r
stopped R S BadShape None z r h = rw (h refl) tt
stopped R S OutOfMemory y z r h = tt
stopped R S OpenRing y z r h = absurd r
stopped R S OutOfWorld y z r h = absurd r
stopped R S (TooManyPositions count) y z r h = absurd r

pub stopped_adding : {A B : Type 0} (R : A → B → Type 0) (e : GeomFault) (y : Option B) (z : Option Sketch) (s : Sketch) (draft : Draft) → Reads R (Err e) y → (y ≡ None → z ≡ None) → Adds (Err e) z s draft
stopped_adding R BadShape (Some y) z s draft r h = absurd r
stopped_adding R BadShape None z s draft r h = rw (h refl) tt
stopped_adding R OutOfMemory y z s draft r h = tt
stopped_adding R OpenRing y z s draft r h = absurd r
stopped_adding R OutOfWorld y z s draft r h = absurd r
stopped_adding R (TooManyPositions count) y z s draft r h = absurd r

two_or_more : (b : Bool) (n : ℕ) (places ys : List (Option Pt)) → b ≡ nat_le 2 (length places) → (if b then Some places else None) ≡ Some ys → 2 ≤ length ys
two_or_more false n places ys is e = absurd cc
two_or_more true n places ys is e =
    let long : 2 ≤ length places = grind (arith, nat_tests) in
    let same : places ≡ ys = cc in
    subst (λ (l : List (Option Pt)). 2 ≤ length l) same long

long_read : (o : Option (List (Option Pt))) (places : List (Option Pt)) → option_and_then long_line o ≡ Some places → 2 ≤ length places
long_read None places e = absurd cc
long_read (Some l) places e = two_or_more (nat_le 2 (length l)) 2 l places refl e

pub line_long : (tree : Json) (places : List (Option Pt)) → line_of tree ≡ Some places → 2 ≤ length places
unfolding line_of
line_long tree places e = long_read (positions tree) places e

one_or_more : {A : Type 0} (xs ys : List A) → filled xs ≡ Some ys → 1 ≤ length ys
one_or_more [] ys e = absurd cc
one_or_more (x ∷ xs) [] e = absurd cc
one_or_more (x ∷ xs) (y ∷ ys) e = omega arith

both_never_empty : {A : Type 0} (a : Option A) (r : Option (List A)) → both_read a r ≡ Some [] → ⊥
both_never_empty None r e = cc
both_never_empty (Some a) None e = cc
both_never_empty (Some a) (Some r) e = cc

read_some : {A B : Type 0} (f : A → Option B) (xs : List A) (ys : List B) → 1 ≤ length xs → all_read f xs ≡ Some ys → 1 ≤ length ys
read_some f [] ys h e = absurd (omega arith)
read_some f (x ∷ xs) [] h e = absurd (both_never_empty (f x) (all_read f xs) e)
read_some f (x ∷ xs) (y ∷ ys) h e = omega arith

some_of : {A : Type 0} (f : Json → Option A) (o : Option (List Json)) (ys : List A) → ((xs : List Json) → o ≡ Some xs → 1 ≤ length xs) → option_and_then (all_read f) o ≡ Some ys → 1 ≤ length ys
some_of f None ys h e = absurd cc
some_of f (Some xs) ys h e = read_some f xs ys (h xs refl) e

some_elements : (o : Option (List Json)) (xs : List Json) → option_and_then filled o ≡ Some xs → 1 ≤ length xs
some_elements None xs e = absurd cc
some_elements (Some l) xs e = one_or_more l xs e

pub elements_some : (tree : Json) (xs : List Json) → elements_of tree ≡ Some xs → 1 ≤ length xs
unfolding elements_of
elements_some tree xs e = some_elements (list_of tree) xs e

pub each_some : {A : Type 0} (f : Json → Option A) (tree : Json) (ys : List A) → each f tree ≡ Some ys → 1 ≤ length ys
each_some f tree ys e = some_of f (elements_of tree) ys (elements_some tree) e

pub area_some : (tree : Json) (rings : List (List (Option Pt))) → area_of tree ≡ Some rings → 1 ≤ length rings
unfolding area_of
area_some tree rings e = each_some positions tree rings e

pub one_line_more : (s : Sketch) (lines : List (List (Option Pt))) (line : List (Option Pt)) → beside (beside s (lines_only lines)) (lines_only (line ∷ [])) ≡ beside s (lines_only (lines ++ line ∷ []))
one_line_more s lines line = beside_assoc s (lines_only lines) (lines_only (line ∷ []))

pub one_area_more : (s : Sketch) (areas : List (List (List (Option Pt)))) (area : List (List (Option Pt))) → beside (beside s (areas_only areas)) (areas_only (area ∷ [])) ≡ beside s (areas_only (areas ++ area ∷ []))
one_area_more s areas area = beside_assoc s (areas_only areas) (areas_only (area ∷ []))

-- Lists: ends, lists joined, and lists that are read element by element.
use Rattle.std.proofs.Common.{suc, zero, ◌≡◌, ℕ, ◌<◌, List, [], ◌∷◌, ◌++◌, length, get_or, Option, Some, None, refl, ap, sym, ◌∙◌, append_assoc, arith}
use Rattle.std.proofs.lemmas.List.{append-nil}
use Rattle.sc_geom.specs.Shapes.{joined, last_of, last_behind}
use Rattle.sc_geom.specs.Drawn.{both_read, all_read}

last_behind-push : {A : Type 0} (y : A) (ys : List A) (x : A) → last_behind y (ys ++ x ∷ []) ≡ x
last_behind-push y [] x = refl
last_behind-push y (z ∷ zs) x = last_behind-push z zs x

pub last_of-push : {A : Type 0} (xs : List A) (x : A) → last_of (xs ++ x ∷ []) ≡ Some x
last_of-push [] x = refl
last_of-push (y ∷ ys) x = ap Some (last_behind-push y ys x)

pub joined-append : {A : Type 0} (xs ys : List (List A)) → joined (xs ++ ys) ≡ joined xs ++ joined ys
joined-append [] ys = refl
joined-append (x ∷ xs) ys = ap (λ r. x ++ r) (joined-append xs ys) ∙ sym (append_assoc x (joined xs) (joined ys))

pub joined-push : {A : Type 0} (xs : List (List A)) (x : List A) → joined (xs ++ x ∷ []) ≡ joined xs ++ x
joined-push xs x = joined-append xs (x ∷ []) ∙ ap (λ r. joined xs ++ r) (append-nil x)

-- one more that is read, behind those that are
abbrev pub push_read : {A : Type 0} → Option (List A) → Option A → Option (List A)
push_read None y = None
push_read (Some ys) None = None
push_read (Some ys) (Some y) = Some (ys ++ y ∷ [])

both_push : {A : Type 0} (a : Option A) (r : Option (List A)) (b : Option A) → both_read a (push_read r b) ≡ push_read (both_read a r) b
both_push None r b = refl
both_push (Some a) None b = refl
both_push (Some a) (Some r) None = refl
both_push (Some a) (Some r) (Some b) = refl

one_push : {A : Type 0} (b : Option A) → both_read b (Some []) ≡ push_read (Some []) b
one_push None = refl
one_push (Some b) = refl

pub all_read-push : {A B : Type 0} (f : A → Option B) (xs : List A) (x : A) → all_read f (xs ++ x ∷ []) ≡ push_read (all_read f xs) (f x)
all_read-push f [] x = one_push (f x)
all_read-push f (a ∷ xs) x = ap (both_read (f a)) (all_read-push f xs x) ∙ both_push (f a) (all_read f xs) (f x)

both_none : {A : Type 0} (a : Option A) → both_read a None ≡ None
both_none None = refl
both_none (Some a) = refl

-- an element that can't be read
pub all_read_stops : {A B : Type 0} (f : A → Option B) (xs : List A) (i : ℕ) (x : A) → i < length xs → x ≡ get_or xs i x → f x ≡ None → all_read f xs ≡ None
all_read_stops f [] i x h e n = absurd (omega arith)
all_read_stops f (a ∷ xs) zero x h e n = let g : f a ≡ None = sym (ap f e) ∙ n in ap (λ r. both_read r (all_read f xs)) g
all_read_stops f (a ∷ xs) (suc i) x h e n = ap (both_read (f a)) (all_read_stops f xs i x (omega arith) e n) ∙ both_none (f a)

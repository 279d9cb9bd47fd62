-- What is read of the parts of a text, one after another.
use Rattle.std.proofs.Common.{◌≡◌, List, [], ◌∷◌, ◌++◌, Option, Some, None, refl, sym, ◌∙◌, ap, append_assoc}
use Rattle.std.specs.Option.{option_map}
use Rattle.std.proofs.lemmas.List.{append-nil}
use Rattle.sc_geom.specs.Drawn.{both_read, all_read}

-- what is read so far stands before what is read of the rest
abbrev pub behind : {B : Type 0} → List B → Option (List B) → Option (List B)
behind so_far = option_map (λ rest. so_far ++ rest)

pub behind_none : {B : Type 0} (rest : Option (List B)) → behind [] rest ≡ rest
behind_none None = refl
behind_none (Some rest) = refl

pub behind_all : {B : Type 0} (so_far : List B) → behind so_far (Some []) ≡ Some so_far
behind_all so_far = ap Some (append-nil so_far)

one_behind : {B : Type 0} (so_far : List B) (y : B) (rest : Option (List B)) → behind so_far (both_read (Some y) rest) ≡ behind (so_far ++ y ∷ []) rest
one_behind so_far y None = refl
one_behind so_far y (Some rest) = ap Some (sym (append_assoc so_far (y ∷ []) rest))

pub one_more : {A B : Type 0} (f : A → Option B) (so_far : List B) (x : A) (y : B) (xs : List A) → f x ≡ Some y → behind so_far (all_read f (x ∷ xs)) ≡ behind (so_far ++ y ∷ []) (all_read f xs)
one_more f so_far x y xs e = ap (λ o. behind so_far (both_read o (all_read f xs))) e ∙ one_behind so_far y (all_read f xs)

none_read : {B : Type 0} (rest : Option (List B)) → both_read None rest ≡ None
none_read None = refl
none_read (Some rest) = refl

pub one_fails : {A B : Type 0} (f : A → Option B) (so_far : List B) (x : A) (xs : List A) → f x ≡ None → behind so_far (all_read f (x ∷ xs)) ≡ None
one_fails f so_far x xs e = ap (λ o. behind so_far (both_read o (all_read f xs))) e ∙ ap (behind so_far) (none_read (all_read f xs))

-- The texts that scalars are, one by one.
use Rattle.std.proofs.Common.{◌≡◌, ℕ, List, [], ◌∷◌, ◌++◌, refl, ap}
use Rattle.std.specs.Prelude.{Option, Some, None, option_map}
use Rattle.std.proofs.lemmas.List.{append_assoc, append-nil}
use Rattle.sc_need.specs.Need.{onto}

pub one_more : (texts : List (List ℕ)) (t : List ℕ) (rest : Option (List (List ℕ))) → option_map (λ more. (texts ++ t ∷ []) ++ more) rest ≡ option_map (λ more. texts ++ more) (onto (Some t) rest)
one_more texts t None = refl
one_more texts t (Some rest) = ap Some (append_assoc texts (t ∷ []) rest)

pub no_more : (texts : List (List ℕ)) → Some (texts ++ []) ≡ Some texts
no_more texts = ap Some (append-nil texts)

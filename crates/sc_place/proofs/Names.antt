-- Methods have different names.
use Rattle.std.proofs.Common.{◌≡◌, ℕ, ◌+◌, ◌*◌, List, get_or, refl, sym, ◌∙◌, ap, subst, arith}
use Rattle.std.specs.Prelude.{Option, None, Bool, false, ◌==◌}
use Rattle.std.proofs.lemmas.Bool.Decides.{nat_tests}
use Rattle.sc_place.specs.Resources.{LeadsTo}
use Rattle.sc_place.specs.Operations.{name_of, operation_at, listed, methods_at, Lacks, AsksInVain}
use Rattle.sc_place.specs.declared.resource.Resource.{Resource}
use Rattle.sc_place.specs.declared.method.Method.{Method}
use Rattle.sc_place.specs.declared.method.Method.TheVariants.{Get, Post, Put, Patch, Delete}

-- their first two bytes tell names apart
abbrev mark : List ℕ → ℕ
mark name = get_or name 0 0 * 256 + get_or name 1 0

differ : (m n : ℕ) → (m == n) ≡ false → m ≡ n → ⊥
differ m n apart same = grind (arith, nat_tests)

one_name : (a b : Method) → name_of a ≡ name_of b → a ≡ b
unfolding name_of
one_name Get Get e = refl
one_name Get Post e = absurd (differ 18245 20559 refl (ap mark e))
one_name Get Put e = absurd (differ 18245 20565 refl (ap mark e))
one_name Get Patch e = absurd (differ 18245 20545 refl (ap mark e))
one_name Get Delete e = absurd (differ 18245 17477 refl (ap mark e))
one_name Post Get e = absurd (differ 20559 18245 refl (ap mark e))
one_name Post Post e = refl
one_name Post Put e = absurd (differ 20559 20565 refl (ap mark e))
one_name Post Patch e = absurd (differ 20559 20545 refl (ap mark e))
one_name Post Delete e = absurd (differ 20559 17477 refl (ap mark e))
one_name Put Get e = absurd (differ 20565 18245 refl (ap mark e))
one_name Put Post e = absurd (differ 20565 20559 refl (ap mark e))
one_name Put Put e = refl
one_name Put Patch e = absurd (differ 20565 20545 refl (ap mark e))
one_name Put Delete e = absurd (differ 20565 17477 refl (ap mark e))
one_name Patch Get e = absurd (differ 20545 18245 refl (ap mark e))
one_name Patch Post e = absurd (differ 20545 20559 refl (ap mark e))
one_name Patch Put e = absurd (differ 20545 20565 refl (ap mark e))
one_name Patch Patch e = refl
one_name Patch Delete e = absurd (differ 20545 17477 refl (ap mark e))
one_name Delete Get e = absurd (differ 17477 18245 refl (ap mark e))
one_name Delete Post e = absurd (differ 17477 20559 refl (ap mark e))
one_name Delete Put e = absurd (differ 17477 20565 refl (ap mark e))
one_name Delete Patch e = absurd (differ 17477 20545 refl (ap mark e))
one_name Delete Delete e = refl

pub in_vain : (target name allow : List ℕ) (r : Resource) (m : Method) → LeadsTo target r → name ≡ name_of m → operation_at r m ≡ None
    → allow ≡ listed (methods_at r) → AsksInVain target name allow
in_vain target name allow r m leads named none is = (
  r,
  leads,
  λ other called. subst (λ o. operation_at r o ≡ None) (one_name m other (sym named ∙ called)) none,
  is,
)

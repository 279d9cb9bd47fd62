-- Tests of texts, cuts and names.
use Rattle.std.proofs.Common.{◌≡◌, ℕ, Bool, true, false, ◌||◌, List, refl, sym, ◌∙◌, bytes_eq, true≢false}
use Rattle.std.specs.Cmp.Lexicographic.{bytes_decides}
use Rattle.std.proofs.lemmas.Cmp.{nat_list_eq_equiv}

pub same_text : (a b : List ℕ) → bytes_eq a b ≡ true → a ≡ b
same_text a b e = (bytes_decides a b).0 e

pub text_test : (a b : List ℕ) → a ≡ b → bytes_eq a b ≡ true
text_test a b e = (bytes_decides a b).1 e

pub text_self : (a : List ℕ) → bytes_eq a a ≡ true
text_self a = nat_list_eq_equiv.refl a

pub text_turn : (a b : List ℕ) → bytes_eq a b ≡ bytes_eq b a
text_turn a b = nat_list_eq_equiv.symm a b

pub or_true : (a b : Bool) → b ≡ true → (a || b) ≡ true
or_true true b e = refl
or_true false b e = e

pub never : {R : Type 0} (b : Bool) → b ≡ true → b ≡ false → R
never b e f = absurd (true≢false (sym e ∙ f))

-- What is UTF-8, and what isn't.
use Rattle.std.proofs.Common.{◌≡◌, ℕ, List, Bool, true, false, Some, None, refl}
use Rattle.std.specs.Str.{IsUtf8, is_utf8}
use Rattle.std.proofs.lemmas.Str.{IsUtf8-from_is_utf8, is_utf8-from_IsUtf8}
use Rattle.sc_base.specs.Text.{text_of}

pub text_of_utf8 : (bs : List ℕ) → IsUtf8 bs → text_of bs ≡ Some bs
text_of_utf8 bs h = rw (is_utf8-from_IsUtf8 bs h) refl

pub text_of_other : (bs : List ℕ) → (IsUtf8 bs → ⊥) → text_of bs ≡ None
text_of_other bs h = go (is_utf8 bs) refl
  where
    go : (b : Bool) → is_utf8 bs ≡ b → text_of bs ≡ None
    go true e = absurd (h (IsUtf8-from_is_utf8 bs e))
    go false e = rw e refl

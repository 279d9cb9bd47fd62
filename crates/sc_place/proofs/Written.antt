-- The text that a segment writes, by whether what it decodes to is UTF-8.
use Rattle.std.proofs.Common.{◌≡◌, ◌≢◌, ℕ, List, [], Option, Some, None, Bool, true, false, cond, sym, ◌∙◌, subst, refl}
use Rattle.std.specs.Prelude.{MatchOption}
use Rattle.std.specs.Str.{is_utf8, IsUtf8}
use Rattle.std.proofs.lemmas.Str.{IsUtf8-from_is_utf8, is_utf8-from_IsUtf8}
use Rattle.percent_encoding.specs.Percent.{percent_decode}
use Rattle.sc_base.specs.Text.{text_of}
use Rattle.sc_place.specs.Segments.{Writes}

pub written : (segment bytes : List ℕ) (found : Option (List ℕ)) → segment ≢ [] → bytes ≡ percent_decode segment → found ≡ text_of bytes
    → MatchOption found ((text : List ℕ) → Writes segment text → ⊥) (Writes segment)
written segment bytes found some decoded is = by (is_utf8 bytes) refl found is
  where
    by : (b : Bool) → is_utf8 bytes ≡ b → (found : Option (List ℕ)) → found ≡ cond b (Some bytes) None
        → MatchOption found ((text : List ℕ) → Writes segment text → ⊥) (Writes segment)
    by true e None f = cc
    by true e (Some text) f =
        let t : text ≡ bytes = cc in
        (some, t ∙ decoded, subst IsUtf8 (sym t) (IsUtf8-from_is_utf8 bytes e))
    by false e (Some text) f = cc
    by false e None f = λ text w.
        let t : is_utf8 bytes ≡ true = is_utf8-from_IsUtf8 bytes (subst IsUtf8 (w.1 ∙ sym decoded) w.2) in
        cc

-- The token behind the white space is the longest.
use Rattle.std.proofs.Common.{◌≡◌, ◌⊎◌, inl, inr, ℕ, zero, suc, ◌+◌, ◌<◌, ◌≤◌, List, [], ◌∷◌, length, take, drop, Option, Some, None, Bool, true, false, refl, add-one, length-drop, arith}
use Rattle.std.specs.Prelude.{if◌then◌else◌}
use Rattle.std.proofs.lemmas.List.{drop-drop}
use Rattle.std.proofs.lemmas.Bool.Decides.{eqb_tells}
use Rattle.sc_grammar.specs.declared.lexeme.Kind.{Kind}
use Rattle.sc_grammar.specs.declared.lexeme.Kind.TheVariants as kinds
use Rattle.sc_grammar.specs.declared.lexeme.Lexeme.{Lexeme}
use Rattle.sc_grammar.specs.Lexing.{is_blank, blank_len, longest, found_at, lexeme_from, lexeme_at}
use Rattle.sc_grammar.specs.Tokens.{AreBlank, BeginsBlank, IsLongest, IsKind, IsNext, IsFormed}
use Rattle.sc_grammar.proofs.Longest.{longest_is, nothing_is_no_token}

tells : (b : Bool) → (b ≡ true) ⊎ (b ≡ false)
tells true = inl refl
tells false = inr refl

blanks_are : (bs : List ℕ) → AreBlank (take (blank_len bs) bs)
unfolding blank_len
blanks_are [] = tt
blanks_are (b ∷ bs) =
    elim (tells (is_blank b)) [
      | inl e ↦ rw (e, add-one) (e, blanks_are bs)
      | inr e ↦ rw e tt
    ]

begins_no_blank : (b : ℕ) (bs : List ℕ) → is_blank b ≡ false → BeginsBlank (b ∷ bs) → ⊥
begins_no_blank b bs e h = absurd cc

no_more_blanks : (bs : List ℕ) → BeginsBlank (drop (blank_len bs) bs) → ⊥
unfolding blank_len
no_more_blanks [] h = h
no_more_blanks (b ∷ bs) h =
    elim (tells (is_blank b)) [
      | inl e ↦ no_more_blanks bs (rw (e, add-one) at h)
      | inr e ↦ begins_no_blank b bs e (rw e at h)
    ]

kind_found : (text : List ℕ) (w : Bool) (n : ℕ) (k : Kind) (m : ℕ) → IsLongest (drop n text) (Some (k, m)) → IsKind text w k n (n + m)
kind_found text w n kinds.End m h = absurd h.1
kind_found text w n kinds.Bad m h = absurd h.1
kind_found text w n kinds.Word m h = (m, refl, h)
kind_found text w n kinds.QuotedName m h = (m, refl, h)
kind_found text w n kinds.Text m h = (m, refl, h)
kind_found text w n kinds.Number m h = (m, refl, h)
kind_found text w n kinds.Equal m h = (m, refl, h)
kind_found text w n kinds.NotEqual m h = (m, refl, h)
kind_found text w n kinds.Less m h = (m, refl, h)
kind_found text w n kinds.Greater m h = (m, refl, h)
kind_found text w n kinds.AtMost m h = (m, refl, h)
kind_found text w n kinds.AtLeast m h = (m, refl, h)
kind_found text w n kinds.Opening m h = (m, refl, h)
kind_found text w n kinds.Closing m h = (m, refl, h)
kind_found text w n kinds.Comma m h = (m, refl, h)

-- the place stands, and the kind is what is there
abbrev Stands : List ℕ → Bool → ℕ → Lexeme → Type 0
Stands text w n l = (l.from ≡ n) × IsKind text w l.kind l.from l.to

found_stands : (text : List ℕ) (w : Bool) (n : ℕ) (o : Option (Kind × ℕ)) → n < length text → IsLongest (drop n text) o → Stands text w n (found_at n o)
found_stands text w n None lt h = (refl, (inr (lt, h), refl))
found_stands text w n (Some (k, m)) lt h = (refl, kind_found text w n k m h)

end_stands : (text : List ℕ) (w : Bool) (n : ℕ) → n ≡ length text → Stands text w n (record { kind = if w then kinds.End else kinds.Bad; from = n; to = n })
end_stands text true n e = (refl, (e, refl, refl))
end_stands text false n e = (refl, (inl (e, refl), refl))

from_stands : (text : List ℕ) (w : Bool) (n : ℕ) → n ≤ length text → Stands text w n (lexeme_from text w n)
from_stands text w n le =
    elim (eqb_tells n (length text)) [
      | inl h ↦ rw h.0 (end_stands text w n h.1)
      | inr h ↦ rw h.0 (found_stands text w n (longest (drop n text)) (omega (arith, le, h.1)) (longest_is (drop n text)))
    ]

blank_len_within : (bs : List ℕ) → blank_len bs ≤ length bs
unfolding blank_len
blank_len_within [] = omega arith
blank_len_within (b ∷ bs) =
    let h = blank_len_within bs in
    elim (tells (is_blank b)) [ inl e ↦ rw e (omega (arith, h)) | inr e ↦ rw e (omega arith) ]

pub next_is : (text : List ℕ) (w : Bool) (at : ℕ) → at ≤ length text → IsNext text w at (lexeme_at text w at)
unfolding lexeme_at
next_is text w at le =
    let inside = blank_len_within (drop at text) in
    let s = from_stands text w (at + blank_len (drop at text)) (omega (arith, le, inside, length-drop at text)) in
    record {
      blanks = blank_len (drop at text);
      from_is = s.0;
      are_blank = blanks_are (drop at text);
      no_more = λ h. no_more_blanks (drop at text) (rw (drop-drop (blank_len (drop at text)) at text) (rw s.0 at h));
      is_kind = s.1;
    }

-- a token that is formed has a byte
some_bytes : (bs : List ℕ) (k : Kind) (from to n : ℕ) → to ≡ from + n → IsLongest bs (Some (k, n)) → from < to
some_bytes bs k from to zero e h = absurd (nothing_is_no_token k h.1)
some_bytes bs k from to (suc n) e h = omega (arith, e)

formed_is_longer : (text : List ℕ) (w : Bool) (k : Kind) (from to : ℕ) → IsFormed k → IsKind text w k from to → from < to
formed_is_longer text w kinds.End from to f h = absurd f
formed_is_longer text w kinds.Bad from to f h = absurd f
formed_is_longer text w kinds.Word from to f h = some_bytes (drop from text) kinds.Word from to h.0 h.1 h.2
formed_is_longer text w kinds.QuotedName from to f h = some_bytes (drop from text) kinds.QuotedName from to h.0 h.1 h.2
formed_is_longer text w kinds.Text from to f h = some_bytes (drop from text) kinds.Text from to h.0 h.1 h.2
formed_is_longer text w kinds.Number from to f h = some_bytes (drop from text) kinds.Number from to h.0 h.1 h.2
formed_is_longer text w kinds.Equal from to f h = some_bytes (drop from text) kinds.Equal from to h.0 h.1 h.2
formed_is_longer text w kinds.NotEqual from to f h = some_bytes (drop from text) kinds.NotEqual from to h.0 h.1 h.2
formed_is_longer text w kinds.Less from to f h = some_bytes (drop from text) kinds.Less from to h.0 h.1 h.2
formed_is_longer text w kinds.Greater from to f h = some_bytes (drop from text) kinds.Greater from to h.0 h.1 h.2
formed_is_longer text w kinds.AtMost from to f h = some_bytes (drop from text) kinds.AtMost from to h.0 h.1 h.2
formed_is_longer text w kinds.AtLeast from to f h = some_bytes (drop from text) kinds.AtLeast from to h.0 h.1 h.2
formed_is_longer text w kinds.Opening from to f h = some_bytes (drop from text) kinds.Opening from to h.0 h.1 h.2
formed_is_longer text w kinds.Closing from to f h = some_bytes (drop from text) kinds.Closing from to h.0 h.1 h.2
formed_is_longer text w kinds.Comma from to f h = some_bytes (drop from text) kinds.Comma from to h.0 h.1 h.2

pub lexeme_goes_on : (text : List ℕ) (w : Bool) (at : ℕ) (l : Lexeme) → IsNext text w at l → IsFormed l.kind → l.from < l.to
lexeme_goes_on text w at l h f = formed_is_longer text w l.kind l.from l.to f h.is_kind

-- Byte by byte the longest token is found.
use Rattle.std.proofs.Common.{◌≡◌, ◌≢◌, ◌⊎◌, inl, inr, ℕ, zero, suc, ◌+◌, ◌-◌, ◌<◌, ◌≤◌, List, [], ◌∷◌, ◌++◌, length, take, Option, Some, None, Bool, true, false, refl, sym, ap, subst, ◌∙◌, add-one, arith}
use Rattle.std.proofs.lemmas.Bool.{false≢true}
use Rattle.std.proofs.lemmas.Bool.Decides.{eqb_tells, nat_tests}
use Rattle.std.proofs.Math.Dec.{eqb}
use Rattle.std.specs.Prelude.{◌||◌, ◌==◌, if◌then◌else◌}
use Rattle.std.specs.Option.{option_map_or}
use Rattle.sc_decimal.specs.declared.form.Form.{Form}
use Rattle.sc_decimal.specs.declared.form.Form.TheVariants as forms
use Rattle.sc_decimal.specs.Digits.{Seen, nothing_seen, add_digit, whole_of, seen_in, seen_step, seen_from, seen_of, whole_seen, ends_number}
use Rattle.sc_decimal.specs.Value.{is_number}
use Rattle.sc_grammar.specs.declared.lexeme.Kind.{Kind}
use Rattle.sc_grammar.specs.declared.lexeme.Kind.TheVariants as kinds
use Rattle.sc_grammar.specs.declared.lexing.Part.{Part}
use Rattle.sc_grammar.specs.declared.lexing.Part.TheVariants.{Start, Word, NameOpen, NameFirstQuote, NameInside, NameQuote, TextInside, TextBackslash, TextQuote, Signed, Whole, Point, Fraction, Mark, MarkSigned, Power, Sign}
use Rattle.sc_grammar.specs.Lexing.{is_letter, is_digit, sign_on, part_on, kind_of, Found, as_best, better, longest_from, longest}
use Rattle.sc_grammar.specs.Tokens.{goes_on, AreLetters, IsWord, no_more, plain, quote, text_ends, character, doubled, escaped, backslash, IsQuotedName, IsText, IsToken, NoneAbove, IsLongest}
use Rattle.sc_grammar.specs.Tokens as tokens

-- what the bytes make of a token
unfoldable pub parts_on : Part → List ℕ → Option Part
parts_on p [] = Some p
parts_on p (b ∷ bs) = option_map_or (λ q. parts_on q bs) (part_on p b) None

-- the kind that is whole behind the bytes
abbrev pub whole_kind : Part → List ℕ → Option Kind
whole_kind p bs = option_map_or kind_of (parts_on p bs) None

step_kind : (p : Part) (b : ℕ) (bs : List ℕ) (q : Part) → part_on p b ≡ Some q → whole_kind p (b ∷ bs) ≡ whole_kind q bs
unfolding parts_on
step_kind p b bs q e = rw e refl

dead_kind : (p : Part) (b : ℕ) (bs : List ℕ) → part_on p b ≡ None → whole_kind p (b ∷ bs) ≡ None
unfolding parts_on
dead_kind p b bs e = rw e refl

here_kind : (p : Part) → whole_kind p [] ≡ kind_of p
unfolding parts_on
here_kind p = refl

-- ---- the longest run that is whole

-- what comes out of a part: the best so far, or a longer one, beyond which none is whole
abbrev Longer : Part → List ℕ → ℕ → Found → Found → Type 0
Longer p bs n best found =
    ((found ≡ best) × ((m : ℕ) → 0 < m → m ≤ length bs → whole_kind p (take m bs) ≡ None))
    ⊎ ((k : Kind) × (m : ℕ) × (0 < m) × (m ≤ length bs) × (found ≡ Some (k, n + m)) × (whole_kind p (take m bs) ≡ Some k) × ((j : ℕ) → m < j → j ≤ length bs → whole_kind p (take j bs) ≡ None))

none_behind : (p : Part) (b : ℕ) (bs : List ℕ) → part_on p b ≡ None → (m : ℕ) → 0 < m → m ≤ length (b ∷ bs) → whole_kind p (take m (b ∷ bs)) ≡ None
none_behind p b bs e zero lt le = absurd (omega arith)
none_behind p b bs e (suc m) lt le = dead_kind p b (take m bs) e

-- none is whole beyond so many bytes, one byte on
one_on : (p : Part) (b : ℕ) (bs : List ℕ) (q : Part) → part_on p b ≡ Some q → (n : ℕ) → ((j : ℕ) → n < j → j ≤ length bs → whole_kind q (take j bs) ≡ None) → (j : ℕ) → n + 1 < j → j ≤ length (b ∷ bs) → whole_kind p (take j (b ∷ bs)) ≡ None
one_on p b bs q e n h zero lt le = absurd (omega arith)
one_on p b bs q e n h (suc j) lt le = step_kind p b (take j bs) q e ∙ h j (omega arith) (omega arith)

all_on : (p : Part) (b : ℕ) (bs : List ℕ) (q : Part) → part_on p b ≡ Some q → kind_of q ≡ None → ((j : ℕ) → 0 < j → j ≤ length bs → whole_kind q (take j bs) ≡ None) → (j : ℕ) → 0 < j → j ≤ length (b ∷ bs) → whole_kind p (take j (b ∷ bs)) ≡ None
all_on p b bs q e here h zero lt le = absurd (omega arith)
all_on p b bs q e here h (suc zero) lt le = step_kind p b [] q e ∙ (here_kind q ∙ here)
all_on p b bs q e here h (suc (suc j)) lt le = step_kind p b (take (suc j) bs) q e ∙ h (suc j) (omega arith) (omega arith)

abbrev some_found : (Kind × ℕ) → Found
some_found x = Some x

longer_on : (p : Part) (b : ℕ) (bs : List ℕ) (n : ℕ) (best rest : Found) (q : Part) (k : Option Kind) → part_on p b ≡ Some q → kind_of q ≡ k → Longer q bs (n + 1) (as_best k (n + 1) best) rest → Longer p (b ∷ bs) n best rest
longer_on p b bs n best rest q (Some k) e here (inl h) = inr (k, 1, omega arith, omega arith, h.0, step_kind p b [] q e ∙ (here_kind q ∙ here), one_on p b bs q e 0 h.1)
longer_on p b bs n best rest q None e here (inl h) = inl (h.0, all_on p b bs q e here h.1)
longer_on p b bs n best rest q k e here (inr h) =
    let place : n + 1 + h.1 ≡ n + (h.1 + 1) = omega arith in
    let taken : take (h.1 + 1) (b ∷ bs) ≡ b ∷ take h.1 bs = rw add-one refl in
    inr (h.0, h.1 + 1, omega arith, omega arith, h.4 ∙ ap (λ (m : ℕ). some_found (h.0, m)) place, ap (whole_kind p) taken ∙ (step_kind p b (take h.1 bs) q e ∙ h.5), one_on p b bs q e h.1 h.6)

longer_by : (p : Part) (b : ℕ) (bs : List ℕ) (n : ℕ) (best : Found) (o : Option Part) → part_on p b ≡ o → ((q : Part) (other : Found) → Longer q bs (n + 1) other (longest_from bs q (n + 1) other)) → Longer p (b ∷ bs) n best (option_map_or (λ q. longest_from bs q (n + 1) (better q (n + 1) best)) o best)
longer_by p b bs n best None e rest = inl (refl, none_behind p b bs e)
longer_by p b bs n best (Some q) e rest = longer_on p b bs n best (longest_from bs q (n + 1) (better q (n + 1) best)) q (kind_of q) e refl (rest q (better q (n + 1) best))

pub longer : (bs : List ℕ) (p : Part) (n : ℕ) (best : Found) → Longer p bs n best (longest_from bs p n best)
unfolding longest_from
longer [] p n best = inl (refl, λ m lt le. absurd (omega arith))
longer (b ∷ bs) p n best = longer_by p b bs n best (part_on p b) refl (λ q other. longer bs q (n + 1) other)

-- ---- what is whole is a token

tells : (b : Bool) → (b ≡ true) ⊎ (b ≡ false)
tells true = inl refl
tells false = inr refl

abbrev some_kind : Kind → Option Kind
some_kind k = Some k

same_kind : (j k : Kind) → some_kind j ≡ some_kind k → k ≡ j
same_kind j k e = cc

no_kind : {A : Type 0} (k : Kind) → None ≡ some_kind k → A
no_kind k e = absurd cc

word_sound : (bs : List ℕ) (k : Kind) → whole_kind Word bs ≡ Some k → (k ≡ kinds.Word) × AreLetters bs
word_sound [] k e = (same_kind kinds.Word k (sym (here_kind Word) ∙ e), tt)
word_sound (b ∷ bs) k e =
    elim (tells (goes_on b)) [
      | inl h ↦
          let on : part_on Word b ≡ Some Word = rw h refl in
          let r = word_sound bs k (sym (step_kind Word b bs Word on) ∙ e) in
          (r.0, (h, r.1))
      | inr h ↦ let off : part_on Word b ≡ None = rw h refl in no_kind k (sym (dead_kind Word b bs off) ∙ e)
    ]

word_complete : (bs : List ℕ) → AreLetters bs → whole_kind Word bs ≡ Some kinds.Word
word_complete [] h = here_kind Word
word_complete (b ∷ bs) h = let on : part_on Word b ≡ Some Word = rw h.0 refl in step_kind Word b bs Word on ∙ word_complete bs h.1

two_more : (b c x y : ℕ) (bs ys : List ℕ) → b ≡ x → c ≡ y → bs ≡ ys → b ∷ c ∷ bs ≡ x ∷ y ∷ ys
two_more b c x y bs ys e f g = cc

-- the rest of a name, up to its quote
record NameRest (bs : List ℕ) : Type 0 where
  pub inside : List ℕ
  pub characters : tokens.NameInside inside
  pub ends : bs ≡ inside ++ 34 ∷ []

name_goes : (b : ℕ) → eqb b 34 ≡ false → part_on NameInside b ≡ Some NameInside
name_goes b e = rw e refl

name_sound : (bs : List ℕ) (k : Kind) → whole_kind NameInside bs ≡ Some k → (k ≡ kinds.QuotedName) × NameRest bs
name_sound [] k e = no_kind k (sym (here_kind NameInside) ∙ e)
name_sound (b ∷ []) k e =
    elim (eqb_tells b 34) [
      | inl h ↦
          let on : part_on NameInside b ≡ Some NameQuote = rw h.0 refl in
          (same_kind kinds.QuotedName k (sym (step_kind NameInside b [] NameQuote on ∙ here_kind NameQuote) ∙ e), record { inside = []; characters = no_more; ends = ap (λ (x : ℕ). x ∷ []) h.1 })
      | inr h ↦ no_kind k (sym (step_kind NameInside b [] NameInside (name_goes b h.0) ∙ here_kind NameInside) ∙ e)
    ]
name_sound (b ∷ c ∷ bs) k e =
    elim (eqb_tells b 34) [
      | inl h ↦
          let on : part_on NameInside b ≡ Some NameQuote = rw h.0 refl in
          let f = sym (step_kind NameInside b (c ∷ bs) NameQuote on) ∙ e in
          elim (eqb_tells c 34) [
            | inl i ↦
                let on2 : part_on NameQuote c ≡ Some NameInside = rw i.0 refl in
                let r = name_sound bs k (sym (step_kind NameQuote c bs NameInside on2) ∙ f) in
                (r.0, record { inside = 34 ∷ 34 ∷ r.1.inside; characters = quote r.1.inside r.1.characters; ends = two_more b c 34 34 bs (r.1.inside ++ 34 ∷ []) h.1 i.1 r.1.ends })
            | inr i ↦ let off : part_on NameQuote c ≡ None = rw i.0 refl in no_kind k (sym (dead_kind NameQuote c bs off) ∙ f)
          ]
      | inr h ↦
          let r = name_sound (c ∷ bs) k (sym (step_kind NameInside b (c ∷ bs) NameInside (name_goes b h.0)) ∙ e) in
          (r.0, record { inside = b ∷ r.1.inside; characters = plain b r.1.inside h.1 r.1.characters; ends = ap (λ (x : List ℕ). b ∷ x) r.1.ends })
    ]

not_eqb : (b c : ℕ) → b ≢ c → eqb b c ≡ false
not_eqb b c n = elim (eqb_tells b c) [ inl h ↦ absurd (n h.1) | inr h ↦ h.0 ]

name_complete : (inside : List ℕ) → tokens.NameInside inside → whole_kind NameInside (inside ++ 34 ∷ []) ≡ Some kinds.QuotedName
name_complete _ no_more = step_kind NameInside 34 [] NameQuote refl ∙ here_kind NameQuote
name_complete _ (plain b bs n d) = step_kind NameInside b (bs ++ 34 ∷ []) NameInside (name_goes b (not_eqb b 34 n)) ∙ name_complete bs d
name_complete _ (quote bs d) = step_kind NameInside 34 (34 ∷ (bs ++ 34 ∷ [])) NameQuote refl ∙ (step_kind NameQuote 34 (bs ++ 34 ∷ []) NameInside refl ∙ name_complete bs d)

-- the rest of a text, up to its quote
record TextRest (bs : List ℕ) : Type 0 where
  pub inside : List ℕ
  pub characters : tokens.TextInside inside
  pub ends : bs ≡ inside ++ 39 ∷ []

text_goes : (b : ℕ) → eqb b 39 ≡ false → eqb b 92 ≡ false → part_on TextInside b ≡ Some TextInside
text_goes b e f = rw (e, f) refl

text_quotes : (b : ℕ) → eqb b 39 ≡ true → part_on TextInside b ≡ Some TextQuote
text_quotes b e = rw e refl

text_escapes : (b : ℕ) → eqb b 39 ≡ false → eqb b 92 ≡ true → part_on TextInside b ≡ Some TextBackslash
text_escapes b e f = rw (e, f) refl

-- behind a backslash every byte but a quote is as without it
as_without : (b : ℕ) → eqb b 39 ≡ false → part_on TextBackslash b ≡ part_on TextInside b
as_without b e = rw e refl

kind_without : (b : ℕ) (bs : List ℕ) → eqb b 39 ≡ false → whole_kind TextBackslash (b ∷ bs) ≡ whole_kind TextInside (b ∷ bs)
unfolding parts_on
kind_without b bs e = ap (λ (o : Option Part). option_map_or kind_of (option_map_or (λ q. parts_on q bs) o None) None) (as_without b e)

-- the rest behind a backslash that escapes nothing
behind_backslash : (b : ℕ) (bs inside : List ℕ) → b ≢ 39 → tokens.TextInside inside → b ∷ bs ≡ inside ++ 39 ∷ [] → TextRest (92 ∷ b ∷ bs)
behind_backslash b bs [] n d e = absurd (n cc)
behind_backslash b bs (c ∷ inside) n d e =
    let same : b ≡ c = cc in
    record { inside = 92 ∷ c ∷ inside; characters = backslash c inside (λ x. n (same ∙ x)) d; ends = ap (λ (x : List ℕ). 92 ∷ x) e }

text_sound : (bs : List ℕ) (k : Kind) → whole_kind TextInside bs ≡ Some k → (k ≡ kinds.Text) × TextRest bs
text_sound [] k e = no_kind k (sym (here_kind TextInside) ∙ e)
text_sound (b ∷ []) k e =
    elim (eqb_tells b 39) [
      | inl h ↦
          (same_kind kinds.Text k (sym (step_kind TextInside b [] TextQuote (text_quotes b h.0) ∙ here_kind TextQuote) ∙ e), record { inside = []; characters = text_ends; ends = ap (λ (x : ℕ). x ∷ []) h.1 })
      | inr h ↦
          elim (tells (eqb b 92)) [
            | inl i ↦ no_kind k (sym (step_kind TextInside b [] TextBackslash (text_escapes b h.0 i) ∙ here_kind TextBackslash) ∙ e)
            | inr i ↦ no_kind k (sym (step_kind TextInside b [] TextInside (text_goes b h.0 i) ∙ here_kind TextInside) ∙ e)
          ]
    ]
text_sound (b ∷ c ∷ bs) k e =
    elim (eqb_tells b 39) [
      | inl h ↦
          let f = sym (step_kind TextInside b (c ∷ bs) TextQuote (text_quotes b h.0)) ∙ e in
          elim (eqb_tells c 39) [
            | inl i ↦
                let on : part_on TextQuote c ≡ Some TextInside = rw i.0 refl in
                let r = text_sound bs k (sym (step_kind TextQuote c bs TextInside on) ∙ f) in
                (r.0, record { inside = 39 ∷ 39 ∷ r.1.inside; characters = doubled r.1.inside r.1.characters; ends = two_more b c 39 39 bs (r.1.inside ++ 39 ∷ []) h.1 i.1 r.1.ends })
            | inr i ↦ let off : part_on TextQuote c ≡ None = rw i.0 refl in no_kind k (sym (dead_kind TextQuote c bs off) ∙ f)
          ]
      | inr h ↦
          elim (eqb_tells b 92) [
            | inl i ↦
                let f = sym (step_kind TextInside b (c ∷ bs) TextBackslash (text_escapes b h.0 i.0)) ∙ e in
                elim (eqb_tells c 39) [
                  | inl j ↦
                      let f2 : whole_kind TextBackslash (39 ∷ bs) ≡ Some k = subst (λ (x : ℕ). whole_kind TextBackslash (x ∷ bs) ≡ Some k) j.1 f in
                      let r = text_sound bs k (sym (step_kind TextBackslash 39 bs TextInside refl) ∙ f2) in
                      (r.0, record { inside = 92 ∷ 39 ∷ r.1.inside; characters = escaped r.1.inside r.1.characters; ends = two_more b c 92 39 bs (r.1.inside ++ 39 ∷ []) i.1 j.1 r.1.ends })
                  | inr j ↦
                      let r = text_sound (c ∷ bs) k (sym (kind_without c bs j.0) ∙ f) in
                      (r.0, subst (λ (x : ℕ). TextRest (x ∷ c ∷ bs)) (sym i.1) (behind_backslash c bs r.1.inside j.1 r.1.characters r.1.ends))
                ]
            | inr i ↦
                let r = text_sound (c ∷ bs) k (sym (step_kind TextInside b (c ∷ bs) TextInside (text_goes b h.0 i.0)) ∙ e) in
                (r.0, record { inside = b ∷ r.1.inside; characters = character b r.1.inside h.1 i.1 r.1.characters; ends = ap (λ (x : List ℕ). b ∷ x) r.1.ends })
          ]
    ]

text_complete : (inside : List ℕ) → tokens.TextInside inside → whole_kind TextInside (inside ++ 39 ∷ []) ≡ Some kinds.Text
text_complete _ text_ends = step_kind TextInside 39 [] TextQuote refl ∙ here_kind TextQuote
text_complete _ (character b bs n m d) = step_kind TextInside b (bs ++ 39 ∷ []) TextInside (text_goes b (not_eqb b 39 n) (not_eqb b 92 m)) ∙ text_complete bs d
text_complete _ (doubled bs d) = step_kind TextInside 39 (39 ∷ (bs ++ 39 ∷ [])) TextQuote refl ∙ (step_kind TextQuote 39 (bs ++ 39 ∷ []) TextInside refl ∙ text_complete bs d)
text_complete _ (escaped bs d) = step_kind TextInside 92 (39 ∷ (bs ++ 39 ∷ [])) TextBackslash refl ∙ (step_kind TextBackslash 39 (bs ++ 39 ∷ []) TextInside refl ∙ text_complete bs d)
text_complete _ (backslash b bs n d) = step_kind TextInside 92 (b ∷ (bs ++ 39 ∷ [])) TextBackslash refl ∙ (kind_without b (bs ++ 39 ∷ []) (not_eqb b 39 n) ∙ text_complete (b ∷ bs) d)

-- ---- numbers

-- a part of a number, and the form that it is
data Num : Part → Form → Type 0 where
  signed : Num Signed forms.Signed
  whole : Num Whole forms.Whole
  point : Num Point forms.Point
  fraction : Num Fraction forms.Fraction
  exponent_mark : Num Mark forms.Mark
  mark_signed : Num MarkSigned forms.MarkSigned
  power : Num Power forms.Power

-- both go on alike
abbrev Same : Option Seen → Option Part → Type 0
Same None None = Unit {0}
Same (Some s) (Some p) = Num p s.form
Same _ _ = ⊥

digit_same : (d : Bool) (z : Seen) (p : Part) → Num p z.form → Same (if d then Some z else None) (if d then Some p else None)
digit_same true z p n = n
digit_same false z p n = tt

point_same : (c : Bool) (x : Seen) (o : Option Seen) (r : Option Part) → Num Point x.form → Same o r → Same (if c then Some x else o) (if c then Some Point else r)
point_same true x o r n h = n
point_same false x o r n h = h

either_same : (c d : Bool) (x y : Seen) (q : Part) (o : Option Seen) (r : Option Part) → Num q x.form → Num q y.form → Same o r → Same (if c then Some x else (if d then Some y else o)) (if c || d then Some q else r)
either_same true d x y q o r n m h = n
either_same false true x y q o r n m h = m
either_same false false x y q o r n m h = h

step_same : (p : Part) (f : Form) → Num p f → (s : Seen) (b : ℕ) → Same (seen_in f s b) (part_on p b)
step_same _ _ signed s b = point_same (b == 46) _ _ _ point (digit_same (is_digit b) _ Whole whole)
step_same _ _ whole s b = point_same (b == 46) _ _ _ point (either_same (b == 101) (b == 69) _ _ Mark _ _ exponent_mark exponent_mark (digit_same (is_digit b) _ Whole whole))
step_same _ _ point s b = digit_same (is_digit b) _ Fraction fraction
step_same _ _ fraction s b = either_same (b == 101) (b == 69) _ _ Mark _ _ exponent_mark exponent_mark (digit_same (is_digit b) _ Fraction fraction)
step_same _ _ exponent_mark s b = either_same (b == 43) (b == 45) _ _ MarkSigned _ _ mark_signed mark_signed (digit_same (is_digit b) _ Power power)
step_same _ _ mark_signed s b = digit_same (is_digit b) _ Power power
step_same _ _ power s b = digit_same (is_digit b) _ Power power

rest_same : (bs : List ℕ) (o : Option Seen) (r : Option Part) → ((s : Seen) (p : Part) → Num p s.form → Same (seen_from bs s) (parts_on p bs)) → Same o r → Same (option_map_or (seen_from bs) o None) (option_map_or (λ q. parts_on q bs) r None)
rest_same bs None None rest h = tt
rest_same bs (Some s) (Some p) rest h = rest s p h
rest_same bs None (Some p) rest h = absurd h
rest_same bs (Some s) None rest h = absurd h

run_same : (bs : List ℕ) (s : Seen) (p : Part) → Num p s.form → Same (seen_from bs s) (parts_on p bs)
unfolding seen_from seen_step parts_on
run_same [] s p n = n
run_same (b ∷ bs) s p n = rest_same bs (seen_step s b) (part_on p b) (run_same bs) (step_same p s.form n s b)

abbrev ends : Option Seen → Bool
ends o = option_map_or (λ s. true) (whole_seen o) false

abbrev is_number_kind : Option Kind → Bool
is_number_kind (Some kinds.Number) = true
is_number_kind _ = false

number_ends : (p : Part) (f : Form) (s : Seen) → Num p f → option_map_or {T = Seen} {U = Bool} (λ s. true) (if ends_number f then Some s else None) false ≡ is_number_kind (kind_of p)
number_ends _ _ s signed = refl
number_ends _ _ s whole = refl
number_ends _ _ s point = refl
number_ends _ _ s fraction = refl
number_ends _ _ s exponent_mark = refl
number_ends _ _ s mark_signed = refl
number_ends _ _ s power = refl

end_same : (o : Option Seen) (r : Option Part) → Same o r → ends o ≡ is_number_kind (option_map_or kind_of r None)
end_same None None h = refl
end_same (Some s) (Some p) h = number_ends p s.form s h
end_same None (Some p) h = absurd h
end_same (Some s) None h = absurd h

number_kind : (p : Part) (f : Form) → Num p f → (k : Kind) → kind_of p ≡ some_kind k → k ≡ kinds.Number
number_kind _ _ signed k e = no_kind k e
number_kind _ _ whole k e = same_kind kinds.Number k e
number_kind _ _ point k e = no_kind k e
number_kind _ _ fraction k e = same_kind kinds.Number k e
number_kind _ _ exponent_mark k e = no_kind k e
number_kind _ _ mark_signed k e = no_kind k e
number_kind _ _ power k e = same_kind kinds.Number k e

end_kind : (o : Option Seen) (r : Option Part) → Same o r → (k : Kind) → option_map_or kind_of r None ≡ some_kind k → k ≡ kinds.Number
end_kind None None h k e = no_kind k e
end_kind (Some s) (Some p) h k e = number_kind p s.form h k e
end_kind None (Some p) h k e = absurd h
end_kind (Some s) None h k e = absurd h

number_sound : (bs : List ℕ) (s : Seen) (p : Part) → Num p s.form → (k : Kind) → whole_kind p bs ≡ Some k → (k ≡ kinds.Number) × (ends (seen_from bs s) ≡ true)
number_sound bs s p n k e =
    let h = run_same bs s p n in
    let is = end_kind (seen_from bs s) (parts_on p bs) h k e in
    (is, end_same (seen_from bs s) (parts_on p bs) h ∙ ap is_number_kind (e ∙ ap some_kind is))

number_kind_is : (o : Option Kind) → is_number_kind o ≡ true → o ≡ Some kinds.Number
number_kind_is None e = absurd cc
number_kind_is (Some kinds.Number) e = refl
number_kind_is (Some _) e = absurd cc

number_complete : (bs : List ℕ) (s : Seen) (p : Part) → Num p s.form → ends (seen_from bs s) ≡ true → whole_kind p bs ≡ Some kinds.Number
number_complete bs s p n e = number_kind_is (whole_kind p bs) (sym (end_same (seen_from bs s) (parts_on p bs) (run_same bs s p n)) ∙ e)

first_number : (b : ℕ) (bs : List ℕ) (s : Seen) → seen_in forms.Start nothing_seen b ≡ Some s → is_number (b ∷ bs) ≡ ends (seen_from bs s)
unfolding is_number seen_of seen_from seen_step
first_number b bs s e = rw e refl

first_fails : (b : ℕ) (bs : List ℕ) → seen_in forms.Start nothing_seen b ≡ None → is_number (b ∷ bs) ≡ false
unfolding is_number seen_of seen_from seen_step
first_fails b bs e = rw e refl

nothing_fails : is_number [] ≡ false
unfolding is_number seen_of seen_from
nothing_fails = refl

-- ---- signs

alone : (kind : Kind) → ((b : ℕ) → sign_on kind b ≡ None) → (bs : List ℕ) (k : Kind) → whole_kind (Sign kind) bs ≡ Some k → (k ≡ kind) × (bs ≡ [])
alone kind off [] k e = (same_kind kind k (sym (here_kind (Sign kind)) ∙ e), refl)
alone kind off (b ∷ bs) k e = no_kind k (sym (dead_kind (Sign kind) b bs (off b)) ∙ e)

-- a sign of one byte
one_byte : (kind : Kind) → ((b : ℕ) → sign_on kind b ≡ None) → (c : ℕ) → IsToken kind (c ∷ []) → (bs : List ℕ) (k : Kind) → whole_kind (Sign kind) bs ≡ Some k → IsToken k (c ∷ bs)
one_byte kind off c is bs k e = let a = alone kind off bs k e in rw (a.0, a.1) is

two_bytes : (kind : Kind) → ((b : ℕ) → sign_on kind b ≡ None) → (c d : ℕ) → IsToken kind (c ∷ d ∷ []) → (bs : List ℕ) (k : Kind) → whole_kind (Sign kind) bs ≡ Some k → IsToken k (c ∷ d ∷ bs)
two_bytes kind off c d is bs k e = let a = alone kind off bs k e in rw (a.0, a.1) is

less_sound : (bs : List ℕ) (k : Kind) → whole_kind (Sign kinds.Less) bs ≡ Some k → IsToken k (60 ∷ bs)
less_sound [] k e = let is = same_kind kinds.Less k (sym (here_kind (Sign kinds.Less)) ∙ e) in rw is refl
less_sound (b ∷ bs) k e =
    elim (eqb_tells b 61) [
      | inl h ↦
          let on : part_on (Sign kinds.Less) b ≡ Some (Sign kinds.AtMost) = rw h.0 refl in
          subst (λ (x : ℕ). IsToken k (60 ∷ x ∷ bs)) (sym h.1) (two_bytes kinds.AtMost (λ c. refl) 60 61 refl bs k (sym (step_kind (Sign kinds.Less) b bs (Sign kinds.AtMost) on) ∙ e))
      | inr h ↦
          elim (eqb_tells b 62) [
            | inl i ↦
                let on : part_on (Sign kinds.Less) b ≡ Some (Sign kinds.NotEqual) = rw (h.0, i.0) refl in
                subst (λ (x : ℕ). IsToken k (60 ∷ x ∷ bs)) (sym i.1) (two_bytes kinds.NotEqual (λ c. refl) 60 62 refl bs k (sym (step_kind (Sign kinds.Less) b bs (Sign kinds.NotEqual) on) ∙ e))
            | inr i ↦ let off : part_on (Sign kinds.Less) b ≡ None = rw (h.0, i.0) refl in no_kind k (sym (dead_kind (Sign kinds.Less) b bs off) ∙ e)
          ]
    ]

greater_sound : (bs : List ℕ) (k : Kind) → whole_kind (Sign kinds.Greater) bs ≡ Some k → IsToken k (62 ∷ bs)
greater_sound [] k e = let is = same_kind kinds.Greater k (sym (here_kind (Sign kinds.Greater)) ∙ e) in rw is refl
greater_sound (b ∷ bs) k e =
    elim (eqb_tells b 61) [
      | inl h ↦
          let on : part_on (Sign kinds.Greater) b ≡ Some (Sign kinds.AtLeast) = rw h.0 refl in
          subst (λ (x : ℕ). IsToken k (62 ∷ x ∷ bs)) (sym h.1) (two_bytes kinds.AtLeast (λ c. refl) 62 61 refl bs k (sym (step_kind (Sign kinds.Greater) b bs (Sign kinds.AtLeast) on) ∙ e))
      | inr h ↦ let off : part_on (Sign kinds.Greater) b ≡ None = rw h.0 refl in no_kind k (sym (dead_kind (Sign kinds.Greater) b bs off) ∙ e)
    ]

-- ---- all kinds

name_start : (bs : List ℕ) (k : Kind) → whole_kind NameOpen bs ≡ Some k → IsToken k (34 ∷ bs)
name_start [] k e = no_kind k (sym (here_kind NameOpen) ∙ e)
name_start (b ∷ bs) k e =
    elim (eqb_tells b 34) [
      | inl h ↦
          let on : part_on NameOpen b ≡ Some NameFirstQuote = rw h.0 refl in
          subst (λ (x : ℕ). IsToken k (34 ∷ x ∷ bs)) (sym h.1) (name_first_quote bs k (sym (step_kind NameOpen b bs NameFirstQuote on) ∙ e))
      | inr h ↦
          let on : part_on NameOpen b ≡ Some NameInside = rw h.0 refl in
          let r = name_sound bs k (sym (step_kind NameOpen b bs NameInside on) ∙ e) in
          rw r.0 (named (b ∷ bs) (b ∷ r.1.inside) (plain b r.1.inside h.1 r.1.characters) (λ x. cc) (ap (λ (x : List ℕ). b ∷ x) r.1.ends))
    ]
  where
    named : (cs inside : List ℕ) → tokens.NameInside inside → inside ≢ [] → cs ≡ inside ++ 34 ∷ [] → IsQuotedName (34 ∷ cs)
    named cs inside d some ends_so = record { inside = inside; characters = d; some = some; quoted = ap (λ (x : List ℕ). 34 ∷ x) ends_so }

    name_first_quote : (cs : List ℕ) (j : Kind) → whole_kind NameFirstQuote cs ≡ Some j → IsToken j (34 ∷ 34 ∷ cs)
    name_first_quote [] j f = no_kind j (sym (here_kind NameFirstQuote) ∙ f)
    name_first_quote (c ∷ cs) j f =
        elim (eqb_tells c 34) [
          | inl h ↦
              let on : part_on NameFirstQuote c ≡ Some NameInside = rw h.0 refl in
              let r = name_sound cs j (sym (step_kind NameFirstQuote c cs NameInside on) ∙ f) in
              rw r.0 (named (34 ∷ c ∷ cs) (34 ∷ 34 ∷ r.1.inside) (quote r.1.inside r.1.characters) (λ x. cc) (two_more 34 c 34 34 cs (r.1.inside ++ 34 ∷ []) refl h.1 r.1.ends))
          | inr h ↦ let off : part_on NameFirstQuote c ≡ None = rw h.0 refl in no_kind j (sym (dead_kind NameFirstQuote c cs off) ∙ f)
        ]

text_start : (bs : List ℕ) (k : Kind) → whole_kind TextInside bs ≡ Some k → IsToken k (39 ∷ bs)
text_start bs k e =
    let r = text_sound bs k e in
    rw r.0 (record { inside = r.1.inside; characters = r.1.characters; quoted = ap (λ (x : List ℕ). 39 ∷ x) r.1.ends })

number_start : (b : ℕ) (bs : List ℕ) (s : Seen) (p : Part) → Num p s.form → seen_in forms.Start nothing_seen b ≡ Some s → (k : Kind) → whole_kind p bs ≡ Some k → IsToken k (b ∷ bs)
number_start b bs s p n e k f =
    let r = number_sound bs s p n k f in
    rw r.0 (first_number b bs s e ∙ r.1)

-- a byte that isn't one of these begins no number
digit_is : (b : ℕ) → is_digit b ≡ true → (48 ≤ b) × (b ≤ 57)
digit_is b e = grind (arith, nat_tests)

digit_begins : (b : ℕ) → is_digit b ≡ true → seen_in forms.Start nothing_seen b ≡ whole_of nothing_seen b
digit_begins b e =
    let r = digit_is b e in
    rw (not_eqb b 43 (λ x. omega arith), not_eqb b 45 (λ x. omega arith), not_eqb b 46 (λ x. omega arith)) refl

digit_whole : (b : ℕ) → is_digit b ≡ true → (s : Seen) × Num Whole s.form × (seen_in forms.Start nothing_seen b ≡ Some s)
digit_whole b e = (record { form = forms.Whole; neg = false; digits = add_digit nothing_seen.digits (b - 48); places = 0; below = false; power = 0 }, whole, digit_begins b e ∙ rw e refl)

digit_no_letter : (b : ℕ) → is_digit b ≡ true → is_letter b ≡ false
digit_no_letter b e = let r = digit_is b e in grind (arith, nat_tests)

abbrev rest_of : ℕ → List ℕ → Kind → Type 0
rest_of b bs k = whole_kind Start (b ∷ bs) ≡ Some k → IsToken k (b ∷ bs)

-- a byte that is known begins as it begins
at_byte : (b c : ℕ) (bs : List ℕ) (k : Kind) (p : Part) → b ≡ c → part_on Start c ≡ Some p → (whole_kind p bs ≡ Some k → IsToken k (c ∷ bs)) → rest_of b bs k
at_byte b c bs k p same on go e =
    subst (λ (x : ℕ). IsToken k (x ∷ bs)) (sym same) (go (sym (step_kind Start c bs p on) ∙ subst (λ (x : ℕ). whole_kind Start (x ∷ bs) ≡ Some k) same e))

pub whole_is_token : (bs : List ℕ) (k : Kind) → whole_kind Start bs ≡ Some k → IsToken k bs
whole_is_token [] k e = no_kind k (sym (here_kind Start) ∙ e)
whole_is_token (b ∷ bs) k e =
    elim (tells (is_letter b)) [
      | inl l ↦
          let on : part_on Start b ≡ Some Word = rw l refl in
          let r = word_sound bs k (sym (step_kind Start b bs Word on) ∙ e) in
          rw r.0 (l, r.1)
      | inr l ↦
          elim (tells (is_digit b)) [
            | inl d ↦
                let on : part_on Start b ≡ Some Whole = rw (l, d) refl in
                let w = digit_whole b d in
                number_start b bs w.0 Whole w.1 w.2 k (sym (step_kind Start b bs Whole on) ∙ e)
            | inr d ↦
                elim (eqb_tells b 34) [
                  | inl h ↦ at_byte b 34 bs k NameOpen h.1 refl (name_start bs k) e
                  | inr h1 ↦
                      elim (eqb_tells b 39) [
                        | inl h ↦ at_byte b 39 bs k TextInside h.1 refl (text_start bs k) e
                        | inr h2 ↦
                            elim (eqb_tells b 43) [
                              | inl h ↦ at_byte b 43 bs k Signed h.1 refl (number_start 43 bs _ Signed signed refl k) e
                              | inr h3 ↦
                                  elim (eqb_tells b 45) [
                                    | inl h ↦ at_byte b 45 bs k Signed h.1 refl (number_start 45 bs _ Signed signed refl k) e
                                    | inr h4 ↦
                                        elim (eqb_tells b 46) [
                                          | inl h ↦ at_byte b 46 bs k Point h.1 refl (number_start 46 bs _ Point point refl k) e
                                          | inr h5 ↦
                                              elim (eqb_tells b 61) [
                                                | inl h ↦ at_byte b 61 bs k (Sign kinds.Equal) h.1 refl (one_byte kinds.Equal (λ c. refl) 61 refl bs k) e
                                                | inr h6 ↦
                                                    elim (eqb_tells b 60) [
                                                      | inl h ↦ at_byte b 60 bs k (Sign kinds.Less) h.1 refl (less_sound bs k) e
                                                      | inr h7 ↦
                                                          elim (eqb_tells b 62) [
                                                            | inl h ↦ at_byte b 62 bs k (Sign kinds.Greater) h.1 refl (greater_sound bs k) e
                                                            | inr h8 ↦
                                                                elim (eqb_tells b 40) [
                                                                  | inl h ↦ at_byte b 40 bs k (Sign kinds.Opening) h.1 refl (one_byte kinds.Opening (λ c. refl) 40 refl bs k) e
                                                                  | inr h9 ↦
                                                                      elim (eqb_tells b 41) [
                                                                        | inl h ↦ at_byte b 41 bs k (Sign kinds.Closing) h.1 refl (one_byte kinds.Closing (λ c. refl) 41 refl bs k) e
                                                                        | inr h10 ↦
                                                                            elim (eqb_tells b 44) [
                                                                              | inl h ↦ at_byte b 44 bs k (Sign kinds.Comma) h.1 refl (one_byte kinds.Comma (λ c. refl) 44 refl bs k) e
                                                                              | inr h11 ↦
                                                                                  let off : part_on Start b ≡ None = rw (l, d, h1.0, h2.0, h3.0, h4.0, h5.0, h6.0, h7.0, h8.0, h9.0, h10.0, h11.0) refl in
                                                                                  no_kind k (sym (dead_kind Start b bs off) ∙ e)
                                                                            ]
                                                                      ]
                                                                ]
                                                          ]
                                                    ]
                                              ]
                                        ]
                                  ]
                            ]
                      ]
                ]
          ]
    ]

inside_start : (inside : List ℕ) → tokens.NameInside inside → inside ≢ [] → whole_kind NameOpen (inside ++ 34 ∷ []) ≡ Some kinds.QuotedName
inside_start _ no_more some = absurd (some refl)
inside_start _ (plain b bs n d) some =
    let on : part_on NameOpen b ≡ Some NameInside = rw (not_eqb b 34 n) refl in
    step_kind NameOpen b (bs ++ 34 ∷ []) NameInside on ∙ name_complete bs d
inside_start _ (quote bs d) some = step_kind NameOpen 34 (34 ∷ (bs ++ 34 ∷ [])) NameFirstQuote refl ∙ (step_kind NameFirstQuote 34 (bs ++ 34 ∷ []) NameInside refl ∙ name_complete bs d)

number_whole : (bs : List ℕ) → is_number bs ≡ true → whole_kind Start bs ≡ Some kinds.Number
number_whole [] e = absurd (false≢true (sym nothing_fails ∙ e))
number_whole (b ∷ bs) e =
    elim (tells (is_digit b)) [
      | inl d ↦
          let on : part_on Start b ≡ Some Whole = rw (digit_no_letter b d, d) refl in
          let w = digit_whole b d in
          step_kind Start b bs Whole on ∙ number_complete bs w.0 Whole w.1 (sym (first_number b bs w.0 w.2) ∙ e)
      | inr d ↦
          elim (eqb_tells b 43) [
            | inl h ↦ by_byte 43 Signed h.1 refl _ signed refl
            | inr h1 ↦
                elim (eqb_tells b 45) [
                  | inl h ↦ by_byte 45 Signed h.1 refl _ signed refl
                  | inr h2 ↦
                      elim (eqb_tells b 46) [
                        | inl h ↦ by_byte 46 Point h.1 refl _ point refl
                        | inr h3 ↦
                            let off : seen_in forms.Start nothing_seen b ≡ None = rw (h1.0, h2.0, h3.0, d) refl in
                            absurd (false≢true (sym (first_fails b bs off) ∙ e))
                      ]
                ]
          ]
    ]
  where
    by_byte : (c : ℕ) (p : Part) → b ≡ c → part_on Start c ≡ Some p → (s : Seen) → Num p s.form → seen_in forms.Start nothing_seen c ≡ Some s → whole_kind Start (b ∷ bs) ≡ Some kinds.Number
    by_byte c p same on s n f =
        let e2 : is_number (c ∷ bs) ≡ true = subst (λ (y : ℕ). is_number (y ∷ bs) ≡ true) same e in
        ap (λ (y : ℕ). whole_kind Start (y ∷ bs)) same ∙ (step_kind Start c bs p on ∙ number_complete bs s p n (sym (first_number c bs s f) ∙ e2))

pub token_is_whole : (k : Kind) (bs : List ℕ) → IsToken k bs → whole_kind Start bs ≡ Some k
token_is_whole kinds.Word [] h = absurd h
token_is_whole kinds.Word (b ∷ bs) h = let on : part_on Start b ≡ Some Word = rw h.0 refl in step_kind Start b bs Word on ∙ word_complete bs h.1
token_is_whole kinds.QuotedName bs h = ap (whole_kind Start) h.quoted ∙ (step_kind Start 34 (h.inside ++ 34 ∷ []) NameOpen refl ∙ inside_start h.inside h.characters h.some)
token_is_whole kinds.Text bs h = ap (whole_kind Start) h.quoted ∙ (step_kind Start 39 (h.inside ++ 39 ∷ []) TextInside refl ∙ text_complete h.inside h.characters)
token_is_whole kinds.Number bs h = number_whole bs h
token_is_whole kinds.Equal bs h = ap (whole_kind Start) h ∙ (step_kind Start 61 [] (Sign kinds.Equal) refl ∙ here_kind (Sign kinds.Equal))
token_is_whole kinds.NotEqual bs h = ap (whole_kind Start) h ∙ (step_kind Start 60 (62 ∷ []) (Sign kinds.Less) refl ∙ (step_kind (Sign kinds.Less) 62 [] (Sign kinds.NotEqual) refl ∙ here_kind (Sign kinds.NotEqual)))
token_is_whole kinds.Less bs h = ap (whole_kind Start) h ∙ (step_kind Start 60 [] (Sign kinds.Less) refl ∙ here_kind (Sign kinds.Less))
token_is_whole kinds.Greater bs h = ap (whole_kind Start) h ∙ (step_kind Start 62 [] (Sign kinds.Greater) refl ∙ here_kind (Sign kinds.Greater))
token_is_whole kinds.AtMost bs h = ap (whole_kind Start) h ∙ (step_kind Start 60 (61 ∷ []) (Sign kinds.Less) refl ∙ (step_kind (Sign kinds.Less) 61 [] (Sign kinds.AtMost) refl ∙ here_kind (Sign kinds.AtMost)))
token_is_whole kinds.AtLeast bs h = ap (whole_kind Start) h ∙ (step_kind Start 62 (61 ∷ []) (Sign kinds.Greater) refl ∙ (step_kind (Sign kinds.Greater) 61 [] (Sign kinds.AtLeast) refl ∙ here_kind (Sign kinds.AtLeast)))
token_is_whole kinds.Opening bs h = ap (whole_kind Start) h ∙ (step_kind Start 40 [] (Sign kinds.Opening) refl ∙ here_kind (Sign kinds.Opening))
token_is_whole kinds.Closing bs h = ap (whole_kind Start) h ∙ (step_kind Start 41 [] (Sign kinds.Closing) refl ∙ here_kind (Sign kinds.Closing))
token_is_whole kinds.Comma bs h = ap (whole_kind Start) h ∙ (step_kind Start 44 [] (Sign kinds.Comma) refl ∙ here_kind (Sign kinds.Comma))
token_is_whole kinds.Bad bs h = absurd h
token_is_whole kinds.End bs h = absurd h

-- ---- the longest

none_above : (n : ℕ) (bs : List ℕ) → ((m : ℕ) → n < m → m ≤ length bs → whole_kind Start (take m bs) ≡ None) → NoneAbove n bs
none_above n bs h m k lt le is = let e = sym (h m lt le) ∙ token_is_whole k (take m bs) is in no_kind k e

pub longest_is : (bs : List ℕ) → IsLongest bs (longest bs)
unfolding longest
longest_is bs =
    elim (longer bs Start 0 None) [
      | inl h ↦ subst (IsLongest bs) (sym h.0) (none_above 0 bs h.1)
      | inr h ↦
          let place : 0 + h.1 ≡ h.1 = omega arith in
          let found : longest_from bs Start 0 None ≡ Some (h.0, h.1) = h.4 ∙ ap (λ (m : ℕ). some_found (h.0, m)) place in
          subst (IsLongest bs) (sym found) (h.3, whole_is_token (take h.1 bs) h.0 h.5, none_above h.1 bs h.6)
    ]

pub one_kind_only : (bs : List ℕ) (a b : Kind) → IsToken a bs → IsToken b bs → a ≡ b
one_kind_only bs a b h k = same_kind b a (sym (token_is_whole b bs k) ∙ token_is_whole a bs h)

pub nothing_is_no_token : (k : Kind) → IsToken k [] → ⊥
nothing_is_no_token k h = no_kind k (sym (here_kind Start) ∙ token_is_whole k [] h)

-- What words ask for, and the forms that they have.
use Rattle.std.proofs.Common.{◌≡◌, ℕ, ◌<◌, ◌≤◌, List, [], ◌∷◌, length, map, codes, Option, Some, None, Bool, true, false, ◌&&◌, if◌then◌else◌, refl, sym, ap, subst, ◌∙◌, arith, Bor, All, slice_index_or}
use Rattle.std.specs.Str.{bytes_eq}
use Rattle.std.proofs.lemmas.Slice.Eq.{bytes_eq-Decides}
use Rattle.std.proofs.lemmas.List.Elements.{All-nil, All-cons, All-head, All-tail}
use Rattle.std.proofs.lemmas.Bool.Decides.{nat_tests}
use Rattle.sc_words.specs.Forms.{IsPlainWord, AllPlain, form_of, has_one, has_four}
use Rattle.sc_words.specs.Asks.{number_behind, IsDigit, AreServeWords, Asks}
use Rattle.sc_words.specs.declared.command.Command.{Command}
use Rattle.sc_words.specs.declared.command.Serving.{Serving}
use Rattle.sc_words.specs.declared.command.Command.TheVariants.{Page, Pipe, Serve, Keep}

pub plain_words : (ws : List (Bor (List ℕ))) → All (λ s. IsPlainWord s.now) ws → AllPlain (map (λ s. s.now) ws)
plain_words [] p = tt
plain_words (w ∷ ws) p = (All-head (λ s. IsPlainWord s.now) w ws p, plain_words ws (All-tail (λ s. IsPlainWord s.now) w ws p))

pub plain_each : (ws : List (Bor (List ℕ))) → AllPlain (map (λ s. s.now) ws) → All (λ s. IsPlainWord s.now) ws
plain_each [] p = All-nil (λ s. IsPlainWord s.now)
plain_each (w ∷ ws) p = All-cons (λ s. IsPlainWord s.now) w ws p.0 (plain_each ws p.1)

digits_plain : (word : List ℕ) → 0 < length word → All IsDigit word → IsPlainWord word
digits_plain [] l d = tt
digits_plain (x ∷ t) l d = let digit : IsDigit x = All-head IsDigit x t d in grind (arith, nat_tests)

pub asks_plain : (ws : List (List ℕ)) (command : Command) → Asks ws command → AllPlain ws
asks_plain ws (Page limit) a = rw a.1 (refl, (digits_plain a.0 a.2.some a.2.digits, tt))
asks_plain ws (Pipe base) a = rw a.0 (refl, (a.1, tt))
asks_plain ws (Serve serving) s =
    rw s.are (
      refl,
      (
        digits_plain s.port s.port_is.some s.port_is.digits,
        (
          digits_plain s.workers s.workers_are.some s.workers_are.digits,
          (digits_plain s.tighteners s.tighteners_are.some s.tighteners_are.digits, (digits_plain s.connections s.connections_are.some s.connections_are.digits, tt)),
        ),
      ),
    )
asks_plain ws (Keep keeping) k =
    rw k.are (
      refl,
      (
        digits_plain k.port k.port_is.some k.port_is.digits,
        (digits_plain k.workers k.workers_are.some k.workers_are.digits, (digits_plain k.connections k.connections_are.some k.connections_are.digits, (k.plain, tt))),
      ),
    )

-- words of which not all are plain ask for nothing
pub none_not_plain : (ws : List (Bor (List ℕ))) (command : Command) → (All (λ s. IsPlainWord s.now) ws → ⊥) → Asks (map (λ s. s.now) ws) command → ⊥
none_not_plain ws command n a = n (plain_each ws (asks_plain (map (λ s. s.now) ws) command a))

asks_form : (ws : List (List ℕ)) (command : Command) → Asks ws command → (p : List ℕ × List (List ℕ)) × (form_of ws ≡ Some p)
asks_form ws (Page limit) a = rw a.1 (_, refl)
asks_form ws (Pipe base) a = rw a.0 (_, refl)
asks_form ws (Serve serving) a = rw a.are (_, refl)
asks_form ws (Keep keeping) a = rw a.are (_, refl)

-- words without a form ask for nothing
pub none_asks : (ws : List (List ℕ)) (command : Command) → None ≡ form_of ws → Asks ws command → ⊥
none_asks ws command e a = let f = asks_form ws command a in let bad : None ≡ Some f.0 = e ∙ f.1 in cc

both_left : (a b : Bool) → (a && b) ≡ true → a ≡ true
both_left true b e = refl
both_left false b e = e

abbrev given : List ℕ × List (List ℕ) → Option (List ℕ × List (List ℕ)) → List ℕ × List (List ℕ)
given d None = d
given d (Some p) = p

-- The form of words is that of a name, or else one of the others.
named : (w : List ℕ) (rest : List (List ℕ)) (p : List ℕ × List (List ℕ)) (name : List ℕ) (fits : Bool) (others : Option (List ℕ × List (List ℕ)))
    → (if bytes_eq w name && fits then Some (name, rest) else others) ≡ Some p → (others ≡ Some p → w ∷ rest ≡ p.0 ∷ p.1) → w ∷ rest ≡ p.0 ∷ p.1
named w rest p name fits others e other = by (bytes_eq w name && fits) refl
  where
    by : (b : Bool) → (bytes_eq w name && fits) ≡ b → w ∷ rest ≡ p.0 ∷ p.1
    by true q =
        let same : w ≡ name = (bytes_eq-Decides w name).0 (both_left _ _ q) in
        subst (λ t. w ∷ rest ≡ t.0 ∷ t.1) (ap (given (name, rest)) (rw q at e)) (ap (λ x. x ∷ rest) same)
    by false q = other (rw q at e)

-- the words of a form are its name and what stands behind it
pub form_words : (ws : List (List ℕ)) (p : List ℕ × List (List ℕ)) → form_of ws ≡ Some p → ws ≡ p.0 ∷ p.1
form_words [] p e = cc
form_words (w ∷ rest) p e =
    named w rest p (codes "page") (has_one rest) _ e (λ e.
    named w rest p (codes "pipe") (has_one rest) _ e (λ e.
    named w rest p (codes "serve") (has_four rest) _ e (λ e.
    named w rest p (codes "keep") (has_four rest) _ e (λ e. cc))))

-- words with a form ask for what its words ask for
pub some_asks : (ws : List (List ℕ)) (p : List ℕ × List (List ℕ)) (command : Command) → Some p ≡ form_of ws → Asks (p.0 ∷ p.1) command → Asks ws command
some_asks ws p command e a = subst (λ t. Asks t command) (sym (form_words ws p (sym e))) a

pub some_only : (ws : List (List ℕ)) (p : List ℕ × List (List ℕ)) (command : Command) → Some p ≡ form_of ws → Asks ws command → Asks (p.0 ∷ p.1) command
some_only ws p command e a = subst (λ t. Asks t command) (form_words ws p (sym e)) a

-- five words, the first of which is a name
pub five : (ws : List (Bor (List ℕ))) (d : Bor (List ℕ)) (name : List ℕ) → 5 ≤ length ws → length ws < 6 → (slice_index_or ws 0 d).now ≡ name
    → name ∷ (slice_index_or ws 1 d).now ∷ (slice_index_or ws 2 d).now ∷ (slice_index_or ws 3 d).now ∷ (slice_index_or ws 4 d).now ∷ [] ≡ map (λ s. s.now) ws
five [] d name l u s = absurd (omega (arith, l))
five (a ∷ []) d name l u s = absurd (omega (arith, l))
five (a ∷ (b ∷ [])) d name l u s = absurd (omega (arith, l))
five (a ∷ (b ∷ (c ∷ []))) d name l u s = absurd (omega (arith, l))
five (a ∷ (b ∷ (c ∷ (e ∷ [])))) d name l u s = absurd (omega (arith, l))
five (a ∷ (b ∷ (c ∷ (e ∷ (f ∷ []))))) d name l u s = ap (λ t. t ∷ b.now ∷ c.now ∷ e.now ∷ f.now ∷ []) (sym s)
five (a ∷ (b ∷ (c ∷ (e ∷ (f ∷ (g ∷ rest)))))) d name l u s = absurd (omega (arith, u))

third : List (List ℕ) → List ℕ
third (a ∷ (b ∷ (c ∷ rest))) = c
third rest = []

pub one_number : (words : List (List ℕ)) (a b : Serving) → AreServeWords words a → AreServeWords words b → a.workers ≡ b.workers
unfolding third
one_number words a b x y =
    let same : x.workers ≡ y.workers = ap third (sym x.are ∙ y.are) in
    x.workers_are.is ∙ ap (number_behind 0) same ∙ sym y.workers_are.is

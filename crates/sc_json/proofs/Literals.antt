-- What the grammar has of numbers, the machine takes.
use Rattle.std.proofs.Common.{◌≡◌, ℕ, ◌+◌, ◌≤◌, List, [], ◌∷◌, ◌++◌, length, Bool, true, false, eqb, leb, ◌||◌, Some, None, refl, sym, subst, append_assoc, arith, ◌⊎◌, inl, inr}
use Rattle.std.proofs.lemmas.Bool.{ne_eqb, eqb-true}
use Rattle.std.proofs.lemmas.Bool.Decides.{nat_tests}
use Rattle.std.proofs.lemmas.List.{append-nil}
use Rattle.sc_json.specs.declared.tree.Json.{Json}
use Rattle.sc_json.specs.declared.state.State.{State}
use Rattle.sc_json.specs.declared.state.Frame.{Frame}
use Rattle.sc_json.specs.declared.state.Mode.TheVariants.{Value, Number, After}
use Rattle.sc_json.specs.declared.state.Part.{Part}
use Rattle.sc_json.specs.declared.state.Part.TheVariants as parts
use Rattle.sc_json.specs.Numbers.{is_digit_byte, next_part, is_whole}
use Rattle.sc_json.specs.Machine.{at, is_blank_byte, step_of, end_value, number_json}
use Rattle.sc_json.specs.Grammar as grammar
use Rattle.sc_json.specs.Grammar.{AreDigits, Literal}
use Rattle.sc_json.proofs.Steps.{Leads, stays, steps, leads_on}
use Rattle.sc_json.proofs.Words.{number_goes, digits_go, whole_on, power_on, fraction_goes}
use Rattle.sc_json.proofs.Values.{Begins, Settles}
use Rattle.sc_json.proofs.Complete.{Reaches, from_begins, ReadsNumbers, number_tree}
use Rattle.sc_json.proofs.Numerals.{literal_json}

-- ---- where a number ends

or_true : (x y : Bool) → (x || y) ≡ true → (x ≡ true) ⊎ (y ≡ true)
or_true true y e = inl refl
or_true false y e = inr e

seven : (p : Part) → is_whole p ≡ true → (next_part p 32 ≡ None) × (next_part p 9 ≡ None) × (next_part p 10 ≡ None) × (next_part p 13 ≡ None) × (next_part p 44 ≡ None) × (next_part p 93 ≡ None) × (next_part p 125 ≡ None)
seven parts.Zero w = (refl, refl, refl, refl, refl, refl, refl)
seven parts.Whole w = (refl, refl, refl, refl, refl, refl, refl)
seven parts.Fraction w = (refl, refl, refl, refl, refl, refl, refl)
seven parts.Power w = (refl, refl, refl, refl, refl, refl, refl)
seven parts.Minus w = absurd cc
seven parts.Point w = absurd cc
seven parts.Mark w = absurd cc
seven parts.Sign w = absurd cc

at_byte : (p : Part) (b c : ℕ) → eqb b c ≡ true → next_part p c ≡ None → next_part p b ≡ None
at_byte p b c e f = subst (λ (x : ℕ). next_part p x ≡ None) (sym (eqb-true b c e)) f

ends_at : (p : Part) → is_whole p ≡ true → (b : ℕ) → (is_blank_byte b || eqb b 44 || eqb b 93 || eqb b 125) ≡ true → next_part p b ≡ None
ends_at p w b h =
    let z = seven p w in
    elim (or_true (is_blank_byte b || eqb b 44 || eqb b 93) (eqb b 125) h) [
      | inr e ↦ at_byte p b 125 e z.6
      | inl h1 ↦ elim (or_true (is_blank_byte b || eqb b 44) (eqb b 93) h1) [
        | inr e ↦ at_byte p b 93 e z.5
        | inl h2 ↦ elim (or_true (is_blank_byte b) (eqb b 44) h2) [
          | inr e ↦ at_byte p b 44 e z.4
          | inl h3 ↦ elim (or_true (eqb b 32 || eqb b 9 || eqb b 10) (eqb b 13) h3) [
            | inr e ↦ at_byte p b 13 e z.3
            | inl h4 ↦ elim (or_true (eqb b 32 || eqb b 9) (eqb b 10) h4) [
              | inr e ↦ at_byte p b 10 e z.2
              | inl h5 ↦ elim (or_true (eqb b 32) (eqb b 9) h5) [ inl e ↦ at_byte p b 32 e z.0 | inr e ↦ at_byte p b 9 e z.1 ]
            ]
          ]
        ]
      ]
    ]

number_same : (p : Part) → is_whole p ≡ true → (ds : List ℕ) (v : Json) (from : ℕ) (k : List Frame) → number_json ds ≡ Some v → (n b : ℕ) → next_part p b ≡ None → (step_of (at k (Number p ds from)) n b).next ≡ (step_of (at k (After v)) n b).next
unfolding step_of
number_same p w ds v from k e n b none = rw (none, w, e) refl

number_over : (p : Part) → is_whole p ≡ true → (ds : List ℕ) (v : Json) (from : ℕ) (k : List Frame) → number_json ds ≡ Some v → end_value (at k (Number p ds from)) ≡ end_value (at k (After v))
unfolding end_value
number_over p w ds v from k e = rw (w, e) refl

number_settles : (p : Part) → is_whole p ≡ true → (ds : List ℕ) (v : Json) (from : ℕ) (k : List Frame) → number_json ds ≡ Some v → Settles (at k (Number p ds from)) k v
number_settles p w ds v from k e = record { same = λ n b h. number_same p w ds v from k e n b (ends_at p w b h); over = number_over p w ds v from k e }

-- ---- the parts

abbrev IsInteger : Part → Type 0
IsInteger p = (p ≡ parts.Zero) ⊎ (p ≡ parts.Whole)

record Led (ds : List ℕ) (n : ℕ) (s : State) (k : List Frame) (so_far : List ℕ) (from : ℕ) (Is : Part → Type 0) : Type 0 where
  part : Part
  is : Is part
  leads : Leads ds n s (at k (Number part so_far from))

zero_begins : (k : List Frame) (n : ℕ) → (step_of (at k Value) n 48).next ≡ Some (at k (Number parts.Zero (48 ∷ []) n))
unfolding step_of
zero_begins k n = refl

minus_begins : (k : List Frame) (n : ℕ) → (step_of (at k Value) n 45).next ≡ Some (at k (Number parts.Minus (45 ∷ []) n))
unfolding step_of
minus_begins k n = refl

no_blank : (d : ℕ) → 49 ≤ d → d ≤ 57 → is_blank_byte d ≡ false
no_blank d lo hi = rw (ne_eqb d 32 (λ e. absurd (omega (arith, e, lo))), ne_eqb d 9 (λ e. absurd (omega (arith, e, lo))), ne_eqb d 10 (λ e. absurd (omega (arith, e, lo))), ne_eqb d 13 (λ e. absurd (omega (arith, e, lo)))) refl

digit_begins : (k : List Frame) (n d : ℕ) → 49 ≤ d → d ≤ 57 → (step_of (at k Value) n d).next ≡ Some (at k (Number parts.Whole (d ∷ []) n))
unfolding step_of
digit_begins k n d lo hi =
    let low : leb 49 d ≡ true = grind (arith, nat_tests) in let high : leb d 57 ≡ true = grind (arith, nat_tests) in
    rw (no_blank d lo hi, ne_eqb d 34 (λ e. absurd (omega (arith, e, lo))), ne_eqb d 91 (λ e. absurd (omega (arith, e, hi))), ne_eqb d 123 (λ e. absurd (omega (arith, e, hi))), ne_eqb d 45 (λ e. absurd (omega (arith, e, lo))), ne_eqb d 48 (λ e. absurd (omega (arith, e, lo))), low, high) refl

is_digit_from : (d : ℕ) → 49 ≤ d → d ≤ 57 → is_digit_byte d ≡ true
is_digit_from d lo hi = let low : leb 48 d ≡ true = grind (arith, nat_tests) in let high : leb d 57 ≡ true = grind (arith, nat_tests) in rw (low, high) refl

integer_leads : {s w : List ℕ} → grammar.Minus s → grammar.Whole w → (k : List Frame) (n : ℕ) → Led (s ++ w) n (at k Value) k (s ++ w) n IsInteger
integer_leads grammar.positive grammar.zero_digit k n = record { part = parts.Zero; is = inl refl; leads = steps 48 [] n _ (at k (Number parts.Zero (48 ∷ []) n)) _ (zero_begins k n) (stays (n + 1) _) }
integer_leads grammar.positive (grammar.digits d ds lo hi all) k n = record {
  part = parts.Whole;
  is = inr refl;
  leads = steps d ds n (at k Value) (at k (Number parts.Whole (d ∷ []) n)) (at k (Number parts.Whole (d ∷ ds) n)) (digit_begins k n d lo hi) (digits_go k parts.Whole whole_on (d ∷ []) ds all n (n + 1));
}
integer_leads grammar.negative grammar.zero_digit k n = record {
  part = parts.Zero;
  is = inl refl;
  leads = steps 45 (48 ∷ []) n (at k Value) (at k (Number parts.Minus (45 ∷ []) n)) (at k (Number parts.Zero (45 ∷ 48 ∷ []) n)) (minus_begins k n)
      (steps 48 [] (n + 1) (at k (Number parts.Minus (45 ∷ []) n)) (at k (Number parts.Zero (45 ∷ 48 ∷ []) n)) (at k (Number parts.Zero (45 ∷ 48 ∷ []) n)) (number_goes k parts.Minus parts.Zero (45 ∷ []) n (n + 1) 48 refl) (stays (n + 1 + 1) _));
}
integer_leads grammar.negative (grammar.digits d ds lo hi all) k n = record {
  part = parts.Whole;
  is = inr refl;
  leads = steps 45 (d ∷ ds) n (at k Value) (at k (Number parts.Minus (45 ∷ []) n)) (at k (Number parts.Whole (45 ∷ d ∷ ds) n)) (minus_begins k n)
      (steps d ds (n + 1) (at k (Number parts.Minus (45 ∷ []) n)) (at k (Number parts.Whole (45 ∷ d ∷ []) n)) (at k (Number parts.Whole (45 ∷ d ∷ ds) n)) (number_goes k parts.Minus parts.Whole (45 ∷ []) n (n + 1) d (rw (ne_eqb d 48 (λ e. absurd (omega (arith, e, lo))), is_digit_from d lo hi) refl))
      (digits_go k parts.Whole whole_on (45 ∷ d ∷ []) ds all n (n + 1 + 1)));
}

abbrev TakesMark : Part → Type 0
TakesMark p = IsInteger p ⊎ (p ≡ parts.Fraction)

fraction_leads : {f : List ℕ} → grammar.Fraction f → (p : Part) → IsInteger p → (k : List Frame) (ds : List ℕ) (from n : ℕ) → Led f n (at k (Number p ds from)) k (ds ++ f) from TakesMark
fraction_leads grammar.no_fraction p is k ds from n = record { part = p; is = inl is; leads = subst (λ (x : List ℕ). Leads [] n (at k (Number p ds from)) (at k (Number p x from))) (sym (append-nil ds)) (stays n (at k (Number p ds from))) }
fraction_leads (grammar.fraction d more one all) p is k ds from n = record { part = parts.Fraction; is = inr refl; leads = fraction_goes p is k ds d more one all from n }

mark_on : (p : Part) → TakesMark p → (mark : ℕ) → (mark ≡ 101) ⊎ (mark ≡ 69) → next_part p mark ≡ Some parts.Mark
mark_on p (inl (inl e)) mark (inl m) = rw (e, m) refl
mark_on p (inl (inl e)) mark (inr m) = rw (e, m) refl
mark_on p (inl (inr e)) mark (inl m) = rw (e, m) refl
mark_on p (inl (inr e)) mark (inr m) = rw (e, m) refl
mark_on p (inr e) mark (inl m) = rw (e, m) refl
mark_on p (inr e) mark (inr m) = rw (e, m) refl

abbrev IsEnd : Part → Type 0
IsEnd p = is_whole p ≡ true

ends_part : (p : Part) → TakesMark p → is_whole p ≡ true
ends_part p (inl (inl e)) = rw e refl
ends_part p (inl (inr e)) = rw e refl
ends_part p (inr e) = rw e refl

mark_digit : (d : ℕ) → is_digit_byte d ≡ true → next_part parts.Mark d ≡ Some parts.Power
mark_digit d h =
    let low : 48 ≤ d = grind (arith, nat_tests) in
    rw (ne_eqb d 43 (λ e. absurd (omega (arith, e, low))), ne_eqb d 45 (λ e. absurd (omega (arith, e, low))), h) refl

sign_digit : (d : ℕ) → is_digit_byte d ≡ true → next_part parts.Sign d ≡ Some parts.Power
sign_digit d h = rw h refl

tail_leads : (q : Part) (d : ℕ) → next_part q d ≡ Some parts.Power → (k : List Frame) (ds more : List ℕ) → AreDigits more → (from n : ℕ) → Leads (d ∷ more) n (at k (Number q ds from)) (at k (Number parts.Power (ds ++ d ∷ more) from))
tail_leads q d on k ds more all from n =
    subst (λ (x : List ℕ). Leads (d ∷ more) n (at k (Number q ds from)) (at k (Number parts.Power x from))) (append_assoc ds (d ∷ []) more)
    (steps d more n (at k (Number q ds from)) (at k (Number parts.Power (ds ++ d ∷ []) from)) (at k (Number parts.Power ((ds ++ d ∷ []) ++ more) from)) (number_goes k q parts.Power ds from n d on) (digits_go k parts.Power power_on (ds ++ d ∷ []) more all from (n + 1)))

signed_leads : {s : List ℕ} → grammar.Sign s → (d : ℕ) → is_digit_byte d ≡ true → (k : List Frame) (ds more : List ℕ) → AreDigits more → (from n : ℕ) → Leads (s ++ d ∷ more) n (at k (Number parts.Mark ds from)) (at k (Number parts.Power (ds ++ (s ++ d ∷ more)) from))
signed_leads grammar.no_sign d one k ds more all from n = tail_leads parts.Mark d (mark_digit d one) k ds more all from n
signed_leads grammar.plus d one k ds more all from n =
    subst (λ (x : List ℕ). Leads (43 ∷ d ∷ more) n (at k (Number parts.Mark ds from)) (at k (Number parts.Power x from))) (append_assoc ds (43 ∷ []) (d ∷ more))
    (steps 43 (d ∷ more) n (at k (Number parts.Mark ds from)) (at k (Number parts.Sign (ds ++ 43 ∷ []) from)) (at k (Number parts.Power ((ds ++ 43 ∷ []) ++ d ∷ more) from)) (number_goes k parts.Mark parts.Sign ds from n 43 refl) (tail_leads parts.Sign d (sign_digit d one) k (ds ++ 43 ∷ []) more all from (n + 1)))
signed_leads grammar.minus d one k ds more all from n =
    subst (λ (x : List ℕ). Leads (45 ∷ d ∷ more) n (at k (Number parts.Mark ds from)) (at k (Number parts.Power x from))) (append_assoc ds (45 ∷ []) (d ∷ more))
    (steps 45 (d ∷ more) n (at k (Number parts.Mark ds from)) (at k (Number parts.Sign (ds ++ 45 ∷ []) from)) (at k (Number parts.Power ((ds ++ 45 ∷ []) ++ d ∷ more) from)) (number_goes k parts.Mark parts.Sign ds from n 45 refl) (tail_leads parts.Sign d (sign_digit d one) k (ds ++ 45 ∷ []) more all from (n + 1)))

power_leads : {q : List ℕ} → grammar.Power q → (p : Part) → TakesMark p → (k : List Frame) (ds : List ℕ) (from n : ℕ) → Led q n (at k (Number p ds from)) k (ds ++ q) from IsEnd
power_leads grammar.no_power p is k ds from n = record { part = p; is = ends_part p is; leads = subst (λ (x : List ℕ). Leads [] n (at k (Number p ds from)) (at k (Number p x from))) (sym (append-nil ds)) (stays n (at k (Number p ds from))) }
power_leads (grammar.power mark s more d m sg one all) p is k ds from n = record {
  part = parts.Power;
  is = refl;
  leads = subst (λ (x : List ℕ). Leads (mark ∷ (s ++ d ∷ more)) n (at k (Number p ds from)) (at k (Number parts.Power x from))) (append_assoc ds (mark ∷ []) (s ++ d ∷ more))
      (steps mark (s ++ d ∷ more) n (at k (Number p ds from)) (at k (Number parts.Mark (ds ++ mark ∷ []) from)) (at k (Number parts.Power ((ds ++ mark ∷ []) ++ (s ++ d ∷ more)) from)) (number_goes k p parts.Mark ds from n mark (mark_on p is mark m)) (signed_leads sg d one k (ds ++ mark ∷ []) more all from (n + 1)));
}

starts : (st : State) (k : List Frame) → Begins st k → {s w : List ℕ} → grammar.Minus s → grammar.Whole w → (f p : List ℕ) (n : ℕ) (t : State) → Leads (s ++ w ++ f ++ p) n (at k Value) t → Leads (s ++ w ++ f ++ p) n st t
starts st k h grammar.positive grammar.zero_digit f p n t l = from_begins st k h 48 _ n t refl (λ e. absurd (omega (arith, e))) l
starts st k h grammar.positive (grammar.digits d ds lo hi all) f p n t l = from_begins st k h d _ n t (no_blank d lo hi) (λ e. absurd (omega (arith, e, hi))) l
starts st k h grammar.negative grammar.zero_digit f p n t l = from_begins st k h 45 _ n t refl (λ e. absurd (omega (arith, e))) l
starts st k h grammar.negative (grammar.digits d ds lo hi all) f p n t l = from_begins st k h 45 _ n t refl (λ e. absurd (omega (arith, e))) l

-- a whole number, and the state behind it
pub record LedNumber (ds : List ℕ) (n : ℕ) (s : State) (k : List Frame) : Type 0 where
  pub part : Part
  pub is : is_whole part ≡ true
  pub leads : Leads ds n s (at k (Number part ds n))

pub literal_led : (ds : List ℕ) → Literal ds → (k : List Frame) (s : State) → Begins s k → (n : ℕ) → LedNumber ds n s k
literal_led _ (grammar.literal s w f p sg wh fr pw) k st h n =
    let i = integer_leads sg wh k n in
    let a = fraction_leads fr i.part i.is k (s ++ w) n (n + length (s ++ w)) in
    let b = power_leads pw a.part a.is k (s ++ w ++ f) n (n + length (s ++ w ++ f)) in
    let t : State = at k (Number b.part (s ++ w ++ f ++ p) n) in
    record {
      part = b.part;
      is = b.is;
      leads = starts st k h sg wh f p n t (leads_on (leads_on i.leads f (n + length (s ++ w)) (at k (Number a.part (s ++ w ++ f) n)) refl a.leads) p (n + length (s ++ w ++ f)) t refl b.leads);
    }

literal_reaches : (ds : List ℕ) → Literal ds → (k : List Frame) (s : State) → Begins s k → (n : ℕ) → Reaches ds n s k (number_tree ds)
literal_reaches ds l k s h n =
    let r = literal_led ds l k s h n in
    record { state = at k (Number r.part ds n); settles = number_settles r.part r.is ds (number_tree ds) n k (literal_json ds l); leads = r.leads }

pub numbers : ReadsNumbers
numbers = record { reads = literal_reaches }

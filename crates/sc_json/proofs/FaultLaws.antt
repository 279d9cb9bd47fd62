-- At most one fault is a text's fault.
use Rattle.std.proofs.Common.{◌≡◌, ◌⊎◌, inl, inr, ℕ, zero, suc, ◌<◌, ◌≤◌, List, [], ◌∷◌, ◌++◌, length, take, Bool, true, false, cond, refl, sym, ap, subst, ◌∙◌, arith, append_assoc, IsUtf8}
use Rattle.std.specs.Str.{is_utf8}
use Rattle.std.specs.Str.Lossy.{utf8_valid_len, valid_len_up_to}
use Rattle.std.proofs.lemmas.Str.{IsUtf8-from_is_utf8, is_utf8-from_IsUtf8, IsUtf8-nil}
use Rattle.std.proofs.lemmas.Bool.{cases_lt}
use Rattle.std.proofs.lemmas.List.{take_all}
use Rattle.sc_json.specs.declared.fault.JsonFault.{JsonFault}
use Rattle.sc_json.specs.declared.fault.JsonFault.TheVariants.{Syntax, Duplicate, TooDeep, NumberTooWide, NotUtf8, OutOfMemory}
use Rattle.sc_json.specs.Faults.{OpensTooDeep, IsTooWide, IsDuplicate, HasFault, place_of, IsFirstFault, IsCut, JsonFaultOf}
use Rattle.sc_json.specs.Fronts.{IsLongestFront}
use Rattle.sc_json.proofs.FrontPlaces.{Beyond, deep_beyond, wide_beyond, double_beyond, below_longest, literal_head}

-- the byte at a place
record ByteAt (bytes : List ℕ) (place byte : ℕ) : Type 0 where
  before : List ℕ
  rest : List ℕ
  is : bytes ≡ before ++ byte ∷ rest
  counts : place ≡ length before

same_head : (x y : List ℕ) (b c : ℕ) (r s : List ℕ) → x ++ b ∷ r ≡ y ++ c ∷ s → length x ≡ length y → b ≡ c
same_head [] [] b c r s e l = cc
same_head [] (d ∷ y) b c r s e l = absurd (omega (arith, l))
same_head (d ∷ x) [] b c r s e l = absurd (omega (arith, l))
same_head (d ∷ x) (f ∷ y) b c r s e l = same_head x y b c r s (tails d f (x ++ b ∷ r) (y ++ c ∷ s) e) (omega (arith, l))
  where
    tails : (d f : ℕ) (p q : List ℕ) → d ∷ p ≡ f ∷ q → p ≡ q
    tails d f p q e = cc

one_byte : (bytes : List ℕ) (p q b c : ℕ) → ByteAt bytes p b → ByteAt bytes q c → p ≡ q → b ≡ c
one_byte bytes p q b c x y e = same_head x.before y.before b c x.rest y.rest (sym x.is ∙ y.is) (sym x.counts ∙ e ∙ y.counts)

record DeepByte (bytes : List ℕ) (place : ℕ) : Type 0 where
  byte : ℕ
  stands : ByteAt bytes place byte
  high : 91 ≤ byte

deep_byte : (bytes : List ℕ) (place : ℕ) → OpensTooDeep bytes place → DeepByte bytes place
deep_byte bytes place h = record { byte = h.bracket; stands = record { before = h.before; rest = h.rest; is = h.is; counts = h.place }; high = elim h.opens [ inl e ↦ omega (arith, e) | inr e ↦ omega (arith, e) ] }

record WideByte (bytes : List ℕ) (place : ℕ) : Type 0 where
  byte : ℕ
  stands : ByteAt bytes place byte
  low : 45 ≤ byte
  high : byte ≤ 57

wide_byte : (bytes : List ℕ) (place : ℕ) → IsTooWide bytes place → WideByte bytes place
wide_byte bytes place h =
    let d = literal_head h.literal in
    record {
      byte = d.byte;
      stands = record { before = h.before; rest = d.more ++ h.rest; is = h.is ∙ ap (λ (x : List ℕ). h.before ++ x ++ h.rest) d.is ∙ append_assoc h.before (d.byte ∷ d.more) h.rest; counts = h.place };
      low = d.low;
      high = d.high;
    }

double_byte : (bytes : List ℕ) (place : ℕ) → IsDuplicate bytes place → ByteAt bytes place 34
double_byte bytes place h = record {
  before = h.before ++ 123 ∷ (h.members ++ h.blank);
  rest = h.spells.raw ++ 34 ∷ [] ++ h.rest;
  is = h.is ∙ ap (λ (q : List ℕ). h.before ++ 123 ∷ (h.members ++ h.blank ++ q ++ h.rest)) h.spells.is ∙ simp append_assoc;
  counts = h.place;
}

deep_wide : (bytes : List ℕ) (p q : ℕ) → OpensTooDeep bytes p → IsTooWide bytes q → p ≡ q → ⊥
deep_wide bytes p q x y e = let a = deep_byte bytes p x in let b = wide_byte bytes q y in let s = one_byte bytes p q a.byte b.byte a.stands b.stands e in let h = a.high in let l = b.high in omega (arith, s, h, l)

deep_double : (bytes : List ℕ) (p q : ℕ) → OpensTooDeep bytes p → IsDuplicate bytes q → p ≡ q → ⊥
deep_double bytes p q x y e = let a = deep_byte bytes p x in let s = one_byte bytes p q a.byte 34 a.stands (double_byte bytes q y) e in let h = a.high in omega (arith, s, h)

wide_double : (bytes : List ℕ) (p q : ℕ) → IsTooWide bytes p → IsDuplicate bytes q → p ≡ q → ⊥
wide_double bytes p q x y e = let a = wide_byte bytes p x in let s = one_byte bytes p q a.byte 34 a.stands (double_byte bytes q y) e in let h = a.low in omega (arith, s, h)

before_syntax : (bytes : List ℕ) (p q : ℕ) → Beyond bytes p → IsLongestFront bytes q → p ≡ q → ⊥
before_syntax bytes p q b h e = let lt = below_longest bytes p q b h in omega (arith, lt, e)

-- no two share a place
pub same_place : (bytes : List ℕ) (f g : JsonFault) → HasFault bytes f → HasFault bytes g → place_of f ≡ place_of g → f ≡ g
same_place bytes (Syntax p) (Syntax q) x y e = ap (λ (i : ℕ). Syntax i) e
same_place bytes (Syntax p) (Duplicate q) x y e = absurd (before_syntax bytes q p (double_beyond bytes q y) x.1 (sym e))
same_place bytes (Syntax p) (TooDeep q) x y e = absurd (before_syntax bytes q p (deep_beyond bytes q y) x.1 (sym e))
same_place bytes (Syntax p) (NumberTooWide q) x y e = absurd (before_syntax bytes q p (wide_beyond bytes q y) x.1 (sym e))
same_place bytes (Syntax p) (NotUtf8 q) x y e = absurd y
same_place bytes (Syntax p) OutOfMemory x y e = absurd y
same_place bytes (Duplicate p) (Syntax q) x y e = absurd (before_syntax bytes p q (double_beyond bytes p x) y.1 e)
same_place bytes (Duplicate p) (Duplicate q) x y e = ap (λ (i : ℕ). Duplicate i) e
same_place bytes (Duplicate p) (TooDeep q) x y e = absurd (deep_double bytes q p y x (sym e))
same_place bytes (Duplicate p) (NumberTooWide q) x y e = absurd (wide_double bytes q p y x (sym e))
same_place bytes (Duplicate p) (NotUtf8 q) x y e = absurd y
same_place bytes (Duplicate p) OutOfMemory x y e = absurd y
same_place bytes (TooDeep p) (Syntax q) x y e = absurd (before_syntax bytes p q (deep_beyond bytes p x) y.1 e)
same_place bytes (TooDeep p) (Duplicate q) x y e = absurd (deep_double bytes p q x y e)
same_place bytes (TooDeep p) (TooDeep q) x y e = ap (λ (i : ℕ). TooDeep i) e
same_place bytes (TooDeep p) (NumberTooWide q) x y e = absurd (deep_wide bytes p q x y e)
same_place bytes (TooDeep p) (NotUtf8 q) x y e = absurd y
same_place bytes (TooDeep p) OutOfMemory x y e = absurd y
same_place bytes (NumberTooWide p) (Syntax q) x y e = absurd (before_syntax bytes p q (wide_beyond bytes p x) y.1 e)
same_place bytes (NumberTooWide p) (Duplicate q) x y e = absurd (wide_double bytes p q x y e)
same_place bytes (NumberTooWide p) (TooDeep q) x y e = absurd (deep_wide bytes q p y x (sym e))
same_place bytes (NumberTooWide p) (NumberTooWide q) x y e = ap (λ (i : ℕ). NumberTooWide i) e
same_place bytes (NumberTooWide p) (NotUtf8 q) x y e = absurd y
same_place bytes (NumberTooWide p) OutOfMemory x y e = absurd y
same_place bytes (NotUtf8 p) g x y e = absurd x
same_place bytes OutOfMemory g x y e = absurd x

pub one_first : (bytes : List ℕ) (f g : JsonFault) → IsFirstFault bytes f → IsFirstFault bytes g → f ≡ g
one_first bytes f g x y = let a = x.first g y.has in let b = y.first f x.has in same_place bytes f g x.has y.has (omega (arith, a, b))

-- ---- bytes that aren't UTF-8

pub no_cut : (bytes : List ℕ) (p : ℕ) → IsCut bytes p → IsUtf8 bytes → ⊥
no_cut bytes p c u =
    let le = c.longest (length bytes) (omega arith) (subst IsUtf8 (sym (take_all (length bytes) bytes (omega arith))) u) in
    let lt = c.within in
    omega (arith, le, lt)

one_cut : (bytes : List ℕ) (p q : ℕ) → IsCut bytes p → IsCut bytes q → p ≡ q
one_cut bytes p q x y =
    let a = x.within in
    let b = y.within in
    let c = x.longest q (omega (arith, b)) y.whole in
    let d = y.longest p (omega (arith, a)) x.whole in
    omega (arith, c, d)

record IsLongestBelow (bytes : List ℕ) (n p : ℕ) : Type 0 where
  below : p ≤ n
  whole : IsUtf8 (take p bytes)
  longest : (i : ℕ) → i ≤ n → IsUtf8 (take i bytes) → i ≤ p

longest_below : (bytes : List ℕ) (n : ℕ) → IsLongestBelow bytes n (valid_len_up_to bytes n)
longest_below bytes zero = record { below = omega arith; whole = IsUtf8-nil; longest = λ i le u. le }
longest_below bytes (suc n) = go (is_utf8 (take (suc n) bytes)) refl (longest_below bytes n)
  where
    go : (b : Bool) → is_utf8 (take (suc n) bytes) ≡ b → IsLongestBelow bytes n (valid_len_up_to bytes n) → IsLongestBelow bytes (suc n) (cond b (suc n) (valid_len_up_to bytes n))
    go true e h = record { below = omega arith; whole = IsUtf8-from_is_utf8 (take (suc n) bytes) e; longest = λ i le u. le }
    go false e h = record { below = let le = h.below in omega (arith, le); whole = h.whole; longest = λ i le u. elim (last i n le) [ inl small ↦ h.longest i small u | inr same ↦ absurd (differ (is_utf8 (take (suc n) bytes)) e (is_utf8-from_IsUtf8 (take (suc n) bytes) (subst (λ (j : ℕ). IsUtf8 (take j bytes)) same u))) ] }
      where
        last : (i n : ℕ) → i ≤ suc n → (i ≤ n) ⊎ (i ≡ suc n)
        last i n le = elim (cases_lt i (suc n)) [ inl lt ↦ inl (omega (arith, lt)) | inr ge ↦ inr (omega (arith, ge, le)) ]

        differ : (b : Bool) → b ≡ false → b ≡ true → ⊥
        differ b e f = absurd cc

-- the place that is answered is the first byte that isn't part of a whole character
pub cut_is : (bytes : List ℕ) → ¬ IsUtf8 bytes → IsCut bytes (utf8_valid_len bytes)
unfolding utf8_valid_len
cut_is bytes broken =
    let h = longest_below bytes (length bytes) in
    record { within = below (length bytes) (valid_len_up_to bytes (length bytes)) h.below (λ e. broken (subst IsUtf8 (ap (λ (i : ℕ). take i bytes) e ∙ take_all (length bytes) bytes (omega arith)) h.whole)); whole = h.whole; longest = h.longest }
  where
    below : (n p : ℕ) → p ≤ n → (p ≡ n → ⊥) → p < n
    below n p le ne = elim (cases_lt p n) [ inl lt ↦ lt | inr ge ↦ absurd (ne (omega (arith, ge, le))) ]

-- ---- one fault

pub one_fault : (bytes : List ℕ) (f g : JsonFault) → JsonFaultOf bytes f → JsonFaultOf bytes g → f ≡ g
one_fault bytes (NotUtf8 p) (NotUtf8 q) x y = ap (λ (i : ℕ). NotUtf8 i) (one_cut bytes p q x y)
one_fault bytes (NotUtf8 p) (Syntax q) x y = absurd (no_cut bytes p x y.0)
one_fault bytes (NotUtf8 p) (Duplicate q) x y = absurd (no_cut bytes p x y.0)
one_fault bytes (NotUtf8 p) (TooDeep q) x y = absurd (no_cut bytes p x y.0)
one_fault bytes (NotUtf8 p) (NumberTooWide q) x y = absurd (no_cut bytes p x y.0)
one_fault bytes (NotUtf8 p) OutOfMemory x y = absurd (no_cut bytes p x y.0)
one_fault bytes (Syntax p) (NotUtf8 q) x y = absurd (no_cut bytes q y x.0)
one_fault bytes (Duplicate p) (NotUtf8 q) x y = absurd (no_cut bytes q y x.0)
one_fault bytes (TooDeep p) (NotUtf8 q) x y = absurd (no_cut bytes q y x.0)
one_fault bytes (NumberTooWide p) (NotUtf8 q) x y = absurd (no_cut bytes q y x.0)
one_fault bytes OutOfMemory (NotUtf8 q) x y = absurd (no_cut bytes q y x.0)
one_fault bytes (Syntax p) (Syntax q) x y = one_first bytes (Syntax p) (Syntax q) x.1 y.1
one_fault bytes (Syntax p) (Duplicate q) x y = one_first bytes (Syntax p) (Duplicate q) x.1 y.1
one_fault bytes (Syntax p) (TooDeep q) x y = one_first bytes (Syntax p) (TooDeep q) x.1 y.1
one_fault bytes (Syntax p) (NumberTooWide q) x y = one_first bytes (Syntax p) (NumberTooWide q) x.1 y.1
one_fault bytes (Syntax p) OutOfMemory x y = absurd (y.1.has)
one_fault bytes (Duplicate p) (Syntax q) x y = one_first bytes (Duplicate p) (Syntax q) x.1 y.1
one_fault bytes (Duplicate p) (Duplicate q) x y = one_first bytes (Duplicate p) (Duplicate q) x.1 y.1
one_fault bytes (Duplicate p) (TooDeep q) x y = one_first bytes (Duplicate p) (TooDeep q) x.1 y.1
one_fault bytes (Duplicate p) (NumberTooWide q) x y = one_first bytes (Duplicate p) (NumberTooWide q) x.1 y.1
one_fault bytes (Duplicate p) OutOfMemory x y = absurd (y.1.has)
one_fault bytes (TooDeep p) (Syntax q) x y = one_first bytes (TooDeep p) (Syntax q) x.1 y.1
one_fault bytes (TooDeep p) (Duplicate q) x y = one_first bytes (TooDeep p) (Duplicate q) x.1 y.1
one_fault bytes (TooDeep p) (TooDeep q) x y = one_first bytes (TooDeep p) (TooDeep q) x.1 y.1
one_fault bytes (TooDeep p) (NumberTooWide q) x y = one_first bytes (TooDeep p) (NumberTooWide q) x.1 y.1
one_fault bytes (TooDeep p) OutOfMemory x y = absurd (y.1.has)
one_fault bytes (NumberTooWide p) (Syntax q) x y = one_first bytes (NumberTooWide p) (Syntax q) x.1 y.1
one_fault bytes (NumberTooWide p) (Duplicate q) x y = one_first bytes (NumberTooWide p) (Duplicate q) x.1 y.1
one_fault bytes (NumberTooWide p) (TooDeep q) x y = one_first bytes (NumberTooWide p) (TooDeep q) x.1 y.1
one_fault bytes (NumberTooWide p) (NumberTooWide q) x y = one_first bytes (NumberTooWide p) (NumberTooWide q) x.1 y.1
one_fault bytes (NumberTooWide p) OutOfMemory x y = absurd (y.1.has)
one_fault bytes OutOfMemory g x y = absurd (x.1.has)

-- How what is known of a history goes on as the history does, and what a closed lock's cards show.
use Rattle.std.proofs.Common.{◌≡◌, ◌≢◌, ℕ, zero, suc, ◌+◌, ◌-◌, ◌<◌, ◌≤◌, List, [], ◌∷◌, ◌++◌, length, get_or, map, sym, refl, ap, ◌∙◌, subst, ⊎_elim, append_assoc, arith, length-append, ne_eqb, Bool}
use Rattle.std.specs.Prelude.{Some, slice_get, ◌==◌, filter}
use Rattle.std.specs.List.{All}
use Rattle.std.proofs.lemmas.List.{append-nil}
use Rattle.std.proofs.lemmas.List.Elements.{All-nil, All-append, All-weaker, filter-append}
use mathlib.Core.Logic.{dite}
use native.Mathlib.Decide.{dec_le}
use Rattle.std.proofs.Math.Nat.{lt_of_not-le}
use Rattle.std.proofs.lemmas.Option.{slice_get_within, get_or_from_slice_get}
use Rattle.sc_turn.specs.History.{Knows, MayFollow, HasNumbers, Closes}

pub one : {E : Type 0} (P : E → Type 0) (e : E) → P e → All P (e ∷ [])
one P e is zero d h = is
one P e is (suc i) d h = absurd (omega arith)

module _ {E : Type 0} (by : E → ℕ) where
  -- what the left history adds to the one that was found
  pub added : (number : ℕ) (found left : List E) → MayFollow by number found left → (tail : List E) × (left ≡ found ++ tail) × All (λ e. by e ≡ number) tail
  added number found left may = ⊎_elim (λ e. ([], e ∙ sym (append-nil found), All-nil (λ e. by e ≡ number)))
      (λ x. (x.0 ∷ [], x.1, one (λ e. by e ≡ number) x.0 x.2)) may

  pub may_longer : (number : ℕ) (found left : List E) → MayFollow by number found left → length found ≤ length left
  may_longer number found left may =
      let a = added number found left may in
      let is : length left ≡ length found + length a.0 = ap length a.1 ∙ length-append found a.0 in
      omega arith

  pub knows_all : (number : ℕ) (seen history : List E) → seen ≡ history → Knows by number seen history
  knows_all number seen history is = record { rest = []; whole = sym is ∙ sym (append-nil seen); others = All-nil (λ e. by e ≢ number) }

  -- another's entries change nothing of what is known of a number
  pub knows_on : (number other : ℕ) (seen base later tail : List E) → other ≢ number → All (λ e. by e ≡ other) tail → Knows by number seen (base ++ later) → Knows by number seen (base ++ (later ++ tail))
  knows_on number other seen base later tail ne his h = record {
    rest = h.rest ++ tail;
    whole = sym (append_assoc base later tail) ∙ ap (λ l. l ++ tail) h.whole ∙ append_assoc seen h.rest tail;
    others = All-append (λ e. by e ≢ number) h.rest tail h.others (All-weaker (λ e. by e ≡ other) (λ e. by e ≢ number) (λ e is eq. ne (sym is ∙ eq)) tail his);
  }

  own_none : (number : ℕ) (xs : List E) → All (λ e. by e ≢ number) xs → filter (λ e. by e == number) xs ≡ []
  own_none number [] h = refl
  own_none number (x ∷ xs) h = let ne : by x ≢ number = h zero x (omega arith) in rw (ne_eqb (by x) number ne) (own_none number xs (λ k d lt. h (suc k) d (omega arith)))

  -- the entries of a number are those that its pass has seen
  pub own_kept : (number : ℕ) (seen history : List E) → Knows by number seen history → filter (λ e. by e == number) history ≡ filter (λ e. by e == number) seen
  own_kept number seen history k =
      let P : E → Bool = λ e. by e == number in
      ap (filter P) k.whole ∙ filter-append P seen k.rest ∙ ap (λ l. filter P seen ++ l) (own_none number k.rest k.others) ∙ append-nil (filter P seen)

-- cards in their order have all numbers
pub numbers_in_order : (m : ℕ) (numbers : List ℕ) → length numbers ≡ m → ((k d : ℕ) → k < m → get_or numbers k d ≡ k + 1) → HasNumbers m numbers
numbers_in_order m numbers len at n low high = let same : n - 1 + 1 ≡ n = omega arith in (n - 1, omega arith, at (n - 1) n (omega arith) ∙ same)

module _ {A : Type 0} (number : A → ℕ) where
  -- where a number is among those of the cards, a card has it
  with_number : (cards : List A) (k n d : ℕ) → k < length (map number cards) → get_or (map number cards) k d ≡ n → (c : A) × (k < length cards) × ((d : A) → get_or cards k d ≡ c) × (number c ≡ n)
  with_number [] k n d lt is = absurd (omega arith)
  with_number (x ∷ xs) zero n d lt is = (x, omega arith, (λ d. refl), is)
  with_number (x ∷ xs) (suc k) n d lt is = let r = with_number xs k n d (omega arith) is in let low = r.1 in (r.0, omega arith, r.2, r.3)

  pub card_with : (cards : List A) (m n : ℕ) → HasNumbers m (map number cards) → 1 ≤ n → n ≤ m → (k : ℕ) × (c : A) × (k < length cards) × (get_or cards k c ≡ c) × (number c ≡ n)
  card_with cards m n all low high =
      let h = all n low high in
      let r = with_number cards h.0 n n h.1 h.2 in
      (h.0, r.0, r.1, r.2 r.0, r.3)

module _ {E : Type 0} where
  get_later : (base later : List E) (i j : ℕ) (e : E) → i ≡ length base + j → slice_get (base ++ later) i ≡ Some e → slice_get later j ≡ Some e
  get_later [] later i j e at is = let here : j ≡ i = omega arith in ap (slice_get later) here ∙ is
  get_later (x ∷ base) later zero j e at is = absurd (omega arith)
  get_later (x ∷ base) later (suc i) j e at is = get_later base later i j e (omega arith) is

  get_first : (seen rest : List E) (i : ℕ) (e : E) → i < length seen → slice_get (seen ++ rest) i ≡ Some e → slice_get seen i ≡ Some e
  get_first [] rest i e lt is = absurd (omega arith)
  get_first (x ∷ seen) rest zero e lt is = is
  get_first (x ∷ seen) rest (suc i) e lt is = get_first seen rest i e (omega arith) is

  all_get : (P : E → Type 0) (xs : List E) (i : ℕ) (e : E) → All P xs → slice_get xs i ≡ Some e → P e
  all_get P xs i e h is = subst P (get_or_from_slice_get xs i e e is) (h i e (slice_get_within xs i e is))

  -- an entry with the number of a card that knows the history is one that the card has seen
  saw : (by : E → ℕ) (number : ℕ) (seen history : List E) (i : ℕ) (e : E) → Knows by number seen history → by e ≡ number → slice_get history i ≡ Some e → slice_get seen i ≡ Some e
  saw by number seen history i e h is at =
      let there : slice_get (seen ++ h.rest) i ≡ Some e = ap (λ l. slice_get l i) (sym h.whole) ∙ at in
      dite (dec_le (length seen) i) (λ past. absurd (all_get (λ e. by e ≢ number) h.rest (i - length seen) e h.others (get_later seen h.rest i (i - length seen) e (omega arith) there) is))
      (λ no. get_first seen h.rest i e (lt_of_not-le no) there)

  pub closes : (by : E → ℕ) (m : ℕ) (base later : List E) (cards : List (ℕ × List E)) (history : List E) → history ≡ base ++ later → All (λ e. (1 ≤ by e) × (by e ≤ m)) later
      → HasNumbers m (map (λ (c : ℕ × List E). c.0) cards) → All (λ (c : ℕ × List E). Knows by c.0 c.1 history) cards → Closes by base cards history
  closes by m base later cards history whole numbered all known = record {
    later = later;
    whole = whole;
    known = known;
    owned = λ i e le at.
        let low = all_get (λ e. (1 ≤ by e) × (by e ≤ m)) later (i - length base) e numbered (get_later base later i (i - length base) e (omega arith) (ap (λ l. slice_get l i) (sym whole) ∙ at)) in
        let c = card_with (λ (c : ℕ × List E). c.0) cards m (by e) all low.0 low.1 in
        let knows : Knows by c.1.0 c.1.1 history = subst (λ (p : ℕ × List E). Knows by p.0 p.1 history) c.3 (known c.0 c.1 c.2) in
        (c.0, c.1, c.2, c.3, (sym c.4, saw by c.1.0 c.1.1 history i e knows (sym c.4) at));
  }

-- What calls told and heard, weighed.
use Rattle.std.proofs.Common.{◌≡◌, ℕ, ◌+◌, ◌<◌, ◌≤◌, Bool, cond, All, List, [], ◌∷◌, ◌++◌, length, length-append, filter, sym, refl, ap, subst, ◌∙◌, arith}
use Rattle.std.specs.List.{sum_by, count_by, flat_map}
use Rattle.std.proofs.lemmas.Grind.{flat_map-append}
use Rattle.std.proofs.lemmas.List.{append-nil, append_assoc, get_or_append_left}
use Rattle.std.proofs.lemmas.List.Sums.{length-filter, sum_by-append, sum_by-cons}
use Rattle.crossbeam_queue.specs.Fifo.{Held}
use Rattle.sc_notice.specs.declared.protocol.Hand.{Hand}
use Rattle.sc_notice.specs.declared.notice.Notice.{Notice}
use Rattle.sc_notice.specs.declared.notice.Call.{Call}
use Rattle.sc_notice.specs.Balance.{hand, KnowsAll}
use Rattle.sc_notice.specs.Cards.{with_cards}
use Rattle.sc_notice.specs.Callers.{Caller, AreWaiting, Closes, all_calls, heard_by, heard_in, told_by, told_in}

pub ones : {X : Type 0} (xs : List X) → sum_by (λ x. 1) xs ≡ length xs
ones [] = refl
ones {X} (x ∷ xs) = omega (arith, sum_by-cons (λ (y : X). 1) x xs, ones xs)

-- ---- one call more

pub told_more : (calls : List Call) (call : Call) → told_in (calls ++ call ∷ []) ≡ told_in calls ++ told_by call
told_more calls call = flat_map-append told_by calls (call ∷ []) ∙ ap (λ l. told_in calls ++ l) (append-nil (told_by call))

pub heard_more : (calls : List Call) (call : Call) → heard_in (calls ++ call ∷ []) ≡ heard_in calls ++ heard_by call
heard_more calls call = flat_map-append heard_by calls (call ∷ []) ∙ ap (λ l. heard_in calls ++ l) (append-nil (heard_by call))

-- who has all shares knows how many notices the queue holds
pub held : (calls : List Call) (n : ℕ) (items : List Notice) → length items ≡ n → ((weight : Notice → ℕ) → sum_by weight (told_in calls) ≡ sum_by weight (heard_in calls) + sum_by weight items) → AreWaiting calls n
held calls n items count weighed =
    let w = weighed (λ x. 1) in
    omega (arith, w, count, ones (told_in calls), ones (heard_in calls), ones items)

pub knows : (v : Hand) (calls : List Call) (n : ℕ) → v.told ≡ told_in calls → v.heard ≡ heard_in calls → v.shares ≡ 1_024 → Held n (KnowsAll v) → AreWaiting calls n
knows v calls n told heard whole moment =
    held calls n moment.0 moment.1 (λ weight. ap (sum_by weight) (sym told) ∙ moment.2 whole weight ∙ ap (λ l. sum_by weight l + sum_by weight moment.0) heard)

-- ---- all cards

calls_more : (cards : List Caller) (card : Caller) → all_calls (cards ++ card ∷ []) ≡ all_calls cards ++ card.calls
calls_more cards card = flat_map-append (λ (c : Caller). c.calls) cards (card ∷ []) ∙ ap (λ l. all_calls cards ++ l) (append-nil card.calls)

pub all_told : (cards : List Caller) (card : Caller) → told_in (all_calls (cards ++ card ∷ [])) ≡ told_in (all_calls cards) ++ told_in card.calls
all_told cards card = ap told_in (calls_more cards card) ∙ flat_map-append told_by (all_calls cards) card.calls

pub all_heard : (cards : List Caller) (card : Caller) → heard_in (all_calls (cards ++ card ∷ [])) ≡ heard_in (all_calls cards) ++ heard_in card.calls
all_heard cards card = ap heard_in (calls_more cards card) ∙ flat_map-append heard_by (all_calls cards) card.calls

hand_is : {a b : ℕ} {l m p q : List Notice} → a ≡ b → l ≡ m → p ≡ q → hand a l p ≡ hand b m q
hand_is {a} {b} {l} {m} {p} {q} shares told heard = ap (λ x. hand x l p) shares ∙ ap (λ x. hand b x p) told ∙ ap (λ x. hand b m x) heard

-- a seat takes in one card more
pub with_another : (v : Hand) (cards : List Caller) (card : Caller) → with_cards v (cards ++ card ∷ [])
    ≡ hand ((with_cards v cards).shares + card.shares) ((with_cards v cards).told ++ told_in card.calls) ((with_cards v cards).heard ++ heard_in card.calls)
with_another v cards card = hand_is (omega (arith, sum_by-append (λ (c : Caller). c.shares) cards (card ∷ [])))
    (ap (λ l. v.told ++ l) (all_told cards card) ∙ sym (append_assoc v.told (told_in (all_calls cards)) (told_in card.calls)))
    (ap (λ l. v.heard ++ l) (all_heard cards card) ∙ sym (append_assoc v.heard (heard_in (all_calls cards)) (heard_in card.calls)))

pub all_front : (P : Caller → Type 0) (cards front : List Caller) (card : Caller) → cards ≡ front ++ card ∷ [] → All P cards → All P front
all_front P cards front card is each k d lt = subst P (get_or_append_left front (card ∷ []) d k lt) (subst (All P) is each k d (omega (arith, length-append front (card ∷ []))))

weigh : (weight : Notice → ℕ) (a b : List Notice) → sum_by weight (b ++ a) ≡ sum_by weight (a ++ b)
weigh weight a b = omega (arith, sum_by-append weight a b, sum_by-append weight b a)

pub closes : (cards front : List Caller) (card : Caller) (n : ℕ) (items : List Notice) → cards ≡ front ++ card ∷ [] → length items ≡ n
    → ((weight : Notice → ℕ) → sum_by weight (told_in card.calls ++ told_in (all_calls front)) ≡ sum_by weight (heard_in card.calls ++ heard_in (all_calls front)) + sum_by weight items)
    → Closes cards n
closes cards front card n items is count weighed = record {
  waiting = held (all_calls cards) n items count each;
  heard = λ test.
      let e = each (λ x. cond (test x) 1 0) in
      omega (arith, e, length-filter test (heard_in (all_calls cards)), length-filter test (told_in (all_calls cards)));
}
  where
    each : (weight : Notice → ℕ) → sum_by weight (told_in (all_calls cards)) ≡ sum_by weight (heard_in (all_calls cards)) + sum_by weight items
    each weight =
        let told = ap (λ l. sum_by weight (told_in (all_calls l))) is ∙ ap (sum_by weight) (all_told front card) ∙ weigh weight (told_in card.calls) (told_in (all_calls front)) in
        let heard = ap (λ l. sum_by weight (heard_in (all_calls l))) is ∙ ap (sum_by weight) (all_heard front card) ∙ weigh weight (heard_in card.calls) (heard_in (all_calls front)) in
        told ∙ weighed weight ∙ ap (λ k. k + sum_by weight items) (sym heard)

-- a seat that has taken in all cards learns how many notices the queue holds
pub closed : (cards front : List Caller) (card : Caller) (n : ℕ) (v : Hand) → cards ≡ front ++ card ∷ [] → sum_by (λ card. card.shares) cards ≡ 1_024
    → v ≡ with_cards (hand card.shares (told_in card.calls) (heard_in card.calls)) front → Held n (KnowsAll v) → Closes cards n
closed cards front card n v is all known moment =
    closes cards front card n moment.0 is moment.1
    (λ weight. subst (λ (h : Hand). sum_by weight h.told ≡ sum_by weight h.heard + sum_by weight moment.0) known (moment.2 whole weight))
  where
    whole : v.shares ≡ 1_024
    whole =
        let parts = sum_by-append (λ (c : Caller). c.shares) front (card ∷ []) in
        let sums = ap (sum_by (λ (c : Caller). c.shares)) is in
        let shares = ap (λ (h : Hand). h.shares) known in
        omega (arith, parts, sums, shares, all)

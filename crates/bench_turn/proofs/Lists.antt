-- Lists that a loop goes through and builds, and what the cards of a run show of its closed value.
use Rattle.std.proofs.Common.{◌≡◌, ℕ, zero, suc, ◌+◌, ◌-◌, ◌<◌, List, [], ◌∷◌, ◌++◌, length, get_or, sym, refl, ap, ◌∙◌, subst, arith, length-append, append_assoc, map}
use Rattle.std.proofs.lemmas.List.{length-map}
use Rattle.std.proofs.lemmas.Option.{slice_get-get_or}
use Rattle.std.proofs.Math.ListN.{get_or-append}
use Rattle.std.specs.List.{All}
use Rattle.std.specs.Prelude.{replicate}
use Rattle.sc_turn.specs.{TableId}
use Rattle.sc_turn.specs.declared.booked.Booked.{Ghosts}
use Rattle.sc_turn.specs.declared.pass.Card.{Card}
use Rattle.sc_turn.specs.Passes.{card_desk, card_number, card_seen, pair_of, IsNew, AreNew}
use Rattle.bench_turn.specs.Numbers.{own}
use Rattle.sc_turn.specs.History.{Knows, HasNumbers, Closes}
use Rattle.bench_turn.proofs.Own.{own_kept}
use Rattle.bench_turn.specs.declared.numbers.Numbers.{Numbers}
use Rattle.bench_turn.specs.declared.worker.Worker.{Worker}
use Rattle.bench_turn.specs.Workers.{worker_desk, worker_number, SameWorkers, IsCardOf}
use Rattle.bench_turn.specs.Runs.{AreBound, AreBack, HasRun}

module _ {A : Type 0} where
  pub at_middle : (xs ys : List A) (x d : A) → get_or (xs ++ x ∷ ys) (length xs) d ≡ x
  at_middle [] ys x d = refl
  at_middle (a ∷ xs) ys x d = at_middle xs ys x d

  pub at_next : (all xs ys zs : List A) (x d : A) → all ≡ xs ++ zs → zs ≡ x ∷ ys → (get_or all (length xs) d ≡ x) × (length xs < length all)
  at_next all xs ys zs x d e f =
      let is : all ≡ xs ++ x ∷ ys = e ∙ ap (λ l. xs ++ l) f in
      let lt : length xs < length (xs ++ x ∷ ys) = omega (arith, length-append xs (x ∷ ys)) in
      (ap (λ l. get_or l (length xs) d) is ∙ at_middle xs ys x d, subst (λ l. length xs < length l) (sym is) lt)

  pub snoc_each : (P : ℕ → A → Type 0) (xs : List A) (x : A) → ((k : ℕ) (d : A) → k < length xs → P k (get_or xs k d)) → P (length xs) x
      → (k : ℕ) (d : A) → k < length xs + 1 → P k (get_or (xs ++ x ∷ []) k d)
  snoc_each P [] x h p zero d lt = p
  snoc_each P [] x h p (suc k) d lt = absurd (omega arith)
  snoc_each P (a ∷ xs) x h p zero d lt = h zero d (omega arith)
  snoc_each P (a ∷ xs) x h p (suc k) d lt = snoc_each (λ j. P (suc j)) xs x (λ j e m. h (suc j) e (omega arith)) p k d (omega arith)

pub bound_more : (desk : TableId) (n : ℕ) (ws : List Worker) (w : Worker) → AreBound desk n ws → worker_desk w ≡ desk → worker_number w ≡ n + 1 → AreBound desk (n + 1) (ws ++ w ∷ [])
bound_more desk n ws w b d m =
    let count = b.count in
    let P : ℕ → Worker → Type 0 = λ k v. (worker_desk v ≡ desk) × (worker_number v ≡ k + 1) in
    record {
      count = omega (arith, length-append ws (w ∷ []));
      each = λ k v lt. snoc_each P ws w (λ j u less. b.each j u (omega arith)) (d, m ∙ ap (λ x. x + 1) (sym count)) k v (omega arith);
    }

pub bound_step : {g : Ghosts Numbers (ℕ × ℕ)} (desk : TableId) (m : ℕ) (all ys zs zs' : List (Card Numbers (ℕ × ℕ) g)) (x : Card Numbers (ℕ × ℕ) g) (ws ws' : List Worker) (w : Worker)
    → AreNew desk [] m all → all ≡ ys ++ zs' → zs' ≡ x ∷ zs → AreBound desk (length ys) ws → ws' ≡ ws ++ w ∷ [] → worker_desk w ≡ card_desk x → worker_number w ≡ card_number x
    → AreBound desk (length (ys ++ x ∷ [])) ws'
bound_step desk m all ys zs zs' x ws ws' w new split next bound items d n =
    let at = at_next all ys zs zs' x x split next in
    let count = new.count in
    let lt = at.1 in
    let is = subst (IsNew desk (length ys + 1) []) at.0 (new.each (length ys) x (omega arith)) in
    let more : length (ys ++ x ∷ []) ≡ length ys + 1 = length-append ys (x ∷ []) in
    subst (λ (p : ℕ × List Worker). AreBound desk p.0 p.1) (λ i. (sym more i, sym items i)) (bound_more desk (length ys) ws w bound (d ∙ is.of) (n ∙ is.numbered))

pub split_step : {A : Type 0} (all ys zs zs' : List A) (x : A) → all ≡ ys ++ zs' → zs' ≡ x ∷ zs → all ≡ (ys ++ x ∷ []) ++ zs
split_step all ys zs zs' x split next = split ∙ ap (λ l. ys ++ l) next ∙ sym (append_assoc ys (x ∷ []) zs)

pub back_step : {g : Ghosts Numbers (ℕ × ℕ)} (ys : List Worker) (x : Worker) (cs cs' : List (Card Numbers (ℕ × ℕ) g)) (c : Card Numbers (ℕ × ℕ) g)
    → AreBack ys cs → cs' ≡ cs ++ c ∷ [] → IsCardOf x c → AreBack (ys ++ x ∷ []) cs'
back_step {g} ys x cs cs' c back items is =
    let count = back.count in
    let C : Type 0 = Card Numbers (ℕ × ℕ) g in
    let len : length cs' ≡ length (ys ++ x ∷ []) = ap length items ∙ length-append cs (c ∷ []) ∙ ap (λ n. n + 1) count ∙ sym (length-append ys (x ∷ [])) in
    let Q : ℕ → Worker → Type 0 = λ k w. (d : C) → IsCardOf w (get_or (cs ++ c ∷ []) k d) in
    let last : Q (length ys) x = λ d. subst (λ k. IsCardOf x (get_or (cs ++ c ∷ []) k d)) count (subst (IsCardOf x) (sym (at_middle cs [] c d)) is) in
    let first = λ (k : ℕ) (w : Worker) (lt : k < length ys) (d : C). subst (IsCardOf (get_or ys k w)) (sym (get_or-append cs (c ∷ []) d k (omega arith))) (back.each k w d lt) in
    let more = length-append ys (x ∷ []) in
    record { count = len; each = λ k w d lt. subst (λ l. IsCardOf (get_or (ys ++ x ∷ []) k w) (get_or l k d)) (sym items) (snoc_each Q ys x first last k w (omega arith) d) }

-- what stands at a place of a list, and of its image
at_map_or : {A B : Type 0} (f : A → B) (xs : List A) (k : ℕ) → k < length xs → (x : A) × ((d : A) → get_or xs k d ≡ x) × (k < length (map f xs)) × ((e : B) → get_or (map f xs) k e ≡ f x)
at_map_or f [] k lt = absurd (omega arith)
at_map_or f (x ∷ xs) zero lt = (x, (λ d. refl), (omega arith), λ e. refl)
at_map_or f (x ∷ xs) (suc k) lt = let r = at_map_or f xs k (omega arith) in let more = r.2 in (r.0, r.1, (omega arith), r.3)

module _ {g : Ghosts Numbers (ℕ × ℕ)} (desk : TableId) (n : ℕ) (before after : List Worker) (cards : List (Card Numbers (ℕ × ℕ) g)) (bound : AreBound desk n before) (len : length after ≡ length before)
    (same : SameWorkers before after) (back : AreBack after cards) where
  card_at : (k : ℕ) (d : Card Numbers (ℕ × ℕ) g) → k < n → (w : Worker) × IsCardOf w (get_or cards k d) × (card_desk (get_or cards k d) ≡ desk) × (card_number (get_or cards k d) ≡ k + 1)
  card_at k d lt =
      let count = bound.count in
      let more : k < length after = omega arith in
      let here = at_map_or (λ (w : Worker). w) after k more in
      let w = here.0 in
      let is = subst (λ x. IsCardOf x (get_or cards k d)) (here.1 w) (back.each k w d more) in
      let s = same k w (omega arith) in
      let b = bound.each k w lt in
      let wd : worker_desk w ≡ desk = ap worker_desk (sym (here.1 w)) ∙ s.0 ∙ b.0 in
      let wn : worker_number w ≡ k + 1 = ap worker_number (sym (here.1 w)) ∙ s.1 ∙ b.1 in
      (w, is, is.of ∙ wd, is.numbered ∙ wn)

  pub cards_of : (k : ℕ) (d : Card Numbers (ℕ × ℕ) g) → k < length cards → card_desk (get_or cards k d) ≡ desk
  cards_of k d lt = let count = bound.count in let more = back.count in (card_at k d (omega arith)).2

  pub cards_all : (m : ℕ) → m ≡ n → HasNumbers m (map card_number cards)
  cards_all m is x low high =
      let count = bound.count in
      let more = back.count in
      let k : ℕ = x - 1 in
      let here = at_map_or card_number cards k (omega arith) in
      let c = here.0 in
      let num : card_number c ≡ k + 1 = ap card_number (sym (here.1 c)) ∙ (card_at k c (omega arith)).3 in
      let k_is : k + 1 ≡ x = omega arith in
      (k, here.2, here.3 x ∙ num ∙ k_is)

  -- what the card at place k shows
  shows : (history : List (ℕ × ℕ)) (k : ℕ) → k < n → All (λ (p : ℕ × List (ℕ × ℕ)). Knows (λ e. e.0) p.0 p.1 history) (map pair_of cards)
      → (d : ℕ) × (own (k + 1) history ≡ replicate d (k + 1, 1)) × ((p : ℕ × List (ℕ × ℕ)) → (get_or (map pair_of cards) k p).0 ≡ k + 1)
  shows history k lt known =
      let count = bound.count in
      let more = back.count in
      let here = at_map_or pair_of cards k (omega arith) in
      let c = here.0 in
      let at = card_at k c lt in
      let num : card_number c ≡ k + 1 = ap card_number (sym (here.1 c)) ∙ at.3 in
      let mine = subst (IsCardOf at.0) (here.1 c) at.1 in
      let knows = subst (λ (p : ℕ × List (ℕ × ℕ)). Knows (λ e. e.0) p.0 p.1 history) (here.3 (0, [])) (known k (0, []) here.2) in
      (at.0.done, subst (λ z. own z history ≡ replicate at.0.done (z, 1)) num (own_kept (card_number c) (card_seen c) history knows ∙ mine.own_entries), λ p. ap (λ (q : ℕ × List (ℕ × ℕ)). q.0) (here.3 p) ∙ num)

  pub has_run : (m : ℕ) (base history : List (ℕ × ℕ)) → m ≡ n → base ≡ [] → Closes (λ e. e.0) base (map pair_of cards) history → HasRun n history
  has_run m base history is none ends =
      let count = bound.count in
      let more = back.count in
      let pairs : length (map pair_of cards) ≡ length cards = length-map cards pair_of in
      record {
        each = λ x low high.
            let k : ℕ = x - 1 in
            let k_is : k + 1 ≡ x = omega arith in
            let s = shows history k (omega arith) ends.known in
            (s.0, subst (λ z. own z history ≡ replicate s.0 (z, 1)) k_is s.1);
        numbered = λ i d lt.
            let start : length base ≡ 0 = ap length none in
            let o = ends.owned i (get_or history i d) (omega arith) (slice_get-get_or history i d lt) in
            let bound_at = o.2 in
            let s = shows history o.0 (omega arith) ends.known in
            let num : (get_or history i d).0 ≡ o.0 + 1 = o.4.0 ∙ ap (λ (q : ℕ × List (ℕ × ℕ)). q.0) (sym o.3) ∙ s.2 o.1 in
            (omega arith, omega arith);
      }

-- What turns leave.
use Rattle.std.proofs.Common.{◌≡◌, ◌≢◌, ℕ, zero, suc, ◌+◌, ◌≤◌, List, [], ◌∷◌, ◌++◌, length, sym, refl, ap, ◌∙◌, subst, append_assoc, arith, length-append, Bool, eqb, eq-eqb, true}
use Rattle.std.specs.Prelude.{◌==◌, filter, flat_map}
use Rattle.std.specs.List.{All}
use Rattle.std.proofs.lemmas.List.{append-nil}
use Rattle.std.proofs.lemmas.List.Elements.{filter-append, All-head, All-tail}
use Rattle.sc_turn.specs.History.{Knows}
use Rattle.sc_turn.proofs.Histories.{own_kept}
use Rattle.sc_visit.specs.Visits.{Visitor, IsSame, TakesTurn, TakesTurns, Rise}

module _ {E : Type 0} (by : E → ℕ) where
  -- what a pass has seen goes on
  pub turn_grows : (own : List E) (old new : Visitor E) → TakesTurn by own old new → (rest : List E) × (new.seen ≡ old.seen ++ rest)
  turn_grows own old new t = (t.knows.rest ++ own, t.left ∙ ap (λ l. l ++ own) t.knows.whole ∙ append_assoc old.seen t.knows.rest own)

  pub turns_grow : (owns : List (List E)) (old new : Visitor E) → TakesTurns by owns old new → (rest : List E) × (new.seen ≡ old.seen ++ rest)
  turns_grow [] old new t = ([], ap (λ v. v.seen) t ∙ sym (append-nil old.seen))
  turns_grow (own ∷ owns) old new t =
      let here = turn_grows own old t.0 t.1 in
      let more = turns_grow owns t.0 new t.2 in
      (here.0 ++ more.0, more.1 ∙ ap (λ l. l ++ more.0) here.1 ∙ append_assoc old.seen here.0 more.0)

  own_all : (number : ℕ) (own : List E) → All (λ e. by e ≡ number) own → filter (λ e. by e == number) own ≡ own
  own_all number [] h = refl
  own_all number (x ∷ xs) h =
      let is : by x ≡ number = All-head (λ e. by e ≡ number) x xs h in
      rw (eq-eqb (by x) number is) (ap (λ l. x ∷ l) (own_all number xs (All-tail (λ e. by e ≡ number) x xs h)))

  -- of what it has seen, the entries of its number are those of before and its own
  pub turn_own : (own : List E) (old new : Visitor E) → All (λ e. by e ≡ old.number) own → TakesTurn by own old new
      → filter (λ e. by e == old.number) new.seen ≡ filter (λ e. by e == old.number) old.seen ++ own
  turn_own own old new his t =
      let P : E → Bool = λ e. by e == old.number in
      ap (filter P) t.left ∙ filter-append P t.found own ∙ ap (λ l. l ++ filter P own) (own_kept by old.number old.seen t.found t.knows)
      ∙ ap (λ l. filter P old.seen ++ l) (own_all old.number own his)

  pub turns_own : (owns : List (List E)) (old new : Visitor E) → All (All (λ e. by e ≡ old.number)) owns → TakesTurns by owns old new
      → filter (λ e. by e == old.number) new.seen ≡ filter (λ e. by e == old.number) old.seen ++ flat_map (λ own. own) owns
  turns_own [] old new his t = ap (λ v. filter (λ e. by e == old.number) v.seen) t ∙ sym (append-nil (filter (λ e. by e == old.number) old.seen))
  turns_own (own ∷ owns) old new his t =
      let Q : List E → Type 0 = All (λ e. by e ≡ old.number) in
      let here = turn_own own old t.0 (All-head Q own owns his) t.1 in
      let number : t.0.number ≡ old.number = t.1.same.number_is in
      let more = turns_own owns t.0 new (subst (λ n. All (All (λ e. by e ≡ n)) owns) (sym number) (All-tail Q own owns his)) t.2 in
      let same = subst (λ n. filter (λ e. by e == n) new.seen ≡ filter (λ e. by e == n) t.0.seen ++ flat_map (λ own. own) owns) number more in
      same ∙ ap (λ l. l ++ flat_map (λ own. own) owns) here ∙ append_assoc (filter (λ e. by e == old.number) old.seen) own (flat_map (λ own. own) owns)

  -- its visits never fall
  pub turns_rise : (owns : List (List E)) (old new : Visitor E) → TakesTurns by owns old new
      → (more : List ℕ) × (new.visits ≡ old.visits ++ more) × (length more ≡ length owns) × Rise (length old.seen) more (length new.seen)
  turns_rise [] old new t = ([], ap (λ v. v.visits) t ∙ sym (append-nil old.visits), refl, ap (λ v. length v.seen) t)
  turns_rise (own ∷ owns) old new t =
      let here = turn_grows own old t.0 t.1 in
      let more = turns_rise owns t.0 new t.2 in
      let longer : length old.seen ≤ length t.0.seen = omega (arith, ap length here.1, length-append old.seen here.0) in (
        length t.0.seen ∷ more.0,
        more.1 ∙ ap (λ l. l ++ more.0) t.1.visit ∙ append_assoc old.visits (length t.0.seen ∷ []) more.0,
        ap suc more.2,
        (longer, more.3),
      )

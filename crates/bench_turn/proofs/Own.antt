-- A pass's own entries, as turns go by.
use Rattle.std.proofs.Common.{◌≡◌, ℕ, List, [], ◌∷◌, ◌++◌, refl, ap, ◌∙◌, eqb, eq-eqb}
use Rattle.std.proofs.lemmas.List.Elements.{filter-append}
use Rattle.sc_turn.specs.History.{Knows}
use Rattle.sc_turn.proofs.Histories as histories
use Rattle.bench_turn.specs.Numbers.{own}

pub own_kept : (n : ℕ) (seen log : List (ℕ × ℕ)) → Knows (λ e. e.0) n seen log → own n log ≡ own n seen
own_kept n seen log k = histories.own_kept (λ (e : ℕ × ℕ). e.0) n seen log k

pub own_added : (n x : ℕ) (xs ys : List (ℕ × ℕ)) → ys ≡ xs ++ (n, x) ∷ [] → own n ys ≡ own n xs ++ (n, x) ∷ []
own_added n x xs ys e = ap (own n) e ∙ filter-append (λ e. eqb e.0 n) xs ((n, x) ∷ []) ∙ ap (λ l. own n xs ++ l) (rw (eq-eqb n n refl) refl)

pub ruleset own_lemmas = (own_kept, own_added)

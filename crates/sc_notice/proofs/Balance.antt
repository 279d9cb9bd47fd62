-- Each step of the queue keeps the balance.
use Rattle.std.proofs.Common.{◌≡◌, ◌≢◌, ℕ, zero, suc, ◌+◌, ◌-◌, ◌<◌, List, [], ◌∷◌, ◌++◌, length, get_or, set, sym, refl, ap, subst, ⊎_elim, arith}
use Rattle.std.specs.List.{sum_by}
use Rattle.std.proofs.lemmas.List.Sums.{sum_by-append, sum_by-set}
use mathlib.Core.Option.{some, some-injective, some-ne-none}
use lib.ListN.{get_elem?}
use Rattle.crossbeam_queue.specs.Fifo.{Pushes, Pops, Forks, Merges, Learns}
use Rattle.crossbeam_queue.proofs.Lists.{at_set, at_snoc}
use Rattle.sc_notice.specs.declared.protocol.Hand.{Hand}
use Rattle.sc_notice.specs.declared.notice.Notice.{Notice}
use Rattle.sc_notice.specs.Balance.{hand, IdleIsEmpty, Balanced, KnowsAll}

here : {A : Type 0} (l : List A) (i : ℕ) (a : A) → get_elem? l i ≡ some a → (i < length l) × (get_or l i a ≡ a)
here [] i a e = absurd (some-ne-none a (sym e))
here (x ∷ xs) zero a e = (omega arith, some-injective x a e)
here (x ∷ xs) (suc i) a e = let r = here xs i a e in (omega arith, r.1)

total_set : {A : Type 0} (f : A → ℕ) (l : List A) (i : ℕ) (v w : A) → get_elem? l i ≡ some v → sum_by f (set l i w) + f v ≡ sum_by f l + f w
total_set f l i v w e = let r = here l i v e in subst (λ z. sum_by f (set l i w) + f z ≡ sum_by f l + f w) r.1 (sum_by-set f l i w v r.0)

idle_set : (views : List Hand) (port : ℕ) (w : Hand) → (w.shares ≡ 0 → (w.told ≡ []) × (w.heard ≡ [])) → IdleIsEmpty views → IdleIsEmpty (set views port w)
idle_set views port w mine idle j u e = ⊎_elim (λ (x : (j ≡ port) × (w ≡ u)). subst (λ (z : Hand). z.shares ≡ 0 → (z.told ≡ []) × (z.heard ≡ [])) x.1 mine)
    (λ (x : (j ≢ port) × (get_elem? views j ≡ some u)). idle j u x.1) (at_set views port j w u e)

pub puts : (n port : ℕ) (v : Hand) (x : Notice) → 0 < v.shares → Pushes Balanced n port v x (λ w. w ≡ hand v.shares (v.told ++ x ∷ []) v.heard)
puts n port v x some_share items views room b at =
    let w = hand v.shares (v.told ++ x ∷ []) v.heard in (
      w,
      (
        (let s = total_set (λ u. u.shares) views port v w at in let p = b.0 in omega arith),
        (λ h.
            let s = total_set (λ u. sum_by h u.told) views port v w at in
            let t = total_set (λ u. sum_by h u.heard) views port v w at in
            let p = b.1 h in
            omega (arith, sum_by-append h v.told (x ∷ []), sum_by-append h items (x ∷ []))),
        idle_set views port w (λ non. absurd (omega arith)) b.2,
      ),
      refl,
    )

pub takes : (port : ℕ) (v : Hand) → 0 < v.shares → Pops Balanced port v (λ x w. w ≡ hand v.shares v.told (v.heard ++ x ∷ []))
takes port v some_share x items views b at =
    let w = hand v.shares v.told (v.heard ++ x ∷ []) in (
      w,
      (
        (let s = total_set (λ u. u.shares) views port v w at in let p = b.0 in omega arith),
        (λ h.
            let s = total_set (λ u. sum_by h u.told) views port v w at in
            let t = total_set (λ u. sum_by h u.heard) views port v w at in
            let p = b.1 h in
            omega (arith, sum_by-append h v.heard (x ∷ []), sum_by-append h (x ∷ []) items)),
        idle_set views port w (λ non. absurd (omega arith)) b.2,
      ),
      refl,
    )

pub forks : (port : ℕ) (v : Hand) → 1 < v.shares → Forks Balanced port v (hand (v.shares - 1) v.told v.heard) (hand 1 [] [])
forks port v more items views b at =
    let l = hand (v.shares - 1) v.told v.heard in
    let r = hand 1 [] [] in
    let vs = set views port l in (
      (let s = total_set (λ u. u.shares) views port v l at in let p = b.0 in omega (arith, sum_by-append (λ u. u.shares) vs (r ∷ []))),
      (λ h.
          let s = total_set (λ u. sum_by h u.told) views port v l at in
          let t = total_set (λ u. sum_by h u.heard) views port v l at in
          let p = b.1 h in
          omega (arith, sum_by-append (λ (u : Hand). sum_by h u.told) vs (r ∷ []), sum_by-append (λ (u : Hand). sum_by h u.heard) vs (r ∷ []))),
      (λ j u e. ⊎_elim (idle_set views port l (λ non. absurd (omega arith)) b.2 j u) (λ (is : r ≡ u). subst (λ (z : Hand). z.shares ≡ 0 → (z.told ≡ []) × (z.heard ≡ [])) is (λ non. absurd (omega arith))) (at_snoc vs r u j e)),
    )

pub merges : (port : ℕ) (v : Hand) (other : ℕ) (u : Hand) → 0 < v.shares → Merges Balanced port v other u (hand (v.shares + u.shares) (v.told ++ u.told) (v.heard ++ u.heard)) (hand 0 [] [])
merges port v other u some_share items views b at apart at' =
    let both = hand (v.shares + u.shares) (v.told ++ u.told) (v.heard ++ u.heard) in
    let none = hand 0 [] [] in
    let vs = set views port both in (
      (let s = total_set (λ z. z.shares) views port v both at in let t = total_set (λ z. z.shares) vs other u none at' in let p = b.0 in omega arith),
      (λ h.
          let s = total_set (λ z. sum_by h z.told) views port v both at in
          let t = total_set (λ z. sum_by h z.heard) views port v both at in
          let s' = total_set (λ z. sum_by h z.told) vs other u none at' in
          let t' = total_set (λ z. sum_by h z.heard) vs other u none at' in
          let p = b.1 h in
          omega (arith, sum_by-append h v.told u.told, sum_by-append h v.heard u.heard)),
      idle_set vs other none (λ _. (refl, refl)) (idle_set views port both (λ non. absurd (omega arith)) b.2),
    )

-- views with no share have told and heard nothing
nothing : (f : Hand → ℕ) → ((v : Hand) → v.told ≡ [] → v.heard ≡ [] → f v ≡ 0) → (views : List Hand) → sum_by (λ v. v.shares) views ≡ 0 → IdleIsEmpty views → sum_by f views ≡ 0
nothing f zero_at [] none idle = refl
nothing f zero_at (v ∷ vs) none idle =
    let p = sum_by-append (λ (u : Hand). u.shares) (v ∷ []) vs in
    let q = sum_by-append f (v ∷ []) vs in
    let own : v.shares ≡ 0 = omega arith in
    let e = idle 0 v refl own in
    let first = zero_at v e.0 e.1 in
    let rest = nothing f zero_at vs (omega arith) (λ j u at. idle (suc j) u at) in
    omega arith

pub learns : (port : ℕ) (v : Hand) → Learns Balanced port v (KnowsAll v)
learns port v items views b at all h =
    let none = hand 0 [] [] in
    let vs = set views port none in
    let s = total_set (λ u. u.shares) views port v none at in
    let p = b.0 in
    let idle = idle_set views port none (λ _. (refl, refl)) b.2 in
    let left : sum_by (λ (u : Hand). u.shares) vs ≡ 0 = omega arith in
    let told = nothing (λ u. sum_by h u.told) (λ u e f. ap (sum_by h) e) vs left idle in
    let heard = nothing (λ u. sum_by h u.heard) (λ u e f. ap (sum_by h) f) vs left idle in
    let t = total_set (λ u. sum_by h u.told) views port v none at in
    let t' = total_set (λ u. sum_by h u.heard) views port v none at in
    let q = b.1 h in
    omega arith

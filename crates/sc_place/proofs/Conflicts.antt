-- No endpoint's route conflicts with one that was added before it.
use Rattle.std.proofs.Common.{◌≡◌, ◌<◌, ◌⊎◌, inl, inr, ℕ, suc, subst, List, [], ◌∷◌, Option, Some, None, Result, Ok, Err, Bool, true, false, cond, refl, sym, ap, ◌∙◌, arith}
use Rattle.matchit.specs.Rows.{RowsOf}
use Rattle.matchit.specs.Conflict.{conflicts}
use Rattle.matchit.specs.Order.{common_len, placed}
use Rattle.matchit.specs.Route.{Scan, parse_route}
use Rattle.matchit.specs.Router.{RouteOf, InsertsRead, Refused, nearest, nearest_from, nearer, route_from}
use Rattle.matchit.specs.declared.error.InsertError.{InsertError}
use Rattle.matchit.specs.declared.error.InsertError.TheVariants.{Conflict, InvalidParam, InvalidParamSegment, InvalidCatchAll, OutOfMemory}
use Rattle.sc_place.specs.Takes.{Has}
use Rattle.sc_place.specs.Endpoints.{Each, Below, number, route_text, pattern_of}
use Rattle.sc_place.specs.declared.endpoint.Endpoint.{Endpoint}
use Rattle.sc_place.specs.declared.endpoint.Endpoint.TheVariants.{Landing, Conformance, Queryables, Collections, Collection, Items, Item, Search}
use Rattle.sc_place.proofs.Adds.{pattern_in, reads, some_is, placed_has}

pub apart : (a b : Endpoint) → number b < number a → conflicts (pattern_of a) (pattern_of b) ≡ false
apart Landing Landing h = absurd (omega (arith, h))
apart Landing Conformance h = absurd (omega (arith, h))
apart Landing Queryables h = absurd (omega (arith, h))
apart Landing Search h = absurd (omega (arith, h))
apart Landing Collections h = absurd (omega (arith, h))
apart Landing Collection h = absurd (omega (arith, h))
apart Landing Items h = absurd (omega (arith, h))
apart Landing Item h = absurd (omega (arith, h))
apart Conformance Landing h = refl
apart Conformance Conformance h = absurd (omega (arith, h))
apart Conformance Queryables h = absurd (omega (arith, h))
apart Conformance Search h = absurd (omega (arith, h))
apart Conformance Collections h = absurd (omega (arith, h))
apart Conformance Collection h = absurd (omega (arith, h))
apart Conformance Items h = absurd (omega (arith, h))
apart Conformance Item h = absurd (omega (arith, h))
apart Queryables Landing h = refl
apart Queryables Conformance h = refl
apart Queryables Queryables h = absurd (omega (arith, h))
apart Queryables Search h = absurd (omega (arith, h))
apart Queryables Collections h = absurd (omega (arith, h))
apart Queryables Collection h = absurd (omega (arith, h))
apart Queryables Items h = absurd (omega (arith, h))
apart Queryables Item h = absurd (omega (arith, h))
apart Search Landing h = refl
apart Search Conformance h = refl
apart Search Queryables h = refl
apart Search Search h = absurd (omega (arith, h))
apart Search Collections h = absurd (omega (arith, h))
apart Search Collection h = absurd (omega (arith, h))
apart Search Items h = absurd (omega (arith, h))
apart Search Item h = absurd (omega (arith, h))
apart Collections Landing h = refl
apart Collections Conformance h = refl
apart Collections Queryables h = refl
apart Collections Search h = refl
apart Collections Collections h = absurd (omega (arith, h))
apart Collections Collection h = absurd (omega (arith, h))
apart Collections Items h = absurd (omega (arith, h))
apart Collections Item h = absurd (omega (arith, h))
apart Collection Landing h = refl
apart Collection Conformance h = refl
apart Collection Queryables h = refl
apart Collection Search h = refl
apart Collection Collections h = refl
apart Collection Collection h = absurd (omega (arith, h))
apart Collection Items h = absurd (omega (arith, h))
apart Collection Item h = absurd (omega (arith, h))
apart Items Landing h = refl
apart Items Conformance h = refl
apart Items Queryables h = refl
apart Items Search h = refl
apart Items Collections h = refl
apart Items Collection h = refl
apart Items Items h = absurd (omega (arith, h))
apart Items Item h = absurd (omega (arith, h))
apart Item Landing h = refl
apart Item Conformance h = refl
apart Item Queryables h = refl
apart Item Search h = refl
apart Item Collections h = refl
apart Item Collection h = refl
apart Item Items h = refl
apart Item Item h = absurd (omega (arith, h))

none_near : {K : Type 0} (p : List ℕ) (best : Option K × ℕ) (rows : RowsOf K) → best.0 ≡ None → ((t : List ℕ) (k : K) → Has rows t k → conflicts p t ≡ false) → nearest_from p best rows ≡ None
none_near p best [] e h = e
none_near p best ((t, k) ∷ rows) e h =
    ap (λ v. nearest_from p (cond v (nearer best (common_len p t) k) best) rows) (h t k (inl (refl, refl)))
    ∙ none_near p best rows e (λ u j m. h u j (inr m))

alone : (endpoint : Endpoint) (rows : RowsOf (RouteOf Endpoint)) → Each rows → Below (number endpoint) rows → nearest (pattern_of endpoint) rows ≡ None
alone endpoint rows each below =
    none_near (pattern_of endpoint) (None, 0) rows refl
    (λ t k h. ap (conflicts (pattern_of endpoint)) (each t k h) ∙ apart endpoint k.value (below t k h))

pub only_memory : (endpoint : Endpoint) (old new : RowsOf (RouteOf Endpoint)) (e : InsertError) → Each old → Below (number endpoint) old
    → InsertsRead (parse_route (route_text endpoint)) endpoint old new (Err e) → e ≡ OutOfMemory
only_memory endpoint old new e each below h = by (parse_route (route_text endpoint)) (reads endpoint) e h
  where
    refused : (s : Scan) → s.pattern ≡ pattern_of endpoint → (e : InsertError) → Refused s.pattern old e → e ≡ OutOfMemory
    refused s q (Conflict with) h =
        let none : nearest s.pattern old ≡ None = ap (λ p. nearest p old) q ∙ alone endpoint old each below in
        let bad : None ≡ Some h.0 = sym none ∙ h.1 in
        cc
    refused s q OutOfMemory h = refl
    refused s q InvalidParamSegment h = absurd h
    refused s q InvalidParam h = absurd h
    refused s q InvalidCatchAll h = absurd h

    by : (x : Result Scan InsertError) → pattern_in x ≡ Some (pattern_of endpoint) → (e : InsertError) → InsertsRead x endpoint old new (Err e) → e ≡ OutOfMemory
    by (Ok s) q e h = refused s (some_is q) e h.1
    by (Err f) q e h = cc

pub higher : (endpoint : Endpoint) (old new : RowsOf (RouteOf Endpoint)) (r : Result (Unit {0}) InsertError) → InsertsRead (parse_route (route_text endpoint)) endpoint old new r
    → Below (number endpoint) old → Below (suc (number endpoint)) new
higher endpoint old new r h below = by (parse_route (route_text endpoint)) r h
  where
    kept : Below (suc (number endpoint)) old
    kept t k m = omega (arith, below t k m)

    in_place : (s : Scan) → Below (suc (number endpoint)) (placed (s.pattern, route_from s endpoint) old)
    in_place s t k m = elim (placed_has s.pattern (route_from s endpoint) old t k m) [
      | inl q ↦ subst (λ (x : RouteOf Endpoint). number x.value < suc (number endpoint)) q.1 (omega arith)
      | inr q ↦ kept t k q
    ]

    by : (x : Result Scan InsertError) (r : Result (Unit {0}) InsertError) → InsertsRead x endpoint old new r → Below (suc (number endpoint)) new
    by (Ok s) (Ok u) h = subst (λ rows. Below (suc (number endpoint)) rows) (sym h.1) (in_place s)
    by (Ok s) (Err e) h = subst (λ rows. Below (suc (number endpoint)) rows) (sym h.0) kept
    by (Err f) r h = subst (λ rows. Below (suc (number endpoint)) rows) (sym h.0) kept

pub none_below : (n : ℕ) → Below n []
none_below n t k h = absurd h

-- What an insert of an endpoint's route makes of the rows.
use Rattle.std.proofs.Common.{◌≡◌, ◌⊎◌, inl, inr, ℕ, List, [], ◌∷◌, Option, Some, None, Result, Ok, Err, OnOk, Bool, true, false, cond, refl, sym, ap, ◌∙◌}
use Rattle.matchit.specs.Rows.{RowsOf, comes_before}
use Rattle.matchit.specs.Order.{placed}
use Rattle.matchit.specs.Route.{Scan, parse_route}
use Rattle.matchit.specs.Router.{RouteOf, InsertsRead, route_from}
use Rattle.matchit.specs.declared.error.InsertError.{InsertError}
use Rattle.matchit.proofs.OnLiterals.{matchit_on_literals}
use Rattle.sc_place.specs.Takes.{Has}
use Rattle.sc_place.specs.Endpoints.{Each, Serves, Keeps, IsTable, route_text, pattern_of}
use Rattle.sc_place.specs.declared.endpoint.Endpoint.{Endpoint}
use Rattle.sc_place.specs.declared.endpoint.Endpoint.TheVariants.{Landing, Conformance, Queryables, Collections, Collection, Items, Item, Search}

abbrev pub pattern_in : Result Scan InsertError → Option (List ℕ)
pattern_in (Ok s) = Some s.pattern
pattern_in (Err e) = None

pub reads : (s : Endpoint) → pattern_in (parse_route (route_text s)) ≡ Some (pattern_of s)
unfolding matchit_on_literals
reads Landing = refl
reads Conformance = refl
reads Queryables = refl
reads Search = refl
reads Collections = refl
reads Collection = refl
reads Items = refl
reads Item = refl

module _ {K : Type 0} where
  pub placed_has : (p : List ℕ) (r : K) (rs : RowsOf K) (t : List ℕ) (k : K) → Has (placed (p, r) rs) t k → ((p ≡ t) × (r ≡ k)) ⊎ Has rs t k
  placed_has p r [] t k h = h
  placed_has p r ((u, j) ∷ rs) t k h = by (comes_before p u) h (placed_has p r rs t k)
    where
      by : (v : Bool) → Has (cond v ((p, r) ∷ (u, j) ∷ rs) ((u, j) ∷ placed (p, r) rs)) t k
          → (Has (placed (p, r) rs) t k → ((p ≡ t) × (r ≡ k)) ⊎ Has rs t k)
          → ((p ≡ t) × (r ≡ k)) ⊎ Has ((u, j) ∷ rs) t k
      by true h ih = h
      by false (inl q) ih = inr (inl q)
      by false (inr q) ih = elim (ih q) [
        | inl a ↦ inl a
        | inr b ↦ inr (inr b)
      ]

  has_placed : (p : List ℕ) (r : K) (rs : RowsOf K) (t : List ℕ) (k : K) → ((p ≡ t) × (r ≡ k)) ⊎ Has rs t k → Has (placed (p, r) rs) t k
  has_placed p r [] t k h = h
  has_placed p r ((u, j) ∷ rs) t k h = by (comes_before p u) h (has_placed p r rs t k)
    where
      by : (v : Bool) → ((p ≡ t) × (r ≡ k)) ⊎ Has ((u, j) ∷ rs) t k
          → (((p ≡ t) × (r ≡ k)) ⊎ Has rs t k → Has (placed (p, r) rs) t k)
          → Has (cond v ((p, r) ∷ (u, j) ∷ rs) ((u, j) ∷ placed (p, r) rs)) t k
      by true h ih = h
      by false (inl q) ih = inr (ih (inl q))
      by false (inr (inl q)) ih = inl q
      by false (inr (inr q)) ih = inr (ih (inr q))

pub some_is : {A : Type 0} {x y : A} → Some x ≡ Some y → x ≡ y
some_is e = cc

abbrev pub Adds : Endpoint → RowsOf (RouteOf Endpoint) → RowsOf (RouteOf Endpoint) → Result (Unit {0}) InsertError → Type 0
Adds endpoint old new r = (Each old → Each new) × Keeps old new × OnOk r (Serves new endpoint)

in_place : (endpoint : Endpoint) (s : Scan) (old : RowsOf (RouteOf Endpoint)) (u : Unit {0}) → s.pattern ≡ pattern_of endpoint → Adds endpoint old (placed (s.pattern, route_from s endpoint) old) (Ok u)
in_place endpoint s old u e = (
  λ each t k h. elim (placed_has s.pattern (route_from s endpoint) old t k h) [
    | inl q ↦ sym q.0 ∙ (e ∙ ap (λ x. pattern_of x.value) q.1)
    | inr q ↦ each t k q
  ],
  λ t k h. has_placed s.pattern (route_from s endpoint) old t k (inr h),
  (route_from s endpoint, has_placed s.pattern (route_from s endpoint) old (pattern_of endpoint) (route_from s endpoint) (inl (e, refl)), refl),
)

pub inserted : (endpoint : Endpoint) (old new : RowsOf (RouteOf Endpoint)) (r : Result (Unit {0}) InsertError) → InsertsRead (parse_route (route_text endpoint)) endpoint old new r → Adds endpoint old new r
inserted endpoint old new r h = by (parse_route (route_text endpoint)) (reads endpoint) r h
  where
    same : (r : InsertError) → new ≡ old → Adds endpoint old new (Err r)
    same r e = (λ each. rw e each, λ t k h. rw e h, tt)

    by : (x : Result Scan InsertError) → pattern_in x ≡ Some (pattern_of endpoint) → (r : Result (Unit {0}) InsertError) → InsertsRead x endpoint old new r → Adds endpoint old new r
    by (Ok s) e (Ok u) h = rw h.1 (in_place endpoint s old u (some_is e))
    by (Ok s) e (Err f) h = same f h.0
    by (Err f) e r h = cc

pub nothing : Each []
nothing t k h = absurd h

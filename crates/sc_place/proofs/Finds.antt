-- What a router of whole rows answers: the walk finds a row whose pattern takes the path, and finds none only where none does.
use Rattle.std.proofs.Common.{◌≡◌, ◌≢◌, ◌⊎◌, inl, inr, ℕ, zero, suc, ◌+◌, ◌-◌, ◌<◌, ◌≤◌, List, [], ◌∷◌, ◌++◌, length, drop, take, Option, Some, None, Bool, true, false, cond, refl, sym, ap, ◌∙◌, arith, nat_eq, ◌==◌, ltb, ◌&&◌, ◌||◌, append-nil}
use Rattle.std.proofs.lemmas.Bool.Decides.{nat_tests}
use Rattle.std.specs.Prelude.{⊤}
use Rattle.std.specs.List.{ends_with}
use Rattle.std.specs.Cmp.Lexicographic.{pointwise, bytes_decides}
use Rattle.matchit.specs.Rows.{RowsOf, param_token, catch_all_token}
use Rattle.matchit.specs.Seek.{own, step, or_else, seek, first, param_step, has_slash, segment, slash, better, longest_from, longest_suffix, with_suffix, same_text, cuts}
use Rattle.matchit.specs.Level.{IsText}
use Rattle.matchit.proofs.ParamLemmas.{better-empty, same_text-self, drop-length, one_less}
use Rattle.sc_place.specs.Takes.{Has, Takes, Begins, Whole, AllWhole, AllBegin}

-- ---- paths

pub no_slash_tail : (x : ℕ) (q : List ℕ) → has_slash (x ∷ q) ≡ false → ((x == slash) ≡ false) × (has_slash q ≡ false)
no_slash_tail x q h = by (x == slash) refl h
  where
    by : (v : Bool) → (x == slash) ≡ v → cond v true (has_slash q) ≡ false → ((x == slash) ≡ false) × (has_slash q ≡ false)
    by true e f = cc
    by false e f = (e, f)

pub segment_none : (q : List ℕ) → has_slash q ≡ false → segment q ≡ q
segment_none [] h = refl
segment_none (x ∷ q) h =
    let n = no_slash_tail x q h in
    rw n.0 (ap (λ z. x ∷ z) (segment_none q n.1))

pub segment_slash : (v r : List ℕ) → has_slash v ≡ false → segment (v ++ slash ∷ r) ≡ v ++ slash ∷ []
segment_slash [] r h = refl
segment_slash (x ∷ v) r h =
    let n = no_slash_tail x v h in
    rw n.0 (ap (λ z. x ∷ z) (segment_slash v r n.1))

pub has_slash_at : (v r : List ℕ) → has_slash (v ++ slash ∷ r) ≡ true
has_slash_at [] r = refl
has_slash_at (x ∷ v) r =
    elim (x == slash) as (λ u. cond u true (has_slash (v ++ slash ∷ r)) ≡ true) [
      | true ↦ refl
      | false ↦ has_slash_at v r
    ]

abbrev pub SlashIn : List ℕ → Type 0
SlashIn q = (v : List ℕ) × (r : List ℕ) × (q ≡ v ++ slash ∷ r) × (has_slash v ≡ false)

pub slash_split : (q : List ℕ) → (has_slash q ≡ false) ⊎ SlashIn q
slash_split [] = inl refl
slash_split (x ∷ q) = by (x == slash) refl (slash_split q)
  where
    by : (v : Bool) → (x == slash) ≡ v → (has_slash q ≡ false) ⊎ SlashIn q → (has_slash (x ∷ q) ≡ false) ⊎ SlashIn (x ∷ q)
    by true e h =
        let is : x ≡ slash = grind (arith, nat_tests) in
        inr ([], q, rw is refl, refl)
    by false e (inl h) = inl (rw e h)
    by false e (inr h) = inr (x ∷ h.0, h.1, ap (λ z. x ∷ z) h.2, rw e h.3)

-- a text without a slash doesn't end in one
last_none : (q : List ℕ) → has_slash q ≡ false → ends_with nat_eq q (slash ∷ []) ≡ false
last_none [] h = refl
last_none (x ∷ []) h =
    let n = no_slash_tail x [] h in
    let m : nat_eq slash x ≡ false = grind (arith, nat_tests) in
    rw m refl
last_none (x ∷ (y ∷ q)) h =
    let n = no_slash_tail x (y ∷ q) h in
    ap (λ i. pointwise nat_eq (slash ∷ []) (drop i (x ∷ (y ∷ q)))) (one_less (suc (length q)))
    ∙ (sym (ap (λ i. pointwise nat_eq (slash ∷ []) (drop i (y ∷ q))) (one_less (length q))) ∙ last_none (y ∷ q) n.1)

last_slash : (v : List ℕ) → ends_with nat_eq (v ++ slash ∷ []) (slash ∷ []) ≡ true
last_slash [] = refl
last_slash (x ∷ []) = refl
last_slash (x ∷ (y ∷ v)) =
    let all = v ++ slash ∷ [] in
    ap (λ i. pointwise nat_eq (slash ∷ []) (drop i (x ∷ (y ∷ all)))) (one_less (suc (length all)))
    ∙ (sym (ap (λ i. pointwise nat_eq (slash ∷ []) (drop i (y ∷ all))) (one_less (length all))) ∙ last_slash (y ∷ v))

cuts_none : (q : List ℕ) → has_slash q ≡ false → cuts q (slash ∷ []) ≡ false
cuts_none q h =
    let e = last_none q h in
    grind (arith, nat_tests)

length_end : (v : List ℕ) → length (v ++ slash ∷ []) ≡ suc (length v)
length_end [] = refl
length_end (x ∷ v) = ap suc (length_end v)

cuts_slash : (x : ℕ) (v : List ℕ) → cuts ((x ∷ v) ++ slash ∷ []) (slash ∷ []) ≡ true
cuts_slash x v =
    let e = last_slash (x ∷ v) in
    let l = length_end v in
    grind (arith, nat_tests)

drop_front : (v r : List ℕ) → drop (length v) (v ++ r) ≡ r
drop_front [] r = refl
drop_front (x ∷ v) r = drop_front v r

drop_nil : (n : ℕ) → drop {A = ℕ} n [] ≡ []
drop_nil zero = refl
drop_nil (suc n) = refl

takes_nil : (t : List ℕ) → Takes t [] → t ≡ []
takes_nil [] h = refl
takes_nil (x ∷ t) (inl h) = nil_parts h.1.0 h.1.1 h.1.2 h.1.3
  where
    nil_parts : {A : Type 0} (part rest : List ℕ) → [] ≡ part ++ rest → part ≢ [] → A
    nil_parts [] rest e n = absurd (n refl)
    nil_parts (y ∷ part) rest e n = cc
takes_nil (x ∷ t) (inr h) = let e = h.1.1 in cc

-- ---- suffixes

abbrev slash_if : Bool → List ℕ
slash_if true = slash ∷ []
slash_if false = []

abbrev goes_on : List ℕ → Bool
goes_on [] = false
goes_on (x ∷ t) = true

better_if : (seg : List ℕ) (c d : Bool) → cuts seg (slash ∷ []) ≡ d → better seg (slash_if c) (slash ∷ []) ≡ slash_if (c || d)
better_if seg true d e = refl
better_if seg false true e = rw e refl
better_if seg false false e = rw e refl

module _ {K : Type 0} where
  abbrev any_on : RowsOf K → Bool
  any_on [] = false
  any_on ((t, k) ∷ rest) = goes_on t || any_on rest

  longest_if : (seg : List ℕ) (c d : Bool) (rs : RowsOf K) → cuts seg (slash ∷ []) ≡ d → AllBegin rs
      → longest_from seg (slash_if c) rs ≡ slash_if (c || (d && any_on rs))
  longest_if seg c d [] e h = by c d
    where
      by : (c d : Bool) → slash_if c ≡ slash_if (c || (d && false))
      by true d = refl
      by false true = refl
      by false false = refl
  longest_if seg c d (([], k) ∷ rs) e h = rw (better-empty seg (slash_if c)) (longest_if seg c d rs e h.1)
  longest_if seg c d ((x ∷ t, k) ∷ rs) e h =
      rw h.0 (rw (better_if seg c d e) (longest_if seg (c || d) d rs e h.1 ∙ by c d (any_on rs)))
    where
      by : (c d a : Bool) → slash_if ((c || d) || (d && a)) ≡ slash_if (c || (d && true))
      by true d a = refl
      by false true a = refl
      by false false a = refl

  -- ---- rows

  has_step : (b : ℕ) (rs : RowsOf K) (t : List ℕ) (k : K) → Has (step b rs) t k → Has rs (b ∷ t) k
  has_step b [] t k h = elim h [ ]
  has_step b (([], j) ∷ rs) t k h = inr (has_step b rs t k h)
  has_step b ((x ∷ u, j) ∷ rs) t k h = by (x == b) refl h (has_step b rs t k)
    where
      by : (v : Bool) → (x == b) ≡ v → Has (cond v ((u, j) ∷ step b rs) (step b rs)) t k → (Has (step b rs) t k → Has rs (b ∷ t) k) → Has ((x ∷ u, j) ∷ rs) (b ∷ t) k
      by true e (inl p) ih =
          let xb : x ≡ b = grind (arith, nat_tests) in
          inl (rw (xb, p.0) refl, p.1)
      by true e (inr q) ih = inr (ih q)
      by false e q ih = inr (ih q)

  step_has : (b : ℕ) (rs : RowsOf K) (t : List ℕ) (k : K) → Has rs (b ∷ t) k → Has (step b rs) t k
  step_has b [] t k h = elim h [ ]
  step_has b (([], j) ∷ rs) t k (inl p) = let e = p.0 in cc
  step_has b (([], j) ∷ rs) t k (inr h) = step_has b rs t k h
  step_has b ((x ∷ u, j) ∷ rs) t k h = by (x == b) refl h (step_has b rs t k)
    where
      by : (v : Bool) → (x == b) ≡ v → Has ((x ∷ u, j) ∷ rs) (b ∷ t) k → (Has rs (b ∷ t) k → Has (step b rs) t k) → Has (cond v ((u, j) ∷ step b rs) (step b rs)) t k
      by true e (inl p) ih =
          let q = p.0 in
          let ut : u ≡ t = cc in
          inl (ut, p.1)
      by true e (inr q) ih = inr (ih q)
      by false e (inl p) ih =
          let q = p.0 in
          let xb : x ≡ b = cc in
          let bad : (x == b) ≡ true = grind (arith, nat_tests) in
          cc
      by false e (inr q) ih = ih q

  own_has : (rs : RowsOf K) (k : K) → own rs ≡ Some k → Has rs [] k
  own_has [] k e = cc
  own_has (([], j) ∷ rs) k e =
      let jk : j ≡ k = cc in
      inl (refl, jk)
  own_has ((x ∷ u, j) ∷ rs) k e = inr (own_has rs k e)

  has_own : (rs : RowsOf K) (k : K) → own rs ≡ None → Has rs [] k → ⊥
  has_own [] k e h = h
  has_own (([], j) ∷ rs) k e h = cc
  has_own ((x ∷ u, j) ∷ rs) k e (inl p) = let q = p.0 in cc
  has_own ((x ∷ u, j) ∷ rs) k e (inr h) = has_own rs k e h

  whole_of : (rs : RowsOf K) (t : List ℕ) (k : K) → AllWhole rs → Has rs t k → Whole t
  whole_of [] t k w h = elim h [ ]
  whole_of ((u, j) ∷ rs) t k w (inl p) = rw p.0 at w.0
  whole_of ((u, j) ∷ rs) t k w (inr h) = whole_of rs t k w.1 h

  begin_of : (rs : RowsOf K) (t : List ℕ) (k : K) → AllBegin rs → Has rs t k → Begins t
  begin_of [] t k w h = elim h [ ]
  begin_of ((u, j) ∷ rs) t k w (inl p) = rw p.0 at w.0
  begin_of ((u, j) ∷ rs) t k w (inr h) = begin_of rs t k w.1 h

  whole_step : (b : ℕ) (rs : RowsOf K) → AllWhole rs → AllWhole (step b rs)
  whole_step b [] w = tt
  whole_step b (([], j) ∷ rs) w = whole_step b rs w.1
  whole_step b ((x ∷ u, j) ∷ rs) w =
      elim (x == b) as (λ v. AllWhole (cond v ((u, j) ∷ step b rs) (step b rs))) [
        | true ↦ (w.0.2, whole_step b rs w.1)
        | false ↦ whole_step b rs w.1
      ]

  begin_step : (rs : RowsOf K) → AllWhole rs → AllBegin (step param_token rs)
  begin_step [] w = tt
  begin_step (([], j) ∷ rs) w = begin_step rs w.1
  begin_step ((x ∷ u, j) ∷ rs) w = by (x == param_token) refl (begin_step rs w.1)
    where
      by : (v : Bool) → (x == param_token) ≡ v → AllBegin (step param_token rs) → AllBegin (cond v ((u, j) ∷ step param_token rs) (step param_token rs))
      by true e ih =
          let is : x ≡ param_token = grind (arith, nat_tests) in
          (w.0.1 is, ih)
      by false e ih = ih

  whole_suffix : (s : List ℕ) (rs : RowsOf K) → AllWhole rs → AllWhole (with_suffix s rs)
  whole_suffix s [] w = tt
  whole_suffix s ((t, j) ∷ rs) w =
      elim (same_text (segment t) s) as (λ v. AllWhole (cond v ((t, j) ∷ with_suffix s rs) (with_suffix s rs))) [
        | true ↦ (w.0, whole_suffix s rs w.1)
        | false ↦ whole_suffix s rs w.1
      ]

  has_suffix : (s : List ℕ) (rs : RowsOf K) (t : List ℕ) (k : K) → Has (with_suffix s rs) t k → Has rs t k
  has_suffix s [] t k h = elim h [ ]
  has_suffix s ((u, j) ∷ rs) t k h = by (same_text (segment u) s) h (has_suffix s rs t k)
    where
      by : (v : Bool) → Has (cond v ((u, j) ∷ with_suffix s rs) (with_suffix s rs)) t k → (Has (with_suffix s rs) t k → Has rs t k) → Has ((u, j) ∷ rs) t k
      by true (inl p) ih = inl p
      by true (inr q) ih = inr (ih q)
      by false q ih = inr (ih q)

  suffix_has : (s : List ℕ) (rs : RowsOf K) (t : List ℕ) (k : K) → segment t ≡ s → Has rs t k → Has (with_suffix s rs) t k
  suffix_has s [] t k e h = elim h [ ]
  suffix_has s ((u, j) ∷ rs) t k e h = by (same_text (segment u) s) refl h (suffix_has s rs t k e)
    where
      by : (v : Bool) → same_text (segment u) s ≡ v → Has ((u, j) ∷ rs) t k → (Has rs t k → Has (with_suffix s rs) t k) → Has (cond v ((u, j) ∷ with_suffix s rs) (with_suffix s rs)) t k
      by true q (inl p) ih = inl p
      by true q (inr h) ih = inr (ih h)
      by false q (inl p) ih =
          let us : segment u ≡ s = ap segment p.0 ∙ e in
          let yes : same_text s s ≡ false = rw us at q in
          let self = same_text-self s in
          cc
      by false q (inr h) ih = ih h

  any_of : (rs : RowsOf K) (x : ℕ) (t : List ℕ) (k : K) → Has rs (x ∷ t) k → any_on rs ≡ true
  any_of [] x t k h = elim h [ ]
  any_of (([], j) ∷ rs) x t k (inl p) = let q = p.0 in cc
  any_of (([], j) ∷ rs) x t k (inr h) = any_of rs x t k h
  any_of ((y ∷ u, j) ∷ rs) x t k h = refl

  -- ---- a parameter's step

  param_yes : (rs : RowsOf K) (p : List ℕ) → AllBegin rs → cuts (segment p) (slash ∷ []) ≡ true → any_on rs ≡ true
      → param_step rs p ≡ (length (segment p) - 1, with_suffix (slash ∷ []) rs)
  unfolding param_step
  param_yes rs p h c a =
      let l : longest_suffix (segment p) rs ≡ slash_if (true && any_on rs) = longest_if (segment p) false true rs c h in
      rw (l, a) refl

  param_stop : (rs : RowsOf K) (p : List ℕ) (d : Bool) → AllBegin rs → cuts (segment p) (slash ∷ []) ≡ d → (d && any_on rs) ≡ false → has_slash p ≡ true
      → param_step rs p ≡ (0, [])
  unfolding param_step
  param_stop rs p d h c a s =
      let l : longest_suffix (segment p) rs ≡ slash_if (d && any_on rs) = longest_if (segment p) false d rs c h in
      rw (l, a, s) refl

  param_end : (rs : RowsOf K) (p : List ℕ) (d : Bool) → AllBegin rs → cuts (segment p) (slash ∷ []) ≡ d → (d && any_on rs) ≡ false → has_slash p ≡ false
      → param_step rs p ≡ (length p, rs)
  unfolding param_step
  param_end rs p d h c a s =
      let l : longest_suffix (segment p) rs ≡ slash_if (d && any_on rs) = longest_if (segment p) false d rs c h in
      rw (l, a, s) refl

  -- where a parameter endpoints the walk: what it leaves is of the rows, and takes what is left
  param_sound : (rs : RowsOf K) (b : ℕ) (p t : List ℕ) (k : K) → AllBegin rs → Has (param_step rs (b ∷ p)).1 t k
      → Takes t (drop ((param_step rs (b ∷ p)).0 - 1) p)
      → Has rs t k × ((part : List ℕ) × (rest : List ℕ) × (b ∷ p ≡ part ++ rest) × (part ≢ []) × (has_slash part ≡ false) × Takes t rest)
  param_sound rs b p t k h m = by (slash_split (b ∷ p)) (any_on rs) refl m
    where
      Sound : Type 0
      Sound = Takes t (drop ((param_step rs (b ∷ p)).0 - 1) p)
          → Has rs t k × ((part : List ℕ) × (rest : List ℕ) × (b ∷ p ≡ part ++ rest) × (part ≢ []) × (has_slash part ≡ false) × Takes t rest)

      endpoint : param_step rs (b ∷ p) ≡ (0, []) → Has (param_step rs (b ∷ p)).1 t k → Sound
      endpoint e m = let bad : ⊥ = rw e at m in absurd bad

      at_slash : (v r : List ℕ) → b ∷ p ≡ v ++ slash ∷ r → has_slash v ≡ false → any_on rs ≡ true → Has (param_step rs (b ∷ p)).1 t k → Sound
      at_slash [] r e n a m =
          let seg : segment (b ∷ p) ≡ slash ∷ [] = ap segment e ∙ segment_slash [] r refl in
          let c : cuts (segment (b ∷ p)) (slash ∷ []) ≡ false = ap (λ q. cuts q (slash ∷ [])) seg in
          let s : has_slash (b ∷ p) ≡ true = ap has_slash e ∙ has_slash_at [] r in
          endpoint (param_stop rs (b ∷ p) false h c refl s) m
      at_slash (x ∷ v) r e n a m =
          let seg : segment (b ∷ p) ≡ (x ∷ v) ++ slash ∷ [] = ap segment e ∙ segment_slash (x ∷ v) r n in
          let c : cuts (segment (b ∷ p)) (slash ∷ []) ≡ true = ap (λ q. cuts q (slash ∷ [])) seg ∙ cuts_slash x v in
          let y = param_yes rs (b ∷ p) h c a in
          let pe : p ≡ v ++ slash ∷ r = cc in
          let len : length (segment (b ∷ p)) - 1 ≡ suc (length v) = rw seg (rw (length_end (x ∷ v)) (one_less (suc (length v)))) in
          let m2 : Has (with_suffix (slash ∷ []) rs) t k = rw y at m in
          let left : drop ((param_step rs (b ∷ p)).0 - 1) p ≡ slash ∷ r =
          rw y (rw len (rw (one_less (length v)) (rw pe (drop_front v (slash ∷ r))))) in
          λ tk. (has_suffix (slash ∷ []) rs t k m2, (x ∷ v, slash ∷ r, e, λ q. cc, n, rw left at tk))

      by : (has_slash (b ∷ p) ≡ false) ⊎ SlashIn (b ∷ p) → (a : Bool) → any_on rs ≡ a → Has (param_step rs (b ∷ p)).1 t k → Sound
      by (inl n) a q m =
          let c : cuts (segment (b ∷ p)) (slash ∷ []) ≡ false = rw (segment_none (b ∷ p) n) (cuts_none (b ∷ p) n) in
          let y = param_end rs (b ∷ p) false h c refl n in
          let m2 : Has rs t k = rw y at m in
          let left : drop ((param_step rs (b ∷ p)).0 - 1) p ≡ [] = rw y (rw (one_less (length p)) (drop-length p)) in
          λ tk. (m2, (b ∷ p, [], sym (append-nil (b ∷ p)), λ q. cc, n, rw left at tk))
      by (inr i) true q m = at_slash i.0 i.1 i.2 i.3 q m
      by (inr i) false q m =
          let s : has_slash (b ∷ p) ≡ true = ap has_slash i.2 ∙ has_slash_at i.0 i.1 in
          let d : (cuts (segment (b ∷ p)) (slash ∷ []) && any_on rs) ≡ false = rw q (and_false (cuts (segment (b ∷ p)) (slash ∷ []))) in
          endpoint (param_stop rs (b ∷ p) (cuts (segment (b ∷ p)) (slash ∷ [])) h refl d s) m
        where
          and_false : (d : Bool) → (d && false) ≡ false
          and_false true = refl
          and_false false = refl

  -- a row that takes what is left behind a part is among those where the parameter endpoints
  param_whole : (rs : RowsOf K) (b : ℕ) (p t : List ℕ) (k : K) → AllBegin rs → Has rs t k
      → (part rest : List ℕ) → b ∷ p ≡ part ++ rest → part ≢ [] → has_slash part ≡ false → Takes t rest
      → Has (param_step rs (b ∷ p)).1 t k × Takes t (drop ((param_step rs (b ∷ p)).0 - 1) p)
  param_whole rs b p [] k h m [] rest e ne n tk = absurd (ne refl)
  param_whole rs b p [] k h m (x ∷ v) rest e ne n tk =
      let whole : b ∷ p ≡ x ∷ v = e ∙ ap (λ r. (x ∷ v) ++ r) tk ∙ append-nil (x ∷ v) in
      let none : has_slash (b ∷ p) ≡ false = ap has_slash whole ∙ n in
      let c : cuts (segment (b ∷ p)) (slash ∷ []) ≡ false = rw (segment_none (b ∷ p) none) (cuts_none (b ∷ p) none) in
      let y = param_end rs (b ∷ p) false h c refl none in
      let left : drop ((param_step rs (b ∷ p)).0 - 1) p ≡ [] = rw y (rw (one_less (length p)) (drop-length p)) in
      (rw y m, left)
  param_whole rs b p (z ∷ t) k h m [] rest e ne n tk = absurd (ne refl)
  param_whole rs b p (z ∷ t) k h m (x ∷ v) rest e ne n (inl tk) =
      let zs : z ≡ slash = begin_of rs (z ∷ t) k h m in
      let bad : slash ≡ param_token = sym zs ∙ tk.0 in
      absurd (omega arith)
  param_whole rs b p (z ∷ t) k h m (x ∷ v) rest e ne n (inr tk) =
      let zs : z ≡ slash = begin_of rs (z ∷ t) k h m in
      let re : rest ≡ slash ∷ tk.1.0 = rw zs at tk.1.1 in
      let e2 : b ∷ p ≡ (x ∷ v) ++ slash ∷ tk.1.0 = e ∙ ap (λ r. (x ∷ v) ++ r) re in
      let seg : segment (b ∷ p) ≡ (x ∷ v) ++ slash ∷ [] = ap segment e2 ∙ segment_slash (x ∷ v) tk.1.0 n in
      let c : cuts (segment (b ∷ p)) (slash ∷ []) ≡ true = ap (λ q. cuts q (slash ∷ [])) seg ∙ cuts_slash x v in
      let y = param_yes rs (b ∷ p) h c (any_of rs z t k m) in
      let pe : p ≡ v ++ slash ∷ tk.1.0 = cc in
      let len : length (segment (b ∷ p)) - 1 ≡ suc (length v) = rw seg (rw (length_end (x ∷ v)) (one_less (suc (length v)))) in
      let left : drop ((param_step rs (b ∷ p)).0 - 1) p ≡ slash ∷ tk.1.0 =
      rw y (rw len (rw (one_less (length v)) (rw pe (drop_front v (slash ∷ tk.1.0))))) in
      let sg : segment (z ∷ t) ≡ slash ∷ [] = rw zs refl in
      (rw y (suffix_has (slash ∷ []) rs (z ∷ t) k sg m), rw left (inr (tk.0, (tk.1.0, rw zs refl, tk.1.2))))

  whole_param : (rs : RowsOf K) (p : List ℕ) → AllWhole rs → AllWhole (param_step rs p).1
  unfolding param_step
  whole_param rs p w = by (ltb 0 (length (longest_suffix (segment p) rs))) (has_slash p)
    where
      by : (u s : Bool) → AllWhole (cond {A = ℕ × RowsOf K} u (
        length (segment p) - length (longest_suffix (segment p) rs),
        with_suffix (longest_suffix (segment p) rs) rs,
      ) (cond {A = ℕ × RowsOf K} s (0, []) (length p, rs))).1
      by true s = whole_suffix (longest_suffix (segment p) rs) rs w
      by false true = tt
      by false false = w

  or_split : (a o : Option K) (k : K) → or_else a o ≡ Some k → (a ≡ Some k) ⊎ (o ≡ Some k)
  or_split None o k e = inr e
  or_split (Some j) o k e = inl e

  or_none : (a o : Option K) → or_else a o ≡ None → (a ≡ None) × (o ≡ None)
  or_none None o e = (refl, e)
  or_none (Some j) o e = cc

  -- ---- the walk

  -- what the walk finds is a row that takes the path
  pub finds : (n : ℕ) (rs : RowsOf K) (path : List ℕ) (k : K) → AllWhole rs → IsText path → seek n rs path ≡ Some k
      → (t : List ℕ) × Has rs t k × Takes t (drop n path)
  unfolding seek
  finds n rs [] k w x e = ([], own_has rs k e, drop_nil n)
  finds (suc n) rs (b ∷ p) k w x e = finds n rs p k w x.1 e
  finds zero rs (b ∷ p) k w x e =
      by (or_split _ _ k e) (λ q. finds 0 (step b rs) p k (whole_step b rs w) x.1 q)
      (λ q. finds ((param_step (step param_token rs) (b ∷ p)).0 - 1) (param_step (step param_token rs) (b ∷ p)).1 p k (whole_param (step param_token rs) (b ∷ p) (whole_step param_token rs w)) x.1 q)
    where
      Found : Type 0
      Found = (t : List ℕ) × Has rs t k × Takes t (b ∷ p)

      last : own (step catch_all_token rs) ≡ Some k → Found
      last q =
          let h = has_step catch_all_token rs [] k (own_has (step catch_all_token rs) k q) in
          let bad = (whole_of rs (catch_all_token ∷ []) k w h).0 in
          absurd (omega arith)

      param : (t : List ℕ) × Has (param_step (step param_token rs) (b ∷ p)).1 t k × Takes t (drop ((param_step (step param_token rs) (b ∷ p)).0 - 1) p) → Found
      param f =
          let s = param_sound (step param_token rs) b p f.0 k (begin_step rs w) f.1 f.2 in
          (param_token ∷ f.0, has_step param_token rs f.0 k s.0, inl (refl, s.1))

      by : (seek 0 (step b rs) p ≡ Some k) ⊎ (or_else (seek ((param_step (step param_token rs) (b ∷ p)).0 - 1) (param_step (step param_token rs) (b ∷ p)).1 p) (own (step catch_all_token rs)) ≡ Some k)
          → (seek 0 (step b rs) p ≡ Some k → (t : List ℕ) × Has (step b rs) t k × Takes t p)
          → (seek ((param_step (step param_token rs) (b ∷ p)).0 - 1) (param_step (step param_token rs) (b ∷ p)).1 p ≡ Some k
          → (t : List ℕ) × Has (param_step (step param_token rs) (b ∷ p)).1 t k × Takes t (drop ((param_step (step param_token rs) (b ∷ p)).0 - 1) p))
          → Found
      by (inl q) one two =
          let f = one q in
          (b ∷ f.0, has_step b rs f.0 k f.1, inr (x.0, (p, refl, f.2)))
      by (inr q) one two = elim (or_split _ _ k q) [
        | inl q2 ↦ param (two q2)
        | inr q2 ↦ last q2
      ]

  -- where the walk finds none, no row takes the path
  pub misses : (n : ℕ) (rs : RowsOf K) (path : List ℕ) → AllWhole rs → seek n rs path ≡ None
      → (t : List ℕ) (k : K) → Has rs t k → Takes t (drop n path) → ⊥
  unfolding seek
  misses n rs [] w e t k h tk =
      let tk2 : Takes t [] = rw (drop_nil n) at tk in
      has_own rs k e (rw (takes_nil t tk2) at h)
  misses (suc n) rs (b ∷ p) w e t k h tk = misses n rs p w e t k h tk
  misses zero rs (b ∷ p) w e t k h tk =
      let a = or_none _ _ e in
      let c = or_none _ _ a.1 in
      by t h tk (λ u q r. misses 0 (step b rs) p (whole_step b rs w) a.0 u k q r)
      (λ u q r. misses ((param_step (step param_token rs) (b ∷ p)).0 - 1) (param_step (step param_token rs) (b ∷ p)).1 p (whole_param (step param_token rs) (b ∷ p) (whole_step param_token rs w)) c.0 u k q r)
    where
      by : (t : List ℕ) → Has rs t k → Takes t (b ∷ p)
          → ((u : List ℕ) → Has (step b rs) u k → Takes u p → ⊥)
          → ((u : List ℕ) → Has (param_step (step param_token rs) (b ∷ p)).1 u k → Takes u (drop ((param_step (step param_token rs) (b ∷ p)).0 - 1) p) → ⊥)
          → ⊥
      by [] h tk one two = cc
      by (x ∷ u) h (inr tk) one two =
          let e2 = tk.1.1 in
          let xb : b ≡ x = cc in
          let pr : p ≡ tk.1.0 = cc in
          one u (step_has b rs u k (rw (← xb) at h)) (rw pr tk.1.2)
      by (x ∷ u) h (inl tk) one two =
          let m = step_has param_token rs u k (rw tk.0 at h) in
          let s = param_whole (step param_token rs) b p u k (begin_step rs w) m tk.1.0 tk.1.1 tk.1.2 tk.1.3 tk.1.4 tk.1.5 in
          two u s.0 s.1

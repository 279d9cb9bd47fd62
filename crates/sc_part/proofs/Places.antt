-- Lists of ids that grow, and entries for the ids in them.
use Rattle.std.proofs.Common.{◌≡◌, ℕ, zero, suc, ◌<◌, List, [], ◌∷◌, ◌++◌, ⊎_elim, length, get_or, refl, sym, ap, ◌∙◌, subst, arith, length-append}
use Rattle.std.specs.List.{All, Contains}
use Rattle.std.proofs.lemmas.List.Elements.{All-push, All-weaker, All-nil, Contains-append_left, Contains-push, Contains-push_cases}
use Rattle.sc_part.specs.declared.entry.Entry.{Entry}
use Rattle.sc_part.specs.Entry.{digest, id_at}
use Rattle.sc_part.specs.Index.{AreFor, Extends, IsRight, Knows}

pub extends_refl : (ids : List (List ℕ)) → Extends ids ids
extends_refl ids = record { longer = omega arith; same = λ p lt. refl }

pub extends_trans : (a b d : List (List ℕ)) → Extends a b → Extends b d → Extends a d
extends_trans a b d f g =
    let l = f.longer in
    let m = g.longer in
    record {
      longer = omega (arith, l, m);
      same = λ p lt. g.same p (omega (arith, l, lt)) ∙ f.same p lt;
    }

front : (xs ys : List (List ℕ)) (p : ℕ) → p < length xs → get_or (xs ++ ys) p [] ≡ get_or xs p []
front [] ys p lt = absurd (omega arith)
front (x ∷ xs) ys zero lt = refl
front (x ∷ xs) ys (suc p) lt = front xs ys p (omega arith)

behind : (xs : List (List ℕ)) (y : List ℕ) → get_or (xs ++ y ∷ []) (length xs) [] ≡ y
behind [] y = refl
behind (x ∷ xs) y = behind xs y

pub extends_append : (ids more : List (List ℕ)) → Extends ids (ids ++ more)
extends_append ids more = record { longer = omega (arith, length-append ids more); same = front ids more }

pub right_more : (old new : List (List ℕ)) (e : Entry) → Extends old new → IsRight old e → IsRight new e
right_more old new e x r =
    let l = x.longer in
    let w = r.within in
    record { within = omega (arith, l, w); digest = r.digest ∙ ap digest (sym (x.same e.place r.within)) }

-- what was known of a list is known of a longer one
pub for_more : (old new : List (List ℕ)) (entries : List Entry) (known : List (List ℕ)) → Extends old new → AreFor old entries known → AreFor new entries known
for_more old new entries known x f = record {
  right = All-weaker (IsRight old) (IsRight new) (λ e. right_more old new e x) entries f.right;
  whole = λ id there.
      let k = f.whole id there in
      record { entry = k.entry; there = k.there; is = x.same k.entry.place (within k.entry k.there f.right) ∙ k.is };
}
  where
    within : (e : Entry) → Contains entries e → All (IsRight old) entries → e.place < length old
    within e (k, lt, is) all = subst (λ t. t.place < length old) is (all k e lt).within

-- one more id at the end, with its entry
pub for_push : (ids known : List (List ℕ)) (entries : List Entry) (id : List ℕ) (e : Entry) → e ≡ record { digest = digest id; place = length ids } → AreFor ids entries known → AreFor (ids ++ id ∷ []) (entries ++ e ∷ []) (known ++ id ∷ [])
for_push ids known entries id e is f =
    let g = for_more ids (ids ++ id ∷ []) entries known (extends_append ids (id ∷ [])) f in
    let place : e.place ≡ length ids = ap (λ t. t.place) is in
    let here : id_at (ids ++ id ∷ []) e.place ≡ id = rw place (behind ids id) in
    record {
      right = All-push (IsRight (ids ++ id ∷ [])) entries e g.right (record {
        within = omega (arith, place, length-append ids (id ∷ []));
        digest = ap (λ t. t.digest) is ∙ ap digest (sym here);
      });
      whole = λ other there. ⊎_elim (λ old. kept other (g.whole other old)) (λ same. record { entry = e; there = Contains-push entries e; is = here ∙ same }) (Contains-push_cases known id other there);
    }
  where
    kept : (other : List ℕ) → Knows (ids ++ id ∷ []) entries other → Knows (ids ++ id ∷ []) (entries ++ e ∷ []) other
    kept other k = record { entry = k.entry; there = Contains-append_left entries (e ∷ []) k.entry k.there; is = k.is }

pub for_nothing : (ids : List (List ℕ)) → AreFor ids [] []
for_nothing ids = record { right = All-nil (IsRight ids); whole = λ id there. none there }
  where
    none : {id : List ℕ} {R : Type 0} → Contains [] id → R
    none (k, lt, is) = absurd (omega (arith, lt))

pub extends_by : (old new more : List (List ℕ)) → new ≡ old ++ more → Extends old new
extends_by old new more e = subst (Extends old) (sym e) (extends_append old more)

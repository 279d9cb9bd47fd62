-- The form of the pairs of a request, pair by pair.
use Rattle.std.proofs.Common.{◌≡◌, ◌<◌, ◌+◌, ℕ, Bool, true, false, cond, List, [], ◌∷◌, ◌++◌, take, length, map, filter, get_or, refl, sym, ap, ◌∙◌, append-nil}
use Rattle.std.proofs.lemmas.List.{map-append, take_more}
use Rattle.std.proofs.lemmas.List.Elements.{filter-append}
use Rattle.std.proofs.lemmas.List.Sums.{fold-append}
use Rattle.form_urlencoded.specs.Form.{append_pair, extend_pairs}
use Rattle.form_urlencoded.specs.Target.{Target}
use Rattle.sc_expr.specs.declared.select.Pair.{Pair}
use Rattle.sc_page.specs.Linked.{is_other_pair, next_pairs, other_pairs, token_name}

abbrev form_of : List Pair → List ℕ
form_of pairs = extend_pairs [] (other_pairs pairs)

abbrev both : Pair → List ℕ × List ℕ
both pair = (pair.name, pair.value)

others_next : (pairs : List Pair) (i : ℕ) (p : Pair) (b : Bool) → i < length pairs → p ≡ get_or pairs i p → is_other_pair p ≡ b → other_pairs (take (i + 1) pairs) ≡ other_pairs (take i pairs) ++ cond b (both p ∷ []) []
others_next pairs i p b lt here e =
    ap other_pairs (take_more pairs i p lt ∙ ap (λ x. take i pairs ++ x ∷ []) (sym here))
    ∙ ap (map both) (filter-append is_other_pair (take i pairs) (p ∷ []) ∙ ap (λ (c : Bool). filter is_other_pair (take i pairs) ++ cond c (p ∷ []) []) e)
    ∙ map-append both (filter is_other_pair (take i pairs)) (cond b (p ∷ []) [])
    ∙ ap (λ l. other_pairs (take i pairs) ++ l) (one b)
  where
    one : (c : Bool) → map both (cond c (p ∷ []) []) ≡ cond c (both p ∷ []) []
    one true = refl
    one false = refl

-- a pair of another name is added
pub form_more : (old new : Target) (pairs : List Pair) (i : ℕ) (p : Pair) (name value : List ℕ) → i < length pairs → p ≡ get_or pairs i p → is_other_pair p ≡ true → old ≡ record { prefix = []; form = extend_pairs [] (other_pairs (take i pairs)) }
    → name ≡ p.name → value ≡ p.value → new ≡ record old { form = append_pair old.form name value } → new ≡ record { prefix = []; form = extend_pairs [] (other_pairs (take (i + 1) pairs)) }
form_more old new pairs i p name value lt here e is n v more =
    more ∙ ap (λ (t : Target). record t { form = append_pair t.form name value }) is
    ∙ ap (λ f. record { prefix = []; form = f })
    (ap (λ x. append_pair (form_of (take i pairs)) x value) n ∙ ap (λ x. append_pair (form_of (take i pairs)) p.name x) v
    ∙ sym (ap (extend_pairs []) (others_next pairs i p true lt here e) ∙ fold-append (λ text (pair : List ℕ × List ℕ). append_pair text pair.0 pair.1) [] (other_pairs (take i pairs)) (both p ∷ [])))

-- a token is left out
pub form_same : (old : Target) (pairs : List Pair) (i : ℕ) (p : Pair) → i < length pairs → p ≡ get_or pairs i p → is_other_pair p ≡ false → old ≡ record { prefix = []; form = extend_pairs [] (other_pairs (take i pairs)) }
    → old ≡ record { prefix = []; form = extend_pairs [] (other_pairs (take (i + 1) pairs)) }
form_same old pairs i p lt here e is =
    is ∙ ap (λ l. record { prefix = []; form = extend_pairs [] l }) (sym (others_next pairs i p false lt here e ∙ append-nil (other_pairs (take i pairs))))

-- the token comes last
pub form_with_token : (pairs : List Pair) (token : List ℕ) → append_pair (extend_pairs [] (other_pairs pairs)) token_name token ≡ extend_pairs [] (next_pairs pairs token)
form_with_token pairs token = sym (fold-append (λ text (pair : List ℕ × List ℕ). append_pair text pair.0 pair.1) [] (other_pairs pairs) ((token_name, token) ∷ []))

-- Parameters that are a query are no other, and have no fault.
use Rattle.std.proofs.Common.{◌≡◌, ◌⊎◌, inl, inr, ℕ, List, Option, Some, None, Result, Ok, Err, refl, sym, ap, subst, ◌∙◌}
use Rattle.std.specs.Int.Signed.{clash_ℤ}
use Rattle.sc_json.specs.declared.tree.Json.{Json}
use Rattle.sc_json.proofs.Spelled.{spelled_once}
use Rattle.sc_geom.specs.declared.rects.Rects.{Rects}
use Rattle.sc_geom.specs.Rects.{Spans, sides_of}
use Rattle.sc_geom.specs.Answers.{GeomOf, IsFault}
use Rattle.sc_sort.specs.declared.key.Key.{Key}
use Rattle.sc_sort.specs.Keys.{Keys}
use Rattle.sc_token.specs.declared.fault.TokenFault.{TokenFault}
use Rattle.sc_token.specs.declared.fault.TokenFault.TheVariants as token_faults
use Rattle.sc_token.specs.Reading as tokens
use Rattle.sc_token.proofs.Answered as tokens_answered
use Rattle.sc_cqlread.specs.Filters.{IsCqlText}
use Rattle.sc_cqlread.specs.Faults.{IsFault as text_fault}
use Rattle.sc_cqljson.specs.Filters.{IsCqlTree, IsTreeFault}
use Rattle.sc_cqljson.proofs.Answers as in_trees
use Rattle.sc_expr.specs.declared.expr.Expr.{Expr}
use Rattle.sc_expr.specs.declared.fault.CqlFault.{CqlFault}
use Rattle.sc_expr.specs.declared.fault.CqlFault.TheVariants.{OutOfMemory}
use Rattle.sc_query.specs.declared.fault.QueryFault.{QueryFault}
use Rattle.sc_query.specs.Words.{bbox_name, datetime_name, intersects_name, filter_name, token_name}
use Rattle.sc_query.specs.Given.{Parameter, in_text, in_tree, Parameters, text_given, IsTree}
use Rattle.sc_query.specs.Reading.{Then, stops, goes_on, Gives, Optional}
use Rattle.sc_query.specs.Space.{BboxReads, DatetimeReads, IntersectsReads, depicted, not_depicted, no_tree, numbers_given}
use Rattle.sc_query.specs.Filters as filters
use Rattle.sc_query.specs.Filters.{FilterReadsIn, FilterReads, language_of}
use Rattle.sc_query.specs.Order.{TokenReads, place, no_place, no_text}
use Rattle.sc_query.specs.Query.{Is, FilterOf, SelectOf, QueryOf}
use Rattle.sc_chain.proofs.Geometries.{one_geometry, no_fault}

-- where something is read, that alone is
abbrev pub IsOneReading : {A : Type 0} → (Result A QueryFault → Type 0) → Type 0
IsOneReading {A} Reads = (x : A) (result : Result A QueryFault) → Reads (Ok x) → Reads result → result ≡ Ok x

pub one_ok : {A E : Type 0} (result : Result A E) (a b : A) → result ≡ Ok a → result ≡ Ok b → a ≡ b
one_ok result a b e f = cc

not_ok : {A : Type 0} (result : Result A QueryFault) (fault : QueryFault) (a : A) → result ≡ Err fault → result ≡ Ok a → ⊥
not_ok result fault a e f = cc

one_some : {A : Type 0} (option : Option A) (a b : A) → option ≡ Some a → option ≡ Some b → a ≡ b
one_some option a b e f = cc

not_some : {A : Type 0} (option : Option A) (a : A) → option ≡ None → option ≡ Some a → ⊥
not_some option a e f = cc

-- ---- in turn

pub then_one : {A B : Type 0} (First : Result A QueryFault → Type 0) (Rest : A → Result B QueryFault → Type 0) → IsOneReading First → ((x : A) → IsOneReading (Rest x)) → IsOneReading (Then First Rest)
then_one First Rest f g y _ (goes_on x _ p q) (stops fault r) = absurd (not_ok (Err fault) fault x refl (f x (Err fault) p r))
then_one First Rest f g y result (goes_on x _ p q) (goes_on z _ r s) = g x y result q (subst (λ t. Rest t result) (one_ok (Ok z) z x refl (f x (Ok z) p r)) s)

pub is_one : {A : Type 0} (answer : Result A QueryFault) → IsOneReading (Is answer)
is_one answer x result p q = q ∙ sym p

gives_one : {A : Type 0} (answer : A) → IsOneReading (Gives answer)
gives_one answer x result p q = q ∙ sym p

optional_one : {A : Type 0} (Reads : Parameter → Result A QueryFault → Type 0) → ((given : Parameter) → IsOneReading (Reads given)) → (given : Option Parameter) → IsOneReading (Optional Reads given)
optional_one Reads f None x result p q = q ∙ sym p
optional_one Reads f (Some given) None result p q = absurd p
optional_one Reads f (Some given) (Some x) (Ok None) p q = absurd q
optional_one Reads f (Some given) (Some x) (Ok (Some y)) p q = ap (λ t. Ok (Some t)) (one_ok (Ok y) y x refl (f given x (Ok y) p q))
optional_one Reads f (Some given) (Some x) (Err fault) p q = absurd (not_ok (Err fault) fault x refl (f given x (Err fault) p q))

-- ---- each part

one_span : (s : _) (a b : Rects) → Spans s a → Spans s b → a ≡ b
one_span s a b (inl p) (inl q) = p.same ∙ sym q.same
one_span s a b (inl p) (inr q) = clash_ℤ q.crosses p.across
one_span s a b (inr p) (inl q) = clash_ℤ p.crosses q.across
one_span s a b (inr p) (inr q) = p.same ∙ sym q.same

bbox_one : (given : Parameter) → IsOneReading (BboxReads given)
bbox_one given x (Ok y) p q =
    let n : p.numbers ≡ q.numbers = one_some (numbers_given given) p.numbers q.numbers p.are q.are in
    let e : p.spanned.0 ≡ q.spanned.0 = one_some (sides_of q.numbers) p.spanned.0 q.spanned.0 (subst (λ t. sides_of t ≡ Some p.spanned.0) n p.spanned.1) q.spanned.1 in
    ap (λ t. Ok t) (sym (one_span q.spanned.0 x y (subst (λ t. Spans t x) e p.spanned.2) q.spanned.2))
bbox_one given x (Err fault) p q = absurd (q.1 x p)

time_one : (given : Parameter) → IsOneReading (DatetimeReads given)
time_one given x result p q = q ∙ sym p

one_tree : (given : Parameter) (a b : Json) → IsTree given a → IsTree given b → a ≡ b
one_tree (in_text text) a b p q = spelled_once text a b p.text q.text
one_tree (in_tree tree) a b p q = p ∙ sym q

shape_one : (given : Parameter) → IsOneReading (IntersectsReads given)
shape_one given _ _ (depicted t g is a) (depicted u h js b) =
    ap (λ s. Ok s) (one_geometry t h g (subst (λ w. GeomOf w h) (one_tree given u t js is) b.0) a.0)
shape_one given _ _ (depicted t g is a) (not_depicted u fault js b ne) = absurd (no_fault t 1000 g fault a.0 a.1 (subst (λ w. IsFault w 1000 fault) (one_tree given u t js is) b) ne)
shape_one given _ _ (depicted t g is a) (no_tree none) = absurd (none t is)

-- what else a token is read as than a place
one_place : (result : Result Keys TokenFault) (keys : Keys) → (Ok keys ≡ Err token_faults.OutOfMemory) ⊎ ((result ≡ Err token_faults.OutOfMemory) ⊎ (Ok keys ≡ result)) → (result ≡ Err token_faults.OutOfMemory) ⊎ (result ≡ Ok keys)
one_place result keys (inl e) = cc
one_place result keys (inr (inl e)) = inl e
one_place result keys (inr (inr e)) = inr (sym e)

place_of : (result : Result Keys TokenFault) (a b : Keys) → result ≡ Ok b → (result ≡ Err token_faults.OutOfMemory) ⊎ (result ≡ Ok a) → b ≡ a
place_of result a b e (inl f) = cc
place_of result a b e (inr f) = one_ok result b a e f

no_place_of : (result : Result Keys TokenFault) (a : Keys) (fault : TokenFault) → result ≡ Err fault → (fault ≡ token_faults.OutOfMemory → ⊥) → (result ≡ Err token_faults.OutOfMemory) ⊎ (result ≡ Ok a) → ⊥
no_place_of result a fault e ne (inl f) = ne cc
no_place_of result a fault e ne (inr f) = cc

token_one : (sort : List Key) (given : Parameter) → IsOneReading (TokenReads sort given)
token_one sort given _ _ (place text a e i) (place other b f j) =
    let t : other ≡ text = one_some (text_given given) other text f e in
    ap (λ x. Ok x) (place_of (Ok b) a b refl (one_place (Ok b) a (tokens_answered.one_answer sort text (Ok a) (Ok b) i (subst (λ w. tokens.Answers sort w (Ok b)) t j))))
token_one sort given _ _ (place text a e i) (no_place other fault f j ne) =
    let t : other ≡ text = one_some (text_given given) other text f e in
    absurd (no_place_of (Err fault) a fault refl ne (one_place (Err fault) a (tokens_answered.one_answer sort text (Ok a) (Err fault) i (subst (λ w. tokens.Answers sort w (Err fault)) t j))))
token_one sort given _ _ (place text a e i) (no_text f) = absurd (not_some (text_given given) text f e)

-- ---- the whole, where a text is one filter at most, and then has no fault

module _ (one_text : (text : List ℕ) (a b : Expr) → IsCqlText text a → IsCqlText text b → a ≡ b) (no_text_fault : (text : List ℕ) (filter : Expr) (fault : CqlFault) → IsCqlText text filter → text_fault text fault → fault ≡ OutOfMemory) where
  filter_one : (given : Parameter) (language : _) → IsOneReading (FilterReadsIn given language)
  filter_one given _ _ _ (filters.of_text text a e i) (filters.of_text other b f j) =
      let t : other ≡ text = one_some (text_given given) other text f e in
      ap (λ x. Ok x) (one_text text b a (subst (λ w. IsCqlText w b) t j) i)
  filter_one given _ _ _ (filters.of_text text a e i) (filters.fault_of_text other fault f j ne) =
      let t : other ≡ text = one_some (text_given given) other text f e in
      absurd (ne (no_text_fault text a fault i (subst (λ w. text_fault w fault) t j)))
  filter_one given _ _ _ (filters.of_text text a e i) (filters.no_text f) = absurd (not_some (text_given given) text f e)
  filter_one given _ _ _ (filters.of_tree tree a e i) (filters.of_tree other b f j) =
      let t : other ≡ tree = one_tree given other tree f e in
      ap (λ x. Ok x) (in_trees.one_filter tree b a (subst (λ w. IsCqlTree w b) t j) i)
  filter_one given _ _ _ (filters.of_tree tree a e i) (filters.fault_of_tree other fault f j ne) =
      let t : other ≡ tree = one_tree given other tree f e in
      absurd (ne (in_trees.no_fault tree a fault i (subst (λ w. IsTreeFault fault w) t j)))
  filter_one given _ _ _ (filters.of_tree tree a e i) (filters.no_tree none) = absurd (none tree e)

  module _ (within : Option (List ℕ)) (given : Parameters) where
    filters_one : IsOneReading (FilterOf given)
    filters_one =
        then_one _ _ (is_one _) (λ language. then_one _ _ (is_one _) (λ _. optional_one (FilterReads language) (λ g. filter_one g (language_of language g)) (given filter_name)))

    select_one : IsOneReading (SelectOf within given)
    select_one =
        then_one _ _ (optional_one BboxReads bbox_one (given bbox_name)) (λ rects.
        then_one _ _ (optional_one DatetimeReads time_one (given datetime_name)) (λ time.
        then_one _ _ (optional_one IntersectsReads shape_one (given intersects_name)) (λ shape.
        then_one _ _ (is_one _) (λ _. then_one _ _ (is_one _) (λ ids. then_one _ _ (is_one _) (λ collections. then_one _ _ filters_one (λ filter. gives_one _)))))))

    pub query_one : IsOneReading (QueryOf within given)
    query_one =
        then_one _ _ (is_one _) (λ limit. then_one _ _ select_one (λ select. then_one _ _ (is_one _) (λ sort.
        then_one _ _ (optional_one (TokenReads sort) (token_one sort) (given token_name)) (λ after. gives_one _))))

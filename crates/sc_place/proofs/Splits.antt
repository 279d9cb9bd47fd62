-- An endpoint's pattern takes exactly the paths that have the endpoint's parts.
use Rattle.std.proofs.Common.{◌≡◌, ◌≢◌, ◌<◌, ◌⊎◌, inl, inr, ℕ, suc, get_or, List, [], ◌∷◌, ◌++◌, codes, Option, Some, None, Bool, true, false, cond, refl, sym, ap, subst, ◌∙◌, arith, ◌==◌, ltb, ◌&&◌, append-nil}
use Rattle.std.specs.Prelude.{⊤}
use Rattle.std.proofs.lemmas.Bool.Decides.{nat_tests}
use Rattle.std.specs.List.{list_all}
use Rattle.matchit.specs.Rows.{RowsOf, param_token}
use Rattle.matchit.specs.Seek.{first, has_slash, slash}
use Rattle.matchit.specs.Level.{IsText}
use Rattle.matchit.specs.Router.{RouteOf}
use Rattle.sc_place.specs.Takes.{Has, Takes, Whole, AllWhole}
use Rattle.sc_base.specs.Parts.{onto_first}
use Rattle.sc_place.specs.Segments.{segments}
use Rattle.sc_place.specs.Endpoints.{IsEndpoint, EndpointOf, Each, Serves, IsTable, pattern_of}
use Rattle.sc_place.specs.Resources.{conformance_name, queryables_name, search_name, collections_name, items_name}
use Rattle.sc_place.specs.declared.endpoint.Endpoint.{Endpoint}
use Rattle.sc_place.specs.declared.endpoint.Endpoint.TheVariants.{Landing, Conformance, Queryables, Collections, Collection, Items, Item, Search}
use Rattle.sc_place.proofs.Finds.{finds, misses, no_slash_tail}

-- ---- parts

pub split_part : (v r : List ℕ) → has_slash v ≡ false → segments (v ++ slash ∷ r) ≡ v ∷ segments r
split_part [] r h = refl
split_part (b ∷ v) r h =
    let n = no_slash_tail b v h in
    ap (λ t. cond t ([] ∷ segments (v ++ slash ∷ r)) (onto_first b (segments (v ++ slash ∷ r)))) n.0
    ∙ ap (onto_first b) (split_part v r n.1)

pub split_last : (v : List ℕ) → has_slash v ≡ false → segments v ≡ v ∷ []
split_last [] h = refl
split_last (b ∷ v) h =
    let n = no_slash_tail b v h in
    ap (λ t. cond t ([] ∷ segments v) (onto_first b (segments v))) n.0 ∙ ap (onto_first b) (split_last v n.1)

abbrev pub join : List (List ℕ) → List ℕ
join [] = []
join (p ∷ []) = p
join (p ∷ (q ∷ ps)) = p ++ slash ∷ join (q ∷ ps)

abbrev pub NoSlashes : List (List ℕ) → Type 0
NoSlashes [] = ⊤
NoSlashes (p ∷ ps) = (has_slash p ≡ false) × NoSlashes ps

abbrev pub IsSome : List (List ℕ) → Type 0
IsSome [] = ⊥
IsSome (p ∷ ps) = ⊤

split_some : (p : List ℕ) → IsSome (segments p)
split_some [] = tt
split_some (b ∷ p) =
    elim (b == 47) as (λ v. IsSome (cond v ([] ∷ segments p) (onto_first b (segments p)))) [
      | true ↦ tt
      | false ↦ by (segments p)
    ]
  where
    by : (ps : List (List ℕ)) → IsSome (onto_first b ps)
    by [] = tt
    by (p ∷ ps) = tt

pub join_split : (p : List ℕ) → join (segments p) ≡ p
join_split [] = refl
join_split (b ∷ p) = by (b == 47) refl (segments p) (split_some p) (join_split p)
  where
    by : (v : Bool) → (b == 47) ≡ v → (ps : List (List ℕ)) → IsSome ps → join ps ≡ p → join (cond v ([] ∷ ps) (onto_first b ps)) ≡ b ∷ p
    by v e [] s ih = absurd s
    by true e (q ∷ ps) s ih =
        let is : b ≡ 47 = grind (arith, nat_tests) in
        rw is (ap (λ z. 47 ∷ z) ih)
    by false e (q ∷ []) s ih = ap (λ z. b ∷ z) ih
    by false e (q ∷ (r ∷ ps)) s ih = ap (λ z. b ∷ z) ih

pub no_slashes : (p : List ℕ) → NoSlashes (segments p)
no_slashes [] = (refl, tt)
no_slashes (b ∷ p) = by (b == 47) refl (segments p) (no_slashes p)
  where
    by : (v : Bool) → (b == 47) ≡ v → (ps : List (List ℕ)) → NoSlashes ps → NoSlashes (cond v ([] ∷ ps) (onto_first b ps))
    by true e ps ih = (refl, ih)
    by false e [] ih = (rw e refl, tt)
    by false e (q ∷ ps) ih = (rw e ih.0, ih.1)

-- ---- patterns of bytes

pub text_all : (bs : List ℕ) → ((i : ℕ) → get_or bs i 0 < 256) → IsText bs
text_all [] h = tt
text_all (b ∷ bs) h = (h 0, text_all bs (λ i. h (suc i)))

text_of : (w : List ℕ) → list_all (λ x. ltb x 256) w ≡ true → IsText w
text_of [] h = tt
text_of (x ∷ w) h = by (ltb x 256) refl h (λ q. text_of w q)
  where
    by : (v : Bool) → ltb x 256 ≡ v → (v && list_all (λ x. ltb x 256) w) ≡ true → (list_all (λ x. ltb x 256) w ≡ true → IsText w) → (x < 256) × IsText w
    by true e h ih = (grind (arith, nat_tests), ih h)
    by false e h ih = cc

lit : (w t path : List ℕ) → IsText w → Takes (w ++ t) path → (rest : List ℕ) × (path ≡ w ++ rest) × Takes t rest
lit [] t path h tk = (path, refl, tk)
lit (x ∷ w) t path h (inl k) = let bad = k.0 in absurd (omega (arith, h.0))
lit (x ∷ w) t path h (inr k) =
    let r = lit w t k.1.0 h.1 k.1.2 in
    (r.0, k.1.1 ∙ ap (λ z. x ∷ z) r.1, r.2)

lit_takes : (w t rest : List ℕ) → IsText w → Takes t rest → Takes (w ++ t) (w ++ rest)
lit_takes [] t rest h tk = tk
lit_takes (x ∷ w) t rest h tk = inr (h.0, (w ++ rest, refl, lit_takes w t rest h.1 tk))

only : (w path : List ℕ) → IsText w → Takes w path → path ≡ w
only [] path h tk = tk
only (x ∷ w) path h (inl k) = let bad = k.0 in absurd (omega (arith, h.0))
only (x ∷ w) path h (inr k) = k.1.1 ∙ ap (λ z. x ∷ z) (only w k.1.0 h.1 k.1.2)

itself : (w : List ℕ) → IsText w → Takes w w
itself [] h = refl
itself (x ∷ w) h = inr (h.0, (w, refl, itself w h.1))

abbrev PartIn : List ℕ → List ℕ → Type 0
PartIn t rest = (part : List ℕ) × (r : List ℕ) × (rest ≡ part ++ r) × (part ≢ []) × (has_slash part ≡ false) × Takes t r

param : (t rest : List ℕ) → Takes (param_token ∷ t) rest → PartIn t rest
param t rest (inl k) = k.1
param t rest (inr k) = let bad = k.0 in absurd (omega arith)

-- ---- the endpoints

pub taken : (s : Endpoint) (path : List ℕ) → Takes (pattern_of s) path → IsEndpoint s (segments path)
taken Landing path tk = ap segments (only (codes "/") path (text_of (codes "/") refl) tk)
taken Conformance path tk = ap segments (only (codes "/conformance") path (text_of (codes "/conformance") refl) tk)
taken Queryables path tk = ap segments (only (codes "/queryables") path (text_of (codes "/queryables") refl) tk)
taken Search path tk = ap segments (only (codes "/search") path (text_of (codes "/search") refl) tk)
taken Collections path tk = ap segments (only (codes "/collections") path (text_of (codes "/collections") refl) tk)
taken Collection path tk =
    let a = lit (codes "/collections/") (param_token ∷ []) path (text_of (codes "/collections/") refl) tk in
    let p = param [] a.0 a.2 in
    let e : path ≡ codes "/collections/" ++ p.0 = a.1 ∙ ap (λ z. codes "/collections/" ++ z) (p.2 ∙ ap (λ z. p.0 ++ z) p.5 ∙ append-nil p.0) in
    (p.0, ap segments e ∙ ap (λ z. [] ∷ (collections_name ∷ z)) (split_last p.0 p.4), p.3)
taken Items path tk =
    let a = lit (codes "/collections/") (param_token ∷ codes "/items") path (text_of (codes "/collections/") refl) tk in
    let p = param (codes "/items") a.0 a.2 in
    let r = only (codes "/items") p.1 (text_of (codes "/items") refl) p.5 in
    let e : path ≡ codes "/collections/" ++ (p.0 ++ codes "/items") = a.1 ∙ ap (λ z. codes "/collections/" ++ z) (p.2 ∙ ap (λ z. p.0 ++ z) r) in
    (p.0, ap segments e ∙ ap (λ z. [] ∷ (collections_name ∷ z)) (split_part p.0 items_name p.4), p.3)
taken Item path tk =
    let a = lit (codes "/collections/") (param_token ∷ (codes "/items/" ++ param_token ∷ [])) path (text_of (codes "/collections/") refl) tk in
    let p = param (codes "/items/" ++ param_token ∷ []) a.0 a.2 in
    let b = lit (codes "/items/") (param_token ∷ []) p.1 (text_of (codes "/items/") refl) p.5 in
    let q = param [] b.0 b.2 in
    let last : b.0 ≡ q.0 = q.2 ∙ ap (λ z. q.0 ++ z) q.5 ∙ append-nil q.0 in
    let r : p.1 ≡ codes "/items/" ++ q.0 = b.1 ∙ ap (λ z. codes "/items/" ++ z) last in
    let e : path ≡ codes "/collections/" ++ (p.0 ++ (codes "/items/" ++ q.0)) = a.1 ∙ ap (λ z. codes "/collections/" ++ z) (p.2 ∙ ap (λ z. p.0 ++ z) r) in (
      p.0,
      q.0,
      ap segments e ∙ ap (λ z. [] ∷ (collections_name ∷ z)) (split_part p.0 (codes "items/" ++ q.0) p.4 ∙ ap (λ z. p.0 ∷ (items_name ∷ z)) (split_last q.0 q.4)),
      p.3,
      q.3,
    )

joined : (path : List ℕ) (parts : List (List ℕ)) → segments path ≡ parts → (path ≡ join parts) × NoSlashes parts
joined path parts e = (sym (join_split path) ∙ ap join e, subst (λ z. NoSlashes z) e (no_slashes path))

text_takes : (w path : List ℕ) → IsText w → path ≡ w → Takes w path
text_takes w path h e = rw e (itself w h)

pub takes_of : (s : Endpoint) (path : List ℕ) → IsEndpoint s (segments path) → Takes (pattern_of s) path
takes_of Landing path h = text_takes (codes "/") path (text_of (codes "/") refl) (joined path ([] ∷ ([] ∷ [])) h).0
takes_of Conformance path h = text_takes (codes "/conformance") path (text_of (codes "/conformance") refl) (joined path ([] ∷ (conformance_name ∷ [])) h).0
takes_of Queryables path h = text_takes (codes "/queryables") path (text_of (codes "/queryables") refl) (joined path ([] ∷ (queryables_name ∷ [])) h).0
takes_of Search path h = text_takes (codes "/search") path (text_of (codes "/search") refl) (joined path ([] ∷ (search_name ∷ [])) h).0
takes_of Collections path h = text_takes (codes "/collections") path (text_of (codes "/collections") refl) (joined path ([] ∷ (collections_name ∷ [])) h).0
takes_of Collection path h =
    let j = joined path ([] ∷ (collections_name ∷ (h.0 ∷ []))) h.1 in
    let tk : Takes (param_token ∷ []) h.0 = inl (refl, (h.0, [], sym (append-nil h.0), h.2, j.1.1.1.0, refl)) in
    subst (λ z. Takes (pattern_of Collection) z) (sym j.0) (lit_takes (codes "/collections/") (param_token ∷ []) h.0 (text_of (codes "/collections/") refl) tk)
takes_of Items path h =
    let j = joined path ([] ∷ (collections_name ∷ (h.0 ∷ (items_name ∷ [])))) h.1 in
    let tk : Takes (param_token ∷ codes "/items") (h.0 ++ codes "/items") = inl (refl, (h.0, codes "/items", refl, h.2, j.1.1.1.0, itself (codes "/items") (text_of (codes "/items") refl))) in
    subst (λ z. Takes (pattern_of Items) z) (sym j.0) (lit_takes (codes "/collections/") (param_token ∷ codes "/items") (h.0 ++ codes "/items") (text_of (codes "/collections/") refl) tk)
takes_of Item path h =
    let j = joined path ([] ∷ (collections_name ∷ (h.0 ∷ (items_name ∷ (h.1 ∷ []))))) h.2 in
    let last : Takes (param_token ∷ []) h.1 = inl (refl, (h.1, [], sym (append-nil h.1), h.4, j.1.1.1.1.1.0, refl)) in
    let tk : Takes (param_token ∷ (codes "/items/" ++ param_token ∷ [])) (h.0 ++ (codes "/items/" ++ h.1)) =
    inl (refl, (h.0, codes "/items/" ++ h.1, refl, h.3, j.1.1.1.0, lit_takes (codes "/items/") (param_token ∷ []) h.1 (text_of (codes "/items/") refl) last)) in
    subst (λ z. Takes (pattern_of Item) z) (sym j.0) (lit_takes (codes "/collections/") (param_token ∷ (codes "/items/" ++ param_token ∷ [])) (h.0 ++ (codes "/items/" ++ h.1)) (text_of (codes "/collections/") refl) tk)

-- ---- the table

whole_text : (w t : List ℕ) → IsText w → Whole t → Whole (w ++ t)
whole_text [] t h w = w
whole_text (x ∷ v) t h w =
    (omega (arith, h.0), λ e. absurd (omega (arith, h.0)), whole_text v t h.1 w)

whole_only : (w : List ℕ) → IsText w → Whole w
whole_only [] h = tt
whole_only (x ∷ v) h = (omega (arith, h.0), λ e. absurd (omega (arith, h.0)), whole_only v h.1)

pattern_whole : (s : Endpoint) → Whole (pattern_of s)
pattern_whole Landing = whole_only (codes "/") (text_of (codes "/") refl)
pattern_whole Conformance = whole_only (codes "/conformance") (text_of (codes "/conformance") refl)
pattern_whole Queryables = whole_only (codes "/queryables") (text_of (codes "/queryables") refl)
pattern_whole Search = whole_only (codes "/search") (text_of (codes "/search") refl)
pattern_whole Collections = whole_only (codes "/collections") (text_of (codes "/collections") refl)
pattern_whole Collection = whole_text (codes "/collections/") (param_token ∷ []) (text_of (codes "/collections/") refl) (omega arith, λ e. tt, tt)
pattern_whole Items = whole_text (codes "/collections/") (param_token ∷ codes "/items") (text_of (codes "/collections/") refl) (omega arith, λ e. refl, whole_only (codes "/items") (text_of (codes "/items") refl))
pattern_whole Item =
    whole_text (codes "/collections/") (param_token ∷ (codes "/items/" ++ param_token ∷ [])) (text_of (codes "/collections/") refl)
    (omega arith, λ e. refl, whole_text (codes "/items/") (param_token ∷ []) (text_of (codes "/items/") refl) (omega arith, λ e. tt, tt))

all_whole : (rows : RowsOf (RouteOf Endpoint)) → Each rows → AllWhole rows
all_whole [] h = tt
all_whole ((t, k) ∷ rows) h =
    (rw (h t k (inl (refl, refl))) (pattern_whole k.value), all_whole rows (λ u j m. h u j (inr m)))

-- what a table answers is the endpoint of the path's parts
pub endpoint_found : (rows : RowsOf (RouteOf Endpoint)) (path : List ℕ) (k : RouteOf Endpoint) → IsTable rows → IsText path → first rows path ≡ Some k → IsEndpoint k.value (segments path)
endpoint_found rows path k h x e =
    let f = finds 0 rows path k (all_whole rows h.each) x e in
    taken k.value path (rw (h.each f.0 k f.1) at f.2)

pub endpoint_missed : (rows : RowsOf (RouteOf Endpoint)) (path : List ℕ) → IsTable rows → first rows path ≡ None → EndpointOf None (segments path)
endpoint_missed rows path h e = λ s i.
    let r = h.all s in
    misses 0 rows path (all_whole rows h.each) e (pattern_of s) r.0 r.1 (takes_of s path i)

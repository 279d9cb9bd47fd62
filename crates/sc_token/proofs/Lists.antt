-- The JSON list of a key list, and its digits.
use Rattle.std.proofs.Common.{◌≡◌, ℕ, Err, List, [], ◌∷◌, ◌++◌, map, take, get_or, length, ◌+◌, ◌<◌, append_assoc, refl, sym, ap, subst, ◌∙◌}
use Rattle.std.specs.List.{flat_map}
use Rattle.std.proofs.lemmas.List.{append-nil, take_more}
use Rattle.std.proofs.lemmas.Grind.{flat_map-append}
use Rattle.sc_json.specs.declared.tree.Json.{Json}
use Rattle.sc_json.specs.declared.tree.Json.TheVariants as trees
use Rattle.sc_json.specs.declared.tree.Json.TheOpen as layer
use Rattle.sc_json.specs.declared.tree.Json.TheOpen.{Json-F}
use Rattle.sc_json.specs.declared.tree.Json.TheViews.{out-Json, out-roll-Json}
use Rattle.sc_json.specs.declared.tree.Member.{Member}
use Rattle.sc_json.specs.Compact.{compact, elements_text, quoted}
use Rattle.sc_json.specs.Spells.{Spells}
use Rattle.sc_json.specs.Faults.{Answers}
use Rattle.sc_json.specs.declared.fault.JsonFault.{JsonFault}
use Rattle.sc_json.specs.declared.fault.JsonFault.TheVariants.{Syntax, Duplicate, TooDeep, NumberTooWide, NotUtf8, OutOfMemory}
use Rattle.sc_json.proofs.Answered.{fault_excludes}
use Rattle.sc_json.proofs.Writing.{compact-list}
use Rattle.sc_json.proofs.Written.{written_spells}
use Rattle.sc_json.proofs.Spelled.{spelled_once}
use Rattle.sc_json.proofs.SpelledUtf8.{padded_utf8}
use Rattle.sc_sort.specs.declared.value.SortValue.{SortValue}
use Rattle.sc_sort.specs.declared.key.Key.{Key}
use Rattle.sc_sort.specs.Keys.{Keys}
use Rattle.sc_token.specs.Token.{tree_of, trees_of, list_text, token_of}
use Rattle.sc_token.specs.Fits.{FitsSort}
use Rattle.sc_token.specs.Faults.{IsNoList, fault_for}
use Rattle.sc_token.specs.Reading.{IsHexOf, IsOfList}
use Rattle.sc_token.proofs.Bytes.{digits_of_bytes, one_bytes, utf8_bytes}
use Rattle.sc_token.proofs.Fitting.{good_keys, one_keys}

-- a value and the comma behind it
abbrev pub with_comma : SortValue → List ℕ
with_comma v = compact (tree_of v) ++ 44 ∷ []

comma_first : (vs : List SortValue) (r : Json) (rs : List Json) → flat_map (λ w. 44 ∷ compact w) (map tree_of vs ++ r ∷ rs) ≡ 44 ∷ elements_text (map tree_of vs ++ r ∷ rs)
comma_first [] r rs = refl
comma_first (v ∷ vs) r rs = refl

joined : (vs : List SortValue) (r : Json) (rs : List Json) → elements_text (map tree_of vs ++ r ∷ rs) ≡ flat_map with_comma vs ++ elements_text (r ∷ rs)
joined [] r rs = refl
joined (v ∷ vs) r rs =
    ap (λ t. compact (tree_of v) ++ t) (comma_first vs r rs ∙ ap (λ t. 44 ∷ t) (joined vs r rs))
    ∙ sym (append_assoc (compact (tree_of v)) (44 ∷ []) (flat_map with_comma vs ++ elements_text (r ∷ rs)))
    ∙ sym (append_assoc (with_comma v) (flat_map with_comma vs) (elements_text (r ∷ rs)))

-- the text of the list, by what is written in turn
pub list_is : (keys : Keys) → list_text keys ≡ 91 ∷ ((flat_map with_comma keys.values ++ (quoted keys.collection ++ (44 ∷ quoted keys.id ++ []))) ++ 93 ∷ [])
unfolding list_text compact
list_is keys =
    compact-list (trees_of keys)
    ∙ ap (λ t. 91 ∷ (t ++ 93 ∷ [])) (joined keys.values (trees.Text keys.collection) (trees.Text keys.id ∷ []))

-- it spells the list
pub list_spells : (sort : List Key) (keys : Keys) → FitsSort sort keys → Spells (list_text keys) (trees.List (trees_of keys))
unfolding list_text
list_spells sort keys f = written_spells (trees.List (trees_of keys)) (good_keys sort keys f)

token_hex : (sort : List Key) (keys : Keys) → FitsSort sort keys → IsHexOf (token_of keys) (list_text keys)
unfolding token_of
token_hex sort keys f = digits_of_bytes (list_text keys) (utf8_bytes (list_text keys) (padded_utf8 (list_spells sort keys f).text))

-- a token is one of its list
pub token_list : (sort : List Key) (keys : Keys) → FitsSort sort keys → IsOfList (token_of keys) (trees_of keys)
token_list sort keys f = record { bytes = list_text keys; hex = token_hex sort keys f; spelled = list_spells sort keys f }

abbrev list_in : Json-F Json Member → List Json
list_in layer.Null = []
list_in (layer.Truth b) = []
list_in (layer.Number n) = []
list_in (layer.Text t) = []
list_in (layer.List vs) = vs
list_in (layer.Object ms) = []

abbrev list_at : Json → List Json
list_at tree = list_in (out-Json tree)

list_at_list : (elements : List Json) → list_at (trees.List elements) ≡ elements
list_at_list elements = ap list_at (sym (trees.rolls-List elements)) ∙ ap list_in (out-roll-Json (layer.List elements))

elements_in_list : (a b : List Json) → trees.List a ≡ trees.List b → a ≡ b
elements_in_list a b e = sym (list_at_list a) ∙ ap list_at e ∙ list_at_list b

-- a text is of one list
pub one_list : (text : List ℕ) (a b : List Json) → IsOfList text a → IsOfList text b → a ≡ b
one_list text a b p q =
    let e : p.bytes ≡ q.bytes = one_bytes text p.bytes q.bytes p.hex q.hex in
    elements_in_list a b (spelled_once q.bytes (trees.List a) (trees.List b) (subst (λ (x : List ℕ). Spells x (trees.List a)) e p.spelled).text q.spelled.text)

-- and of one key list that fits a sort
pub one_token : (sort : List Key) (a b : Keys) → FitsSort sort a → FitsSort sort b → token_of a ≡ token_of b → a ≡ b
one_token sort a b f g e =
    one_keys sort a b f g (one_list (token_of b) (trees_of a) (trees_of b) (subst (λ (x : List ℕ). IsOfList x (trees_of a)) e (token_list sort a f)) (token_list sort b g))

-- ---- what a text spells

-- what is no JSON text spells no list
pub fault_is_no_list : (bytes : List ℕ) (fault : JsonFault) → Answers bytes (Err fault) → IsNoList bytes (fault_for fault)
fault_is_no_list bytes (Syntax at) a = λ elements s. fault_excludes bytes (Syntax at) (trees.List elements) a s
fault_is_no_list bytes (Duplicate at) a = λ elements s. fault_excludes bytes (Duplicate at) (trees.List elements) a s
fault_is_no_list bytes (TooDeep at) a = λ elements s. fault_excludes bytes (TooDeep at) (trees.List elements) a s
fault_is_no_list bytes (NumberTooWide at) a = λ elements s. fault_excludes bytes (NumberTooWide at) (trees.List elements) a s
fault_is_no_list bytes (NotUtf8 at) a = λ elements s. fault_excludes bytes (NotUtf8 at) (trees.List elements) a s
fault_is_no_list bytes OutOfMemory a = tt

-- what spells another tree spells no list
pub other_spells_no_list : (bytes : List ℕ) (tree : Json) → Spells bytes tree → ((elements : List Json) → tree ≡ trees.List elements → ⊥) → (elements : List Json) → Spells bytes (trees.List elements) → ⊥
other_spells_no_list bytes tree s other elements l = other elements (spelled_once bytes tree (trees.List elements) s.text l.text)

-- ---- what is written in turn

pub written_more : (old now mid new : List ℕ) (vs : List SortValue) (i : ℕ) (v : SortValue) → i < length vs → v ≡ get_or vs i v → now ≡ old ++ flat_map with_comma (take i vs) → mid ≡ now ++ compact (tree_of v) → new ≡ mid ++ 44 ∷ []
    → new ≡ old ++ flat_map with_comma (take (i + 1) vs)
written_more old now mid new vs i v lt is e f g =
    g ∙ ap (λ t. t ++ 44 ∷ []) (f ∙ ap (λ t. t ++ compact (tree_of v)) e)
    ∙ append_assoc (old ++ flat_map with_comma (take i vs)) (compact (tree_of v)) (44 ∷ [])
    ∙ append_assoc old (flat_map with_comma (take i vs)) (with_comma v)
    ∙ ap (λ t. old ++ t) (ap (λ t. flat_map with_comma (take i vs) ++ t) (sym (append-nil (with_comma v)) ∙ ap (λ x. flat_map with_comma (x ∷ [])) is) ∙ sym (flat_map-append with_comma (take i vs) (get_or vs i v ∷ [])) ∙ ap (flat_map with_comma) (sym (take_more vs i v lt)))

regroup : (f c i : List ℕ) → (((((([] ++ 91 ∷ []) ++ f) ++ c) ++ 44 ∷ []) ++ i) ++ 93 ∷ []) ≡ 91 ∷ ((f ++ (c ++ (44 ∷ (i ++ [])))) ++ 93 ∷ [])
regroup f c i = simp (append_assoc, append-nil) refl

pub listed : (keys : Keys) (a b d e f g h : List ℕ) → a ≡ [] → b ≡ a ++ 91 ∷ [] → d ≡ b ++ flat_map with_comma keys.values → e ≡ d ++ quoted keys.collection → f ≡ e ++ 44 ∷ [] → g ≡ f ++ quoted keys.id → h ≡ g ++ 93 ∷ []
    → h ≡ list_text keys
listed keys a b d e f g h p q r s t u v =
    v ∙ ap (λ x. x ++ 93 ∷ []) (u ∙ ap (λ x. x ++ quoted keys.id) (t ∙ ap (λ x. x ++ 44 ∷ []) (s ∙ ap (λ x. x ++ quoted keys.collection) (r ∙ ap (λ x. x ++ flat_map with_comma keys.values) (q ∙ ap (λ x. x ++ 91 ∷ []) p)))))
    ∙ regroup (flat_map with_comma keys.values) (quoted keys.collection) (quoted keys.id) ∙ sym (list_is keys)

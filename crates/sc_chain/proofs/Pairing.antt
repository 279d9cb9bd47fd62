-- The pairs of a next page's address, name by name.
use Rattle.std.proofs.Common.{◌≡◌, ℕ, Ok, Bool, true, false, cond, not, find, nat_eq, Option, Some, None, option_and_then, List, [], ◌∷◌, refl, sym, ap, ◌∙◌}
use Rattle.std.specs.Cmp.Lexicographic.{pointwise, bytes_decides}
use Rattle.hex.specs.Hex.{encode_lower, encode_with}
use Rattle.sc_sort.specs.Keys.{Keys}
use Rattle.sc_token.specs.Token.{token_of, list_text}
use Rattle.sc_token.proofs.Lists.{list_is}
use Rattle.sc_expr.specs.declared.select.Pair.{Pair}
use Rattle.sc_page.specs.Linked as linked
use Rattle.sc_page.specs.Linked.{is_other_pair}
use Rattle.sc_query.specs.Words.{token_name}
use Rattle.sc_query.specs.Given.{in_text, of_pairs, unless_empty}
use Rattle.sc_query.specs.Query.{QueryOf}
use Rattle.sc_token.specs.Fits.{FitsSort}
use Rattle.sc_expr.specs.Query.{Asked}
use Rattle.sc_chain.specs.Chain.{behind}
use Rattle.sc_chain.specs.Next.{next_request}
use Rattle.sc_chain.proofs.Asking.{IsOther, HasOtherToken, reads}

-- both crates name the token alike
one_name : linked.token_name ≡ token_name
unfolding linked.token_name token_name
one_name = refl

token_starts : (key : Keys) → (b : ℕ) × (rest : List ℕ) × (token_of key ≡ b ∷ rest)
unfolding token_of encode_with
token_starts key = go (list_text key) (list_is key)
  where
    go : (text : List ℕ) {x : ℕ} {xs : List ℕ} → text ≡ x ∷ xs → (b : ℕ) × (rest : List ℕ) × (encode_lower text ≡ b ∷ rest)
    go [] e = cc
    go (x ∷ xs) e = (_, _, refl)

abbrev named : List ℕ → Pair → Bool
named name pair = pointwise nat_eq pair.name name

same_name : (pair : Pair) → is_other_pair pair ≡ false → pair.name ≡ token_name
same_name pair e = (bytes_decides pair.name linked.token_name).0 (not_false (named linked.token_name pair) e) ∙ one_name
  where
    not_false : (b : Bool) → not b ≡ false → b ≡ true
    not_false true e = refl
    not_false false e = cc

other_name : (pair : Pair) → is_other_pair pair ≡ true → named token_name pair ≡ false
other_name pair e = ap (λ n. named n pair) (sym one_name) ∙ not_true (named linked.token_name pair) e
  where
    not_true : (b : Bool) → not b ≡ true → b ≡ false
    not_true false e = refl
    not_true true e = cc

module _ (key : Keys) where
  abbrev last_pair : Pair
  last_pair = record { name = linked.token_name; value = token_of key }

  -- a pair of another name is found where it was
  find_other : (name : List ℕ) → IsOther name → (pairs : List Pair) → find (named name) (next_request pairs key) ≡ find (named name) pairs
  find_other name o [] = ap (λ b. cond b (Some last_pair) None) (ap (λ n. pointwise nat_eq n name) one_name ∙ o)
  find_other name o (x ∷ xs) = go (is_other_pair x) refl (find_other name o xs)
    where
      go : (b : Bool) → is_other_pair x ≡ b → find (named name) (next_request xs key) ≡ find (named name) xs → find (named name) (next_request (x ∷ xs) key) ≡ find (named name) (x ∷ xs)
      go true e more = rw e (ap (λ t. cond (named name x) (Some x) t) more)
      go false e more = rw (e, skipped) more
        where
          skipped : named name x ≡ false
          skipped = ap (λ n. pointwise nat_eq n name) (same_name x e) ∙ o

  find_token : (pairs : List Pair) → find (named token_name) (next_request pairs key) ≡ Some last_pair
  find_token [] = ap (λ b. cond b (Some last_pair) None) (ap (λ n. pointwise nat_eq n token_name) one_name ∙ (bytes_decides token_name token_name).1 refl)
  find_token (x ∷ xs) = go (is_other_pair x) refl (find_token xs)
    where
      go : (b : Bool) → is_other_pair x ≡ b → find (named token_name) (next_request xs key) ≡ Some last_pair → find (named token_name) (next_request (x ∷ xs) key) ≡ Some last_pair
      go true e more = rw (e, other_name x e) more
      go false e more = rw e more

pub pairs_token : (pairs : List Pair) (key : Keys) → HasOtherToken (of_pairs pairs) (of_pairs (next_request pairs key)) key
pairs_token pairs key = record {
  others = λ name o. ap (option_and_then (λ (pair : Pair). unless_empty pair.value)) (find_other key name o pairs);
  token = in_text (token_of key);
  there = ap (option_and_then (λ (pair : Pair). unless_empty pair.value)) (find_token key pairs) ∙ go (token_starts key);
  text = refl;
}
  where
    go : ((b : ℕ) × (rest : List ℕ) × (token_of key ≡ b ∷ rest)) → unless_empty (token_of key) ≡ Some (in_text (token_of key))
    go s = ap unless_empty s.2 ∙ sym (ap (λ t. Some (in_text t)) s.2)

pub pairs_read : (within : Option (List ℕ)) (pairs : List Pair) (asked : Asked) (place : Keys) → QueryOf within (of_pairs pairs) (Ok asked) → FitsSort asked.sort place → QueryOf within (of_pairs (next_request pairs place)) (Ok (behind asked place))
pairs_read within pairs asked place = reads within (of_pairs pairs) (of_pairs (next_request pairs place)) place (pairs_token pairs place) asked

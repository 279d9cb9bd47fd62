-- A text has one answer.
use Rattle.std.proofs.Common.{◌≡◌, ◌≢◌, ℕ, ◌+◌, List, length, Result, Ok, Err, refl, sym, ap, subst, ◌∙◌, ◌⊎◌, inl, inr}
use Rattle.sc_json.specs.declared.tree.Json.{Json}
use Rattle.sc_json.specs.declared.tree.Json.TheVariants as trees
use Rattle.sc_json.specs.Spells.{Spells}
use Rattle.sc_sort.specs.declared.key.Key.{Key}
use Rattle.sc_sort.specs.Keys.{Keys}
use Rattle.sc_token.specs.declared.fault.TokenFault.{TokenFault}
use Rattle.sc_token.specs.declared.fault.TokenFault.TheVariants.{NotHex, NotAList, WrongCount, WrongKind, OutOfMemory}
use Rattle.sc_token.specs.Token.{token_of, trees_of}
use Rattle.sc_token.specs.Fits.{FitsSort}
use Rattle.sc_token.specs.Reading.{IsOfList, IsTokenOf, IsOfNoList, HasOtherCount, Answers}
use Rattle.sc_token.proofs.Bytes.{one_bytes}
use Rattle.sc_token.proofs.Fitting.{count_of_trees}
use Rattle.sc_token.proofs.Lists.{token_list, one_list, one_token}

abbrev Answer : Type 0
Answer = Result Keys TokenFault

abbrev IsOne : Answer → Answer → Type 0
IsOne one other = (one ≡ Err OutOfMemory) ⊎ ((other ≡ Err OutOfMemory) ⊎ (one ≡ other))

module _ (sort : List Key) (text : List ℕ) where
  -- a token of a key list that fits is of its list
  list_of_token : (keys : Keys) → IsTokenOf sort keys text → IsOfList text (trees_of keys)
  list_of_token keys t = subst (λ (x : List ℕ). IsOfList x (trees_of keys)) (sym t.token) (token_list sort keys t.fits)

  not_no_list : (elements : List Json) → IsOfList text elements → IsOfNoList text → ⊥
  not_no_list elements l n =
      let e : l.bytes ≡ n.bytes = one_bytes text l.bytes n.bytes l.hex n.hex in
      n.none elements (subst (λ (x : List ℕ). Spells x (trees.List elements)) e l.spelled)

  not_other_count : (elements : List Json) (count : ℕ) → IsOfList text elements → length elements ≡ length sort + 2 → HasOtherCount sort text count → ⊥
  not_other_count elements count l n o =
      let e : elements ≡ o.elements = one_list text elements o.elements l o.list in
      o.other (o.count_is ∙ ap length (sym e) ∙ n)

  -- no key list that fits has this token, where there is such a fault
  no_token : (fault : TokenFault) → fault ≢ OutOfMemory → Answers sort text (Err fault) → (keys : Keys) → IsTokenOf sort keys text → ⊥
  no_token NotHex m a keys t = a (list_of_token keys t).hex.hex
  no_token NotAList m a keys t = not_no_list (trees_of keys) (list_of_token keys t) a
  no_token (WrongCount count) m a keys t = not_other_count (trees_of keys) count (list_of_token keys t) (count_of_trees sort keys t.fits) a
  no_token WrongKind m a keys t = a.none keys t
  no_token OutOfMemory m a keys t = absurd (m refl)

  same_count : (m n : ℕ) → HasOtherCount sort text m → HasOtherCount sort text n → m ≡ n
  same_count m n p q = p.count_is ∙ ap length (one_list text p.elements q.elements p.list q.list) ∙ sym q.count_is

  pub one_answer : (one other : Answer) → Answers sort text one → Answers sort text other → IsOne one other
  one_answer (Err OutOfMemory) other p q = inl refl
  one_answer one (Err OutOfMemory) p q = inr (inl refl)
  one_answer (Ok a) (Ok b) p q = inr (inr (ap Ok (one_token sort a b p.fits q.fits (sym p.token ∙ q.token))))
  one_answer (Ok a) (Err NotHex) p q = absurd (no_token NotHex (λ e. cc) q a p)
  one_answer (Ok a) (Err NotAList) p q = absurd (no_token NotAList (λ e. cc) q a p)
  one_answer (Ok a) (Err (WrongCount n)) p q = absurd (no_token (WrongCount n) (λ e. cc) q a p)
  one_answer (Ok a) (Err WrongKind) p q = absurd (no_token WrongKind (λ e. cc) q a p)
  one_answer (Err NotHex) (Ok b) p q = absurd (no_token NotHex (λ e. cc) p b q)
  one_answer (Err NotAList) (Ok b) p q = absurd (no_token NotAList (λ e. cc) p b q)
  one_answer (Err (WrongCount n)) (Ok b) p q = absurd (no_token (WrongCount n) (λ e. cc) p b q)
  one_answer (Err WrongKind) (Ok b) p q = absurd (no_token WrongKind (λ e. cc) p b q)
  one_answer (Err NotHex) (Err NotHex) p q = inr (inr refl)
  one_answer (Err NotHex) (Err NotAList) p q = absurd (p q.hex.hex)
  one_answer (Err NotHex) (Err (WrongCount n)) p q = absurd (p q.list.hex.hex)
  one_answer (Err NotHex) (Err WrongKind) p q = absurd (p q.list.hex.hex)
  one_answer (Err NotAList) (Err NotHex) p q = absurd (q p.hex.hex)
  one_answer (Err NotAList) (Err NotAList) p q = inr (inr refl)
  one_answer (Err NotAList) (Err (WrongCount n)) p q = absurd (not_no_list q.elements q.list p)
  one_answer (Err NotAList) (Err WrongKind) p q = absurd (not_no_list q.elements q.list p)
  one_answer (Err (WrongCount m)) (Err NotHex) p q = absurd (q p.list.hex.hex)
  one_answer (Err (WrongCount m)) (Err NotAList) p q = absurd (not_no_list p.elements p.list q)
  one_answer (Err (WrongCount m)) (Err (WrongCount n)) p q = inr (inr (ap (λ k. Err (WrongCount k)) (same_count m n p q)))
  one_answer (Err (WrongCount m)) (Err WrongKind) p q = absurd (not_other_count q.elements m q.list q.count_is p)
  one_answer (Err WrongKind) (Err NotHex) p q = absurd (q p.list.hex.hex)
  one_answer (Err WrongKind) (Err NotAList) p q = absurd (not_no_list p.elements p.list q)
  one_answer (Err WrongKind) (Err (WrongCount n)) p q = absurd (not_other_count p.elements n p.list p.count_is q)
  one_answer (Err WrongKind) (Err WrongKind) p q = inr (inr refl)

-- a token is read as its key list
pub read_back : (sort : List Key) (keys : Keys) (result : Answer) → FitsSort sort keys → Answers sort (token_of keys) result → (result ≡ Err OutOfMemory) ⊎ (result ≡ Ok keys)
read_back sort keys result f a = back (one_answer sort (token_of keys) result (Ok keys) a (record { fits = f; token = refl }))
  where
    back : IsOne result (Ok keys) → (result ≡ Err OutOfMemory) ⊎ (result ≡ Ok keys)
    back (inl e) = inl e
    back (inr (inl e)) = cc
    back (inr (inr e)) = inr e

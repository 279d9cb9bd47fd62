-- Names and texts in quotes, as they are written.
use Rattle.std.proofs.Common.{◌≡◌, ℕ, ◌+◌, ◌<◌, List, [], ◌∷◌, ◌++◌, length, take, drop, get_or, true, eqb, refl, sym, ap, ◌∙◌, append_assoc, add-one, drop-cons, arith}
use Rattle.std.proofs.lemmas.Bool.{and_parts, not-true, eq-eqb}
use Rattle.std.proofs.lemmas.List.{take-append-drop, take_all}
use Rattle.std.proofs.lemmas.Grind.{flat_map-append}
use Rattle.std.specs.List.{list_all, flat_map, slice_range}
use Rattle.sc_cqlwrite.specs.Tokens.{marked, is_other, quoted}

next : (rest : List ℕ) (n : ℕ) → n < length rest → drop n rest ≡ get_or rest n 0 ∷ drop (n + 1) rest
next rest n lt = rw (add-one, drop-cons rest n 0) refl

module _ (mark quote : ℕ) where
  abbrev all_marked : List ℕ → List ℕ
  all_marked = flat_map (marked mark quote)

  other_marked : (b : ℕ) → is_other quote b ≡ true → marked mark quote b ≡ b ∷ []
  other_marked b h = rw (not-true (eqb b quote) h) refl

  quote_marked : (b : ℕ) → b ≡ quote → marked mark quote b ≡ mark ∷ quote ∷ []
  quote_marked b e = rw (eq-eqb b quote e) refl

  all_others : (bs : List ℕ) → list_all (is_other quote) bs ≡ true → all_marked bs ≡ bs
  all_others [] h = refl
  all_others (b ∷ bs) h =
      let both = and_parts (is_other quote b) (list_all (is_other quote) bs) h in
      ap (λ (x : List ℕ). x ++ all_marked bs) (other_marked b both.0) ∙ ap (λ (x : List ℕ). b ∷ x) (all_others bs both.1)

  cut : (rest : List ℕ) (n : ℕ) → n < length rest → list_all (is_other quote) (take n rest) ≡ true → get_or rest n 0 ≡ quote → all_marked rest ≡ take n rest ++ ((mark ∷ quote ∷ []) ++ all_marked (drop (n + 1) rest))
  cut rest n lt all here =
      ap all_marked (sym (take-append-drop n rest)) ∙ flat_map-append (marked mark quote) (take n rest) (drop n rest)
      ∙ ap (λ (x : List ℕ). x ++ all_marked (drop n rest)) (all_others (take n rest) all)
      ∙ ap (λ (x : List ℕ). take n rest ++ all_marked x) (next rest n lt)
      ∙ ap (λ (x : List ℕ). take n rest ++ (x ++ all_marked (drop (n + 1) rest))) (quote_marked (get_or rest n 0) here)

  pub text_goes_on : (out mid new whole rest : List ℕ) (n : ℕ) → mid ≡ out ++ take n rest → new ≡ mid ++ mark ∷ quote ∷ [] → n < length rest → list_all (is_other quote) (take n rest) ≡ true → get_or rest n 0 ≡ quote
      → out ++ all_marked rest ≡ whole → new ++ all_marked (drop (n + 1) rest) ≡ whole
  text_goes_on out mid new whole rest n m e lt all here h =
      let tail = all_marked (drop (n + 1) rest) in let b : List ℕ = mark ∷ quote ∷ [] in
      ap (λ (x : List ℕ). x ++ tail) (e ∙ ap (λ (x : List ℕ). x ++ b) m)
      ∙ append_assoc (out ++ take n rest) b tail ∙ append_assoc out (take n rest) (b ++ tail)
      ∙ ap (λ (x : List ℕ). out ++ x) (sym (cut rest n lt all here)) ∙ h

  pub text_ends : (old start out mid new text rest : List ℕ) (n : ℕ) → start ≡ old ++ quote ∷ [] → mid ≡ out ++ take n rest → n ≡ length rest → list_all (is_other quote) (take n rest) ≡ true
      → out ++ all_marked rest ≡ start ++ all_marked text → new ≡ mid ++ quote ∷ [] → new ≡ old ++ quoted mark quote text
  text_ends old start out mid new text rest n s m whole all h e =
      let same : take n rest ≡ rest = take_all n rest (omega arith) in
      let last : mid ≡ start ++ all_marked text = m ∙ ap (λ (x : List ℕ). out ++ x) (sym (all_others (take n rest) all) ∙ ap all_marked same) ∙ h in
      e ∙ ap (λ (x : List ℕ). x ++ quote ∷ []) (last ∙ ap (λ (x : List ℕ). x ++ all_marked text) s ∙ append_assoc old (quote ∷ []) (all_marked text))
      ∙ append_assoc old (quote ∷ all_marked text) (quote ∷ [])

pub front_range : (xs : List ℕ) (n : ℕ) → slice_range xs 0 n ≡ take n xs
front_range xs n = grind arith

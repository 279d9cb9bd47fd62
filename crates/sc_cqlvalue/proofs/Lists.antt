-- The last elements of a list, when it is seen the last first.
use Rattle.std.proofs.Common.{◌≡◌, ℕ, ◌-◌, ◌≤◌, List, ◌++◌, length, take, drop, reverse, sym, ap, subst, ◌∙◌, arith}
use Rattle.std.proofs.lemmas.List.{take-append-drop, reverse-append, reverse-reverse, length-reverse, length-drop}
use Rattle.std.proofs.Math.Seq.{take-append_seam, drop-append_seam}

module _ {A : Type 0} where
  front_seam : (a b : List A) (n : ℕ) → length a ≡ n → take n (a ++ b) ≡ a
  front_seam a b n e = subst (λ (m : ℕ). take m (a ++ b) ≡ a) e (take-append_seam a b)

  back_seam : (a b : List A) (n : ℕ) → length a ≡ n → drop n (a ++ b) ≡ b
  back_seam a b n e = subst (λ (m : ℕ). drop m (a ++ b) ≡ b) e (drop-append_seam a b)

  turned : (xs : List A) (n : ℕ) → reverse xs ≡ reverse (drop n xs) ++ reverse (take n xs)
  turned xs n = ap reverse (sym (take-append-drop n xs)) ∙ reverse-append (take n xs) (drop n xs)

  counted : (xs ys : List A) (n count : ℕ) → reverse xs ≡ ys → n ≡ length ys → count ≤ length ys → length (reverse (drop (n - count) xs)) ≡ count
  counted xs ys n count e is le =
      omega (arith, ap length e, length-reverse xs, length-reverse (drop (n - count) xs), length-drop (n - count) xs)

  pub last_taken : (xs ys : List A) (n count : ℕ) → reverse xs ≡ ys → n ≡ length ys → count ≤ length ys → drop (n - count) xs ≡ reverse (take count ys)
  last_taken xs ys n count e is le =
      let back = reverse (drop (n - count) xs) in
      let front = reverse (take (n - count) xs) in
      let taken : take count ys ≡ back = ap (take count) (sym e ∙ turned xs (n - count)) ∙ front_seam back front count (counted xs ys n count e is le) in
      sym (ap reverse taken ∙ reverse-reverse (drop (n - count) xs))

  pub last_left : (xs ys : List A) (n count : ℕ) → reverse xs ≡ ys → n ≡ length ys → count ≤ length ys → reverse (take (n - count) xs) ≡ drop count ys
  last_left xs ys n count e is le =
      let back = reverse (drop (n - count) xs) in
      let front = reverse (take (n - count) xs) in
      sym (ap (drop count) (sym e ∙ turned xs (n - count)) ∙ back_seam back front count (counted xs ys n count e is le))

-- What ends with a fault's token is a front.
use Rattle.std.proofs.Common.{◌≡◌, inl, inr, ℕ, ◌+◌, ◌<◌, ◌≤◌, List, [], ◌∷◌, ◌++◌, length, take, refl, sym, ap, subst, ◌∙◌, arith, append_assoc, length-append}
use Rattle.std.proofs.lemmas.List.{append-nil}
use Rattle.sc_json.specs.Grammar as grammar
use Rattle.sc_json.specs.Grammar.{AreBlanks, Literal, pad}
use Rattle.sc_json.specs.Fronts.{Front, nothing, in_number, in_list, in_object, PaddedFront, before, behind, no_name, named, at_value, IsLongestFront}
use Rattle.sc_json.specs.Faults.{Awaits, outermost, element, member_value, OpensTooDeep, IsTooWide, IsDuplicate}

pub blanks_append : (l r : List ℕ) → AreBlanks l → AreBlanks r → AreBlanks (l ++ r)
blanks_append [] r wl wr = wr
blanks_append (b ∷ l) r wl wr = (wl.0, blanks_append l r wl.1 wr)

pub pad_front : (w : List ℕ) → AreBlanks w → {f : List ℕ} → PaddedFront f → PaddedFront (w ++ f)
pad_front w blank (before l f wl d) = subst PaddedFront (append_assoc w l f) (before (w ++ l) f (blanks_append w l blank wl) d)
pad_front w blank (behind _ v (pad l m r _ wl d wr)) = subst PaddedFront (simp append_assoc) (behind (w ++ l ++ m ++ r) v (pad (w ++ l) m r v (blanks_append w l blank wl) d wr))

-- what may follow where a value may begin
pub awaits_front : {o : List ℕ} {depth : ℕ} → Awaits o depth → (f : List ℕ) → PaddedFront f → PaddedFront (o ++ f)
awaits_front (outermost w blank) f p = pad_front w blank p
awaits_front (element o a w depth ys aw b blank) f p = subst PaddedFront (simp append_assoc) (awaits_front aw (91 ∷ (a ++ (w ++ f))) (before [] _ tt (in_list a (w ++ f) ys b (pad_front w blank p))))
awaits_front (member_value o a l q r w name depth ys aw b wl quoted wr blank) f p =
    subst PaddedFront (simp append_assoc) (awaits_front aw (123 ∷ (a ++ (l ++ q ++ r ++ 58 ∷ (w ++ f)))) (before [] _ tt (in_object a (l ++ q ++ r ++ 58 ∷ (w ++ f)) ys b (at_value l q r (w ++ f) name wl quoted wr (pad_front w blank p)))))

-- a front that goes beyond a place
pub record Beyond (bytes : List ℕ) (place : ℕ) : Type 0 where
  pub front : List ℕ
  pub rest : List ℕ
  pub is : bytes ≡ front ++ rest
  pub is_front : PaddedFront front
  pub longer : place < length front

pub deep_beyond : (bytes : List ℕ) (place : ℕ) → OpensTooDeep bytes place → Beyond bytes place
deep_beyond bytes place h =
    let l = length-append h.before (h.bracket ∷ []) in
    record {
      front = h.before ++ h.bracket ∷ [];
      rest = h.rest;
      is = h.is ∙ sym (append_assoc h.before (h.bracket ∷ []) h.rest);
      is_front = awaits_front h.awaits (h.bracket ∷ []) (before [] _ tt (elim h.opens [
        | inl e ↦ subst (λ (b : ℕ). Front (b ∷ [])) (sym e) (in_list [] [] [] grammar.none (before [] [] tt nothing))
        | inr e ↦ subst (λ (b : ℕ). Front (b ∷ [])) (sym e) (in_object [] [] [] grammar.no_name (no_name [] tt))
      ]));
      longer = let e = h.place in omega (arith, l, e);
    }

-- a number's first byte
pub record IsHead (ds : List ℕ) : Type 0 where
  pub byte : ℕ
  pub more : List ℕ
  pub is : ds ≡ byte ∷ more
  pub low : 45 ≤ byte
  pub high : byte ≤ 57

pub literal_head : {ds : List ℕ} → Literal ds → IsHead ds
literal_head (grammar.literal _ _ f p grammar.positive grammar.zero_digit fr pw) = record { byte = 48; more = f ++ p; is = refl; low = omega arith; high = omega arith }
literal_head (grammar.literal _ _ f p grammar.positive (grammar.digits d ds lo hi all) fr pw) = record { byte = d; more = ds ++ f ++ p; is = refl; low = omega arith; high = hi }
literal_head (grammar.literal _ w f p grammar.negative wh fr pw) = record { byte = 45; more = w ++ f ++ p; is = refl; low = omega arith; high = omega arith }

pub wide_beyond : (bytes : List ℕ) (place : ℕ) → IsTooWide bytes place → Beyond bytes place
wide_beyond bytes place h =
    let l = length-append h.before h.number in
    let head = literal_head h.literal in
    let long : length h.number ≡ length (head.byte ∷ head.more) = ap length head.is in
    record {
      front = h.before ++ h.number;
      rest = h.rest;
      is = h.is;
      is_front = awaits_front h.awaits h.number (before [] _ tt (in_number h.number [] (subst Literal (sym (append-nil h.number)) h.literal)));
      longer = let e = h.place in omega (arith, l, e, long);
    }

pub double_beyond : (bytes : List ℕ) (place : ℕ) → IsDuplicate bytes place → Beyond bytes place
double_beyond bytes place h =
    let inner : List ℕ = h.blank ++ h.quoted ++ [] in
    record {
      front = h.before ++ 123 ∷ (h.members ++ inner);
      rest = h.rest;
      is = h.is ∙ ap (λ (q : List ℕ). h.before ++ 123 ∷ (h.members ++ h.blank ++ q ++ h.rest)) (sym (append-nil h.quoted)) ∙ simp append_assoc;
      is_front = awaits_front h.awaits (123 ∷ (h.members ++ inner)) (before [] _ tt (in_object h.members inner h.earlier h.named (named h.blank h.quoted [] h.name h.are_blank h.spells tt)));
      longer = longer h.before h.members h.blank h.quoted h.spells.raw h.spells.is place h.place;
    }
  where
    longer : (o members blank quoted raw : List ℕ) → quoted ≡ 34 ∷ (raw ++ 34 ∷ []) → (place : ℕ) → place ≡ length (o ++ 123 ∷ (members ++ blank)) → place < length (o ++ 123 ∷ (members ++ (blank ++ quoted ++ [])))
    longer o members blank quoted raw e place p =
        let a = length-append o (123 ∷ (members ++ blank)) in
        let b = length-append members blank in
        let c = length-append o (123 ∷ (members ++ (blank ++ quoted ++ []))) in
        let d = length-append members (blank ++ quoted ++ []) in
        let f = length-append (blank ++ quoted) [] in
        let g = length-append blank quoted in
        let i : length quoted ≡ length (34 ∷ (raw ++ 34 ∷ [])) = ap length e in
        omega (arith, a, b, c, d, f, g, i, p)

take_front : (f rest : List ℕ) → take (length f) (f ++ rest) ≡ f
take_front [] rest = refl
take_front (b ∷ f) rest = ap (λ (x : List ℕ). b ∷ x) (take_front f rest)

-- so it lies before the longest front's end
pub below_longest : (bytes : List ℕ) (place n : ℕ) → Beyond bytes place → IsLongestFront bytes n → place < n
below_longest bytes place n b h =
    let whole : take (length b.front) bytes ≡ b.front = ap (λ (x : List ℕ). take (length b.front) x) b.is ∙ take_front b.front b.rest in
    let l : length bytes ≡ length b.front + length b.rest = ap length b.is ∙ length-append b.front b.rest in
    let le = h.longest (length b.front) (omega (arith, l)) (subst PaddedFront (sym whole) b.is_front) in
    let lt = b.longer in
    omega (arith, le, lt)

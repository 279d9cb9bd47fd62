-- What the machine takes, the grammar has.
use Rattle.std.proofs.Common.{◌≡◌, ◌⊎◌, inl, inr, ℕ, ◌≤◌, List, [], ◌∷◌, ◌++◌, length, Bool, true, false, cond, eqb, leb, ◌&&◌, Option, Some, None, refl, sym, ap, subst, ◌∙◌, append_assoc, arith, length-append}
use Rattle.std.specs.Option.{option_map_or}
use Rattle.std.specs.Str.{is_utf8}
use Rattle.std.proofs.lemmas.Bool.{eqb-true}
use Rattle.std.proofs.lemmas.Bool.Decides.{nat_tests}
use Rattle.std.proofs.lemmas.List.{append-nil}
use Rattle.std.proofs.lemmas.Str.{IsUtf8-from_is_utf8}
use Rattle.sc_json.specs.declared.tree.Json.{Json}
use Rattle.sc_json.specs.declared.tree.Json.TheVariants as trees
use Rattle.sc_json.specs.declared.tree.Member.{Member}
use Rattle.sc_json.specs.declared.state.State.{State}
use Rattle.sc_json.specs.declared.state.Part.{Part}
use Rattle.sc_json.specs.declared.state.Part.TheVariants as parts
use Rattle.sc_json.specs.declared.state.Piece as pieces
use Rattle.sc_json.specs.declared.state.Piece.TheVariants.{Plain, Slash, Unit as Units, Unit1, Unit2, Unit3, Pair, PairSlash, Low, Low1, Low2, Low3}
use Rattle.sc_json.specs.declared.state.Letters.{Letters}
use Rattle.sc_json.specs.declared.state.Letters.TheVariants.{T, Tr, Tru, F, Fa, Fal, Fals, N, Nu, Nul}
use Rattle.sc_json.specs.declared.state.Frame.{Frame}
use Rattle.sc_json.specs.declared.state.Frame.TheVariants as frames
use Rattle.sc_json.specs.declared.state.Mode.{Mode}
use Rattle.sc_json.specs.declared.state.Mode.TheVariants.{Value, First, FirstName, Name, Colon, Word, Number, Quoted, After}
use Rattle.sc_json.specs.Characters.{is_blank_byte}
use Rattle.sc_json.specs.Numbers.{next_part, is_whole}
use Rattle.sc_json.specs.Pieces.{piece_of}
use Rattle.sc_json.specs.Machine.{Move, at, goes, refused, scalar_of, begin_of, close_list_of, close_object_of, first_of, name_of, first_name_of, colon_of, element_of, member_of, inner_of, after_of, wanted_of, with_letter, word_of, ended_value, ended_move, number_move, named_of, unquote_of, with_added, grown_of, is_plain, quoted_move, step_in, step_of, end_value_in, end_value}
use Rattle.sc_json.specs.Grammar as grammar
use Rattle.sc_json.specs.Grammar.{AreBlanks, Padded, pad, Begun, Named, Field, field, null_text, true_text, false_text}
use Rattle.sc_json.proofs.Steps.{Leads, stays, steps}
use Rattle.sc_json.proofs.Complete.{number_tree}
use Rattle.sc_json.proofs.Numerals.{literal_json}
use Rattle.sc_json.proofs.SoundNumbers.{chosen, some_is, InPart, part_literal, part_keeps, minus_part, zero_part, whole_part}
use Rattle.sc_json.proofs.SoundTexts.{Writes, writes_on, writes_nothing, writes_bits}
use Rattle.sc_json.proofs.SoundUtf8.{bits_pieces}
use Rattle.sc_json.proofs.SoundStates.{Inside, AtValue, Opened, AtFirst, AtFirstName, MayName, AtName, AtColon, letters_of, AtWord, AtNumber, AtQuoted, AtAfter, Reads, ReadsTo}

chosen_next : (b : Bool) (x y : Move) (t : Option State) → (cond b x y).next ≡ t → ((b ≡ true) × (x.next ≡ t)) ⊎ ((b ≡ false) × (y.next ≡ t))
chosen_next true x y t e = inl (refl, e)
chosen_next false x y t e = inr (refl, e)

pub record Mapped {A B : Type 0} (f : A → Option B) (o : Option A) (t : B) : Type 0 where
  pub x : A
  pub is : o ≡ Some x
  pub then_is : f x ≡ Some t

pub mapped : {A B : Type 0} (f : A → Option B) (o : Option A) (t : B) → option_map_or f o None ≡ Some t → Mapped f o t
mapped f None t e = absurd cc
mapped f (Some x) t e = record { x = x; is = refl; then_is = e }

to : (bs : List ℕ) (s t : State) → ReadsTo bs s → Some s ≡ Some t → ReadsTo bs t
to bs s t r e = subst (λ (u : State). ReadsTo bs u) (some_is s t e) r

blanks_push : (l : List ℕ) (b : ℕ) → AreBlanks l → is_blank_byte b ≡ true → AreBlanks (l ++ b ∷ [])
blanks_push [] b w e = (e, tt)
blanks_push (x ∷ l) b w e = (w.0, blanks_push l b w.1 e)

padded_here : (l m : List ℕ) (v : Json) → AreBlanks l → grammar.Value m v → Padded (l ++ m) v
padded_here l m v blank d = subst (λ (x : List ℕ). Padded x v) (append-nil (l ++ m)) (pad l m [] v blank d tt)

padded_push : (c : List ℕ) (v : Json) (b : ℕ) → Padded c v → is_blank_byte b ≡ true → Padded (c ++ b ∷ []) v
padded_push c v b (pad l m r _ wl d wr) e = subst (λ (x : List ℕ). Padded x v) (sym (append_assoc (l ++ m) r (b ∷ []))) (pad l m (r ++ b ∷ []) v wl d (blanks_push r b wr e))

-- ---- a value begins

value_grown : (bs o l : List ℕ) (b c : ℕ) → bs ≡ o ++ l → eqb b c ≡ true → bs ++ b ∷ [] ≡ o ++ (l ++ (c ∷ []))
value_grown bs o l b c is e = ap (λ (x : List ℕ). x ++ b ∷ []) is ∙ append_assoc o l (b ∷ []) ∙ ap (λ (x : ℕ). o ++ (l ++ x ∷ [])) (eqb-true b c e)

scalar_keeps : (bs : List ℕ) (k : List Frame) (n b : ℕ) (t : State) → AtValue k bs → n ≡ length bs → scalar_of k n b ≡ Some t → ReadsTo (bs ++ b ∷ []) t
scalar_keeps bs k n b t r len e =
    elim (chosen (eqb b 45) _ _ _ e) [
      | inl p ↦ to (bs ++ b ∷ []) (at k (Number parts.Minus (b ∷ []) n)) t (number parts.Minus (subst (λ (x : ℕ). InPart parts.Minus (x ∷ [])) (sym (eqb-true b 45 p.0)) minus_part)) p.1
      | inr p0 ↦ elim (chosen (eqb b 48) _ _ _ p0.1) [
        | inl p ↦ to (bs ++ b ∷ []) (at k (Number parts.Zero (b ∷ []) n)) t (number parts.Zero (subst (λ (x : ℕ). InPart parts.Zero (x ∷ [])) (sym (eqb-true b 48 p.0)) zero_part)) p.1
        | inr p1 ↦ elim (chosen (leb 49 b && leb b 57) _ _ _ p1.1) [
          | inl p ↦ to (bs ++ b ∷ []) (at k (Number parts.Whole (b ∷ []) n)) t (number parts.Whole (whole_part b (low b p.0) (high b p.0))) p.1
          | inr p2 ↦ elim (chosen (eqb b 116) _ _ _ p2.1) [
            | inl p ↦ to (bs ++ b ∷ []) (at k (Word T)) t (record { o = r.o; l = r.l; inside = r.inside; blank = r.blank; is = value_grown bs r.o r.l b 116 r.is p.0 }) p.1
            | inr p3 ↦ elim (chosen (eqb b 102) _ _ _ p3.1) [
              | inl p ↦ to (bs ++ b ∷ []) (at k (Word F)) t (record { o = r.o; l = r.l; inside = r.inside; blank = r.blank; is = value_grown bs r.o r.l b 102 r.is p.0 }) p.1
              | inr p4 ↦ elim (chosen (eqb b 110) _ _ _ p4.1) [
                | inl p ↦ to (bs ++ b ∷ []) (at k (Word N)) t (record { o = r.o; l = r.l; inside = r.inside; blank = r.blank; is = value_grown bs r.o r.l b 110 r.is p.0 }) p.1
                | inr p5 ↦ absurd cc
              ]
            ]
          ]
        ]
      ]
    ]
  where
    number : (part : Part) → InPart part (b ∷ []) → AtNumber k part (b ∷ []) n (bs ++ b ∷ [])
    number part so_far = record { o = r.o; l = r.l; inside = r.inside; blank = r.blank; so_far = so_far; from_is = len ∙ ap length r.is; is = ap (λ (x : List ℕ). x ++ b ∷ []) r.is ∙ append_assoc r.o r.l (b ∷ []) }

    low : (b : ℕ) → (leb 49 b && leb b 57) ≡ true → 49 ≤ b
    low b h = grind (arith, nat_tests)

    high : (b : ℕ) → (leb 49 b && leb b 57) ≡ true → b ≤ 57
    high b h = grind (arith, nat_tests)

-- a text begins
quote_keeps : (bs : List ℕ) (k : List Frame) (is_name : Bool) (n b : ℕ) → AtValue k bs → MayName is_name k → n ≡ length bs → eqb b 34 ≡ true → AtQuoted k is_name Plain [] n (bs ++ b ∷ [])
quote_keeps bs k is_name n b r may len e = record { o = r.o; l = r.l; m = []; inside = r.inside; blank = r.blank; may_name = may; writes = writes_nothing; from_is = len ∙ ap length r.is; is = value_grown bs r.o r.l b 34 r.is e }

value_blank : (bs : List ℕ) (k : List Frame) (b : ℕ) → AtValue k bs → is_blank_byte b ≡ true → AtValue k (bs ++ b ∷ [])
value_blank bs k b r h = record { o = r.o; l = r.l ++ b ∷ []; inside = r.inside; blank = blanks_push r.l b r.blank h; is = ap (λ (x : List ℕ). x ++ b ∷ []) r.is ∙ append_assoc r.o r.l (b ∷ []) }

opens : (bs : List ℕ) (k : List Frame) (b c : ℕ) → AtValue k bs → eqb b c ≡ true → Opened c (Inside k) (bs ++ b ∷ [])
opens bs k b c r e = record { p = r.o; l = r.l; w = []; inside = r.inside; blank = r.blank; behind = tt; is = value_grown bs r.o r.l b c r.is e }

begin_keeps : (bs : List ℕ) (k : List Frame) (n b : ℕ) (t : State) → AtValue k bs → n ≡ length bs → (begin_of k n b).next ≡ Some t → ReadsTo (bs ++ b ∷ []) t
begin_keeps bs k n b t r len e =
    elim (chosen_next (is_blank_byte b) _ _ _ e) [
      | inl p ↦ to (bs ++ b ∷ []) (at k Value) t (value_blank bs k b r p.0) p.1
      | inr p0 ↦ elim (chosen_next (eqb b 34) _ _ _ p0.1) [
        | inl p ↦ to (bs ++ b ∷ []) (at k (Quoted false Plain [] n)) t (quote_keeps bs k false n b r tt len p.0) p.1
        | inr p1 ↦ elim (chosen_next (eqb b 91) _ _ _ p1.1) [
          | inl p ↦ to (bs ++ b ∷ []) (at (frames.List [] ∷ k) First) t (opens bs k b 91 r p.0) p.1
          | inr p2 ↦ elim (chosen_next (eqb b 123) _ _ _ p2.1) [
            | inl p ↦ to (bs ++ b ∷ []) (at (frames.Object [] ∷ k) FirstName) t (opens bs k b 123 r p.0) p.1
            | inr p3 ↦ scalar_keeps bs k n b t r len p3.1
          ]
        ]
      ]
    ]

-- ---- behind a bracket

opened_blank : (bs : List ℕ) (bracket : ℕ) (outer : List ℕ → Type 0) (b : ℕ) → Opened bracket outer bs → is_blank_byte b ≡ true → Opened bracket outer (bs ++ b ∷ [])
opened_blank bs bracket outer b r h = record { p = r.p; l = r.l; w = r.w ++ b ∷ []; inside = r.inside; blank = r.blank; behind = blanks_push r.w b r.behind h; is = ap (λ (x : List ℕ). x ++ b ∷ []) r.is ∙ simp append_assoc }

opened_is : (bs p l w : List ℕ) (bracket : ℕ) → bs ≡ p ++ (l ++ (bracket ∷ w)) → bs ≡ (p ++ (l ++ (bracket ∷ []))) ++ w
opened_is bs p l w bracket is = is ∙ simp append_assoc

first_blank : (bs : List ℕ) (k : List Frame) (b : ℕ) → AtFirst k bs → is_blank_byte b ≡ true → AtFirst k (bs ++ b ∷ [])
first_blank bs [] b r h = absurd r
first_blank bs (frames.List [] ∷ k) b r h = opened_blank bs 91 (Inside k) b r h
first_blank bs (frames.List (y ∷ ys) ∷ k) b r h = absurd r
first_blank bs (frames.Object ys ∷ k) b r h = absurd r
first_blank bs (frames.Member ys name ∷ k) b r h = absurd r

first_value : (bs : List ℕ) (k : List Frame) → AtFirst k bs → AtValue k bs
first_value bs [] r = absurd r
first_value bs (frames.List [] ∷ k) r = record { o = r.p ++ (r.l ++ (91 ∷ [])); l = r.w; inside = record { p = r.p; l = r.l; a = []; inside = r.inside; blank = r.blank; begun = grammar.none; is = refl }; blank = r.behind; is = opened_is bs r.p r.l r.w 91 r.is }
first_value bs (frames.List (y ∷ ys) ∷ k) r = absurd r
first_value bs (frames.Object ys ∷ k) r = absurd r
first_value bs (frames.Member ys name ∷ k) r = absurd r

closes : (bs : List ℕ) (k : List Frame) (v : Json) (bracket closing : ℕ) → Opened bracket (Inside k) bs → ((w : List ℕ) → AreBlanks w → grammar.Value (bracket ∷ (w ++ closing ∷ [])) v) → AtAfter k v (bs ++ closing ∷ [])
closes bs k v bracket closing r value = record {
  o = r.p;
  c = r.l ++ (bracket ∷ (r.w ++ closing ∷ []));
  inside = r.inside;
  padded = padded_here r.l (bracket ∷ (r.w ++ closing ∷ [])) v r.blank (value r.w r.behind);
  is = ap (λ (x : List ℕ). x ++ closing ∷ []) r.is ∙ simp append_assoc;
}

close_list : (bs : List ℕ) (k : List Frame) (t : State) → AtFirst k bs → close_list_of k ≡ Some t → ReadsTo (bs ++ 93 ∷ []) t
close_list bs [] t r e = absurd r
close_list bs (frames.List [] ∷ k) t r e = to (bs ++ 93 ∷ []) (at k (After (trees.List []))) t (closes bs k (trees.List []) 91 93 r (λ w blank. grammar.empty_list w blank)) e
close_list bs (frames.List (y ∷ ys) ∷ k) t r e = absurd r
close_list bs (frames.Object ys ∷ k) t r e = absurd r
close_list bs (frames.Member ys name ∷ k) t r e = absurd r

first_keeps : (bs : List ℕ) (k : List Frame) (n b : ℕ) (t : State) → AtFirst k bs → n ≡ length bs → (first_of k n b).next ≡ Some t → ReadsTo (bs ++ b ∷ []) t
first_keeps bs k n b t r len e =
    elim (chosen_next (is_blank_byte b) _ _ _ e) [
      | inl p ↦ to (bs ++ b ∷ []) (at k First) t (first_blank bs k b r p.0) p.1
      | inr p0 ↦ elim (chosen_next (eqb b 93) _ _ _ p0.1) [
        | inl p ↦ subst (λ (x : ℕ). ReadsTo (bs ++ x ∷ []) t) (sym (eqb-true b 93 p.0)) (close_list bs k t r p.1)
        | inr p ↦ begin_keeps bs k n b t (first_value bs k r) len p.1
      ]
    ]

-- ---- names

name_keeps : (bs : List ℕ) (k : List Frame) (n b : ℕ) (t : State) → AtName k bs → n ≡ length bs → name_of k n b ≡ Some t → ReadsTo (bs ++ b ∷ []) t
name_keeps bs k n b t r len e =
    elim (chosen (is_blank_byte b) _ _ _ e) [
      | inl p ↦ to (bs ++ b ∷ []) (at k Name) t (record { place = value_blank bs k b r.place p.0; may_name = r.may_name }) p.1
      | inr p0 ↦ elim (chosen (eqb b 34) _ _ _ p0.1) [
        | inl p ↦ to (bs ++ b ∷ []) (at k (Quoted true Plain [] n)) t (quote_keeps bs k true n b r.place r.may_name len p.0) p.1
        | inr p ↦ absurd cc
      ]
    ]

first_name_blank : (bs : List ℕ) (k : List Frame) (b : ℕ) → AtFirstName k bs → is_blank_byte b ≡ true → AtFirstName k (bs ++ b ∷ [])
first_name_blank bs [] b r h = absurd r
first_name_blank bs (frames.Object [] ∷ k) b r h = opened_blank bs 123 (Inside k) b r h
first_name_blank bs (frames.Object (y ∷ ys) ∷ k) b r h = absurd r
first_name_blank bs (frames.List ys ∷ k) b r h = absurd r
first_name_blank bs (frames.Member ys name ∷ k) b r h = absurd r

first_name_name : (bs : List ℕ) (k : List Frame) → AtFirstName k bs → AtName k bs
first_name_name bs [] r = absurd r
first_name_name bs (frames.Object [] ∷ k) r = record {
  place = record { o = r.p ++ (r.l ++ (123 ∷ [])); l = r.w; inside = record { p = r.p; l = r.l; a = []; inside = r.inside; blank = r.blank; named = grammar.no_name; is = refl }; blank = r.behind; is = opened_is bs r.p r.l r.w 123 r.is };
  may_name = tt;
}
first_name_name bs (frames.Object (y ∷ ys) ∷ k) r = absurd r
first_name_name bs (frames.List ys ∷ k) r = absurd r
first_name_name bs (frames.Member ys name ∷ k) r = absurd r

close_object : (bs : List ℕ) (k : List Frame) (t : State) → AtFirstName k bs → close_object_of k ≡ Some t → ReadsTo (bs ++ 125 ∷ []) t
close_object bs [] t r e = absurd r
close_object bs (frames.Object [] ∷ k) t r e = to (bs ++ 125 ∷ []) (at k (After (trees.Object []))) t (closes bs k (trees.Object []) 123 125 r (λ w blank. grammar.empty_object w blank)) e
close_object bs (frames.Object (y ∷ ys) ∷ k) t r e = absurd r
close_object bs (frames.List ys ∷ k) t r e = absurd r
close_object bs (frames.Member ys name ∷ k) t r e = absurd r

first_name_keeps : (bs : List ℕ) (k : List Frame) (n b : ℕ) (t : State) → AtFirstName k bs → n ≡ length bs → first_name_of k n b ≡ Some t → ReadsTo (bs ++ b ∷ []) t
first_name_keeps bs k n b t r len e =
    elim (chosen (is_blank_byte b) _ _ _ e) [
      | inl p ↦ to (bs ++ b ∷ []) (at k FirstName) t (first_name_blank bs k b r p.0) p.1
      | inr p0 ↦ elim (chosen (eqb b 125) _ _ _ p0.1) [
        | inl p ↦ subst (λ (x : ℕ). ReadsTo (bs ++ x ∷ []) t) (sym (eqb-true b 125 p.0)) (close_object bs k t r p.1)
        | inr p ↦ name_keeps bs k n b t (first_name_name bs k r) len p.1
      ]
    ]

colon_keeps : (bs : List ℕ) (k : List Frame) (b : ℕ) (t : State) → AtColon k bs → colon_of k b ≡ Some t → ReadsTo (bs ++ b ∷ []) t
colon_keeps bs [] b t r e = absurd r
colon_keeps bs (frames.List ys ∷ k) b t r e = absurd r
colon_keeps bs (frames.Object ys ∷ k) b t r e = absurd r
colon_keeps bs (frames.Member ys name ∷ k) b t r e =
    elim (chosen (is_blank_byte b) _ _ _ e) [
      | inl p ↦ to (bs ++ b ∷ []) (at (frames.Member ys name ∷ k) Colon) t (record { p = r.p; w = r.w; q = r.q; r = r.r ++ b ∷ []; object = r.object; blank = r.blank; quoted = r.quoted; behind = blanks_push r.r b r.behind p.0; is = ap (λ (x : List ℕ). x ++ b ∷ []) r.is ∙ simp append_assoc }) p.1
      | inr p0 ↦ elim (chosen (eqb b 58) _ _ _ p0.1) [
        | inl p ↦ to (bs ++ b ∷ []) (at (frames.Member ys name ∷ k) Value) t (record { o = bs ++ b ∷ []; l = []; inside = record { c = bs; named = r; is = ap (λ (x : ℕ). bs ++ x ∷ []) (eqb-true b 58 p.0) }; blank = tt; is = sym (append-nil (bs ++ b ∷ [])) }) p.1
        | inr p ↦ absurd cc
      ]
    ]

-- ---- behind a value

list_text : (bs o p l a c : List ℕ) (b : ℕ) → bs ≡ o ++ c → o ≡ p ++ (l ++ (91 ∷ a)) → bs ++ b ∷ [] ≡ p ++ (l ++ (91 ∷ (a ++ c ++ b ∷ [])))
list_text bs o p l a c b is outer = ap (λ (x : List ℕ). x ++ b ∷ []) (is ∙ ap (λ (x : List ℕ). x ++ c) outer) ∙ simp append_assoc

element_keeps : (bs : List ℕ) (k : List Frame) (ys : List Json) (v : Json) (b : ℕ) (t : State) → AtAfter (frames.List ys ∷ k) v bs → element_of k ys v b ≡ Some t → ReadsTo (bs ++ b ∷ []) t
element_keeps bs k ys v b t r e =
    let i = r.inside in
    elim (chosen (eqb b 44) _ _ _ e) [
      | inl p ↦ to (bs ++ b ∷ []) (at (frames.List (ys ++ v ∷ []) ∷ k) Value) t
          (subst (λ (x : ℕ). AtValue (frames.List (ys ++ v ∷ []) ∷ k) (bs ++ x ∷ [])) (sym (eqb-true b 44 p.0))
          (record { o = bs ++ 44 ∷ []; l = []; inside = record { p = i.p; l = i.l; a = i.a ++ r.c ++ 44 ∷ []; inside = i.inside; blank = i.blank; begun = grammar.more i.a r.c ys v i.begun r.padded; is = list_text bs r.o i.p i.l i.a r.c 44 r.is i.is }; blank = tt; is = sym (append-nil (bs ++ 44 ∷ [])) })) p.1
      | inr p0 ↦ elim (chosen (eqb b 93) _ _ _ p0.1) [
        | inl p ↦ to (bs ++ b ∷ []) (at k (After (trees.List (ys ++ v ∷ [])))) t
            (subst (λ (x : ℕ). AtAfter k (trees.List (ys ++ v ∷ [])) (bs ++ x ∷ [])) (sym (eqb-true b 93 p.0))
            (record { o = i.p; c = i.l ++ (91 ∷ (i.a ++ r.c ++ 93 ∷ [])); inside = i.inside; padded = padded_here i.l (91 ∷ (i.a ++ r.c ++ 93 ∷ [])) (trees.List (ys ++ v ∷ [])) i.blank (grammar.list i.a r.c ys v i.begun r.padded); is = list_text bs r.o i.p i.l i.a r.c 93 r.is i.is })) p.1
        | inr p ↦ absurd cc
      ]
    ]

object_text : (bs o n p f l a w q r c : List ℕ) (b : ℕ) → bs ≡ o ++ c → o ≡ n ++ 58 ∷ [] → n ≡ f ++ (w ++ q ++ r) → f ≡ p ++ (l ++ (123 ∷ a)) → bs ++ b ∷ [] ≡ p ++ (l ++ (123 ∷ (a ++ (w ++ q ++ r ++ 58 ∷ c) ++ b ∷ [])))
object_text bs o n p f l a w q r c b is e1 e2 e3 =
    ap (λ (x : List ℕ). x ++ b ∷ []) (is ∙ ap (λ (x : List ℕ). x ++ c) (e1 ∙ ap (λ (x : List ℕ). x ++ 58 ∷ []) (e2 ∙ ap (λ (x : List ℕ). x ++ (w ++ q ++ r)) e3))) ∙ regroup p l (123 ∷ a) (w ++ q ++ r) (58 ∷ []) c (b ∷ [])
  where
    regroup : (p l x h y c z : List ℕ) → ((((p ++ (l ++ x)) ++ h) ++ y) ++ c) ++ z ≡ p ++ (l ++ ((x ++ (h ++ (y ++ c))) ++ z))
    regroup p l x h y c z = simp append_assoc

member_keeps : (bs : List ℕ) (k : List Frame) (ys : List Member) (name : List ℕ) (v : Json) (b : ℕ) (t : State) → AtAfter (frames.Member ys name ∷ k) v bs → member_of k ys name v b ≡ Some t → ReadsTo (bs ++ b ∷ []) t
member_keeps bs k ys name v b t r e =
    let i = r.inside in let n = i.named in let j = n.object in
    let member : Field (n.w ++ n.q ++ n.r ++ 58 ∷ r.c) (grammar.member name v) = field n.w n.q n.r r.c name v n.blank n.quoted n.behind r.padded in
    let text : (c : ℕ) → bs ++ c ∷ [] ≡ j.p ++ (j.l ++ (123 ∷ (j.a ++ (n.w ++ n.q ++ n.r ++ 58 ∷ r.c) ++ c ∷ []))) = λ c. object_text bs r.o i.c j.p n.p j.l j.a n.w n.q n.r r.c c r.is i.is n.is j.is in
    elim (chosen (eqb b 44) _ _ _ e) [
      | inl p ↦ to (bs ++ b ∷ []) (at (frames.Object (ys ++ grammar.member name v ∷ []) ∷ k) Name) t
          (subst (λ (x : ℕ). AtName (frames.Object (ys ++ grammar.member name v ∷ []) ∷ k) (bs ++ x ∷ [])) (sym (eqb-true b 44 p.0))
          (record {
            place = record {
              o = bs ++ 44 ∷ [];
              l = [];
              inside = record { p = j.p; l = j.l; a = j.a ++ (n.w ++ n.q ++ n.r ++ 58 ∷ r.c) ++ 44 ∷ []; inside = j.inside; blank = j.blank; named = grammar.more_names j.a (n.w ++ n.q ++ n.r ++ 58 ∷ r.c) ys (grammar.member name v) j.named member; is = text 44 };
              blank = tt;
              is = sym (append-nil (bs ++ 44 ∷ []));
            };
            may_name = tt;
          })) p.1
      | inr p0 ↦ elim (chosen (eqb b 125) _ _ _ p0.1) [
        | inl p ↦ to (bs ++ b ∷ []) (at k (After (trees.Object (ys ++ grammar.member name v ∷ [])))) t
            (subst (λ (x : ℕ). AtAfter k (trees.Object (ys ++ grammar.member name v ∷ [])) (bs ++ x ∷ [])) (sym (eqb-true b 125 p.0))
            (record {
              o = j.p;
              c = j.l ++ (123 ∷ (j.a ++ (n.w ++ n.q ++ n.r ++ 58 ∷ r.c) ++ 125 ∷ []));
              inside = j.inside;
              padded = padded_here j.l _ (trees.Object (ys ++ grammar.member name v ∷ [])) j.blank (grammar.object j.a (n.w ++ n.q ++ n.r ++ 58 ∷ r.c) ys (grammar.member name v) j.named member);
              is = text 125;
            })) p.1
        | inr p ↦ absurd cc
      ]
    ]

inner_keeps : (bs : List ℕ) (k : List Frame) (v : Json) (b : ℕ) (t : State) → AtAfter k v bs → inner_of k v b ≡ Some t → ReadsTo (bs ++ b ∷ []) t
inner_keeps bs [] v b t r e = absurd cc
inner_keeps bs (frames.List ys ∷ k) v b t r e = element_keeps bs k ys v b t r e
inner_keeps bs (frames.Object ys ∷ k) v b t r e = absurd cc
inner_keeps bs (frames.Member ys name ∷ k) v b t r e = member_keeps bs k ys name v b t r e

after_keeps : (bs : List ℕ) (k : List Frame) (v : Json) (b : ℕ) (t : State) → AtAfter k v bs → after_of k v b ≡ Some t → ReadsTo (bs ++ b ∷ []) t
after_keeps bs k v b t r e =
    elim (chosen (is_blank_byte b) _ _ _ e) [
      | inl p ↦ to (bs ++ b ∷ []) (at k (After v)) t (record { o = r.o; c = r.c ++ b ∷ []; inside = r.inside; padded = padded_push r.c v b r.padded p.0; is = ap (λ (x : List ℕ). x ++ b ∷ []) r.is ∙ append_assoc r.o r.c (b ∷ []) }) p.1
      | inr p ↦ inner_keeps bs k v b t r p.1
    ]

-- ---- words

letter_text : (bs o l so_far : List ℕ) (b c : ℕ) → bs ≡ o ++ (l ++ so_far) → eqb b c ≡ true → bs ++ b ∷ [] ≡ o ++ (l ++ (so_far ++ c ∷ []))
letter_text bs o l so_far b c is e = ap (λ (x : List ℕ). x ++ b ∷ []) is ∙ append_assoc o (l ++ so_far) (b ∷ []) ∙ ap (λ (x : List ℕ). o ++ x) (append_assoc l so_far (b ∷ [])) ∙ ap (λ (x : ℕ). o ++ (l ++ (so_far ++ x ∷ []))) (eqb-true b c e)

word_on : (bs : List ℕ) (k : List Frame) (x y : Letters) (b c : ℕ) → AtWord k x bs → letters_of y ≡ letters_of x ++ c ∷ [] → eqb b c ≡ true → AtWord k y (bs ++ b ∷ [])
word_on bs k x y b c r spelled e = record { o = r.o; l = r.l; inside = r.inside; blank = r.blank; is = letter_text bs r.o r.l (letters_of x) b c r.is e ∙ ap (λ (w : List ℕ). r.o ++ (r.l ++ w)) (sym spelled) }

word_ends : (bs : List ℕ) (k : List Frame) (x : Letters) (v : Json) (b c : ℕ) → AtWord k x bs → grammar.Value (letters_of x ++ c ∷ []) v → eqb b c ≡ true → AtAfter k v (bs ++ b ∷ [])
word_ends bs k x v b c r value e = record { o = r.o; c = r.l ++ (letters_of x ++ c ∷ []); inside = r.inside; padded = padded_here r.l (letters_of x ++ c ∷ []) v r.blank value; is = letter_text bs r.o r.l (letters_of x) b c r.is e }

letter_keeps : (x : Letters) (bs : List ℕ) (k : List Frame) (b : ℕ) → AtWord k x bs → eqb b (wanted_of x) ≡ true → Reads k (with_letter x) (bs ++ b ∷ [])
letter_keeps T bs k b r e = word_on bs k T Tr b 114 r refl e
letter_keeps Tr bs k b r e = word_on bs k Tr Tru b 117 r refl e
letter_keeps Tru bs k b r e = word_ends bs k Tru (trees.Truth true) b 101 r grammar.yes e
letter_keeps F bs k b r e = word_on bs k F Fa b 97 r refl e
letter_keeps Fa bs k b r e = word_on bs k Fa Fal b 108 r refl e
letter_keeps Fal bs k b r e = word_on bs k Fal Fals b 115 r refl e
letter_keeps Fals bs k b r e = word_ends bs k Fals (trees.Truth false) b 101 r grammar.no e
letter_keeps N bs k b r e = word_on bs k N Nu b 117 r refl e
letter_keeps Nu bs k b r e = word_on bs k Nu Nul b 108 r refl e
letter_keeps Nul bs k b r e = word_ends bs k Nul trees.Null b 108 r grammar.null e

word_keeps : (bs : List ℕ) (k : List Frame) (x : Letters) (b : ℕ) (t : State) → AtWord k x bs → word_of k x b ≡ Some t → ReadsTo (bs ++ b ∷ []) t
word_keeps bs k x b t r e =
    elim (chosen (eqb b (wanted_of x)) _ _ _ e) [
      | inl p ↦ to (bs ++ b ∷ []) (at k (with_letter x)) t (letter_keeps x bs k b r p.0) p.1
      | inr p ↦ absurd cc
    ]

-- ---- numbers

-- a whole number
number_value : (part : Part) (ds : List ℕ) (v : Json) → InPart part ds → ended_value part ds ≡ Some v → grammar.Value ds v
number_value part ds v so_far e =
    elim (chosen (is_whole part) _ _ _ e) [
      | inl p ↦
          let spelled = part_literal part ds p.0 so_far in
          subst (λ (x : Json). grammar.Value ds x) (some_is (number_tree ds) v (sym (literal_json ds spelled) ∙ p.1)) (grammar.number ds spelled)
      | inr p ↦ absurd cc
    ]

number_after : (bs : List ℕ) (k : List Frame) (part : Part) (ds : List ℕ) (from : ℕ) (v : Json) → AtNumber k part ds from bs → ended_value part ds ≡ Some v → AtAfter k v bs
number_after bs k part ds from v r e = record { o = r.o; c = r.l ++ ds; inside = r.inside; padded = padded_here r.l ds v r.blank (number_value part ds v r.so_far e); is = r.is }

number_keeps : (bs : List ℕ) (k : List Frame) (part : Part) (ds : List ℕ) (from b : ℕ) (t : State) → AtNumber k part ds from bs → (number_move k part ds from b).next ≡ Some t → ReadsTo (bs ++ b ∷ []) t
number_keeps bs k part ds from b t r e = go (next_part part b) refl e
  where
    go : (o : Option Part) → next_part part b ≡ o → (option_map_or (λ p. goes (at k (Number p (ds ++ b ∷ []) from))) o (ended_move k part ds from b)).next ≡ Some t → ReadsTo (bs ++ b ∷ []) t
    go (Some q) is h = to (bs ++ b ∷ []) (at k (Number q (ds ++ b ∷ []) from)) t (record { o = r.o; l = r.l; inside = r.inside; blank = r.blank; so_far = part_keeps part ds b q r.so_far is; from_is = r.from_is; is = ap (λ (x : List ℕ). x ++ b ∷ []) r.is ∙ simp append_assoc }) h
    go None is h = let m = mapped (λ v. after_of k v b) (ended_value part ds) t h in after_keeps bs k m.x b t (number_after bs k part ds from m.x r m.is) m.then_is

-- ---- texts in quotes

grown_keeps : (bs : List ℕ) (k : List Frame) (is_name : Bool) (piece : pieces.Piece) (bytes : List ℕ) (from b : ℕ) (t : State) → AtQuoted k is_name piece bytes from bs → (b ≡ 34 → piece ≡ Plain → ⊥) → grown_of k is_name piece bytes from b ≡ Some t → ReadsTo (bs ++ b ∷ []) t
grown_keeps bs k is_name piece bytes from b t r ne e =
    let one = mapped (λ g. option_map_or (λ more. Some (at k (Quoted is_name g.piece more from))) (with_added bytes g.added) None) (piece_of piece b) t e in
    let two = mapped (λ more. Some (at k (Quoted is_name one.x.piece more from))) (with_added bytes one.x.added) t one.then_is in
    to (bs ++ b ∷ []) (at k (Quoted is_name one.x.piece two.x from)) t
    (record { o = r.o; l = r.l; m = r.m ++ b ∷ []; inside = r.inside; blank = r.blank; may_name = r.may_name; writes = writes_on r.m bytes two.x piece b one.x r.writes ne one.is two.is; from_is = r.from_is; is = ap (λ (x : List ℕ). x ++ b ∷ []) r.is ∙ simp append_assoc }) two.then_is

-- a text with its quotes
quoted_here : (m bytes : List ℕ) → Writes m bytes Plain → is_utf8 bytes ≡ true → grammar.Quoted (34 ∷ (m ++ 34 ∷ [])) bytes
quoted_here m bytes w utf8 = record { raw = m; is = refl; pieces = bits_pieces m bytes (writes_bits m bytes w) (IsUtf8-from_is_utf8 bytes utf8) }

quoted_text : (bs o l m : List ℕ) → bs ≡ o ++ (l ++ (34 ∷ m)) → bs ++ 34 ∷ [] ≡ o ++ (l ++ (34 ∷ (m ++ 34 ∷ [])))
quoted_text bs o l m is = ap (λ (x : List ℕ). x ++ 34 ∷ []) is ∙ simp append_assoc

named_keeps : (bs : List ℕ) (k : List Frame) (bytes : List ℕ) (from : ℕ) (t : State) → AtQuoted k true Plain bytes from bs → is_utf8 bytes ≡ true → (named_of k bytes from).next ≡ Some t → ReadsTo (bs ++ 34 ∷ []) t
named_keeps bs [] bytes from t r utf8 e = absurd cc
named_keeps bs (frames.List ys ∷ k) bytes from t r utf8 e = absurd cc
named_keeps bs (frames.Member ys name ∷ k) bytes from t r utf8 e = absurd cc
named_keeps bs (frames.Object ys ∷ k) bytes from t r utf8 e =
    to (bs ++ 34 ∷ []) (at (frames.Member ys bytes ∷ k) Colon) t
    (record { p = r.o; w = r.l; q = 34 ∷ (r.m ++ 34 ∷ []); r = []; object = r.inside; blank = r.blank; quoted = quoted_here r.m bytes r.writes utf8; behind = tt; is = quoted_text bs r.o r.l r.m r.is ∙ ap (λ (x : List ℕ). r.o ++ x) (sym (append-nil (r.l ++ (34 ∷ (r.m ++ 34 ∷ []))))) }) e

unquote_keeps : (bs : List ℕ) (k : List Frame) (is_name : Bool) (bytes : List ℕ) (from : ℕ) (t : State) → AtQuoted k is_name Plain bytes from bs → (unquote_of k is_name bytes from).next ≡ Some t → ReadsTo (bs ++ 34 ∷ []) t
unquote_keeps bs k is_name bytes from t r e = go is_name r (is_utf8 bytes) refl e
  where
    go : (is_name : Bool) → AtQuoted k is_name Plain bytes from bs → (u : Bool) → is_utf8 bytes ≡ u → (option_map_or (λ x. cond is_name (named_of k x from) (goes (at k (After (trees.Text x))))) (cond {A = Option (List ℕ)} u (Some bytes) None) refused).next ≡ Some t → ReadsTo (bs ++ 34 ∷ []) t
    go is_name r false is h = absurd cc
    go true r true is h = named_keeps bs k bytes from t r is h
    go false r true is h =
        to (bs ++ 34 ∷ []) (at k (After (trees.Text bytes))) t
        (record { o = r.o; c = r.l ++ (34 ∷ (r.m ++ 34 ∷ [])); inside = r.inside; padded = padded_here r.l (34 ∷ (r.m ++ 34 ∷ [])) (trees.Text bytes) r.blank (grammar.text (34 ∷ (r.m ++ 34 ∷ [])) bytes (quoted_here r.m bytes r.writes is)); is = quoted_text bs r.o r.l r.m r.is }) h

plain_is : (p : pieces.Piece) → is_plain p ≡ true → p ≡ Plain
plain_is Plain h = refl
plain_is Slash h = absurd cc
plain_is Units h = absurd cc
plain_is (Unit1 x) h = absurd cc
plain_is (Unit2 x) h = absurd cc
plain_is (Unit3 x) h = absurd cc
plain_is (Pair x) h = absurd cc
plain_is (PairSlash x) h = absurd cc
plain_is (Low x) h = absurd cc
plain_is (Low1 x) h = absurd cc
plain_is (Low2 x y) h = absurd cc
plain_is (Low3 x y) h = absurd cc

quoted_keeps : (bs : List ℕ) (k : List Frame) (is_name : Bool) (piece : pieces.Piece) (bytes : List ℕ) (from b : ℕ) (t : State) → AtQuoted k is_name piece bytes from bs → (quoted_move k is_name piece bytes from b).next ≡ Some t → ReadsTo (bs ++ b ∷ []) t
quoted_keeps bs k is_name piece bytes from b t r e =
    elim (chosen_next (is_plain piece) _ _ _ e) [
      | inl p ↦ elim (chosen_next (eqb b 34) _ _ _ p.1) [
        | inl q ↦
            let here : AtQuoted k is_name Plain bytes from bs = subst (λ (x : pieces.Piece). AtQuoted k is_name x bytes from bs) (plain_is piece p.0) r in
            subst (λ (x : ℕ). ReadsTo (bs ++ x ∷ []) t) (sym (eqb-true b 34 q.0)) (unquote_keeps bs k is_name bytes from t here q.1)
        | inr q ↦ grown_keeps bs k is_name piece bytes from b t r (λ is same. not_quote b q.0 is) q.1
      ]
      | inr p ↦ grown_keeps bs k is_name piece bytes from b t r (λ is same. let h : is_plain piece ≡ true = ap is_plain same in let h' : is_plain piece ≡ false = p.0 in absurd cc) p.1
    ]
  where
    not_quote : (b : ℕ) → eqb b 34 ≡ false → b ≡ 34 → ⊥
    not_quote b h e = grind (arith, nat_tests)

-- ---- every byte

pub step_keeps : (bs : List ℕ) (k : List Frame) (mode : Mode) (n b : ℕ) (t : State) → n ≡ length bs → Reads k mode bs → (step_in k mode n b).next ≡ Some t → ReadsTo (bs ++ b ∷ []) t
step_keeps bs k Value n b t len r e = begin_keeps bs k n b t r len e
step_keeps bs k First n b t len r e = first_keeps bs k n b t r len e
step_keeps bs k FirstName n b t len r e = first_name_keeps bs k n b t r len e
step_keeps bs k Name n b t len r e = name_keeps bs k n b t r len e
step_keeps bs k Colon n b t len r e = colon_keeps bs k b t r e
step_keeps bs k (Word x) n b t len r e = word_keeps bs k x b t r e
step_keeps bs k (Number part ds from) n b t len r e = number_keeps bs k part ds from b t r e
step_keeps bs k (Quoted is_name piece bytes from) n b t len r e = quoted_keeps bs k is_name piece bytes from b t r e
step_keeps bs k (After v) n b t len r e = after_keeps bs k v b t r e

pub leads_reads : {bs : List ℕ} {n : ℕ} {s t : State} → Leads bs n s t → (done : List ℕ) → n ≡ length done → ReadsTo done s → ReadsTo (done ++ bs) t
unfolding step_of
leads_reads (stays n s) done len r = subst (λ (x : List ℕ). ReadsTo x s) (sym (append-nil done)) r
leads_reads (steps b bs n s t u h l) done len r =
    subst (λ (x : List ℕ). ReadsTo x u) (append_assoc done (b ∷ []) bs)
    (leads_reads l (done ++ b ∷ []) (omega (arith, length-append done (b ∷ []), len)) (step_keeps done s.stack s.mode n b t len r h))

pub start_reads : ReadsTo [] (at [] Value)
start_reads = record { o = []; l = []; inside = refl; blank = tt; is = refl }

-- bytes that lead somewhere from the start
pub reads_from_start : (bs : List ℕ) (t : State) → Leads bs 0 (at [] Value) t → ReadsTo bs t
reads_from_start bs t l = leads_reads l [] refl start_reads

-- a text that may end here
pub over_padded : (bs : List ℕ) (k : List Frame) (mode : Mode) (v : Json) → Reads k mode bs → end_value_in k mode ≡ Some v → Padded bs v
over_padded bs k Value v r e = absurd cc
over_padded bs k First v r e = absurd cc
over_padded bs k FirstName v r e = absurd cc
over_padded bs k Name v r e = absurd cc
over_padded bs k Colon v r e = absurd cc
over_padded bs k (Word x) v r e = absurd cc
over_padded bs k (Quoted is_name piece bytes from) v r e = absurd cc
over_padded bs (f ∷ k) (Number part ds from) v r e = absurd cc
over_padded bs [] (Number part ds from) v r e = let a = number_after bs [] part ds from v r e in subst (λ (x : List ℕ). Padded x v) (sym (a.is ∙ ap (λ (x : List ℕ). x ++ a.c) a.inside)) a.padded
over_padded bs (f ∷ k) (After x) v r e = absurd cc
over_padded bs [] (After x) v r e = subst (λ (y : Json). Padded bs y) (some_is x v e) (subst (λ (y : List ℕ). Padded y x) (sym (r.is ∙ ap (λ (y : List ℕ). y ++ r.c) r.inside)) r.padded)

-- what the machine reads by the grammar alone is spelled
pub leads_padded : (bs : List ℕ) (t : State) (v : Json) → Leads bs 0 (at [] Value) t → end_value t ≡ Some v → Padded bs v
unfolding end_value
leads_padded bs t v l e = over_padded bs t.stack t.mode v (reads_from_start bs t l) e

-- Where the machine stands, what was read is a front; so it refuses a text at the end of its longest front.
use Rattle.std.proofs.Common.{◌≡◌, inl, inr, ℕ, ◌+◌, ◌<◌, ◌≤◌, List, [], ◌∷◌, ◌++◌, length, take, drop, Bool, true, false, Option, Some, None, Result, Ok, Err, refl, sym, ap, subst, ◌∙◌, arith, append_assoc, length-append, IsUtf8}
use Rattle.std.proofs.lemmas.Bool.{cases_lt}
use Rattle.std.proofs.lemmas.List.{append-nil, take_at, take-append-drop, take_all, length-take-le}
use Rattle.std.proofs.lemmas.Str.{IsUtf8-nil}
use Rattle.sc_json.specs.declared.tree.Json.{Json}
use Rattle.sc_json.specs.declared.state.State.{State}
use Rattle.sc_json.specs.declared.state.Frame.{Frame}
use Rattle.sc_json.specs.declared.state.Frame.TheVariants as frames
use Rattle.sc_json.specs.declared.state.Mode.{Mode}
use Rattle.sc_json.specs.declared.state.Mode.TheVariants.{Value, First, FirstName, Name, Colon, Word, Number, Quoted, After}
use Rattle.sc_json.specs.declared.state.Letters.{Letters}
use Rattle.sc_json.specs.declared.state.Letters.TheVariants as letters
use Rattle.sc_json.specs.declared.fault.JsonFault.{JsonFault}
use Rattle.sc_json.specs.declared.fault.JsonFault.TheVariants.{Syntax}
use Rattle.sc_json.specs.Machine.{start, step_of, read_of, Limit, double, deep, wide, limit_fault}
use Rattle.sc_json.specs.Grammar as grammar
use Rattle.sc_json.specs.Grammar.{AreBlanks}
use Rattle.sc_json.specs.Fronts.{Front, nothing, in_word, in_number, in_text, in_list, in_object, PaddedFront, before, behind, MemberFront, no_name, in_name, named, at_value, IsLongestFront}
use Rattle.sc_json.proofs.Steps.{Leads, stays, steps, leads_one}
use Rattle.sc_json.proofs.SoundStates.{Inside, Reads, letters_of}
use Rattle.sc_json.proofs.Sound.{reads_from_start}
use Rattle.sc_json.proofs.FrontStacks.{TakesValue, Fits, start_fits}
use Rattle.sc_json.proofs.FrontTokens.{number_front}
use Rattle.sc_json.proofs.FrontTexts.{writes_front, after_ascii, before_ascii, through_ascii}
use Rattle.sc_json.proofs.FrontHigh.{InText, high_taken, high_stays}
use Rattle.sc_json.proofs.FrontRuns.{text_front_went, Cut, leads_cut}
use Rattle.sc_json.proofs.LimitRuns.{overlap, past, within, Outcome, outcome, broken, refuses, short, taken, clean_leads}

-- ---- what may come in the innermost that is open

abbrev FrontIn : List Frame → List ℕ → Type 0
FrontIn [] f = PaddedFront f
FrontIn (frames.List ys ∷ k) f = PaddedFront f
FrontIn (frames.Object ys ∷ k) f = MemberFront f
FrontIn (frames.Member ys name ∷ k) f = PaddedFront f

value_in : (k : List Frame) (f : List ℕ) → TakesValue k → PaddedFront f → FrontIn k f
value_in [] f h p = p
value_in (frames.List ys ∷ k) f h p = p
value_in (frames.Object ys ∷ k) f h p = absurd h
value_in (frames.Member ys name ∷ k) f h p = p

-- the outermost that is open takes a value, and so on inwards
abbrev Nests : List Frame → Type 0
Nests [] = Unit {0}
Nests (f ∷ k) = TakesValue k

nests : (k : List Frame) → TakesValue k → Nests k
nests [] h = tt
nests (frames.List ys ∷ k) h = h
nests (frames.Object ys ∷ k) h = absurd h
nests (frames.Member ys name ∷ k) h = h

inside_front : (k : List Frame) (o f : List ℕ) → Nests k → Inside k o → FrontIn k f → PaddedFront (o ++ f)
inside_front [] o f n i p = subst (λ (x : List ℕ). PaddedFront (x ++ f)) (sym i) p
inside_front (frames.List ys ∷ k) o f n i p =
    subst PaddedFront (sym (ap (λ (x : List ℕ). x ++ f) i.is ∙ simp append_assoc))
    (inside_front k i.p (i.l ++ 91 ∷ (i.a ++ f)) (nests k n) i.inside (value_in k _ n (before i.l (91 ∷ (i.a ++ f)) i.blank (in_list i.a f ys i.begun p))))
inside_front (frames.Object ys ∷ k) o f n i p =
    subst PaddedFront (sym (ap (λ (x : List ℕ). x ++ f) i.is ∙ simp append_assoc))
    (inside_front k i.p (i.l ++ 123 ∷ (i.a ++ f)) (nests k n) i.inside (value_in k _ n (before i.l (123 ∷ (i.a ++ f)) i.blank (in_object i.a f ys i.named p))))
inside_front (frames.Member ys name ∷ k) o f n i p =
    let b = i.named in
    let j = b.object in
    let g : List ℕ = b.w ++ b.q ++ b.r ++ 58 ∷ f in
    subst PaddedFront (sym (text o i.c b.p j.p j.l j.a b.w b.q b.r f i.is b.is j.is))
    (inside_front k j.p (j.l ++ 123 ∷ (j.a ++ g)) (nests k n) j.inside (value_in k _ n (before j.l (123 ∷ (j.a ++ g)) j.blank (in_object j.a g ys j.named (at_value b.w b.q b.r f name b.blank b.quoted b.behind p)))))
  where
    text : (o c p p' l a w q r f : List ℕ) → o ≡ c ++ 58 ∷ [] → c ≡ p ++ (w ++ q ++ r) → p ≡ p' ++ (l ++ (123 ∷ a)) → o ++ f ≡ p' ++ (l ++ 123 ∷ (a ++ (w ++ q ++ r ++ 58 ∷ f)))
    text o c p p' l a w q r f e g h = ap (λ (x : List ℕ). x ++ f) e ∙ append_assoc c (58 ∷ []) f ∙ ap (λ (x : List ℕ). x ++ 58 ∷ f) (g ∙ ap (λ (x : List ℕ). x ++ (w ++ q ++ r)) h) ∙ simp append_assoc

-- ---- what was read

in_letters : (x : Letters) → Front (letters_of x)
in_letters letters.T = in_word _ (114 ∷ 117 ∷ 101 ∷ []) (inr (inl refl))
in_letters letters.Tr = in_word _ (117 ∷ 101 ∷ []) (inr (inl refl))
in_letters letters.Tru = in_word _ (101 ∷ []) (inr (inl refl))
in_letters letters.F = in_word _ (97 ∷ 108 ∷ 115 ∷ 101 ∷ []) (inr (inr refl))
in_letters letters.Fa = in_word _ (108 ∷ 115 ∷ 101 ∷ []) (inr (inr refl))
in_letters letters.Fal = in_word _ (115 ∷ 101 ∷ []) (inr (inr refl))
in_letters letters.Fals = in_word _ (101 ∷ []) (inr (inr refl))
in_letters letters.N = in_word _ (117 ∷ 108 ∷ 108 ∷ []) (inl refl)
in_letters letters.Nu = in_word _ (108 ∷ 108 ∷ []) (inl refl)
in_letters letters.Nul = in_word _ (108 ∷ []) (inl refl)

blank_front : (l : List ℕ) → AreBlanks l → PaddedFront l
blank_front l blank = subst PaddedFront (append-nil l) (before l [] blank nothing)

quoted_front : (k : List Frame) (is_name : Bool) (piece : _) (bytes : List ℕ) (from : ℕ) (bs : List ℕ) → Fits (Quoted is_name piece bytes from) k → Reads k (Quoted is_name piece bytes from) bs → IsUtf8 bs → PaddedFront bs
quoted_front [] true piece bytes from bs h r u = absurd h
quoted_front (frames.List ys ∷ k) true piece bytes from bs h r u = absurd h
quoted_front (frames.Member ys name ∷ k) true piece bytes from bs h r u = absurd h
quoted_front (frames.Object ys ∷ k) true piece bytes from bs h r u =
    let inner = after_ascii (r.o ++ r.l) 34 r.m (omega arith) (subst IsUtf8 (r.is ∙ sym (append_assoc r.o r.l (34 ∷ r.m))) u) in
    subst PaddedFront (sym r.is) (inside_front (frames.Object ys ∷ k) r.o (r.l ++ 34 ∷ r.m) h r.inside (in_name r.l (34 ∷ r.m) r.blank (writes_front r.m bytes piece r.writes inner)))
quoted_front k false piece bytes from bs h r u =
    let inner = after_ascii (r.o ++ r.l) 34 r.m (omega arith) (subst IsUtf8 (r.is ∙ sym (append_assoc r.o r.l (34 ∷ r.m))) u) in
    subst PaddedFront (sym r.is) (inside_front k r.o (r.l ++ 34 ∷ r.m) (nests k h) r.inside (value_in k _ h (before r.l (34 ∷ r.m) r.blank (in_text (34 ∷ r.m) (writes_front r.m bytes piece r.writes inner)))))

pub reads_front : (k : List Frame) (mode : Mode) (bs : List ℕ) → Fits mode k → Reads k mode bs → IsUtf8 bs → PaddedFront bs
reads_front k Value bs h r u = subst PaddedFront (sym r.is) (inside_front k r.o r.l (nests k h) r.inside (value_in k _ h (blank_front r.l r.blank)))
reads_front [] First bs h r u = absurd r
reads_front (frames.List [] ∷ k) First bs h r u = subst PaddedFront (sym r.is) (inside_front k r.p (r.l ++ (91 ∷ r.w)) (nests k h) r.inside (value_in k _ h (before r.l (91 ∷ r.w) r.blank (in_list [] r.w [] grammar.none (blank_front r.w r.behind)))))
reads_front (frames.List (y ∷ ys) ∷ k) First bs h r u = absurd r
reads_front (frames.Object ys ∷ k) First bs h r u = absurd h
reads_front (frames.Member ys name ∷ k) First bs h r u = absurd r
reads_front [] FirstName bs h r u = absurd r
reads_front (frames.List ys ∷ k) FirstName bs h r u = absurd h
reads_front (frames.Object [] ∷ k) FirstName bs h r u = subst PaddedFront (sym r.is) (inside_front k r.p (r.l ++ (123 ∷ r.w)) (nests k h) r.inside (value_in k _ h (before r.l (123 ∷ r.w) r.blank (in_object [] r.w [] grammar.no_name (no_name r.w r.behind)))))
reads_front (frames.Object (y ∷ ys) ∷ k) FirstName bs h r u = absurd r
reads_front (frames.Member ys name ∷ k) FirstName bs h r u = absurd h
reads_front [] Name bs h r u = absurd h
reads_front (frames.List ys ∷ k) Name bs h r u = absurd h
reads_front (frames.Object ys ∷ k) Name bs h r u = let v = r.place in subst PaddedFront (sym v.is) (inside_front (frames.Object ys ∷ k) v.o v.l h v.inside (no_name v.l v.blank))
reads_front (frames.Member ys name ∷ k) Name bs h r u = absurd h
reads_front [] Colon bs h r u = absurd r
reads_front (frames.List ys ∷ k) Colon bs h r u = absurd r
reads_front (frames.Object ys ∷ k) Colon bs h r u = absurd h
reads_front (frames.Member ys name ∷ k) Colon bs h r u = subst PaddedFront (sym r.is) (inside_front (frames.Object ys ∷ k) r.p (r.w ++ r.q ++ r.r) h r.object (named r.w r.q r.r name r.blank r.quoted r.behind))
reads_front k (Word x) bs h r u = subst PaddedFront (sym r.is) (inside_front k r.o (r.l ++ letters_of x) (nests k h) r.inside (value_in k _ h (before r.l (letters_of x) r.blank (in_letters x))))
reads_front k (Number part ds from) bs h r u =
    let g = number_front part ds r.so_far in
    subst PaddedFront (sym r.is) (inside_front k r.o (r.l ++ ds) (nests k h) r.inside (value_in k _ h (before r.l ds r.blank (in_number ds g.rest g.whole))))
reads_front k (Quoted is_name piece bytes from) bs h r u = quoted_front k is_name piece bytes from bs h r u
reads_front k (After v) bs h r u = subst PaddedFront (sym r.is) (inside_front k r.o r.c (nests k h) r.inside (value_in k _ h (behind r.c v r.padded)))

pub leads_to_front : (bs : List ℕ) (t : State) → Leads bs 0 start t → IsUtf8 bs → PaddedFront bs
leads_to_front bs t l u = reads_front t.stack t.mode bs (start_fits l) (reads_from_start bs t l) u

-- ---- a text is cut between characters where a byte is refused

-- what was read is nothing, ends with ASCII, or ends within a text in quotes
data Ends (x : List ℕ) (t : State) : Type 0 where
  at_start : x ≡ [] → Ends x t
  in_ascii : (y : List ℕ) (b : ℕ) → x ≡ y ++ b ∷ [] → b < 128 → Ends x t
  in_chars : InText t.mode → Ends x t

ends_of : {bs : List ℕ} {n : ℕ} {s t : State} → Leads bs n s t → (x : List ℕ) → Ends x s → Ends (x ++ bs) t
ends_of (stays n s) x h = subst (λ (y : List ℕ). Ends y s) (sym (append-nil x)) h
ends_of (steps b bs n s t u e l) x h =
    let next : Ends (x ++ b ∷ []) t = elim (cases_lt b 128) [ inl small ↦ in_ascii x b refl small | inr high ↦ in_chars (high_stays s n b t high e) ] in
    subst (λ (y : List ℕ). Ends y u) (append_assoc x (b ∷ []) bs) (ends_of l (x ++ b ∷ []) next)

pub cut_between : (x : List ℕ) (b : ℕ) (rest : List ℕ) (t : State) (n : ℕ) → Leads x 0 start t → (step_of t n b).next ≡ None → IsUtf8 (x ++ b ∷ rest) → IsUtf8 x
cut_between x b rest t n l e u = elim (ends_of l [] (at_start refl)) [
  | at_start f ↦ subst IsUtf8 (sym f) IsUtf8-nil
  | in_ascii y c f small ↦ subst IsUtf8 (sym f) (through_ascii y c (b ∷ rest) small (subst IsUtf8 (ap (λ (z : List ℕ). z ++ b ∷ rest) f ∙ append_assoc y (c ∷ []) (b ∷ rest)) u))
  | in_chars h ↦ elim (cases_lt b 128) [ inl small ↦ before_ascii x b rest small u | inr high ↦ absurd (high_taken t n b high h e) ]
]

-- ---- the longest front

-- no front goes beyond a byte that is refused
front_ends : (bytes x : List ℕ) (b : ℕ) (rest : List ℕ) (t : State) → bytes ≡ x ++ b ∷ rest → Leads x 0 start t → (step_of t (length x) b).next ≡ None → (n : ℕ) → n ≤ length bytes → PaddedFront (take n bytes) → n ≤ length x
front_ends bytes x b rest t is l e n le p =
    let f : List ℕ = take n bytes in
    let w = text_front_went f p in
    let long : length f ≡ n = length-take-le n bytes le in
    elim (overlap x (b ∷ rest) f (drop n bytes) (sym is ∙ sym (take-append-drop n bytes))) [
      | past z g h ↦ elim (cases_lt (length x) n) [ inr ge ↦ ge | inl lt ↦ absurd (beyond z (drop n bytes) w.state h (leads_cut x z 0 start w.state (subst (λ (y : List ℕ). Leads y 0 start w.state) g w.leads)) (let q : length f ≡ length x + length z = ap length g ∙ length-append x z in omega (arith, q, long, lt))) ]
      | within c z g h ↦ let q : length x ≡ length f + length (c ∷ z) = ap length g ∙ length-append f (c ∷ z) in omega (arith, q, long)
    ]
  where
    refused : (o : Option State) (v : State) → o ≡ None → o ≡ Some v → ⊥
    refused o v e f = absurd cc

    step : (c : ℕ) (z others : List ℕ) (v u : State) → v ≡ t → Leads (c ∷ z) (0 + length x) v u → b ∷ rest ≡ (c ∷ z) ++ others → ⊥
    step c z others v u same (steps _ _ _ _ v' _ f m) q =
        let byte : b ≡ c = cc in
        let here : (step_of t (length x) b).next ≡ Some v' = subst (λ (i : ℕ). (step_of t (length x) i).next ≡ Some v') (sym byte) (subst (λ (i : ℕ). (step_of t i c).next ≡ Some v') (omega arith) (subst (λ (y : State). (step_of y (0 + length x) c).next ≡ Some v') same f)) in
        refused (step_of t (length x) b).next v' e here

    beyond : (z others : List ℕ) (u : State) → b ∷ rest ≡ z ++ others → Cut x z 0 start u → 0 < length z → ⊥
    beyond [] others u q c lt = absurd (omega (arith, lt))
    beyond (d ∷ z) others u q c lt = step d z others c.state u (leads_one c.leads l) c.goes_on q

no_limit : (l : Limit) (n : ℕ) → limit_fault l ≡ Syntax n → ⊥
no_limit (double m) n e = absurd cc
no_limit (deep m) n e = absurd cc
no_limit (wide m) n e = absurd cc

abbrev Same : Result Json JsonFault → Result Json JsonFault → Type 0
Same r s = r ≡ s

-- where reading meets Syntax, the longest front ends
pub syntax_place : (bytes : List ℕ) (n : ℕ) → IsUtf8 bytes → read_of bytes ≡ Err (Syntax n) → IsLongestFront bytes n
syntax_place bytes n u e = go (outcome bytes 0 start)
  where
    err_is : (f g : JsonFault) → Same (Err f) (Err g) → f ≡ g
    err_is f g q = cc

    place_is : (m : ℕ) → Syntax m ≡ Syntax n → m ≡ n
    place_is m q = cc

    go : Outcome bytes 0 start (read_of bytes) → IsLongestFront bytes n
    go (broken o) = absurd (no_limit o.limit n (err_is (limit_fault o.limit) (Syntax n) (sym o.result ∙ e)))
    go (refuses o) =
        let is : 0 + length o.x ≡ n = place_is (0 + length o.x) (err_is (Syntax (0 + length o.x)) (Syntax n) (sym o.result ∙ e)) in
        let l = clean_leads o.clean in
        let stops : (step_of o.state (length o.x) o.byte).next ≡ None = subst (λ (i : ℕ). (step_of o.state i o.byte).next ≡ None) (omega arith) o.stops in
        let count : length bytes ≡ length o.x + length (o.byte ∷ o.rest) = ap length o.is ∙ length-append o.x (o.byte ∷ o.rest) in
        let here : take n bytes ≡ o.x = ap (λ (y : List ℕ). take n y) o.is ∙ take_at o.x (o.byte ∷ o.rest) n (omega (arith, is)) in
        record {
          within = omega (arith, is, count);
          front = subst PaddedFront (sym here) (leads_to_front o.x o.state l (cut_between o.x o.byte o.rest o.state (length o.x) l stops (subst IsUtf8 o.is u)));
          longest = λ m le p. let at_most = front_ends bytes o.x o.byte o.rest o.state o.is l stops m le p in omega (arith, at_most, is);
        }
    go (short o) =
        let is : 0 + length bytes ≡ n = place_is (0 + length bytes) (err_is (Syntax (0 + length bytes)) (Syntax n) (sym o.result ∙ e)) in
        record {
          within = omega (arith, is);
          front = subst PaddedFront (sym (take_all n bytes (omega (arith, is)))) (leads_to_front bytes o.state (clean_leads o.clean) u);
          longest = λ m le p. omega (arith, is, le);
        }
    go (taken o) = absurd (ok_err o.value (sym o.result ∙ e))
      where
        ok_err : (v : Json) → Same (Ok v) (Err (Syntax n)) → ⊥
        ok_err v q = absurd cc

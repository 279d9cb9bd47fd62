-- Each limit that the machine meets is a fault by the grammar.
use Rattle.std.proofs.Common.{◌≡◌, ◌⊎◌, inl, inr, ℕ, ◌+◌, ◌-◌, ◌<◌, ◌≤◌, List, [], ◌∷◌, ◌++◌, length, take, Bool, true, false, cond, eqb, leb, Option, Some, None, refl, sym, ap, subst, ◌∙◌, arith, append_assoc, length-append}
use Rattle.std.specs.Option.{option_map_or}
use Rattle.std.specs.Str.{is_utf8}
use Rattle.std.proofs.lemmas.Bool.{cases_lt, eqb-true}
use Rattle.std.proofs.lemmas.Bool.Decides.{nat_tests}
use Rattle.std.proofs.lemmas.List.{append-nil}
use Rattle.std.proofs.lemmas.Str.{IsUtf8-from_is_utf8}
use Rattle.sc_base.specs.Text.{text_of}
use Rattle.sc_decimal.specs.Value.{is_wide}
use Rattle.sc_json.specs.declared.tree.Member.{Member}
use Rattle.sc_json.specs.declared.tree.Json.TheVariants as trees
use Rattle.sc_json.specs.declared.state.State.{State}
use Rattle.sc_json.specs.declared.state.Frame.{Frame}
use Rattle.sc_json.specs.declared.state.Frame.TheVariants as frames
use Rattle.sc_json.specs.declared.state.Mode.{Mode}
use Rattle.sc_json.specs.declared.state.Mode.TheVariants.{Value, First, FirstName, Name, Colon, Word, Number, Quoted, After}
use Rattle.sc_json.specs.declared.state.Part.{Part}
use Rattle.sc_json.specs.declared.state.Part.TheVariants as parts
use Rattle.sc_json.specs.declared.state.Piece as pieces
use Rattle.sc_json.specs.declared.state.Piece.TheVariants.{Plain, Slash, Unit as Units, Unit1, Unit2, Unit3, Pair, PairSlash, Low, Low1, Low2, Low3}
use Rattle.sc_json.specs.Numbers.{next_part, behind_whole, is_whole}
use Rattle.sc_json.specs.Machine.{at, start, Move, goes, plain, nested, step_in, step_of, end_breaks, end_breaks_in, Limit, double, deep, wide, limit_fault, is_blank_byte, scalar_of, close_list_of, begin_of, ended_breaks, wide_of, number_move, ended_move, named_of, unquote_of, refused, has_name, grown_of}
use Rattle.sc_json.specs.Grammar as grammar
use Rattle.sc_json.specs.Grammar.{AreBlanks, Literal, literal}
use Rattle.sc_json.specs.Faults.{Awaits, outermost, element, member_value, OpensTooDeep, IsTooWide, IsDuplicate, HasFault}
use Rattle.sc_json.proofs.Steps.{Leads, stays, steps, leads_one}
use Rattle.sc_json.proofs.Words.{number_goes}
use Rattle.sc_json.proofs.FrontPlaces.{literal_head}
use Rattle.sc_json.proofs.Literals.{literal_led}
use Rattle.sc_json.proofs.SoundNumbers.{InPart, IsInteger, IsMantissa, part_literal, chosen, some_is}
use Rattle.sc_json.proofs.SoundTexts.{writes_bits}
use Rattle.sc_json.proofs.SoundUtf8.{bits_pieces}
use Rattle.sc_json.proofs.SoundStates.{Inside, Reads}
use Rattle.sc_json.proofs.Sound.{reads_from_start}
use Rattle.sc_json.proofs.FrontRuns.{leads_cut, awaits_went}
use Rattle.sc_json.proofs.FrontStacks.{TakesValue, Fits, start_fits}
use Rattle.sc_json.proofs.LimitRuns.{Clean, clean_leads, BreaksAt, Hit, ahead, from_of, token_back, ended_leaves, overlap, past, within}
use Rattle.sc_json.proofs.LimitEvents.{from_has, deep_hit, deep_hit_at}
use Rattle.sc_json.proofs.LimitNumbers.{NoMore, front_is, part_steps, Behind, whole_behind, count_is, nothing_more}

-- ---- where a value may begin

one_more : (f : Frame) (k : List Frame) (o : List ℕ) → Awaits o (length k + 1) → Awaits o (length (f ∷ k))
one_more f k o aw = subst (λ (d : ℕ). Awaits o d) (omega arith) aw

awaits_of : (k : List Frame) (o l : List ℕ) → TakesValue k → Inside k o → AreBlanks l → Awaits (o ++ l) (length k)
awaits_of [] o l h i blank = subst (λ (x : List ℕ). Awaits (x ++ l) 0) (sym i) (outermost l blank)
awaits_of (frames.List ys ∷ k) o l h i blank =
    one_more (frames.List ys) k (o ++ l) (subst (λ (x : List ℕ). Awaits x (length k + 1)) (sym (ap (λ (x : List ℕ). x ++ l) i.is ∙ simp append_assoc)) (element (i.p ++ i.l) i.a l (length k) ys (awaits_of k i.p i.l h i.inside i.blank) i.begun blank))
awaits_of (frames.Object ys ∷ k) o l h i blank = absurd h
awaits_of (frames.Member ys name ∷ k) o l h i blank =
    let b = i.named in
    let j = b.object in
    one_more (frames.Member ys name) k (o ++ l) (subst (λ (x : List ℕ). Awaits x (length k + 1)) (sym (text o i.c b.p j.p j.l j.a b.w b.q b.r l i.is b.is j.is)) (member_value (j.p ++ j.l) j.a b.w b.q b.r l name (length k) ys (awaits_of k j.p j.l h j.inside j.blank) j.named b.blank b.quoted b.behind blank))
  where
    text : (o c p p' l' a w q r f : List ℕ) → o ≡ c ++ 58 ∷ [] → c ≡ p ++ (w ++ q ++ r) → p ≡ p' ++ (l' ++ (123 ∷ a)) → o ++ f ≡ (p' ++ l') ++ 123 ∷ (a ++ w ++ q ++ r ++ 58 ∷ f)
    text o c p p' l' a w q r f e g h = ap (λ (x : List ℕ). x ++ f) e ∙ append_assoc c (58 ∷ []) f ∙ ap (λ (x : List ℕ). x ++ 58 ∷ f) (g ∙ ap (λ (x : List ℕ). x ++ (w ++ q ++ r)) h) ∙ simp append_assoc

-- ---- depth

record EarlierDeep (bytes o : List ℕ) : Type 0 where
  place : ℕ
  opens : OpensTooDeep bytes place
  early : place < length o

earlier_here : (o inner rest : List ℕ) (b : ℕ) (depth : ℕ) → Awaits o depth → depth ≡ 64 → (b ≡ 91) ⊎ (b ≡ 123) → EarlierDeep ((o ++ b ∷ inner) ++ rest) (o ++ b ∷ inner)
earlier_here o inner rest b depth aw e opens = record {
  place = length o;
  opens = record { before = o; bracket = b; rest = inner ++ rest; is = append_assoc o (b ∷ inner) rest; place = refl; awaits = subst (λ (d : ℕ). Awaits o d) e aw; opens = opens };
  early = let l = length-append o (b ∷ inner) in omega (arith, l);
}

earlier_before : (o inner rest : List ℕ) → EarlierDeep (o ++ (inner ++ rest)) o → EarlierDeep ((o ++ inner) ++ rest) (o ++ inner)
earlier_before o inner rest h = record {
  place = h.place;
  opens = subst (λ (x : List ℕ). OpensTooDeep x h.place) (sym (append_assoc o inner rest)) h.opens;
  early = let l = length-append o inner in let lt = h.early in omega (arith, l, lt);
}

-- deeper than level 65, level 65 was opened before
earlier_deep : {o : List ℕ} {depth : ℕ} → Awaits o depth → 64 < depth → (rest : List ℕ) → EarlierDeep (o ++ rest) o
earlier_deep (outermost w blank) lt rest = absurd (omega (arith, lt))
earlier_deep (element o a w depth ys aw b blank) lt rest = elim (cases_lt 64 depth) [
  | inl more ↦ earlier_before o (91 ∷ (a ++ w)) rest (earlier_deep aw more ((91 ∷ (a ++ w)) ++ rest))
  | inr few ↦ earlier_here o (a ++ w) rest 91 depth aw (omega (arith, lt, few)) (inl refl)
]
earlier_deep (member_value o a l q r w name depth ys aw b wl quoted wr blank) lt rest = elim (cases_lt 64 depth) [
  | inl more ↦ earlier_before o (123 ∷ (a ++ l ++ q ++ r ++ 58 ∷ w)) rest (earlier_deep aw more ((123 ∷ (a ++ l ++ q ++ r ++ 58 ∷ w)) ++ rest))
  | inr few ↦ earlier_here o (a ++ l ++ q ++ r ++ 58 ∷ w) rest 123 depth aw (omega (arith, lt, few)) (inr refl)
]

-- a bracket that breaks the limit
record Nested (k : List Frame) (n b : ℕ) (l : Limit) : Type 0 where
  is : l ≡ deep n
  opens : (b ≡ 91) ⊎ (b ≡ 123)
  many : 64 ≤ length k

record NestsOnly (k : List Frame) (n b : ℕ) (move : Move) : Type 0 where
  nests : (l : Limit) → move.breaks ≡ Some l → Nested k n b l

either : (k : List Frame) (n b : ℕ) (c : Bool) (x y : Move) → (c ≡ true → NestsOnly k n b x) → NestsOnly k n b y → NestsOnly k n b (cond c x y)
either k n b true x y p q = p refl
either k n b false x y p q = q

never : (k : List Frame) (n b : ℕ) (o : Option State) → NestsOnly k n b (plain o)
never k n b o = record { nests = λ l e. absurd cc }

nested_nests : (k : List Frame) (frame : Frame) (mode : Mode) (n b : ℕ) → (b ≡ 91) ⊎ (b ≡ 123) → NestsOnly k n b (nested k frame mode n)
nested_nests k frame mode n b opens = record {
  nests = λ l e. elim (chosen {A = Option Limit} (leb 64 (length k)) (Some (deep n)) None (Some l) e) [
    | inl p ↦ record { is = sym (some_is (deep n) l p.1); opens = opens; many = many (length k) p.0 }
    | inr p ↦ absurd cc
  ];
}
  where
    many : (d : ℕ) → leb 64 d ≡ true → 64 ≤ d
    many d h = grind (arith, nat_tests)

begin_nests : (k : List Frame) (n b : ℕ) → NestsOnly k n b (begin_of k n b)
begin_nests k n b =
    either k n b (is_blank_byte b) _ _ (λ e. never k n b (Some (at k Value)))
    (either k n b (eqb b 34) _ _ (λ e. never k n b (Some (at k (Quoted false Plain [] n))))
    (either k n b (eqb b 91) _ _ (λ e. nested_nests k (frames.List []) First n b (inl (eqb-true b 91 e)))
    (either k n b (eqb b 123) _ _ (λ e. nested_nests k (frames.Object []) FirstName n b (inr (eqb-true b 123 e))) (never k n b (scalar_of k n b)))))

first_nests : (k : List Frame) (n b : ℕ) → NestsOnly k n b (step_in k First n b)
first_nests k n b = either k n b (is_blank_byte b) _ _ (λ e. never k n b (Some (at k First))) (either k n b (eqb b 93) _ _ (λ e. never k n b (close_list_of k)) (begin_nests k n b))

-- the first limit of depth that is met is level 65
deep_fault : (bytes x rest : List ℕ) (b : ℕ) (t : State) (k : List Frame) (l : Limit) → bytes ≡ x ++ b ∷ rest → Clean x 0 start t → Awaits x (length k) → Nested k (length x) b l → HasFault bytes (limit_fault l)
deep_fault bytes x rest b t k l is clean aw h = elim (cases_lt 64 (length k)) [
  | inr few ↦ subst (λ (m : Limit). HasFault bytes (limit_fault m)) (sym h.is) (record { before = x; bracket = b; rest = rest; is = is; place = refl; awaits = subst (λ (d : ℕ). Awaits x d) (let le = h.many in omega (arith, few, le)) aw; opens = h.opens })
  | inl more ↦
      let e = earlier_deep aw more (b ∷ rest) in
      let opens : OpensTooDeep bytes e.place = subst (λ (y : List ℕ). OpensTooDeep y e.place) (sym is) e.opens in
      absurd (early (deep_hit bytes e.place opens) (deep_hit_at bytes e.place opens) e.early)
]
  where
    early : {place : ℕ} → (hit : Hit bytes (deep place)) → length hit.x ≡ place → place < length x → ⊥
    early {place} hit e lt = let met = (ahead bytes x (b ∷ rest) t (deep place) is clean hit).met_at in omega (arith, met, e, lt)

-- ---- names

twice : (bytes x rest : List ℕ) (k : List Frame) (ys : List Member) (name : List ℕ) (from : ℕ) → bytes ≡ x ++ 34 ∷ rest → TakesValue k → Reads (frames.Object ys ∷ k) (Quoted true Plain name from) x → is_utf8 name ≡ true → has_name ys name ≡ true → IsDuplicate bytes from
twice bytes x rest k ys name from is h r utf8 has =
    let i = r.inside in
    record {
      before = i.p ++ i.l;
      members = i.a;
      blank = r.l;
      quoted = 34 ∷ (r.m ++ 34 ∷ []);
      rest = rest;
      depth = length k;
      earlier = ys;
      name = name;
      is = text r.o r.l r.m i.p i.l i.a r.is i.is;
      place = r.from_is ∙ ap (λ (y : List ℕ). length (y ++ r.l)) i.is ∙ ap length (counted i.p i.l i.a r.l);
      awaits = awaits_of k i.p i.l h i.inside i.blank;
      named = i.named;
      are_blank = r.blank;
      spells = record { raw = r.m; is = refl; pieces = bits_pieces r.m name (writes_bits r.m name r.writes) (IsUtf8-from_is_utf8 name utf8) };
      again = from_has ys name has;
    }
  where
    text : (o l m p l' a : List ℕ) → x ≡ o ++ (l ++ (34 ∷ m)) → o ≡ p ++ (l' ++ (123 ∷ a)) → bytes ≡ (p ++ l') ++ 123 ∷ (a ++ l ++ (34 ∷ (m ++ 34 ∷ [])) ++ rest)
    text o l m p l' a e f = is ∙ ap (λ (y : List ℕ). y ++ 34 ∷ rest) (e ∙ ap (λ (y : List ℕ). y ++ (l ++ (34 ∷ m))) f) ∙ simp append_assoc

    counted : (p l' a l : List ℕ) → (p ++ (l' ++ (123 ∷ a))) ++ l ≡ (p ++ l') ++ 123 ∷ (a ++ l)
    counted p l' a l = simp append_assoc

-- a limit that a name's closing quote breaks
record Twice (bytes : List ℕ) (from : ℕ) (move : Move) : Type 0 where
  double : (l : Limit) → move.breaks ≡ Some l → HasFault bytes (limit_fault l)

never_twice : (bytes : List ℕ) (from : ℕ) (o : Option State) → Twice bytes from (plain o)
never_twice bytes from o = record { double = λ l e. absurd cc }

named_twice : (bytes x rest : List ℕ) (k : List Frame) (name : List ℕ) (from : ℕ) → bytes ≡ x ++ 34 ∷ rest → Fits (Quoted true Plain name from) k → Reads k (Quoted true Plain name from) x → is_utf8 name ≡ true → Twice bytes from (named_of k name from)
named_twice bytes x rest [] name from is h r utf8 = absurd h
named_twice bytes x rest (frames.List ys ∷ k) name from is h r utf8 = absurd h
named_twice bytes x rest (frames.Member ys other ∷ k) name from is h r utf8 = absurd h
named_twice bytes x rest (frames.Object ys ∷ k) name from is h r utf8 = record {
  double = λ l e. elim (chosen {A = Option Limit} (has_name ys name) (Some (double from)) None (Some l) e) [
    | inl p ↦ subst (λ (m : Limit). HasFault bytes (limit_fault m)) (some_is (double from) l p.1) (twice bytes x rest k ys name from is h r utf8 p.0)
    | inr p ↦ absurd cc
  ];
}

unquote_twice : (bytes x rest : List ℕ) (k : List Frame) (is_name : Bool) (name : List ℕ) (from : ℕ) → bytes ≡ x ++ 34 ∷ rest → Fits (Quoted is_name Plain name from) k → Reads k (Quoted is_name Plain name from) x → Twice bytes from (unquote_of k is_name name from)
unquote_twice bytes x rest k false name from is h r = go (text_of name)
  where
    go : (o : Option (List ℕ)) → Twice bytes from (option_map_or (λ t. goes (at k (After (trees.Text t)))) o refused)
    go None = never_twice bytes from None
    go (Some t) = never_twice bytes from _
unquote_twice bytes x rest k true name from is h r = go (is_utf8 name) refl
  where
    go : (b : Bool) → is_utf8 name ≡ b → Twice bytes from (option_map_or (λ t. named_of k t from) (cond {A = Option (List ℕ)} b (Some name) None) refused)
    go true e = named_twice bytes x rest k name from is h r e
    go false e = never_twice bytes from None

quoted_twice : (bytes x rest : List ℕ) (b : ℕ) (k : List Frame) (is_name : Bool) (piece : pieces.Piece) (name : List ℕ) (from n : ℕ) → bytes ≡ x ++ b ∷ rest → Fits (Quoted is_name piece name from) k → Reads k (Quoted is_name piece name from) x → Twice bytes from (step_in k (Quoted is_name piece name from) n b)
quoted_twice bytes x rest b k is_name Plain name from n is h r = go (eqb b 34) refl
  where
    go : (c : Bool) → eqb b 34 ≡ c → Twice bytes from (cond c (unquote_of k is_name name from) (plain (grown_of k is_name Plain name from b)))
    go true e = unquote_twice bytes x rest k is_name name from (subst (λ (i : ℕ). bytes ≡ x ++ i ∷ rest) (eqb-true b 34 e) is) h r
    go false e = never_twice bytes from _
quoted_twice bytes x rest b k is_name Slash name from n is h r = never_twice bytes from _
quoted_twice bytes x rest b k is_name Units name from n is h r = never_twice bytes from _
quoted_twice bytes x rest b k is_name (Unit1 d) name from n is h r = never_twice bytes from _
quoted_twice bytes x rest b k is_name (Unit2 d) name from n is h r = never_twice bytes from _
quoted_twice bytes x rest b k is_name (Unit3 d) name from n is h r = never_twice bytes from _
quoted_twice bytes x rest b k is_name (Pair d) name from n is h r = never_twice bytes from _
quoted_twice bytes x rest b k is_name (PairSlash d) name from n is h r = never_twice bytes from _
quoted_twice bytes x rest b k is_name (Low d) name from n is h r = never_twice bytes from _
quoted_twice bytes x rest b k is_name (Low1 d) name from n is h r = never_twice bytes from _
quoted_twice bytes x rest b k is_name (Low2 d e) name from n is h r = never_twice bytes from _
quoted_twice bytes x rest b k is_name (Low3 d e) name from n is h r = never_twice bytes from _

-- ---- numbers

mantissa_literal : (m : List ℕ) → IsMantissa m → Literal m
mantissa_literal m h = subst Literal (append-nil (h.s ++ h.w ++ h.f) ∙ sym h.is) (literal h.s h.w h.f [] h.minus h.whole h.fraction grammar.no_power)

integer_literal : (i : List ℕ) → IsInteger i → Literal i
integer_literal i h = subst Literal (append-nil (h.s ++ h.w ++ []) ∙ append-nil (h.s ++ h.w) ∙ sym h.is) (literal h.s h.w [] [] h.minus h.whole grammar.no_fraction grammar.no_power)

-- the longest whole number of what was read, which is too wide
record Judged (part : Part) (ds : List ℕ) (from : ℕ) (l : Limit) : Type 0 where
  number : List ℕ
  tail : List ℕ
  is : ds ≡ number ++ tail
  whole : Literal number
  too_wide : is_wide number ≡ true
  limit : l ≡ wide from
  behind : behind_whole part ≡ Some (length tail)

judged_front : (part : Part) (ds number tail : List ℕ) (from : ℕ) (l : Limit) → ds ≡ number ++ tail → Literal number → behind_whole part ≡ Some (length tail) → wide_of number from ≡ Some l → Judged part ds from l
judged_front part ds number tail from l is whole behind e = elim (chosen {A = Option Limit} (is_wide number) (Some (wide from)) None (Some l) e) [
  | inl p ↦ record { number = number; tail = tail; is = is; whole = whole; too_wide = p.0; limit = sym (some_is (wide from) l p.1); behind = behind }
  | inr p ↦ absurd cc
]

judged_whole : (part : Part) (ds : List ℕ) (from : ℕ) (l : Limit) → is_whole part ≡ true → InPart part ds → wide_of ds from ≡ Some l → Judged part ds from l
judged_whole part ds from l w h e = judged_front part ds ds [] from l (sym (append-nil ds)) (part_literal part ds w h) (whole_behind part w) e

judged_cut : (part : Part) (ds number tail : List ℕ) (c from : ℕ) (l : Limit) → ds ≡ number ++ tail → Literal number → c ≡ length tail → behind_whole part ≡ Some c → wide_of (take (length ds - c) ds) from ≡ Some l → Judged part ds from l
judged_cut part ds number tail c from l is whole count behind e =
    let same : take (length ds - c) ds ≡ number = subst (λ (y : List ℕ). take (length y - c) y ≡ number) (sym is) (front_is number tail c count) in
    judged_front part ds number tail from l is whole (behind ∙ ap (λ (i : ℕ). Some i) count) (subst (λ (y : List ℕ). wide_of y from ≡ Some l) same e)

judged : (part : Part) (ds : List ℕ) (from : ℕ) (l : Limit) → InPart part ds → ended_breaks part ds from ≡ Some l → Judged part ds from l
judged parts.Minus ds from l h e = absurd cc
judged parts.Zero ds from l h e = judged_whole parts.Zero ds from l refl h e
judged parts.Whole ds from l h e = judged_whole parts.Whole ds from l refl h e
judged parts.Point ds from l h e = judged_cut parts.Point ds h.i (46 ∷ []) 1 from l h.is (integer_literal h.i h.integer) refl refl e
judged parts.Fraction ds from l h e = judged_whole parts.Fraction ds from l refl h e
judged parts.Mark ds from l h e = judged_cut parts.Mark ds h.m (h.mark ∷ []) 1 from l h.is (mantissa_literal h.m h.mantissa) refl refl e
judged parts.Sign ds from l h e = judged_cut parts.Sign ds h.m (h.mark ∷ h.s ∷ []) 2 from l h.is (mantissa_literal h.m h.mantissa) refl refl e
judged parts.Power ds from l h e = judged_whole parts.Power ds from l refl h e

-- one more byte of a number, or its end
record Stepped (k : List Frame) (q : Part) (ds : List ℕ) (from b : ℕ) (t : State) : Type 0 where
  part : Part
  on : next_part q b ≡ Some part
  is : t ≡ at k (Number part (ds ++ b ∷ []) from)

number_step : (k : List Frame) (q : Part) (ds : List ℕ) (from n b : ℕ) (t : State) → (step_of (at k (Number q ds from)) n b).next ≡ Some t → from_of t.mode ≡ Some from → from < n → Stepped k q ds from b t
number_step k q ds from n b t e f lt = go (next_part q b) refl
  where
    go : (o : Option Part) → next_part q b ≡ o → Stepped k q ds from b t
    go None g = let same = ended_leaves k q ds from n b t from g e f in absurd (omega (arith, same, lt))
    go (Some r) g = record { part = r; on = g; is = some_is t (at k (Number r (ds ++ b ∷ []) from)) (sym e ∙ number_goes k q r ds from n b g) }

part_of : (q part : Part) (ds ds' : List ℕ) (from : ℕ) → Number q ds from ≡ Number part ds' from → q ≡ part
part_of q part ds ds' from e = cc

-- behind a whole number, a byte at a time
behind_run : {z : List ℕ} {n : ℕ} {s t : State} → Leads z n s t → (k : List Frame) (q part : Part) (ds ds' : List ℕ) (from : ℕ) → s ≡ at k (Number q ds from) → t.mode ≡ Number part ds' from → from < n → (m c : ℕ) → behind_whole q ≡ Some m → behind_whole part ≡ Some c → c ≤ m + length z
behind_run (stays n s) k q part ds ds' from e f lt m c g h =
    let same : q ≡ part = part_of q part ds ds' from (sym (ap (λ (x : State). x.mode) e) ∙ f) in
    let count : m ≡ c = count_is m c (sym g ∙ ap behind_whole same ∙ h) in
    omega (arith, count)
behind_run (steps b z n s t u e l) k q part ds ds' from i f lt m c g h =
    let e' : (step_of (at k (Number q ds from)) n b).next ≡ Some t = subst (λ (x : State). (step_of x n b).next ≡ Some t) i e in
    let st = number_step k q ds from n b t e' (token_back l from (omega (arith, lt)) (ap from_of f)) lt in
    let next : Behind m (Some st.part) = subst (λ (o : Option Part). Behind m o) st.on (part_steps q b m g).behind in
    let later : (m' : ℕ) → behind_whole st.part ≡ Some m' → c ≤ m' + length z = λ m' g'. behind_run l k st.part part (ds ++ b ∷ []) ds' from st.is f (omega (arith, lt)) m' c g' h in
    elim next [
      | inl w ↦ let le = later 0 (whole_behind st.part w) in omega (arith, le)
      | inr p ↦ let le = later (m + 1) p in omega (arith, le)
    ]

-- no longer number begins there
no_longer : (o ds number tail rest : List ℕ) (depth : ℕ) (k : List Frame) (part : Part) → Awaits o depth → Leads (o ++ ds) 0 start (at k (Number part ds (length o))) → ds ≡ number ++ tail → 0 < length ds → behind_whole part ≡ Some (length tail) → NoMore part rest
    → (more others : List ℕ) → tail ++ rest ≡ more ++ others → Literal (number ++ more) → more ≡ []
no_longer o ds number tail rest depth k part aw leads is filled behind ends more others e l =
    let n : ℕ = length o in
    let t : State = at k (Number part ds n) in
    let w = awaits_went aw in
    let c = leads_cut o ds 0 start t leads in
    let same : c.state ≡ w.state = leads_one c.leads w.leads in
    let ran : Leads ds n w.state t = subst (λ (s : State). Leads ds n s t) same (subst (λ (i : ℕ). Leads ds i c.state t) (omega arith) c.goes_on) in
    let z = literal_led (number ++ more) l w.stack w.state w.begins n in
    let u : State = at w.stack (Number z.part (number ++ more) n) in
    let text : (number ++ more) ++ others ≡ ds ++ rest = append_assoc number more others ∙ ap (λ (y : List ℕ). number ++ y) (sym e) ∙ sym (append_assoc number tail rest) ∙ ap (λ (y : List ℕ). y ++ rest) (sym is) in
    let head = literal_head l in
    let some : length (number ++ more) ≡ length (head.byte ∷ head.more) = ap length head.is in
    elim (overlap (number ++ more) others ds rest text) [
      | past y f g ↦
          let d = leads_cut (number ++ more) y n w.state t (subst (λ (x : List ℕ). Leads x n w.state t) f ran) in
          let here : d.state ≡ u = leads_one d.leads z.leads in
          let le : length tail ≤ 0 + length y = behind_run d.goes_on w.stack z.part part (number ++ more) ds n here refl (omega (arith, some)) 0 (length tail) (whole_behind z.part z.is) behind in
          let long : length ds ≡ length number + length tail = ap length is ∙ length-append number tail in
          let long' : length ds ≡ length (number ++ more) + length y = ap length f ∙ length-append (number ++ more) y in
          let long'' = length-append number more in
          nothing_more more (omega (arith, le, long, long', long''))
      | within b y f g ↦
          let d = leads_cut ds (b ∷ y) n w.state u (subst (λ (x : List ℕ). Leads x n w.state u) f z.leads) in
          let here : d.state ≡ t = leads_one d.leads ran in
          absurd (stops b y d.state u here d.goes_on refl (subst (λ (x : List ℕ). NoMore part x) g ends) filled)
    ]
  where
    stops : (b : ℕ) (y : List ℕ) (s u : State) → s ≡ at k (Number part ds (length o)) → Leads (b ∷ y) (length o + length ds) s u → from_of u.mode ≡ Some (length o) → next_part part b ≡ None → 0 < length ds → ⊥
    stops b y s u same (steps _ _ _ _ v _ f m) h none some =
        let back : from_of v.mode ≡ Some (length o) = token_back m (length o) (omega (arith, some)) h in
        let f' : (step_of (at k (Number part ds (length o))) (length o + length ds) b).next ≡ Some v = subst (λ (x : State). (step_of x (length o + length ds) b).next ≡ Some v) same f in
        let q = ended_leaves k part ds (length o) (length o + length ds) b v (length o) none f' back in
        omega (arith, q, some)

number_fault : (bytes x rest : List ℕ) (k : List Frame) (part : Part) (ds : List ℕ) (from : ℕ) (l : Limit) → bytes ≡ x ++ rest → Leads x 0 start (at k (Number part ds from)) → NoMore part rest → ended_breaks part ds from ≡ Some l → HasFault bytes (limit_fault l)
number_fault bytes x rest k part ds from l is leads ends e =
    let r = reads_from_start x (at k (Number part ds from)) leads in
    let j = judged part ds from l r.so_far e in
    let o : List ℕ = r.o ++ r.l in
    let aw : Awaits o (length k) = awaits_of k r.o r.l (start_fits leads) r.inside r.blank in
    let text : x ≡ o ++ ds = r.is ∙ sym (append_assoc r.o r.l ds) in
    let here : Leads (o ++ ds) 0 start (at k (Number part ds (length o))) = subst (λ (y : List ℕ). Leads y 0 start (at k (Number part ds (length o)))) text (subst (λ (i : ℕ). Leads x 0 start (at k (Number part ds i))) r.from_is leads) in
    let head = literal_head j.whole in
    let some : length j.number ≡ length (head.byte ∷ head.more) = ap length head.is in
    let long : length ds ≡ length j.number + length j.tail = ap length j.is ∙ length-append j.number j.tail in
    let wide_one : IsTooWide bytes from = record {
      before = o;
      number = j.number;
      rest = j.tail ++ rest;
      depth = length k;
      is = is ∙ ap (λ (y : List ℕ). y ++ rest) (text ∙ ap (λ (y : List ℕ). o ++ y) j.is) ∙ simp append_assoc;
      place = r.from_is;
      awaits = aw;
      literal = j.whole;
      longest = no_longer o ds j.number j.tail rest (length k) k part aw here j.is (omega (arith, some, long)) j.behind ends;
      wide = j.too_wide;
    } in
    subst (λ (m : Limit). HasFault bytes (limit_fault m)) (sym j.limit) wide_one

-- ---- every limit

awaits_value : (k : List Frame) (x : List ℕ) → TakesValue k → Reads k Value x → Awaits x (length k)
awaits_value k x h r = subst (λ (y : List ℕ). Awaits y (length k)) (sym r.is) (awaits_of k r.o r.l h r.inside r.blank)

awaits_first : (k : List Frame) (x : List ℕ) → TakesValue k → Reads k First x → Awaits x (length k)
awaits_first [] x h r = absurd r
awaits_first (frames.List [] ∷ k) x h r = one_more (frames.List []) k x (subst (λ (y : List ℕ). Awaits y (length k + 1)) (sym (r.is ∙ sym (append_assoc r.p r.l (91 ∷ r.w)))) (element (r.p ++ r.l) [] r.w (length k) [] (awaits_of k r.p r.l h r.inside r.blank) grammar.none r.behind))
awaits_first (frames.List (y ∷ ys) ∷ k) x h r = absurd r
awaits_first (frames.Object ys ∷ k) x h r = absurd h
awaits_first (frames.Member ys name ∷ k) x h r = absurd r

end_fault : (bytes x : List ℕ) (k : List Frame) (mode : Mode) (l : Limit) → bytes ≡ x → Leads x 0 start (at k mode) → end_breaks_in mode ≡ Some l → HasFault bytes (limit_fault l)
end_fault bytes x k Value l is leads e = absurd cc
end_fault bytes x k First l is leads e = absurd cc
end_fault bytes x k FirstName l is leads e = absurd cc
end_fault bytes x k Name l is leads e = absurd cc
end_fault bytes x k Colon l is leads e = absurd cc
end_fault bytes x k (Word y) l is leads e = absurd cc
end_fault bytes x k (Number part ds from) l is leads e = number_fault bytes x [] k part ds from l (is ∙ sym (append-nil x)) leads tt e
end_fault bytes x k (Quoted is_name piece name from) l is leads e = absurd cc
end_fault bytes x k (After v) l is leads e = absurd cc

number_byte : (bytes x rest : List ℕ) (b : ℕ) (k : List Frame) (part : Part) (ds : List ℕ) (from : ℕ) (l : Limit) → bytes ≡ x ++ b ∷ rest → Leads x 0 start (at k (Number part ds from)) → (number_move k part ds from b).breaks ≡ Some l → HasFault bytes (limit_fault l)
number_byte bytes x rest b k part ds from l is leads e = go (next_part part b) refl e
  where
    go : (o : Option Part) → next_part part b ≡ o → (option_map_or (λ p. goes (at k (Number p (ds ++ b ∷ []) from))) o (ended_move k part ds from b)).breaks ≡ Some l → HasFault bytes (limit_fault l)
    go None f h = number_fault bytes x (b ∷ rest) k part ds from l is leads f h
    go (Some p) f h = absurd cc

byte_fault : (bytes x rest : List ℕ) (b : ℕ) (k : List Frame) (mode : Mode) (l : Limit) → bytes ≡ x ++ b ∷ rest → Clean x 0 start (at k mode) → (step_in k mode (length x) b).breaks ≡ Some l → HasFault bytes (limit_fault l)
byte_fault bytes x rest b k Value l is clean e = let leads = clean_leads clean in deep_fault bytes x rest b (at k Value) k l is clean (awaits_value k x (start_fits leads) (reads_from_start x (at k Value) leads)) ((begin_nests k (length x) b).nests l e)
byte_fault bytes x rest b k First l is clean e = let leads = clean_leads clean in deep_fault bytes x rest b (at k First) k l is clean (awaits_first k x (start_fits leads) (reads_from_start x (at k First) leads)) ((first_nests k (length x) b).nests l e)
byte_fault bytes x rest b k FirstName l is clean e = absurd cc
byte_fault bytes x rest b k Name l is clean e = absurd cc
byte_fault bytes x rest b k Colon l is clean e = absurd cc
byte_fault bytes x rest b k (Word y) l is clean e = absurd cc
byte_fault bytes x rest b k (Number part ds from) l is clean e = number_byte bytes x rest b k part ds from l is (clean_leads clean) e
byte_fault bytes x rest b k (Quoted is_name piece name from) l is clean e =
    let leads = clean_leads clean in
    (quoted_twice bytes x rest b k is_name piece name from (length x) is (start_fits leads) (reads_from_start x (at k (Quoted is_name piece name from)) leads)).double l e
byte_fault bytes x rest b k (After v) l is clean e = absurd cc

pub limit_has : (bytes x rest : List ℕ) (t : State) (l : Limit) → bytes ≡ x ++ rest → Clean x 0 start t → BreaksAt rest (length x) t l → HasFault bytes (limit_fault l)
unfolding step_of end_breaks
limit_has bytes x [] t l is clean e = end_fault bytes x t.stack t.mode l (is ∙ append-nil x) (clean_leads clean) e
limit_has bytes x (b ∷ rest) t l is clean e = byte_fault bytes x rest b t.stack t.mode l is clean e

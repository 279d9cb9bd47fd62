-- The machine takes each front, and comes to each place where a value may begin.
use Rattle.std.proofs.Common.{◌≡◌, ℕ, ◌+◌, List, [], ◌∷◌, ◌++◌, length, Bool, true, false, Some, refl, sym, subst, arith, inl, inr, append_assoc}
use Rattle.sc_json.specs.declared.tree.Json.{Json}
use Rattle.sc_json.specs.declared.tree.Member.{Member}
use Rattle.sc_json.specs.declared.state.State.{State}
use Rattle.sc_json.specs.declared.state.Frame.{Frame}
use Rattle.sc_json.specs.declared.state.Frame.TheVariants as frames
use Rattle.sc_json.specs.declared.state.Mode.TheVariants.{Value, First, FirstName, Name, Colon}
use Rattle.sc_json.specs.declared.state.Piece.TheVariants.{Plain}
use Rattle.sc_json.specs.Machine.{at, start, step_of}
use Rattle.sc_json.specs.Grammar as grammar
use Rattle.sc_json.specs.Grammar.{AreBlanks, Pieces, Quoted, Literal, Padded, null_text, true_text, false_text}
use Rattle.sc_json.specs.Fronts.{IsWord, Escape, by_letter, by_unit, by_pair, TextFront, unclosed, Front, nothing, whole, in_word, in_number, in_text, in_list, in_object, PaddedFront, before, behind, MemberFront, no_name, in_name, named, at_value}
use Rattle.sc_json.specs.Faults.{Awaits, outermost, element, member_value}
use Rattle.sc_json.proofs.Steps.{Leads, stays, steps, leads_on, within}
use Rattle.sc_json.proofs.Texts.{pieces_go, piece_goes}
use Rattle.sc_json.proofs.Values.{Begins, begins_value, blanks_lead, value_rests, colon_rests, list_opens, object_opens, colon_goes}
use Rattle.sc_json.proofs.Complete.{from_begins, BeginsName, name_from, quoted_from, value_reaches, padded_reaches, begun_opens, named_opens}
use Rattle.sc_json.proofs.Literals.{numbers}

-- where these bytes lead
pub record Went (f : List ℕ) (n : ℕ) (s : State) : Type 0 where
  pub state : State
  pub leads : Leads f n s state

-- a run, cut in two
pub record Cut (f rest : List ℕ) (n : ℕ) (s t : State) : Type 0 where
  pub state : State
  pub leads : Leads f n s state
  pub goes_on : Leads rest (n + length f) state t

pub leads_cut : (f rest : List ℕ) (n : ℕ) (s t : State) → Leads (f ++ rest) n s t → Cut f rest n s t
leads_cut [] rest n s t l = record { state = s; leads = stays n s; goes_on = subst (λ (i : ℕ). Leads rest i s t) (omega arith) l }
leads_cut (b ∷ f) rest n s t (steps _ _ _ _ u _ e l) =
    let r = leads_cut f rest (n + 1) u t l in
    record { state = r.state; leads = steps b f n s u r.state e r.leads; goes_on = subst (λ (i : ℕ). Leads rest i r.state t) (omega arith) r.goes_on }

-- what begins such bytes leads somewhere too
begins_such : (f rest : List ℕ) (n : ℕ) (s : State) → Went (f ++ rest) n s → Went f n s
begins_such f rest n s w = let r = leads_cut f rest n s w.state w.leads in record { state = r.state; leads = r.leads }

value_went : (m : List ℕ) (v : Json) → grammar.Value m v → (k : List Frame) (s : State) → Begins s k → (n : ℕ) → Went m n s
value_went m v d k s h n = let r = value_reaches numbers d k s h n in record { state = r.state; leads = r.leads }

word_went : (m : List ℕ) → IsWord m → (k : List Frame) (s : State) → Begins s k → (n : ℕ) → Went m n s
word_went m (inl e) k s h n = subst (λ (x : List ℕ). Went x n s) (sym e) (value_went null_text _ grammar.null k s h n)
word_went m (inr (inl e)) k s h n = subst (λ (x : List ℕ). Went x n s) (sym e) (value_went true_text _ grammar.yes k s h n)
word_went m (inr (inr e)) k s h n = subst (λ (x : List ℕ). Went x n s) (sym e) (value_went false_text _ grammar.no k s h n)

pub literal_went : (ds : List ℕ) → Literal ds → (k : List Frame) (s : State) → Begins s k → (n : ℕ) → Went ds n s
literal_went ds l k s h n = value_went ds _ (grammar.number ds l) k s h n

-- ---- texts in quotes

escape_went : (m : List ℕ) → Escape m → (k : List Frame) (is_name : Bool) (bytes : List ℕ) (from n : ℕ) → Went m n (within k is_name Plain bytes from)
escape_went m (by_letter _ stands r) k is_name bytes from n = record { state = _; leads = piece_goes (grammar.letter m stands r) k is_name bytes from n }
escape_went m (by_unit _ stands r) k is_name bytes from n = record { state = _; leads = piece_goes (grammar.unit m stands r) k is_name bytes from n }
escape_went m (by_pair _ stands r) k is_name bytes from n = record { state = _; leads = piece_goes (grammar.pair m stands r) k is_name bytes from n }

unclosed_went : (raw bytes e rest : List ℕ) → Pieces raw bytes → Escape (e ++ rest) → (k : List Frame) (is_name : Bool) (from n : ℕ) → Went (raw ++ e) n (within k is_name Plain [] from)
unclosed_went raw bytes e rest p x k is_name from n =
    let r = begins_such e rest (n + length raw) (within k is_name Plain bytes from) (escape_went (e ++ rest) x k is_name bytes from (n + length raw)) in
    record { state = r.state; leads = leads_on (pieces_go p k is_name from n) e (n + length raw) r.state refl r.leads }

quote_begins : (k : List Frame) (n : ℕ) → (step_of (at k Value) n 34).next ≡ Some (within k false Plain [] n)
unfolding step_of
quote_begins k n = refl

pub name_begins : (k : List Frame) (n : ℕ) → (step_of (at k Name) n 34).next ≡ Some (within k true Plain [] n)
unfolding step_of
name_begins k n = refl

text_went : (f : List ℕ) → TextFront f → (k : List Frame) (s : State) → Begins s k → (n : ℕ) → Went f n s
text_went _ (unclosed raw bytes e rest p x) k s h n =
    let r = unclosed_went raw bytes e rest p x k false n (n + 1) in
    record { state = r.state; leads = from_begins s k h 34 (raw ++ e) n r.state refl (λ q. absurd (omega (arith, q))) (steps 34 (raw ++ e) n (at k Value) (within k false Plain [] n) r.state (quote_begins k n) r.leads) }

name_went : (f : List ℕ) → TextFront f → (k : List Frame) (ms : List Member) (s : State) → BeginsName s k ms → (n : ℕ) → Went f n s
name_went _ (unclosed raw bytes e rest p x) k ms s h n =
    let o : List Frame = frames.Object ms ∷ k in
    let r = unclosed_went raw bytes e rest p x o true n (n + 1) in
    record { state = r.state; leads = name_from s k ms h (raw ++ e) n r.state (steps 34 (raw ++ e) n (at o Name) (within o true Plain [] n) r.state (name_begins o n) r.leads) }

-- ---- fronts

-- a name between white space
name_leads : (l q r name : List ℕ) → AreBlanks l → Quoted q name → AreBlanks r → (k : List Frame) (ms : List Member) (s : State) → BeginsName s k ms → (n : ℕ) → Leads (l ++ q ++ r) n s (at (frames.Member ms name ∷ k) Colon)
name_leads l q r name wl quoted wr k ms s h n =
    let inner : List Frame = frames.Member ms name ∷ k in
    let one = leads_on (blanks_lead s h.rests l wl n) q (n + length l) (at inner Colon) refl (quoted_from s k ms h q name quoted (n + length l)) in
    leads_on one r (n + length (l ++ q)) (at inner Colon) refl (blanks_lead (at inner Colon) (colon_rests inner) r wr (n + length (l ++ q)))

mutual
  pub front_went : {f : List ℕ} → Front f → (k : List Frame) (s : State) → Begins s k → (n : ℕ) → Went f n s
  front_went nothing k s h n = record { state = s; leads = stays n s }
  front_went (whole m v d) k s h n = value_went m v d k s h n
  front_went (in_word f rest w) k s h n = begins_such f rest n s (word_went (f ++ rest) w k s h n)
  front_went (in_number f rest l) k s h n = begins_such f rest n s (literal_went (f ++ rest) l k s h n)
  front_went (in_text f t) k s h n = text_went f t k s h n
  front_went (in_list a f ys b p) k s h n =
      let o = begun_opens numbers b k (n + 1) in
      let r = padded_went p (frames.List ys ∷ k) o.state o.begins (n + 1 + length a) in
      record { state = r.state; leads = from_begins s k h 91 (a ++ f) n r.state refl (λ e. absurd (omega (arith, e))) (steps 91 (a ++ f) n (at k Value) (at (frames.List [] ∷ k) First) r.state (list_opens k n) (leads_on o.leads f (n + 1 + length a) r.state refl r.leads)) }
  front_went (in_object a f ys b m) k s h n =
      let o = named_opens numbers b k (n + 1) in
      let r = member_went m k ys o.state o.begins (n + 1 + length a) in
      record { state = r.state; leads = from_begins s k h 123 (a ++ f) n r.state refl (λ e. absurd (omega (arith, e))) (steps 123 (a ++ f) n (at k Value) (at (frames.Object [] ∷ k) FirstName) r.state (object_opens k n) (leads_on o.leads f (n + 1 + length a) r.state refl r.leads)) }

  pub padded_went : {f : List ℕ} → PaddedFront f → (k : List Frame) (s : State) → Begins s k → (n : ℕ) → Went f n s
  padded_went (before l f w d) k s h n =
      let r = front_went d k s h (n + length l) in
      record { state = r.state; leads = leads_on (blanks_lead s h.rests l w n) f (n + length l) r.state refl r.leads }
  padded_went (behind c v d) k s h n = let r = padded_reaches numbers d k s h n in record { state = r.state; leads = r.leads }

  pub member_went : {f : List ℕ} → MemberFront f → (k : List Frame) (ms : List Member) (s : State) → BeginsName s k ms → (n : ℕ) → Went f n s
  member_went (no_name l w) k ms s h n = record { state = s; leads = blanks_lead s h.rests l w n }
  member_went (in_name l f w t) k ms s h n =
      let r = name_went f t k ms s h (n + length l) in
      record { state = r.state; leads = leads_on (blanks_lead s h.rests l w n) f (n + length l) r.state refl r.leads }
  member_went (named l q r name wl quoted wr) k ms s h n = record { state = at (frames.Member ms name ∷ k) Colon; leads = name_leads l q r name wl quoted wr k ms s h n }
  member_went (at_value l q r f name wl quoted wr p) k ms s h n =
      let inner : List Frame = frames.Member ms name ∷ k in
      let v = padded_went p inner (at inner Value) (begins_value inner) (n + length (l ++ q ++ r) + 1) in
      record { state = v.state; leads = leads_on (name_leads l q r name wl quoted wr k ms s h n) (58 ∷ f) (n + length (l ++ q ++ r)) v.state refl (steps 58 f (n + length (l ++ q ++ r)) (at inner Colon) (at inner Value) v.state (colon_goes inner (n + length (l ++ q ++ r))) v.leads) }

pub text_front_went : (f : List ℕ) → PaddedFront f → Went f 0 start
text_front_went f p = padded_went p [] start (begins_value []) 0

-- ---- where a value may begin

pub record Waits (o : List ℕ) (depth : ℕ) : Type 0 where
  pub stack : List Frame
  pub state : State
  pub leads : Leads o 0 start state
  pub begins : Begins state stack
  pub deep : length stack ≡ depth

pub awaits_went : {o : List ℕ} {depth : ℕ} → Awaits o depth → Waits o depth
awaits_went (outermost w blank) = record { stack = []; state = start; leads = blanks_lead start (value_rests []) w blank 0; begins = begins_value []; deep = refl }
awaits_went (element o a w depth ys aw b blank) =
    let i = awaits_went aw in
    let k = i.stack in
    let c = begun_opens numbers b k (length o + 1) in
    record {
      stack = frames.List ys ∷ k;
      state = c.state;
      begins = c.begins;
      deep = omega (arith, i.deep);
      leads = leads_on i.leads (91 ∷ (a ++ w)) (length o) c.state (omega arith)
          (from_begins i.state k i.begins 91 (a ++ w) (length o) c.state refl (λ e. absurd (omega (arith, e)))
          (steps 91 (a ++ w) (length o) (at k Value) (at (frames.List [] ∷ k) First) c.state (list_opens k (length o))
          (leads_on c.leads w (length o + 1 + length a) c.state refl (blanks_lead c.state c.begins.rests w blank (length o + 1 + length a)))));
    }
awaits_went (member_value o a l q r w name depth ys aw b wl quoted wr blank) =
    let i = awaits_went aw in
    let k = i.stack in
    let n : ℕ = length o in
    let c = named_opens numbers b k (n + 1) in
    let inner : List Frame = frames.Member ys name ∷ k in
    let p : ℕ = n + 1 + length a in
    let names : Leads (l ++ q ++ r) p c.state (at inner Colon) = name_leads l q r name wl quoted wr k ys c.state c.begins p in
    let value : Leads (l ++ q ++ r ++ 58 ∷ w) p c.state (at inner Value) = leads_on names (58 ∷ w) (p + length (l ++ q ++ r)) (at inner Value) refl
    (steps 58 w (p + length (l ++ q ++ r)) (at inner Colon) (at inner Value) (at inner Value) (colon_goes inner (p + length (l ++ q ++ r))) (blanks_lead (at inner Value) (value_rests inner) w blank (p + length (l ++ q ++ r) + 1))) in
    record {
      stack = inner;
      state = at inner Value;
      begins = begins_value inner;
      deep = omega (arith, i.deep);
      leads = leads_on i.leads (123 ∷ (a ++ l ++ q ++ r ++ 58 ∷ w)) n (at inner Value) (omega arith)
          (from_begins i.state k i.begins 123 (a ++ l ++ q ++ r ++ 58 ∷ w) n (at inner Value) refl (λ e. absurd (omega (arith, e)))
          (steps 123 (a ++ l ++ q ++ r ++ 58 ∷ w) n (at k Value) (at (frames.Object [] ∷ k) FirstName) (at inner Value) (object_opens k n)
          (subst (λ (x : List ℕ). Leads x (n + 1) (at (frames.Object [] ∷ k) FirstName) (at inner Value)) (simp append_assoc) (leads_on c.leads (l ++ q ++ r ++ 58 ∷ w) p (at inner Value) refl value))));
    }

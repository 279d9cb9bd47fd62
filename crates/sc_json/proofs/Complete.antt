-- What the grammar has, the machine takes.
use Rattle.std.proofs.Common.{◌≡◌, ◌≢◌, ℕ, ◌+◌, List, [], ◌∷◌, ◌++◌, length, true, false, Some, refl, sym, ap, subst, ◌∙◌, arith}
use Rattle.sc_decimal.specs.Value.{number_of}
use Rattle.sc_json.specs.declared.tree.Json.{Json}
use Rattle.sc_json.specs.declared.tree.Json.TheVariants as trees
use Rattle.sc_json.specs.declared.tree.Member.{Member}
use Rattle.sc_json.specs.declared.state.State.{State}
use Rattle.sc_json.specs.declared.state.Frame.{Frame}
use Rattle.sc_json.specs.declared.state.Frame.TheVariants as frames
use Rattle.sc_json.specs.declared.state.Mode.TheVariants.{Value, First, FirstName, Name, Colon, After}
use Rattle.sc_json.specs.Machine.{at, is_blank_byte, step_of}
use Rattle.sc_json.specs.Grammar as grammar
use Rattle.sc_json.specs.Grammar.{AreBlanks, Literal, Quoted, Padded, pad, Begun, Field, field, Named}
use Rattle.sc_json.proofs.Steps.{Leads, stays, steps, leads_on}
use Rattle.sc_json.proofs.Texts.{text_goes, name_goes}
use Rattle.sc_json.proofs.Words.{null_goes, true_goes, false_goes}
use Rattle.sc_json.proofs.Values.{Rests, blanks_lead, first_rests, first_name_rests, name_rests, colon_rests, Begins, begins_value, begins_first, Settles, settles_after, settled_blanks, list_opens, object_opens, list_closes_empty, object_closes_empty, element_parts, list_closes, member_parts, object_closes, colon_goes}

-- how a value is read
pub record Reaches (m : List ℕ) (n : ℕ) (s : State) (k : List Frame) (v : Json) : Type 0 where
  pub state : State
  pub leads : Leads m n s state
  pub settles : Settles state k v

pub from_begins : (s : State) (k : List Frame) → Begins s k → (b : ℕ) (bs : List ℕ) (n : ℕ) (t : State) → is_blank_byte b ≡ false → b ≢ 93 → Leads (b ∷ bs) n (at k Value) t → Leads (b ∷ bs) n s t
from_begins s k h b bs n t x y (steps _ _ _ _ t' _ e l) = steps b bs n s t' t (h.same n b x y ∙ e) l

-- one more byte at the end
pub then_byte : {bs : List ℕ} {n : ℕ} {s t : State} → Leads bs n s t → (b : ℕ) (u : State) → ((p : ℕ) → (step_of t p b).next ≡ Some u) → Leads (bs ++ b ∷ []) n s u
then_byte {bs} {n} {s} {t} l b u e = leads_on l (b ∷ []) (n + length bs) u refl (steps b [] (n + length bs) t u u (e (n + length bs)) (stays (n + length bs + 1) u))

-- a state in which a name may begin
pub record BeginsName (s : State) (k : List Frame) (ms : List Member) : Type 0 where
  pub rests : Rests s
  pub same : (n : ℕ) → (step_of s n 34).next ≡ (step_of (at (frames.Object ms ∷ k) Name) n 34).next

first_name_same : (k : List Frame) (ms : List Member) (n : ℕ) → (step_of (at (frames.Object ms ∷ k) FirstName) n 34).next ≡ (step_of (at (frames.Object ms ∷ k) Name) n 34).next
unfolding step_of
first_name_same k ms n = refl

pub name_from : (s : State) (k : List Frame) (ms : List Member) → BeginsName s k ms → (bs : List ℕ) (n : ℕ) (t : State) → Leads (34 ∷ bs) n (at (frames.Object ms ∷ k) Name) t → Leads (34 ∷ bs) n s t
name_from s k ms h bs n t (steps _ _ _ _ t' _ e l) = steps 34 bs n s t' t (h.same n ∙ e) l

pub quoted_from : (s : State) (k : List Frame) (ms : List Member) → BeginsName s k ms → (m bytes : List ℕ) → Quoted m bytes → (n : ℕ) → Leads m n s (at (frames.Member ms bytes ∷ k) Colon)
quoted_from s k ms h m bytes q n =
    let t : State = at (frames.Member ms bytes ∷ k) Colon in
    subst (λ (x : List ℕ). Leads x n s t) (sym q.is)
    (name_from s k ms h (q.raw ++ 34 ∷ []) n t (subst (λ (x : List ℕ). Leads x n (at (frames.Object ms ∷ k) Name) t) q.is (name_goes m bytes q k ms n)))

text_from : (s : State) (k : List Frame) → Begins s k → (m bytes : List ℕ) → Quoted m bytes → (n : ℕ) → Leads m n s (at k (After (trees.Text bytes)))
text_from s k h m bytes q n =
    let t : State = at k (After (trees.Text bytes)) in
    subst (λ (x : List ℕ). Leads x n s t) (sym q.is)
    (from_begins s k h 34 (q.raw ++ 34 ∷ []) n t refl (λ e. absurd (omega (arith, e))) (subst (λ (x : List ℕ). Leads x n (at k Value) t) q.is (text_goes m bytes q k n)))

-- how the elements or members before a comma were read
pub record Opens (a : List ℕ) (n : ℕ) (k : List Frame) (ys : List Json) : Type 0 where
  pub state : State
  pub leads : Leads a n (at (frames.List [] ∷ k) First) state
  pub begins : Begins state (frames.List ys ∷ k)

pub record OpensNames (a : List ℕ) (n : ℕ) (k : List Frame) (ys : List Member) : Type 0 where
  pub state : State
  pub leads : Leads a n (at (frames.Object [] ∷ k) FirstName) state
  pub begins : BeginsName state k ys

-- how a member is read
pub record ReachesMember (c : List ℕ) (n : ℕ) (s : State) (k : List Frame) (ms : List Member) (x : Member) : Type 0 where
  pub name : List ℕ
  pub value : Json
  pub is : x ≡ grammar.member name value
  pub state : State
  pub leads : Leads c n s state
  pub settles : Settles state (frames.Member ms name ∷ k) value

-- the tree of a number
abbrev pub number_tree : List ℕ → Json
number_tree ds = trees.Number (record { literal = ds; dec = number_of ds })

-- a whole number, told below
pub record ReadsNumbers : Type 0 where
  pub reads : (ds : List ℕ) → Literal ds → (k : List Frame) (s : State) → Begins s k → (n : ℕ) → Reaches ds n s k (number_tree ds)

mutual
  pub value_reaches : {m : List ℕ} {v : Json} → ReadsNumbers → grammar.Value m v → (k : List Frame) (s : State) → Begins s k → (n : ℕ) → Reaches m n s k v
  value_reaches z grammar.null k s h n = record { state = at k (After trees.Null); leads = from_begins s k h 110 _ n _ refl (λ e. absurd (omega (arith, e))) (null_goes k n); settles = settles_after k trees.Null }
  value_reaches z grammar.yes k s h n = record { state = at k (After (trees.Truth true)); leads = from_begins s k h 116 _ n _ refl (λ e. absurd (omega (arith, e))) (true_goes k n); settles = settles_after k (trees.Truth true) }
  value_reaches z grammar.no k s h n = record { state = at k (After (trees.Truth false)); leads = from_begins s k h 102 _ n _ refl (λ e. absurd (omega (arith, e))) (false_goes k n); settles = settles_after k (trees.Truth false) }
  value_reaches z (grammar.number ds l) k s h n = z.reads ds l k s h n
  value_reaches z (grammar.text m bytes q) k s h n = record { state = at k (After (trees.Text bytes)); leads = text_from s k h m bytes q n; settles = settles_after k (trees.Text bytes) }
  value_reaches z (grammar.empty_list w blank) k s h n =
      let t : State = at k (After (trees.List [])) in
      let o : State = at (frames.List [] ∷ k) First in
      record {
        state = t;
        settles = settles_after k (trees.List []);
        leads = from_begins s k h 91 (w ++ 93 ∷ []) n t refl (λ e. absurd (omega (arith, e)))
            (steps 91 (w ++ 93 ∷ []) n (at k Value) o t (list_opens k n) (then_byte (blanks_lead o (first_rests (frames.List [] ∷ k)) w blank (n + 1)) 93 t (λ p. list_closes_empty k p)));
      }
  value_reaches z (grammar.empty_object w blank) k s h n =
      let t : State = at k (After (trees.Object [])) in
      let o : State = at (frames.Object [] ∷ k) FirstName in
      record {
        state = t;
        settles = settles_after k (trees.Object []);
        leads = from_begins s k h 123 (w ++ 125 ∷ []) n t refl (λ e. absurd (omega (arith, e)))
            (steps 123 (w ++ 125 ∷ []) n (at k Value) o t (object_opens k n) (then_byte (blanks_lead o (first_name_rests (frames.Object [] ∷ k)) w blank (n + 1)) 125 t (λ p. object_closes_empty k p)));
      }
  value_reaches z (grammar.list a c ys x b pd) k s h n =
      let t : State = at k (After (trees.List (ys ++ x ∷ []))) in
      let o = begun_opens z b k (n + 1) in
      let r = padded_reaches z pd (frames.List ys ∷ k) o.state o.begins (n + 1 + length a) in
      record {
        state = t;
        settles = settles_after k (trees.List (ys ++ x ∷ []));
        leads = from_begins s k h 91 (a ++ c ++ 93 ∷ []) n t refl (λ e. absurd (omega (arith, e)))
            (steps 91 (a ++ c ++ 93 ∷ []) n (at k Value) (at (frames.List [] ∷ k) First) t (list_opens k n)
            (then_byte (leads_on o.leads c (n + 1 + length a) r.state refl r.leads) 93 t (λ p. r.settles.same p 93 refl ∙ list_closes k ys x p)));
      }
  value_reaches z (grammar.object a c ys x b fd) k s h n =
      let t : State = at k (After (trees.Object (ys ++ x ∷ []))) in
      let o = named_opens z b k (n + 1) in
      let r = field_reaches z fd k ys o.state o.begins (n + 1 + length a) in
      let ends : (p : ℕ) → (step_of r.state p 125).next ≡ Some t = λ p. r.settles.same p 125 refl ∙ object_closes k ys r.name r.value p ∙ ap (λ (y : Member). Some (at k (After (trees.Object (ys ++ y ∷ []))))) (sym r.is) in
      record {
        state = t;
        settles = settles_after k (trees.Object (ys ++ x ∷ []));
        leads = from_begins s k h 123 (a ++ c ++ 125 ∷ []) n t refl (λ e. absurd (omega (arith, e)))
            (steps 123 (a ++ c ++ 125 ∷ []) n (at k Value) (at (frames.Object [] ∷ k) FirstName) t (object_opens k n)
            (then_byte (leads_on o.leads c (n + 1 + length a) r.state refl r.leads) 125 t ends));
      }

  pub padded_reaches : {c : List ℕ} {v : Json} → ReadsNumbers → Padded c v → (k : List Frame) (s : State) → Begins s k → (n : ℕ) → Reaches c n s k v
  padded_reaches z (pad l m r v wl val wr) k s h n =
      let a = value_reaches z val k s h (n + length l) in
      let b = settled_blanks a.state k v a.settles r wr (n + length (l ++ m)) in
      record { state = b.0; settles = b.2; leads = leads_on (leads_on (blanks_lead s h.rests l wl n) m (n + length l) a.state refl a.leads) r (n + length (l ++ m)) b.0 refl b.1 }

  pub begun_opens : {a : List ℕ} {ys : List Json} → ReadsNumbers → Begun a ys → (k : List Frame) (n : ℕ) → Opens a n k ys
  begun_opens z grammar.none k n = record { state = at (frames.List [] ∷ k) First; leads = stays n (at (frames.List [] ∷ k) First); begins = begins_first (frames.List [] ∷ k) }
  begun_opens z (grammar.more a c ys x b pd) k n =
      let o = begun_opens z b k n in
      let r = padded_reaches z pd (frames.List ys ∷ k) o.state o.begins (n + length a) in
      let t : State = at (frames.List (ys ++ x ∷ []) ∷ k) Value in
      record {
        state = t;
        begins = begins_value (frames.List (ys ++ x ∷ []) ∷ k);
        leads = then_byte (leads_on o.leads c (n + length a) r.state refl r.leads) 44 t (λ p. r.settles.same p 44 refl ∙ element_parts k ys x p);
      }

  pub field_reaches : {c : List ℕ} {x : Member} → ReadsNumbers → Field c x → (k : List Frame) (ms : List Member) (s : State) → BeginsName s k ms → (n : ℕ) → ReachesMember c n s k ms x
  field_reaches z (field l q r c name v wl quoted wr pd) k ms s h n =
      let inner : List Frame = frames.Member ms name ∷ k in
      let one = leads_on (blanks_lead s h.rests l wl n) q (n + length l) (at inner Colon) refl (quoted_from s k ms h q name quoted (n + length l)) in
      let two = leads_on one r (n + length (l ++ q)) (at inner Colon) refl (blanks_lead (at inner Colon) (colon_rests inner) r wr (n + length (l ++ q))) in
      let a = padded_reaches z pd inner (at inner Value) (begins_value inner) (n + length (l ++ q ++ r) + 1) in
      record {
        name = name;
        value = v;
        is = refl;
        state = a.state;
        settles = a.settles;
        leads = leads_on two (58 ∷ c) (n + length (l ++ q ++ r)) a.state refl (steps 58 c (n + length (l ++ q ++ r)) (at inner Colon) (at inner Value) a.state (colon_goes inner (n + length (l ++ q ++ r))) a.leads);
      }

  pub named_opens : {a : List ℕ} {ys : List Member} → ReadsNumbers → Named a ys → (k : List Frame) (n : ℕ) → OpensNames a n k ys
  named_opens z grammar.no_name k n = record { state = at (frames.Object [] ∷ k) FirstName; leads = stays n (at (frames.Object [] ∷ k) FirstName); begins = record { rests = first_name_rests (frames.Object [] ∷ k); same = first_name_same k [] } }
  named_opens z (grammar.more_names a c ys x b fd) k n =
      let o = named_opens z b k n in
      let r = field_reaches z fd k ys o.state o.begins (n + length a) in
      let t : State = at (frames.Object (ys ++ x ∷ []) ∷ k) Name in
      let parts : (p : ℕ) → (step_of r.state p 44).next ≡ Some t = λ p. r.settles.same p 44 refl ∙ member_parts k ys r.name r.value p ∙ ap (λ (y : Member). Some (at (frames.Object (ys ++ y ∷ []) ∷ k) Name)) (sym r.is) in
      record {
        state = t;
        begins = record { rests = name_rests (frames.Object (ys ++ x ∷ []) ∷ k); same = λ i. refl };
        leads = then_byte (leads_on o.leads c (n + length a) r.state refl r.leads) 44 t parts;
      }

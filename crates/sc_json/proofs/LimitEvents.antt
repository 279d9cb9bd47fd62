-- A bracket that opens level 65, and a name that the object has, are limits that the machine meets.
use Rattle.std.proofs.Common.{◌≡◌, ◌⊎◌, inl, inr, ℕ, ◌+◌, List, [], ◌∷◌, ◌++◌, length, Bool, true, false, leb, ◌&&◌, nat_eq, Some, refl, sym, ap, subst, ◌∙◌, arith, append_assoc, length-append, Any}
use Rattle.std.specs.Cmp.Lexicographic.{pointwise}
use Rattle.std.proofs.lemmas.Bool.Decides.{nat_tests}
use Rattle.std.proofs.lemmas.List.Folds.{Any-from_list_any, list_any-from_Any}
use Rattle.std.proofs.lemmas.Cmp.{nat_list_eq_equiv}
use Rattle.sc_base.specs.Text.{text_of}
use Rattle.sc_json.specs.declared.tree.Member.{Member, out-Member}
use Rattle.sc_json.specs.declared.state.State.{State}
use Rattle.sc_json.specs.declared.state.Frame.{Frame}
use Rattle.sc_json.specs.declared.state.Frame.TheVariants as frames
use Rattle.sc_json.specs.declared.state.Mode.TheVariants.{Value, FirstName, Name}
use Rattle.sc_json.specs.declared.state.Piece.TheVariants.{Plain}
use Rattle.sc_json.specs.Machine.{at, step_of, double, deep, has_name}
use Rattle.sc_json.specs.Faults.{OpensTooDeep, IsDuplicate}
use Rattle.sc_json.proofs.Steps.{Leads, steps, leads_on, within}
use Rattle.sc_json.proofs.Utf8.{pieces_utf8, text_is}
use Rattle.sc_json.proofs.Texts.{pieces_go}
use Rattle.sc_json.proofs.Values.{Begins, blanks_lead, object_opens}
use Rattle.sc_json.proofs.Complete.{from_begins, name_from, named_opens}
use Rattle.sc_json.proofs.Literals.{numbers}
use Rattle.sc_json.proofs.FrontRuns.{awaits_went, name_begins}
use Rattle.sc_json.proofs.LimitRuns.{Hit}

-- ---- depth

list_deep : (k : List Frame) (n : ℕ) → length k ≡ 64 → (step_of (at k Value) n 91).breaks ≡ Some (deep n)
unfolding step_of
list_deep k n h = let t : leb 64 (length k) ≡ true = grind (arith, nat_tests) in rw t refl

object_deep : (k : List Frame) (n : ℕ) → length k ≡ 64 → (step_of (at k Value) n 123).breaks ≡ Some (deep n)
unfolding step_of
object_deep k n h = let t : leb 64 (length k) ≡ true = grind (arith, nat_tests) in rw t refl

opens_deep : (s : State) (k : List Frame) → Begins s k → length k ≡ 64 → (n b : ℕ) → (b ≡ 91) ⊎ (b ≡ 123) → (step_of s n b).breaks ≡ Some (deep n)
opens_deep s k h d n b (inl e) = subst (λ (i : ℕ). (step_of s n i).breaks ≡ Some (deep n)) (sym e) (h.breaks n 91 refl (λ q. absurd (omega (arith, q))) ∙ list_deep k n d)
opens_deep s k h d n b (inr e) = subst (λ (i : ℕ). (step_of s n i).breaks ≡ Some (deep n)) (sym e) (h.breaks n 123 refl (λ q. absurd (omega (arith, q))) ∙ object_deep k n d)

pub deep_hit : (bytes : List ℕ) (place : ℕ) → OpensTooDeep bytes place → Hit bytes (deep place)
deep_hit bytes place h =
    let w = awaits_went h.awaits in
    record {
      x = h.before;
      rest = h.bracket ∷ h.rest;
      state = w.state;
      is = h.is;
      leads = w.leads;
      breaks = opens_deep w.state w.stack w.begins w.deep (length h.before) h.bracket h.opens ∙ ap (λ (i : ℕ). Some (deep i)) (sym h.place);
    }

-- it is met at the bracket
pub deep_hit_at : (bytes : List ℕ) (place : ℕ) → (h : OpensTooDeep bytes place) → length (deep_hit bytes place h).x ≡ place
unfolding deep_hit
deep_hit_at bytes place h = sym h.place

-- ---- names

pub same_bytes : (xs ys : List ℕ) → pointwise nat_eq xs ys ≡ true → xs ≡ ys
same_bytes [] [] e = refl
same_bytes [] (y ∷ ys) e = absurd cc
same_bytes (x ∷ xs) [] e = absurd cc
same_bytes (x ∷ xs) (y ∷ ys) e = both (heads x y (pointwise nat_eq xs ys) e) (same_bytes xs ys (tails (nat_eq x y) (pointwise nat_eq xs ys) e))
  where
    heads : (x y : ℕ) (r : Bool) → (nat_eq x y && r) ≡ true → x ≡ y
    heads x y r e = grind (arith, nat_tests)

    tails : (p r : Bool) → (p && r) ≡ true → r ≡ true
    tails true r e = e
    tails false r e = absurd cc

    both : {x y : ℕ} {xs ys : List ℕ} → x ≡ y → xs ≡ ys → x ∷ xs ≡ y ∷ ys
    both e f = cc

pub has_from : (ms : List Member) (name : List ℕ) → Any (λ m. (out-Member m).name ≡ name) ms → has_name ms name ≡ true
has_from ms name h = list_any-from_Any _ ms (h.0, h.1, h.2, h.3, subst (λ (x : List ℕ). pointwise nat_eq (out-Member h.1).name x ≡ true) h.4 (nat_list_eq_equiv.refl (out-Member h.1).name))

pub from_has : (ms : List Member) (name : List ℕ) → has_name ms name ≡ true → Any (λ m. (out-Member m).name ≡ name) ms
from_has ms name e = let h = Any-from_list_any (λ (m : Member). pointwise nat_eq (out-Member m).name name) ms e in (h.0, h.1, h.2, h.3, same_bytes (out-Member h.1).name name h.4)

name_breaks : (k : List Frame) (ms : List Member) (name : List ℕ) (from n : ℕ) → text_of name ≡ Some name → has_name ms name ≡ true → (step_of (within (frames.Object ms ∷ k) true Plain name from) n 34).breaks ≡ Some (double from)
unfolding step_of
name_breaks k ms name from n utf8 has = rw (utf8, has) refl

pub double_hit : (bytes : List ℕ) (place : ℕ) → IsDuplicate bytes place → Hit bytes (double place)
double_hit bytes place h =
    let i = awaits_went h.awaits in
    let k : List Frame = i.stack in
    let o : List Frame = frames.Object h.earlier ∷ k in
    let n : ℕ = length h.before in
    let c = named_opens numbers h.named k (n + 1) in
    let raw : List ℕ = h.spells.raw in
    let p : ℕ = n + 1 + length (h.members ++ h.blank) in
    let t : State = within o true Plain h.name p in
    let inner : List ℕ = h.members ++ h.blank ++ 34 ∷ raw in
    let before : Leads (h.members ++ h.blank) (n + 1) (at (frames.Object [] ∷ k) FirstName) c.state = leads_on c.leads h.blank (n + 1 + length h.members) c.state refl (blanks_lead c.state c.begins.rests h.blank h.are_blank (n + 1 + length h.members)) in
    let name : Leads (34 ∷ raw) p c.state t = name_from c.state k h.earlier c.begins raw p t (steps 34 raw p (at o Name) (within o true Plain [] p) t (name_begins o p) (pieces_go h.spells.pieces o true p (p + 1))) in
    let place_is : p ≡ place = counted h.before h.members h.blank place h.place in
    record {
      x = h.before ++ 123 ∷ inner;
      rest = 34 ∷ h.rest;
      state = t;
      is = h.is ∙ ap (λ (q : List ℕ). h.before ++ 123 ∷ (h.members ++ h.blank ++ q ++ h.rest)) h.spells.is ∙ simp append_assoc;
      leads = leads_on i.leads (123 ∷ inner) n t (omega arith)
          (from_begins i.state k i.begins 123 inner n t refl (λ e. absurd (omega (arith, e)))
          (steps 123 inner n (at k Value) (at (frames.Object [] ∷ k) FirstName) t (object_opens k n) (leads_on before (34 ∷ raw) p t refl name)));
      breaks = name_breaks k h.earlier h.name p (length (h.before ++ 123 ∷ inner)) (text_is h.name (pieces_utf8 h.spells.pieces)) (has_from h.earlier h.name h.again) ∙ ap (λ (j : ℕ). Some (double j)) place_is;
    }
  where
    counted : (before members blank : List ℕ) (place : ℕ) → place ≡ length (before ++ 123 ∷ (members ++ blank)) → length before + 1 + length (members ++ blank) ≡ place
    counted before members blank place e = let l = length-append before (123 ∷ (members ++ blank)) in omega (arith, e, l)

-- What is read is what is spelled.
use Rattle.std.proofs.Common.{◌≡◌, ℕ, ◌+◌, ◌≤◌, List, [], ◌∷◌, ◌++◌, length, Option, Some, None, Result, Ok, Err, refl, sym, ap, subst, ◌∙◌, append_assoc, arith, length-append}
use Rattle.std.specs.Prelude.{◌↔◌}
use Rattle.std.specs.Option.{option_map_or}
use Rattle.std.proofs.lemmas.List.{append-nil}
use Rattle.sc_json.specs.declared.tree.Json.{Json}
use Rattle.sc_json.specs.declared.state.State.{State}
use Rattle.sc_json.specs.declared.state.Frame.{Frame}
use Rattle.sc_json.specs.declared.state.Mode.{Mode}
use Rattle.sc_json.specs.declared.state.Mode.TheVariants.{Value, First, FirstName, Name, Colon, Word, Number, Quoted, After}
use Rattle.sc_json.specs.declared.fault.JsonFault.{JsonFault}
use Rattle.sc_json.specs.declared.fault.JsonFault.TheVariants as faults
use Rattle.sc_json.specs.Machine.{Limit, at, step_of, end_value, end_breaks, read_from, read_of, ended, unless}
use Rattle.sc_json.specs.Grammar.{Padded}
use Rattle.sc_json.specs.Good.{depth, Good}
use Rattle.sc_json.specs.Spells.{Spells}
use Rattle.sc_json.proofs.Steps.{Leads, stays, steps, leads_one}
use Rattle.sc_json.proofs.Values.{begins_value}
use Rattle.sc_json.proofs.Complete.{padded_reaches}
use Rattle.sc_json.proofs.Literals.{numbers}
use Rattle.sc_json.proofs.Only.{after_ends}
use Rattle.sc_json.proofs.SoundStates.{Reads, ReadsTo}
use Rattle.sc_json.proofs.Sound.{step_keeps, over_padded, start_reads}
use Rattle.sc_json.proofs.GoodTrees.{GoodAt}
use Rattle.sc_json.proofs.GoodSteps.{GoodTo, Unfinished, step_good, good_step, end_good, good_end, start_good}

unless_ok : (l : Option Limit) (n : ℕ) (r : Result Json JsonFault) (v : Json) → unless l n r ≡ Ok v → (l ≡ None) × (r ≡ Ok v)
unless_ok None n r v e = (refl, e)
unless_ok (Some l) n r v e = absurd cc

ended_ok : (n : ℕ) (o : Option Json) (v : Json) → ended n o ≡ Ok v → o ≡ Some v
ended_ok n None v e = absurd cc
ended_ok n (Some w) v e = cc

unfinished : (k : List Frame) (mode : Mode) (bs : List ℕ) → Reads k mode bs → Unfinished mode
unfinished k Value bs r = tt
unfinished k First bs r = tt
unfinished k FirstName bs r = tt
unfinished k Name bs r = tt
unfinished k Colon bs r = tt
unfinished k (Word x) bs r = tt
unfinished k (Number part ds from) bs r = r.so_far
unfinished k (Quoted is_name piece bytes from) bs r = tt
unfinished k (After v) bs r = tt

-- ---- what is read is spelled

read_on : (bs done : List ℕ) (n : ℕ) (s : State) (v : Json) → n ≡ length done → ReadsTo done s → GoodTo s → read_from bs n s ≡ Ok v → Padded (done ++ bs) v × GoodAt 0 v
unfolding read_from step_of end_value end_breaks
read_on [] done n s v len r g e =
    let u = unless_ok (end_breaks s) n (ended n (end_value s)) v e in
    let value : end_value s ≡ Some v = ended_ok n (end_value s) v u.1 in
    (subst (λ (x : List ℕ). Padded x v) (sym (append-nil done)) (over_padded done s.stack s.mode v r value), end_good s.stack s.mode v (unfinished s.stack s.mode done r) value g u.0)
read_on (b ∷ bs) done n s v len r g e =
    let u = unless_ok (step_of s n b).breaks n (option_map_or (read_from bs (n + 1)) (step_of s n b).next (Err (faults.Syntax n))) v e in
    let more = on (λ t. read_on bs (done ++ b ∷ []) (n + 1) t v (omega (arith, length-append done (b ∷ []), len))) u.0 (step_of s n b).next refl u.1 in
    (subst (λ (x : List ℕ). Padded x v) (append_assoc done (b ∷ []) bs) more.0, more.1)
  where
    on : ((t : State) → ReadsTo (done ++ b ∷ []) t → GoodTo t → read_from bs (n + 1) t ≡ Ok v → Padded ((done ++ b ∷ []) ++ bs) v × GoodAt 0 v)
        → (step_of s n b).breaks ≡ None → (o : Option State) → (step_of s n b).next ≡ o → option_map_or (read_from bs (n + 1)) o (Err (faults.Syntax n)) ≡ Ok v → Padded ((done ++ b ∷ []) ++ bs) v × GoodAt 0 v
    on later none None q h = absurd cc
    on later none (Some t) q h = later t (step_keeps done s.stack s.mode n b t len r q) (step_good s.stack s.mode n b t (unfinished s.stack s.mode done r) q g none) h

good_at : (v : Json) → GoodAt 0 v → Good v
good_at v g = let within : depth v + 0 ≤ 64 = g.within in record { levels = g.levels; shallow = omega (arith, within) }

at_good : (v : Json) → Good v → GoodAt 0 v
at_good v g = let shallow : depth v ≤ 64 = g.shallow in record { levels = g.levels; within = omega (arith, shallow) }

pub read_spells : (bytes : List ℕ) (tree : Json) → read_of bytes ≡ Ok tree → Spells bytes tree
read_spells bytes tree e = let r = read_on bytes [] 0 (at [] Value) tree refl start_reads start_good e in record { text = r.0; good = good_at tree r.1 }

-- ---- what is spelled is read

good_reads : {bs : List ℕ} {n : ℕ} {s t : State} → Leads bs n s t → (done : List ℕ) (v : Json) → n ≡ length done → ReadsTo done s → end_value t ≡ Some v → GoodAt 0 v → (read_from bs n s ≡ Ok v) × GoodTo s
unfolding read_from step_of end_value end_breaks
good_reads (stays n s) done v len r e g =
    let a = good_end s.stack s.mode v (unfinished s.stack s.mode done r) e g in
    (ap (λ (l : Option Limit). unless l n (ended n (end_value s))) a.1 ∙ ap (ended n) e, a.0)
good_reads (steps b bs n s t u h l) done v len r e g =
    let later = good_reads l (done ++ b ∷ []) v (omega (arith, length-append done (b ∷ []), len)) (step_keeps done s.stack s.mode n b t len r h) e g in
    let a = good_step s.stack s.mode n b t (unfinished s.stack s.mode done r) h later.1 in (
      ap (λ (x : Option Limit). unless x n (option_map_or (read_from bs (n + 1)) (step_of s n b).next (Err (faults.Syntax n)))) a.1 ∙ ap (λ (o : Option State). option_map_or (read_from bs (n + 1)) o (Err (faults.Syntax n))) h ∙ later.0,
      a.0,
    )

padded_read : (bytes : List ℕ) (tree : Json) → Padded bytes tree → GoodAt 0 tree → read_of bytes ≡ Ok tree
padded_read bytes tree d g =
    let r = padded_reaches numbers d [] (at [] Value) (begins_value []) 0 in
    (good_reads r.leads [] tree refl start_reads (r.settles.over ∙ after_ends tree) g).0

pub spells_read : (bytes : List ℕ) (tree : Json) → Spells bytes tree → read_of bytes ≡ Ok tree
spells_read bytes tree s = padded_read bytes tree s.text (at_good tree s.good)

-- exactly what spells a good tree is read, as this tree
pub read_is_spelled : (bytes : List ℕ) (tree : Json) → (read_of bytes ≡ Ok tree) ↔ Spells bytes tree
read_is_spelled bytes tree = (read_spells bytes tree, spells_read bytes tree)

-- ---- a text spells one tree

pub spelled_once : (bytes : List ℕ) (a b : Json) → Padded bytes a → Padded bytes b → a ≡ b
spelled_once bytes a b x y =
    let r = padded_reaches numbers x [] (at [] Value) (begins_value []) 0 in
    let q = padded_reaches numbers y [] (at [] Value) (begins_value []) 0 in
    let same : r.state ≡ q.state = leads_one r.leads q.leads in
    let first : end_value r.state ≡ Some a = r.settles.over ∙ after_ends a in
    let second : end_value q.state ≡ Some b = q.settles.over ∙ after_ends b in
    let both : Some a ≡ Some b = sym first ∙ ap end_value same ∙ second in
    cc

-- What is spelled is read.
use Rattle.std.proofs.Common.{◌≡◌, ℕ, ◌+◌, List, [], Option, Some, None, Result, Ok, Err, refl, sym, subst, ◌∙◌}
use Rattle.std.specs.Option.{option_map_or}
use Rattle.sc_json.specs.declared.tree.Json.{Json}
use Rattle.sc_json.specs.declared.state.State.{State}
use Rattle.sc_json.specs.declared.state.Mode.TheVariants.{Value, After}
use Rattle.sc_json.specs.declared.fault.JsonFault.{JsonFault}
use Rattle.sc_json.specs.declared.fault.JsonFault.TheVariants.{Syntax, Duplicate, TooDeep, NumberTooWide, NotUtf8, OutOfMemory}
use Rattle.sc_json.specs.Machine.{Limit, double, deep, wide, at, step_of, end_value, end_breaks, read_from, read_of, ended, unless, Reads, IsRead}
use Rattle.sc_json.specs.Grammar.{Padded}
use Rattle.sc_json.proofs.Steps.{Leads, stays, steps}
use Rattle.sc_json.proofs.Values.{begins_value}
use Rattle.sc_json.proofs.Complete.{padded_reaches}
use Rattle.sc_json.proofs.Literals.{numbers}

guarded : (b : Option Limit) (n : ℕ) (r : Result Json JsonFault) (v : Json) → IsRead r v → IsRead (unless b n r) v
guarded None n r v h = h
guarded (Some (double m)) n r v h = tt
guarded (Some (deep m)) n r v h = tt
guarded (Some (wide m)) n r v h = tt

leads_read : {bs : List ℕ} {n : ℕ} {s t : State} → Leads bs n s t → (v : Json) → end_value t ≡ Some v → IsRead (read_from bs n s) v
unfolding read_from
leads_read (stays n s) v e = guarded (end_breaks s) n (ended n (end_value s)) v (subst (λ (o : Option Json). IsRead (ended n o) v) (sym e) refl)
leads_read (steps b bs n s t u h l) v e =
    guarded (step_of s n b).breaks n (option_map_or (read_from bs (n + 1)) (step_of s n b).next (Err (Syntax n))) v
    (subst (λ (o : Option State). IsRead (option_map_or (read_from bs (n + 1)) o (Err (Syntax n))) v) (sym h) (leads_read l v e))

pub after_ends : (v : Json) → end_value (at [] (After v)) ≡ Some v
unfolding end_value
after_ends v = refl

pub spelled_read : (bs : List ℕ) (v : Json) → Padded bs v → IsRead (read_of bs) v
spelled_read bs v d = let r = padded_reaches numbers d [] (at [] Value) (begins_value []) 0 in leads_read r.leads v (r.settles.over ∙ after_ends v)

pub is_only : (bs : List ℕ) (r : Result Json JsonFault) (v : Json) → Reads r (read_of bs) → IsRead (read_of bs) v → IsRead r v
is_only bs (Ok t) v h k = subst (λ (x : Result Json JsonFault). IsRead x v) h k
is_only bs (Err (Syntax n)) v h k = subst (λ (x : Result Json JsonFault). IsRead x v) h k
is_only bs (Err (Duplicate n)) v h k = tt
is_only bs (Err (TooDeep n)) v h k = tt
is_only bs (Err (NumberTooWide n)) v h k = tt
is_only bs (Err (NotUtf8 n)) v h k = subst (λ (x : Result Json JsonFault). IsRead x v) h k
is_only bs (Err OutOfMemory) v h k = tt

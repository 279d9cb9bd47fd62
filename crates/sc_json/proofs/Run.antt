-- The machine, one byte at a time.
use Rattle.std.proofs.Common.{◌≡◌, ℕ, ◌+◌, ◌-◌, ◌<◌, ◌≤◌, List, length, get_or, take, drop, Option, Some, None, Result, Ok, Err, refl, ap, subst, ◌∙◌, drop-cons, add-one, length-drop, arith}
use Rattle.std.proofs.lemmas.List.{take_all, drop-drop}
use Rattle.std.specs.Option.{option_map_or}
use Rattle.std.proofs.Math.ListN.{drop_of_length-le}
use Rattle.sc_json.specs.declared.tree.Json.{Json}
use Rattle.sc_json.specs.declared.state.State.{State}
use Rattle.sc_json.specs.declared.fault.JsonFault.{JsonFault}
use Rattle.sc_json.specs.declared.fault.JsonFault.TheVariants as faults
use Rattle.sc_json.specs.declared.fault.StepFault.{StepFault}
use Rattle.sc_json.specs.declared.fault.StepFault.TheVariants.{Refused, Memory, Duplicate, TooDeep, TooWide}
use Rattle.sc_json.specs.Machine.{Limit, step_of, end_value, end_breaks, read_from, ended, unless, fault_of, Fails, Gives, Reads, Takes, RunsOn}

pub reads_on : (bs : List ℕ) (i n : ℕ) (s t : State) → i < length bs → (step_of s n (get_or bs i 0)).next ≡ Some t → (step_of s n (get_or bs i 0)).breaks ≡ None → read_from (drop i bs) n s ≡ read_from (drop (i + 1) bs) (n + 1) t
unfolding read_from
reads_on bs i n s t lt h k = rw (add-one, drop-cons bs i 0, k, h) refl

-- a fault of a step or at the end
pub failed : (read : Result Json JsonFault) (n : ℕ) (f : StepFault) (next : Option State) (breaks : Option Limit) (rest : State → Result Json JsonFault) → read ≡ unless breaks n (option_map_or rest next (Err (faults.Syntax n))) → Fails f next breaks → Reads (Err (fault_of n f)) read
failed read n Memory next breaks rest e h = tt
failed read n Refused next breaks rest e h = e ∙ rw (h.1, h.0) refl
failed read n (Duplicate m) next breaks rest e h = e ∙ rw h refl
failed read n (TooDeep m) next breaks rest e h = e ∙ rw h refl
failed read n (TooWide m) next breaks rest e h = e ∙ rw h refl

pub stops : (bs : List ℕ) (i n : ℕ) (s : State) (f : StepFault) → i < length bs → Takes (Err f) (step_of s n (get_or bs i 0)) → Reads (Err (fault_of n f)) (read_from (drop i bs) n s)
unfolding read_from
stops bs i n s f lt h =
    let e : read_from (drop i bs) n s ≡ unless (step_of s n (get_or bs i 0)).breaks n (option_map_or (read_from (drop (i + 1) bs) (n + 1)) (step_of s n (get_or bs i 0)).next (Err (faults.Syntax n))) = rw (add-one, drop-cons bs i 0) refl in
    failed _ n f _ _ _ e h

end_failed : (read : Result Json JsonFault) (n : ℕ) (f : StepFault) (value : Option Json) (breaks : Option Limit) → read ≡ unless breaks n (ended n value) → Fails f value breaks → Reads (Err (fault_of n f)) read
end_failed read n Memory value breaks e h = tt
end_failed read n Refused value breaks e h = e ∙ rw (h.1, h.0) refl
end_failed read n (Duplicate m) value breaks e h = e ∙ rw h refl
end_failed read n (TooDeep m) value breaks e h = e ∙ rw h refl
end_failed read n (TooWide m) value breaks e h = e ∙ rw h refl

at_end : (bs : List ℕ) (i n : ℕ) (s : State) → length bs ≤ i → read_from (drop i bs) n s ≡ unless (end_breaks s) n (ended n (end_value s))
unfolding read_from
at_end bs i n s le = rw (drop_of_length-le bs le) refl

pub ends : (bs : List ℕ) (i n : ℕ) (s : State) (v : Json) → length bs ≤ i → Gives (Ok v) (end_value s) (end_breaks s) → read_from (drop i bs) n s ≡ Ok v
ends bs i n s v le h = at_end bs i n s le ∙ rw (h.1, h.0) refl

pub ends_badly : (bs : List ℕ) (i n : ℕ) (s : State) (f : StepFault) → length bs ≤ i → Gives {A = Json} (Err f) (end_value s) (end_breaks s) → Reads (Err (fault_of n f)) (read_from (drop i bs) n s)
ends_badly bs i n s f le h = end_failed _ n f (end_value s) (end_breaks s) (at_end bs i n s le) h

-- bytes that are taken all at once
pub after_run : (bs : List ℕ) (i m : ℕ) (s t : State) → i ≤ length bs → RunsOn (take (length bs - i) (drop i bs)) i s m t → (i + m ≤ length bs) × (read_from (drop i bs) i s ≡ read_from (drop (i + m) bs) (i + m) t)
after_run bs i m s t le h =
    let all : take (length bs - i) (drop i bs) ≡ drop i bs = take_all (length bs - i) (drop i bs) (omega (arith, length-drop i bs)) in
    let r : RunsOn (drop i bs) i s m t = subst (λ (x : List ℕ). RunsOn x i s m t) all h in
    (omega (arith, length-drop i bs, r.0), r.1 ∙ ap (λ (x : List ℕ). read_from x (i + m) t) (drop-drop m i bs))

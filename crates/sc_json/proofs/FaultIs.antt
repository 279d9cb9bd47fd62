-- The reader's fault is the text's fault, and a text has a fault exactly where the reader answers one.
use Rattle.std.proofs.Common.{◌≡◌, ℕ, ◌+◌, ◌≤◌, List, [], ◌∷◌, ◌++◌, length, Option, Some, None, Result, Ok, Err, refl, sym, ap, subst, ◌∙◌, arith, IsUtf8}
use Rattle.sc_json.specs.declared.tree.Json.{Json}
use Rattle.sc_json.specs.declared.state.State.{State}
use Rattle.sc_json.specs.declared.fault.JsonFault.{JsonFault}
use Rattle.sc_json.specs.declared.fault.JsonFault.TheVariants.{Syntax, Duplicate, TooDeep, NumberTooWide, NotUtf8, OutOfMemory}
use Rattle.sc_json.specs.Machine.{Limit, double, deep, wide, start, step_of, end_breaks, read_of, limit_fault, IsRead}
use Rattle.sc_json.specs.Grammar.{Padded}
use Rattle.sc_json.specs.Fronts.{IsLongestFront}
use Rattle.sc_json.specs.Faults.{HasFault, place_of, IsFirstFault}
use Rattle.std.proofs.lemmas.List.{append-nil}
use Rattle.sc_json.proofs.Steps.{Leads, stays, steps, leads_one}
use Rattle.sc_json.proofs.Only.{spelled_read}
use Rattle.sc_json.proofs.Sound.{leads_padded}
use Rattle.sc_json.proofs.FrontPlaces.{Beyond, deep_beyond, wide_beyond, double_beyond, below_longest}
use Rattle.sc_json.proofs.FrontReads.{syntax_place}
use Rattle.sc_json.proofs.LimitRuns.{Clean, clean_leads, BreaksAt, Hit, Ahead, ahead, least, limit_place, Outcome, outcome, Broken, broken, refuses, short, taken}
use Rattle.sc_json.proofs.LimitEvents.{deep_hit, double_hit}
use Rattle.sc_json.proofs.LimitNumbers.{wide_hit}
use Rattle.sc_json.proofs.LimitReads.{limit_has}
use Rattle.sc_json.proofs.FaultLaws.{one_first}

abbrev Same : Result Json JsonFault → Result Json JsonFault → Type 0
Same r s = r ≡ s

err_is : (f g : JsonFault) → Same (Err f) (Err g) → f ≡ g
err_is f g e = cc

-- ---- where no limit is met

-- a run that no limit ends
abbrev Quiet : List ℕ → ℕ → State → Type 0
Quiet [] n t = end_breaks t ≡ None
Quiet (b ∷ rest) n t = ((step_of t n b).breaks ≡ None) × ((step_of t n b).next ≡ None)

none_some : {A : Type 0} (o : Option A) (v : A) → o ≡ None → o ≡ Some v → ⊥
none_some o v e f = absurd cc

refused_byte : (c : ℕ) (z rest others : List ℕ) (n : ℕ) (t u : State) → Quiet rest n t → rest ≡ (c ∷ z) ++ others → Leads (c ∷ z) n t u → ⊥
refused_byte c z [] others n t u q e k = absurd cc
refused_byte c z (b ∷ rest) others n t u q e (steps _ _ _ _ v _ f m) = let byte : b ≡ c = cc in none_some (step_of t n b).next v q.1 (subst (λ (i : ℕ). (step_of t n i).next ≡ Some v) (sym byte) f)

no_hit : (bytes x rest : List ℕ) (t : State) (l : Limit) → bytes ≡ x ++ rest → Clean x 0 start t → Quiet rest (length x) t → Hit bytes l → ⊥
no_hit bytes x rest t l is clean quiet h = go (ahead bytes x rest t l is clean h)
  where
    at_once : (rest others : List ℕ) (u : State) → Quiet rest (length x) t → rest ≡ others → u ≡ t → BreaksAt others (length x) u l → ⊥
    at_once rest others u q e f b = broken_here rest (subst (λ (y : List ℕ). BreaksAt y (length x) t l) (sym e) (subst (λ (s : State). BreaksAt others (length x) s l) f b)) q
      where
        broken_here : (rest : List ℕ) → BreaksAt rest (length x) t l → Quiet rest (length x) t → ⊥
        broken_here [] b q = none_some (end_breaks t) l q b
        broken_here (c ∷ rest) b q = none_some (step_of t (length x) c).breaks l q.0 b

    run : (z others : List ℕ) (u : State) → rest ≡ z ++ others → Leads z (length x) t u → BreaksAt others (length x + length z) u l → ⊥
    run [] others u e k b = at_once rest others u quiet e (leads_one k (stays (length x) t)) (subst (λ (i : ℕ). BreaksAt others i u l) (omega arith) b)
    run (c ∷ z) others u e k b = refused_byte c z rest others (length x) t u quiet e k

    go : Ahead x rest t l (length h.x) → ⊥
    go a = run a.z a.others a.state a.is a.leads a.breaks

quiet_read : (bytes : List ℕ) (l : Limit) → Hit bytes l → (o : Outcome bytes 0 start (read_of bytes)) → Broken bytes 0 start (read_of bytes)
quiet_read bytes l h (broken o) = o
quiet_read bytes l h (refuses o) =
    absurd (no_hit bytes o.x (o.byte ∷ o.rest) o.state l o.is o.clean (subst (λ (i : ℕ). (step_of o.state i o.byte).breaks ≡ None) (omega arith) o.keeps, subst (λ (i : ℕ). (step_of o.state i o.byte).next ≡ None) (omega arith) o.stops) h)
quiet_read bytes l h (short o) = absurd (no_hit bytes bytes [] o.state l (sym (append-nil bytes)) o.clean o.keeps h)
quiet_read bytes l h (taken o) = absurd (no_hit bytes bytes [] o.state l (sym (append-nil bytes)) o.clean o.keeps h)

-- ---- faults that hold

-- a limit by the grammar is one that the machine meets
record Met (bytes : List ℕ) (g : JsonFault) : Type 0 where
  limit : Limit
  is : limit_fault limit ≡ g
  hit : Hit bytes limit
  beyond : Beyond bytes (place_of g)

data Kind (bytes : List ℕ) (g : JsonFault) : Type 0 where
  met : Met bytes g → Kind bytes g
  syntax_at : (n : ℕ) → g ≡ Syntax n → ((tree : Json) → ¬ Padded bytes tree) → IsLongestFront bytes n → Kind bytes g

kind : (bytes : List ℕ) (g : JsonFault) → HasFault bytes g → Kind bytes g
kind bytes (Syntax n) h = syntax_at n refl h.0 h.1
kind bytes (Duplicate n) h = met (record { limit = double n; is = refl; hit = double_hit bytes n h; beyond = double_beyond bytes n h })
kind bytes (TooDeep n) h = met (record { limit = deep n; is = refl; hit = deep_hit bytes n h; beyond = deep_beyond bytes n h })
kind bytes (NumberTooWide n) h = met (record { limit = wide n; is = refl; hit = wide_hit bytes n h; beyond = wide_beyond bytes n h })
kind bytes (NotUtf8 n) h = absurd h
kind bytes OutOfMemory h = absurd h

place_is : (l : Limit) → place_of (limit_fault l) ≡ limit_place l
place_is (double n) = refl
place_is (deep n) = refl
place_is (wide n) = refl

limit_beyond : (bytes : List ℕ) (l : Limit) → HasFault bytes (limit_fault l) → Beyond bytes (limit_place l)
limit_beyond bytes (double n) h = double_beyond bytes n h
limit_beyond bytes (deep n) h = deep_beyond bytes n h
limit_beyond bytes (wide n) h = wide_beyond bytes n h

-- ---- the reader's fault

broken_first : (bytes : List ℕ) (o : Broken bytes 0 start (read_of bytes)) → IsFirstFault bytes (limit_fault o.limit)
broken_first bytes o =
    let breaks : BreaksAt o.rest (length o.x) o.state o.limit = subst (λ (i : ℕ). BreaksAt o.rest i o.state o.limit) (omega arith) o.breaks in
    let has = limit_has bytes o.x o.rest o.state o.limit o.is o.clean breaks in
    record {
      has = has;
      first = λ g h. go breaks has g (kind bytes g h);
    }
  where
    go : BreaksAt o.rest (length o.x) o.state o.limit → HasFault bytes (limit_fault o.limit) → (g : JsonFault) → Kind bytes g → place_of (limit_fault o.limit) ≤ place_of g
    go breaks has g (met m) =
        let le = least bytes o.x o.rest o.state o.limit m.limit o.is o.clean breaks m.hit in
        let same : place_of g ≡ limit_place m.limit = ap place_of (sym m.is) ∙ place_is m.limit in
        omega (arith, le, same, place_is o.limit)
    go breaks has g (syntax_at n e none front) =
        let lt = below_longest bytes (limit_place o.limit) n (limit_beyond bytes o.limit has) front in
        let same : place_of g ≡ n = ap place_of e in
        omega (arith, lt, same, place_is o.limit)

syntax_first : (bytes : List ℕ) (n : ℕ) → IsUtf8 bytes → Same (read_of bytes) (Err (Syntax n)) → ((l : Limit) → Hit bytes l → ⊥) → IsFirstFault bytes (Syntax n)
syntax_first bytes n u e quiet =
    let front = syntax_place bytes n u e in
    record {
      has = (λ tree p. subst (λ (r : Result Json JsonFault). IsRead r tree) e (spelled_read bytes tree p), front);
      first = λ g h. go front g (kind bytes g h);
    }
  where
    go : IsLongestFront bytes n → (g : JsonFault) → Kind bytes g → n ≤ place_of g
    go front g (met m) = absurd (quiet m.limit m.hit)
    go front g (syntax_at m f none other) = let le = other.longest n front.within front.front in let same : place_of g ≡ m = ap place_of f in omega (arith, le, same)

-- what reading comes to
data Read (bytes : List ℕ) : Type 0 where
  tree : (v : Json) → Same (read_of bytes) (Ok v) → Padded bytes v → ((l : Limit) → Hit bytes l → ⊥) → Read bytes
  fault : (f : JsonFault) → Same (read_of bytes) (Err f) → IsFirstFault bytes f → Read bytes

reading : (bytes : List ℕ) → IsUtf8 bytes → Read bytes
reading bytes u = go (outcome bytes 0 start)
  where
    go : Outcome bytes 0 start (read_of bytes) → Read bytes
    go (broken o) = fault (limit_fault o.limit) o.result (broken_first bytes o)
    go (refuses o) = fault (Syntax (0 + length o.x)) o.result (syntax_first bytes (0 + length o.x) u o.result (λ l h. no_hit bytes o.x (o.byte ∷ o.rest) o.state l o.is o.clean (subst (λ (i : ℕ). (step_of o.state i o.byte).breaks ≡ None) (omega arith) o.keeps, subst (λ (i : ℕ). (step_of o.state i o.byte).next ≡ None) (omega arith) o.stops) h))
    go (short o) = fault (Syntax (0 + length bytes)) o.result (syntax_first bytes (0 + length bytes) u o.result (λ l h. no_hit bytes bytes [] o.state l (sym (append-nil bytes)) o.clean o.keeps h))
    go (taken o) = tree o.value o.result (leads_padded bytes o.state o.value (clean_leads o.clean) o.gives) (λ l h. no_hit bytes bytes [] o.state l (sym (append-nil bytes)) o.clean o.keeps h)

-- the fault that is read is the first of all that hold
pub first_fault : (bytes : List ℕ) (f : JsonFault) → IsUtf8 bytes → read_of bytes ≡ Err f → IsFirstFault bytes f
first_fault bytes f u e = go (reading bytes u)
  where
    ok_err : (v : Json) → Same (Ok v) (Err f) → ⊥
    ok_err v q = absurd cc

    go : Read bytes → IsFirstFault bytes f
    go (tree v g p quiet) = absurd (ok_err v (sym g ∙ e))
    go (fault h g first) = subst (λ (x : JsonFault). IsFirstFault bytes x) (err_is h f (sym g ∙ e)) first

-- a text that is read has no fault
no_fault : (bytes : List ℕ) (v : Json) → Padded bytes v → ((l : Limit) → Hit bytes l → ⊥) → (f : JsonFault) → HasFault bytes f → ⊥
no_fault bytes v p quiet f h = go (kind bytes f h)
  where
    go : Kind bytes f → ⊥
    go (met m) = quiet m.limit m.hit
    go (syntax_at n e none front) = none v p

-- and the first of all faults that hold is read
pub fault_read : (bytes : List ℕ) (f : JsonFault) → IsUtf8 bytes → IsFirstFault bytes f → read_of bytes ≡ Err f
fault_read bytes f u first = go (reading bytes u)
  where
    go : Read bytes → read_of bytes ≡ Err f
    go (tree v g p quiet) = absurd (no_fault bytes v p quiet f first.has)
    go (fault h g other) = subst (λ (x : JsonFault). Same (read_of bytes) (Err x)) (one_first bytes h f other first) g

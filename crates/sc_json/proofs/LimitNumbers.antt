-- A number that is too wide is a limit that the machine meets, and only such a one is.
use Rattle.std.proofs.Common.{◌≡◌, ◌⊎◌, inl, inr, ℕ, ◌+◌, ◌-◌, List, [], ◌∷◌, ◌++◌, length, take, Bool, true, false, cond, eqb, Option, Some, None, refl, sym, ap, subst, ◌∙◌, arith, append_assoc, length-append}
use Rattle.std.proofs.lemmas.List.{append-nil, take_at}
use Rattle.sc_decimal.specs.Value.{is_wide}
use Rattle.sc_json.specs.declared.state.State.{State}
use Rattle.sc_json.specs.declared.state.Frame.{Frame}
use Rattle.sc_json.specs.declared.state.Mode.TheVariants.{Number}
use Rattle.sc_json.specs.declared.state.Part.{Part}
use Rattle.sc_json.specs.declared.state.Part.TheVariants as parts
use Rattle.sc_json.specs.Characters.{is_digit_byte}
use Rattle.sc_json.specs.Numbers.{next_part, behind_whole, is_whole, point_of, mark_of}
use Rattle.sc_json.specs.Machine.{at, start, step_of, end_breaks, Limit, wide, ended_breaks, wide_of}
use Rattle.sc_json.specs.Grammar.{Literal}
use Rattle.sc_json.specs.Faults.{IsTooWide}
use Rattle.sc_json.proofs.Steps.{Leads, stays, steps, leads_on}
use Rattle.sc_json.proofs.Words.{number_goes}
use Rattle.sc_json.proofs.Literals.{literal_led}
use Rattle.sc_json.proofs.SoundNumbers.{InPart, part_literal, part_keeps}
use Rattle.sc_json.proofs.Sound.{reads_from_start}
use Rattle.sc_json.proofs.FrontRuns.{awaits_went}
use Rattle.sc_json.proofs.LimitRuns.{BreaksAt, Hit}

-- ---- how far behind a whole number

-- the next part is whole, or a byte further behind
abbrev pub Behind : ℕ → Option Part → Type 0
Behind m None = Unit {0}
Behind m (Some q) = (is_whole q ≡ true) ⊎ (behind_whole q ≡ Some (m + 1))

pub record Steps (m : ℕ) (o : Option Part) : Type 0 where
  pub behind : Behind m o

either : (m : ℕ) (b : Bool) (x y : Option Part) → Steps m x → Steps m y → Steps m (cond b x y)
either m true x y p q = p
either m false x y p q = q

whole : (m : ℕ) (q : Part) → is_whole q ≡ true → Steps m (Some q)
whole m q h = record { behind = inl h }

further : (m : ℕ) (q : Part) → behind_whole q ≡ Some (m + 1) → Steps m (Some q)
further m q h = record { behind = inr h }

none : (m : ℕ) → Steps m None
none m = record { behind = tt }

pub count_is : (n m : ℕ) → Some n ≡ Some m → n ≡ m
count_is n m e = cc

counted : (q : Part) (n m : ℕ) → behind_whole q ≡ Some n → n ≡ m → behind_whole q ≡ Some m
counted q n m e f = subst (λ (i : ℕ). behind_whole q ≡ Some i) f e

mark_steps : (b : ℕ) → Steps 0 (mark_of b)
mark_steps b = either 0 _ _ _ (further 0 parts.Mark refl) (either 0 _ _ _ (further 0 parts.Mark refl) (none 0))

point_steps : (b : ℕ) → Steps 0 (point_of b)
point_steps b = either 0 _ _ _ (further 0 parts.Point refl) (mark_steps b)

pub part_steps : (p : Part) (b m : ℕ) → behind_whole p ≡ Some m → Steps m (next_part p b)
part_steps parts.Minus b m e = absurd cc
part_steps parts.Zero b m e = subst (λ (i : ℕ). Steps i (next_part parts.Zero b)) (count_is 0 m e) (point_steps b)
part_steps parts.Whole b m e = subst (λ (i : ℕ). Steps i (next_part parts.Whole b)) (count_is 0 m e) (either 0 _ _ _ (whole 0 parts.Whole refl) (point_steps b))
part_steps parts.Point b m e = either m _ _ _ (whole m parts.Fraction refl) (none m)
part_steps parts.Fraction b m e = subst (λ (i : ℕ). Steps i (next_part parts.Fraction b)) (count_is 0 m e) (either 0 _ _ _ (whole 0 parts.Fraction refl) (mark_steps b))
part_steps parts.Mark b m e = subst (λ (i : ℕ). Steps i (next_part parts.Mark b)) (count_is 1 m e) (either 1 (eqb b 43) _ _ (further 1 parts.Sign refl) (either 1 (eqb b 45) _ _ (further 1 parts.Sign refl) (either 1 (is_digit_byte b) _ _ (whole 1 parts.Power refl) (none 1))))
part_steps parts.Sign b m e = either m _ _ _ (whole m parts.Power refl) (none m)
part_steps parts.Power b m e = either m _ _ _ (whole m parts.Power refl) (none m)

pub whole_behind : (p : Part) → is_whole p ≡ true → behind_whole p ≡ Some 0
whole_behind parts.Minus h = absurd cc
whole_behind parts.Zero h = refl
whole_behind parts.Whole h = refl
whole_behind parts.Point h = absurd cc
whole_behind parts.Fraction h = refl
whole_behind parts.Mark h = absurd cc
whole_behind parts.Sign h = absurd cc
whole_behind parts.Power h = refl

-- ---- where a number ends

abbrev pub NoMore : Part → List ℕ → Type 0
NoMore p [] = Unit {0}
NoMore p (b ∷ rest) = next_part p b ≡ None

pub at_byte : (k : List Frame) (p : Part) (ds : List ℕ) (from n b : ℕ) → next_part p b ≡ None → (step_of (at k (Number p ds from)) n b).breaks ≡ ended_breaks p ds from
unfolding step_of
at_byte k p ds from n b h = rw h refl

pub at_end : (k : List Frame) (p : Part) (ds : List ℕ) (from : ℕ) → end_breaks (at k (Number p ds from)) ≡ ended_breaks p ds from
unfolding end_breaks
at_end k p ds from = refl

ends_here : (k : List Frame) (p : Part) (ds : List ℕ) (from n : ℕ) (rest : List ℕ) (l : Limit) → NoMore p rest → ended_breaks p ds from ≡ Some l → BreaksAt rest n (at k (Number p ds from)) l
ends_here k p ds from n [] l h e = at_end k p ds from ∙ e
ends_here k p ds from n (b ∷ rest) l h e = at_byte k p ds from n b h ∙ e

wide_here : (ds : List ℕ) (from : ℕ) → is_wide ds ≡ true → wide_of ds from ≡ Some (wide from)
wide_here ds from h = rw h refl

pub front_is : (number more : List ℕ) (c : ℕ) → c ≡ length more → take (length (number ++ more) - c) (number ++ more) ≡ number
front_is number more c e = take_at number more (length (number ++ more) - c) (let l = length-append number more in omega (arith, l, e))

pub nothing_more : (more : List ℕ) → 0 ≡ length more → more ≡ []
nothing_more [] e = refl
nothing_more (b ∷ more) e = absurd (omega (arith, e))

wide_front : (number more : List ℕ) (c from : ℕ) → c ≡ length more → is_wide number ≡ true → wide_of (take (length (number ++ more) - c) (number ++ more)) from ≡ Some (wide from)
wide_front number more c from e h = subst (λ (x : List ℕ). wide_of x from ≡ Some (wide from)) (sym (front_is number more c e)) (wide_here number from h)

wide_whole : (number more : List ℕ) (from : ℕ) → 0 ≡ length more → is_wide number ≡ true → wide_of (number ++ more) from ≡ Some (wide from)
wide_whole number more from e h = subst (λ (x : List ℕ). wide_of (number ++ x) from ≡ Some (wide from)) (sym (nothing_more more e)) (subst (λ (x : List ℕ). wide_of x from ≡ Some (wide from)) (sym (append-nil number)) (wide_here number from h))

wide_behind : (p : Part) (number more : List ℕ) (from : ℕ) → behind_whole p ≡ Some (length more) → is_wide number ≡ true → ended_breaks p (number ++ more) from ≡ Some (wide from)
wide_behind parts.Minus number more from e h = absurd cc
wide_behind parts.Zero number more from e h = wide_whole number more from (count_is 0 (length more) e) h
wide_behind parts.Whole number more from e h = wide_whole number more from (count_is 0 (length more) e) h
wide_behind parts.Point number more from e h = wide_front number more 1 from (count_is 1 (length more) e) h
wide_behind parts.Fraction number more from e h = wide_whole number more from (count_is 0 (length more) e) h
wide_behind parts.Mark number more from e h = wide_front number more 1 from (count_is 1 (length more) e) h
wide_behind parts.Sign number more from e h = wide_front number more 2 from (count_is 2 (length more) e) h
wide_behind parts.Power number more from e h = wide_whole number more from (count_is 0 (length more) e) h

-- ---- the run behind the longest whole number

record RunsOn (k : List Frame) (number more rest : List ℕ) (q : Part) (from n : ℕ) : Type 0 where
  x : List ℕ
  others : List ℕ
  part : Part
  is : rest ≡ x ++ others
  leads : Leads x n (at k (Number q (number ++ more) from)) (at k (Number part (number ++ (more ++ x)) from))
  behind : behind_whole part ≡ Some (length (more ++ x))
  ends : NoMore part others

nil_not : (xs : List ℕ) (b : ℕ) → xs ++ b ∷ [] ≡ [] → ⊥
nil_not [] b e = absurd cc
nil_not (x ∷ xs) b e = absurd cc

stops_here : (k : List Frame) (number more rest : List ℕ) (q : Part) (from n : ℕ) → behind_whole q ≡ Some (length more) → NoMore q rest → RunsOn k number more rest q from n
stops_here k number more rest q from n e h = record {
  x = [];
  others = rest;
  part = q;
  is = refl;
  leads = subst (λ (y : List ℕ). Leads [] n (at k (Number q (number ++ more) from)) (at k (Number q (number ++ y) from))) (sym (append-nil more)) (stays n (at k (Number q (number ++ more) from)));
  behind = subst (λ (y : List ℕ). behind_whole q ≡ Some (length y)) (sym (append-nil more)) e;
  ends = h;
}

runs_on : (k : List Frame) (number whole_rest : List ℕ) → ((more others : List ℕ) → whole_rest ≡ more ++ others → Literal (number ++ more) → more ≡ []) → (rest more : List ℕ) (q : Part) (from n : ℕ) → whole_rest ≡ more ++ rest → InPart q (number ++ more) → behind_whole q ≡ Some (length more) → RunsOn k number more rest q from n
runs_on k number whole_rest longest [] more q from n is place e = stops_here k number more [] q from n e tt
runs_on k number whole_rest longest (b ∷ rest) more q from n is place e = go (next_part q b) refl (part_steps q b (length more) e).behind (λ r placed f. runs_on k number whole_rest longest rest (more ++ b ∷ []) r from (n + 1) here placed f)
  where
    here : whole_rest ≡ (more ++ b ∷ []) ++ rest
    here = is ∙ sym (append_assoc more (b ∷ []) rest)

    go : (o : Option Part) → next_part q b ≡ o → Behind (length more) o → ((r : Part) → InPart r (number ++ (more ++ b ∷ [])) → behind_whole r ≡ Some (length (more ++ b ∷ [])) → RunsOn k number (more ++ b ∷ []) rest r from (n + 1)) → RunsOn k number more (b ∷ rest) q from n
    go None f h on = stops_here k number more (b ∷ rest) q from n e f
    go (Some r) f (inl w) on =
        let placed : InPart r (number ++ (more ++ b ∷ [])) = subst (λ (y : List ℕ). InPart r y) (append_assoc number more (b ∷ [])) (part_keeps q (number ++ more) b r place f) in
        absurd (nil_not more b (longest (more ++ b ∷ []) rest here (part_literal r (number ++ (more ++ b ∷ [])) w placed)))
    go (Some r) f (inr past) on =
        let placed : InPart r (number ++ (more ++ b ∷ [])) = subst (λ (y : List ℕ). InPart r y) (append_assoc number more (b ∷ [])) (part_keeps q (number ++ more) b r place f) in
        let later = on r placed (counted r (length more + 1) (length (more ++ b ∷ [])) past (let l = length-append more (b ∷ []) in omega (arith, l))) in
        let first : (step_of (at k (Number q (number ++ more) from)) n b).next ≡ Some (at k (Number r (number ++ (more ++ b ∷ [])) from)) = subst (λ (y : List ℕ). (step_of (at k (Number q (number ++ more) from)) n b).next ≡ Some (at k (Number r y from))) (append_assoc number more (b ∷ [])) (number_goes k q r (number ++ more) from n b f) in
        record {
          x = b ∷ later.x;
          others = later.others;
          part = later.part;
          is = ap (λ (y : List ℕ). b ∷ y) later.is;
          leads = steps b later.x n _ (at k (Number r (number ++ (more ++ b ∷ [])) from)) _ first (subst (λ (y : List ℕ). Leads later.x (n + 1) (at k (Number r (number ++ (more ++ b ∷ [])) from)) (at k (Number later.part (number ++ y) from))) (append_assoc more (b ∷ []) later.x) later.leads);
          behind = subst (λ (y : List ℕ). behind_whole later.part ≡ Some (length y)) (append_assoc more (b ∷ []) later.x) later.behind;
          ends = later.ends;
        }

pub wide_hit : (bytes : List ℕ) (place : ℕ) → IsTooWide bytes place → Hit bytes (wide place)
wide_hit bytes place h =
    let i = awaits_went h.awaits in
    let k : List Frame = i.stack in
    let n : ℕ = length h.before in
    let z = literal_led h.number h.literal k i.state i.begins n in
    let whole : Leads (h.before ++ h.number) 0 start (at k (Number z.part h.number n)) = leads_on i.leads h.number n (at k (Number z.part h.number n)) (omega arith) z.leads in
    let placed : InPart z.part h.number = (reads_from_start (h.before ++ h.number) (at k (Number z.part h.number n)) whole).so_far in
    let from_nil : Leads (h.before ++ h.number) 0 start (at k (Number z.part (h.number ++ []) n)) = subst (λ (y : List ℕ). Leads (h.before ++ h.number) 0 start (at k (Number z.part y n))) (sym (append-nil h.number)) whole in
    let r = runs_on k h.number h.rest h.longest h.rest [] z.part n (length (h.before ++ h.number)) refl (subst (λ (y : List ℕ). InPart z.part y) (sym (append-nil h.number)) placed) (whole_behind z.part z.is) in
    let t : State = at k (Number r.part (h.number ++ ([] ++ r.x)) n) in
    record {
      x = h.before ++ h.number ++ r.x;
      rest = r.others;
      state = t;
      is = h.is ∙ ap (λ (y : List ℕ). h.before ++ h.number ++ y) r.is ∙ sym (append_assoc (h.before ++ h.number) r.x r.others);
      leads = leads_on from_nil r.x (length (h.before ++ h.number)) t (omega arith) r.leads;
      breaks = ends_here k r.part (h.number ++ r.x) n (length (h.before ++ h.number ++ r.x)) r.others (wide place) r.ends (wide_behind r.part h.number r.x n r.behind h.wide ∙ ap (λ (j : ℕ). Some (wide j)) (sym h.place));
    }

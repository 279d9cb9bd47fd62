-- Whole runs.
use Rattle.std.proofs.Common.{◌≡◌, ℕ, ◌+◌, ◌^◌, ◌<◌, ◌≤◌, ◌||◌, Bool, true, false, nat_lt, List, [], ◌∷◌, ◌++◌, length, Some, None, inr, refl, sym, ◌∙◌, ap, subst, arith, append_assoc, append-nil}
use Rattle.std.specs.declared.option.Option.{Option}
use Rattle.std.specs.Io.KnownBytes.{Appends, Consumes, Keeps}
use Rattle.std.proofs.lemmas.Bool.Decides.{nat_tests}
use Rattle.sc_outside.specs.Lines.{lines_of, lines_to_read}
use Rattle.sc_outcome.specs.declared.outcome.Outcome.{Outcome}
use Rattle.sc_machine.specs.State.{nothing}
use Rattle.sc_weave.specs.declared.ending.WeaveEnd.{WeaveEnd}
use Rattle.sc_weave.specs.declared.ending.WeaveEnd.TheVariants.{BadStep, ReadFault, OutOfMemory}
use Rattle.sc_weave.specs.declared.progress.Progress.{Progress}
use Rattle.sc_weave.specs.Weaving.{AreWoven, WeaveRan, lines_of_script, told}
use Rattle.sc_weave.specs.Inside.{HasNoFeed, HasTaken, HasWritten, Stops}
use Rattle.sc_weave.proofs.Following.{are_woven, nothing_woven, past_limit}
use Rattle.sc_weave.proofs.Telling.{appends_nothing, tells_whole}
use Rattle.sc_weave.proofs.Feeds.{no_whole_line, one_line}
use Rattle.sc_weave.proofs.Stopping.{ends_so}
use Rattle.sc_weave.proofs.Taking.{these_lines, size_taken}

pub consumes_nothing : (a : Option (List ℕ)) → Consumes a a []
consumes_nothing None = tt
consumes_nothing (Some xs) = refl

pub consumes_both : (a b c : Option (List ℕ)) (x y : List ℕ) → Consumes a b x → Consumes b c y → Consumes a c (x ++ y)
consumes_both None b c x y p q = tt
consumes_both (Some u) None c x y p q = absurd p
consumes_both (Some u) (Some v) None x y p q = absurd q
consumes_both (Some u) (Some v) (Some w) x y p q = p ∙ ap (λ t. x ++ t) q ∙ sym (append_assoc x y w)

consumes_kept : (a b c : Option (List ℕ)) (x : List ℕ) → Consumes a b x → Keeps b c → Consumes a c x
consumes_kept None b c x p q = tt
consumes_kept (Some u) None c x p q = absurd p
consumes_kept (Some u) (Some v) None x p q = absurd q
consumes_kept (Some u) (Some v) (Some w) x p q = p ∙ ap (λ t. x ++ t) (sym q)

-- memory is wanting before anything is read
pub wants_first : (left old : Option (List ℕ)) (ended : Bool) → WeaveRan OutOfMemory left left ended old old
wants_first left old ended = record {
  taken = [];
  took = consumes_nothing left;
  ends = record {
    before = [];
    after = [];
    place = none (ended || nat_lt (2 ^ 28) 0);
    outcomes = [];
    woven = are_woven 0 0 nothing [] [] nothing_woven;
    wrote = (0, appends_nothing old);
  };
}
  where
    none : (all : Bool) → lines_to_read all [] ≡ []
    none true = refl
    none false = refl

-- the end of the input
pub woven_to_end : (start now : Option (List ℕ)) (progress : Progress) (pending taken : List ℕ) (h : HasTaken start now progress pending taken) (now' : Option (List ℕ)) (progress' : Progress) → HasWritten start now' progress' (h.lines ++ lines_of pending)
    → (true ≡ true) × (outcomes : List Outcome) × AreWoven (lines_of taken) outcomes × Appends start now' (told outcomes)
woven_to_end start now progress pending taken h now' progress' w = (
  refl,
  w.told.outcomes,
  subst (λ t. AreWoven t w.told.outcomes) (sym (these_lines start now progress pending taken h true)) (are_woven _ _ _ _ _ w.told.woven),
  tells_whole _ _ _ _ w.told.tells w.none,
)

module _ (left left' left'' : Option (List ℕ)) (taken : List ℕ) (took : Consumes left left' taken) (ended : Bool) (old new : Option (List ℕ)) where
  pub ran_to_stop : (end : WeaveEnd) (more : List ℕ) → Consumes left' left'' more → ((all : Bool) → Stops end (lines_to_read all (taken ++ more)) old new) → WeaveRan end left left'' ended old new
  ran_to_stop end more m stops = record {
    taken = taken ++ more;
    took = consumes_both left left' left'' taken more took m;
    ends = ends_so end (lines_of_script (taken ++ more) ended) ended old new (stops (ended || nat_lt (2 ^ 28) (length (taken ++ more))));
  }

module _ (left left' : Option (List ℕ)) (taken : List ℕ) (took : Consumes left left' taken) (start now : Option (List ℕ)) (progress : Progress) (pending : List ℕ) (h : HasTaken start now progress pending taken) where
  size : length taken ≡ progress.read + length pending
  size = size_taken start now progress pending taken h

  is_woven : AreWoven h.lines h.written.told.outcomes
  is_woven = are_woven _ _ _ _ _ h.written.told.woven

  wrote : Appends start now (told h.written.told.outcomes)
  wrote = tells_whole _ _ _ _ h.written.told.tells h.written.none

  -- the input failed
  pub ran_to_fault : (left'' : Option (List ℕ)) (ended : Bool) → Keeps left' left'' → ended ≡ false → progress.read + length pending ≤ 2 ^ 28 → WeaveRan ReadFault left left'' ended start now
  ran_to_fault left'' ended kept e few = record {
    taken = taken;
    took = consumes_kept left left' left'' taken took kept;
    ends = (h.written.told.outcomes, subst (λ t. AreWoven t h.written.told.outcomes) (sym these) is_woven, wrote);
  }
    where
      short : nat_lt (2 ^ 28) (length taken) ≡ false
      short = grind (arith, nat_tests, size, few)

      these : lines_of_script taken ended ≡ h.lines
      these = (λ k. lines_to_read (e k || short k) taken) ∙ these_lines start now progress pending taken h false ∙ ap (λ t. h.lines ++ t) (no_whole_line pending h.behind) ∙ append-nil h.lines

  -- a byte is past the limit
  pub ran_to_limit : (ended : Bool) → 2 ^ 28 < progress.read + length pending → WeaveRan (BadStep (progress.count + 1)) left left' ended start now
  ran_to_limit ended long = record {
    taken = taken;
    took = took;
    ends = (
      h.written.told.outcomes,
      record {
        before = h.lines;
        line = pending;
        after = [];
        place = all_true ended (nat_lt (2 ^ 28) (length taken)) past ∙ these_lines start now progress pending taken h true ∙ ap (λ t. h.lines ++ t) (only pending h.behind some);
        number = ap (λ n. n + 1) (sym h.written.told.woven.count_is);
        good = is_woven;
        bad = past_limit _ _ _ _ _ h.written.told.woven pending (inr (omega (arith, long)));
      },
      wrote,
    );
  }
    where
      past : nat_lt (2 ^ 28) (length taken) ≡ true
      past = grind (arith, nat_tests, size, long)

      some : 0 < length pending
      some = omega (arith, long, h.written.told.woven.short)

      all_true : (b t : Bool) → t ≡ true → lines_to_read (b || t) taken ≡ lines_to_read true taken
      all_true true t e = refl
      all_true false t e = ap (λ x. lines_to_read x taken) e

      only : (bytes : List ℕ) → HasNoFeed bytes → 0 < length bytes → lines_of bytes ≡ bytes ∷ []
      only [] none lt = absurd (omega arith)
      only (b ∷ bytes) none lt = one_line b bytes none

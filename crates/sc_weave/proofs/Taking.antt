-- Lines that a progress weaves: one more, all those of some bytes, and those of all bytes taken.
use Rattle.std.proofs.Common.{◌≡◌, ℕ, ◌+◌, ◌-◌, ◌^◌, ◌<◌, ◌≤◌, Bool, List, [], ◌∷◌, ◌++◌, length, string_bytes, refl, sym, ◌∙◌, ap, subst, append_assoc}
use Rattle.std.specs.declared.option.Option.{Option}
use Rattle.std.proofs.lemmas.List.{length-append}
use Rattle.sc_outside.specs.Lines.{lines_of, lines_to_read, without_feed}
use Rattle.sc_script.specs.declared.step.Step.{Step}
use Rattle.sc_script.specs.Step.{StepOf}
use Rattle.sc_outcome.specs.declared.outcome.Outcome.{Outcome}
use Rattle.sc_outcome.specs.Outcome.{line_of}
use Rattle.sc_machine.specs.Machine.{Takes}
use Rattle.sc_weave.specs.declared.ending.WeaveEnd.{WeaveEnd}
use Rattle.sc_weave.specs.declared.progress.Progress.{Progress}
use Rattle.sc_weave.specs.Weaving.{WritesFront}
use Rattle.sc_weave.specs.Inside.{HasNoFeed, AreWhole, HasTold, HasWritten, HasTaken, Stops}
use Rattle.sc_weave.proofs.Following.{woven_more}
use Rattle.sc_weave.proofs.Telling.{tells_more}
use Rattle.sc_weave.proofs.Feeds.{whole_nothing, whole_both, whole_at_feed}
use Rattle.sc_weave.proofs.Stopping.{stops_here, stops_more}

pub told_more : (start now : Option (List ℕ)) (progress next : Progress) (lines : List (List ℕ)) (line : List ℕ) (step : Step) (outcome : Outcome) → HasTold start now progress lines → StepOf (without_feed line) step → Takes step progress.machine next.machine outcome
    → string_bytes next.out ≡ string_bytes progress.out ++ line_of outcome → next.count ≡ progress.count + 1 → next.read ≡ progress.read + length line → progress.count < 1000000 → length line ≤ 2 ^ 28 - progress.read → HasTold start now next (lines ++ line ∷ [])
told_more start now progress next lines line step outcome h s t o c r few short = record {
  outcomes = h.outcomes ++ outcome ∷ [];
  woven = rw (c, r) (woven_more progress.count progress.read progress.machine lines h.outcomes h.woven line next.machine step outcome s t few short);
  tells = rw o (tells_more start now (string_bytes progress.out) h.outcomes h.tells outcome);
}

-- some of the lines were woven, and those of the rest are left
pub record Midway (start now : Option (List ℕ)) (progress : Progress) (lines all : List (List ℕ)) (rest : List ℕ) : Type 0 where
  pub before : List (List ℕ)
  pub place : all ≡ before ++ lines_of rest
  pub told : HasTold start now progress (lines ++ before)

module _ (start now : Option (List ℕ)) (progress : Progress) (lines all : List (List ℕ)) (rest line after : List ℕ) (m : Midway start now progress lines all rest) (next : lines_of rest ≡ line ∷ lines_of after) where
  place : all ≡ m.before ++ line ∷ lines_of after
  place = m.place ∙ ap (λ t. m.before ++ t) next

  pub midway_more : (now' : Option (List ℕ)) (progress' : Progress) → HasTold start now' progress' ((lines ++ m.before) ++ line ∷ []) → Midway start now' progress' lines all after
  midway_more now' progress' h = record {
    before = m.before ++ line ∷ [];
    place = place ∙ sym (append_assoc m.before (line ∷ []) (lines_of after));
    told = subst (λ t. HasTold start now' progress' t) (append_assoc lines m.before (line ∷ [])) h;
  }

  pub midway_stop : (end : WeaveEnd) (now' : Option (List ℕ)) → Stops end ((lines ++ m.before) ++ line ∷ lines_of after) start now' → Stops end (lines ++ all) start now'
  midway_stop end now' s = subst (λ t. Stops end t start now') (append_assoc lines m.before (line ∷ lines_of after) ∙ ap (λ t. lines ++ t) (sym place)) s

-- ---- bytes taken

pub taken_nothing : (start : Option (List ℕ)) (progress : Progress) → HasWritten start start progress [] → HasTaken start start progress [] []
taken_nothing start progress w = record { done = []; lines = []; whole = whole_nothing; parts = refl; behind = tt; written = w }

module _ (start now : Option (List ℕ)) (progress : Progress) (pending taken : List ℕ) (h : HasTaken start now progress pending taken) where
  more_lines : (all : Bool) (more : List ℕ) → lines_to_read all (taken ++ more) ≡ h.lines ++ lines_to_read all (pending ++ more)
  more_lines all more = ap (λ t. lines_to_read all (t ++ more)) h.parts ∙ ap (lines_to_read all) (append_assoc h.done pending more) ∙ h.whole.split all (pending ++ more)

  pub these_lines : (all : Bool) → lines_to_read all taken ≡ h.lines ++ lines_to_read all pending
  these_lines all = ap (lines_to_read all) h.parts ∙ h.whole.split all pending

  pub size_taken : length taken ≡ progress.read + length pending
  size_taken = ap length h.parts ∙ length-append h.done pending ∙ ap (λ n. n + length pending) (ap length (sym h.whole.joined) ∙ h.written.told.woven.read_is)

  -- memory is wanting before any of the bytes is woven
  pub wants_before : (all : Bool) (more : List ℕ) → WritesFront (lines_to_read all (taken ++ more)) start now
  wants_before all more = subst (λ t. WritesFront t start now) (sym (more_lines all more)) (stops_here h.lines (lines_to_read all (pending ++ more)) start now progress h.written.told)

  module _ (bytes whole rest pending' : List ℕ) (parts : bytes ≡ whole ++ rest) (feed : (front : List ℕ) × (whole ≡ front ++ 10 ∷ [])) (joined : pending' ≡ pending ++ whole) where
    closed : AreWhole pending' (lines_of pending')
    closed = subst (λ t. AreWhole t (lines_of t)) (sym (joined ∙ ap (λ t. pending ++ t) feed.1 ∙ sym (append_assoc pending feed.0 (10 ∷ [])))) (whole_at_feed (pending ++ feed.0))

    all_closed : AreWhole (h.done ++ pending') (h.lines ++ lines_of pending')
    all_closed = whole_both h.done pending' h.lines (lines_of pending') h.whole closed

    all_parts : taken ++ bytes ≡ (h.done ++ pending') ++ rest
    all_parts = (λ k. h.parts k ++ parts k) ∙ sym (append_assoc (h.done ++ pending) whole rest) ∙ ap (λ t. t ++ rest) (append_assoc h.done pending whole ∙ ap (λ t. h.done ++ t) (sym joined))

    all_lines : (all : Bool) → lines_to_read all (taken ++ bytes) ≡ (h.lines ++ lines_of pending') ++ lines_to_read all rest
    all_lines all = ap (lines_to_read all) all_parts ∙ all_closed.split all rest

    pub taken_stop : (end : WeaveEnd) (now' : Option (List ℕ)) (all : Bool) → Stops end (h.lines ++ lines_of pending') start now' → Stops end (lines_to_read all (taken ++ bytes)) start now'
    taken_stop end now' all s = subst (λ t. Stops end t start now') (sym (all_lines all)) (stops_more (h.lines ++ lines_of pending') (lines_to_read all rest) start now' end s)

    module _ (now' : Option (List ℕ)) (progress' : Progress) (w : HasWritten start now' progress' (h.lines ++ lines_of pending')) where
      pub taken_more : HasNoFeed rest → HasTaken start now' progress' rest (taken ++ bytes)
      taken_more none = record { done = h.done ++ pending'; lines = h.lines ++ lines_of pending'; whole = all_closed; parts = all_parts; behind = none; written = w }

      pub wants_behind : (all : Bool) → WritesFront (lines_to_read all (taken ++ bytes)) start now'
      wants_behind all = subst (λ t. WritesFront t start now') (sym (all_lines all)) (stops_here (h.lines ++ lines_of pending') (lines_to_read all rest) start now' progress' w.told)

-- How weaving stops, and more lines behind the one at which it stopped.
use Rattle.std.proofs.Common.{◌≡◌, ℕ, ◌+◌, ◌-◌, ◌^◌, ◌≤◌, min, List, [], ◌∷◌, ◌++◌, length, refl, sym, ◌∙◌, ap, arith, append_assoc, append-nil}
use Rattle.std.specs.declared.option.Option.{Option}
use Rattle.sc_outside.specs.Outside.{AppendsFront}
use Rattle.sc_weave.specs.declared.ending.WeaveEnd.{WeaveEnd}
use Rattle.sc_weave.specs.declared.ending.WeaveEnd.TheVariants.{Done, BadStep, ReadFault, WriteFault, OutOfMemory}
use Rattle.sc_weave.specs.declared.progress.Progress.{Progress}
use Rattle.sc_weave.specs.Weaving.{WritesFront, EndsOn, told}
use Rattle.sc_weave.specs.Inside.{HasTold, HasWritten, CantFollow, Stops}
use Rattle.sc_weave.proofs.Following.{are_woven}
use Rattle.sc_weave.proofs.Telling.{tells_so_far, tells_whole}

module _ (xs ys : List (List ℕ)) (start now : Option (List ℕ)) where
  pub writes_more : WritesFront xs start now → WritesFront (xs ++ ys) start now
  writes_more w = record {
    before = w.before;
    after = w.after ++ ys;
    place = ap (λ t. t ++ ys) w.place ∙ append_assoc w.before w.after ys;
    outcomes = w.outcomes;
    woven = w.woven;
    wrote = w.wrote;
  }

  pub stops_more : (end : WeaveEnd) → Stops end xs start now → Stops end (xs ++ ys) start now
  stops_more Done s = s
  stops_more (BadStep n) s = (
    s.0,
    record {
      before = s.1.before;
      line = s.1.line;
      after = s.1.after ++ ys;
      place = ap (λ t. t ++ ys) s.1.place ∙ append_assoc s.1.before (s.1.line ∷ s.1.after) ys;
      number = s.1.number;
      good = s.1.good;
      bad = s.1.bad;
    },
    s.2,
  )
  stops_more ReadFault s = s
  stops_more WriteFault s = writes_more s
  stops_more OutOfMemory s = writes_more s

-- a stop is an end
pub ends_so : (end : WeaveEnd) (lines : List (List ℕ)) (ended : _) (start now : Option (List ℕ)) → Stops end lines start now → EndsOn end lines ended start now
ends_so Done lines ended start now s = absurd s
ends_so (BadStep n) lines ended start now s = s
ends_so ReadFault lines ended start now s = absurd s
ends_so WriteFault lines ended start now s = s
ends_so OutOfMemory lines ended start now s = s

pub not_read_fault : (end : WeaveEnd) (lines : List (List ℕ)) (start now : Option (List ℕ)) → Stops end lines start now → end ≡ ReadFault → ⊥
not_read_fault Done lines start now s e = absurd s
not_read_fault (BadStep n) lines start now s e = cc
not_read_fault ReadFault lines start now s e = absurd s
not_read_fault WriteFault lines start now s e = cc
not_read_fault OutOfMemory lines start now s e = cc

-- where a front of what tells the lines was written
pub front_written : (lines : List (List ℕ)) (start now next : Option (List ℕ)) (progress : Progress) (h : HasTold start now progress lines) → AppendsFront start next (told h.outcomes) → WritesFront lines start next
front_written lines start now next progress h front = record {
  before = lines;
  after = [];
  place = sym (append-nil lines);
  outcomes = h.outcomes;
  woven = are_woven _ _ _ _ _ h.woven;
  wrote = front;
}

-- where nothing more was written
pub stops_here : (lines rest : List (List ℕ)) (start now : Option (List ℕ)) (progress : Progress) → HasTold start now progress lines → WritesFront (lines ++ rest) start now
stops_here lines rest start now progress h = writes_more lines rest start now (front_written lines start now now progress h (tells_so_far _ _ _ _ h.tells))

-- at a line that can't follow
pub stops_at_line : (lines rest : List (List ℕ)) (line : List ℕ) (n count : ℕ) (start now : Option (List ℕ)) (progress : Progress) → n ≡ min (count + 1) (2 ^ 64 - 1) → length lines ≡ count → count ≤ 1000000 → HasWritten start now progress lines → CantFollow lines line
    → Stops (BadStep n) (lines ++ line ∷ rest) start now
stops_at_line lines rest line n count start now progress e c few w bad = (
  w.told.outcomes,
  record {
    before = lines;
    line = line;
    after = rest;
    place = refl;
    number = omega (arith, e, c, few);
    good = are_woven _ _ _ _ _ w.told.woven;
    bad = bad;
  },
  tells_whole _ _ _ _ w.told.tells w.none,
)

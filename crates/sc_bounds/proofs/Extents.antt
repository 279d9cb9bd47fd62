-- Bounds: joins, meets and hulls.
use Rattle.std.proofs.Common.{ℕ, ◌+◌, ◌<◌, length, get_or, take, ap, ◌∙◌, ◌≡◌, ◌↔◌, refl, ℤ, Option, Some, List, [], ◌∷◌, ◌++◌, arith, subst, sym, append_assoc, append-nil}
use Rattle.std.specs.Prelude.{All}
use Rattle.std.specs.List.{fold}
use Rattle.std.proofs.lemmas.Int.{ints}
use Rattle.std.proofs.lemmas.List.{take_more}
use Rattle.std.proofs.lemmas.List.Sums.{fold_more}
use Rattle.std.proofs.lemmas.List.Elements.{All-nil, All-cons, All-head, All-tail, All-push, All-weaker}
use Rattle.sc_geom.specs.Rectangle.{Rectangle}
use Rattle.sc_bounds.specs.declared.reach.Reach.{Reach}
use Rattle.sc_bounds.specs.Moments.{HasMoment, moments_join, moments_meet}
use Rattle.sc_bounds.specs.Places.{place_join, place_meet}
use Rattle.sc_bounds.specs.Extent.{Extent, AreBounds, empty}
use Rattle.sc_bounds.specs.Sets.{AreMomentsOf, Covers, IsWithin, IsHull, IsWidened, IsJoin, IsMeet, IsReach, join_of, meet_of, only, hull}
use Rattle.sc_bounds.proofs.MomentSets as moments
use Rattle.sc_bounds.proofs.PointSets as places

pub within_itself : (a : Extent) → IsWithin a a
within_itself a = record { starts = λ at h. h; ends = λ at h. h; place = λ point h. h }

pub within_chain : (a b d : Extent) → IsWithin a b → IsWithin b d → IsWithin a d
within_chain a b d h k = record {
  starts = λ at x. k.starts at (h.starts at x);
  ends = λ at x. k.ends at (h.ends at x);
  place = λ point x. k.place point (h.place point x);
}

parts : (s e s' e' : Option (ℤ × ℤ)) (p p' : Option Rectangle) → s ≡ s' → e ≡ e' → p ≡ p' →
    (let a : Extent = record { starts = s; ends = e; place = p } in let b : Extent = record { starts = s'; ends = e'; place = p' } in a ≡ b)
parts s e s' e' p p' starts ends place = rw (starts, ends, place) refl

pub same_parts : (a b : Extent) → a.starts ≡ b.starts → a.ends ≡ b.ends → a.place ≡ b.place → a ≡ b
same_parts a b starts ends place = parts a.starts a.ends b.starts b.ends a.place b.place starts ends place

pub same_bounds : (a b : Extent) → AreBounds a → AreBounds b → IsWithin a b → IsWithin b a → a ≡ b
same_bounds a b ok ok' h k =
    let starts = moments.same_moments a.starts b.starts ok.starts ok'.starts h.starts k.starts in
    let ends = moments.same_moments a.ends b.ends ok.ends ok'.ends h.ends k.ends in
    let place = places.same_place a.place b.place ok.place ok'.place h.place k.place in
    same_parts a b starts ends place

pub covers_wider : (a b : Extent) (reach : Reach) → IsWithin a b → Covers a reach → Covers b reach
covers_wider a b reach h is = record {
  start = h.starts reach.start is.start;
  end = h.ends reach.end is.end;
  place = λ point x. h.place point (is.place point x);
}

pub join_is : (a b : Extent) → AreBounds a → AreBounds b → IsJoin (join_of a b) a b
unfolding join_of
join_is a b ok ok' = record {
  left = record {
    starts = moments.join_left a.starts b.starts;
    ends = moments.join_left a.ends b.ends;
    place = places.join_left a.place b.place;
  };
  right = record {
    starts = moments.join_right a.starts b.starts;
    ends = moments.join_right a.ends b.ends;
    place = places.join_right a.place b.place;
  };
  least = λ other h k. record {
    starts = moments.join_least a.starts b.starts other.starts ok.starts ok'.starts h.starts k.starts;
    ends = moments.join_least a.ends b.ends other.ends ok.ends ok'.ends h.ends k.ends;
    place = places.join_least a.place b.place other.place ok.place ok'.place h.place k.place;
  };
}

pub join_bounds : (a b : Extent) → AreBounds a → AreBounds b → AreBounds (join_of a b)
unfolding join_of
join_bounds a b ok ok' = record {
  starts = moments.join_ordered a.starts b.starts ok.starts ok'.starts;
  ends = moments.join_ordered a.ends b.ends ok.ends ok'.ends;
  place = places.join_place a.place b.place ok.place ok'.place;
}

pub join_covers_left : (join a b : Extent) (reach : Reach) → IsJoin join a b → Covers a reach → Covers join reach
join_covers_left join a b reach is h = covers_wider a join reach is.left h

pub join_covers_right : (join a b : Extent) (reach : Reach) → IsJoin join a b → Covers b reach → Covers join reach
join_covers_right join a b reach is h = covers_wider b join reach is.right h

pub meet_is : (a b : Extent) → IsMeet (meet_of a b) a b
unfolding meet_of
meet_is a b = record {
  starts = moments.meet_is a.starts b.starts;
  ends = moments.meet_is a.ends b.ends;
  place = places.meet_is a.place b.place;
}

pub meet_bounds : (a b : Extent) → AreBounds a → AreBounds b → AreBounds (meet_of a b)
unfolding meet_of
meet_bounds a b ok ok' = record {
  starts = moments.meet_ordered a.starts b.starts;
  ends = moments.meet_ordered a.ends b.ends;
  place = places.meet_place a.place b.place ok.place ok'.place;
}

pub meet_left : (meet a b : Extent) → IsMeet meet a b → IsWithin meet a
meet_left meet a b is = record {
  starts = λ at h. ((is.starts at).0 h).0;
  ends = λ at h. ((is.ends at).0 h).0;
  place = λ point h. ((is.place point).0 h).0;
}

pub meet_right : (meet a b : Extent) → IsMeet meet a b → IsWithin meet b
meet_right meet a b is = record {
  starts = λ at h. ((is.starts at).0 h).1;
  ends = λ at h. ((is.ends at).0 h).1;
  place = λ point h. ((is.place point).0 h).1;
}

pub meet_greatest : (meet a b other : Extent) → IsMeet meet a b → IsWithin other a → IsWithin other b → IsWithin other meet
meet_greatest meet a b other is h k = record {
  starts = λ at x. (is.starts at).1 (h.starts at x, k.starts at x);
  ends = λ at x. (is.ends at).1 (h.ends at x, k.ends at x);
  place = λ point x. (is.place point).1 (h.place point x, k.place point x);
}

meet_both : (meet a b : Extent) (reach : Reach) → IsMeet meet a b → Covers a reach × Covers b reach → Covers meet reach
meet_both meet a b reach is h = record {
  start = (is.starts reach.start).1 (h.0.start, h.1.start);
  end = (is.ends reach.end).1 (h.0.end, h.1.end);
  place = λ point x. (is.place point).1 (h.0.place point x, h.1.place point x);
}

pub meet_covers : (meet a b : Extent) (reach : Reach) → IsMeet meet a b → Covers meet reach ↔ (Covers a reach × Covers b reach)
meet_covers meet a b reach is =
    (λ h. (covers_wider meet a reach (meet_left meet a b is) h, covers_wider meet b reach (meet_right meet a b is) h), meet_both meet a b reach is)

pub only_bounds : (reach : Reach) → IsReach reach → AreBounds (only reach)
only_bounds reach is = record { starts = omega (arith, ints); ends = omega (arith, ints); place = is }

-- bounds cover a reach exactly where its own bounds lie within them
moment_in : (at : ℤ) (b : Option (ℤ × ℤ)) → HasMoment b at → AreMomentsOf (Some (at, at)) b
moment_in at b has other h = let same : at ≡ other = omega (arith, ints, h.0, h.1) in subst (HasMoment b) same has

pub only_within : (reach : Reach) (b : Extent) → Covers b reach → IsWithin (only reach) b
only_within reach b is = record {
  starts = moment_in reach.start b.starts is.start;
  ends = moment_in reach.end b.ends is.end;
  place = is.place;
}

pub only_covers : (reach : Reach) (b : Extent) → IsWithin (only reach) b → Covers b reach
only_covers reach b is = record {
  start = is.starts reach.start (omega (arith, ints), omega (arith, ints));
  end = is.ends reach.end (omega (arith, ints), omega (arith, ints));
  place = is.place;
}

pub widened : (b : Extent) (reach : Reach) → AreBounds b → IsReach reach → IsWidened (join_of b (only reach)) b reach
widened b reach ok is =
    let join = join_is b (only reach) ok (only_bounds reach is) in
    record {
      holds = join.left;
      covers = only_covers reach (join_of b (only reach)) join.right;
      least = λ other h k. join.least other h (only_within reach other k);
    }

-- the hull of no reaches, and of one more
pub hull_none : IsHull empty []
hull_none = record {
  covers = All-nil (Covers empty);
  least = λ b all. record { starts = λ at h. absurd h; ends = λ at h. absurd h; place = λ point h. absurd h };
}

all_front : (P : Reach → Type 0) (xs : List Reach) (x : Reach) → All P (xs ++ x ∷ []) → All P xs
all_front P [] x h = All-nil P
all_front P (y ∷ ys) x h = All-cons P y ys (All-head P y (ys ++ x ∷ []) h) (all_front P ys x (All-tail P y (ys ++ x ∷ []) h))

all_last : (P : Reach → Type 0) (xs : List Reach) (x : Reach) → All P (xs ++ x ∷ []) → P x
all_last P [] x h = All-head P x [] h
all_last P (y ∷ ys) x h = all_last P ys x (All-tail P y (ys ++ x ∷ []) h)

pub hull_more : (wide b : Extent) (reaches : List Reach) (reach : Reach) → IsHull b reaches → IsWidened wide b reach → IsHull wide (reaches ++ reach ∷ [])
hull_more wide b reaches reach is more = record {
  covers = All-push (Covers wide) reaches reach (All-weaker (Covers b) (Covers wide) (λ x. covers_wider b wide x more.holds) reaches is.covers) more.covers;
  least = λ other all. more.least other (is.least other (all_front (Covers other) reaches reach all)) (all_last (Covers other) reaches reach all);
}

empty_bounds : AreBounds empty
empty_bounds = record { starts = tt; ends = tt; place = tt }

pub hull_all : (b : Extent) (before after : List Reach) → AreBounds b → IsHull b before → All IsReach after →
    IsHull (fold (λ wide reach. join_of wide (only reach)) b after) (before ++ after) × AreBounds (fold (λ wide reach. join_of wide (only reach)) b after)
hull_all b before [] ok is all = rw (append-nil before) (is, ok)
hull_all b before (x ∷ after) ok is all =
    let reach = All-head IsReach x after all in
    let more = hull_more (join_of b (only x)) b before x is (widened b x ok reach) in
    let rest = hull_all (join_of b (only x)) (before ++ x ∷ []) after (join_bounds b (only x) ok (only_bounds x reach)) more (All-tail IsReach x after all) in
    rw append_assoc at rest

pub hull_is : (reaches : List Reach) → All IsReach reaches → IsHull (hull reaches) reaches
hull_is reaches all = (hull_all empty [] reaches empty_bounds hull_none all).0

pub hull_bounds : (reaches : List Reach) → All IsReach reaches → AreBounds (hull reaches)
hull_bounds reaches all = (hull_all empty [] reaches empty_bounds hull_none all).1

-- what the code makes part by part
pub joined : (a b a' b' r : Extent) → a ≡ a' → b ≡ b' → r.starts ≡ moments_join a.starts b.starts → r.ends ≡ moments_join a.ends b.ends → r.place ≡ place_join a.place b.place → r ≡ join_of a' b'
unfolding join_of
joined a b a' b' r same same' starts ends place = rw (← same, ← same') (same_parts r (join_of a b) starts ends place)

pub met : (a b a' b' r : Extent) → a ≡ a' → b ≡ b' → r.starts ≡ moments_meet a.starts b.starts → r.ends ≡ moments_meet a.ends b.ends → r.place ≡ place_meet a.place b.place → r ≡ meet_of a' b'
unfolding meet_of
met a b a' b' r same same' starts ends place = rw (← same, ← same') (same_parts r (meet_of a b) starts ends place)

-- one reach more
pub hull_step : (w b : Extent) (xs : List Reach) (i : ℕ) (reach : Reach) → i < length xs → reach ≡ get_or xs i reach → b ≡ hull (take i xs) → w ≡ join_of b (only reach) → w ≡ hull (take (i + 1) xs)
hull_step w b xs i reach lt is old new =
    let step = fold_more (λ (wide : Extent) (r : Reach). join_of wide (only r)) empty xs i reach lt in
    new ∙ ap (λ x. join_of x (only reach)) old ∙ ap (λ r. join_of (hull (take i xs)) (only r)) is ∙ sym step

pub least_step : (w b : Extent) (xs : List Reach) (i : ℕ) (reach : Reach) → i < length xs → reach ≡ get_or xs i reach → IsHull b (take i xs) → IsWidened w b reach → IsHull w (take (i + 1) xs)
least_step w b xs i reach lt is old new =
    let front : take i xs ++ reach ∷ [] ≡ take (i + 1) xs = ap (λ r. take i xs ++ r ∷ []) is ∙ sym (take_more xs i reach lt) in
    subst (IsHull w) front (hull_more w b (take i xs) reach old new)

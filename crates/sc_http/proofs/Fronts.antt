-- The front in which a head ends, and how it is counted piece by piece.
use Rattle.std.proofs.Common.{◌≡◌, ℕ, ◌+◌, ◌<◌, ◌≤◌, ◌⊎◌, false, List, [], ◌∷◌, ◌++◌, length, take, drop, refl, sym, ap, ◌∙◌, subst, arith, append_assoc, append-nil, length-append, inl, inr, ⊎_elim}
use Rattle.std.proofs.lemmas.List.{take-append-drop, length-take}
use Rattle.httparse.specs.Grammar.{RequestHead, ReadsRequest, print_request}
use Rattle.sc_http.specs.declared.lines.Lines.{Lines}
use Rattle.sc_http.specs.Requests.{HasHead, HasNoHead}
use Rattle.sc_http.specs.Heads.{HasNoHeadYet}
use Rattle.sc_http.specs.Room.{IsOver, IsShort, IsRoom, IsFirstOver, feeds_behind, begun_after}
use Rattle.sc_http.specs.Intake.{IsUnfinishedHead}
use Rattle.sc_http.specs.Reading.{CountedTo, CountsOn, IsMeasured, no_lines}
use Rattle.sc_http.proofs.Feeds.{feeds_append, begun_append, over_more, short_not_over, short_or_over, no_head_beyond, no_new_head}

-- one byte more is counted
pub counted_more : (lines : Lines) (bytes rest others : List ℕ) (b : ℕ) (count next : Lines) → CountedTo lines bytes rest count → rest ≡ b ∷ others → count.feeds < 66 → count.seen < 65536
    → next.feeds ≡ count.feeds + feeds_behind count.begun (b ∷ []) → next.begun ≡ begun_after count.begun (b ∷ []) → next.seen ≡ count.seen + 1 → CountedTo lines bytes others next
counted_more lines bytes rest others b count next t e few room f g s = record {
  done = t.done ++ b ∷ [];
  parts = t.parts ∙ ap (λ z. t.done ++ z) e ∙ sym (append_assoc t.done (b ∷ []) others);
  feeds =
      let moved = ap (λ k. feeds_behind k (b ∷ [])) t.begun in
      omega (arith, f, t.feeds, moved, feeds_append lines.begun t.done (b ∷ []));
  begun = g ∙ ap (λ k. begun_after k (b ∷ [])) t.begun ∙ sym (begun_append lines.begun t.done (b ∷ []));
  seen = omega (arith, s, t.seen, length-append t.done (b ∷ []));
  last = inr (t.done, b, refl, omega (arith, few, t.feeds), omega (arith, room, t.seen));
}

pub counted_none : (lines : Lines) (bytes : List ℕ) → CountedTo lines bytes bytes lines
counted_none lines bytes = record { done = []; parts = refl; feeds = omega arith; begun = refl; seen = omega arith; last = inl refl }

-- short bytes are their own front
short_whole : (bytes front : List ℕ) → IsShort bytes → IsRoom bytes front → bytes ≡ front
short_whole bytes front s (inl x) = x.0
short_whole bytes front s (inr f) =
    let whole : bytes ≡ front ++ f.rest = f.parts ∙ sym (append_assoc f.before (f.last ∷ []) f.rest) ∙ ap (λ t. t ++ f.rest) (sym f.front_is) in
    absurd (short_not_over bytes s (subst IsOver (sym whole) (over_more front f.rest f.over)))

pub room_parts : (bytes front : List ℕ) → IsRoom bytes front → (rest : List ℕ) × (bytes ≡ front ++ rest)
room_parts bytes front (inl x) = ([], x.0 ∙ sym (append-nil front))
room_parts bytes front (inr f) = (f.rest, f.parts ∙ sym (append_assoc f.before (f.last ∷ []) f.rest) ∙ ap (λ t. t ++ f.rest) (sym f.front_is))

room_small : (bytes front : List ℕ) → IsRoom bytes front → length front ≤ 65536
room_small bytes front (inl x) = omega (arith, x.1.0)
room_small bytes front (inr f) = omega (arith, f.short.0, ap length f.front_is, length-append f.before (f.last ∷ []))

take_length : (xs ys : List ℕ) → take (length xs) (xs ++ ys) ≡ xs
take_length [] ys = refl
take_length (x ∷ xs) ys = ap (λ t. x ∷ t) (take_length xs ys)

-- the front by its length
pub take_room : (bytes front : List ℕ) (n : ℕ) → IsRoom bytes front → n ≡ length front → take n bytes ≡ front
take_room bytes front n r e =
    let p = room_parts bytes front r in
    ap (λ k. take k bytes) e ∙ ap (take (length front)) p.1 ∙ take_length front p.0

-- a head of the front is one of the bytes
pub head_of_room : (bytes front : List ℕ) (h : RequestHead) (rest : List ℕ) → IsRoom bytes front → ReadsRequest front h rest → length h.fields ≤ 64 → (more : List ℕ) × HasHead bytes h more
head_of_room bytes front h rest r x few =
    let p = room_parts bytes front r in (
      rest ++ p.0,
      record {
        reads = (x.0, p.1 ∙ ap (λ t. t ++ p.0) x.1 ∙ append_assoc (print_request h) rest p.0);
        short = omega (arith, room_small bytes front r, ap length x.1, length-append (print_request h) rest);
        few = few;
      },
    )

-- a head of the first bytes is one of all bytes
pub head_of_front : (n : ℕ) (bytes : List ℕ) (h : RequestHead) (rest : List ℕ) → ReadsRequest (take n bytes) h rest → n ≤ 65536 → length h.fields ≤ 64 → HasHead bytes h (rest ++ drop n bytes)
head_of_front n bytes h rest r le few = record {
  reads = (r.0, sym (take-append-drop n bytes) ∙ ap (λ t. t ++ drop n bytes) r.1 ∙ append_assoc (print_request h) rest (drop n bytes));
  short = omega (arith, le, ap length r.1, length-append (print_request h) rest, length-take n bytes);
  few = few;
}

no_head : (front : List ℕ) → HasNoHeadYet front → HasNoHead front
no_head front n h rest x = n.none h rest x.reads x.few

-- none in a front that is over is none at all
pub none_over : (bytes front : List ℕ) → IsRoom bytes front → IsOver front → HasNoHeadYet front → HasNoHead bytes
none_over bytes front r over n =
    let p = room_parts bytes front r in
    subst HasNoHead (sym p.1) (no_head_beyond front p.0 over (no_head front n))

pub over_all : (bytes front : List ℕ) → IsRoom bytes front → IsOver front → IsOver bytes
over_all bytes front r over =
    let p = room_parts bytes front r in
    subst IsOver (sym p.1) (over_more front p.0 over)

-- a front that isn't over is all bytes
pub room_whole : (bytes front : List ℕ) → IsRoom bytes front → length front < 65536 → feeds_behind false front < 66 → (bytes ≡ front) × IsShort bytes
room_whole bytes front (inl x) a b = (x.0, subst IsShort (sym x.0) x.1)
room_whole bytes front (inr f) a b = absurd (short_not_over front (a, b) f.over)

-- none there yet, and room for one
pub unfinished_head : (lines : Lines) (bytes : List ℕ) (m : IsMeasured lines bytes) → lines.seen < 65536 → lines.feeds < 66 → HasNoHead m.front → IsUnfinishedHead bytes
unfinished_head lines bytes m a b n =
    let w = room_whole bytes m.front m.room (omega (arith, a, m.seen)) (omega (arith, b, m.feeds)) in
    record { none = subst HasNoHead (sym w.0) n; short = w.1 }

pub unfinished_front : (lines : Lines) (bytes : List ℕ) (m : IsMeasured lines bytes) → lines.seen < 65536 → lines.feeds < 66 → HasNoHeadYet m.front → IsUnfinishedHead bytes
unfinished_front lines bytes m a b n = unfinished_head lines bytes m a b (no_head m.front n)

-- the same, where none is there of short bytes
pub unfinished_again : (lines : Lines) (bytes : List ℕ) (m : IsMeasured lines bytes) → (lines.seen < 65536) × (lines.feeds < 66) → (IsShort bytes → HasNoHead bytes) → IsUnfinishedHead bytes
unfinished_again lines bytes m s n =
    let w = room_whole bytes m.front m.room (omega (arith, s.0, m.seen)) (omega (arith, s.1, m.feeds)) in
    record { none = n w.1; short = w.1 }

all_counted : (lines next : Lines) (old done rest : List ℕ) → IsShort (old ++ done) → (rest ≡ []) ⊎ (66 ≤ next.feeds) ⊎ (65536 ≤ next.seen)
    → next.feeds ≡ feeds_behind false (old ++ done) → next.seen ≡ length (old ++ done) → rest ≡ []
all_counted lines next old done rest s (inl e) f n = e
all_counted lines next old done rest s (inr (inl e)) f n = absurd (omega (arith, s.1, e, f))
all_counted lines next old done rest s (inr (inr e)) f n = absurd (omega (arith, s.0, e, n))

first_over : (lines : Lines) (old done rest : List ℕ) → IsShort old → lines.seen ≡ length old → lines.feeds ≡ feeds_behind false old → lines.begun ≡ begun_after false old → IsOver (old ++ done)
    → (done ≡ []) ⊎ ((before : List ℕ) × (b : ℕ) × (done ≡ before ++ b ∷ []) × (lines.feeds + feeds_behind lines.begun before < 66) × (lines.seen + length before < 65536))
    → IsFirstOver ((old ++ done) ++ rest) (old ++ done)
first_over lines old done rest short seen feeds begun over (inl e) =
    absurd (short_not_over old short (subst IsOver (ap (λ t. old ++ t) e ∙ append-nil old) over))
first_over lines old done rest short seen feeds begun over (inr x) =
    let before = x.0 in
    let b = x.1 in
    let front : old ++ done ≡ (old ++ before) ++ (b ∷ []) = ap (λ t. old ++ t) x.2 ∙ sym (append_assoc old before (b ∷ [])) in
    let moved = ap (λ k. feeds_behind k before) begun in
    record {
      before = old ++ before;
      last = b;
      rest = rest;
      parts = ap (λ t. t ++ rest) front ∙ append_assoc (old ++ before) (b ∷ []) rest;
      front_is = front;
      short = (omega (arith, x.4, seen, length-append old before), omega (arith, x.3, feeds, moved, feeds_append false old before));
      over = over;
    }

-- bytes that came behind short ones are counted on
pub measured_more : (lines next : Lines) (old chunk : List ℕ) → IsMeasured lines old → IsShort old → CountsOn lines chunk next → IsMeasured next (old ++ chunk)
measured_more lines next old chunk m short c =
    let same : old ≡ m.front = short_whole old m.front short m.room in
    let rest = c.0 in
    let t = c.1 in
    let whole : old ++ chunk ≡ (old ++ t.done) ++ rest = ap (λ z. old ++ z) t.parts ∙ sym (append_assoc old t.done rest) in
    let begun : lines.begun ≡ begun_after false old = m.begun ∙ ap (begun_after false) (sym same) in
    let old_feeds : lines.feeds ≡ feeds_behind false old = m.feeds ∙ ap (feeds_behind false) (sym same) in
    let old_seen : lines.seen ≡ length old = m.seen ∙ ap length (sym same) in
    let moved = ap (λ k. feeds_behind k t.done) begun in
    let feeds : next.feeds ≡ feeds_behind false (old ++ t.done) = omega (arith, t.feeds, old_feeds, moved, feeds_append false old t.done) in
    let seen : next.seen ≡ length (old ++ t.done) = omega (arith, t.seen, old_seen, length-append old t.done) in
    let at_end : IsShort (old ++ t.done) → IsRoom (old ++ chunk) (old ++ t.done) =
    λ s. inl (whole ∙ ap (λ z. (old ++ t.done) ++ z) (all_counted lines next old t.done rest s c.2 feeds seen) ∙ append-nil (old ++ t.done), s) in
    let over : IsOver (old ++ t.done) → IsRoom (old ++ chunk) (old ++ t.done) =
    λ o. inr (subst (λ z. IsFirstOver z (old ++ t.done)) (sym whole) (first_over lines old t.done rest short old_seen old_feeds begun o t.last)) in
    record {
      front = old ++ t.done;
      room = ⊎_elim at_end over (short_or_over (old ++ t.done));
      seen = seen;
      feeds = feeds;
      begun = t.begun ∙ ap (λ k. begun_after k t.done) begun ∙ sym (begun_append false old t.done);
    }

-- without a further line there is no further head
pub still_none : (lines more : Lines) (old chunk : List ℕ) → IsMeasured lines old → IsUnfinishedHead old → IsMeasured more (old ++ chunk) → more.feeds ≡ lines.feeds → IsShort (old ++ chunk) → HasNoHead (old ++ chunk)
still_none lines more old chunk m none n same short =
    let before : lines.feeds ≡ feeds_behind false old = m.feeds ∙ ap (feeds_behind false) (sym (short_whole old m.front none.short m.room)) in
    let after : more.feeds ≡ feeds_behind false (old ++ chunk) = n.feeds ∙ ap (feeds_behind false) (sym (short_whole (old ++ chunk) n.front short n.room)) in
    no_new_head old chunk none.none (sym after ∙ same ∙ before)

no_bytes_short : IsShort []
no_bytes_short = (omega arith, omega arith)

pub measured_first : (next : Lines) (bytes : List ℕ) → CountsOn no_lines bytes next → IsMeasured next bytes
measured_first next bytes c =
    measured_more no_lines next [] bytes (record { front = []; room = inl (refl, no_bytes_short); seen = refl; feeds = refl; begun = refl }) no_bytes_short c

-- the front that was counted is over
pub front_over : (lines : Lines) (bytes : List ℕ) (m : IsMeasured lines bytes) → (65536 ≤ lines.seen) ⊎ (66 ≤ lines.feeds) → IsOver m.front
front_over lines bytes m (inl a) = inl (omega (arith, a, m.seen))
front_over lines bytes m (inr a) = inr (omega (arith, a, m.feeds))

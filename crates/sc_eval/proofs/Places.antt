-- Where a pattern behind a run can fit at all.
use Rattle.std.proofs.Common.{◌≡◌, ◌⊎◌, inl, inr, ℕ, zero, suc, ◌+◌, ◌<◌, ◌≤◌, ◌==◌, Bool, true, false, cond, ◌&&◌, ◌||◌, List, [], ◌∷◌, ◌++◌, map, length, take, drop, refl, sym, ap, ◌∙◌, ap₂, subst, subst₂, arith, true≢false, length-append, length-drop, length-take-le, take-append-drop, drop_at, take_at, append-nil}
use Rattle.std.specs.Prelude.{chars, encode_utf8, encode_utf8_all}
use Rattle.std.specs.Str.{IsUtf8, NonePass, NoCharPasses}
use Rattle.std.specs.Str.Pattern.{LacksTextAt}
use Rattle.std.specs.Char.{char_set_contains}
use Rattle.std.proofs.lemmas.Str.{encodes-append, encodes-chars, chars-append, length-le-encodes, chars-nil, chars_from_encodes, chars_past_char, IsCharBoundary-from_take, IsUtf8-drop}
use Rattle.std.proofs.lemmas.List.{take-append-le}
use Rattle.std.specs.List.{list_any}
use Rattle.sc_eval.specs.declared.like.Element.{Element}
use Rattle.sc_eval.specs.declared.like.Element.TheVariants.{Run, One, Same}
use Rattle.sc_eval.specs.declared.like.Place.{Place}
use Rattle.sc_eval.specs.Like.{tails, is_run, suits, part_behind, elements, fits, never, ends, at_run, front}
use Rattle.sc_eval.specs.Ahead.{Leads, FitsNowhere, FitsNowhereBefore, IsHead}
use Rattle.sc_eval.proofs.Runs.{tail_of, of_tail, drop_shape, drop_nothing, run_steps, run_moves}

not_true : (b : Bool) → (b ≡ true → ⊥) → b ≡ false
not_true true h = absurd (h refl)
not_true false h = refl

-- ---- what leads to what

pub leads_here : (es : List Element) (cs : List ℕ) → Leads es cs es cs
leads_here es cs m h = h

behind_one : (e : Element) (fs : List Element) (c : ℕ) (ds : List ℕ) (m : ℕ) → is_run e ≡ false → fits (e ∷ fs) (drop m (c ∷ ds)) ≡ true → fits fs (drop m ds) ≡ true
unfolding fits
behind_one Run fs c ds m not h = absurd (true≢false not)
behind_one One fs c ds m not h = by (drop_shape m c ds)
  where
    by : ((drop m (c ∷ ds) ≡ []) ⊎ ((d : ℕ) × (drop m (c ∷ ds) ≡ d ∷ drop m ds))) → fits fs (drop m ds) ≡ true
    by (inl z) = absurd (true≢false (sym h ∙ ap (fits (One ∷ fs)) z))
    by (inr (d, z)) = sym (ap (fits (One ∷ fs)) z) ∙ h
behind_one (Same e) fs c ds m not h = by (drop_shape m c ds)
  where
    and_right : (b c : Bool) → (b && c) ≡ true → c ≡ true
    and_right true c e = e
    and_right false c e = cc

    by : ((drop m (c ∷ ds) ≡ []) ⊎ ((d : ℕ) × (drop m (c ∷ ds) ≡ d ∷ drop m ds))) → fits fs (drop m ds) ≡ true
    by (inl z) = absurd (true≢false (sym h ∙ ap (fits (Same e ∷ fs)) z))
    by (inr (d, z)) = and_right (d == e) (fits fs (drop m ds)) (sym (ap (fits (Same e ∷ fs)) z) ∙ h)

pub leads_on : (es : List Element) (cs : List ℕ) (e : Element) (fs : List Element) (c : ℕ) (ds : List ℕ) → is_run e ≡ false → Leads es cs (e ∷ fs) (c ∷ ds) → Leads es cs fs ds
leads_on es cs e fs c ds not l m h = behind_one e fs c ds m not (l m h)

nothing_fits : (e : Element) (fs : List Element) → is_run e ≡ false → fits (e ∷ fs) [] ≡ false
unfolding fits
nothing_fits Run fs not = absurd (true≢false not)
nothing_fits One fs not = refl
nothing_fits (Same d) fs not = refl

pub too_short : (es : List Element) (cs : List ℕ) (e : Element) (fs : List Element) → is_run e ≡ false → Leads es cs (e ∷ fs) [] → FitsNowhere es cs
too_short es cs e fs not l m = not_true (fits es (drop m cs)) (λ h. true≢false (sym (l m h) ∙ ap (fits (e ∷ fs)) (drop_nothing m) ∙ nothing_fits e fs not))

pub leads_nowhere : (es : List Element) (cs : List ℕ) (fs : List Element) (ds : List ℕ) → Leads es cs fs ds → FitsNowhere fs ds → FitsNowhere es cs
leads_nowhere es cs fs ds l lacks m = not_true (fits es (drop m cs)) (λ h. true≢false (sym (l m h) ∙ lacks m))

pub leads_nowhere_before : (n : ℕ) (es : List Element) (cs : List ℕ) (fs : List Element) (ds : List ℕ) → Leads es cs fs ds → FitsNowhereBefore n fs ds → FitsNowhereBefore n es cs
leads_nowhere_before n es cs fs ds l lacks m lt = not_true (fits es (drop m cs)) (λ h. true≢false (sym (l m h) ∙ lacks m lt))

pub run_nowhere : (es : List Element) (cs : List ℕ) → FitsNowhere es cs → fits (Run ∷ es) cs ≡ false
unfolding fits
run_nowhere es cs lacks = not_true (list_any (fits es) (tails cs)) (λ h. let at = tail_of (fits es) cs h in true≢false (sym at.1 ∙ lacks at.0))

pub run_passes : (k : ℕ) (es : List Element) (cs : List ℕ) → FitsNowhereBefore k es cs → fits (Run ∷ es) (drop k cs) ≡ fits (Run ∷ es) cs
run_passes zero es cs lacks = refl
run_passes (suc k) es [] lacks = refl
run_passes (suc k) es (c ∷ cs) lacks = run_passes k es cs (λ m lt. lacks (suc m) (omega arith)) ∙ sym (run_steps es c cs (lacks 0 (omega arith)))

-- ---- characters that a pattern begins with

begins_with : (w : List ℕ) (es : List Element) (ds : List ℕ) → fits (map Same w ++ es) ds ≡ true → (ys : List ℕ) × (ds ≡ w ++ ys)
unfolding fits
begins_with [] es ds h = (ds, refl)
begins_with (c ∷ w) es [] h = cc
begins_with (c ∷ w) es (d ∷ ds) h = go (d == c) refl h (begins_with w es ds)
  where
    go : (b : Bool) → (d == c) ≡ b → (b && fits (map Same w ++ es) ds) ≡ true → (fits (map Same w ++ es) ds ≡ true → (ys : List ℕ) × (ds ≡ w ++ ys)) → (ys : List ℕ) × (d ∷ ds ≡ (c ∷ w) ++ ys)
    go true is h more =
        let rest = more h in
        let same : d ≡ c = grind (arith, is) in
        (rest.0, ap (λ x. x ∷ ds) same ∙ ap (λ l. c ∷ l) rest.1)
    go false is h more = cc

bytes_at : (text head : List ℕ) (m : ℕ) (ys : List ℕ) → IsUtf8 text → IsUtf8 head → drop m (chars text) ≡ chars head ++ ys → drop (length (encode_utf8_all (take m (chars text)))) text ≡ head ++ encode_utf8_all ys
bytes_at text head m ys of_text of_head e =
    let front = encode_utf8_all (take m (chars text)) in
    let whole : text ≡ front ++ (head ++ encode_utf8_all ys) =
    sym (encodes-chars text of_text) ∙ ap encode_utf8_all (sym (take-append-drop m (chars text))) ∙ encodes-append (take m (chars text)) (drop m (chars text))
    ∙ ap (λ l. front ++ l) (ap encode_utf8_all e ∙ encodes-append (chars head) ys ∙ ap (λ l. l ++ encode_utf8_all ys) (encodes-chars head of_head)) in
    ap (drop (length front)) whole ∙ drop_at front (head ++ encode_utf8_all ys) (length front) refl

pub stands_nowhere : (text head : List ℕ) (es : List Element) → IsUtf8 text → IsUtf8 head → ((i : ℕ) → i ≤ length text → LacksTextAt head text i) → FitsNowhere (map Same (chars head) ++ es) (chars text)
stands_nowhere text head es of_text of_head lacks m = not_true (fits (map Same (chars head) ++ es) (drop m (chars text))) (λ h.
    let at = begins_with (chars head) es (drop m (chars text)) h in
    let place : ℕ = length (encode_utf8_all (take m (chars text))) in
    let bytes : drop place text ≡ head ++ encode_utf8_all at.0 = bytes_at text head m at.0 of_text of_head at.1 in
    lacks place (within m (chars text) text (encodes-chars text of_text)) (encode_utf8_all at.0) bytes)
  where
    within : (m : ℕ) (cs text : List ℕ) → encode_utf8_all cs ≡ text → length (encode_utf8_all (take m cs)) ≤ length text
    within m cs text is =
        let parts : encode_utf8_all cs ≡ encode_utf8_all (take m cs) ++ encode_utf8_all (drop m cs) = ap encode_utf8_all (sym (take-append-drop m cs)) ∙ encodes-append (take m cs) (drop m cs) in
        let len = length-append (encode_utf8_all (take m cs)) (encode_utf8_all (drop m cs)) in
        omega (arith, len, ap length parts, ap length is)

-- fewer characters of a text take fewer bytes
before : (m : ℕ) (bs ds : List ℕ) → m < length bs → length (encode_utf8_all (take m (bs ++ ds))) < length (encode_utf8_all bs)
before m bs ds lt =
    let front : take m (bs ++ ds) ≡ take m bs = take-append-le m bs ds (omega arith) in
    let parts : encode_utf8_all bs ≡ encode_utf8_all (take m bs) ++ encode_utf8_all (drop m bs) = ap encode_utf8_all (sym (take-append-drop m bs)) ∙ encodes-append (take m bs) (drop m bs) in
    let len = length-append (encode_utf8_all (take m bs)) (encode_utf8_all (drop m bs)) in
    let some = length-le-encodes (drop m bs) in
    omega (arith, len, ap length parts, some, length-drop m bs, ap length (ap encode_utf8_all front))

pub stands_first : (text head : List ℕ) (es : List Element) (i : ℕ) → IsUtf8 text → IsUtf8 head → i ≤ length text → IsUtf8 (take i text) → ((k : ℕ) → k < i → LacksTextAt head text k) → FitsNowhereBefore (length (chars (take i text))) (map Same (chars head) ++ es) (chars text)
stands_first text head es i of_text of_head le of_front lacks m lt = not_true (fits (map Same (chars head) ++ es) (drop m (chars text))) (λ h.
    let at = begins_with (chars head) es (drop m (chars text)) h in
    let place : ℕ = length (encode_utf8_all (take m (chars text))) in
    let bytes : drop place text ≡ head ++ encode_utf8_all at.0 = bytes_at text head m at.0 of_text of_head at.1 in
    let apart : chars text ≡ chars (take i text) ++ chars (drop i text) = ap chars (sym (take-append-drop i text)) ∙ chars-append (take i text) (drop i text) of_front in
    let early = before m (chars (take i text)) (chars (drop i text)) lt in
    let there : length (encode_utf8_all (take m (chars (take i text) ++ chars (drop i text)))) ≡ place = ap (λ cs. length (encode_utf8_all (take m cs))) (sym apart) in
    let at_i : length (encode_utf8_all (chars (take i text))) ≡ i = ap length (encodes-chars (take i text) of_front) ∙ length-take-le i text le in
    lacks place (omega (arith, early, there, at_i)) (encode_utf8_all at.0) bytes)

-- ---- the head of a pattern

pub plain_elements : (w rest : List ℕ) → NonePass (char_set_contains (37 ∷ 95 ∷ 92 ∷ [])) w → elements (w ++ rest) ≡ map Same w ++ elements rest
unfolding elements
plain_elements [] rest none = refl
plain_elements (c ∷ w) rest none = first c (w ++ rest) none.0 ∙ ap (λ l. Same c ∷ l) (plain_elements w rest none.1)
  where
    first : (c : ℕ) (ds : List ℕ) → char_set_contains (37 ∷ 95 ∷ 92 ∷ []) c ≡ false → elements (c ∷ ds) ≡ Same c ∷ elements ds
    first c [] none = grind (arith)
    first c (d ∷ ds) none = grind (arith)

-- ---- a pattern without a run, at the end of a text

fits_whole : (es : List Element) (cs : List ℕ) → list_any is_run es ≡ false → fits es cs ≡ true → length cs ≡ length es
unfolding fits
fits_whole [] [] none h = refl
fits_whole [] (c ∷ cs) none h = cc
fits_whole (Run ∷ es) cs none h = cc
fits_whole (One ∷ es) [] none h = cc
fits_whole (One ∷ es) (c ∷ cs) none h = let more = fits_whole es cs none h in omega (arith, more)
fits_whole (Same d ∷ es) [] none h = cc
fits_whole (Same d ∷ es) (c ∷ cs) none h = let more = fits_whole es cs none (right (c == d) (fits es cs) h) in omega (arith, more)
  where
    right : (b c : Bool) → (b && c) ≡ true → c ≡ true
    right true c e = e
    right false c e = cc

pub no_room : (es : List Element) (cs : List ℕ) → list_any is_run es ≡ false → length cs < length es → fits (Run ∷ es) cs ≡ false
no_room es cs none lt = run_nowhere es cs (λ m. not_true (fits es (drop m cs)) (λ h.
    let len = fits_whole es (drop m cs) none h in omega (arith, len, length-drop m cs)))

pub at_end : (es : List Element) (cs : List ℕ) (k : ℕ) → list_any is_run es ≡ false → k + length es ≡ length cs → fits (Run ∷ es) cs ≡ fits es (drop k cs)
unfolding fits
at_end es cs k none len = sym (run_passes k es cs early) ∙ last (drop k cs) (omega (arith, length-drop k cs))
  where
    early : FitsNowhereBefore k es cs
    early m lt = not_true (fits es (drop m cs)) (λ h. let whole = fits_whole es (drop m cs) none h in omega (arith, whole, length-drop m cs))

    last : (ds : List ℕ) → length ds ≡ length es → fits (Run ∷ es) ds ≡ fits es ds
    last [] is = or_false (fits es [])
      where
        or_false : (b : Bool) → (b || false) ≡ b
        or_false true = refl
        or_false false = refl
    last (d ∷ ds) is = or_nothing (fits es (d ∷ ds)) (list_any (fits es) (tails ds)) (no_room es ds none (omega arith))
      where
        or_nothing : (b c : Bool) → c ≡ false → (b || c) ≡ b
        or_nothing true c e = refl
        or_nothing false c e = e

pub run_alone : (cs : List ℕ) → fits (Run ∷ []) cs ≡ true
unfolding fits
run_alone cs = of_tail (fits []) (length cs) cs (ends (length cs) cs refl)
  where
    ends : (n : ℕ) (cs : List ℕ) → n ≡ length cs → fits [] (drop n cs) ≡ true
    ends zero [] e = refl
    ends zero (c ∷ cs) e = absurd (omega arith)
    ends (suc n) [] e = refl
    ends (suc n) (c ∷ cs) e = ends n cs (omega arith)

-- ---- what is found of a pattern with a run, or without one

pub front_without_run : (es p : List Element) (cs t : List ℕ) → list_any is_run es ≡ false → front es cs ≡ at_run p t → ⊥
unfolding front
front_without_run [] p cs t none e = cc
front_without_run (Run ∷ es) p cs t none e = cc
front_without_run (One ∷ es) p [] t none e = cc
front_without_run (One ∷ es) p (c ∷ cs) t none e = front_without_run es p cs t none e
front_without_run (Same d ∷ es) p [] t none e = cc
front_without_run (Same d ∷ es) p (c ∷ cs) t none e = go (c == d) e (front_without_run es p cs t none)
  where
    go : (b : Bool) → cond b (front es cs) never ≡ at_run p t → (front es cs ≡ at_run p t → ⊥) → ⊥
    go true e more = more e
    go false e more = cc

pub front_with_run : (es : List Element) (cs t : List ℕ) → list_any is_run es ≡ true → front es cs ≡ ends t → ⊥
unfolding front
front_with_run [] cs t some e = cc
front_with_run (Run ∷ es) cs t some e = cc
front_with_run (One ∷ es) [] t some e = cc
front_with_run (One ∷ es) (c ∷ cs) t some e = front_with_run es cs t some e
front_with_run (Same d ∷ es) [] t some e = cc
front_with_run (Same d ∷ es) (c ∷ cs) t some e = go (c == d) e (front_with_run es cs t some)
  where
    go : (b : Bool) → cond b (front es cs) never ≡ ends t → (front es cs ≡ ends t → ⊥) → ⊥
    go true e more = more e
    go false e more = cc

-- ---- the same, as the code has it

-- what is known of a part by the head of its pattern is known of the part
pub head_nowhere : (head pattern text : List ℕ) → IsHead head pattern → IsUtf8 text → IsUtf8 head → ((i : ℕ) → i ≤ length text → LacksTextAt head text i) → FitsNowhere (elements (chars pattern)) (chars text)
head_nowhere head pattern text (es, is) of_text of_head lacks = subst (λ fs. FitsNowhere fs (chars text)) (sym is) (stands_nowhere text head es of_text of_head lacks)

pub head_first : (head pattern text passed : List ℕ) (i : ℕ) → IsHead head pattern → IsUtf8 text → IsUtf8 head → IsUtf8 passed → passed ≡ take i text → i ≤ length text → ((k : ℕ) → k < i → LacksTextAt head text k) → FitsNowhereBefore (length (chars passed)) (elements (chars pattern)) (chars text)
head_first head pattern text passed i (es, is) of_text of_head of_passed was le lacks =
    subst₂ (λ n fs. FitsNowhereBefore n fs (chars text)) (ap (λ l. length (chars l)) (sym was)) (sym is)
    (stands_first text head es i of_text of_head le (subst IsUtf8 was of_passed) lacks)

pub one_passed : (es : List Element) (cs rest : List ℕ) (c : ℕ) → cs ≡ c ∷ rest → fits es cs ≡ false → fits (Run ∷ es) rest ≡ fits (Run ∷ es) cs
one_passed es cs rest c is lacks = run_moves es cs rest c is lacks

pub some_passed : (es : List Element) (cs rest passed more later : List ℕ) (c d : ℕ) → cs ≡ c ∷ rest → passed ≡ d ∷ more → later ≡ drop (length more) rest → FitsNowhereBefore (length passed) es cs → fits (Run ∷ es) later ≡ fits (Run ∷ es) cs
some_passed es cs rest passed more later c d is was left lacks =
    let far : drop (length passed) cs ≡ later = ap₂ (λ l k. drop (length l) k) was is ∙ sym left in
    sym (ap (fits (Run ∷ es)) far) ∙ run_passes (length passed) es cs lacks

pub ends_without_run : (es : List Element) (cs t : List ℕ) → ends t ≡ front es cs → list_any is_run es ≡ false
ends_without_run es cs t e = not_true (list_any is_run es) (λ some. front_with_run es cs t some (sym e))

pub runs_with_run : (es p : List Element) (cs t : List ℕ) → at_run p t ≡ front es cs → list_any is_run es ≡ true
runs_with_run es p cs t e = true_else (list_any is_run es) (λ none. front_without_run es p cs t none (sym e))
  where
    true_else : (b : Bool) → (b ≡ false → ⊥) → b ≡ true
    true_else true h = refl
    true_else false h = absurd (h refl)

pub part_keeps : (P : Place → Type 0) (e : Element) (part next : Place) → P part → P next → P (part_behind e part next)
part_keeps P Run part next old new = old
part_keeps P One part next old new = new
part_keeps P (Same d) part next old new = old

pub part_ahead : (es : List Element) (cs : List ℕ) (fs : List Element) (ds : List ℕ) (e : Element) (rest : List Element) (more : List ℕ) (c : ℕ) → Leads es cs fs ds → fs ≡ e ∷ rest → ds ≡ c ∷ more → is_run e ≡ false → Leads es cs rest more
part_ahead es cs fs ds e rest more c l is here not = leads_on es cs e rest c more not (subst₂ (Leads es cs) is here l)

pub text_ends : (es : List Element) (cs : List ℕ) (fs : List Element) (ds : List ℕ) (e : Element) (rest : List Element) → Leads es cs fs ds → fs ≡ e ∷ rest → ds ≡ [] → is_run e ≡ false → FitsNowhere es cs
text_ends es cs fs ds e rest l is here not = too_short es cs e rest not (subst₂ (Leads es cs) is here l)

pub front_on : (fs : List Element) (ds : List ℕ) (e : Element) (es : List Element) (c : ℕ) (cs : List ℕ) → fs ≡ e ∷ es → ds ≡ c ∷ cs → is_run e ≡ false → suits e c ≡ true → front es cs ≡ front fs ds
unfolding front
front_on fs ds e es c cs is here not suit = sym (ap₂ front is here ∙ taken e es c cs not suit)
  where
    taken : (e : Element) (es : List Element) (c : ℕ) (cs : List ℕ) → is_run e ≡ false → suits e c ≡ true → front (e ∷ es) (c ∷ cs) ≡ front es cs
    taken Run es c cs not suit = cc
    taken One es c cs not suit = refl
    taken (Same d) es c cs not suit = ap (λ b. cond b (front es cs) never) suit

pub whole_is_head : (pattern : List ℕ) → IsUtf8 pattern → NoCharPasses (char_set_contains (37 ∷ 95 ∷ 92 ∷ [])) pattern → IsHead pattern pattern
whole_is_head pattern of (w, is, none) =
    let same : w ≡ chars pattern = chars_from_encodes w pattern of is in
    (elements [], subst (λ l. elements l ≡ map Same l ++ elements []) same (ap elements (sym (append-nil w)) ∙ plain_elements w [] none))

pub front_is_head : (pattern head : List ℕ) (i : ℕ) → IsUtf8 (take i pattern) → head ≡ take i pattern → NoCharPasses (char_set_contains (37 ∷ 95 ∷ 92 ∷ [])) (take i pattern) → IsHead head pattern
front_is_head pattern head i of was (w, is, none) =
    let same : w ≡ chars head = chars_from_encodes w (take i pattern) of is ∙ ap chars (sym was) in
    let apart : chars pattern ≡ w ++ chars (drop i pattern) =
    ap chars (sym (take-append-drop i pattern)) ∙ chars-append (take i pattern) (drop i pattern) of ∙ ap (λ l. l ++ chars (drop i pattern)) (sym (chars_from_encodes w (take i pattern) of is)) in
    (elements (chars (drop i pattern)), ap elements apart ∙ plain_elements w (chars (drop i pattern)) none ∙ ap (λ l. map Same l ++ elements (chars (drop i pattern))) same)

pub head_begins : (bytes : List ℕ) (es : List Element) → bytes ≡ [] → es ≡ map Same (chars bytes) ++ es
head_begins bytes es is = sym (ap (λ l. map Same l ++ es) (ap chars is ∙ chars-nil))

pub head_goes_on : (whole rest more : List Element) (old new : List ℕ) (e : Element) (c : ℕ) → IsUtf8 old → IsUtf8 new → new ≡ old ++ encode_utf8 c → whole ≡ map Same (chars old) ++ rest → rest ≡ e ∷ more → e ≡ Same c → whole ≡ map Same (chars new) ++ more
head_goes_on whole rest more old new e c of_old of_new was is next same =
    let le : length old ≤ length new = omega (arith, ap length was, length-append old (encode_utf8 c)) in
    let front : take (length old) new ≡ old = ap (take (length old)) was ∙ take_at old (encode_utf8 c) (length old) refl in
    let back : drop (length old) new ≡ encode_utf8 c = ap (drop (length old)) was ∙ drop_at old (encode_utf8 c) (length old) refl in
    let seam = IsCharBoundary-from_take new (length old) of_new le (subst IsUtf8 (sym front) of_old) in
    let of_last : IsUtf8 (encode_utf8 c) = subst IsUtf8 back (IsUtf8-drop new (length old) of_new seam) in
    let last : chars (encode_utf8 c) ≡ c ∷ [] = chars_past_char (encode_utf8 c) [] c of_last (sym (append-nil (encode_utf8 c))) ∙ ap (λ l. c ∷ l) chars-nil in
    let all : chars new ≡ chars old ++ (c ∷ []) = ap chars was ∙ chars-append old (encode_utf8 c) of_old ∙ ap (λ l. chars old ++ l) last in
    is ∙ ap (λ l. map Same (chars old) ++ l) (next ∙ ap (λ x. x ∷ more) same) ∙ sym (more_of (chars old) c more) ∙ ap (λ l. map Same l ++ more) (sym all)
  where
    more_of : (w : List ℕ) (c : ℕ) (more : List Element) → map Same (w ++ (c ∷ [])) ++ more ≡ map Same w ++ (Same c ∷ more)
    more_of [] c more = refl
    more_of (d ∷ w) c more = ap (λ l. Same d ∷ l) (more_of w c more)

pub run_of_nothing : (pattern cs : List ℕ) → (length pattern == 0) ≡ true → true ≡ fits (Run ∷ elements (chars pattern)) cs
unfolding elements
run_of_nothing (b ∷ pattern) cs is = let zero : length (b ∷ pattern) ≡ 0 = grind (arith, is) in absurd (omega (arith, zero))
run_of_nothing [] cs is = sym (ap (λ l. fits (Run ∷ elements l) cs) chars-nil ∙ run_alone cs)

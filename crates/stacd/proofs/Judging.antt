-- Reading items line by line, and what is told of the first bad line.
use Rattle.std.proofs.Common.{◌≡◌, ℕ, ◌+◌, ◌-◌, ◌^◌, ◌<◌, ◌≤◌, Bool, true, false, ◌⊎◌, inl, inr, List, [], ◌∷◌, ◌++◌, length, refl, sym, ◌∙◌, ap, subst, arith, append_assoc, append-nil}
use Rattle.std.specs.Bool.{MatchBool}
use Rattle.std.specs.List.{AllZip, concat}
use Rattle.std.proofs.lemmas.Bool.{cases_lt}
use Rattle.std.proofs.lemmas.List.{length-append}
use Rattle.sc_outside.specs.Lines.{lines_to_read, without_feed}
use Rattle.sc_item.specs.Feature.{Feature}
use Rattle.sc_item.specs.Line.{IsLine}
use Rattle.sc_item.specs.Names.{AreApart}
use Rattle.sc_item.proofs.Lines.{one_item}
use Rattle.sc_item.proofs.Apart.{apart_front}
use Rattle.sc_page.specs.Kept.{HasSeen}
use Rattle.sc_page.specs.Order.{default_order}
use Rattle.sc_page.specs.Page.{every_item, IsFlatPage}
use Rattle.sc_page.specs.declared.page.PageSoFar.{PageSoFar}
use Rattle.stacd.specs.Lines.{AreSpelled, AreItems, ArePaged, IsFirstBad}
use Rattle.stacd.specs.Names.{AreNamesOf}
use Rattle.stacd.specs.declared.names.Names.{Names}

abbrev Spells : List ℕ → Feature → Type 0
Spells line item = IsLine (without_feed line) item

-- what holds before each line
pub record SoFar (all : Bool) (bytes rest : List ℕ) (items : List Feature) : Type 0 where
  pub before : List (List ℕ)
  pub split : lines_to_read all bytes ≡ before ++ lines_to_read all rest
  pub whole : bytes ≡ concat before ++ rest
  pub are : AreSpelled before items

zip_push : (lines : List (List ℕ)) (items : List Feature) (line : List ℕ) (item : Feature) → AllZip Spells lines items → Spells line item → AllZip Spells (lines ++ line ∷ []) (items ++ item ∷ [])
zip_push [] [] line item z s = (s, tt)
zip_push [] (i ∷ items) line item z s = absurd z
zip_push (l ∷ ls) [] line item z s = absurd z
zip_push (l ∷ ls) (i ∷ items) line item z s = (z.0, zip_push ls items line item z.1 s)

pub concat-append : (xs ys : List (List ℕ)) → concat (xs ++ ys) ≡ concat xs ++ concat ys
concat-append [] ys = refl
concat-append (x ∷ xs) ys = ap (λ t. x ++ t) (concat-append xs ys) ∙ sym (append_assoc x (concat xs) (concat ys))

as_many : (lines : List (List ℕ)) (items : List Feature) → AllZip Spells lines items → length items ≡ length lines
as_many [] [] z = refl
as_many [] (i ∷ is) z = absurd z
as_many (l ∷ ls) [] z = absurd z
as_many (l ∷ ls) (i ∷ items) z = let e = as_many ls items z.1 in omega arith

-- the last of lines that spell items
last_of : (lines : List (List ℕ)) (line : List ℕ) (items : List Feature) → AllZip Spells (lines ++ line ∷ []) items → (item : Feature) × Spells line item
last_of [] line [] z = absurd z
last_of [] line (i ∷ items) z = (i, z.0)
last_of (l ∷ ls) line [] z = absurd z
last_of (l ∷ ls) line (i ∷ items) z = last_of ls line items z.1

-- lines spell one list of items
pub one_list : (lines : List (List ℕ)) (xs ys : List Feature) → AllZip Spells lines xs → AllZip Spells lines ys → xs ≡ ys
one_list [] [] [] p q = refl
one_list [] [] (y ∷ ys) p q = absurd q
one_list [] (x ∷ xs) ys p q = absurd p
one_list (l ∷ ls) [] ys p q = absurd p
one_list (l ∷ ls) (x ∷ xs) [] p q = absurd q
one_list (l ∷ ls) (x ∷ xs) (y ∷ ys) p q =
    let e : x ≡ y = one_item (without_feed l) x y p.0 q.0 in
    let f : xs ≡ ys = one_list ls xs ys p.1 q.1 in
    cc

so_far_start : (all : Bool) (bytes : List ℕ) → SoFar all bytes bytes []
so_far_start all bytes = record {
  before = [];
  split = refl;
  whole = refl;
  are = record { each = tt; few = omega arith; short = omega arith };
}

so_far_end : (all : Bool) (bytes rest : List ℕ) (items : List Feature) → SoFar all bytes rest items → lines_to_read all rest ≡ [] → AreSpelled (lines_to_read all bytes) items
so_far_end all bytes rest items s e = subst (λ t. AreSpelled t items) (sym (s.split ∙ ap (λ t. s.before ++ t) e ∙ append-nil s.before)) s.are

-- the same, with what is kept of the items
pub record Judged (all : Bool) (bytes rest : List ℕ) (count limit : ℕ) (names : Names) (page : PageSoFar) : Type 0 where
  pub items : List Feature
  pub read : SoFar all bytes rest items
  pub number : length items ≡ count
  pub named : AreNamesOf names items
  pub paged : HasSeen limit page items

module _ (all : Bool) (bytes rest line after : List ℕ) (items : List Feature) (s : SoFar all bytes rest items) (next : lines_to_read all rest ≡ line ∷ lines_to_read all after) (parts : rest ≡ line ++ after) where
  count : length items ≡ length s.before
  count = as_many s.before items s.are.each

  joined : concat (s.before ++ line ∷ []) ≡ concat s.before ++ line
  joined = concat-append s.before (line ∷ []) ∙ ap (λ t. concat s.before ++ t) (append-nil line)

  whole' : bytes ≡ concat (s.before ++ line ∷ []) ++ after
  whole' = s.whole ∙ ap (λ t. concat s.before ++ t) parts ∙ sym (append_assoc (concat s.before) line after) ∙ ap (λ t. t ++ after) (sym joined)

  size : length (concat (s.before ++ line ∷ [])) + length after ≡ length bytes
  size = sym (ap length whole' ∙ length-append (concat (s.before ++ line ∷ [])) after)

  so_far_more : (item : Feature) → Spells line item → length items < 1000000 → length bytes - length after ≤ 2 ^ 28 → SoFar all bytes after (items ++ item ∷ [])
  so_far_more item spelled few short = record {
    before = s.before ++ line ∷ [];
    split = s.split ∙ ap (λ t. s.before ++ t) next ∙ sym (append_assoc s.before (line ∷ []) (lines_to_read all after));
    whole = whole';
    are = record {
      each = zip_push s.before items line item s.are.each spelled;
      few = omega (arith, count, few, length-append s.before (line ∷ []));
      short = omega (arith, size, short);
    };
  }

  first_bad : (n : ℕ) → n ≡ length items + 1 → AreApart items → ((more : List Feature) → AreItems (s.before ++ line ∷ []) more → ⊥) → IsFirstBad (lines_to_read all bytes) n
  first_bad n e apart bad = record {
    before = s.before;
    line = line;
    after = lines_to_read all after;
    place = s.split ∙ ap (λ t. s.before ++ t) next;
    number = e ∙ ap (λ t. t + 1) count;
    good = (items, record { spelled = s.are; apart = apart });
    bad = bad;
  }

  only_these : (more : List Feature) (item : Feature) → Spells line item → AllZip Spells (s.before ++ line ∷ []) more → more ≡ items ++ item ∷ []
  only_these more item spelled each = one_list (s.before ++ line ∷ []) more (items ++ item ∷ []) each (zip_push s.before items line item s.are.each spelled)

-- at most so many lines were judged
pub counted : (all : Bool) (bytes rest : List ℕ) (n limit : ℕ) (names : Names) (page : PageSoFar) → Judged all bytes rest n limit names page → n ≤ 1000000
counted all bytes rest n limit names page j = let e = as_many j.read.before j.items j.read.are.each in omega (arith, e, j.number, j.read.are.few)

-- what is told of the line behind those that were judged
module _ (all : Bool) (bytes rest line after : List ℕ) (count limit : ℕ) (names : Names) (page : PageSoFar) (j : Judged all bytes rest count limit names page) (next : lines_to_read all rest ≡ line ∷ lines_to_read all after)
    (parts : rest ≡ line ++ after) where
  module _ (n : ℕ) (e : n ≡ count + 1) where
    bad_line : ((more : List Feature) → AreItems (j.read.before ++ line ∷ []) more → ⊥) → IsFirstBad (lines_to_read all bytes) n
    bad_line = first_bad all bytes rest line after j.items j.read next parts n (e ∙ ap (λ t. t + 1) (sym j.number)) j.named.apart

    lines_before : length j.items ≡ length j.read.before
    lines_before = as_many j.read.before j.items j.read.are.each

    pub bad_if_no_item : ((item : Feature) → Spells line item → ⊥) → IsFirstBad (lines_to_read all bytes) n
    bad_if_no_item none = bad_line (λ more are. let r = last_of j.read.before line more are.spelled.each in none r.0 r.1)

    pub bad_if_repeated : (item : Feature) → Spells line item → (AreApart (j.items ++ item ∷ []) → ⊥) → IsFirstBad (lines_to_read all bytes) n
    bad_if_repeated item spelled repeated =
        bad_line (λ more are. repeated (subst AreApart (only_these all bytes rest line after j.items j.read next parts more item spelled are.spelled.each) are.apart))

    pub bad_if_many : 1000000 ≤ count → IsFirstBad (lines_to_read all bytes) n
    bad_if_many many = bad_line (λ more are. absurd (omega (arith, lines_before, j.number, many, are.spelled.few, length-append j.read.before (line ∷ []))))

    pub bad_if_long : 2 ^ 28 < length bytes - length after → IsFirstBad (lines_to_read all bytes) n
    bad_if_long long = bad_line (λ more are. absurd (omega (arith, size all bytes rest line after j.items j.read next parts, long, are.spelled.short)))

  pub judged_more : (item : Feature) (names' : Names) (page' : PageSoFar) → Spells line item → count < 1000000 → length bytes - length after ≤ 2 ^ 28 → AreNamesOf names' (j.items ++ item ∷ []) → HasSeen limit page' (j.items ++ item ∷ [])
      → Judged all bytes after (count + 1) limit names' page'
  judged_more item names' page' spelled few short named paged = record {
    items = j.items ++ item ∷ [];
    read = so_far_more all bytes rest line after j.items j.read next parts item spelled (omega (arith, few, j.number)) short;
    number = length-append j.items (item ∷ []) ∙ ap (λ t. t + 1) j.number;
    named = named;
    paged = paged;
  }

pub judged_start : (all : Bool) (bytes : List ℕ) (limit : ℕ) (names : Names) (page : PageSoFar) → AreNamesOf names [] → HasSeen limit page [] → Judged all bytes bytes 0 limit names page
judged_start all bytes limit names page named paged = record { items = []; read = so_far_start all bytes; number = refl; named = named; paged = paged }

-- where no line is left, the page is that of the lines
pub judged_end : (all : Bool) (bytes rest : List ℕ) (count limit : ℕ) (names : Names) (so_far : PageSoFar) (page : List Feature) → Judged all bytes rest count limit names so_far → lines_to_read all rest ≡ []
    → ((n : ℕ) (items : List Feature) → AreApart items → HasSeen n so_far items → IsFlatPage every_item default_order n items page) → ArePaged (lines_to_read all bytes) limit page
judged_end all bytes rest _ limit names so_far page j e given = record {
  items = j.items;
  are = record { spelled = so_far_end all bytes rest j.items j.read e; apart = j.named.apart };
  flat = given limit j.items j.named.apart j.paged;
}

-- what `insert` says of the names, by its answer
pub named_new : (new : Bool) (A B : Type 0) → new ≡ true → MatchBool new A B → A
named_new new A B e m = subst (λ b. MatchBool b A B) e m

pub named_old : (new : Bool) (A B : Type 0) → new ≡ false → MatchBool new A B → B
named_old new A B e m = subst (λ b. MatchBool b A B) e m

-- items of a front of the lines
front_each : (before rest : List (List ℕ)) (items : List Feature) → AllZip Spells (before ++ rest) items → (front : List Feature) × (back : List Feature) × (items ≡ front ++ back) × AllZip Spells before front
front_each [] rest items z = ([], items, refl, tt)
front_each (l ∷ ls) rest [] z = absurd z
front_each (l ∷ ls) rest (i ∷ items) z =
    let r = front_each ls rest items z.1 in
    (i ∷ r.0, r.1, (λ k. i ∷ r.2 k), (z.0, r.3))

-- a front of lines that are items are items
pub front_are : (before rest : List (List ℕ)) (items : List Feature) → AreItems (before ++ rest) items → (front : List Feature) × AreItems before front
front_are before rest items a =
    let r = front_each before rest items a.spelled.each in (
      r.0,
      record {
        spelled = record {
          each = r.3;
          few = omega (arith, a.spelled.few, length-append before rest);
          short = omega (arith, a.spelled.short, ap length (concat-append before rest), length-append (concat before) (concat rest));
        };
        apart = apart_front r.0 r.1 (subst AreApart r.2 a.apart);
      },
    )

-- lines with a first bad one aren't items
pub bad_or_good : (lines : List (List ℕ)) (n : ℕ) (items : List Feature) → IsFirstBad lines n → AreItems lines items → ⊥
bad_or_good lines n items b a =
    let e : lines ≡ (b.before ++ b.line ∷ []) ++ b.after = b.place ∙ sym (append_assoc b.before (b.line ∷ []) b.after) in
    let f = front_are (b.before ++ b.line ∷ []) b.after items (subst (λ t. AreItems t items) e a) in
    b.bad f.0 f.1

-- of two fronts of the same lines the longer begins with the shorter and the line behind it
longer_front : (xs ys xs' ys' : List (List ℕ)) (x y : List ℕ) → xs ++ (x ∷ xs') ≡ ys ++ (y ∷ ys') → length xs < length ys → (rest : List (List ℕ)) × (ys ≡ (xs ++ x ∷ []) ++ rest)
longer_front [] [] xs' ys' x y e lt = absurd (omega arith)
longer_front [] (z ∷ ys) xs' ys' x y e lt = let h : z ≡ x = cc in (ys, (λ k. h k ∷ ys))
longer_front (z ∷ xs) [] xs' ys' x y e lt = absurd (omega arith)
longer_front (z ∷ xs) (w ∷ ys) xs' ys' x y e lt =
    let r = longer_front xs ys xs' ys' x y (cc) (omega arith) in
    let h : w ≡ z = cc in
    (r.0, (λ k. h k ∷ r.1 k))

not_later : (lines : List (List ℕ)) (n m : ℕ) → IsFirstBad lines n → IsFirstBad lines m → n < m → ⊥
not_later lines n m a b lt =
    let r = longer_front a.before b.before a.after b.after a.line b.line (sym a.place ∙ b.place) (omega (arith, a.number, b.number)) in
    let f = front_are (a.before ++ a.line ∷ []) r.0 b.good.0 (subst (λ t. AreItems t b.good.0) r.1 b.good.1) in
    a.bad f.0 f.1

-- lines have at most one first bad one
pub one_bad_line : (lines : List (List ℕ)) (n m : ℕ) → IsFirstBad lines n → IsFirstBad lines m → n ≡ m
one_bad_line lines n m a b = by (cases_lt n m) (cases_lt m n)
  where
    by : ((n < m) ⊎ (m ≤ n)) → ((m < n) ⊎ (n ≤ m)) → n ≡ m
    by (inl l) y = absurd (not_later lines n m a b l)
    by (inr p) (inl l) = absurd (not_later lines m n b a l)
    by (inr p) (inr q) = omega arith

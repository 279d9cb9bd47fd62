-- A list or an object is good by what is in it.
use Rattle.std.proofs.Common.{◌≡◌, ◌≢◌, ℕ, zero, suc, ◌+◌, ◌≤◌, ◌<◌, List, [], ◌∷◌, ◌++◌, length, get_or, map, Bool, true, false, ◌||◌, refl, sym, ap, subst, ◌∙◌, arith, length-append, IsUtf8}
use Rattle.std.specs.List.{AllByRecursion}
use Rattle.std.specs.Prelude.{nat_eq}
use Rattle.std.specs.Cmp.Lexicographic.{pointwise, bytes_decides}
use Rattle.std.proofs.lemmas.List.{get_or_append_left}
use Rattle.std.proofs.lemmas.List.Quantifiers.{all_pairs_push}
use Rattle.std.proofs.Math.Seq.{get_or-append_seam}
use Rattle.sc_decimal.specs.Value.{number_of, is_wide}
use Rattle.sc_json.specs.declared.tree.Num.{Num}
use Rattle.sc_json.specs.declared.tree.Json.{Json}
use Rattle.sc_json.specs.declared.tree.Json.TheVariants as trees
use Rattle.sc_json.specs.declared.tree.Json.TheOpen as layer
use Rattle.sc_json.specs.declared.tree.Json.TheOpen.{Json-F, Member-F}
use Rattle.sc_json.specs.declared.tree.Json.TheViews.{out-Json, roll-Json, out-roll-Json, roll-out-Member, out-roll-Member}
use Rattle.sc_json.specs.declared.tree.Json.TheFolds.{fold-Member, fold-roll-Json, fold_out-Member, map-Json, map-Member, every-Json, every-Member, every_here-Json, every_here-Member, every_held-Json, every_held-Member, every_made-Json, every_made-Member}
use Rattle.sc_json.specs.declared.tree.Member.{Member, out-Member}
use Rattle.sc_json.specs.Machine.{has_name}
use Rattle.sc_json.specs.Grammar as grammar
use Rattle.sc_json.specs.Grammar.{Literal}
use Rattle.sc_json.specs.Good.{greatest, level_depth, member_depth, depth, IsAsSent, NamesDiffer, IsGoodLevel, IsGoodMember}
use Rattle.sc_json.proofs.Complete.{number_tree}

-- ---- lists

pub each_push : {A : Type 0} (P : A → Type 0) (xs : List A) (x : A) → AllByRecursion P xs → P x → AllByRecursion P (xs ++ x ∷ [])
each_push P [] x all one = (one, tt)
each_push P (y ∷ xs) x all one = (all.0, each_push P xs x all.1 one)

pub each_pop : {A : Type 0} (P : A → Type 0) (xs : List A) (x : A) → AllByRecursion P (xs ++ x ∷ []) → AllByRecursion P xs × P x
each_pop P [] x all = (tt, all.0)
each_pop P (y ∷ xs) x all = let r = each_pop P xs x all.1 in ((all.0, r.0), r.1)

pub each_map : {A : Type 0} (P Q : A → Type 0) → ((x : A) → P x → Q x) → (xs : List A) → AllByRecursion P xs → AllByRecursion Q xs
each_map P Q f [] all = tt
each_map P Q f (x ∷ xs) all = (f x all.0, each_map P Q f xs all.1)

each_both : {A : Type 0} (P Q R : A → Type 0) → ((x : A) → P x → Q x → R x) → (xs : List A) → AllByRecursion P xs → AllByRecursion Q xs → AllByRecursion R xs
each_both P Q R f [] p q = tt
each_both P Q R f (x ∷ xs) p q = (f x p.0 q.0, each_both P Q R f xs p.1 q.1)

-- facts beside the elements
pack : {A : Type 0} (P : A → Type 0) (xs : List A) → AllByRecursion P xs → (ps : List ((x : A) × P x)) × (map (λ p. p.0) ps ≡ xs)
pack P [] all = ([], refl)
pack {A} P (x ∷ xs) all = let r = pack P xs all.1 in ((x, all.0) ∷ r.0, ap (λ (ys : List A). x ∷ ys) r.1)

unpack : {A : Type 0} (P : A → Type 0) (ps : List ((x : A) × P x)) → AllByRecursion P (map (λ p. p.0) ps)
unpack P [] = tt
unpack P (p ∷ ps) = (p.1, unpack P ps)

-- ---- levels

abbrev pub Levels : Json → Type 0
Levels = every-Json IsGoodLevel IsGoodMember

abbrev MemberLevels : Member → Type 0
MemberLevels = every-Member IsGoodLevel IsGoodMember

pub record InMember (m : Member) : Type 0 where
  pub name : IsUtf8 (out-Member m).name
  pub value : Levels (out-Member m).value

member_levels : (m : Member) → InMember m → MemberLevels m
member_levels m h =
    subst MemberLevels (roll-out-Member m)
    (every_made-Member IsGoodLevel IsGoodMember (out-Member m) (record { name = (out-Member m).name; value = ((out-Member m).value, h.value) }) refl h.name)

value_levels : (m : Member) → MemberLevels m → InMember m
value_levels m h = record { name = every_here-Member IsGoodLevel IsGoodMember m h; value = go (every_held-Member IsGoodLevel IsGoodMember m h) }
  where
    go : ((y : Member-F ((x : Json) × Levels x) ((x : Member) × MemberLevels x)) × (map-Member ((x : Json) × Levels x) ((x : Member) × MemberLevels x) Json Member (λ e. e.0) (λ e. e.0) y ≡ out-Member m)) → Levels (out-Member m).value
    go (y, e) = subst Levels (ap (λ (z : Member-F Json Member). z.value) e) y.value.1

list_levels : (xs : List Json) → AllByRecursion Levels xs → Levels (trees.List xs)
list_levels xs all =
    let ps = pack Levels xs all in
    subst Levels (trees.rolls-List xs) (every_made-Json IsGoodLevel IsGoodMember (layer.List xs) (layer.List ps.0) (ap (λ (ys : List Json). layer.List ys) ps.1) tt)

object_levels : (ms : List Member) → NamesDiffer ms → AllByRecursion InMember ms → Levels (trees.Object ms)
object_levels ms differ all =
    let ps = pack MemberLevels ms (each_map InMember MemberLevels member_levels ms all) in
    subst Levels (trees.rolls-Object ms) (every_made-Json IsGoodLevel IsGoodMember (layer.Object ms) (layer.Object ps.0) (ap (λ (ys : List Member). layer.Object ys) ps.1) differ)

abbrev Held : Type 0
Held = Json-F ((x : Json) × Levels x) ((x : Member) × MemberLevels x)

abbrev firsts : Held → Json-F Json Member
firsts = map-Json ((x : Json) × Levels x) ((x : Member) × MemberLevels x) Json Member (λ e. e.0) (λ e. e.0)

elements_levels : (xs : List Json) → Levels (trees.List xs) → AllByRecursion Levels xs
elements_levels xs h = go (every_held-Json IsGoodLevel IsGoodMember (roll-Json (layer.List xs)) (subst Levels (sym (trees.rolls-List xs)) h))
  where
    opened : out-Json (roll-Json (layer.List xs)) ≡ layer.List xs
    opened = out-roll-Json (layer.List xs)

    go : ((y : Held) × (firsts y ≡ out-Json (roll-Json (layer.List xs)))) → AllByRecursion Levels xs
    go (layer.Null, e) = let f : layer.Null ≡ layer.List xs = e ∙ opened in absurd cc
    go (layer.Truth b, e) = let f : layer.Truth b ≡ layer.List xs = e ∙ opened in absurd cc
    go (layer.Number n, e) = let f : layer.Number n ≡ layer.List xs = e ∙ opened in absurd cc
    go (layer.Text t, e) = let f : layer.Text t ≡ layer.List xs = e ∙ opened in absurd cc
    go (layer.List ps, e) = let f : layer.List (map (λ p. p.0) ps) ≡ layer.List xs = e ∙ opened in let same : map (λ p. p.0) ps ≡ xs = cc in subst (AllByRecursion Levels) same (unpack Levels ps)
    go (layer.Object ps, e) = let f : layer.Object (map (λ p. p.0) ps) ≡ layer.List xs = e ∙ opened in absurd cc

members_levels : (ms : List Member) → Levels (trees.Object ms) → AllByRecursion InMember ms
members_levels ms h = each_map MemberLevels InMember value_levels ms (go (every_held-Json IsGoodLevel IsGoodMember (roll-Json (layer.Object ms)) (subst Levels (sym (trees.rolls-Object ms)) h)))
  where
    opened : out-Json (roll-Json (layer.Object ms)) ≡ layer.Object ms
    opened = out-roll-Json (layer.Object ms)

    go : ((y : Held) × (firsts y ≡ out-Json (roll-Json (layer.Object ms)))) → AllByRecursion MemberLevels ms
    go (layer.Null, e) = let f : layer.Null ≡ layer.Object ms = e ∙ opened in absurd cc
    go (layer.Truth b, e) = let f : layer.Truth b ≡ layer.Object ms = e ∙ opened in absurd cc
    go (layer.Number n, e) = let f : layer.Number n ≡ layer.Object ms = e ∙ opened in absurd cc
    go (layer.Text t, e) = let f : layer.Text t ≡ layer.Object ms = e ∙ opened in absurd cc
    go (layer.List ps, e) = let f : layer.List (map (λ p. p.0) ps) ≡ layer.Object ms = e ∙ opened in absurd cc
    go (layer.Object ps, e) = let f : layer.Object (map (λ p. p.0) ps) ≡ layer.Object ms = e ∙ opened in let same : map (λ p. p.0) ps ≡ ms = cc in subst (AllByRecursion MemberLevels) same (unpack MemberLevels ps)

object_names : (ms : List Member) → Levels (trees.Object ms) → NamesDiffer ms
object_names ms h = subst IsGoodLevel (out-roll-Json (layer.Object ms)) (every_here-Json IsGoodLevel IsGoodMember (roll-Json (layer.Object ms)) (subst Levels (sym (trees.rolls-Object ms)) h))

pub null_levels : Levels trees.Null
null_levels = subst Levels trees.rolls-Null (every_made-Json IsGoodLevel IsGoodMember layer.Null layer.Null refl tt)

pub truth_levels : (b : Bool) → Levels (trees.Truth b)
truth_levels b = subst Levels (trees.rolls-Truth b) (every_made-Json IsGoodLevel IsGoodMember (layer.Truth b) (layer.Truth b) refl tt)

pub text_levels : (t : List ℕ) → IsUtf8 t → Levels (trees.Text t)
text_levels t u = subst Levels (trees.rolls-Text t) (every_made-Json IsGoodLevel IsGoodMember (layer.Text t) (layer.Text t) refl u)

pub number_levels : (ds : List ℕ) → Literal ds → is_wide ds ≡ false → Levels (number_tree ds)
number_levels ds l narrow =
    let n : Num = record { literal = ds; dec = number_of ds } in
    subst Levels (trees.rolls-Number n) (every_made-Json IsGoodLevel IsGoodMember (layer.Number n) (layer.Number n) refl (record { literal = l; reads = refl; narrow = narrow }))

pub number_narrow : (ds : List ℕ) → Levels (number_tree ds) → is_wide ds ≡ false
number_narrow ds h =
    let n : Num = record { literal = ds; dec = number_of ds } in
    let level : IsAsSent n = subst IsGoodLevel (out-roll-Json (layer.Number n)) (every_here-Json IsGoodLevel IsGoodMember (roll-Json (layer.Number n)) (subst Levels (sym (trees.rolls-Number n)) h)) in
    level.narrow

-- ---- depth

null_depth : depth trees.Null ≡ 0
null_depth = ap depth (sym trees.rolls-Null) ∙ fold-roll-Json ℕ ℕ level_depth member_depth layer.Null

truth_depth : (b : Bool) → depth (trees.Truth b) ≡ 0
truth_depth b = ap depth (sym (trees.rolls-Truth b)) ∙ fold-roll-Json ℕ ℕ level_depth member_depth (layer.Truth b)

text_depth : (t : List ℕ) → depth (trees.Text t) ≡ 0
text_depth t = ap depth (sym (trees.rolls-Text t)) ∙ fold-roll-Json ℕ ℕ level_depth member_depth (layer.Text t)

number_depth : (n : Num) → depth (trees.Number n) ≡ 0
number_depth n = ap depth (sym (trees.rolls-Number n)) ∙ fold-roll-Json ℕ ℕ level_depth member_depth (layer.Number n)

list_depth : (xs : List Json) → depth (trees.List xs) ≡ greatest (map depth xs) + 1
list_depth xs = ap depth (sym (trees.rolls-List xs)) ∙ fold-roll-Json ℕ ℕ level_depth member_depth (layer.List xs)

abbrev depth_in : Member → ℕ
depth_in = fold-Member ℕ ℕ level_depth member_depth

object_depth : (ms : List Member) → depth (trees.Object ms) ≡ greatest (map depth_in ms) + 1
object_depth ms = ap depth (sym (trees.rolls-Object ms)) ∙ fold-roll-Json ℕ ℕ level_depth member_depth (layer.Object ms)

depth_in_is : (m : Member) → depth_in m ≡ depth (out-Member m).value
depth_in_is m = fold_out-Member ℕ ℕ level_depth member_depth m

greatest_from : {A : Type 0} (f : A → ℕ) (n top : ℕ) (xs : List A) → n ≤ top → AllByRecursion (λ x. f x + n ≤ top) xs → greatest (map f xs) + n ≤ top
greatest_from f n top [] le all = omega arith
greatest_from f n top (x ∷ xs) le all = omega (arith, all.0, greatest_from f n top xs le all.1)

greatest_to : {A : Type 0} (f : A → ℕ) (n top : ℕ) (xs : List A) → greatest (map f xs) + n ≤ top → AllByRecursion (λ x. f x + n ≤ top) xs
greatest_to f n top [] le = tt
greatest_to f n top (x ∷ xs) le = (omega arith, greatest_to f n top xs (omega arith))

-- ---- names

or_false : (x y : Bool) → (x || y) ≡ false → (x ≡ false) × (y ≡ false)
or_false true y e = absurd cc
or_false false y e = (refl, e)

other_name : (a b : List ℕ) → pointwise nat_eq a b ≡ false → a ≢ b
other_name a b h e = let t : pointwise nat_eq a b ≡ true = (bytes_decides a b).1 e in absurd cc

differs : (ms : List Member) (name : List ℕ) → has_name ms name ≡ false → (k : ℕ) (d : Member) → k < length ms → (out-Member (get_or ms k d)).name ≢ name
differs [] name h k d lt = absurd (omega arith)
differs (m ∷ ms) name h zero d lt = other_name (out-Member m).name name (or_false (pointwise nat_eq (out-Member m).name name) (has_name ms name) h).0
differs (m ∷ ms) name h (suc k) d lt = differs ms name (or_false (pointwise nat_eq (out-Member m).name name) (has_name ms name) h).1 k d (omega arith)

or_both : (x y : Bool) → (x ≡ true → ⊥) → y ≡ false → (x || y) ≡ false
or_both true y h e = absurd (h refl)
or_both false y h e = e

no_name_from : (ms : List Member) (name : List ℕ) → AllByRecursion (λ m. (out-Member m).name ≢ name) ms → has_name ms name ≡ false
no_name_from [] name all = refl
no_name_from (m ∷ ms) name all = or_both (pointwise nat_eq (out-Member m).name name) (has_name ms name) (λ e. all.0 ((bytes_decides (out-Member m).name name).0 e)) (no_name_from ms name all.1)

each_from : {A : Type 0} (P : A → Type 0) (xs : List A) → ((k : ℕ) (d : A) → k < length xs → P (get_or xs k d)) → AllByRecursion P xs
each_from P [] h = tt
each_from P (x ∷ xs) h = (h 0 x (omega arith), each_from P xs (λ k d lt. h (suc k) d (omega arith)))

names_push : (ms : List Member) (m : Member) → NamesDiffer ms → has_name ms (out-Member m).name ≡ false → NamesDiffer (ms ++ m ∷ [])
names_push ms m differ h = all_pairs_push (λ (a b : Member). (out-Member a).name ≢ (out-Member b).name) ms m differ (λ k d lt. differs ms (out-Member m).name h k d lt)

names_before : (ms : List Member) (m : Member) → NamesDiffer (ms ++ m ∷ []) → NamesDiffer ms
names_before ms m h = λ i j d ij jl.
    let il : i < length ms = omega arith in
    let longer : j < length (ms ++ m ∷ []) = omega (arith, length-append ms (m ∷ [])) in
    subst (λ (x : Member). (out-Member x).name ≢ (out-Member (get_or ms j d)).name) (get_or_append_left ms (m ∷ []) d i il)
    (subst (λ (x : Member). (out-Member (get_or (ms ++ m ∷ []) i d)).name ≢ (out-Member x).name) (get_or_append_left ms (m ∷ []) d j jl) (h i j d ij longer))

names_last : (ms : List Member) (m : Member) → NamesDiffer (ms ++ m ∷ []) → has_name ms (out-Member m).name ≡ false
names_last ms m h = no_name_from ms (out-Member m).name (each_from (λ x. (out-Member x).name ≢ (out-Member m).name) ms (λ k d lt.
    let longer : length ms < length (ms ++ m ∷ []) = omega (arith, length-append ms (m ∷ [])) in
    subst (λ (x : Member). (out-Member x).name ≢ (out-Member m).name) (get_or_append_left ms (m ∷ []) d k lt)
    (subst (λ (x : Member). (out-Member (get_or (ms ++ m ∷ []) k d)).name ≢ (out-Member x).name) (get_or-append_seam ms m [] d) (h k (length ms) d lt longer))))

-- ---- a value within n lists and objects

pub record GoodAt (n : ℕ) (v : Json) : Type 0 where
  pub levels : Levels v
  pub within : depth v + n ≤ 64

pub record GoodValue (n : ℕ) (m : Member) : Type 0 where
  pub name : IsUtf8 (out-Member m).name
  pub value : GoodAt n (out-Member m).value

pub record GoodMembers (n : ℕ) (ms : List Member) : Type 0 where
  pub differ : NamesDiffer ms
  pub all : AllByRecursion (GoodValue n) ms

pub good_list : (n : ℕ) (xs : List Json) → AllByRecursion (GoodAt (suc n)) xs → suc n ≤ 64 → GoodAt n (trees.List xs)
good_list n xs all few = record {
  levels = list_levels xs (each_map (GoodAt (suc n)) Levels (λ x g. g.levels) xs all);
  within = omega (arith, list_depth xs, greatest_from depth (suc n) 64 xs few (each_map (GoodAt (suc n)) (λ x. depth x + suc n ≤ 64) (λ x g. g.within) xs all));
}

pub list_good : (n : ℕ) (xs : List Json) → GoodAt n (trees.List xs) → AllByRecursion (GoodAt (suc n)) xs × (suc n ≤ 64)
list_good n xs g =
    let within : depth (trees.List xs) + n ≤ 64 = g.within in
    let top : greatest (map depth xs) + suc n ≤ 64 = omega (arith, list_depth xs, within) in
    (each_both Levels (λ x. depth x + suc n ≤ 64) (GoodAt (suc n)) (λ x l w. record { levels = l; within = w }) xs (elements_levels xs g.levels) (greatest_to depth (suc n) 64 xs top), omega (arith, top))

pub good_object : (n : ℕ) (ms : List Member) → GoodMembers (suc n) ms → suc n ≤ 64 → GoodAt n (trees.Object ms)
good_object n ms g few = record {
  levels = object_levels ms g.differ (each_map (GoodValue (suc n)) InMember (λ x g. record { name = g.name; value = g.value.levels }) ms g.all);
  within = omega (arith, object_depth ms, greatest_from depth_in (suc n) 64 ms few (each_map (GoodValue (suc n)) (λ m. depth_in m + suc n ≤ 64) (λ m g. subst (λ (x : ℕ). x + suc n ≤ 64) (sym (depth_in_is m)) g.value.within) ms g.all));
}

pub object_good : (n : ℕ) (ms : List Member) → GoodAt n (trees.Object ms) → GoodMembers (suc n) ms × (suc n ≤ 64)
object_good n ms g =
    let within : depth (trees.Object ms) + n ≤ 64 = g.within in
    let top : greatest (map depth_in ms) + suc n ≤ 64 = omega (arith, object_depth ms, within) in (
      record {
        differ = object_names ms g.levels;
        all = each_both InMember (λ m. depth_in m + suc n ≤ 64) (GoodValue (suc n)) (λ m l w. record { name = l.name; value = record { levels = l.value; within = subst (λ (x : ℕ). x + suc n ≤ 64) (depth_in_is m) w } }) ms (members_levels ms g.levels) (greatest_to depth_in (suc n) 64 ms top);
      },
      omega (arith, top),
    )

member_out : (name : List ℕ) (v : Json) → out-Member (grammar.member name v) ≡ record { name = name; value = v }
member_out name v = out-roll-Member (record { name = name; value = v })

-- one more member
pub members_push : (n : ℕ) (ms : List Member) (name : List ℕ) (v : Json) → GoodMembers n ms → has_name ms name ≡ false → IsUtf8 name → GoodAt n v → GoodMembers n (ms ++ grammar.member name v ∷ [])
members_push n ms name v g h utf8 one =
    let is : record { name = name; value = v } ≡ out-Member (grammar.member name v) = sym (member_out name v) in
    record {
      differ = names_push ms (grammar.member name v) g.differ (subst (λ (x : Member-F Json Member). has_name ms x.name ≡ false) is h);
      all = each_push (GoodValue n) ms (grammar.member name v) g.all (record { name = subst (λ (x : Member-F Json Member). IsUtf8 x.name) is utf8; value = subst (λ (x : Member-F Json Member). GoodAt n x.value) is one });
    }

pub record WithoutLast (n : ℕ) (ms : List Member) (name : List ℕ) (v : Json) : Type 0 where
  pub others : GoodMembers n ms
  pub new : has_name ms name ≡ false
  pub utf8 : IsUtf8 name
  pub value : GoodAt n v

pub members_pop : (n : ℕ) (ms : List Member) (name : List ℕ) (v : Json) → GoodMembers n (ms ++ grammar.member name v ∷ []) → WithoutLast n ms name v
members_pop n ms name v g =
    let parts = each_pop (GoodValue n) ms (grammar.member name v) g.all in
    record {
      others = record { differ = names_before ms (grammar.member name v) g.differ; all = parts.0 };
      new = subst (λ (x : Member-F Json Member). has_name ms x.name ≡ false) (member_out name v) (names_last ms (grammar.member name v) g.differ);
      utf8 = subst (λ (x : Member-F Json Member). IsUtf8 x.name) (member_out name v) parts.1.name;
      value = subst (λ (x : Member-F Json Member). GoodAt n x.value) (member_out name v) parts.1.value;
    }

pub good_null : (n : ℕ) → n ≤ 64 → GoodAt n trees.Null
good_null n le = record { levels = null_levels; within = omega (arith, null_depth) }

pub good_truth : (b : Bool) (n : ℕ) → n ≤ 64 → GoodAt n (trees.Truth b)
good_truth b n le = record { levels = truth_levels b; within = omega (arith, truth_depth b) }

pub good_text : (t : List ℕ) → IsUtf8 t → (n : ℕ) → n ≤ 64 → GoodAt n (trees.Text t)
good_text t u n le = record { levels = text_levels t u; within = omega (arith, text_depth t) }

pub good_number : (ds : List ℕ) (n : ℕ) → Literal ds → is_wide ds ≡ false → n ≤ 64 → GoodAt n (number_tree ds)
good_number ds n l narrow le = record { levels = number_levels ds l narrow; within = omega (arith, number_depth (record { literal = ds; dec = number_of ds })) }

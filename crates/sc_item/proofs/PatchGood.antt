-- What a good patch makes of a good tree is good.
use Rattle.std.proofs.Common.{◌≡◌, ◌≢◌, ◌⊎◌, inl, inr, ℕ, zero, suc, ◌≤◌, ◌<◌, Bool, true, false, cond, ◌||◌, List, [], ◌∷◌, ◌++◌, length, get_or, Some, refl, ap, sym, subst, ◌∙◌, arith, append_assoc, append-nil, IsUtf8}
use Rattle.std.specs.Prelude.{nat_eq, Result, Ok, Err, IfOk}
use Rattle.std.specs.Cmp.Lexicographic.{pointwise, same_text, nat_list_eq_equiv}
use Rattle.std.proofs.lemmas.List.Folds.{list_any-append}
use Rattle.sc_json.specs.declared.tree.Json.{Json}
use Rattle.sc_json.specs.declared.tree.Json.TheVariants as trees
use Rattle.sc_json.specs.declared.tree.Json.TheOpen as layer
use Rattle.sc_json.specs.declared.tree.Json.TheOpen.{Json-F, Member-F}
use Rattle.sc_json.specs.declared.tree.Json.TheViews.{out-Json, roll-Json, roll-out-Json, roll-out-Member, out-roll-Member}
use Rattle.sc_json.specs.declared.tree.Member.{Member, out-Member}
use Rattle.sc_json.specs.Grammar.{member}
use Rattle.sc_json.specs.Good.{Good}
use Rattle.sc_json.specs.Names.{has_name}
use Rattle.sc_json.specs.Member.{value_in, members_of}
use Rattle.sc_json.proofs.GoodTrees.{GoodAt, GoodValue, GoodMembers, good_object, object_good, members_push, good_null}
use Rattle.sc_item.specs.Trees.{is_named, is_object, object_in, members_in}
use Rattle.sc_item.specs.Patch.{Patched, replaced, merged, Leaves, same, removed, changed, AreKept, none_kept, one_kept, Adds, known, nothing, new, AreAdded, none_added, one_added}
use Rattle.sc_item.proofs.Extending.{at_good, good_at}

-- ---- names

unlike : (a b : List ℕ) → b ≢ a → pointwise nat_eq a b ≡ false
unlike a b n = by (pointwise nat_eq a b) refl
  where
    by : (t : Bool) → pointwise nat_eq a b ≡ t → pointwise nat_eq a b ≡ false
    by true e = absurd (n (sym (same_text a b (sym e))))
    by false e = e

lacks : (name : List ℕ) (ms : List Member) → ((k : ℕ) (d : Member) → k < length ms → name ≢ (out-Member (get_or ms k d)).name) → has_name ms name ≡ false
lacks name [] h = refl
lacks name (m ∷ ms) h =
    ap (λ (b : Bool). b || has_name ms name) (unlike (out-Member m).name name (h 0 m (omega arith)))
    ∙ lacks name ms (λ k d l. h (suc k) d (omega arith))

-- the first of good members, and the others, which haven't its name
record First (n : ℕ) (m : Member) (ms : List Member) : Type 0 where
  pub value : GoodValue n m
  pub rest : GoodMembers n ms
  pub alone : has_name ms (out-Member m).name ≡ false

first_of : (n : ℕ) (m : Member) (ms : List Member) → GoodMembers n (m ∷ ms) → First n m ms
first_of n m ms g = record {
  value = g.all.0;
  rest = record { differ = λ i j d ij jl. g.differ (suc i) (suc j) d (omega arith) (omega arith); all = g.all.1 };
  alone = lacks (out-Member m).name ms (λ k d l. g.differ 0 (suc k) d (omega arith) (omega arith));
}

no_members : (n : ℕ) → GoodMembers n []
no_members n = record { differ = λ i j d ij jl. absurd (omega arith); all = tt }

-- ---- parts of good trees

found_good : (n : ℕ) (ms : List Member) (name : List ℕ) (value : Json) → GoodMembers n ms → value_in ms name ≡ Some value → GoodAt n value
found_good n [] name value g e = absurd cc
found_good n (m ∷ ms) name value g e = let f = first_of n m ms g in by (is_named name m) f (found_good n ms name value f.rest) e
  where
    by : (b : Bool) → First n m ms → (value_in ms name ≡ Some value → GoodAt n value) → cond b (Some (out-Member m).value) (value_in ms name) ≡ Some value → GoodAt n value
    by true f later h = let is : (out-Member m).value ≡ value = cc in subst (GoodAt n) is f.value.value
    by false f later h = later h

object_is : (tree : Json) → is_object tree ≡ true → tree ≡ trees.Object (members_in tree)
unfolding is_object members_in
object_is tree o = by (out-Json tree) refl o
  where
    by : (l : Json-F Json Member) → out-Json tree ≡ l → object_in l ≡ true → tree ≡ trees.Object (members_of l)
    by layer.Null e h = absurd cc
    by (layer.Truth b) e h = absurd cc
    by (layer.Number m) e h = absurd cc
    by (layer.Text t) e h = absurd cc
    by (layer.List vs) e h = absurd cc
    by (layer.Object ms) e h = sym (roll-out-Json tree) ∙ ap roll-Json e ∙ trees.rolls-Object ms

members_good : (n : ℕ) (tree : Json) → GoodAt n tree → GoodMembers (suc n) (members_in tree)
unfolding members_in
members_good n tree g = by (out-Json tree) refl
  where
    by : (l : Json-F Json Member) → out-Json tree ≡ l → GoodMembers (suc n) (members_of l)
    by layer.Null e = no_members (suc n)
    by (layer.Truth b) e = no_members (suc n)
    by (layer.Number m) e = no_members (suc n)
    by (layer.Text t) e = no_members (suc n)
    by (layer.List vs) e = no_members (suc n)
    by (layer.Object ms) e =
        let is : tree ≡ trees.Object ms = sym (roll-out-Json tree) ∙ ap roll-Json e ∙ trees.rolls-Object ms in
        let o = object_good n ms (subst (GoodAt n) is g) in o.0

-- ---- one member or none behind good members

-- nothing, or one member of this name with a good value
abbrev One : ℕ → List ℕ → List Member → Type 0
One n name front = (front ≡ []) ⊎ ((v : Json) × (front ≡ member name v ∷ []) × GoodAt n v)

push_good : (n : ℕ) (acc front : List Member) (name : List ℕ) → GoodMembers n acc → has_name acc name ≡ false → IsUtf8 name → One n name front → GoodMembers n (acc ++ front)
push_good n acc front name g h u (inl e) = subst (GoodMembers n) (sym (ap (λ (x : List Member). acc ++ x) e ∙ append-nil acc)) g
push_good n acc front name g h u (inr (v, e, w)) = subst (λ (x : List Member). GoodMembers n (acc ++ x)) (sym e) (members_push n acc name v g h u w)

neither : (a b : Bool) → a ≡ false → b ≡ false → (a || b) ≡ false
neither true b p q = absurd cc
neither false b p q = q

named_out : (name : List ℕ) (v : Json) → (out-Member (member name v)).name ≡ name
named_out name v = ap (λ (x : Member-F Json Member). x.name) (out-roll-Member (record { name = name; value = v }))

lacks_more : (n : ℕ) (acc front : List Member) (name other : List ℕ) → One n name front → other ≢ name → has_name acc other ≡ false → has_name (acc ++ front) other ≡ false
lacks_more n acc front name other (inl e) ne h = ap (λ (x : List Member). has_name x other) (ap (λ (x : List Member). acc ++ x) e ∙ append-nil acc) ∙ h
lacks_more n acc front name other (inr (v, e, w)) ne h =
    ap (λ (x : List Member). has_name (acc ++ x) other) e
    ∙ list_any-append (is_named other) acc (member name v ∷ [])
    ∙ neither (has_name acc other) (has_name (member name v ∷ []) other) h
    (lacks other (member name v ∷ []) (λ k d l. at k d l))
  where
    at : (k : ℕ) (d : Member) → k < length (member name v ∷ []) → other ≢ (out-Member (get_or (member name v ∷ []) k d)).name
    at zero d l f = ne (f ∙ named_out name v)
    at (suc k) d l f = absurd (omega arith)

-- a name that some members have, and others haven't
has_first : (m : Member) (ms : List Member) → has_name (m ∷ ms) (out-Member m).name ≡ true
has_first m ms = ap (λ (b : Bool). b || has_name ms (out-Member m).name) (nat_list_eq_equiv.refl (out-Member m).name)

has_later : (m : Member) (ms : List Member) (name : List ℕ) → has_name ms name ≡ true → has_name (m ∷ ms) name ≡ true
has_later m ms name h = by (is_named name m)
  where
    by : (b : Bool) → (b || has_name ms name) ≡ true
    by true = refl
    by false = h

lacks_later : (m : Member) (ms : List Member) (name : List ℕ) → has_name (m ∷ ms) name ≡ false → (name ≢ (out-Member m).name) × (has_name ms name ≡ false)
lacks_later m ms name h = (λ e. let t : has_name (m ∷ ms) name ≡ true = subst (λ (x : List ℕ). has_name (m ∷ ms) x ≡ true) (sym e) (has_first m ms) in absurd cc, by (is_named name m) h)
  where
    by : (b : Bool) → (b || has_name ms name) ≡ false → has_name ms name ≡ false
    by true f = absurd cc
    by false f = f

differs_from : (ms : List Member) (name other : List ℕ) → has_name ms other ≡ true → has_name ms name ≡ false → other ≢ name
differs_from ms name other p q e = let t : has_name ms name ≡ true = subst (λ (x : List ℕ). has_name ms x ≡ true) e p in absurd cc

-- no name of the second is one of the first
abbrev Apart : List Member → List Member → Type 0
Apart acc ms = (name : List ℕ) → has_name ms name ≡ true → has_name acc name ≡ false

record More (n : ℕ) (acc ms all : List Member) : Type 0 where
  pub good : GoodMembers n all
  pub misses : (name : List ℕ) → has_name acc name ≡ false → has_name ms name ≡ false → has_name all name ≡ false

-- ---- patches

mutual
  patched_good : (n : ℕ) (target patch result : Json) → Patched target patch result → GoodAt n target → GoodAt n patch → GoodAt n result
  patched_good n target _ _ (replaced _ patch isnt) t p = p
  patched_good n target _ _ (merged _ patch kept added is k a) t p =
      let o = object_good n (members_in patch) (subst (GoodAt n) (object_is patch is) p) in
      let ms : GoodMembers (suc n) (members_in target) = members_good n target t in
      let first = kept_good (suc n) (members_in patch) (members_in target) kept k [] (no_members (suc n)) ms o.0 (λ name h. refl) in
      let both = added_good (suc n) (members_in target) (members_in patch) added a kept first.good o.0 (λ name h l. first.misses name refl l) o.1 in
      good_object n (kept ++ added) both o.1

  leaves_good : (n : ℕ) (changes front : List Member) (m : Member) → Leaves changes m front → GoodValue n m → GoodMembers n changes → One n (out-Member m).name front
  leaves_good n changes _ m (same _ _ e) g c = inr ((out-Member m).value, ap (λ (x : Member). x ∷ []) (sym (roll-out-Member m)), g.value)
  leaves_good n changes _ m (removed _ _ value e is) g c = inl refl
  leaves_good n changes _ m (changed _ _ value v e isnt p) g c = inr (v, refl, patched_good n (out-Member m).value value v p g.value (found_good n changes (out-Member m).name value c e))

  kept_good : (n : ℕ) (changes ms kept : List Member) → AreKept changes ms kept → (acc : List Member) → GoodMembers n acc → GoodMembers n ms → GoodMembers n changes → Apart acc ms → More n acc ms (acc ++ kept)
  kept_good n changes _ _ (none_kept _) acc g h c apart = record {
    good = subst (GoodMembers n) (sym (append-nil acc)) g;
    misses = λ name l k. ap (λ (x : List Member). has_name x name) (append-nil acc) ∙ l;
  }
  kept_good n changes _ _ (one_kept _ ms front rest m l others) acc g h c apart =
      let f = first_of n m ms h in
      let one = leaves_good n changes front m l f.value c in
      let acc' = push_good n acc front (out-Member m).name g (apart (out-Member m).name (has_first m ms)) f.value.name one in
      let more = kept_good n changes ms rest others (acc ++ front) acc' f.rest c
      (λ name k. lacks_more n acc front (out-Member m).name name one (differs_from ms (out-Member m).name name k f.alone) (apart name (has_later m ms name k))) in
      record {
        good = subst (GoodMembers n) (append_assoc acc front rest) more.good;
        misses = λ name k j.
            let later = lacks_later m ms name j in
            ap (λ (x : List Member). has_name x name) (sym (append_assoc acc front rest))
            ∙ more.misses name (lacks_more n acc front (out-Member m).name name one later.0 k) later.1;
      }

  adds_good : (n : ℕ) (ms front : List Member) (change : Member) → Adds ms change front → GoodValue n change → n ≤ 64 → (One n (out-Member change).name front) × ((front ≡ []) ⊎ (has_name ms (out-Member change).name ≡ false))
  adds_good n ms _ change (known _ _ e) g le = (inl refl, inl refl)
  adds_good n ms _ change (nothing _ _ e is) g le = (inl refl, inl refl)
  adds_good n ms _ change (new _ _ v e isnt p) g le =
      (inr (v, refl, patched_good n trees.Null (out-Member change).value v p (good_null n le) g.value), inr e)

  added_good : (n : ℕ) (ms changes added : List Member) → AreAdded ms changes added → (acc : List Member) → GoodMembers n acc → GoodMembers n changes →
      ((name : List ℕ) → has_name changes name ≡ true → has_name ms name ≡ false → has_name acc name ≡ false) → n ≤ 64 → GoodMembers n (acc ++ added)
  added_good n ms _ _ (none_added _) acc g c apart le = subst (GoodMembers n) (sym (append-nil acc)) g
  added_good n ms _ _ (one_added _ changes front rest m a others) acc g c apart le =
      let f = first_of n m changes c in
      let one = adds_good n ms front m a f.value le in
      subst (GoodMembers n) (append_assoc acc front rest)
      (added_good n ms changes rest others (acc ++ front) (behind one.1 one.0 f) f.rest
      (λ name k l. lacks_more n acc front (out-Member m).name name one.0 (differs_from changes (out-Member m).name name k f.alone) (apart name (has_later m changes name k) l)) le)
    where
      behind : (front ≡ []) ⊎ (has_name ms (out-Member m).name ≡ false) → One n (out-Member m).name front → First n m changes → GoodMembers n (acc ++ front)
      behind (inl e) one f = subst (GoodMembers n) (sym (ap (λ (x : List Member). acc ++ x) e ∙ append-nil acc)) g
      behind (inr h) one f = push_good n acc front (out-Member m).name g (apart (out-Member m).name (has_first m changes) h) f.value.name one

pub good_patched : (target patch result : Json) → Patched target patch result → Good target → Good patch → Good result
good_patched target patch result p t q = good_at result (patched_good 0 target patch result p (at_good target t) (at_good patch q))

-- so what a call gives is good
pub good_result : {E : Type 0} (r : Result Json E) (target patch : Json) → IfOk r (Patched target patch) → Good target → Good patch → IfOk r Good
good_result (Ok result) target patch p t q = good_patched target patch result p t q
good_result (Err e) target patch p t q = tt

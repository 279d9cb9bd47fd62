-- What a patch leaves and adds, member by member.
use Rattle.std.proofs.Common.{◌≡◌, ℕ, List, [], ◌∷◌, ◌++◌, ap, sym, subst, ◌∙◌, append_assoc, append-nil}
use Rattle.std.proofs.Common.{true, false, take, length, ◌+◌, ◌<◌, ◌≤◌, get_or}
use Rattle.std.specs.Prelude.{Result, Ok, Err, IfOk}
use Rattle.std.proofs.lemmas.List.{take_more, take_all}
use Rattle.sc_json.specs.declared.tree.Json.{Json}
use Rattle.sc_json.specs.declared.tree.Json.TheVariants as trees
use Rattle.sc_json.specs.declared.tree.Json.TheOpen as layer
use Rattle.sc_json.specs.declared.tree.Json.TheOpen.{Json-F}
use Rattle.sc_json.specs.declared.tree.Json.TheViews.{out-Json, roll-out-Member}
use Rattle.sc_json.specs.Grammar.{member}
use Rattle.sc_json.specs.Member.{members_of}
use Rattle.sc_item.specs.Trees.{is_object, object_in, members_in}
use Rattle.sc_item.proofs.Extending.{out_object}
use Rattle.sc_json.specs.declared.tree.Member.{Member, out-Member}
use Rattle.sc_item.specs.Patch.{Patched, replaced, merged, Leaves, AreKept, none_kept, one_kept, Adds, AreAdded, none_added, one_added}

pub AreKept-push : (changes ms kept front : List Member) (m : Member) → AreKept changes ms kept → Leaves changes m front → AreKept changes (ms ++ m ∷ []) (kept ++ front)
AreKept-push changes _ _ front m (none_kept _) l = subst (AreKept changes (m ∷ [])) (append-nil front) (one_kept changes [] front [] m l (none_kept changes))
AreKept-push changes _ _ front m (one_kept _ ms first rest n k others) l =
    subst (AreKept changes (n ∷ (ms ++ m ∷ []))) (sym (append_assoc first rest front)) (one_kept changes (ms ++ m ∷ []) first (rest ++ front) n k (AreKept-push changes ms rest front m others l))

pub AreAdded-push : (ms changes added front : List Member) (m : Member) → AreAdded ms changes added → Adds ms m front → AreAdded ms (changes ++ m ∷ []) (added ++ front)
AreAdded-push ms _ _ front m (none_added _) l = subst (AreAdded ms (m ∷ [])) (append-nil front) (one_added ms [] front [] m l (none_added ms))
AreAdded-push ms _ _ front m (one_added _ changes first rest n k others) l =
    subst (AreAdded ms (n ∷ (changes ++ m ∷ []))) (sym (append_assoc first rest front)) (one_added ms (changes ++ m ∷ []) first (rest ++ front) n k (AreAdded-push ms changes rest front m others l))

-- a member made of its parts
pub made : (name : List ℕ) (value : Json) (m : Member) → name ≡ (out-Member m).name → value ≡ (out-Member m).value → member name value ≡ m
made name value m e f = (λ k. member (e k) (f k)) ∙ roll-out-Member m

-- a copy of a patch that is no object
pub copied : {E : Type 0} (r : Result Json E) (target patch : Json) → is_object patch ≡ false → IfOk r (λ copy. copy ≡ patch) → IfOk r (Patched target patch)
copied (Ok copy) target patch isnt e = subst (Patched target patch) (sym e) (replaced target patch isnt)
copied (Err x) target patch isnt e = tt

pub object_facts : (patch : Json) (changes : List Member) → patch ≡ trees.Object changes → (is_object patch ≡ true) × (members_in patch ≡ changes)
unfolding is_object members_in
object_facts patch changes e =
    let out : out-Json patch ≡ layer.Object changes = ap out-Json e ∙ out_object changes in
    (ap object_in out, ap members_of out)

pub merged_from : (target patch : Json) (changes slice ms items of : List Member) → patch ≡ trees.Object changes → slice ≡ changes → ms ≡ members_in target → of ≡ items →
    ((kept : List Member) × (added : List Member) × (items ≡ kept ++ added) × AreKept slice ms kept × AreAdded ms slice added) → Patched target patch (trees.Object of)
merged_from target patch changes slice ms items of e s m o (kept, added, is, k, a) =
    let facts = object_facts patch changes e in
    let c : slice ≡ members_in patch = s ∙ sym facts.1 in
    subst (λ (x : List Member). Patched target patch (trees.Object x)) (sym (o ∙ is))
    (merged target patch kept added facts.0
    (subst (λ (x : List Member). AreKept (members_in patch) x kept) m (subst (λ (x : List Member). AreKept x ms kept) c k))
    (subst (λ (x : List Member). AreAdded x (members_in patch) added) m (subst (λ (x : List Member). AreAdded ms x added) c a)))

-- one more member of the target
pub kept_more : (changes ms old new : List Member) (i : ℕ) (m : Member) → i < length ms → m ≡ get_or ms i m → AreKept changes (take i ms) old →
    ((front : List Member) × (new ≡ old ++ front) × Leaves changes m front) → AreKept changes (take (i + 1) ms) new
kept_more changes ms old new i m lt is k (front, e, l) =
    subst (λ (x : List Member). AreKept changes x new) (sym (take_more ms i m lt ∙ ap (λ (x : Member). take i ms ++ x ∷ []) (sym is)))
    (subst (λ (x : List Member). AreKept changes (take i ms ++ m ∷ []) x) (sym e) (AreKept-push changes (take i ms) old front m k l))

-- one more change
pub added_more : (changes ms old new : List Member) (i : ℕ) (m : Member) → i < length changes → m ≡ get_or changes i m →
    ((kept : List Member) × (added : List Member) × (old ≡ kept ++ added) × AreKept changes ms kept × AreAdded ms (take i changes) added) →
    ((front : List Member) × (new ≡ old ++ front) × Adds ms m front) →
    (kept : List Member) × (added : List Member) × (new ≡ kept ++ added) × AreKept changes ms kept × AreAdded ms (take (i + 1) changes) added
added_more changes ms old new i m lt is (kept, added, e, k, a) (front, f, l) = (
  kept,
  added ++ front,
  f ∙ ap (λ (x : List Member). x ++ front) e ∙ append_assoc kept added front,
  k,
  subst (λ (x : List Member). AreAdded ms x (added ++ front)) (sym (take_more changes i m lt ∙ ap (λ (x : Member). take i changes ++ x ∷ []) (sym is)))
      (AreAdded-push ms (take i changes) added front m a l),
)

pub all_kept : (changes ms kept : List Member) (i : ℕ) → AreKept changes (take i ms) kept → length ms ≤ i → AreKept changes ms kept
all_kept changes ms kept i k le = subst (λ (x : List Member). AreKept changes x kept) (take_all i ms le) k

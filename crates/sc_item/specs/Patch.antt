-- What a patch makes of a tree: JSON merge patch (RFC 7396 §2), and the order of the members.
use Rattle.std.specs.Prelude.{◌≡◌, List, [], ◌∷◌, ◌++◌, true, false, Some, None}
use Rattle.sc_json.specs.declared.tree.Json.{Json}
use Rattle.sc_json.specs.declared.tree.Json.TheVariants.{Null, Object}
use Rattle.sc_json.specs.declared.tree.Member.{Member, out-Member}
use Rattle.sc_json.specs.Grammar.{member}
use Rattle.sc_json.specs.Names.{has_name}
use Rattle.sc_json.specs.Member.{value_in}
use Rattle.sc_item.specs.Trees.{is_null, is_object, members_in}

mutual
  pub data Patched : Json → Json → Json → Type 0 where
    -- a patch that is no object stands in the target's place
    replaced : (target patch : Json) → is_object patch ≡ false → Patched target patch patch
    -- an object changes the members of the target, which has none where it is no object: those that stay keep their places,
    -- and the new ones stand behind them
    merged : (target patch : Json) (kept added : List Member) → is_object patch ≡ true →
        AreKept (members_in patch) (members_in target) kept → AreAdded (members_in target) (members_in patch) added →
        Patched target patch (Object (kept ++ added))

  -- what the changes leave of a member, if anything
  pub data Leaves : List Member → Member → List Member → Type 0 where
    same : (changes : List Member) (m : Member) → value_in changes (out-Member m).name ≡ None → Leaves changes m (m ∷ [])
    removed : (changes : List Member) (m : Member) (value : Json) → value_in changes (out-Member m).name ≡ Some value →
        is_null value ≡ true → Leaves changes m []
    changed : (changes : List Member) (m : Member) (value new : Json) → value_in changes (out-Member m).name ≡ Some value →
        is_null value ≡ false → Patched (out-Member m).value value new → Leaves changes m (member (out-Member m).name new ∷ [])

  -- what they leave of the members, in their order
  pub data AreKept : List Member → List Member → List Member → Type 0 where
    none_kept : (changes : List Member) → AreKept changes [] []
    one_kept : (changes ms front rest : List Member) (m : Member) → Leaves changes m front → AreKept changes ms rest →
        AreKept changes (m ∷ ms) (front ++ rest)

  -- what a change adds to members: a member that they haven't, unless it is null. Nulls within it aren't added either.
  pub data Adds : List Member → Member → List Member → Type 0 where
    known : (ms : List Member) (change : Member) → has_name ms (out-Member change).name ≡ true → Adds ms change []
    nothing : (ms : List Member) (change : Member) → has_name ms (out-Member change).name ≡ false →
        is_null (out-Member change).value ≡ true → Adds ms change []
    new : (ms : List Member) (change : Member) (value : Json) → has_name ms (out-Member change).name ≡ false →
        is_null (out-Member change).value ≡ false → Patched Null (out-Member change).value value →
        Adds ms change (member (out-Member change).name value ∷ [])

  -- what the changes add, in their order
  pub data AreAdded : List Member → List Member → List Member → Type 0 where
    none_added : (ms : List Member) → AreAdded ms [] []
    one_added : (ms changes front rest : List Member) (change : Member) → Adds ms change front → AreAdded ms changes rest →
        AreAdded ms (change ∷ changes) (front ++ rest)

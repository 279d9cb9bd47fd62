-- Trees that stand two levels deep are good features of a FeatureCollection, and are what it brings.
use Rattle.std.proofs.Common.{◌≡◌, ◌||◌, ℕ, Bool, true, false, cond, List, [], ◌∷◌, Option, Some, None, nat_eq, codes, refl, sym, ap, ◌∙◌, arith, IsUtf8}
use Rattle.std.specs.Prelude.{if◌then◌else◌}
use Rattle.std.specs.Option.{option_and_then}
use Rattle.std.specs.Cmp.Lexicographic.{pointwise, bytes_decides}
use Rattle.std.specs.List.{AllByRecursion}
use Rattle.sc_json.specs.declared.tree.Json.{Json}
use Rattle.sc_json.specs.declared.tree.Json.TheVariants as trees
use Rattle.sc_json.specs.declared.tree.Json.TheOpen as layer
use Rattle.sc_json.specs.declared.tree.Json.TheOpen.{Json-F, Member-F}
use Rattle.sc_json.specs.declared.tree.Json.TheViews.{out-Json, out-roll-Json, out-roll-Member}
use Rattle.sc_json.specs.declared.tree.Member.{Member, out-Member}
use Rattle.sc_json.specs.Grammar.{member}
use Rattle.sc_json.specs.Member.{member_value, members_of, value_in}
use Rattle.sc_json.specs.Good.{Good}
use Rattle.sc_json.specs.Machine.{has_name}
use Rattle.sc_json.proofs.GoodTrees.{GoodAt, GoodMembers, each_map, good_list, good_object, good_text, members_push}
use Rattle.sc_json.proofs.Numerals.{ascii_utf8}
use Rattle.sc_geom.specs.Tree.{list_in, list_of}
use Rattle.sc_item.specs.Trees.{text_in, text_of, text_member}
use Rattle.sc_item.specs.Words.{type_name}
use Rattle.sc_load.specs.Words.{features_name, several_word}
use Rattle.sc_load.specs.Features.{features_of, features_or, is_word, trees_of}
use Rattle.sc_script.specs.Step.{StandsWithin}
use Rattle.sc_machine.specs.Inside.{collection_tree}

type_utf8 : IsUtf8 type_name
unfolding type_name
type_utf8 = ascii_utf8 (codes "type") (omega arith, (omega arith, (omega arith, (omega arith, tt))))

features_utf8 : IsUtf8 features_name
unfolding features_name
features_utf8 = ascii_utf8 (codes "features") (omega arith, (omega arith, (omega arith, (omega arith, (omega arith, (omega arith, (omega arith, (omega arith, tt))))))))

several_utf8 : IsUtf8 several_word
unfolding several_word
several_utf8 = ascii_utf8 (codes "FeatureCollection") (omega arith, (omega arith, (omega arith, (omega arith, (omega arith, (omega arith, (omega arith, (omega arith, (omega arith, (omega arith, (omega arith, (omega arith, (omega arith, (omega arith, (omega arith, (omega arith, (omega arith, tt)))))))))))))))))

none : GoodMembers 1 []
none = record { differ = λ i j d ij jl. absurd (omega arith); all = tt }

stands_at : (tree : Json) → StandsWithin 2 tree → GoodAt 2 tree
stands_at tree s = record { levels = s.good.levels; within = s.shallow }

abbrev kind : Member
kind = member type_name (trees.Text several_word)

abbrev features : List Json → Member
features items = member features_name (trees.List items)

other_name : has_name (kind ∷ []) features_name ≡ false
unfolding type_name features_name
other_name = ap (λ (x : Member-F Json Member). pointwise nat_eq x.name features_name || false) (out-roll-Member (record { name = type_name; value = trees.Text several_word }))

pub wrapped_good : (items : List Json) → AllByRecursion (StandsWithin 2) items → Good (collection_tree items)
wrapped_good items all =
    let list = good_list 1 items (each_map (StandsWithin 2) (GoodAt 2) stands_at items all) (omega arith) in
    let first = members_push 1 [] type_name (trees.Text several_word) none refl type_utf8 (good_text several_word several_utf8 1 (omega arith)) in
    let both = members_push 1 (kind ∷ []) features_name (trees.List items) first other_name features_utf8 list in
    let whole : GoodAt 0 (collection_tree items) = good_object 0 (kind ∷ member features_name (trees.List items) ∷ []) both (omega arith) in
    record { levels = whole.levels; shallow = omega (arith, whole.within) }

-- ---- what it brings

opened : (items : List Json) → out-Json (collection_tree items) ≡ layer.Object (kind ∷ features items ∷ [])
opened items = ap out-Json (sym (trees.rolls-Object (kind ∷ features items ∷ []))) ∙ out-roll-Json (layer.Object (kind ∷ features items ∷ []))

kind_out : out-Member kind ≡ record { name = type_name; value = trees.Text several_word }
kind_out = out-roll-Member (record { name = type_name; value = trees.Text several_word })

features_out : (items : List Json) → out-Member (features items) ≡ record { name = features_name; value = trees.List items }
features_out items = out-roll-Member (record { name = features_name; value = trees.List items })

abbrev one_of : Member-F Json Member → List ℕ → Option Json → Option Json
one_of m name rest = cond (pointwise nat_eq m.name name) (Some m.value) rest

kind_there : (items : List Json) → member_value (collection_tree items) type_name ≡ Some (trees.Text several_word)
unfolding type_name
kind_there items =
    ap (λ (f : Json-F Json Member). value_in (members_of f) type_name) (opened items)
    ∙ ap (λ (m : Member-F Json Member). one_of m type_name (value_in (features items ∷ []) type_name)) kind_out

features_there : (items : List Json) → member_value (collection_tree items) features_name ≡ Some (trees.List items)
unfolding type_name features_name
features_there items =
    ap (λ (f : Json-F Json Member). value_in (members_of f) features_name) (opened items)
    ∙ ap (λ (m : Member-F Json Member). one_of m features_name (value_in (features items ∷ []) features_name)) kind_out
    ∙ ap (λ (m : Member-F Json Member). one_of m features_name None) (features_out items)

word_there : text_of (trees.Text several_word) ≡ Some several_word
unfolding text_of
word_there = ap text_in (ap out-Json (sym (trees.rolls-Text several_word)) ∙ out-roll-Json (layer.Text several_word))

list_there : (items : List Json) → list_of (trees.List items) ≡ Some items
unfolding list_of
list_there items = ap list_in (ap out-Json (sym (trees.rolls-List items)) ∙ out-roll-Json (layer.List items))

type_there : (items : List Json) → text_member (collection_tree items) type_name ≡ Some several_word
unfolding text_member
type_there items = ap (option_and_then text_of) (kind_there items) ∙ word_there

own_word : is_word several_word (Some several_word) ≡ true
own_word = (bytes_decides several_word several_word).1 refl

found : (items : List Json) → features_of (collection_tree items) ≡ Some items
unfolding features_of
found items =
    ap (λ (o : Option (List ℕ)). if is_word several_word o then option_and_then list_of (member_value (collection_tree items) features_name) else None) (type_there items)
    ∙ ap (λ (b : Bool). if b then option_and_then list_of (member_value (collection_tree items) features_name) else None) own_word
    ∙ ap (option_and_then list_of) (features_there items) ∙ list_there items

pub wrapped_trees : (items : List Json) → trees_of (collection_tree items) ≡ items
wrapped_trees items = ap (λ (o : Option (List Json)). features_or o (collection_tree items)) (found items)

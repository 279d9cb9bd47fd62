-- The place that a page gives as the next fits the query's sort.
use Rattle.std.proofs.Common.{◌≡◌, ◌-◌, Option, Some, None, List, [], ◌∷◌, filter, take, length, false, refl, sym, subst}
use Rattle.std.specs.List.{All}
use Rattle.std.proofs.lemmas.List.Elements.{All-filter, All-take, recursion_from_All}
use Rattle.std.proofs.lemmas.List.Sorted.{All-permutation}
use Rattle.sqlite_keyed.proofs.ListLemmas.{all-slice_get}
use Rattle.sc_json.specs.declared.tree.Json.{Json}
use Rattle.sc_json.specs.declared.tree.Json.TheOpen as layer
use Rattle.sc_json.specs.declared.tree.Json.TheOpen.{Json-F}
use Rattle.sc_json.specs.declared.tree.Json.TheViews.{out-Json}
use Rattle.sc_json.specs.declared.tree.Member.{Member as NamedTree}
use Rattle.sc_item.specs.Feature.{Feature}
use Rattle.sc_sort.specs.declared.key.Key.{Key}
use Rattle.sc_sort.specs.Keys.{Keys, AreKept}
use Rattle.sc_sort.specs.Named.{Named, Id, Collection, Geometry, Time, Member, named, is_time}
use Rattle.sc_token.specs.Fits.{FitsSort, is_moment}
use Rattle.sc_token.specs.Steps.{AreOfKinds, AreInForm}
use Rattle.sc_token.proofs.Found.{fits_from}
use Rattle.sc_expr.specs.Query.{Asked}
use Rattle.sc_eval.specs.Property.{property_value, value_named, value_of_geometry, value_of_member, value_of_tree}
use Rattle.sc_page.specs.ItemKey.{sort_value, values_of}
use Rattle.sc_page.specs.Search.{is_asked, IsPage}
use Rattle.sc_page.proofs.Fronts.{all_short}
use Rattle.sc_chain.specs.Next.{HasShortName}
use Rattle.sc_chain.proofs.Following.{ends_at}

no_moment : (l : Json-F Json NamedTree) → is_moment (sort_value (value_of_tree l)) ≡ false
no_moment layer.Null = refl
no_moment (layer.Truth b) = refl
no_moment (layer.Number n) = refl
no_moment (layer.Text t) = refl
no_moment (layer.List elements) = refl
no_moment (layer.Object members) = refl

no_moment_member : (o : Option Json) → is_moment (sort_value (value_of_member o)) ≡ false
no_moment_member None = refl
no_moment_member (Some tree) = no_moment (out-Json tree)

-- the time of an item is a moment, and nothing else of it is
kind_named : (n : Named) (item : Feature) → is_moment (sort_value (value_named n item)) ≡ is_time n
kind_named Id item = refl
kind_named Collection item = refl
kind_named Geometry item = go item.geom
  where
    go : (g : _) → is_moment (sort_value (value_of_geometry g)) ≡ false
    go None = refl
    go (Some g) = refl
kind_named Time item = refl
kind_named (Member name) item = no_moment_member _

kinds : (sort : List Key) (item : Feature) → AreOfKinds sort (values_of sort item)
unfolding property_value
kinds [] item = tt
kinds (key ∷ keys) item = (kind_named (named key.name) item, kinds keys item)

pub place_fits : (asked : Asked) (items page : List Feature) (place : Keys) → IsPage asked items page (Some place) → All HasShortName items → AreKept place → FitsSort asked.sort place
place_fits asked items page place p short kept =
    let z = ends_at asked items page place p.next_is in
    let listed = p.flat.listed in
    let all : All HasShortName (take asked.limit listed) =
    All-take HasShortName asked.limit listed (All-permutation HasShortName (filter (is_asked asked) items) listed p.flat.is_listing.same (All-filter (is_asked asked) HasShortName items short)) in
    let name : HasShortName z.item = all-slice_get HasShortName page (length page - 1) z.item z.is_last (recursion_from_All HasShortName page (subst (All HasShortName) (sym p.flat.cut) all)) in
    fits_from asked.sort place
    (subst (AreInForm asked.sort) (sym z.its_key) (record { values = kinds asked.sort z.item; short = all_short asked.sort z.item; collection = name.collection; id = name.id })) kept

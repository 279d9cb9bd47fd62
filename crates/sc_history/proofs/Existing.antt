-- Each content has a list of the names of its parts.
use Rattle.std.proofs.Common.{◌≡◌, ◌↔◌, ◌⊎◌, inl, inr, Bool, true, false, cond, List, [], ◌∷◌, filter, Ordering, Less, Equal, Greater, refl, sym, ◌∙◌, subst, Contains}
use Rattle.std.specs.List.{AllByRecursion}
use Rattle.std.proofs.lemmas.List.Elements.{recursion_from_All}
use Rattle.sqlite_trees.specs.Tree.{IsAscending}
use Rattle.sqlite_keyed.proofs.ListLemmas.{all_both, all_weaker}
use Rattle.sc_item.specs.Feature.{Feature}
use Rattle.sc_cut.specs.declared.name.PartName.{PartName}
use Rattle.sc_load.specs.Load.{IsItemOf}
use Rattle.sc_history.specs.Content.{Content, IsContent, is_made}
use Rattle.sc_history.specs.Names.{ArePartsOf, belongs, is_empty, name_order}
use Rattle.sc_history.proofs.Texts.{never}
use Rattle.sc_history.proofs.Lists.{pairs_from_ascending}
use Rattle.sc_history.proofs.Names.{name_tie, name_total, name_turned}
use Rattle.sc_history.proofs.Counting.{Rises, above_head, contains_cases, contains_head, contains_tail, nothing_in}
use Rattle.sc_history.proofs.Belonging.{all_contained, one_part, part_there}

-- ---- a name among names that rise

-- the names with one more
record HasMore (name : PartName) (names more : List PartName) : Type 0 where
  pub up : IsAscending Rises more
  pub has : (other : PartName) → Contains more other ↔ ((name ≡ other) ⊎ Contains names other)

first_or_later : (name : PartName) (names : List PartName) (other : PartName) → Contains (name ∷ names) other ↔ ((name ≡ other) ⊎ Contains names other)
first_or_later name names other = (λ there. contains_cases name other names there (λ e. inl e) (λ later. inr later), back)
  where
    back : (name ≡ other) ⊎ Contains names other → Contains (name ∷ names) other
    back (inl e) = subst (Contains (name ∷ names)) e (contains_head name names)
    back (inr later) = contains_tail name other names later

-- the name stands behind the first one
behind_first : (name first : PartName) (names more : List PartName) → Rises first name → AllByRecursion (Rises first) names → HasMore name names more → HasMore name (first ∷ names) (first ∷ more)
behind_first name first names more rise above is = record {
  up = (all_weaker (Contains more) (Rises first) (λ other there. later other ((is.has other).0 there)) more (all_contained more), is.up);
  has = λ other. (λ there. contains_cases first other more there (λ e. inr ((first_or_later first names other).1 (inl e))) (λ l. across other ((is.has other).0 l)), λ either. back other either);
}
  where
    later : (other : PartName) → (name ≡ other) ⊎ Contains names other → Rises first other
    later other (inl e) = subst (Rises first) e rise
    later other (inr there) = above_head first other names above there

    across : (other : PartName) → (name ≡ other) ⊎ Contains names other → (name ≡ other) ⊎ Contains (first ∷ names) other
    across other (inl e) = inl e
    across other (inr there) = inr (contains_tail first other names there)

    back : (other : PartName) → (name ≡ other) ⊎ Contains (first ∷ names) other → Contains (first ∷ more) other
    back other (inl e) = contains_tail first other more ((is.has other).1 (inl e))
    back other (inr there) = contains_cases first other names there (λ e. (first_or_later first more other).1 (inl e)) (λ l. contains_tail first other more ((is.has other).1 (inr l)))

with_name : (name : PartName) (names : List PartName) → IsAscending Rises names → (more : List PartName) × HasMore name names more
with_name name [] up = (name ∷ [], record { up = (tt, tt); has = first_or_later name [] })
with_name name (first ∷ names) up = go (name_order name first) refl (with_name name names up.1)
  where
    go : (o : Ordering) → name_order name first ≡ o → ((more : List PartName) × HasMore name names more) → (more : List PartName) × HasMore name (first ∷ names) more
    go Less e rest = (name ∷ first ∷ names, record { up = ((e, all_weaker (Rises first) (Rises name) (λ other h. name_total.trans name first other e h) names up.0), up); has = first_or_later name (first ∷ names) })
    go Equal e rest = (first ∷ names, record { up = up; has = λ other. (λ there. inr there, λ either. back other either) })
      where
        back : (other : PartName) → (name ≡ other) ⊎ Contains (first ∷ names) other → Contains (first ∷ names) other
        back other (inl same) = (first_or_later first names other).1 (inl (sym (name_tie name first e) ∙ same))
        back other (inr there) = there
    go Greater e rest = (first ∷ rest.0, behind_first name first names rest.0 (name_turned name first e) up.0 rest.1)

-- ---- the names of some items

abbrev IsHoused : Content → Feature → Type 0
IsHoused content item = (is_made content.collections item.collection ≡ true) × IsItemOf item.collection item

-- these are the names to which the items belong
record AreNamesOf (content : Content) (items : List Feature) (names : List PartName) : Type 0 where
  pub up : IsAscending Rises names
  pub has : (name : PartName) → Contains names name ↔ (is_empty (filter (belongs content.collections name) items) ≡ false)

names_of : (content : Content) (items : List Feature) → IsContent content → AllByRecursion (IsHoused content) items → (names : List PartName) × AreNamesOf content items names
names_of content [] is all = ([], record { up = tt; has = λ name. (λ there. nothing_in name there, λ some. never true refl some) })
names_of content (x ∷ items) is all =
    let part = part_there content x all.0.0 all.0.1 in
    let rest = names_of content items is all.1 in
    let more = with_name part.0 rest.0 rest.1.up in
    (more.0, record { up = more.1.up; has = λ name. go part.0 part.1 rest.0 rest.1 more.0 more.1 name (belongs content.collections name x) refl })
  where
    go : (own : PartName) → belongs content.collections own x ≡ true → (names : List PartName) → AreNamesOf content items names → (more : List PartName) → HasMore own names more
        → (name : PartName) (b : Bool) → belongs content.collections name x ≡ b
        → Contains more name ↔ (is_empty (cond b (x ∷ filter (belongs content.collections name) items) (filter (belongs content.collections name) items)) ≡ false)
    go own has names are more is' name true e = (λ there. refl, λ some. (is'.has name).1 (inl (one_part content own name x is all.0.1 has e)))
    go own has names are more is' name false e = (λ there. from ((is'.has name).0 there), λ some. (is'.has name).1 (inr ((are.has name).1 some)))
      where
        from : (own ≡ name) ⊎ Contains names name → is_empty (filter (belongs content.collections name) items) ≡ false
        from (inl same) = never (belongs content.collections name x) (subst (λ n. belongs content.collections n x ≡ true) same has) e
        from (inr there) = (are.has name).0 there

pub parts_of : (content : Content) → IsContent content → (names : List PartName) × ArePartsOf content names
parts_of content is =
    let housed = recursion_from_All (λ item. is_made content.collections item.collection ≡ true) content.items is.housed in
    let read = recursion_from_All (λ item. IsItemOf item.collection item) content.items is.read in
    let all = all_both (λ item. is_made content.collections item.collection ≡ true) (λ item. IsItemOf item.collection item) (IsHoused content) (λ item h r. (h, r)) content.items housed read in
    let names = names_of content content.items is all in
    (names.0, record { rise = pairs_from_ascending Rises names.0 names.1.up; all = names.1.has })

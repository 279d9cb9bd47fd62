-- One item that comes into no parts.
use Rattle.std.proofs.Common.{◌≡◌, [], ◌∷◌, ◌++◌, subst, sym, ap, arith}
use Rattle.std.specs.List.{All}
use Rattle.std.proofs.lemmas.List.Elements.{All-cons, All-nil}
use Rattle.sc_item.specs.Feature.{Feature}
use Rattle.sc_item.specs.Names.{AreApart}
use Rattle.sc_history.specs.Names.{Fits}
use Rattle.sc_history.specs.Part.{lookup}
use Rattle.sc_shelf.specs.declared.change.PartChange.{PartChange}
use Rattle.sc_shelf.specs.Changed.{AreChangesOf, IsChangeOf, come_by}

alone : (item : Feature) → AreApart (item ∷ [])
alone item i j d l m = absurd (omega (arith, l, m))

abbrev Can : PartChange → Type 0
Can c = IsChangeOf (lookup c.name []) c

pub only_change : (change : PartChange) (item : Feature) → come_by change ≡ item ∷ [] → Fits change.name item → AreChangesOf [] (change ∷ [])
only_change change item come fits = record {
  rise = λ i j d l m. absurd (omega (arith, l, m));
  each = All-cons Can change [] (record {
    fits = subst (All (Fits change.name)) (sym come) (All-cons (Fits change.name) item [] fits (All-nil (Fits change.name)));
    apart = subst AreApart (sym (ap (λ l. l ++ []) come)) (alone item);
  }) (All-nil Can);
}

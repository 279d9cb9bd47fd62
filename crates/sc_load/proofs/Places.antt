-- Trees that are items have no bad one among them, and the first bad one has one place.
use Rattle.std.proofs.Common.{◌≡◌, ℕ, ◌+◌, suc, List, [], ◌∷◌, ◌++◌, length, refl, ap, sym, subst, ◌∙◌, arith}
use Rattle.sc_json.specs.declared.tree.Json.{Json}
use Rattle.sc_item.specs.declared.fault.ItemFault.{ItemFault}
use Rattle.sc_item.specs.Feature.{Feature}
use Rattle.sc_item.specs.Reading.{IsItem}
use Rattle.sc_item.proofs.Lines.{one_reading}
use Rattle.sc_item.proofs.Excluding.{no_fault}
use Rattle.sc_load.specs.declared.fault.PrepareFault.{PrepareFault}
use Rattle.sc_load.specs.declared.fault.PrepareFault.TheVariants.{BadItem, TooManyItems, BadCollection, OutOfMemory}
use Rattle.sc_load.specs.Items.{AreItems, AreRead, IsBad, IsFirstBad}
use Rattle.sc_load.specs.Prepared.{IsItemsFault}

no_bad : (collection : List ℕ) (tree : Json) (fault : ItemFault) (item : Feature) → IsBad collection tree fault → IsItem collection tree item → ⊥
no_bad collection tree fault item b i = no_fault collection tree fault b.told b.fault_is item i

-- the item that stands at a place
item_at : (collection : List ℕ) (before : List Json) (tree : Json) (after : List Json) (items : List Feature) → AreItems collection (before ++ tree ∷ after) items → (item : Feature) × IsItem collection tree item
item_at collection [] tree after [] each = absurd each
item_at collection [] tree after (i ∷ items) each = (i, each.0)
item_at collection (t ∷ before) tree after [] each = absurd each
item_at collection (t ∷ before) tree after (i ∷ items) each = item_at collection before tree after items each.1

pub no_first_bad : (collection : List ℕ) (trees : List Json) (items : List Feature) (place : ℕ) (fault : ItemFault) → AreRead collection trees items → IsFirstBad collection trees place fault → ⊥
no_first_bad collection trees items place fault read b =
    let at = item_at collection b.before b.tree b.after items (subst (λ (ts : List Json). AreItems collection ts items) b.split read.each) in
    no_bad collection b.tree fault at.0 b.bad at.1

pub only_memory : (collection : List ℕ) (trees : List Json) (items : List Feature) (fault : PrepareFault) → AreRead collection trees items → IsItemsFault collection trees fault → fault ≡ OutOfMemory
only_memory collection trees items (BadItem place fault) read f = absurd (no_first_bad collection trees items place fault read f)
only_memory collection trees items (TooManyItems count) read f = let few = read.few in let many = f.0 in absurd (omega (arith, few, many))
only_memory collection trees items BadCollection read f = absurd f
only_memory collection trees items OutOfMemory read f = refl

one_length : (collection : List ℕ) (b c : List Json) (t u : Json) (after later : List Json) (items others : List Feature) (f g : ItemFault) →
    b ++ t ∷ after ≡ c ++ u ∷ later → AreItems collection b items → AreItems collection c others → IsBad collection t f → IsBad collection u g → length b ≡ length c
one_length collection [] [] t u after later items others f g e p q x y = refl
one_length collection [] (v ∷ c) t u after later items [] f g e p q x y = absurd q
one_length collection [] (v ∷ c) t u after later items (i ∷ others) f g e p q x y =
    let same : v ≡ t = cc in
    absurd (no_bad collection t f i x (subst (λ (w : Json). IsItem collection w i) same q.0))
one_length collection (w ∷ b) [] t u after later [] others f g e p q x y = absurd p
one_length collection (w ∷ b) [] t u after later (i ∷ items) others f g e p q x y =
    let same : w ≡ u = cc in
    absurd (no_bad collection u g i y (subst (λ (v : Json). IsItem collection v i) same p.0))
one_length collection (w ∷ b) (v ∷ c) t u after later [] others f g e p q x y = absurd p
one_length collection (w ∷ b) (v ∷ c) t u after later (i ∷ items) [] f g e p q x y = absurd q
one_length collection (w ∷ b) (v ∷ c) t u after later (i ∷ items) (j ∷ others) f g e p q x y =
    let rest : b ++ t ∷ after ≡ c ++ u ∷ later = cc in
    ap (λ n. suc n) (one_length collection b c t u after later items others f g rest p.1 q.1 x y)

pub one_place : (collection : List ℕ) (trees : List Json) (n m : ℕ) (f g : ItemFault) → IsFirstBad collection trees n f → IsFirstBad collection trees m g → n ≡ m
one_place collection trees n m f g p q =
    p.place_is ∙ one_length collection p.before q.before p.tree q.tree p.after q.after p.items q.items f g (sym p.split ∙ q.split) p.good q.good p.bad q.bad ∙ sym q.place_is

one_each : (collection : List ℕ) (trees : List Json) (a b : List Feature) → AreItems collection trees a → AreItems collection trees b → a ≡ b
one_each collection [] [] [] p q = refl
one_each collection [] [] (j ∷ b) p q = absurd q
one_each collection [] (i ∷ a) b p q = absurd p
one_each collection (t ∷ trees) [] b p q = absurd p
one_each collection (t ∷ trees) (i ∷ a) [] p q = absurd q
one_each collection (t ∷ trees) (i ∷ a) (j ∷ b) p q =
    let here = one_reading collection t i j p.0 q.0 in
    let rest = one_each collection trees a b p.1 q.1 in
    λ k. here k ∷ rest k

pub one_list : (collection : List ℕ) (trees : List Json) (a b : List Feature) → AreRead collection trees a → AreRead collection trees b → a ≡ b
one_list collection trees a b p q = one_each collection trees a b p.each q.each

-- Trees and items that are told by their compact texts.
use Rattle.std.proofs.Common.{◌≡◌, ◌≢◌, ℕ, ◌+◌, ◌<◌, length, arith, take-append-drop, false, List, [], ◌∷◌, ◌++◌, map, take, drop, get_or, refl, sym, ◌∙◌, ap, subst}
use Rattle.std.specs.Prelude.{All, Err}
use Rattle.std.specs.Arc.{arc_value}
use Rattle.std.proofs.lemmas.List.{map-append, take_more, at_drop_more}
use Rattle.std.proofs.lemmas.List.Elements.{All-nil, All-head, All-tail, All-push}
use Rattle.sc_json.specs.declared.tree.Json.{Json}
use Rattle.sc_json.specs.declared.fault.JsonFault.{JsonFault}
use Rattle.sc_json.specs.declared.fault.JsonFault.TheVariants as texts
use Rattle.sc_json.specs.Compact.{compact}
use Rattle.sc_json.specs.Faults as faults
use Rattle.sc_json.specs.Spells.{Spells}
use Rattle.sc_json.proofs.Answered.{fault_excludes}
use Rattle.sc_json.proofs.Spelled.{spelled_once}
use Rattle.sc_json.proofs.Written.{written_spells}
use Rattle.sc_item.specs.declared.fault.ItemFault.{ItemFault}
use Rattle.sc_item.specs.declared.fault.ItemFault.TheVariants as items
use Rattle.sc_item.specs.Feature.{Feature, IsKept}
use Rattle.sc_item.specs.Memory.{is_memory}
use Rattle.sc_item.specs.Reading.{IsItem, IsFault}
use Rattle.sc_item.proofs.Excluding.{no_fault}
use Rattle.sc_cut.specs.declared.cut.Cut.{Cut}
use Rattle.sc_load.specs.declared.fault.PrepareFault.{PrepareFault}
use Rattle.sc_load.specs.declared.fault.PrepareFault.TheVariants as prepare
use Rattle.sc_load.specs.declared.load.Load.TheVariants.{AddCollection, DropCollection, Insert, Upsert, Replace, Patch, Delete}
use Rattle.sc_load.specs.Collection.{IsCollection}
use Rattle.sc_load.specs.Load.{AreItemsOf, IsItemOf}
use Rattle.sc_load.specs.Prepared.{IsCollectionFault}
use Rattle.sc_load.proofs.Again.{reads_again}
use Rattle.sc_kept.specs.Record.{AreDocumentsOf, IsDocumentOf, IsNotTold, IsTextOf, document}

-- ---- trees

text_spells : (text : List ℕ) (tree : Json) → IsTextOf text tree → Spells text tree
text_spells text tree t = subst (λ (l : List ℕ). Spells l tree) (sym t.is) (written_spells tree t.good)

pub one_text : (text : List ℕ) (tree other : Json) → Spells text tree → IsTextOf text other → other ≡ tree
one_text text tree other s t = spelled_once text other tree (text_spells text other t).text s.text

pub other_text : (text : List ℕ) (tree : Json) → Spells text tree → (compact tree ≡ text → ⊥) → (other : Json) → IsTextOf text other → ⊥
other_text text tree s differs other t = differs (sym (t.is ∙ ap compact (one_text text tree other s t)))

pub no_tree : (text : List ℕ) (fault : JsonFault) → fault ≢ texts.OutOfMemory → faults.Answers text (Err fault) → (tree : Json) → IsTextOf text tree → ⊥
no_tree text (texts.Syntax at) not answers tree t = fault_excludes text (texts.Syntax at) tree answers (text_spells text tree t)
no_tree text (texts.Duplicate at) not answers tree t = fault_excludes text (texts.Duplicate at) tree answers (text_spells text tree t)
no_tree text (texts.TooDeep at) not answers tree t = fault_excludes text (texts.TooDeep at) tree answers (text_spells text tree t)
no_tree text (texts.NumberTooWide at) not answers tree t = fault_excludes text (texts.NumberTooWide at) tree answers (text_spells text tree t)
no_tree text (texts.NotUtf8 at) not answers tree t = fault_excludes text (texts.NotUtf8 at) tree answers (text_spells text tree t)
no_tree text texts.OutOfMemory not answers tree t = absurd (not refl)

-- ---- one item

document_text : (collection text : List ℕ) (item : Feature) → IsDocumentOf collection text item → IsTextOf text item.tree
document_text collection text item d = record { good = d.kept.good; is = d.is ∙ d.kept.doc }

own_tree : (collection text : List ℕ) (tree : Json) (item : Feature) → IsTextOf text tree → IsDocumentOf collection text item → IsItem collection tree item
own_tree collection text tree item t d = subst (λ (v : Json). IsItem collection v item) (one_text text tree item.tree (text_spells text tree t) (document_text collection text item d)) d.of

pub no_document : (collection text : List ℕ) → ((tree : Json) → IsTextOf text tree → ⊥) → (item : Feature) → IsDocumentOf collection text item → ⊥
no_document collection text none item d = none item.tree (document_text collection text item d)

pub other_document : (collection text : List ℕ) (tree : Json) (read : Feature) → IsTextOf text tree → IsItem collection tree read → (read.doc ≡ text → ⊥) → (item : Feature) → IsDocumentOf collection text item → ⊥
other_document collection text tree read t is differs item d =
    let i = own_tree collection text tree item t d in
    differs (is.doc_is ∙ ap compact (is.tree_is ∙ sym i.tree_is) ∙ sym i.doc_is ∙ sym d.is)

pub is_document : (collection text : List ℕ) (tree : Json) (read : Feature) → IsItem collection tree read → read.doc ≡ text → IsKept read → IsDocumentOf collection text read
is_document collection text tree read is doc kept = record { is = sym doc; of = reads_again collection tree read is; kept = kept }

not_memory : (fault : ItemFault) → fault ≢ items.OutOfMemory → is_memory fault ≡ false
not_memory items.NotAFeature not = refl
not_memory items.BadId not = refl
not_memory items.WrongCollection not = refl
not_memory items.BadTime not = refl
not_memory (items.BadGeometry f) not = refl
not_memory items.OutOfMemory not = absurd (not refl)

pub faulty_document : (collection text : List ℕ) (tree : Json) (fault : ItemFault) → IsTextOf text tree → IsFault collection tree fault → fault ≢ items.OutOfMemory → (item : Feature) → IsDocumentOf collection text item → ⊥
faulty_document collection text tree fault t is not item d = no_fault collection tree fault (not_memory fault not) is item (own_tree collection text tree item t d)

-- ---- many items

pub documents_none : (collection : List ℕ) → AreDocumentsOf collection [] []
documents_none collection = record { are = refl; of = All-nil (IsItemOf collection); kept = All-nil IsKept }

pub documents_more : (collection text : List ℕ) (texts : List (List ℕ)) (items : List Feature) (item : Feature) → AreDocumentsOf collection texts items → IsDocumentOf collection text item → AreDocumentsOf collection (texts ++ text ∷ []) (items ++ item ∷ [])
documents_more collection text texts items item so d = record {
  are = (λ i. so.are i ++ d.is i ∷ []) ∙ sym (map-append document items (item ∷ []));
  of = All-push (IsItemOf collection) items item so.of d.of;
  kept = All-push IsKept items item so.kept d.kept;
}

document_at : (collection text : List ℕ) (before after : List (List ℕ)) (items : List Feature) → before ++ text ∷ after ≡ map document items → All (IsItemOf collection) items → All IsKept items → (item : Feature) × IsDocumentOf collection text item
document_at collection text [] after [] same of kept = absurd cc
document_at collection text [] after (i ∷ items) same of kept = (i, record { is = ap (λ (l : List (List ℕ)). get_or l 0 text) same; of = All-head (IsItemOf collection) i items of; kept = All-head IsKept i items kept })
document_at collection text (b ∷ before) after [] same of kept = absurd cc
document_at collection text (b ∷ before) after (i ∷ items) same of kept =
    let rest : before ++ text ∷ after ≡ map document items = ap (λ (l : List (List ℕ)). drop 1 l) same in
    document_at collection text before after items rest (All-tail (IsItemOf collection) i items of) (All-tail IsKept i items kept)

pub no_documents : (collection text : List ℕ) (texts before after : List (List ℕ)) → texts ≡ before ++ text ∷ after → ((item : Feature) → IsDocumentOf collection text item → ⊥) → (items : List Feature) → AreDocumentsOf collection texts items → ⊥
no_documents collection text texts before after split none items are =
    let at = document_at collection text before after items (sym split ∙ are.are) are.of are.kept in
    none at.0 at.1

-- ---- slices

module _ {A : Type 0} (f : A → Feature) (xs : List A) (i : ℕ) (x : A) (lt : i < length xs) (is : x ≡ get_or xs i x) where
  pub mapped_push : map f (take (i + 1) xs) ≡ map f (take i xs) ++ f x ∷ []
  mapped_push = ap (map f) (take_more xs i x lt ∙ ap (λ (y : A). take i xs ++ y ∷ []) (sym is)) ∙ map-append f (take i xs) (x ∷ [])

  pub documents_push : (text : List ℕ) → text ≡ (f x).doc → map document (map f (take (i + 1) xs)) ≡ map document (map f (take i xs)) ++ text ∷ []
  documents_push text own =
      ap (map document) mapped_push ∙ map-append document (map f (take i xs)) (f x ∷ [])
      ∙ ap (λ (t : List ℕ). map document (map f (take i xs)) ++ t ∷ []) (sym own)

  pub kept_push : All IsKept (map f (take i xs)) → IsKept (f x) → All IsKept (map f (take (i + 1) xs))
  kept_push all own = subst (All IsKept) (sym mapped_push) (All-push IsKept (map f (take i xs)) (f x) all own)

pub texts_split : (texts : List (List ℕ)) (i : ℕ) (text : List ℕ) → i < length texts → text ≡ get_or texts i text → texts ≡ take i texts ++ text ∷ drop (i + 1) texts
texts_split texts i text lt is =
    sym (take-append-drop i texts) ∙ ap (λ (l : List (List ℕ)). take i texts ++ l) (at_drop_more (λ (l : List (List ℕ)). l) texts i text lt)
    ∙ ap (λ (t : List ℕ). take i texts ++ t ∷ drop (i + 1) texts) (sym is)

pub texts_push : (texts : List (List ℕ)) (i : ℕ) (text : List ℕ) → i < length texts → text ≡ get_or texts i text → take (i + 1) texts ≡ take i texts ++ text ∷ []
texts_push texts i text lt is = take_more texts i text lt ∙ ap (λ (t : List ℕ). take i texts ++ t ∷ []) (sym is)

-- ---- loads

first_is : (fields later : List (List ℕ)) (first text : List ℕ) → fields ≡ first ∷ later → text ≡ get_or fields 0 text → text ≡ first
first_is fields later first text is read = read ∙ ap (λ (l : List (List ℕ)). get_or l 0 text) is

pub not_added : (fields : List (List ℕ)) (text : List ℕ) (tree : Json) (fault : PrepareFault) → text ≡ get_or fields 0 text → IsTextOf text tree → IsCollectionFault tree fault → fault ≢ prepare.OutOfMemory → IsNotTold 1 fields
not_added fields text tree fault read t bad not (AddCollection id cut own) told =
    let other : IsTextOf text own = record { good = told.formed.good; is = first_is fields [] (compact own) text told.fields_are read } in
    let same : own ≡ tree = one_text text tree own (text_spells text tree t) other in
    no_collection fault bad not id cut (subst (λ (v : Json). IsCollection v id cut) same told.formed.collection_is)
  where
    no_collection : (f : PrepareFault) → IsCollectionFault tree f → f ≢ prepare.OutOfMemory → (i : List ℕ) (c : Cut) → IsCollection tree i c → ⊥
    no_collection (prepare.BadItem n f) b m i c is = absurd b
    no_collection (prepare.TooManyItems n) b m i c is = absurd b
    no_collection prepare.BadCollection b m i c is = b i c is
    no_collection prepare.OutOfMemory b m i c is = absurd (m refl)
not_added fields text tree fault read t bad not (DropCollection id) told = absurd (omega (arith, told.kind_is))
not_added fields text tree fault read t bad not (Insert collection items) told = absurd (omega (arith, told.kind_is))
not_added fields text tree fault read t bad not (Upsert collection items) told = absurd (omega (arith, told.kind_is))
not_added fields text tree fault read t bad not (Replace collection item) told = absurd (omega (arith, told.kind_is))
not_added fields text tree fault read t bad not (Patch collection id patch) told = absurd (omega (arith, told.kind_is))
not_added fields text tree fault read t bad not (Delete collection id) told = absurd (omega (arith, told.kind_is))

own_documents : (fields : List (List ℕ)) (first collection : List ℕ) (items : List Feature) → first ≡ get_or fields 0 first → fields ≡ collection ∷ map document items → AreItemsOf collection items → All IsKept items → AreDocumentsOf first (drop 1 fields) items
own_documents fields first collection items read is formed kept = record {
  are = ap (λ (l : List (List ℕ)). drop 1 l) is;
  of = subst (λ (c : List ℕ). All (IsItemOf c) items) (sym (first_is fields (map document items) collection first is read)) formed.each;
  kept = kept;
}

pub not_inserted : (fields : List (List ℕ)) (first : List ℕ) → first ≡ get_or fields 0 first → ((items : List Feature) → AreDocumentsOf first (drop 1 fields) items → ⊥) → IsNotTold 3 fields
not_inserted fields first read none (AddCollection id cut own) told = absurd (omega (arith, told.kind_is))
not_inserted fields first read none (DropCollection id) told = absurd (omega (arith, told.kind_is))
not_inserted fields first read none (Insert collection items) told = none (map arc_value items) (own_documents fields first collection (map arc_value items) read told.fields_are told.formed told.items)
not_inserted fields first read none (Upsert collection items) told = absurd (omega (arith, told.kind_is))
not_inserted fields first read none (Replace collection item) told = absurd (omega (arith, told.kind_is))
not_inserted fields first read none (Patch collection id patch) told = absurd (omega (arith, told.kind_is))
not_inserted fields first read none (Delete collection id) told = absurd (omega (arith, told.kind_is))

pub not_upserted : (fields : List (List ℕ)) (first : List ℕ) → first ≡ get_or fields 0 first → ((items : List Feature) → AreDocumentsOf first (drop 1 fields) items → ⊥) → IsNotTold 4 fields
not_upserted fields first read none (AddCollection id cut own) told = absurd (omega (arith, told.kind_is))
not_upserted fields first read none (DropCollection id) told = absurd (omega (arith, told.kind_is))
not_upserted fields first read none (Insert collection items) told = absurd (omega (arith, told.kind_is))
not_upserted fields first read none (Upsert collection items) told = none (map arc_value items) (own_documents fields first collection (map arc_value items) read told.fields_are told.formed told.items)
not_upserted fields first read none (Replace collection item) told = absurd (omega (arith, told.kind_is))
not_upserted fields first read none (Patch collection id patch) told = absurd (omega (arith, told.kind_is))
not_upserted fields first read none (Delete collection id) told = absurd (omega (arith, told.kind_is))

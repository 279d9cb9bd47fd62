use Rattle.std.proofs.Common.{◌+◌, List, ℕ, ◌∷◌, [], ◌++◌, map, take, drop, sym, subst}
use Rattle.std.specs.Arc.{arc_value}
use Rattle.sc_item.specs.Feature.{Feature}
use Rattle.sc_load.proofs.Reading.{pushed}
use Rattle.sc_kept.specs.Record.{AreDocumentsOf}
use Rattle.sc_kept.proofs.Telling.{documents_more, documents_none, no_documents, texts_push, texts_split}
use Rattle.sc_kept.proofs.documents.read_documents.Goals as goal

pub returns-in_default : goal.returns-in_default
returns-in_default c =
    let none = rw c.in_default.is at c.in_ok-item.ensures in
    let i = c.loop-text.text-index in
    let texts = c.args.texts.now in
    no_documents c.args.collection.now c.text-item.result texts (take i texts) (drop (i + 1) texts) (texts_split texts i c.text-item.result c.loop-text-test.true c.text-item.is) none

pub loop-text-init : goal.loop-text-init
loop-text-init c = rw c.in_ok-items.ensures.items (documents_none c.args.collection.now)

pub loop-text-preserved : goal.loop-text-preserved
loop-text-preserved c =
    let document = rw c.in-Some.is at c.in_ok-item.ensures in
    let i = c.loop-text.text-index in
    let texts = c.args.texts.now in
    let items = map arc_value c.loop-text.items.items in
    let more = documents_more c.args.collection.now c.text-item.result (take i texts) items c.in-Some.item c.loop-text.invariant document in
    subst (λ (l : List (List ℕ)). AreDocumentsOf c.args.collection.now l (map arc_value c.push.new.self.items)) (sym (texts_push texts i c.text-item.result c.loop-text-test.true c.text-item.is))
    (subst (λ (l : List Feature). AreDocumentsOf c.args.collection.now (take i texts ++ c.text-item.result ∷ []) l)
    (sym (pushed arc_value c.loop-text.items.items c.push.new.self.items c.in_ok-new.field-0 c.in-Some.item c.in_ok-push.ensures.items c.in_ok-new.ensures.ok)) more)

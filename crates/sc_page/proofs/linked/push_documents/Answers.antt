use Rattle.std.proofs.Common.{◌∙◌, ap}
use Rattle.sc_page.proofs.Joined.{shared_documents_written}
use Rattle.sc_page.proofs.linked.push_documents.Goals as goal

pub returns : goal.returns
returns c =
    shared_documents_written _ _ _ _ _ _ _ c.in-Some.ensures.cases.0 (c.as_str.ensures ∙ c.doc.ensures.doc ∙ ap (λ i. i.doc) c.deref.ensures) c.in_ok-push_str.ensures.bytes c.in_ok-push_more.ensures

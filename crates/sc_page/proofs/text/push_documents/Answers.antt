use Rattle.std.proofs.Common.{◌∙◌}
use Rattle.sc_page.proofs.Joined.{documents_written}
use Rattle.sc_page.proofs.text.push_documents.Goals as goal

pub returns : goal.returns
returns c =
    documents_written _ _ _ _ _ _ _ c.in-Some.ensures.cases.0 (c.as_str.ensures ∙ c.doc.ensures) c.in_ok-push_str.ensures.bytes c.in_ok-push_more.ensures

use Rattle.std.proofs.Common.{subst, sym, ◌∙◌}
use Rattle.std.specs.Prelude.{IsUtf8}
use Rattle.sc_http.proofs.Names.{token_text, names_at, wider, fields_fit, headers_same, same_head}
use Rattle.sc_http.proofs.head.head_at.Goals as goal

pub text_of-requires : goal.text_of-requires
text_of-requires c = let h = c.requires.parts in subst IsUtf8 (sym (c.of.ensures ∙ h.1.method)) (token_text _ h.1.reads.0.method)

pub headers_at-requires : goal.headers_at-requires
headers_at-requires c = let h = c.requires.parts in names_at _ _ _ h.1.fields (wider _ _ c.requires.within.section.len_fits _ c.requires.within.section.headers_fit) h.1.reads.0.fields

pub returns : goal.returns
returns c = let h = c.requires.parts in (
  h.0,
  _,
  h.1.reads,
  fields_fit _ _ _ _ h.1.fields c.requires.few,
  same_head _ _
      (c.in_ok-method.ensures ∙ c.of.ensures ∙ h.1.method)
      (c.in_ok-target.ensures ∙ c.of-2.ensures ∙ h.1.path)
      (c.in_ok-headers.ensures ∙ headers_same _ _ _ h.1.fields)
      h.1.version
      h.1.len,
)

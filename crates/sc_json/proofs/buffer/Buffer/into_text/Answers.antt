use Rattle.std.proofs.Common.{◌≡◌, true, false, ℕ, Some, Vec, Global, sym, ap, subst, ◌∙◌}
use Rattle.std.proofs.lemmas.Str.{IsUtf8-string_bytes}
use Rattle.std.specs.Str.{IsUtf8}
use Rattle.std.specs.String.{string_bytes}
use Rattle.sc_base.proofs.Texts.{text_of_utf8, text_of_other}
use Rattle.sc_json.proofs.buffer.Buffer.into_text.Goals as goal

pub returns-in-Ok : goal.returns-in-Ok
returns-in-Ok c =
    let same : string_bytes c.in-Ok.text ≡ c.args.self = ap (λ (v : Vec ℕ Global). v.items) c.in-Ok.ensures.ok ∙ c.self.view_is in
    ap Some (c.from_string.ensures ∙ same) ∙ sym (text_of_utf8 c.args.self (subst IsUtf8 same (IsUtf8-string_bytes c.in-Ok.text)))

pub returns : goal.returns
returns c = sym (text_of_other c.args.self (λ u. let wrong : false ≡ true = c.in-Err.ensures.succeeds (subst IsUtf8 (sym c.self.view_is) u) in cc))

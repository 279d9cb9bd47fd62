use Rattle.std.proofs.Common.{ℕ, List, Some, sym, ap, subst, ◌∙◌, Vec, Global}
use Rattle.std.specs.Str.{IsUtf8}
use Rattle.sc_base.proofs.Texts.{text_of_utf8, text_of_other}
use Rattle.sc_base.proofs.text.Text.of_vec.Goals as goal

pub returns-in-Err : goal.returns-in-Err
returns-in-Err c = sym (text_of_other c.args.bytes.items (subst (λ (b : List ℕ). IsUtf8 b → ⊥) c.as_slice.ensures.value c.in-Err.ensures.cases.0))

pub returns-in-Ok : goal.returns-in-Ok
returns-in-Ok c = ap (λ (v : Vec ℕ Global). Some v.items) c.from_utf8_unchecked-inner.ensures.value ∙ sym (text_of_utf8 c.args.bytes.items (subst IsUtf8 c.as_slice.ensures.value c.in-Ok.ensures.cases.1))

use Rattle.std.proofs.Common.{◌≡◌, List, ℕ, ◌++◌, ap, ◌∙◌, subst, sym}
use Rattle.std.specs.Str.{IsUtf8}
use Rattle.sc_decimal.specs.Literal.{literal_of}
use Rattle.sc_time.proofs.Back.{not_none}
use Rattle.sc_cqltree.proofs.Literals.{numeral_utf8}
use Rattle.sc_cqltree.proofs.decimals.literal_text.Goals as goal

pub unreachable-requires : goal.unreachable-requires
unreachable-requires c =
    let literal : List ℕ = literal_of c.args.number.now in
    let bytes : c.push_literal.new.out.items ≡ literal = c.in_ok-push_literal.ensures.ok ∙ ap (λ (xs : List ℕ). xs ++ literal) c.new-bytes.ensures.items in
    let utf8 : IsUtf8 c.push_literal.new.out.items = subst (λ (xs : List ℕ). IsUtf8 xs) (sym bytes) (numeral_utf8 literal c.args.number.now c.push_literal.ensures.reads) in
    let some = not_none c.push_literal.new.out.items utf8 c.of_vec.result c.of_vec.ensures in
    let none = c.in-None.is in
    cc

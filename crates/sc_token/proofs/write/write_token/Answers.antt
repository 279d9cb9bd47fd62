use Rattle.std.proofs.Common.{◌≡◌, sym, ap, ◌∙◌, Some, None, unwrap_or}
use Rattle.hex.specs.Hex.{encode_lower}
use Rattle.sc_token.specs.Token.{token_of}
use Rattle.sc_token.proofs.Bytes.{digits_text}
use Rattle.sc_token.proofs.write.write_token.Goals as goal

pub unreachable-requires : goal.unreachable-requires
unreachable-requires c =
    let none : None ≡ Some c.in_ok-digits.digits.items = sym c.in-None.is ∙ c.of_vec.ensures ∙ digits_text c.in_ok-digits.digits.items c.into_bytes.result.items c.in_ok-digits.ensures in
    cc

pub returns-clause-token : goal.returns-clause-token
unfolding token_of
returns-clause-token c =
    let some : Some c.in-Some.text ≡ Some c.in_ok-digits.digits.items = sym c.in-Some.is ∙ c.of_vec.ensures ∙ digits_text c.in_ok-digits.digits.items c.into_bytes.result.items c.in_ok-digits.ensures in
    ap (λ o. unwrap_or o c.in-Some.text) some ∙ c.in_ok-digits.ensures ∙ ap encode_lower (ap (λ v. v.items) c.into_bytes.ensures.value ∙ c.in_ok-list.ensures.text)

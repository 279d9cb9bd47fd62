use Rattle.std.proofs.Common.{◌∙◌, refl, sym, ap, List, codes}
use Rattle.std.proofs.lemmas.Bool.{false≢true}
use Rattle.std.proofs.lemmas.Result.{on_ok_weaker}
use Rattle.sc_cqlwrite.specs.Tokens as tokens
use Rattle.sc_cqlwrite.specs.Tokens.{Token, between}
use Rattle.sc_cqlwrite.specs.Spelling.{with_tokens}
use Rattle.sc_cqlwrite.specs.Geometries.{parts_of}
use Rattle.sc_cqlwrite.proofs.Spellings.{call_pushed}
use Rattle.sc_cqlwrite.proofs.Parts.{alone_geometry, other_geometry}
use Rattle.sc_cqlwrite.proofs.geometry.push_geometry.Goals as goal

pub returns-then-has_one_part : goal.returns-then-has_one_part
returns-then-has_one_part c =
    on_ok_weaker c.push_parts.result
    (λ e. e ∙ ap (λ (ts : List Token). with_tokens c.args.out.now ts) (alone_geometry c.args.geometry.now (c.if-has_one_part.ensures.0 refl))) c.push_parts.ensures

pub returns : goal.returns
returns c =
    on_ok_weaker c.closing.result
    (λ e. call_pushed (codes "GEOMETRYCOLLECTION") (between tokens.comma (parts_of c.args.geometry.now)) c.args.out.now c.function.new.self c.opening.new.self c.push_parts-2.new.out c.closing.new.self
    c.in_ok-function.ensures c.in_ok-opening.ensures c.in_ok-push_parts.ensures e
    ∙ ap (λ (ts : List Token). with_tokens c.args.out.now ts) (sym (other_geometry c.args.geometry.now (λ e. false≢true (c.if-has_one_part.ensures.1 e)))))
    c.closing.ensures

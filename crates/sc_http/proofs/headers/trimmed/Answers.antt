use Rattle.std.proofs.Common.{◌∙◌, sym, ap}
use Rattle.std.specs.Prelude.{reverse}
use Rattle.std.proofs.lemmas.List.{reverse-reverse}
use Rattle.httparse.specs.Grammar.{skip_ows, trim_ows}
use Rattle.sc_http.proofs.headers.trimmed.Goals as goal

pub returns : goal.returns
unfolding trim_ows
returns c =
    sym (reverse-reverse c.without_back.result.now)
    ∙ ap reverse (c.without_back.ensures ∙ ap (λ t. skip_ows (reverse t)) c.without_front.ensures)

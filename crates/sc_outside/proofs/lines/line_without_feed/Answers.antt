use Rattle.std.proofs.Common.{◌≡◌, [], ◌∷◌, ◌++◌, sym, ◌∙◌, ap}
use Rattle.std.proofs.lemmas.Slice.Eq.{strip_suffix_is}
use Rattle.std.proofs.lemmas.Bool.Decides.{Decides-eqb}
use Rattle.std.proofs.lemmas.Option.{MatchOption-at_some, MatchOption-at_none}
use Rattle.sc_outside.specs.Lines.{without_feed}
use Rattle.sc_outside.proofs.LineFacts.{without_feed-push, without_feed_same}
use Rattle.sc_outside.proofs.lines.line_without_feed.Goals as goal

pub returns-in-Some : goal.returns-in-Some
returns-in-Some c =
    let m = strip_suffix_is Decides-eqb c.args.line.now (10 ∷ []) c.strip_suffix.result c.strip_suffix.ensures.cases in
    let e = MatchOption-at_some _ (λ x. c.args.line.now ≡ x.now ++ 10 ∷ []) c.in-Some.front c.in-Some.is m in
    sym (ap without_feed e ∙ without_feed-push c.in-Some.front.now)

pub returns-in-None : goal.returns-in-None
returns-in-None c =
    let m = strip_suffix_is Decides-eqb c.args.line.now (10 ∷ []) c.strip_suffix.result c.strip_suffix.ensures.cases in
    sym (without_feed_same c.args.line.now (MatchOption-at_none _ (λ x. c.args.line.now ≡ x.now ++ 10 ∷ []) c.in-None.is m))

use Rattle.std.proofs.Common.{rules, ap, ◌≡◌, ◌∙◌, codes}
use Rattle.std.proofs.lemmas.Result.{IfOk-weaker}
use Rattle.clap.specs.Words.{App, rule_of, with_rule}
use Rattle.sc_words.specs.Forms as forms
use Rattle.sc_words.proofs.Sets.{arg_app, arg_local}
use Rattle.sc_words.proofs.words.one.Goals as goal

pub returns : goal.returns
returns c =
    let rule_is : rule_of c.word.result ≡ forms.positional (codes "a") = search rules in
    record {
      shape = IfOk-weaker c.arg.result _ _ (λ m h. ap (λ (a : App). a.top) (arg_app c.new.result m c.word.result (codes "a") h c.word.ensures.local rule_is ∙ ap (λ (a : App). with_rule a (forms.positional (codes "a"))) c.new.ensures.app)) c.arg.ensures;
      local = IfOk-weaker c.arg.result _ _ (λ m h. arg_local c.new.result m c.word.result h c.word.ensures.local c.new.ensures.local) c.arg.ensures;
    }

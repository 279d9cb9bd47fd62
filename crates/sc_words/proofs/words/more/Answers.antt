use Rattle.std.proofs.lemmas.Result.{IfOk-weaker}
use Rattle.sc_words.proofs.Sets.{arg_app, arg_local}
use Rattle.sc_words.proofs.words.more.Goals as goal

pub returns : goal.returns
returns c =
    record {
      app = IfOk-weaker c.arg.result _ _ (λ m h. arg_app c.args.command m c.word.result c.args.id.now h c.word.ensures.local c.word.ensures.rule) c.arg.ensures;
      local = IfOk-weaker c.arg.result _ _ (λ m h. arg_local c.args.command m c.word.result h c.word.ensures.local c.requires) c.arg.ensures;
    }

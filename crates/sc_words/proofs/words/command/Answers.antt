use Rattle.std.proofs.Common.{◌≡◌}
use Rattle.std.proofs.lemmas.Result.{IfOk-weaker}
use Rattle.clap.specs.Words.{App, app_of, with_subcommand}
use Rattle.sc_words.specs.Forms as forms
use Rattle.sc_words.proofs.Sets.{sub_app}
use Rattle.sc_words.proofs.words.command.Goals as goal

abbrev one : App
one = with_subcommand forms.bare forms.page

abbrev two : App
two = with_subcommand one forms.pipe

abbrev three : App
three = with_subcommand two forms.serve

pub returns : goal.returns
returns c =
    let a1 : app_of c.in_ok-top.top ≡ one = sub_app c.bare-top.result c.in_ok-one.field-0 c.in_ok-top.top forms.bare forms.page c.in_ok-top.ensures c.in_ok-one.ensures.local c.bare-top.ensures c.in_ok-one.ensures.shape in
    let a2 : app_of c.in_ok-top-2.top ≡ two = sub_app c.in_ok-top.top c.in_ok-one-2.field-0 c.in_ok-top-2.top one forms.pipe c.in_ok-top-2.ensures c.in_ok-one-2.ensures.local a1 c.in_ok-one-2.ensures.shape in
    let a3 : app_of c.in_ok-top-3.top ≡ three = sub_app c.in_ok-top-2.top c.in_ok-serve.field-0 c.in_ok-top-3.top two forms.serve c.in_ok-top-3.ensures c.in_ok-serve.ensures.local a2 c.in_ok-serve.ensures.shape in
    IfOk-weaker c.subcommand-4.result _ _ (λ m h. sub_app c.in_ok-top-3.top c.in_ok-keep.field-0 m three forms.keep h c.in_ok-keep.ensures.local a3 c.in_ok-keep.ensures.shape) c.subcommand-4.ensures

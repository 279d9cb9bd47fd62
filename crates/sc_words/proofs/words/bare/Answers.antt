use Rattle.std.proofs.Common.{rules, ◌≡◌, codes}
use Rattle.clap.specs.Words.{app_of, new_app}
use Rattle.sc_words.proofs.Sets.{set_all}
use Rattle.sc_words.proofs.words.bare.Goals as goal

pub returns : goal.returns
returns c =
    let start : app_of c.new.result ≡ new_app (codes "stacd") = search rules in
    set_all c.new.result c.no_binary_name.result c.disable_help_flag.result c.disable_help_subcommand.result start
    c.no_binary_name.ensures c.disable_help_flag.ensures c.disable_help_subcommand.ensures

-- What a builder's settings make of what clap reads.
use Rattle.std.proofs.Common.{◌≡◌, ◌∙◌, ◌||◌, ap, ap₂, codes, true, false}
use Rattle.clap.specs.Words.{App, app_of, shape_of, rule_of, new_app, with_rule, with_subcommand, Text, Shape, AddsArg, AddsSubcommand}
use Rattle.clap.specs.Simple.{app_of_fields}
use Rattle.clap.specs.declared.Command.{Command}
use Rattle.clap.specs.declared.Arg.{Arg}
use Rattle.clap.specs.declared.Command.TheViews.{out-Command as fields_of}
use Rattle.sc_words.specs.Forms as forms

pub set_all : (a b c d : Command) → app_of a ≡ new_app (codes "stacd") → fields_of b ≡ record (fields_of a) { no_binary_name = true }
    → fields_of c ≡ record (fields_of b) { disable_help_flag = true } → fields_of d ≡ record (fields_of c) { disable_help_subcommand = true }
    → app_of d ≡ forms.bare
set_all a b c d h0 h1 h2 h3 =
    ap app_of_fields h3 ∙ ap (λ (x : App). record x { top = record x.top { disable_help_subcommand = true } })
    (ap app_of_fields h2 ∙ ap (λ (x : App). record x { top = record x.top { disable_help_flag = true } })
    (ap app_of_fields h1 ∙ ap (λ (x : App). record x { top = record x.top { no_binary_name = true } }) h0))

pub arg_app : (old new : Command) (a : Arg) (id : Text) → AddsArg old a new → a.global ≡ false → rule_of a ≡ forms.positional id
    → app_of new ≡ with_rule (app_of old) (forms.positional id)
arg_app old new a id h g r = h.shape g ∙ ap (with_rule (app_of old)) r

pub arg_local : (old new : Command) (a : Arg) → AddsArg old a new → a.global ≡ false → (fields_of old).has_globals ≡ false → (fields_of new).has_globals ≡ false
arg_local old new a h g l = h.globals ∙ ap₂ (λ x y. x || y) l g

pub sub_app : (old sub new : Command) (x : App) (s : Shape) → AddsSubcommand old sub new → (fields_of sub).has_globals ≡ false → app_of old ≡ x → shape_of sub ≡ s
    → app_of new ≡ with_subcommand x s
sub_app old sub new x s h l e f = h.shape l ∙ ap₂ with_subcommand e f

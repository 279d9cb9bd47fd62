use Rattle.std.proofs.Common.{◌∙◌, sym}
use Rattle.std.specs.Str.{bytes_eq}
use Rattle.sc_eval.proofs.Tables.{any_map}
use Rattle.sc_eval.proofs.names.Names.has.Goals as goal

pub returns : goal.returns
returns c = rw (← c.self.view_is) (c.contains.ensures ∙ sym (any_map (λ name. name.now) (bytes_eq c.args.name.now) _))

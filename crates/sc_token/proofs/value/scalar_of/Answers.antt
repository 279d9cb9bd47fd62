use Rattle.std.proofs.Common.{refl, sym, ap, ◌∙◌, Some}
use Rattle.sc_token.proofs.Fitting.{number_value}
use Rattle.sc_token.proofs.value.scalar_of.Goals as goal

pub returns-in-Number : goal.returns-in-Number
returns-in-Number c = record { kind = refl; every = λ v f e. ap Some (sym (number_value c.in-Number.number v f (sym c.in-Number.is ∙ e))) }

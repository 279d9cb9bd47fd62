use Rattle.std.proofs.Common.{◌≡◌, subst, true, false}
use Rattle.std.specs.Str.{IsUtf8}
use Rattle.sc_sort.proofs.Prefixes.{whole_name}
use Rattle.sc_sort.proofs.names.unprefixed.Goals as goal

pub returns-in-None : goal.returns-in-None
returns-in-None c =
    whole_name c.args.name.now c.utf8.name (subst IsUtf8 c.properties_prefix-prefix.ensures c.properties_prefix-prefix.utf8) (λ at. absurd (let some : false ≡ true = c.in-None.ensures.variant.1 at in cc))

use Rattle.std.proofs.Common.{lit<}
use Rattle.std.proofs.lemmas.Str.Pattern.{strip_prefix_char}
use Rattle.sc_sort.proofs.Commas.{unsigned}
use Rattle.sc_sort.proofs.part.signed.Goals as goal

pub returns-in_default-strip_prefix-2 : goal.returns-in_default-strip_prefix-2
returns-in_default-strip_prefix-2 c =
    let dash = strip_prefix_char 45 c.args.part.now c.strip_prefix.result c.strip_prefix.ensures.cases (lit< tt) in
    let plus = strip_prefix_char 43 c.args.part.now c.strip_prefix-in_default.result c.strip_prefix-in_default.ensures.cases (lit< tt) in
    let blank = strip_prefix_char 32 c.args.part.now c.strip_prefix-in_default-strip_prefix.result c.strip_prefix-in_default-strip_prefix.ensures.cases (lit< tt) in
    unsigned c.args.part.now (rw c.in_default.is at dash) (rw c.in_default-strip_prefix.is at plus) (rw c.in_default-strip_prefix-2.is at blank)

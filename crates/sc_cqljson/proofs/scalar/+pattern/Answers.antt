use Rattle.std.proofs.Common.{refl, arith}
use Rattle.std.proofs.lemmas.Result.{err_from_is_err_and}
use Rattle.sc_cqljson.specs.Operators.{pattern}
use Rattle.sc_cqljson.specs.Spells.{plain, unfolded}
use Rattle.sc_cqljson.proofs.Smaller.{arg_smaller}
use Rattle.sc_cqljson.proofs.Leaves.{told_of_folding, no_pattern, no_pattern_headed}
use Rattle.sc_cqljson.proofs.Folding.{told_folded, text_is}
use Rattle.sc_cqljson.proofs.scalar.+pattern.Goals as goal

pub read_folded_pattern-returns-in_err-folded_in : goal.read_folded_pattern-returns-in_err-folded_in
read_folded_pattern-returns-in_err-folded_in t c =
    let p = err_from_is_err_and c.from_residual.result c.from_residual.ensures.1 in
    rw (p.1, p.2) (told_of_folding pattern c.args.tree.now c.args.op.now c.in_err-folded_in.field-0.0 c.requires refl tt c.in_err-folded_in.ensures)

pub read_folded_pattern-read_pattern-requires : goal.read_folded_pattern-read_pattern-requires
read_folded_pattern-read_pattern-requires t c = (omega (arith, arg_smaller c.args.tree.now c.in_ok-folded_in.field-0.now c.in_ok-folded_in.ensures.on), tt)

pub read_folded_pattern-returns-in-Ok : goal.read_folded_pattern-returns-in-Ok
read_folded_pattern-returns-in-Ok t c =
    unfolded c.args.tree.now c.in_ok-folded_in.field-0.now c.in-Ok.field-0.text c.in-Ok.field-0.folded c.in_ok-folded_in.ensures c.in-Ok.ensures

pub read_folded_pattern-returns-in-Err : goal.read_folded_pattern-returns-in-Err
read_folded_pattern-returns-in-Err t c =
    told_folded pattern c.args.tree.now c.in_ok-folded_in.field-0.now c.in-Err.fault c.within_folded.result c.within_folded.ensures refl tt c.in_ok-folded_in.ensures c.in-Err.ensures

pub read_pattern-returns-in_ok-try_clone-in-Text : goal.read_pattern-returns-in_ok-try_clone-in-Text
read_pattern-returns-in_ok-try_clone-in-Text t c = plain c.args.tree.now c.in_ok-try_clone-in-Text.field-0 (text_is c.args.tree.now _ _ c.in-Text.is c.in_ok-try_clone-in-Text.ensures)

pub read_pattern-returns-in_default : goal.read_pattern-returns-in_default
read_pattern-returns-in_default t c = no_pattern c.args.tree.now c.in_default.not-Text c.in_default.not-Object

pub read_pattern-returns-in_default-head_of : goal.read_pattern-returns-in_default-head_of
read_pattern-returns-in_default-head_of t c = no_pattern_headed c.args.tree.now c.in-Object.field-0 c.head_of.result c.in-Object.is c.head_of.ensures c.in_default-head_of.not-Call

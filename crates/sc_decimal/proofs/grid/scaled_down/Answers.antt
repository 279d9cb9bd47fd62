use Rattle.std.proofs.Common.{◌^◌, ◌≤◌, sym, ap, arith}
use Rattle.sc_decimal.proofs.Scales.{tens, grows}
use Rattle.sc_decimal.proofs.Powers.{unit_fits}
use Rattle.sc_decimal.proofs.Nearest.{no_step}
use Rattle.sc_decimal.specs.Grid.{kept_on_grid}
use Rattle.sc_decimal.proofs.grid.scaled_down.Goals as goal

pub returns-then-down-gt34 : goal.returns-then-down-gt34
returns-then-down-gt34 c =
    let g : 10 ^ 35 ≤ 10 ^ c.args.down = grows 35 c.args.down (omega arith) in
    ap kept_on_grid (sym (no_step c.args.m (10 ^ c.args.down) (omega (arith, g))))

pub pow-unit-requires : goal.pow-unit-requires
pow-unit-requires c = unit_fits c.args.down (omega arith)

pub overflow_add-steps : goal.overflow_add-steps
overflow_add-steps c = let g : 10 ^ c.args.down ≤ 10 ^ 34 = grows c.args.down 34 (omega arith) in omega (arith, g)

pub overflow_mul-steps-2 : goal.overflow_mul-steps-2
overflow_mul-steps-2 c = let g : 10 ^ c.args.down ≤ 10 ^ 34 = grows c.args.down 34 (omega arith) in omega (arith, g)

pub nonzero_div-steps : goal.nonzero_div-steps
nonzero_div-steps c = rw c.pow-unit.ensures (omega (arith, tens c.args.down))

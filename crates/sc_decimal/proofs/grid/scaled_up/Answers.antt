use Rattle.std.proofs.Common.{◌*◌, ◌^◌, ◌≤◌, arith}
use Rattle.std.proofs.Math.Nat.{mul-le-mul}
use Rattle.sc_decimal.proofs.Scales.{tens, grows}
use Rattle.sc_decimal.proofs.Nearest.{off_grid}
use Rattle.sc_decimal.proofs.grid.scaled_up.Goals as goal

pub returns-then-up-gt9 : goal.returns-then-up-gt9
returns-then-up-gt9 c =
    let g : 10 ^ 10 ≤ 10 ^ c.args.up = grows 10 c.args.up (omega arith) in
    let h : 1 * 10 ^ 10 ≤ c.args.m * 10 ^ c.args.up = (let some : 1 ≤ c.args.m = omega arith in mul-le-mul some g) in
    off_grid (c.args.m * 10 ^ c.args.up) (omega (arith, h))

pub returns-then-m : goal.returns-then-m
returns-then-m c =
    let h : c.args.m * 1 ≤ c.args.m * 10 ^ c.args.up = mul-le-mul {n₁ = c.args.m} (omega arith) (tens c.args.up) in
    off_grid (c.args.m * 10 ^ c.args.up) (omega (arith, h))

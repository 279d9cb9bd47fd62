use Rattle.std.proofs.Common.{arith}
use Rattle.sc_session.proofs.serving.serve_on.Goals as goal

pub returns-in-Some : goal.returns-in-Some
returns-in-Some g c begun first mid stands s = let x = c.loop.invariant.so_far begun first mid stands s in c.in-Some.ensures.goes begun first x.0 x.1 x.2

pub loop-preserved : goal.loop-preserved
loop-preserved g c = record {
  few = c.in_default.ensures.few;
  fewer = omega (arith, c.in_default.ensures.fewer, c.loop.invariant.fewer);
  so_far = λ begun first mid stands s. let x = c.loop.invariant.so_far begun first mid stands s in c.in_default.ensures.goes begun first x.0 x.1 x.2;
}

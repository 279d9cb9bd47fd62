use Rattle.std.proofs.Common.{◌≡◌, ◌*◌, map}
use Rattle.std.specs.Arc.{arc_value}
use Rattle.sc_gen.specs.Draws.{behind, generator_of}
use Rattle.sc_gen.specs.Generated.{AreGeneratedItems}
use Rattle.sc_gen.proofs.loads.items_of.Given as goal

abbrev pub invariant-loop-number : goal.invariant-loop-number
invariant-loop-number l =
    record {
      words : l.words ≡ behind (4 * l.number) (generator_of l.fn.seed l.fn.load);
      items : AreGeneratedItems l.fn.seed l.fn.load l.number (map arc_value l.items.items);
    }

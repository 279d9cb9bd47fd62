use Rattle.std.proofs.Common.{ap, sym, ◌∙◌}
use Rattle.sc_history.specs.Part.{lookup}
use Rattle.sc_shelf.proofs.Splitting.{found_split}
use Rattle.sc_shelf.proofs.parts.Parts.find.Goals as goal

pub returns : goal.returns
returns c = sym (ap (lookup c.args.name.now) (sym c.as_slice.ensures.value) ∙ found_split c.args.name.now c.as_slice.result.now _ _ _ c.split_at.ensures)

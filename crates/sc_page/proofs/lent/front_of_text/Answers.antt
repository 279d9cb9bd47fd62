use Rattle.std.proofs.Common.{◌∙◌}
use Rattle.sc_page.proofs.Fronts.{front_range}
use Rattle.sc_page.proofs.lent.front_of_text.Goals as goal

pub returns : goal.returns
returns c =
    c.range.ensures.value
    ∙ front_range 128 c.floor_char_boundary-end.result c.args.text.now c.utf8.text c.floor_char_boundary-end.ensures.bound c.floor_char_boundary-end.ensures.boundary c.floor_char_boundary-end.ensures.nearest

use Rattle.sc_shelf.proofs.Standing.{found_as_content}
use Rattle.sc_shelf.proofs.laws.parts_have_what_is_found.Goals as goal

pub returns : goal.returns
returns c = found_as_content

use Rattle.sc_bounds.proofs.laws.within_is_an_order.Goals as goal
use Rattle.sc_bounds.proofs.Extents.{within_itself, within_chain, same_bounds, covers_wider}

pub returns : goal.returns
returns c = record { itself = within_itself; chain = within_chain; equal = same_bounds; covers = covers_wider }

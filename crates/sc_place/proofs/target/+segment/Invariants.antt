use Rattle.sc_place.proofs.target.+segment.Given as goal

abbrev pub decreases-segment : goal.decreases-segment
decreases-segment l = l.place

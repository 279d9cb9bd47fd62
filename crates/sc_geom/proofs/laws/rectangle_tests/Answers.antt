use Rattle.sc_geom.proofs.Deciding.{holds_test, overlap_test}
use Rattle.sc_geom.proofs.laws.rectangle_tests.Goals as goal

pub returns-clause-held : goal.returns-clause-held
returns-clause-held c = holds_test

pub returns-clause-overlapping : goal.returns-clause-overlapping
returns-clause-overlapping c = overlap_test

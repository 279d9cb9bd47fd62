use Rattle.std.proofs.Common.{subst}
use Rattle.sc_server.specs.Seats.{AreCardsOf}
use Rattle.sc_server.proofs.all.run_all.Goals as goal

pub returns : goal.returns
returns g c = record {
  before = c.employ-staff.result;
  after = c.have_worked-staff.result;
  staffed = c.employ-staff.ensures;
  worked = c.have_worked-staff.ensures;
  backs = c.dismiss-seats.ensures.nets;
  are = subst (λ seats. AreCardsOf seats c.unseat_all-cards.result.0 c.unseat_all-cards.result.1) c.dismiss-seats.ensures.seats c.unseat_all-cards.ensures;
}

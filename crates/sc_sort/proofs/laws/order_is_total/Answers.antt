use Rattle.std.proofs.lemmas.Cmp.{tied_itself}
use Rattle.sc_sort.proofs.Orders.{keys_total}
use Rattle.sc_sort.proofs.laws.order_is_total.Goals as goal

pub returns : goal.returns
returns c = record {
  total = keys_total;
  itself = λ sort. tied_itself (keys_total sort);
  turned = λ sort. (keys_total sort).antisymm;
  through = λ sort. (keys_total sort).trans;
}

use Rattle.std.proofs.Common.{◌≡◌, [], take}
use Rattle.form_urlencoded.specs.Form.{extend_pairs}
use Rattle.sc_page.specs.Linked.{other_pairs}
use Rattle.sc_page.proofs.link.form_of_others.Given as goal

abbrev pub invariant-loop-pair : goal.invariant-loop-pair
invariant-loop-pair l = l.form ≡ record { prefix = []; form = extend_pairs [] (other_pairs (take l.pair-index l.pairs)) }

use Rattle.std.proofs.Common.{◌∙◌, ◌≢◌, [], rules}
use Rattle.sc_place.proofs.Written.{written}
use Rattle.sc_place.proofs.resource.written_in.Goals as goal

pub returns : goal.returns
returns c =
    let some : c.args.segment.now ≢ [] = search rules in
    written c.args.segment.now _ _ some (c.in_ok-append_to.ensures.ok ∙ rw c.in_ok-bytes.ensures.items c.percent_decode.ensures.bytes) c.of_vec.ensures

use Rattle.std.proofs.Common.{◌∷◌, []}
use Rattle.sc_journal.proofs.Tears.{on_ok_to}
use Rattle.sc_kept.proofs.Splitting.{adds_both}
use Rattle.sc_kept.proofs.sealing.put_pair.Goals as goal

pub returns : goal.returns
returns c =
    on_ok_to c.put_field-2.result
    (adds_both c.args.out.now.items c.put_field.new.out.items c.put_field-2.new.out.items (c.args.first.now ∷ []) (c.args.second.now ∷ []) c.in_ok-put_field.ensures) c.put_field-2.ensures

use Rattle.std.proofs.Common.{◌∷◌, [], map}
use Rattle.std.specs.Arc.{arc_value}
use Rattle.sc_journal.proofs.Tears.{on_ok_to}
use Rattle.sc_kept.specs.Record.{document}
use Rattle.sc_kept.proofs.Splitting.{adds_both}
use Rattle.sc_kept.proofs.sealing.put_items.Goals as goal

pub returns-clause-fields : goal.returns-clause-fields
returns-clause-fields c =
    on_ok_to c.put_documents.result
    (adds_both c.args.out.now.items c.put_field.new.out.items c.put_documents.new.out.items (c.args.collection.now ∷ []) (map document (map arc_value c.args.items.now)) c.in_ok-put_field.ensures) c.put_documents.ensures.fields

use Rattle.std.proofs.Common.{◌≡◌, Some, take}
use Rattle.sc_json.specs.Views.{text_of}
use Rattle.sc_geom.specs.Drawn.{all_read}
use Rattle.sc_query.proofs.names.texts_in.Given as goal

abbrev pub invariant-loop-value : goal.invariant-loop-value
invariant-loop-value l = all_read text_of (take l.value-index l.values) ≡ Some l.texts.items

-- What is kept in memory of what was read.
use Rattle.std.specs.Prelude.{◌≡◌}
use Rattle.sc_wkt.specs.Kept.{IsDrawing}
use Rattle.sc_cqlread.specs.declared.reading.Reading as kept
use Rattle.sc_cqlread.specs.Reading.{Reading}

pub record Holds (reading : kept.Reading) (r : Reading) : Type 0 where
  pub values_are : reading.values ≡ r.values
  pub drawing_is : IsDrawing reading.drawing r.drawing
  pub word_is : reading.word ≡ r.word
  pub wide_is : reading.wide ≡ r.wide

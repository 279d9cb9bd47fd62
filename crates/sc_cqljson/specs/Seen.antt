-- What the head of an object is seen as.
use Rattle.sc_cqljson.specs.declared.head.Head.{Head}
use Rattle.sc_cqljson.specs.declared.head.Head.TheVariants as heads
use Rattle.sc_cqljson.specs.Heads as specs

abbrev pub seen : Head → specs.Head
seen (heads.Call value) = specs.call value.now
seen (heads.Property value) = specs.property value.now
seen (heads.Timestamp value) = specs.timestamp value.now
seen (heads.Date value) = specs.date value.now
seen (heads.Bbox value) = specs.bbox value.now
seen heads.Geometry = specs.geometry
seen heads.Nothing = specs.nothing

-- What contracts see of the fields of a kept part. No public clause cites it.
use Rattle.sc_history.specs.Part.{Part}
use Rattle.sc_shelf.specs.declared.kept.Shelf.{Shelf}

abbrev pub part_of : Shelf → Part
part_of shelf = record {
  name = shelf.version.name;
  stamp = shelf.version.stamp;
  items = shelf.version.items;
  bounds = shelf.bounds;
  kept_from = shelf.kept_from;
  additions = shelf.additions.items;
}

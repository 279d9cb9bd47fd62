-- A key of the time has the start of every item.
use Rattle.std.proofs.Common.{◌≡◌, true, refl}
use Rattle.sc_item.specs.Feature.{Feature}
use Rattle.sc_sort.specs.declared.key.Key.{Key}
use Rattle.sc_sort.specs.Named.{Named, Id, Collection, Geometry, Time, Member, is_time, named}
use Rattle.sc_sort.specs.Spec.{is_of_time}
use Rattle.sc_eval.specs.Property.{moment, property_value, value_named}

of_time : (name : Named) (item : Feature) → is_time name ≡ true → value_named name item ≡ moment item.start
of_time Id item e = cc
of_time Collection item e = cc
of_time Geometry item e = cc
of_time Time item e = refl
of_time (Member name) item e = cc

pub time_value : (key : Key) (item : Feature) → is_of_time key ≡ true → property_value key.name item ≡ moment item.start
unfolding property_value
time_value key item e = of_time (named key.name) item e

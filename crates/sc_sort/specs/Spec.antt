-- What a sort is: its keys, of which there are 1 to 4.
use Rattle.std.specs.Prelude.{◌≤◌, Bool, List, length}
use Rattle.sc_sort.specs.declared.key.Key.{Key}
use Rattle.sc_sort.specs.Named.{named, is_time}

pub record IsSort (keys : List Key) : Type 0 where
  pub some : 1 ≤ length keys
  pub few : length keys ≤ 4

-- the key is the time of an item, and so has a moment for every item
abbrev pub is_of_time : Key → Bool
is_of_time key = is_time (named key.name)

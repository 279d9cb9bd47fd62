-- Entries of an index of ids: a digest of an id, and the place at which an item with that id stands. No public clause cites them.
use Rattle.std.specs.Prelude.{ℕ, ◌*◌, ◌%◌, ◌^◌, List, [], map, slice_index_or, bit_xor}
use Rattle.std.specs.List.{fold}
use Rattle.std.specs.Arc.{arc_value}
use Rattle.std.specs.declared.alloc.Global.{Global}
use Rattle.std.specs.declared.sync.Arc.{Arc}
use Rattle.std.specs.declared.cmp.Ordering.{Ordering}
use Rattle.std.specs.Ordering.{nat_cmp, then_cmp, on}
use Rattle.sc_base.specs.Text.{text_order}
use Rattle.sc_item.specs.Feature.{Feature}
use Rattle.sc_part.specs.declared.entry.Entry.{Entry}

-- the hash FNV-1a of 64 bits
unfoldable pub digest : List ℕ → ℕ
digest bytes = fold (λ h b. (bit_xor h b * 1099511628211) % 2 ^ 64) 14695981039346656037 bytes

-- the ids of shared items
abbrev pub ids_of : List (Arc Feature Global) → List (List ℕ)
ids_of items = map (λ (i : Arc Feature Global). (arc_value i).id) items

-- the id at a place; empty past the end
abbrev pub id_at : List (List ℕ) → ℕ → List ℕ
id_at ids place = slice_index_or ids place []

-- an id with its digest
pub record Key : Type 0 where
  pub digest : ℕ
  pub id : List ℕ

-- by digest, and by id where digests are equal
abbrev pub key_order : Key → Key → Ordering
key_order = then_cmp (on (λ k. k.digest) nat_cmp) (on (λ k. k.id) text_order)

abbrev pub key_of : List (List ℕ) → Entry → Key
key_of ids entry = record { digest = entry.digest; id = id_at ids entry.place }

-- the order of the entries of an index over these ids
abbrev pub entry_order : List (List ℕ) → Entry → Entry → Ordering
entry_order ids = on (key_of ids) key_order

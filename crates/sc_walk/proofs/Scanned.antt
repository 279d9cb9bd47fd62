-- Items in the order of a scan stand the latest first.
use Rattle.std.proofs.Common.{◌≡◌, ◌≤ℤ◌, ◌<ℤ◌, List, get_or, refl, arith, Ordering, Less, Equal, Greater}
use Rattle.std.specs.Ordering.{int_cmp, ordering_then, MatchOrdering}
use Rattle.std.proofs.lemmas.Cmp.{int_ranked}
use Rattle.std.proofs.lemmas.Int.{ints}
use Rattle.sc_base.specs.Text.{text_order}
use Rattle.sc_item.specs.Feature.{Feature}
use Rattle.sc_part.specs.Scan.{IsScanned, scan_order}
use Rattle.sc_page.specs.Leading.{AreLatestFirst}

scan_starts : (a b : Feature) → scan_order a b ≡ Less → b.start ≤ℤ a.start
scan_starts a b e = go (int_cmp b.start a.start) (int_ranked b.start a.start (int_cmp b.start a.start) refl) e
  where
    go : (o : Ordering) → MatchOrdering o (b.start <ℤ a.start) (b.start ≡ a.start) (a.start <ℤ b.start) → ordering_then o (text_order a.id b.id) ≡ Less → b.start ≤ℤ a.start
    go Less r e = omega (arith, ints, r)
    go Equal r e = omega (arith, ints, r)
    go Greater r e = cc

pub latest_first : (items : List Feature) → IsScanned items → AreLatestFirst items
latest_first items scanned i j d l m = scan_starts (get_or items i d) (get_or items j d) (scanned i j d l m)

-- Bounds that `==` calls the same are the same.
use Rattle.std.proofs.Common.{◌≡◌, ℤ, ◌&&◌, Bool, true, Option, Some, None, refl, sym, ap, true≢false}
use Rattle.std.specs.Option.{option_eq}
use Rattle.std.specs.Ordering.{int_eq}
use Rattle.std.proofs.lemmas.Bool.{and_parts}
use Rattle.std.proofs.lemmas.Bool.Decides.{Decides-int_eq}
use Rattle.sc_geom.specs.Rectangle.{Rectangle}
use Rattle.sc_bounds.specs.Extent.{Extent}

abbrev pub moments_eq : ℤ × ℤ → ℤ × ℤ → Bool
moments_eq a b = int_eq a.0 b.0 && int_eq a.1 b.1

abbrev pub boxes_eq : Rectangle → Rectangle → Bool
boxes_eq a b = int_eq a.west b.west && (int_eq a.south b.south && (int_eq a.east b.east && int_eq a.north b.north))

same_moments : (a b : ℤ × ℤ) → moments_eq a b ≡ true → a ≡ b
same_moments a b e =
    let first : a.0 ≡ b.0 = (Decides-int_eq a.0 b.0).0 (and_parts (int_eq a.0 b.0) (int_eq a.1 b.1) e).0 in
    let last : a.1 ≡ b.1 = (Decides-int_eq a.1 b.1).0 (and_parts (int_eq a.0 b.0) (int_eq a.1 b.1) e).1 in
    λ i. (first i, last i)

same_boxes : (a b : Rectangle) → boxes_eq a b ≡ true → a ≡ b
same_boxes a b e =
    let rest = (and_parts (int_eq a.west b.west) (int_eq a.south b.south && (int_eq a.east b.east && int_eq a.north b.north)) e) in
    let last = (and_parts (int_eq a.south b.south) (int_eq a.east b.east && int_eq a.north b.north) rest.1) in
    let ends = (and_parts (int_eq a.east b.east) (int_eq a.north b.north) last.1) in
    let west : a.west ≡ b.west = (Decides-int_eq a.west b.west).0 rest.0 in
    let south : a.south ≡ b.south = (Decides-int_eq a.south b.south).0 last.0 in
    let east : a.east ≡ b.east = (Decides-int_eq a.east b.east).0 ends.0 in
    let north : a.north ≡ b.north = (Decides-int_eq a.north b.north).0 ends.1 in
    λ i. record { west = west i; south = south i; east = east i; north = north i }

same_options : {T : Type 0} (E : T → T → Bool) → ((x y : T) → E x y ≡ true → x ≡ y) → (a b : Option T) → option_eq E a b ≡ true → a ≡ b
same_options E same None None e = refl
same_options E same None (Some y) e = absurd (true≢false (sym e))
same_options E same (Some x) None e = absurd (true≢false (sym e))
same_options E same (Some x) (Some y) e = ap Some (same x y e)

pub same_bounds : (a b : Extent) → (option_eq moments_eq a.starts b.starts && (option_eq moments_eq a.ends b.ends && option_eq boxes_eq a.place b.place)) ≡ true → a ≡ b
same_bounds a b e =
    let all = and_parts (option_eq moments_eq a.starts b.starts) (option_eq moments_eq a.ends b.ends && option_eq boxes_eq a.place b.place) e in
    let rest = and_parts (option_eq moments_eq a.ends b.ends) (option_eq boxes_eq a.place b.place) all.1 in
    let starts : a.starts ≡ b.starts = same_options moments_eq same_moments a.starts b.starts all.0 in
    let ends : a.ends ≡ b.ends = same_options moments_eq same_moments a.ends b.ends rest.0 in
    let place : a.place ≡ b.place = same_options boxes_eq same_boxes a.place b.place rest.1 in
    λ i. record { starts = starts i; ends = ends i; place = place i }

-- Tests that decide facts, and those of rectangles.
use Rattle.std.proofs.Common.{◌≡◌, ◌↔◌, ◌⊎◌, inl, inr, ℤ, Bool, true, false, ◌&&◌, ◌||◌, not, refl, sym, rules, IsTrue, int_le, int_lt, ◌≤ℤ◌, ◌<ℤ◌, true≢false}
use Rattle.sc_geom.specs.declared.point.Pt.{Pt}
use Rattle.sc_geom.specs.Rectangle.{Rectangle, Holds, AreOverlapping, has_position, overlap}

-- a test decides a fact
abbrev pub Tests : Bool → Type 0 → Type 0
Tests b P = (b ≡ true → P) × (P → b ≡ true)

pub both : (a b : Bool) (P Q : Type 0) → Tests a P → Tests b Q → Tests (a && b) (P × Q)
both true b P Q t u = (λ e. (t.0 refl, u.0 e), λ h. u.1 h.1)
both false b P Q t u = (λ e. cc, λ h. t.1 h.0)

pub either : (a b : Bool) (P Q : Type 0) → Tests a P → Tests b Q → Tests (a || b) (P ⊎ Q)
either true b P Q t u = (λ e. inl (t.0 refl), λ h. refl)
either false b P Q t u = (λ e. inr (u.0 e), λ h. elim h [ inl p ↦ absurd (true≢false (sym (t.1 p))) | inr q ↦ u.1 q ])

pub neither : (a : Bool) (P : Type 0) → Tests a P → Tests (not a) (P → ⊥)
neither true P t = (λ e. cc, λ h. absurd (h (t.0 refl)))
neither false P t = (λ e p. true≢false (sym (t.1 p)), λ h. refl)

pub same : (a : Bool) (P Q : Type 0) → (P → Q) → (Q → P) → Tests a P → Tests a Q
same a P Q f g t = (λ e. f (t.0 e), λ q. t.1 (g q))

pub le_test : (a b : ℤ) → Tests (int_le a b) (a ≤ℤ b)
le_test a b = (λ e. search (rules, e), λ h. search (rules, h))

pub lt_test : (a b : ℤ) → Tests (int_lt a b) (a <ℤ b)
lt_test a b = (λ e. search (rules, e), λ h. search (rules, h))

pub holds_test : (r : Rectangle) (p : Pt) → Tests (has_position r p) (Holds r p)
holds_test r p =
    same (has_position r p) (((r.west ≤ℤ p.x) × (p.x ≤ℤ r.east)) × ((r.south ≤ℤ p.y) × (p.y ≤ℤ r.north))) (Holds r p)
    (λ h. record { west = h.0.0; east = h.0.1; south = h.1.0; north = h.1.1 }) (λ h. ((h.west, h.east), (h.south, h.north)))
    (both (int_le r.west p.x && int_le p.x r.east) (int_le r.south p.y && int_le p.y r.north) _ _
    (both (int_le r.west p.x) (int_le p.x r.east) _ _ (le_test r.west p.x) (le_test p.x r.east))
    (both (int_le r.south p.y) (int_le p.y r.north) _ _ (le_test r.south p.y) (le_test p.y r.north)))

pub overlap_test : (r s : Rectangle) → Tests (overlap r s) (AreOverlapping r s)
overlap_test r s =
    same (overlap r s) (((r.west ≤ℤ s.east) × (s.west ≤ℤ r.east)) × ((r.south ≤ℤ s.north) × (s.south ≤ℤ r.north))) (AreOverlapping r s)
    (λ h. record { west = h.0.0; east = h.0.1; south = h.1.0; north = h.1.1 }) (λ h. ((h.west, h.east), (h.south, h.north)))
    (both (int_le r.west s.east && int_le s.west r.east) (int_le r.south s.north && int_le s.south r.north) _ _
    (both (int_le r.west s.east) (int_le s.west r.east) _ _ (le_test r.west s.east) (le_test s.west r.east))
    (both (int_le r.south s.north) (int_le s.south r.north) _ _ (le_test r.south s.north) (le_test s.south r.north)))

-- a test is the one that decides its fact
pub one_truth : (r d : Bool) (P : Type 0) → IsTrue r ↔ P → Tests d P → r ≡ d
one_truth true d P t u = sym (u.1 (t.0 refl))
one_truth false true P t u = absurd (true≢false (sym (t.1 (u.0 refl))))
one_truth false false P t u = refl

-- Tests that are joined, and tests of whole numbers.
use Rattle.std.proofs.Common.{rules, ◌≡◌, ◌↔◌, refl, sym, ◌∙◌, Bool, true, false, IsTrue, ℤ, ◌<ℤ◌, ◌≤ℤ◌, int_le, int_lt}

-- a test that holds, and one that doesn't
pub yes_of : {P : Type 0} (r : Bool) → IsTrue r ↔ P → r ≡ true → P
yes_of r test is = test.0 is

pub no_of : {P : Type 0} (r : Bool) → IsTrue r ↔ P → r ≡ false → P → ⊥
no_of r test is p = let yes : r ≡ true = test.1 p in cc

-- a first test that fails, without which nothing can be
pub else_not : {P Q : Type 0} (r : Bool) → IsTrue r ↔ P → r ≡ false → (Q → P) → IsTrue r ↔ Q
else_not r test is needs = (λ yes. absurd (let both : true ≡ false = sym yes ∙ is in cc), λ q. test.1 (needs q))

-- one of several ways, which is found
pub found_way : {P Q : Type 0} (r : Bool) → IsTrue r ↔ P → r ≡ true → (P → Q) → IsTrue true ↔ Q
found_way r test is way = (λ yes. way (test.0 is), λ q. refl)

pub le_untested : (a b : ℤ) → b <ℤ a → int_le a b ≡ false
le_untested a b lt = search rules

pub le_tested : (a b : ℤ) → a ≤ℤ b → int_le a b ≡ true
le_tested a b le = search rules

pub lt_untested : (a b : ℤ) → b ≤ℤ a → int_lt a b ≡ false
lt_untested a b le = search rules

pub lt_tested : (a b : ℤ) → a <ℤ b → int_lt a b ≡ true
lt_tested a b lt = search rules

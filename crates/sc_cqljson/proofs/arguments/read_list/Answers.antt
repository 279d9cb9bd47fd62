use Rattle.std.specs.Prelude.{◌==◌}
use Rattle.std.proofs.Common.{◌≡◌, ℕ, ◌≤◌, true, false, length, rules, arith, sym, Vec, Global}
use Rattle.sc_expr.specs.declared.scalar.Scalar.{Scalar}
use Rattle.std.proofs.lemmas.Bool.Decides.{nat_tests}
use Rattle.sc_cqljson.proofs.Listing.{no_list, empty_list, list_told}
use Rattle.sc_cqljson.proofs.arguments.read_list.Goals as goal

none_in : (n : ℕ) → true ≡ (n == 0) → n ≡ 0
none_in n e = let f = sym e in first_of (grind (arith, nat_tests), search rules)

some_in : (n : ℕ) → false ≡ (n == 0) → 1 ≤ n
some_in n e = let f = sym e in first_of (grind (arith, nat_tests), search rules)

pub returns-in_default-clause-answer : goal.returns-in_default-clause-answer
returns-in_default-clause-answer c = no_list c.args.tree.now (sym c.in_default.ensures)

pub returns-then-is_empty-clause-answer : goal.returns-then-is_empty-clause-answer
returns-then-is_empty-clause-answer c = empty_list c.args.tree.now c.in-Some.elements.now (sym c.in-Some.ensures) (none_in (length c.in-Some.elements.now) c.if-is_empty.ensures)

pub returns-clause-answer : goal.returns-clause-answer
returns-clause-answer c =
    list_told {V = Vec Scalar Global} (λ v. v.items) c.read_elements.result c.args.tree.now c.in-Some.elements.now (sym c.in-Some.ensures) (some_in (length c.in-Some.elements.now) c.if-is_empty.ensures) c.read_elements.ensures.answer

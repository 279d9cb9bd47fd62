-- A text has one answer.
use Rattle.std.proofs.Common.{◌≡◌, ◌⊎◌, inl, inr, ℕ, ◌<◌, ◌≤◌, List, [], ◌∷◌, true, false, Option, Some, None, Result, Ok, Err, refl, sym, ap, ◌∙◌, arith}
use Rattle.std.specs.Prelude.{nat_le, if◌then◌else◌}
use Rattle.sc_expr.specs.declared.expr.Expr.{Expr}
use Rattle.sc_expr.specs.Measure.{depth, nodes}
use Rattle.sc_expr.specs.declared.fault.CqlFault.{CqlFault}
use Rattle.sc_expr.specs.declared.fault.CqlFault.TheVariants as faults
use Rattle.sc_cqlread.specs.declared.taking.End.{End}
use Rattle.sc_cqlread.specs.declared.taking.End.TheVariants.{Whole, Broken, TooDeep}
use Rattle.sc_cqlread.specs.Tokens.{readable, is_readable}
use Rattle.sc_cqlread.specs.Reading.{Reading, bad_of}
use Rattle.sc_cqlread.specs.Filters.{IsExpr, IsCqlText}
use Rattle.sc_cqlread.specs.Ends.{Ends}
use Rattle.sc_cqlread.specs.Judged.{first_fault}
use Rattle.sc_cqlread.specs.Faults.{IsFault}
use Rattle.sc_cqlread.proofs.Unique.{IsSame, ends_one}

abbrev Answer : Type 0
Answer = Result Expr CqlFault

abbrev read_as : Expr → Answer
read_as e = Ok e

abbrev refused : CqlFault → Answer
refused f = Err f

-- the answer by what the tokens come to
abbrev checked : Expr → Answer
checked e = if nat_le (depth e) 24 then (if nat_le (nodes e) 1024 then read_as e else refused faults.TooManyNodes) else refused faults.TooDeep

abbrev of_whole : Option ℕ → List Expr → Answer
of_whole (Some place) es = refused (faults.BadLiteral place)
of_whole None (e ∷ []) = checked e
of_whole None _ = refused faults.OutOfMemory

abbrev answer_of : End → Reading → Answer
answer_of Whole m = of_whole (bad_of m) m.values.exprs
answer_of (Broken place) m = refused (first_fault (bad_of m) place)
answer_of TooDeep m = refused faults.TooDeep

same_answer : (a : End) (m : Reading) (b : End) (n : Reading) → IsSame a m b n → answer_of a m ≡ answer_of b n
same_answer Whole m Whole n h = ap (λ (x : Reading). answer_of Whole x) h
same_answer (Broken p) m (Broken q) n h =
    ap (λ (x : Option ℕ). refused (first_fault x p)) h.noted_same ∙ ap (λ (x : ℕ). answer_of (Broken x) n) h.place_same
same_answer TooDeep m TooDeep n h = refl
same_answer Whole m (Broken q) n h = absurd h
same_answer Whole m TooDeep n h = absurd h
same_answer (Broken p) m Whole n h = absurd h
same_answer (Broken p) m TooDeep n h = absurd h
same_answer TooDeep m Whole n h = absurd h
same_answer TooDeep m (Broken q) n h = absurd h

-- what the tokens come to with an answer
record Comes (text : List ℕ) (answer : Answer) : Type 0 where
  pub end : End
  pub made : Reading
  pub ends : Ends (readable text) (is_readable text) end made
  pub answer_is : answer_of end made ≡ answer

comes_one : (text : List ℕ) (a b : Answer) → Comes text a → Comes text b → a ≡ b
comes_one text a b h k =
    sym h.answer_is ∙ (same_answer h.end h.made k.end k.made (ends_one (readable text) (is_readable text) h.end h.made k.end k.made h.ends k.ends) ∙ k.answer_is)

le_true : (a b : ℕ) → a ≤ b → nat_le a b ≡ true
le_true a b h = grind arith

le_false : (a b : ℕ) → b < a → nat_le a b ≡ false
le_false a b h = grind arith

expr_comes : (text : List ℕ) (expr : Expr) (answer : Answer) → IsExpr text expr → checked expr ≡ answer → Comes text answer
expr_comes text expr answer x e = record {
  end = Whole;
  made = x.made;
  ends = (x.tokens, x.are, x.shallow, x.makes);
  answer_is = ap (λ (b : Option ℕ). of_whole b x.made.values.exprs) x.sound ∙ (ap (λ (es : List Expr). of_whole None es) x.alone ∙ e);
}

filter_comes : (text : List ℕ) (filter : Expr) → IsCqlText text filter → Comes text (read_as filter)
filter_comes text filter h =
    expr_comes text filter (read_as filter) h.expr (rw (le_true (depth filter) 24 h.checked.shallow, le_true (nodes filter) 1024 h.checked.few) refl)

fault_comes : (text : List ℕ) (fault : CqlFault) → IsFault text fault → (fault ≡ faults.OutOfMemory) ⊎ Comes text (refused fault)
fault_comes text (faults.Syntax place) h = inr (record {
  end = Broken place;
  made = h.made;
  ends = (h.tokens, h.are, h.shallow, h.breaks);
  answer_is = ap (λ (b : Option ℕ). refused (first_fault b place)) h.sound;
})
fault_comes text faults.TooDeep (inl h) =
    inr (record { end = TooDeep; made = Rattle.sc_cqlread.specs.Reading.start; ends = (h.tokens, h.are, h.deep); answer_is = refl })
fault_comes text faults.TooDeep (inr h) = inr (expr_comes text h.expr (refused faults.TooDeep) h.is (rw (le_false (depth h.expr) 24 h.deep) refl))
fault_comes text faults.TooManyNodes h =
    inr (expr_comes text h.expr (refused faults.TooManyNodes) h.is (rw (le_true (depth h.expr) 24 h.shallow, le_false (nodes h.expr) 1024 h.many) refl))
fault_comes text (faults.BadLiteral place) h = elim h.comes [
  | inl x ↦ inr (record {
    end = Whole;
    made = h.made;
    ends = (h.tokens, h.are, h.shallow, x);
    answer_is = ap (λ (b : Option ℕ). of_whole b h.made.values.exprs) h.bad;
  })
  | inr x ↦ inr (record {
    end = Broken x.0;
    made = h.made;
    ends = (h.tokens, h.are, h.shallow, x.1);
    answer_is = ap (λ (b : Option ℕ). refused (first_fault b x.0)) h.bad;
  })
]
fault_comes text faults.OutOfMemory h = inl refl

pub one_filter : (text : List ℕ) (a b : Expr) → IsCqlText text a → IsCqlText text b → a ≡ b
one_filter text a b h k = let e : read_as a ≡ read_as b = comes_one text (read_as a) (read_as b) (filter_comes text a h) (filter_comes text b k) in cc

pub no_fault : (text : List ℕ) (filter : Expr) (fault : CqlFault) → IsCqlText text filter → IsFault text fault → fault ≡ faults.OutOfMemory
no_fault text filter fault h k = elim (fault_comes text fault k) [
  | inl e ↦ e
  | inr c ↦ let e : read_as filter ≡ refused fault = comes_one text (read_as filter) (refused fault) (filter_comes text filter h) c in cc
]

pub one_fault : (text : List ℕ) (a b : CqlFault) → IsFault text a → IsFault text b → (a ≡ b) ⊎ (a ≡ faults.OutOfMemory) ⊎ (b ≡ faults.OutOfMemory)
one_fault text a b h k = elim (fault_comes text a h) [
  | inl e ↦ inr (inl e)
  | inr c ↦ elim (fault_comes text b k) [
    | inl e ↦ inr (inr e)
    | inr d ↦ let e : refused a ≡ refused b = comes_one text (refused a) (refused b) c d in inl cc
  ]
]

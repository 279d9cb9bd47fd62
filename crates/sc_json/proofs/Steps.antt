-- The machine by the grammar alone: one byte, and what the bytes of a text in quotes do.
use Rattle.std.proofs.Common.{◌≡◌, ◌≢◌, ℕ, ◌+◌, ◌≤◌, List, [], ◌∷◌, ◌++◌, length, Bool, false, ltb, Some, refl, subst, arith, zero, suc, take}
use Rattle.std.proofs.lemmas.Bool.{ne_eqb}
use Rattle.std.proofs.lemmas.Bool.Decides.{nat_tests}
use Rattle.sc_json.specs.declared.state.State.{State}
use Rattle.sc_json.specs.declared.state.Frame.{Frame}
use Rattle.sc_json.specs.declared.state.Mode.TheVariants.{Quoted}
use Rattle.sc_json.specs.declared.state.Piece as pieces
use Rattle.sc_json.specs.declared.state.Piece.TheVariants.{Plain, Slash, Unit as Units, Unit1, Unit2, Unit3, Pair, PairSlash, Low, Low1, Low2, Low3}
use Rattle.sc_json.specs.declared.quoted.Grown.{Grown}
use Rattle.sc_json.specs.declared.quoted.Added.TheVariants.{Byte}
use Rattle.sc_json.specs.Pieces.{piece_of}
use Rattle.sc_json.specs.Machine.{at, step_of, with_added}

-- bytes that lead from one state to another, by the grammar alone
pub data Leads : List ℕ → ℕ → State → State → Type 0 where
  stays : (n : ℕ) (s : State) → Leads [] n s s
  steps : (b : ℕ) (bs : List ℕ) (n : ℕ) (s t u : State) → (step_of s n b).next ≡ Some t → Leads bs (n + 1) t u → Leads (b ∷ bs) n s u

pub leads_on : {bs : List ℕ} {n : ℕ} {s t : State} → Leads bs n s t → (cs : List ℕ) (p : ℕ) (u : State) → p ≡ n + length bs → Leads cs p t u → Leads (bs ++ cs) n s u
leads_on (stays n s) cs p u e l = subst (λ (i : ℕ). Leads cs i s u) (omega arith) l
leads_on (steps b bs n s t v h l) cs p u e m = steps b (bs ++ cs) n s t u h (leads_on l cs p u (omega arith) m)

-- the state within a text
abbrev pub within : List Frame → Bool → pieces.Piece → List ℕ → ℕ → State
within k is_name piece bytes from = at k (Quoted is_name piece bytes from)

-- what a byte does within a text, but for the closing quote
pub grows : (k : List Frame) (is_name : Bool) (p : pieces.Piece) (bytes : List ℕ) (from n b : ℕ) (g : Grown) (bs : List ℕ)
    → (b ≡ 34 → p ≡ Plain → ⊥) → piece_of p b ≡ Some g → with_added bytes g.added ≡ Some bs → (step_of (within k is_name p bytes from) n b).next ≡ Some (within k is_name g.piece bs from)
unfolding step_of
grows k is_name Plain bytes from n b g bs ne h a = rw (ne_eqb b 34 (λ e. ne e refl), h, a) refl
grows k is_name Slash bytes from n b g bs ne h a = rw (h, a) refl
grows k is_name Units bytes from n b g bs ne h a = rw (h, a) refl
grows k is_name (Unit1 x) bytes from n b g bs ne h a = rw (h, a) refl
grows k is_name (Unit2 x) bytes from n b g bs ne h a = rw (h, a) refl
grows k is_name (Unit3 x) bytes from n b g bs ne h a = rw (h, a) refl
grows k is_name (Pair x) bytes from n b g bs ne h a = rw (h, a) refl
grows k is_name (PairSlash x) bytes from n b g bs ne h a = rw (h, a) refl
grows k is_name (Low x) bytes from n b g bs ne h a = rw (h, a) refl
grows k is_name (Low1 x) bytes from n b g bs ne h a = rw (h, a) refl
grows k is_name (Low2 x y) bytes from n b g bs ne h a = rw (h, a) refl
grows k is_name (Low3 x y) bytes from n b g bs ne h a = rw (h, a) refl

-- a whole character of one byte
pub plain_goes : (k : List Frame) (is_name : Bool) (bytes : List ℕ) (from n c : ℕ) → 32 ≤ c → c ≢ 34 → c ≢ 92 → (step_of (within k is_name Plain bytes from) n c).next ≡ Some (within k is_name Plain (bytes ++ c ∷ []) from)
plain_goes k is_name bytes from n c low quote slash =
    grows k is_name Plain bytes from n c (record { piece = Plain; added = Byte c }) (bytes ++ c ∷ []) (λ e p. quote e) (rw (ne_eqb c 92 slash, not_control c low) refl) refl
  where
    not_control : (c : ℕ) → 32 ≤ c → ltb c 32 ≡ false
    not_control c low = grind (arith, nat_tests)

-- what begins such bytes leads somewhere too
pub leads_front : {bs : List ℕ} {n : ℕ} {s t : State} → Leads bs n s t → (i : ℕ) → (u : State) × Leads (take i bs) n s u
leads_front (stays n s) zero = (s, stays n s)
leads_front (stays n s) (suc i) = (s, stays n s)
leads_front (steps b bs n s t u h l) zero = (s, stays n s)
leads_front (steps b bs n s t u h l) (suc i) = let r = leads_front l i in (r.0, steps b (take i bs) n s t r.0 h r.1)

-- the state is determined
pub leads_one : {bs : List ℕ} {n : ℕ} {s t u : State} → Leads bs n s t → Leads bs n s u → t ≡ u
leads_one (stays n s) (stays _ _) = refl
leads_one (steps b bs n s t v h l) (steps _ _ _ _ t' v' h' l') = let same : t ≡ t' = cc in leads_one (subst (λ (x : State). Leads bs (n + 1) x v) same l) l'

-- What writes leave, and how a run of calls of a disk goes on.
use Rattle.std.proofs.Common.{◌≡◌, inl, inr, ⊎_elim, ℕ, ◌≤◌, min, List, length, take, Result, Ok, Err, OnOk, OnErr, refl, sym, ◌∙◌, subst, arith}
use Rattle.std.proofs.lemmas.List.{take_min}
use Rattle.sc_journal.specs.Disk.{Torn, TornFrom, Within, Same, Only, Gains, LeavesOnly}

-- nothing is torn where nothing was written
pub Torn-same : (at n : ℕ) (file : List ℕ) → Torn at n file file
Torn-same at n file = record { before = take_min at file; after = refl; no_shorter = omega arith; no_longer = omega arith }

pub torn_now : (at n : ℕ) (files : List ℕ → Type 0) → Within files (TornFrom at n files)
torn_now at n files file now = (file, now, Torn-same at n file)

-- of a place within the file the front stays
pub Torn-front : (at n : ℕ) (old new : List ℕ) → at ≤ length old → Torn at n old new → take at new ≡ take at old
Torn-front at n old new le torn =
    let is : min at (length old) ≡ at = omega (arith, le) in
    subst (λ (k : ℕ). take k new ≡ take at old) is torn.before

module _ {D : Type 0} (clock : D → ℕ) (left_since : D → ℕ → List ℕ → Type 0) where
  -- before the first call
  pub started : (disk : D) (files : List ℕ → Type 0) → Within (left_since disk (clock disk)) files → LeavesOnly clock left_since disk disk files
  started disk files here = record { each = here; before = λ t c le left. inl left }

  -- one call more, after which a crash leaves one of the files
  pub goes_on : (old mid new : D) (files now : List ℕ → Type 0) → clock old ≤ clock mid → LeavesOnly clock left_since old mid files → Gains (clock mid) (left_since mid) (left_since new) now → Within now files → LeavesOnly clock left_since old new files
  goes_on old mid new files now later so_far gains here = record {
    each = λ c left. ⊎_elim (so_far.each c) (here c) (gains.nothing_else (clock old) c later left);
    before = λ t c le left. ⊎_elim (so_far.before t c le) (λ is. inr (here c is)) (gains.nothing_else t c (omega (arith, le, later)) left);
  }

  -- two runs are one
  pub both : (old mid new : D) (files : List ℕ → Type 0) → clock old ≤ clock mid → LeavesOnly clock left_since old mid files → LeavesOnly clock left_since mid new files → LeavesOnly clock left_since old new files
  both old mid new files later first second = record {
    each = λ c left. ⊎_elim (first.each c) (λ is. is) (second.before (clock old) c later left);
    before = λ t c le left. ⊎_elim (first.before t c le) (λ is. inr is) (second.before t c (omega (arith, le, later)) left);
  }

  -- each of the files is one of those
  pub weaker : (old new : D) (these those : List ℕ → Type 0) → Within these those → LeavesOnly clock left_since old new these → LeavesOnly clock left_since old new those
  weaker old new these those are run = record {
    each = λ c left. are c (run.each c left);
    before = λ t c le left. ⊎_elim (λ was. inl was) (λ is. inr (are c is)) (run.before t c le left);
  }

-- what a crash leaves after a sync it might have left before
pub synced : {E : Type 0} (result : Result (Unit {0}) E) (files old now : List ℕ → Type 0) (was reads : List ℕ) → OnOk result (Only reads now) → OnErr result (Same old now) → reads ≡ was → old was → Within old files → Within now files
synced (Ok done) files old now was reads only same is left within c leaves = within c (subst old (sym (only c leaves ∙ is)) left)
synced (Err fault) files old now was reads only same is left within c leaves = within c (same.none_new c leaves)

-- ---- results

pub on_err : {T E P : Type 0} (result : Result T E) → P → OnErr result P
on_err (Ok x) p = tt
on_err (Err e) p = p

pub on_err_to : {T E P Q : Type 0} (result : Result T E) → (P → Q) → OnErr result P → OnErr result Q
on_err_to (Ok x) f p = tt
on_err_to (Err e) f p = f p

pub on_ok_to : {T E P Q : Type 0} (result : Result T E) → (P → Q) → OnOk result P → OnOk result Q
on_ok_to (Ok x) f p = f p
on_ok_to (Err e) f p = tt

-- What looking at a disk leaves, and what is read of it.
use Rattle.std.proofs.Common.{◌≡◌, ℕ, ◌+◌, ◌≤◌, List, ◌++◌, length, take, drop, refl, sym, ◌∙◌, ap, arith, length-append, take-append-drop}
use Rattle.std.proofs.lemmas.List.{take-take, drop-take, take_all}
use Rattle.sc_journal.specs.Disk.{Same, Gains, Observed}
use Rattle.sc_journal.proofs.Tears.{started, goes_on, both, weaker}

-- ---- bytes

pub take_more : (m n : ℕ) (xs : List ℕ) → take (m + n) xs ≡ take m xs ++ take n (drop m xs)
take_more m n xs =
    sym (take-append-drop m (take (m + n) xs)) ∙ (λ i. take-take m (m + n) xs (omega arith) i ++ drop-take m n xs i)

-- a piece more was read
pub read_more : (old new piece file : List ℕ) (n : ℕ) → new ≡ old ++ piece → old ≡ take (length old) file → piece ≡ take n (drop (length old) file) → length piece ≡ n → new ≡ take (length new) file
read_more old new piece file n is was read size =
    let count : length new ≡ length old + n = omega (arith, ap length is, length-append old piece, size) in
    is ∙ (λ i. was i ++ read i) ∙ sym (take_more (length old) n file) ∙ ap (λ (k : ℕ). take k file) (sym count)

pub read_all : (bytes file : List ℕ) (size : ℕ) → size ≡ length file → size ≤ length bytes → bytes ≡ take (length bytes) file → bytes ≡ file
read_all bytes file size is enough read = read ∙ take_all (length bytes) file (omega (arith, is, enough))

-- ---- disks

module _ {D : Type 0} (tells : D → Type 0) (reads : D → List ℕ) (may_leave : D → List ℕ → Type 0) (clock : D → ℕ) (left_since : D → ℕ → List ℕ → Type 0) where
  pub observed_none : (since_now : (d : D) → tells d → Same (may_leave d) (left_since d (clock d))) (disk : D) → Observed tells reads may_leave clock left_since disk disk
  observed_none since_now disk = record {
    told = λ t. t;
    reads_same = λ t. refl;
    crash = λ t. record { none_lost = λ f is. is; none_new = λ f is. is };
    any_moment = λ t. started clock left_since disk (may_leave disk) (λ f left. (since_now disk t).none_new f left);
    later = omega arith;
  }

  -- one look more
  pub observed_more : (old mid new : D) → Observed tells reads may_leave clock left_since old mid → (tells new → tells mid) → (tells new → reads new ≡ reads mid) → (tells new → Same (may_leave mid) (may_leave new)) → (tells new → Gains (clock mid) (left_since mid) (left_since new) (may_leave new)) → clock mid ≤ clock new → Observed tells reads may_leave clock left_since old new
  observed_more old mid new so_far told same crash since later = record {
    told = λ t. so_far.told (told t);
    reads_same = λ t. same t ∙ so_far.reads_same (told t);
    crash = λ t. record {
      none_lost = λ f is. (crash t).none_lost f ((so_far.crash (told t)).none_lost f is);
      none_new = λ f is. (so_far.crash (told t)).none_new f ((crash t).none_new f is);
    };
    any_moment = λ t. goes_on clock left_since old mid new (may_leave old) (may_leave new) so_far.later (so_far.any_moment (told t)) (since t) (λ f is. (so_far.crash (told t)).none_new f ((crash t).none_new f is));
    later = omega (arith, so_far.later, later);
  }

  -- two looks are one
  pub observed_then : (old mid new : D) → Observed tells reads may_leave clock left_since old mid → Observed tells reads may_leave clock left_since mid new → Observed tells reads may_leave clock left_since old new
  observed_then old mid new first second = record {
    told = λ t. first.told (second.told t);
    reads_same = λ t. second.reads_same t ∙ first.reads_same (second.told t);
    crash = λ t. record {
      none_lost = λ f is. (second.crash t).none_lost f ((first.crash (second.told t)).none_lost f is);
      none_new = λ f is. (first.crash (second.told t)).none_new f ((second.crash t).none_new f is);
    };
    any_moment = λ t.
        both clock left_since old mid new (may_leave old) first.later (first.any_moment (second.told t))
        (weaker clock left_since mid new (may_leave mid) (may_leave old) (λ f is. (first.crash (second.told t)).none_new f is) (second.any_moment t));
    later = omega (arith, first.later, second.later);
  }

-- Words of a generator that are drawn one after the other.
use Rattle.std.proofs.Common.{◌≡◌, ℕ, zero, suc, ◌+◌, ◌*◌, refl, sym, ap, ◌∙◌, arith, suc-add, zero-add}
use Rattle.rand_pcg.specs.Lcg.{Lcg, next, next_state, state_after}
use Rattle.rand_pcg.specs.Pcg.{multiplier_64, pcg32}
use Rattle.sc_gen.specs.declared.draw.Draw.{Draw}
use Rattle.sc_gen.specs.Draws.{behind, word, draw_of}

-- the generator behind one word
abbrev stepped : Lcg → Lcg
stepped g = next 64 multiplier_64 g

behind_none : (g : Lcg) → behind 0 g ≡ g
unfolding state_after
behind_none g = refl

behind_one : (g : Lcg) → behind 1 g ≡ stepped g
unfolding state_after
behind_one g = refl

behind_two : (g : Lcg) → behind 2 g ≡ stepped (stepped g)
unfolding state_after
behind_two g = refl

behind_three : (g : Lcg) → behind 3 g ≡ stepped (stepped (stepped g))
unfolding state_after
behind_three g = refl

behind_four : (g : Lcg) → behind 4 g ≡ stepped (stepped (stepped (stepped g)))
unfolding state_after
behind_four g = refl

abbrev Drawn : ℕ → Lcg → Lcg → Type 0
Drawn a g h = ◌≡◌ {A = ℕ × Lcg} (a, h) (pcg32 g)

left_by : (a : ℕ) (g h : Lcg) → Drawn a g h → h ≡ stepped g
left_by a g h e = ap (λ (p : ℕ × Lcg). p.1) e

drawn_by : (a : ℕ) (g h : Lcg) → Drawn a g h → a ≡ (pcg32 g).0
drawn_by a g h e = ap (λ (p : ℕ × Lcg). p.0) e

word_at : (a n : ℕ) (g h i : Lcg) → Drawn a h i → h ≡ behind n g → a ≡ word n g
word_at a n g h i e is = drawn_by a h i e ∙ ap (λ (x : Lcg). (pcg32 x).0) is

abbrev numbers : ℕ → ℕ → ℕ → ℕ → Draw
numbers a b c d = record { moment = a; longitude = b; latitude = c; cover = d }

same_numbers : (a b c d a' b' c' d' : ℕ) → a ≡ a' → b ≡ b' → c ≡ c' → d ≡ d' → numbers a b c d ≡ numbers a' b' c' d'
same_numbers a b c d a' b' c' d' p q r s =
    ap (λ (x : ℕ). numbers x b c d) p ∙ ap (λ (x : ℕ). numbers a' x c d) q ∙ ap (λ (x : ℕ). numbers a' b' x d) r ∙ ap (λ (x : ℕ). numbers a' b' c' x) s

-- four words that are drawn
pub drawn : (a b c d : ℕ) (g h i j k : Lcg) → Drawn a g h → Drawn b h i → Drawn c i j → Drawn d j k → numbers a b c d ≡ draw_of g
drawn a b c d g h i j k e f m n =
    let one : h ≡ stepped g = left_by a g h e in
    let two : i ≡ stepped (stepped g) = left_by b h i f ∙ ap stepped one in
    let three : j ≡ stepped (stepped (stepped g)) = left_by c i j m ∙ ap stepped two in
    same_numbers a b c d (word 0 g) (word 1 g) (word 2 g) (word 3 g)
    (word_at a 0 g g h e (sym (behind_none g)))
    (word_at b 1 g h i f (one ∙ sym (behind_one g)))
    (word_at c 2 g i j m (two ∙ sym (behind_two g)))
    (word_at d 3 g j k n (three ∙ sym (behind_three g)))

pub four_behind : (a b c d : ℕ) (g h i j k : Lcg) → Drawn a g h → Drawn b h i → Drawn c i j → Drawn d j k → k ≡ behind 4 g
four_behind a b c d g h i j k e f m n =
    let one : h ≡ stepped g = left_by a g h e in
    let two : i ≡ stepped (stepped g) = left_by b h i f ∙ ap stepped one in
    let three : j ≡ stepped (stepped (stepped g)) = left_by c i j m ∙ ap stepped two in
    left_by d j k n ∙ ap stepped three ∙ sym (behind_four g)

after_both : (w m p n k s : ℕ) → state_after w m p k (state_after w m p n s) ≡ state_after w m p (n + k) s
unfolding state_after
after_both w m p zero k s = ap (λ (x : ℕ). state_after w m p x s) (sym (zero-add k))
after_both w m p (suc n) k s = after_both w m p n k (next_state w m p s) ∙ ap (λ (x : ℕ). state_after w m p x s) (sym (suc-add n k))

-- four words more
pub four_more : (i : ℕ) (g : Lcg) → behind 4 (behind (4 * i) g) ≡ behind (4 * (i + 1)) g
four_more i g =
    let same : 4 * i + 4 ≡ 4 * (i + 1) = omega arith in
    ap (λ (s : ℕ). record g { state = s }) (after_both 64 multiplier_64 g.increment (4 * i) 4 g.state ∙ ap (λ (n : ℕ). state_after 64 multiplier_64 g.increment n g.state) same)

pub none_before : (g : Lcg) → g ≡ behind (4 * 0) g
unfolding state_after
none_before g = refl

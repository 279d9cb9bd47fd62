-- A document describes one collection at most.
use Rattle.std.proofs.Common.{◌≡◌, ℕ, List, true, false, Option, Some, None, refl, ap, sym, ◌∙◌, nat_eq}
use Rattle.std.specs.Cmp.Lexicographic.{pointwise}
use Rattle.sc_json.specs.declared.tree.Json.{Json}
use Rattle.sc_json.specs.Member.{member_value}
use Rattle.sc_cut.specs.declared.cut.Cut.{Cut}
use Rattle.sc_cut.specs.declared.cut.Cut.TheVariants.{Whole, Year, Month}
use Rattle.sc_load.specs.Words.{cut_name, whole_word, year_word, month_word}
use Rattle.sc_load.specs.Collection.{word_of, IsCutOf, IsCollection}

same_word : (x y : List ℕ) → Some x ≡ Some y → x ≡ y
same_word x y e = cc

-- words that differ in a byte
apart : (x y : List ℕ) → pointwise nat_eq x y ≡ false → pointwise nat_eq y y ≡ true → x ≡ y → ⊥
apart x y differ own e = let same : pointwise nat_eq x y ≡ true = ap (λ (w : List ℕ). pointwise nat_eq w y) e ∙ own in absurd cc

whole_year : whole_word ≡ year_word → ⊥
unfolding whole_word year_word
whole_year = apart whole_word year_word refl refl

whole_month : whole_word ≡ month_word → ⊥
unfolding whole_word month_word
whole_month = apart whole_word month_word refl refl

year_month : year_word ≡ month_word → ⊥
unfolding year_word month_word
year_month = apart year_word month_word refl refl

one_cut_word : (x y : Cut) → word_of x ≡ word_of y → x ≡ y
one_cut_word Whole Whole e = refl
one_cut_word Whole Year e = absurd (whole_year e)
one_cut_word Whole Month e = absurd (whole_month e)
one_cut_word Year Whole e = absurd (whole_year (sym e))
one_cut_word Year Year e = refl
one_cut_word Year Month e = absurd (year_month e)
one_cut_word Month Whole e = absurd (whole_month (sym e))
one_cut_word Month Year e = absurd (year_month (sym e))
one_cut_word Month Month e = refl

one_cut_of : (value : Option Json) (x y : Cut) → IsCutOf value x → IsCutOf value y → x ≡ y
one_cut_of None x y p q = p ∙ sym q
one_cut_of (Some value) x y p q = one_cut_word x y (same_word (word_of x) (word_of y) (sym p ∙ q))

pub one_id_and_cut : (tree : Json) (a b : List ℕ) (x y : Cut) → IsCollection tree a x → IsCollection tree b y → (a ≡ b) × (x ≡ y)
one_id_and_cut tree a b x y p q =
    (same_word a b (sym p.id_is.there ∙ q.id_is.there), one_cut_of (member_value tree cut_name) x y p.cut_is q.cut_is)

-- The table fits the grammar, and the grammar derives something from each rule.
use Rattle.std.proofs.Common.{not, ◌||◌, ◌≡◌, ◌⊎◌, inl, inr, ℕ, List, [], ◌∷◌, Some, Bool, true, refl, sym, subst}
use Rattle.std.specs.Prelude.{◌↔◌}
use Rattle.std.specs.List.{list_all}
use Rattle.sc_grammar.specs.Grammar.{tok, non, act}
use Rattle.sc_grammar.specs.Classes.{In, nullable, firsts, is_fitting}
use Rattle.sc_grammar.proofs.Sets.{both_true, unless_true}
use Rattle.sc_grammar.specs.declared.token.Class.{Class}
use Rattle.sc_grammar.specs.declared.token.Class.TheVariants as classes
use Rattle.sc_cqlgrammar.specs.declared.rule.Rule.{Rule}
use Rattle.sc_cqlgrammar.specs.declared.rule.Rule.TheVariants as rules
use Rattle.sc_cqlgrammar.specs.declared.mark.Mark.TheVariants as marks
use Rattle.sc_cqlgrammar.specs.Rules.{Items, alternatives, IsAlternative}
use Rattle.sc_cqlgrammar.specs.Table.{same, starts, is_empty, follows, predict}
use Rattle.sc_cqlgrammar.proofs.Picking.{Picks, are_told_apart, picked_is, found_is}

pub all_is : (test : Items → Bool) (more : List Items) → list_all test more ≡ true → (a : Items) → In a more → test a ≡ true
all_is test [] e a i = absurd i
all_is test (b ∷ more) e a (inl h) = subst (λ (x : Items). test x ≡ true) (sym h) (both_true (test b) (list_all test more) e).0
all_is test (b ∷ more) e a (inr i) = all_is test more (both_true (test b) (list_all test more) e).1 a i

abbrev fit : Rule → Bool
fit n = list_all (is_fitting same starts is_empty follows n) (alternatives n)

all_fit : (n : Rule) → fit n ≡ true
all_fit rules.Whole = refl
all_fit _ = refl

pub fits : (n : Rule) (a : Items) → IsAlternative n a → is_fitting same starts is_empty follows n a ≡ true
fits n a i = all_is (is_fitting same starts is_empty follows n) (alternatives n) (all_fit n) a i

told_apart : (n : Rule) → are_told_apart n (alternatives n) ≡ true
told_apart rules.Whole = refl
told_apart _ = refl

pub picks : (n : Rule) (a : Items) → IsAlternative n a → (c : Class) → In c (firsts starts is_empty a) → predict n c ≡ Some a
picks n a i c j = picked_is n c (alternatives n) (told_apart n) a i (inl j)

pub picks_nothing : (n : Rule) (a : Items) → IsAlternative n a → nullable is_empty a ≡ true → (c : Class) → In c (follows n) → predict n c ≡ Some a
picks_nothing n a i e c j = picked_is n c (alternatives n) (told_apart n) a i (inr (e, j))

pub is_rule : (n : Rule) (c : Class) (a : Items) → predict n c ≡ Some a → IsAlternative n a
is_rule n c a e = (found_is n c (alternatives n) a e).0

pub is_picker : (n : Rule) (c : Class) (a : Items) → predict n c ≡ Some a → Picks n c a
is_picker n c a e = (found_is n c (alternatives n) a e).1

-- ---- the shortest alternative of each rule

abbrev pub plain : Rule → Items
plain rules.Whole = non rules.Filter ∷ tok classes.End ∷ []
plain rules.Filter = act marks.Chain ∷ non rules.Term ∷ act marks.Link ∷ non rules.OrRest ∷ act marks.Or ∷ []
plain rules.OrRest = []
plain rules.Term = act marks.Chain ∷ non rules.Factor ∷ act marks.Link ∷ non rules.AndRest ∷ act marks.And ∷ []
plain rules.AndRest = []
plain rules.Factor = non rules.Primary ∷ []
plain rules.Primary = tok classes.True ∷ act marks.True ∷ non rules.TruthRest ∷ []
plain rules.TruthRest = act marks.Constant ∷ []
plain rules.Test = tok classes.Is ∷ non rules.NullTest ∷ []
plain rules.NullTest = tok classes.Null ∷ act marks.IsNull ∷ []
plain rules.Negatable = tok classes.Like ∷ non rules.Pattern ∷ act marks.Like ∷ []
plain rules.ScalarRest = []
plain rules.Scalar = tok classes.True ∷ act marks.True ∷ []
plain rules.Operand = tok classes.Text ∷ act marks.Text ∷ []
plain rules.Name = tok classes.Name ∷ []
plain rules.Pattern = tok classes.Text ∷ act marks.Pattern ∷ []
plain rules.Shape = non rules.Name ∷ act marks.NamedShape ∷ []
plain rules.SideRest = []
plain rules.Geometry = tok classes.Point ∷ non rules.ZWord ∷ tok classes.Opening ∷ non rules.Position ∷ act marks.Points ∷ tok classes.Closing ∷ []
plain rules.ZWord = []
plain rules.GeometryRest = []
plain rules.Member = non rules.Position ∷ []
plain rules.MemberRest = []
plain rules.Line = tok classes.Opening ∷ non rules.Position ∷ non rules.PositionRest ∷ act marks.Line ∷ tok classes.Closing ∷ []
plain rules.LineRest = []
plain rules.Area = tok classes.Opening ∷ non rules.Ring ∷ non rules.RingRest ∷ act marks.Area ∷ tok classes.Closing ∷ []
plain rules.AreaRest = []
plain rules.Ring = tok classes.Opening ∷ non rules.Position ∷ non rules.PositionRest ∷ act marks.Ring ∷ tok classes.Closing ∷ []
plain rules.RingRest = []
plain rules.Position = tok classes.Number ∷ act marks.Longitude ∷ tok classes.Number ∷ act marks.Latitude ∷ non rules.Height ∷ []
plain rules.Height = []
plain rules.PositionRest = []

pub plain_is : (n : Rule) → IsAlternative n (plain n)
plain_is rules.Whole = inl refl
plain_is rules.Filter = inl refl
plain_is rules.OrRest = inr (inl refl)
plain_is rules.Term = inl refl
plain_is rules.AndRest = inr (inl refl)
plain_is rules.Factor = inr (inl refl)
plain_is rules.Primary = inr (inl refl)
plain_is rules.TruthRest = inr (inl refl)
plain_is rules.Test = inr (inr (inr (inr (inr (inr (inl refl))))))
plain_is rules.NullTest = inl refl
plain_is rules.Negatable = inr (inr (inl refl))
plain_is rules.ScalarRest = inr (inl refl)
plain_is rules.Scalar = inl refl
plain_is rules.Operand = inr (inl refl)
plain_is rules.Name = inl refl
plain_is rules.Pattern = inl refl
plain_is rules.Shape = inl refl
plain_is rules.SideRest = inr (inl refl)
plain_is rules.Geometry = inl refl
plain_is rules.ZWord = inr (inl refl)
plain_is rules.GeometryRest = inr (inl refl)
plain_is rules.Member = inr (inl refl)
plain_is rules.MemberRest = inr (inl refl)
plain_is rules.Line = inl refl
plain_is rules.LineRest = inr (inl refl)
plain_is rules.Area = inl refl
plain_is rules.AreaRest = inr (inl refl)
plain_is rules.Ring = inl refl
plain_is rules.RingRest = inr (inl refl)
plain_is rules.Position = inl refl
plain_is rules.Height = inr (inl refl)
plain_is rules.PositionRest = inr (inl refl)

-- how many steps it takes to write something of a rule
abbrev pub size : Rule → ℕ
size rules.Whole = 18
size rules.Filter = 16
size rules.OrRest = 1
size rules.Term = 11
size rules.AndRest = 1
size rules.Factor = 6
size rules.Primary = 5
size rules.TruthRest = 2
size rules.Test = 5
size rules.NullTest = 3
size rules.Negatable = 6
size rules.ScalarRest = 1
size rules.Scalar = 3
size rules.Operand = 3
size rules.Name = 2
size rules.Pattern = 3
size rules.Shape = 4
size rules.SideRest = 1
size rules.Geometry = 12
size rules.ZWord = 1
size rules.GeometryRest = 1
size rules.Member = 7
size rules.MemberRest = 1
size rules.Line = 11
size rules.LineRest = 1
size rules.Area = 16
size rules.AreaRest = 1
size rules.Ring = 11
size rules.RingRest = 1
size rules.Position = 6
size rules.Height = 1
size rules.PositionRest = 1

-- ---- the class tells the alternative

pub one_token : (n : Rule) (c : Class) (a : Items) → (predict n c ≡ Some a) ↔ (IsAlternative n a × (In c (firsts starts is_empty a) ⊎ (nullable is_empty a ≡ true) × In c (follows n)))
one_token n c a = (λ e. (is_rule n c a e, is_picker n c a e), λ p. picked_is n c (alternatives n) (told_apart n) a p.0 p.1)

-- ---- an alternative that may be empty is of a rule that may

empties_all : (n : Rule) → list_all (λ (a : Items). not (nullable is_empty a) || is_empty n) (alternatives n) ≡ true
empties_all rules.Whole = refl
empties_all _ = refl

pub empties : (n : Rule) (a : Items) → IsAlternative n a → nullable is_empty a ≡ true → is_empty n ≡ true
empties n a i = unless_true (nullable is_empty a) (is_empty n) (all_is (λ (x : Items). not (nullable is_empty x) || is_empty n) (alternatives n) (empties_all n) a i)

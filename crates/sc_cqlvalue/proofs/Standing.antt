-- How much stands ready: what each mark asks for and leaves, and what each rule of the grammar leaves.
use Rattle.std.proofs.Common.{◌≡◌, List, [], ◌∷◌, Bool, true, false, Option, Some, None}
use Rattle.std.specs.Option.{option_and_then}
use Rattle.sc_grammar.specs.Grammar.{tok, non, act}
use Rattle.sc_grammar.specs.Classes.{Each}
use Rattle.sc_cqlgrammar.specs.declared.mark.Mark.{Mark}
use Rattle.sc_cqlgrammar.specs.declared.mark.Mark.TheVariants as marks
use Rattle.sc_cqlgrammar.specs.declared.rule.Rule.{Rule}
use Rattle.sc_cqlgrammar.specs.declared.rule.Rule.TheVariants as rules
use Rattle.sc_cqlgrammar.specs.Rules.{Items, alternatives}

-- a list of these is a count
abbrev pub One : Type 0
One = Unit {0}

abbrev pub one : One
one = tt

abbrev pub Count : Type 0
Count = List One

-- scalars, expressions of the last chain that aren't linked, shapes; for each open chain how many expressions stood so
-- before it, and whether one is linked; whether the list has an element; whether a pattern stands ready
pub data Standing : Type 0 where
  stand : (rs es ss : Count) (cs : List (Count × Bool)) (l p : Bool) → Standing

-- none where too little stands ready
abbrev pub moves : Mark → Standing → Option Standing
moves marks.Chain (stand rs es ss cs l p) = Some (stand rs [] ss ((es, false) ∷ cs) l p)
moves marks.Link (stand rs (x ∷ []) ss ((before, some) ∷ cs) l p) = Some (stand rs [] ss ((before, true) ∷ cs) l p)
moves marks.Link _ = None
moves marks.Or (stand rs [] ss ((before, true) ∷ cs) l p) = Some (stand rs (one ∷ before) ss cs l p)
moves marks.Or _ = None
moves marks.And (stand rs [] ss ((before, true) ∷ cs) l p) = Some (stand rs (one ∷ before) ss cs l p)
moves marks.And _ = None
moves marks.Negate (stand rs (x ∷ es) ss cs l p) = Some (stand rs (x ∷ es) ss cs l p)
moves marks.Negate _ = None
moves marks.Constant (stand (x ∷ rs) es ss cs l p) = Some (stand rs (one ∷ es) ss cs l p)
moves marks.Constant _ = None
moves marks.Equal (stand (x ∷ y ∷ rs) es ss cs l p) = Some (stand rs (one ∷ es) ss cs l p)
moves marks.Equal _ = None
moves marks.NotEqual (stand (x ∷ y ∷ rs) es ss cs l p) = Some (stand rs (one ∷ es) ss cs l p)
moves marks.NotEqual _ = None
moves marks.Less (stand (x ∷ y ∷ rs) es ss cs l p) = Some (stand rs (one ∷ es) ss cs l p)
moves marks.Less _ = None
moves marks.Greater (stand (x ∷ y ∷ rs) es ss cs l p) = Some (stand rs (one ∷ es) ss cs l p)
moves marks.Greater _ = None
moves marks.AtMost (stand (x ∷ y ∷ rs) es ss cs l p) = Some (stand rs (one ∷ es) ss cs l p)
moves marks.AtMost _ = None
moves marks.AtLeast (stand (x ∷ y ∷ rs) es ss cs l p) = Some (stand rs (one ∷ es) ss cs l p)
moves marks.AtLeast _ = None
moves marks.IsNull (stand (x ∷ rs) es ss cs l p) = Some (stand rs (one ∷ es) ss cs l p)
moves marks.IsNull _ = None
moves marks.Between (stand (x ∷ y ∷ z ∷ rs) es ss cs l p) = Some (stand rs (one ∷ es) ss cs l p)
moves marks.Between _ = None
moves marks.List (stand rs es ss cs l p) = Some (stand rs es ss cs false p)
moves marks.Element (stand (x ∷ rs) es ss cs l p) = Some (stand rs es ss cs true p)
moves marks.Element _ = None
moves marks.Among (stand (x ∷ rs) es ss cs true p) = Some (stand rs (one ∷ es) ss cs false p)
moves marks.Among _ = None
moves marks.Like (stand (x ∷ rs) es ss cs l true) = Some (stand rs (one ∷ es) ss cs l false)
moves marks.Like _ = None
moves marks.Meets (stand rs es (x ∷ y ∷ ss) cs l p) = Some (stand rs (one ∷ es) ss cs l p)
moves marks.Meets _ = None
moves marks.True (stand rs es ss cs l p) = Some (stand (one ∷ rs) es ss cs l p)
moves marks.False (stand rs es ss cs l p) = Some (stand (one ∷ rs) es ss cs l p)
moves marks.Property (stand rs es ss cs l p) = Some (stand (one ∷ rs) es ss cs l p)
moves marks.Text (stand rs es ss cs l p) = Some (stand (one ∷ rs) es ss cs l p)
moves marks.Number (stand rs es ss cs l p) = Some (stand (one ∷ rs) es ss cs l p)
moves marks.Instant (stand rs es ss cs l p) = Some (stand (one ∷ rs) es ss cs l p)
moves marks.Day (stand rs es ss cs l p) = Some (stand (one ∷ rs) es ss cs l p)
moves marks.Fold (stand (x ∷ rs) es ss cs l p) = Some (stand (x ∷ rs) es ss cs l p)
moves marks.Fold _ = None
moves marks.Pattern (stand rs es ss cs l p) = Some (stand rs es ss cs l true)
moves marks.FoldPattern (stand rs es ss cs l true) = Some (stand rs es ss cs l true)
moves marks.FoldPattern _ = None
moves marks.NamedShape (stand rs es ss cs l p) = Some (stand rs es (one ∷ ss) cs l p)
moves marks.Rectangles (stand rs es ss cs l p) = Some (stand rs es (one ∷ ss) cs l p)
moves marks.Geometry (stand rs es ss cs l p) = Some (stand rs es (one ∷ ss) cs l p)
moves _ h = Some h

-- one expression more, where no list and no pattern are under way
abbrev pub one_expr : Standing → Option Standing
one_expr (stand rs es ss cs false false) = Some (stand rs (one ∷ es) ss cs false false)
one_expr _ = None

-- one in place of the scalar before
abbrev pub scalar_tested : Standing → Option Standing
scalar_tested (stand (x ∷ rs) es ss cs false false) = Some (stand rs (one ∷ es) ss cs false false)
scalar_tested _ = None

-- nothing more behind a link of a chain
abbrev pub linked_on : Standing → Option Standing
linked_on (stand rs [] ss ((before, true) ∷ cs) false false) = Some (stand rs [] ss ((before, true) ∷ cs) false false)
linked_on _ = None

abbrev pub element_on : Standing → Option Standing
element_on (stand rs es ss cs true false) = Some (stand rs es ss cs true false)
element_on _ = None

abbrev pub one_scalar : Standing → Option Standing
one_scalar (stand rs es ss cs l p) = Some (stand (one ∷ rs) es ss cs l p)

abbrev pub one_pattern : Standing → Option Standing
one_pattern (stand rs es ss cs l p) = Some (stand rs es ss cs l true)

abbrev pub one_shape : Standing → Option Standing
one_shape (stand rs es ss cs l p) = Some (stand rs es (one ∷ ss) cs l p)

abbrev pub gives : Rule → Standing → Option Standing
gives rules.Whole h = one_expr h
gives rules.Filter h = one_expr h
gives rules.OrRest h = linked_on h
gives rules.Term h = one_expr h
gives rules.AndRest h = linked_on h
gives rules.Factor h = one_expr h
gives rules.Primary h = one_expr h
gives rules.TruthRest h = scalar_tested h
gives rules.Test h = scalar_tested h
gives rules.NullTest h = scalar_tested h
gives rules.Negatable h = scalar_tested h
gives rules.ScalarRest h = element_on h
gives rules.Scalar h = one_scalar h
gives rules.Operand h = one_scalar h
gives rules.Pattern h = one_pattern h
gives rules.Shape h = one_shape h
gives _ h = Some h

-- what items leave in their order
abbrev pub run : Items → Standing → Option Standing
run [] h = Some h
run (tok c ∷ is) h = run is h
run (act k ∷ is) h = option_and_then (run is) (moves k h)
run (non n ∷ is) h = option_and_then (run is) (gives n h)

none_some : (h : Standing) → None ≡ Some h → ⊥
none_some h e = cc

-- each alternative of a rule leaves what the rule does
abbrev Fit : Standing → Standing → Items → Type 0
Fit h k a = run a h ≡ Some k

pub fit : (n : Rule) (h k : Standing) → gives n h ≡ Some k → Each (Fit h k) (alternatives n)
fit rules.Whole (stand rs es ss cs false false) k e = (e, tt)
fit rules.Filter (stand rs es ss cs false false) k e = (e, tt)
fit rules.OrRest (stand rs [] ss ((before, true) ∷ cs) false false) k e = (e, (e, tt))
fit rules.Term (stand rs es ss cs false false) k e = (e, tt)
fit rules.AndRest (stand rs [] ss ((before, true) ∷ cs) false false) k e = (e, (e, tt))
fit rules.Factor (stand rs es ss cs false false) k e = (e, (e, tt))
fit rules.Primary (stand rs es ss cs false false) k e = (e, (e, (e, (e, (e, tt)))))
fit rules.TruthRest (stand (x ∷ rs) es ss cs false false) k e = (e, (e, tt))
fit rules.Test (stand (x ∷ rs) es ss cs false false) k e = (e, (e, (e, (e, (e, (e, (e, (e, (e, tt)))))))))
fit rules.NullTest (stand (x ∷ rs) es ss cs false false) k e = (e, (e, tt))
fit rules.Negatable (stand (x ∷ rs) es ss cs false false) k e = (e, (e, (e, tt)))
fit rules.ScalarRest (stand rs es ss cs true false) k e = (e, (e, tt))
fit rules.Scalar (stand rs es ss cs l p) k e = (e, (e, (e, tt)))
fit rules.Operand (stand rs es ss cs l p) k e = (e, (e, (e, (e, (e, (e, tt))))))
fit rules.Name (stand rs es ss cs l p) k e = (e, (e, (e, tt)))
fit rules.Pattern (stand rs es ss cs l p) k e = (e, (e, tt))
fit rules.Shape (stand rs es ss cs l p) k e = (e, (e, (e, tt)))
fit rules.SideRest (stand rs es ss cs l p) k e = (e, (e, tt))
fit rules.Geometry (stand rs es ss cs l p) k e = (e, (e, (e, (e, (e, (e, (e, tt)))))))
fit rules.ZWord (stand rs es ss cs l p) k e = (e, (e, tt))
fit rules.GeometryRest (stand rs es ss cs l p) k e = (e, (e, tt))
fit rules.Member (stand rs es ss cs l p) k e = (e, (e, tt))
fit rules.MemberRest (stand rs es ss cs l p) k e = (e, (e, tt))
fit rules.Line (stand rs es ss cs l p) k e = (e, tt)
fit rules.LineRest (stand rs es ss cs l p) k e = (e, (e, tt))
fit rules.Area (stand rs es ss cs l p) k e = (e, tt)
fit rules.AreaRest (stand rs es ss cs l p) k e = (e, (e, tt))
fit rules.Ring (stand rs es ss cs l p) k e = (e, tt)
fit rules.RingRest (stand rs es ss cs l p) k e = (e, (e, tt))
fit rules.Position (stand rs es ss cs l p) k e = (e, tt)
fit rules.Height (stand rs es ss cs l p) k e = (e, (e, tt))
fit rules.PositionRest (stand rs es ss cs l p) k e = (e, (e, tt))
fit _ h k e = absurd (none_some k e)

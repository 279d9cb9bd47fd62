-- Of which kind a tree is in the place of a scalar, a pattern or a shape: it has one, so nothing is of two.
use Rattle.std.proofs.Common.{◌≡◌, ℕ, Bool, List, Some, refl, sym, ap, ◌∙◌}
use Rattle.sc_decimal.specs.Number.{Number}
use Rattle.sc_json.specs.declared.tree.Json.{Json}
use Rattle.sc_json.specs.declared.tree.Json.TheVariants as trees
use Rattle.sc_json.specs.declared.tree.Json.TheOpen as layer
use Rattle.sc_json.specs.declared.tree.Json.TheOpen.{Json-F}
use Rattle.sc_json.specs.declared.tree.Json.TheViews.{out-Json, out-roll-Json}
use Rattle.sc_json.specs.declared.tree.Member.{Member}
use Rattle.sc_json.specs.Member.{members_of}
use Rattle.sc_json.specs.Views.{text_in, number_in, text_of, number_of}
use Rattle.sc_cqljson.specs.declared.operator.Operator.{Operator}
use Rattle.sc_cqljson.specs.Heads.{Head, call, property, timestamp, date, bbox, geometry, nothing, head_in, head_of, called_by, operator_of}
use Rattle.sc_cqljson.proofs.Forming.{IsHead, none_headed}

pub data Tag : Type 0 where
  null : Tag
  truth : Tag
  number : Tag
  text : Tag
  list : Tag
  headed : Head → Tag

abbrev pub tag_in : Json-F Json Member → Head → Tag
tag_in layer.Null h = null
tag_in (layer.Truth b) h = truth
tag_in (layer.Number n) h = number
tag_in (layer.Text t) h = text
tag_in (layer.List xs) h = list
tag_in (layer.Object ms) h = headed h

abbrev pub tag_of : Json → Tag
tag_of tree = tag_in (out-Json tree) (head_of tree)

headed_by : (level : Json-F Json Member) (h g : Head) → head_in (members_of level) ≡ h → IsHead h → tag_in level g ≡ headed g
headed_by layer.Null h g e is = absurd (none_headed h e is)
headed_by (layer.Truth b) h g e is = absurd (none_headed h e is)
headed_by (layer.Number n) h g e is = absurd (none_headed h e is)
headed_by (layer.Text t) h g e is = absurd (none_headed h e is)
headed_by (layer.List xs) h g e is = absurd (none_headed h e is)
headed_by (layer.Object ms) h g e is = refl

pub tag_headed : (tree : Json) (h : Head) → head_of tree ≡ h → IsHead h → tag_of tree ≡ headed h
tag_headed tree h e is = headed_by (out-Json tree) h (head_of tree) e is ∙ ap headed e

text_level : (level : Json-F Json Member) (h : Head) (t : List ℕ) → text_in level ≡ Some t → tag_in level h ≡ text
text_level layer.Null h t e = absurd cc
text_level (layer.Truth b) h t e = absurd cc
text_level (layer.Number n) h t e = absurd cc
text_level (layer.Text u) h t e = refl
text_level (layer.List xs) h t e = absurd cc
text_level (layer.Object ms) h t e = absurd cc

pub tag_text : (tree : Json) (t : List ℕ) → text_of tree ≡ Some t → tag_of tree ≡ text
unfolding text_of
tag_text tree t e = text_level (out-Json tree) (head_of tree) t e

number_level : (level : Json-F Json Member) (h : Head) (n : Number) → number_in level ≡ Some n → tag_in level h ≡ number
number_level layer.Null h n e = absurd cc
number_level (layer.Truth b) h n e = absurd cc
number_level (layer.Number m) h n e = refl
number_level (layer.Text u) h n e = absurd cc
number_level (layer.List xs) h n e = absurd cc
number_level (layer.Object ms) h n e = absurd cc

pub tag_number : (tree : Json) (n : Number) → number_of tree ≡ Some n → tag_of tree ≡ number
unfolding number_of
tag_number tree n e = number_level (out-Json tree) (head_of tree) n e

pub out_truth : (b : Bool) → out-Json (trees.Truth b) ≡ layer.Truth b
out_truth b = ap out-Json (sym (trees.rolls-Truth b)) ∙ out-roll-Json (layer.Truth b)

pub tag_truth : (tree : Json) (b : Bool) → tree ≡ trees.Truth b → tag_of tree ≡ truth
tag_truth tree b e = ap (λ (l : Json-F Json Member). tag_in l (head_of tree)) (ap out-Json e ∙ out_truth b)

called_head : (h : Head) (o : Operator) → called_by h ≡ Some o → (op : Json) × (h ≡ call op)
called_head (call op) o e = (op, refl)
called_head (property v) o e = absurd cc
called_head (timestamp v) o e = absurd cc
called_head (date v) o e = absurd cc
called_head (bbox v) o e = absurd cc
called_head geometry o e = absurd cc
called_head nothing o e = absurd cc

-- a call is headed by its operator's value
pub call_of : (tree : Json) (o : Operator) → operator_of tree ≡ Some o → (op : Json) × (head_of tree ≡ call op)
call_of tree o e = called_head (head_of tree) o e

pub tag_called : (tree : Json) (o : Operator) → operator_of tree ≡ Some o → (op : Json) × (tag_of tree ≡ headed (call op))
tag_called tree o e = let c = call_of tree o e in (c.0, tag_headed tree (call c.0) c.1 tt)

pub same_truth : (a b : Bool) → trees.Truth a ≡ trees.Truth b → a ≡ b
same_truth a b e = let l : layer.Truth a ≡ layer.Truth b = sym (out_truth a) ∙ ap out-Json e ∙ out_truth b in cc

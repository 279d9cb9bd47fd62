-- Of any grammar: what is derived of tokens, one behind the other.
use Rattle.std.proofs.Common.{List, ◌++◌, subst, append_assoc}
use Rattle.sc_grammar.specs.Grammar.{Item, Derives, done, token, mark, rule}

module _ (T C N K S : Type 0) (class_of : T → C) (eats : T → S → S) (does : K → S → S) (Rule : N → List (Item C N K) → Type 0) where
  abbrev Left : List (Item C N K) → S → List T → S → Type 0
  Left = Derives T C N K S class_of eats does Rule

  pub left_append : (is js : List (Item C N K)) (s m e : S) (ts us : List T) → Left is s ts m → Left js m us e → Left (is ++ js) s (ts ++ us) e
  left_append _ js _ _ e _ us (done s) k = k
  left_append _ js _ _ e _ us (token t is s ts s' d) k = token t (is ++ js) s (ts ++ us) e (left_append is js (eats t s) s' e ts us d k)
  left_append _ js _ _ e _ us (mark m is s ts s' d) k = mark m (is ++ js) s (ts ++ us) e (left_append is js (does m s) s' e ts us d k)
  left_append _ js _ _ e _ us (rule n a is s ts s' r d) k =
      rule n a (is ++ js) s (ts ++ us) e r
      (subst (λ (x : List (Item C N K)). Left x s (ts ++ us) e) (append_assoc a is js) (left_append (a ++ is) js s s' e ts us d k))

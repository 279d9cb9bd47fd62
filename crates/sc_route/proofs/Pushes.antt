-- One more pair that was read.
use Rattle.std.proofs.Common.{◌≡◌, ℕ, List, [], ◌∷◌, ◌++◌, sym, ap, ◌∙◌, subst, append_assoc}
use Rattle.form_urlencoded.specs.Form.{DecodesTo}
use Rattle.sc_expr.specs.declared.select.Pair.{Pair}
use Rattle.sc_route.specs.Pairs.{DecodeTo, ReadSoFar}

pushed : (raws : List (List ℕ × List ℕ)) (pairs : List Pair) (r : List ℕ × List ℕ) (p : Pair) → DecodeTo raws pairs → DecodesTo r.0 p.name
    → DecodesTo r.1 p.value → DecodeTo (raws ++ r ∷ []) (pairs ++ p ∷ [])
pushed [] [] r p q n v = (n, v, tt)
pushed [] (x ∷ pairs) r p q n v = absurd q
pushed (y ∷ raws) [] r p q n v = absurd q
pushed (y ∷ raws) (x ∷ pairs) r p q n v = (q.0, q.1, pushed raws pairs r p q.2 n v)

pub more_read : (all left next : List (List ℕ × List ℕ)) (pairs now : List Pair) (name value : List ℕ) (p : Pair) → ReadSoFar all left pairs
    → left ≡ (name, value) ∷ next → now ≡ pairs ++ p ∷ [] → DecodesTo name p.name → DecodesTo value p.value → ReadSoFar all next now
more_read all left next pairs now name value p s e g n v = record {
  done = s.done ++ (name, value) ∷ [];
  parts = s.parts ∙ ap (λ t. s.done ++ t) e ∙ sym (append_assoc s.done ((name, value) ∷ []) next);
  decoded = subst (DecodeTo (s.done ++ (name, value) ∷ [])) (sym g) (pushed s.done pairs (name, value) p s.decoded n v);
}

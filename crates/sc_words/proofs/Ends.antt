-- What a parse's end says of the words.
use Rattle.std.proofs.Common.{◌≡◌, inl, inr, ◌∙◌, ap, ap₂, subst, sym, refl, true, List, [], ◌∷◌, Option, Some, None, option_map}
use Rattle.clap.specs.Words.{App, Text, Row, HasMatchesOf, subcommand_name_of, subcommand_rows_of, subcommand_of, is_simple, fault_of, is_simple_and_free, kind_of, HasKind}
use Rattle.clap.specs.declared.ArgMatches.{ArgMatches}
use Rattle.clap.specs.declared.Error.{Error}
use Rattle.clap.specs.declared.error.kind.ErrorKind.TheVariants as kind
use Rattle.sc_words.specs.Forms.{AllPlain, stacd, form_of, form_in, form_met}
use Rattle.sc_words.proofs.Leaves.{simple}
use Rattle.sc_words.proofs.Top.{judged}

plain_simple : is_simple stacd ≡ true
plain_simple = refl

pub final_ok : (x : App) (ws : List Text) (m : ArgMatches) → x ≡ stacd → AllPlain ws → HasMatchesOf x ws m → (is_simple_and_free x ≡ true → fault_of x ws ≡ [])
    → form_met (subcommand_rows_of m) ≡ form_of ws
final_ok x ws m e p h f = elim (judged ws p) [
  | inl j ↦ ap form_met ((h (ap is_simple e ∙ plain_simple)).1 ∙ ap (λ a. subcommand_of a ws) e) ∙ j.1
  | inr j ↦
      let none : fault_of stacd ws ≡ [] = ap (λ a. fault_of a ws) (sym e) ∙ f (ap is_simple_and_free e ∙ simple) in
      let bad : [] ≡ j.0 ∷ j.1 = sym none ∙ j.2 in
      cc
]

pub final_err : (x : App) (ws : List Text) (e : Error) → x ≡ stacd → AllPlain ws → (is_simple_and_free x ≡ true → HasKind (fault_of x ws) e)
    → (kind_of e ≡ kind.OutOfMemory → ⊥) → None ≡ form_of ws
final_err x ws e q p f n = elim (judged ws p) [
  | inl j ↦
      let has : HasKind [] e = subst (λ ks. HasKind ks e) (ap (λ a. fault_of a ws) q ∙ j.0) (f (ap is_simple_and_free q ∙ simple)) in
      absurd (none has)
  | inr j ↦ sym j.3
]
  where
    none : HasKind [] e → ⊥
    none (inl m) = n m
    none (inr m) = m

abbrev given : {T : Type 0} → T → Option T → T
given d None = d
given d (Some x) = x

firsts : {B : Type 0} (f : B → Text) (g : B → List Row) (found : Option B) → option_map f found ≡ option_map (λ (p : Text × List Row). p.0) (option_map (λ b. (f b, g b)) found)
firsts f g None = refl
firsts f g (Some b) = refl

in_found : (found : Option (Text × List Row)) (name : Text) (rows : List Row) → Some name ≡ option_map (λ p. p.0) found → Some rows ≡ option_map (λ p. p.1) found
    → form_in name rows ≡ form_met found
in_found None name rows e f = cc
in_found (Some p) name rows e f = ap₂ form_in (ap (given name) e) (ap (given rows) f)

-- the form of a name and the rows that were met
pub met : (m : ArgMatches) (name : Text) (rows : List Row) → Some name ≡ subcommand_name_of m → Some rows ≡ option_map (λ p. p.1) (subcommand_rows_of m)
    → form_in name rows ≡ form_met (subcommand_rows_of m)
met m name rows e f = in_found (subcommand_rows_of m) name rows (e ∙ firsts _ _ _) f

-- What was written and what waits.
use Rattle.std.proofs.Common.{◌≡◌, ℕ, List, [], ◌∷◌, ◌++◌, Some, None, refl, sym, ◌∙◌, ap, subst, append_assoc, append-nil}
use Rattle.std.specs.declared.option.Option.{Option}
use Rattle.std.specs.Io.KnownBytes.{Appends}
use Rattle.std.proofs.lemmas.Grind.{flat_map-append}
use Rattle.sc_outside.specs.Outside.{AppendsFront}
use Rattle.sc_outside.proofs.Written.{written_front}
use Rattle.sc_outcome.specs.declared.outcome.Outcome.{Outcome}
use Rattle.sc_outcome.specs.Outcome.{line_of}
use Rattle.sc_weave.specs.Weaving.{told}
use Rattle.sc_weave.specs.Inside.{Tells}

pub appends_nothing : (a : Option (List ℕ)) → Appends a a []
appends_nothing None = tt
appends_nothing (Some xs) = sym (append-nil xs)

appends_both : (a b c : Option (List ℕ)) (x y : List ℕ) → Appends a b x → Appends b c y → Appends a c (x ++ y)
appends_both None b c x y p q = tt
appends_both (Some u) None c x y p q = absurd p
appends_both (Some u) (Some v) None x y p q = absurd q
appends_both (Some u) (Some v) (Some w) x y p q = q ∙ ap (λ t. t ++ y) p ∙ append_assoc u x y

pub tells_nothing : (start : Option (List ℕ)) → Tells start start [] []
tells_nothing start = record { written = []; appended = appends_nothing start; all = refl }

module _ (start now : Option (List ℕ)) (waiting : List ℕ) (outcomes : List Outcome) (t : Tells start now waiting outcomes) where
  pub tells_more : (outcome : Outcome) → Tells start now (waiting ++ line_of outcome) (outcomes ++ outcome ∷ [])
  tells_more outcome = record {
    written = t.written;
    appended = t.appended;
    all = flat_map-append line_of outcomes (outcome ∷ []) ∙ ap (λ x. told outcomes ++ x) (append-nil (line_of outcome)) ∙ ap (λ x. x ++ line_of outcome) t.all ∙ append_assoc t.written waiting (line_of outcome);
  }

  module _ (next : Option (List ℕ)) where
    pub tells_all : Appends now next waiting → Tells start next [] outcomes
    tells_all a = record {
      written = t.written ++ waiting;
      appended = appends_both start now next t.written waiting t.appended a;
      all = t.all ∙ sym (append-nil (t.written ++ waiting));
    }

    pub tells_front : AppendsFront now next waiting → AppendsFront start next (told outcomes)
    tells_front a = written_front (told outcomes) waiting start now next (record { done = t.written; parts = t.all; appended = t.appended }) a

  pub tells_so_far : AppendsFront start now (told outcomes)
  tells_so_far = tells_front now (0, appends_nothing now)

-- where nothing waits, all was written
pub tells_whole : (start now : Option (List ℕ)) (waiting : List ℕ) (outcomes : List Outcome) → Tells start now waiting outcomes → waiting ≡ [] → Appends start now (told outcomes)
tells_whole start now waiting outcomes t e = subst (λ x. Appends start now x) (sym (t.all ∙ ap (λ x. t.written ++ x) e ∙ append-nil t.written)) t.appended

-- What the grammar has of values, the machine takes.
use Rattle.std.proofs.Common.{◌≡◌, ◌≢◌, ℕ, ◌+◌, List, [], ◌∷◌, ◌++◌, true, false, eqb, ◌||◌, Some, refl, ◌∙◌}
use Rattle.std.proofs.lemmas.Bool.{ne_eqb}
use Rattle.sc_json.specs.declared.tree.Json.{Json}
use Rattle.sc_json.specs.declared.tree.Json.TheVariants as trees
use Rattle.sc_json.specs.declared.tree.Member.{Member}
use Rattle.sc_json.specs.declared.state.State.{State}
use Rattle.sc_json.specs.declared.state.Frame.{Frame}
use Rattle.sc_json.specs.declared.state.Frame.TheVariants as frames
use Rattle.sc_json.specs.declared.state.Mode.TheVariants.{Value, First, FirstName, Name, Colon, After}
use Rattle.sc_json.specs.Machine.{at, is_blank_byte, step_of, end_value}
use Rattle.sc_json.specs.Grammar as grammar
use Rattle.sc_json.specs.Grammar.{AreBlanks}
use Rattle.sc_json.proofs.Steps.{Leads, stays, steps}

-- white space that changes nothing
pub record Rests (s : State) : Type 0 where
  pub blank : (n b : ℕ) → is_blank_byte b ≡ true → (step_of s n b).next ≡ Some s

pub blanks_lead : (s : State) → Rests s → (l : List ℕ) → AreBlanks l → (n : ℕ) → Leads l n s s
blanks_lead s r [] w n = stays n s
blanks_lead s r (b ∷ l) w n = steps b l n s s s (r.blank n b w.0) (blanks_lead s r l w.1 (n + 1))

pub value_rests : (k : List Frame) → Rests (at k Value)
unfolding step_of
value_rests k = record { blank = λ n b h. rw h refl }

pub first_rests : (k : List Frame) → Rests (at k First)
unfolding step_of
first_rests k = record { blank = λ n b h. rw h refl }

pub first_name_rests : (k : List Frame) → Rests (at k FirstName)
unfolding step_of
first_name_rests k = record { blank = λ n b h. rw h refl }

pub name_rests : (k : List Frame) → Rests (at k Name)
unfolding step_of
name_rests k = record { blank = λ n b h. rw h refl }

pub colon_rests : (k : List Frame) → Rests (at k Colon)
unfolding step_of
colon_rests k = record { blank = λ n b h. rw h refl }

pub after_rests : (k : List Frame) (v : Json) → Rests (at k (After v))
unfolding step_of
after_rests k v = record { blank = λ n b h. rw h refl }

-- a state in which a value may begin
pub record Begins (s : State) (k : List Frame) : Type 0 where
  pub rests : Rests s
  pub same : (n b : ℕ) → is_blank_byte b ≡ false → b ≢ 93 → (step_of s n b).next ≡ (step_of (at k Value) n b).next
  pub breaks : (n b : ℕ) → is_blank_byte b ≡ false → b ≢ 93 → (step_of s n b).breaks ≡ (step_of (at k Value) n b).breaks

pub begins_value : (k : List Frame) → Begins (at k Value) k
begins_value k = record { rests = value_rests k; same = λ n b x y. refl; breaks = λ n b x y. refl }

first_as_value : (k : List Frame) (n b : ℕ) → is_blank_byte b ≡ false → b ≢ 93 → (step_of (at k First) n b).next ≡ (step_of (at k Value) n b).next
unfolding step_of
first_as_value k n b x y = rw (x, ne_eqb b 93 y) refl

first_breaks : (k : List Frame) (n b : ℕ) → is_blank_byte b ≡ false → b ≢ 93 → (step_of (at k First) n b).breaks ≡ (step_of (at k Value) n b).breaks
unfolding step_of
first_breaks k n b x y = rw (x, ne_eqb b 93 y) refl

pub begins_first : (k : List Frame) → Begins (at k First) k
begins_first k = record { rests = first_rests k; same = first_as_value k; breaks = first_breaks k }

-- a state in which a value may be over: a byte that goes on with no number is taken as behind the value
pub record Settles (s : State) (k : List Frame) (v : Json) : Type 0 where
  pub same : (n b : ℕ) → (is_blank_byte b || eqb b 44 || eqb b 93 || eqb b 125) ≡ true → (step_of s n b).next ≡ (step_of (at k (After v)) n b).next
  pub over : end_value s ≡ end_value (at k (After v))

pub settles_after : (k : List Frame) (v : Json) → Settles (at k (After v)) k v
settles_after k v = record { same = λ n b h. refl; over = refl }

-- white space behind a value
pub settled_blanks : (s : State) (k : List Frame) (v : Json) → Settles s k v → (r : List ℕ) → AreBlanks r → (n : ℕ) → (t : State) × Leads r n s t × Settles t k v
settled_blanks s k v h [] w n = (s, stays n s, h)
settled_blanks s k v h (b ∷ r) w n =
    let first : (step_of s n b).next ≡ Some (at k (After v)) = h.same n b (rw w.0 refl) ∙ (after_rests k v).blank n b w.0 in
    (at k (After v), steps b r n s (at k (After v)) (at k (After v)) first (blanks_lead (at k (After v)) (after_rests k v) r w.1 (n + 1)), settles_after k v)

-- ---- brackets, commas and colons

pub list_opens : (k : List Frame) (n : ℕ) → (step_of (at k Value) n 91).next ≡ Some (at (frames.List [] ∷ k) First)
unfolding step_of
list_opens k n = refl

pub object_opens : (k : List Frame) (n : ℕ) → (step_of (at k Value) n 123).next ≡ Some (at (frames.Object [] ∷ k) FirstName)
unfolding step_of
object_opens k n = refl

pub list_closes_empty : (k : List Frame) (n : ℕ) → (step_of (at (frames.List [] ∷ k) First) n 93).next ≡ Some (at k (After (trees.List [])))
unfolding step_of
list_closes_empty k n = refl

pub object_closes_empty : (k : List Frame) (n : ℕ) → (step_of (at (frames.Object [] ∷ k) FirstName) n 125).next ≡ Some (at k (After (trees.Object [])))
unfolding step_of
object_closes_empty k n = refl

pub element_parts : (k : List Frame) (xs : List Json) (v : Json) (n : ℕ) → (step_of (at (frames.List xs ∷ k) (After v)) n 44).next ≡ Some (at (frames.List (xs ++ v ∷ []) ∷ k) Value)
unfolding step_of
element_parts k xs v n = refl

pub list_closes : (k : List Frame) (xs : List Json) (v : Json) (n : ℕ) → (step_of (at (frames.List xs ∷ k) (After v)) n 93).next ≡ Some (at k (After (trees.List (xs ++ v ∷ []))))
unfolding step_of
list_closes k xs v n = refl

pub member_parts : (k : List Frame) (ms : List Member) (name : List ℕ) (v : Json) (n : ℕ) → (step_of (at (frames.Member ms name ∷ k) (After v)) n 44).next ≡ Some (at (frames.Object (ms ++ grammar.member name v ∷ []) ∷ k) Name)
unfolding step_of
member_parts k ms name v n = refl

pub object_closes : (k : List Frame) (ms : List Member) (name : List ℕ) (v : Json) (n : ℕ) → (step_of (at (frames.Member ms name ∷ k) (After v)) n 125).next ≡ Some (at k (After (trees.Object (ms ++ grammar.member name v ∷ []))))
unfolding step_of
object_closes k ms name v n = refl

pub colon_goes : (k : List Frame) (n : ℕ) → (step_of (at k Colon) n 58).next ≡ Some (at k Value)
unfolding step_of
colon_goes k n = refl

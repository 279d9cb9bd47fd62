-- A value stands only where nothing, a list or a member is open, and a name only where an object is.
use Rattle.std.proofs.Common.{◌≡◌, ℕ, List, [], ◌∷◌, ◌++◌, Bool, true, false, cond, eqb, Option, Some, None, subst}
use Rattle.std.specs.Option.{option_map_or}
use Rattle.sc_base.specs.Text.{text_of}
use Rattle.sc_json.specs.declared.tree.Json.{Json}
use Rattle.sc_json.specs.declared.tree.Json.TheVariants as trees
use Rattle.sc_json.specs.declared.state.State.{State}
use Rattle.sc_json.specs.declared.state.Frame.{Frame}
use Rattle.sc_json.specs.declared.state.Frame.TheVariants as frames
use Rattle.sc_json.specs.declared.state.Mode.{Mode}
use Rattle.sc_json.specs.declared.state.Mode.TheVariants.{Value, First, FirstName, Name, Colon, Word, Number, Quoted, After}
use Rattle.sc_json.specs.declared.state.Part.{Part}
use Rattle.sc_json.specs.declared.state.Part.TheVariants as parts
use Rattle.sc_json.specs.declared.state.Piece.TheVariants as pieces
use Rattle.sc_json.specs.declared.state.Letters.{Letters}
use Rattle.sc_json.specs.declared.state.Letters.TheVariants as letters
use Rattle.sc_json.specs.declared.quoted.Grown.{Grown}
use Rattle.sc_json.specs.Machine.{at, start, Move, goes, refused, plain, step_in, step_of, begin_of, close_list_of, close_object_of, inner_of, after_of, with_letter, ended_move, ended_value, named_of, unquote_of, with_added, is_plain}
use Rattle.sc_json.specs.Numbers.{next_part}
use Rattle.sc_json.specs.Pieces.{piece_of}
use Rattle.sc_json.proofs.Steps.{Leads, stays, steps}
use Rattle.sc_json.proofs.SoundNumbers.{some_is}

abbrev pub TakesValue : List Frame → Type 0
TakesValue [] = Unit {0}
TakesValue (frames.List ys ∷ k) = TakesValue k
TakesValue (frames.Object ys ∷ k) = ⊥
TakesValue (frames.Member ys name ∷ k) = TakesValue k

abbrev pub TakesName : List Frame → Type 0
TakesName [] = ⊥
TakesName (frames.List ys ∷ k) = ⊥
TakesName (frames.Object ys ∷ k) = TakesValue k
TakesName (frames.Member ys name ∷ k) = ⊥

abbrev pub TakesText : Bool → List Frame → Type 0
TakesText true k = TakesName k
TakesText false k = TakesValue k

abbrev pub Fits : Mode → List Frame → Type 0
Fits Value k = TakesValue k
Fits First k = TakesValue k
Fits FirstName k = TakesName k
Fits Name k = TakesName k
Fits Colon k = TakesValue k
Fits (Word x) k = TakesValue k
Fits (Number part ds from) k = TakesValue k
Fits (Quoted is_name piece bytes from) k = TakesText is_name k
Fits (After v) k = TakesValue k

record FitsNext (next : Option State) : Type 0 where
  fits : (t : State) → next ≡ Some t → Fits t.mode t.stack

record FitsMove (move : Move) : Type 0 where
  next : FitsNext move.next

nothing : FitsNext None
nothing = record { fits = λ t e. absurd cc }

to : (k : List Frame) (mode : Mode) → Fits mode k → FitsNext (Some (at k mode))
to k mode h = record { fits = λ t e. subst (λ (s : State). Fits s.mode s.stack) (some_is (at k mode) t e) h }

either : (b : Bool) (x y : Option State) → FitsNext x → FitsNext y → FitsNext (cond b x y)
either true x y p q = p
either false x y p q = q

either_move : (b : Bool) (x y : Move) → FitsMove x → FitsMove y → FitsMove (cond b x y)
either_move true x y p q = p
either_move false x y p q = q

maybe : {A : Type 0} (f : A → Option State) (o : Option A) → ((a : A) → FitsNext (f a)) → FitsNext (option_map_or f o None)
maybe f None p = nothing
maybe f (Some a) p = p a

maybe_move : {A : Type 0} (f : A → Move) (o : Option A) (x : Move) → ((a : A) → FitsMove (f a)) → FitsMove x → FitsMove (option_map_or f o x)
maybe_move f None x p q = q
maybe_move f (Some a) x p q = p a

only : (o : Option State) → FitsNext o → FitsMove (plain o)
only o h = record { next = h }

begin_fits : (k : List Frame) (n b : ℕ) → TakesValue k → FitsMove (begin_of k n b)
begin_fits k n b h =
    either_move _ _ _ (only _ (to k Value h))
    (either_move _ _ _ (only _ (to k (Quoted false pieces.Plain [] n) h))
    (either_move _ _ _ (record { next = to (frames.List [] ∷ k) First h })
    (either_move _ _ _ (record { next = to (frames.Object [] ∷ k) FirstName h })
    (only _
    (either _ _ _ (to k (Number parts.Minus (b ∷ []) n) h)
    (either _ _ _ (to k (Number parts.Zero (b ∷ []) n) h)
    (either _ _ _ (to k (Number parts.Whole (b ∷ []) n) h)
    (either _ _ _ (to k (Word letters.T) h) (either _ _ _ (to k (Word letters.F) h) (either _ _ _ (to k (Word letters.N) h) nothing))))))))))

close_list_fits : (k : List Frame) → TakesValue k → FitsNext (close_list_of k)
close_list_fits [] h = nothing
close_list_fits (frames.List xs ∷ k) h = to k (After (trees.List xs)) h
close_list_fits (frames.Object ms ∷ k) h = nothing
close_list_fits (frames.Member ms name ∷ k) h = nothing

close_object_fits : (k : List Frame) → TakesName k → FitsNext (close_object_of k)
close_object_fits [] h = nothing
close_object_fits (frames.List xs ∷ k) h = nothing
close_object_fits (frames.Object ms ∷ k) h = to k (After (trees.Object ms)) h
close_object_fits (frames.Member ms name ∷ k) h = nothing

inner_fits : (k : List Frame) (v : Json) (b : ℕ) → TakesValue k → FitsNext (inner_of k v b)
inner_fits [] v b h = nothing
inner_fits (frames.List xs ∷ k) v b h = either _ _ _ (to _ Value h) (either _ _ _ (to k _ h) nothing)
inner_fits (frames.Object ms ∷ k) v b h = nothing
inner_fits (frames.Member ms name ∷ k) v b h = either _ _ _ (to _ Name h) (either _ _ _ (to k _ h) nothing)

after_fits : (k : List Frame) (v : Json) (b : ℕ) → TakesValue k → FitsNext (after_of k v b)
after_fits k v b h = either _ _ _ (to k (After v) h) (inner_fits k v b h)

letter_fits : (x : Letters) (k : List Frame) → TakesValue k → Fits (with_letter x) k
letter_fits letters.T k h = h
letter_fits letters.Tr k h = h
letter_fits letters.Tru k h = h
letter_fits letters.F k h = h
letter_fits letters.Fa k h = h
letter_fits letters.Fal k h = h
letter_fits letters.Fals k h = h
letter_fits letters.N k h = h
letter_fits letters.Nu k h = h
letter_fits letters.Nul k h = h

named_fits : (k : List Frame) (name : List ℕ) (from : ℕ) → TakesName k → FitsMove (named_of k name from)
named_fits [] name from h = only None nothing
named_fits (frames.List xs ∷ k) name from h = only None nothing
named_fits (frames.Object ms ∷ k) name from h = record { next = to _ Colon h }
named_fits (frames.Member ms x ∷ k) name from h = only None nothing

unquote_fits : (k : List Frame) (is_name : Bool) (bytes : List ℕ) (from : ℕ) → TakesText is_name k → FitsMove (unquote_of k is_name bytes from)
unquote_fits k true bytes from h = maybe_move (λ (t : List ℕ). named_of k t from) (text_of bytes) refused (λ t. named_fits k t from h) (only None nothing)
unquote_fits k false bytes from h = maybe_move (λ (t : List ℕ). goes (at k (After (trees.Text t)))) (text_of bytes) refused (λ t. only _ (to k (After (trees.Text t)) h)) (only None nothing)

grown_fits : (k : List Frame) (is_name : Bool) (o : Option Grown) (bytes : List ℕ) (from : ℕ) → TakesText is_name k → FitsNext (option_map_or (λ g. option_map_or (λ bs. Some (at k (Quoted is_name g.piece bs from))) (with_added bytes g.added) None) o None)
grown_fits k is_name o bytes from h = maybe _ o (λ g. maybe _ (with_added bytes g.added) (λ bs. to k (Quoted is_name g.piece bs from) h))

mode_fits : (k : List Frame) (mode : Mode) (n b : ℕ) → Fits mode k → FitsMove (step_in k mode n b)
mode_fits k Value n b h = begin_fits k n b h
mode_fits k First n b h = either_move _ _ _ (only _ (to k First h)) (either_move _ _ _ (only _ (close_list_fits k h)) (begin_fits k n b h))
mode_fits k FirstName n b h = only _ (either _ _ _ (to k FirstName h) (either _ _ _ (close_object_fits k h) (either _ _ _ (to k Name h) (either _ _ _ (to k (Quoted true pieces.Plain [] n) h) nothing))))
mode_fits k Name n b h = only _ (either _ _ _ (to k Name h) (either _ _ _ (to k (Quoted true pieces.Plain [] n) h) nothing))
mode_fits k Colon n b h = only _ (either _ _ _ (to k Colon h) (either _ _ _ (to k Value h) nothing))
mode_fits k (Word so_far) n b h = only _ (either _ _ _ (to k (with_letter so_far) (letter_fits so_far k h)) nothing)
mode_fits k (Number part ds from) n b h =
    maybe_move (λ (p : Part). goes (at k (Number p (ds ++ b ∷ []) from))) (next_part part b) (ended_move k part ds from b) (λ p. only _ (to k (Number p (ds ++ b ∷ []) from) h))
    (record { next = maybe (λ (v : Json). after_of k v b) (ended_value part ds) (λ v. after_fits k v b h) })
mode_fits k (Quoted is_name piece bytes from) n b h =
    either_move (is_plain piece) _ _ (either_move (eqb b 34) _ _ (unquote_fits k is_name bytes from h) (only _ (grown_fits k is_name (piece_of piece b) bytes from h)))
    (only _ (grown_fits k is_name (piece_of piece b) bytes from h))
mode_fits k (After v) n b h = only _ (after_fits k v b h)

pub leads_fits : {bs : List ℕ} {n : ℕ} {s t : State} → Leads bs n s t → Fits s.mode s.stack → Fits t.mode t.stack
unfolding step_of
leads_fits (stays n s) h = h
leads_fits (steps b bs n s t u e l) h = leads_fits l ((mode_fits s.stack s.mode n b h).next.fits t e)

pub start_fits : {bs : List ℕ} {t : State} → Leads bs 0 start t → Fits t.mode t.stack
start_fits l = leads_fits l tt

-- What the grammar has of a text, the machine takes.
use Rattle.std.proofs.Common.{◌≡◌, ℕ, ◌+◌, ◌-◌, ◌*◌, ◌<◌, ◌≤◌, List, [], ◌∷◌, ◌++◌, length, Bool, true, false, cond, eqb, ltb, leb, ◌&&◌, Option, Some, None, refl, sym, ap, subst, ◌∙◌, append_assoc, arith, ◌⊎◌, inl, inr}
use Rattle.std.proofs.lemmas.Bool.{eqb-true}
use Rattle.std.proofs.lemmas.List.{append-nil}
use Rattle.std.specs.Option.{option_map_or}
use Rattle.std.proofs.lemmas.Bool.Decides.{nat_tests}
use Rattle.sc_json.specs.declared.state.State.{State}
use Rattle.sc_json.specs.declared.state.Frame.{Frame}
use Rattle.sc_json.specs.declared.state.Piece as pieces
use Rattle.sc_json.specs.declared.state.Piece.TheVariants.{Plain, Slash, Unit as Units, Unit1, Unit2, Unit3, Pair, PairSlash, Low, Low1, Low2, Low3}
use Rattle.sc_json.specs.declared.quoted.Grown.{Grown}
use Rattle.sc_json.specs.declared.quoted.Added.TheVariants.{Nothing, Byte, Scalar}
use Rattle.sc_json.specs.Hex.{hex_of, utf8_of, halves}
use Rattle.sc_json.specs.Pieces.{piece_of, slash_of, unit_of, low_of, digit_in, onward, added}
use Rattle.sc_json.specs.Machine.{at, step_of, with_added}
use Rattle.sc_json.specs.declared.tree.Json.TheVariants as trees
use Rattle.sc_base.specs.Text.{text_of}
use Rattle.std.specs.Char.{encode_utf8}
use Rattle.sc_json.proofs.Hexadecimal.{hex_is}
use Rattle.sc_json.proofs.Utf8.{utf8_is, ArePlain, char_plain, text_is, pieces_utf8}
use Rattle.sc_json.specs.declared.tree.Member.{Member}
use Rattle.sc_json.specs.declared.state.Frame.TheVariants as frames
use Rattle.sc_json.specs.declared.state.Mode.TheVariants.{Value, Name, Colon, After}
use Rattle.sc_json.specs.Grammar as grammar
use Rattle.sc_json.specs.Grammar.{Letter, AreHex, Piece, plain, letter, unit, pair, Quoted, Pieces, no_piece, one_more}
use Rattle.sc_json.proofs.Steps.{Leads, stays, steps, leads_on, within, grows, plain_goes}

-- a byte that adds nothing
onto : (k : List Frame) (is_name : Bool) (p q : pieces.Piece) (bytes : List ℕ) (from n b : ℕ) → (b ≡ 34 → p ≡ Plain → ⊥) → piece_of p b ≡ onward q → (step_of (within k is_name p bytes from) n b).next ≡ Some (within k is_name q bytes from)
onto k is_name p q bytes from n b ne h = grows k is_name p bytes from n b (record { piece = q; added = Nothing }) bytes ne h refl

letter_adds : (c v : ℕ) → Letter c v → slash_of c ≡ added v
letter_adds _ _ grammar.quote = refl
letter_adds _ _ grammar.backslash = refl
letter_adds _ _ grammar.slash = refl
letter_adds _ _ grammar.b = refl
letter_adds _ _ grammar.f = refl
letter_adds _ _ grammar.n = refl
letter_adds _ _ grammar.r = refl
letter_adds _ _ grammar.t = refl

-- a hexadecimal digit within an escape
digit_goes : (k : List Frame) (is_name : Bool) (p : pieces.Piece) (bytes : List ℕ) (from n b x : ℕ) (g : Grown) (bs : List ℕ) → hex_of b ≡ Some x → piece_of p b ≡ Some g → with_added bytes g.added ≡ Some bs → (step_of (within k is_name p bytes from) n b).next ≡ Some (within k is_name g.piece bs from)
digit_goes k is_name p bytes from n b x g bs h e a = grows k is_name p bytes from n b g bs (λ q r. (hex_is b x h).0 q) e a

-- a first digit 13 wants a second below 12, but for a high half's
second_digit : (w x : ℕ) → (w ≡ 13 → x < 12) → digit_in (Unit1 w) x ≡ onward (Unit2 (w * 16 + x))
second_digit w x ok = go (eqb w 13) (leb 12 x) refl refl
  where
    go : (p q : Bool) → eqb w 13 ≡ p → leb 12 x ≡ q → cond {A = Option Grown} (p && q) None (onward (Unit2 (w * 16 + x))) ≡ onward (Unit2 (w * 16 + x))
    go true true e f = let le : 12 ≤ x = grind (arith, nat_tests) in absurd (omega (arith, ok (eqb-true w 13 e), le))
    go true false e f = refl
    go false q e f = refl

-- four digits of no half
single_code : (code : ℕ) → code < 65536 → (code < 55296) ⊎ (57344 ≤ code) → unit_of code ≡ Some (record { piece = Plain; added = Scalar code })
single_code code small (inl lt) = let a : leb 65536 code ≡ false = grind (arith, nat_tests) in let b : leb 55296 code ≡ false = grind (arith, nat_tests) in rw (a, b) refl
single_code code small (inr ge) = let a : leb 65536 code ≡ false = grind (arith, nat_tests) in let b : leb 55296 code ≡ true = grind (arith, nat_tests) in let c : ltb code 56320 ≡ false = grind (arith, nat_tests) in rw (a, b, c) refl

high_code : (code : ℕ) → 55296 ≤ code → code < 56320 → unit_of code ≡ onward (Pair code)
high_code code ge lt = let a : leb 65536 code ≡ false = grind (arith, nat_tests) in let b : leb 55296 code ≡ true = grind (arith, nat_tests) in let c : ltb code 56320 ≡ true = grind (arith, nat_tests) in rw (a, b, c) refl

scalar_adds : (bytes : List ℕ) (c : ℕ) → c < 1114112 → with_added bytes (Scalar c) ≡ Some (bytes ++ utf8_of c)
scalar_adds bytes c small = let a : leb 1114112 c ≡ false = grind (arith, nat_tests) in rw a refl

via_digit : (p : pieces.Piece) (b x : ℕ) (g : Option Grown) → hex_of b ≡ Some x → piece_of p b ≡ option_map_or (digit_in p) (hex_of b) None → digit_in p x ≡ g → piece_of p b ≡ g
via_digit p b x g h e d = e ∙ rw h d

pub unit_goes : (a b c d code : ℕ) → AreHex a b c d code → (code < 55296) ⊎ (57344 ≤ code) → (k : List Frame) (is_name : Bool) (bytes : List ℕ) (from n : ℕ)
    → Leads (92 ∷ 117 ∷ a ∷ b ∷ c ∷ d ∷ []) n (within k is_name Plain bytes from) (within k is_name Plain (bytes ++ utf8_of code) from)
unit_goes a b c d code hex single k is_name bytes from n =
    let w = hex_is a hex.w hex.w_is in let x = hex_is b hex.x hex.x_is in let y = hex_is c hex.y hex.y_is in let z = hex_is d hex.z hex.z_is in
    let small : code < 65536 = omega (arith, w.1, x.1, y.1, z.1, hex.code_is) in
    let second : hex.w ≡ 13 → hex.x < 12 = second_is hex.w hex.x hex.y hex.z code x.1 y.1 z.1 hex.code_is single in
    steps 92 _ n _ (within k is_name Slash bytes from) _ (onto k is_name Plain Slash bytes from n 92 (λ e p. absurd cc) refl)
    (steps 117 _ (n + 1) _ (within k is_name Units bytes from) _ (onto k is_name Slash Units bytes from (n + 1) 117 (λ e p. cc) refl)
    (steps a _ (n + 1 + 1) _ (within k is_name (Unit1 hex.w) bytes from) _ (digit_goes k is_name Units bytes from (n + 1 + 1) a hex.w (record { piece = Unit1 hex.w; added = Nothing }) bytes hex.w_is (rw hex.w_is refl) refl)
    (steps b _ (n + 1 + 1 + 1) _ (within k is_name (Unit2 (hex.w * 16 + hex.x)) bytes from) _ (digit_goes k is_name (Unit1 hex.w) bytes from (n + 1 + 1 + 1) b hex.x (record { piece = Unit2 (hex.w * 16 + hex.x); added = Nothing }) bytes hex.x_is (via_digit (Unit1 hex.w) b hex.x _ hex.x_is refl (second_digit hex.w hex.x second)) refl)
    (steps c _ (n + 1 + 1 + 1 + 1) _ (within k is_name (Unit3 ((hex.w * 16 + hex.x) * 16 + hex.y)) bytes from) _ (digit_goes k is_name (Unit2 (hex.w * 16 + hex.x)) bytes from (n + 1 + 1 + 1 + 1) c hex.y (record { piece = Unit3 ((hex.w * 16 + hex.x) * 16 + hex.y); added = Nothing }) bytes hex.y_is (rw hex.y_is refl) refl)
    (steps d _ (n + 1 + 1 + 1 + 1 + 1) _ _ _ (digit_goes k is_name (Unit3 ((hex.w * 16 + hex.x) * 16 + hex.y)) bytes from (n + 1 + 1 + 1 + 1 + 1) d hex.z (record { piece = Plain; added = Scalar code }) (bytes ++ utf8_of code) hex.z_is
    (via_digit (Unit3 ((hex.w * 16 + hex.x) * 16 + hex.y)) d hex.z _ hex.z_is refl (ap unit_of (sym hex.code_is) ∙ single_code code small single)) (scalar_adds bytes code (omega (arith, small)))) (stays _ _))))))
  where
    second_is : (w x y z code : ℕ) → x < 16 → y < 16 → z < 16 → code ≡ ((w * 16 + x) * 16 + y) * 16 + z → (code < 55296) ⊎ (57344 ≤ code) → w ≡ 13 → x < 12
    second_is w x y z code xs ys zs e (inl lt) is = omega arith
    second_is w x y z code xs ys zs e (inr ge) is = absurd (omega arith)

low_code : (high three low : ℕ) → 55296 ≤ high → high < 56320 → low ≡ 53248 + three → 56320 ≤ low → low < 57344 → low_of high three ≡ Some (record { piece = Plain; added = Scalar (65536 + (high - 55296) * 1024 + (low - 56320)) })
low_code high three low from_high to_high e from_low to_low =
    let a : ltb high 55296 ≡ false = grind (arith, nat_tests) in
    let b : ltb three 3072 ≡ false = grind (arith, nat_tests) in
    let f : three - 3072 ≡ low - 56320 = omega arith in
    let top : 65536 + (high - 55296) * 1024 + (low - 56320) < 1114112 = omega arith in
    let c : leb 1114112 (65536 + (high - 55296) * 1024 + (low - 56320)) ≡ false = grind (arith, nat_tests) in
    rw (a, b, f, c) refl

pub pair_goes : (a b c d e f g h high low : ℕ) → AreHex a b c d high → 55296 ≤ high → high < 56320 → AreHex e f g h low → 56320 ≤ low → low < 57344 → (k : List Frame) (is_name : Bool) (bytes : List ℕ) (from n : ℕ)
    → Leads (92 ∷ 117 ∷ a ∷ b ∷ c ∷ d ∷ 92 ∷ 117 ∷ e ∷ f ∷ g ∷ h ∷ []) n (within k is_name Plain bytes from) (within k is_name Plain (bytes ++ utf8_of (halves high low)) from)
unfolding halves
pair_goes a b c d e f g h high low hex from_high to_high les from_low to_low k is_name bytes from n =
    let w = hex_is a hex.w hex.w_is in let x = hex_is b hex.x hex.x_is in let y = hex_is c hex.y hex.y_is in let z = hex_is d hex.z hex.z_is in
    let w' = hex_is e les.w les.w_is in let x' = hex_is f les.x les.x_is in let y' = hex_is g les.y les.y_is in let z' = hex_is h les.z les.z_is in
    let second : hex.w ≡ 13 → hex.x < 12 = second_is hex.w hex.x hex.y hex.z high x.1 y.1 z.1 hex.code_is to_high in
    let thirteen : les.w ≡ 13 = omega (arith, x'.1, y'.1, z'.1, les.code_is, from_low, to_low) in
    let twelve : 12 ≤ les.x = omega (arith, x'.1, y'.1, z'.1, les.code_is, from_low, thirteen) in
    let low_is : low ≡ 53248 + ((les.x * 16 + les.y) * 16 + les.z) = omega (arith, les.code_is, thirteen) in
    let top : 65536 + (high - 55296) * 1024 + (low - 56320) < 1114112 = omega arith in
    let after_twelve : leb 12 les.x ≡ true = grind (arith, nat_tests) in
    steps 92 _ n _ (within k is_name Slash bytes from) _ (onto k is_name Plain Slash bytes from n 92 (λ q p. absurd cc) refl)
    (steps 117 _ (n + 1) _ (within k is_name Units bytes from) _ (onto k is_name Slash Units bytes from (n + 1) 117 (λ q p. cc) refl)
    (steps a _ (n + 1 + 1) _ (within k is_name (Unit1 hex.w) bytes from) _ (digit_goes k is_name Units bytes from (n + 1 + 1) a hex.w (record { piece = Unit1 hex.w; added = Nothing }) bytes hex.w_is (rw hex.w_is refl) refl)
    (steps b _ (n + 1 + 1 + 1) _ (within k is_name (Unit2 (hex.w * 16 + hex.x)) bytes from) _ (digit_goes k is_name (Unit1 hex.w) bytes from (n + 1 + 1 + 1) b hex.x (record { piece = Unit2 (hex.w * 16 + hex.x); added = Nothing }) bytes hex.x_is (via_digit (Unit1 hex.w) b hex.x _ hex.x_is refl (second_digit hex.w hex.x second)) refl)
    (steps c _ (n + 1 + 1 + 1 + 1) _ (within k is_name (Unit3 ((hex.w * 16 + hex.x) * 16 + hex.y)) bytes from) _ (digit_goes k is_name (Unit2 (hex.w * 16 + hex.x)) bytes from (n + 1 + 1 + 1 + 1) c hex.y (record { piece = Unit3 ((hex.w * 16 + hex.x) * 16 + hex.y); added = Nothing }) bytes hex.y_is (rw hex.y_is refl) refl)
    (steps d _ (n + 1 + 1 + 1 + 1 + 1) _ (within k is_name (Pair high) bytes from) _ (digit_goes k is_name (Unit3 ((hex.w * 16 + hex.x) * 16 + hex.y)) bytes from (n + 1 + 1 + 1 + 1 + 1) d hex.z (record { piece = Pair high; added = Nothing }) bytes hex.z_is
    (via_digit (Unit3 ((hex.w * 16 + hex.x) * 16 + hex.y)) d hex.z _ hex.z_is refl (ap unit_of (sym hex.code_is) ∙ high_code high from_high to_high)) refl)
    (steps 92 _ (n + 1 + 1 + 1 + 1 + 1 + 1) _ (within k is_name (PairSlash high) bytes from) _ (onto k is_name (Pair high) (PairSlash high) bytes from _ 92 (λ q p. cc) refl)
    (steps 117 _ (n + 1 + 1 + 1 + 1 + 1 + 1 + 1) _ (within k is_name (Low high) bytes from) _ (onto k is_name (PairSlash high) (Low high) bytes from _ 117 (λ q p. cc) refl)
    (steps e _ (n + 1 + 1 + 1 + 1 + 1 + 1 + 1 + 1) _ (within k is_name (Low1 high) bytes from) _ (digit_goes k is_name (Low high) bytes from _ e les.w (record { piece = Low1 high; added = Nothing }) bytes les.w_is (via_digit (Low high) e les.w _ les.w_is refl (rw thirteen refl)) refl)
    (steps f _ (n + 1 + 1 + 1 + 1 + 1 + 1 + 1 + 1 + 1) _ (within k is_name (Low2 high les.x) bytes from) _ (digit_goes k is_name (Low1 high) bytes from _ f les.x (record { piece = Low2 high les.x; added = Nothing }) bytes les.x_is (via_digit (Low1 high) f les.x _ les.x_is refl (rw after_twelve refl)) refl)
    (steps g _ (n + 1 + 1 + 1 + 1 + 1 + 1 + 1 + 1 + 1 + 1) _ (within k is_name (Low3 high (les.x * 16 + les.y)) bytes from) _ (digit_goes k is_name (Low2 high les.x) bytes from _ g les.y (record { piece = Low3 high (les.x * 16 + les.y); added = Nothing }) bytes les.y_is (rw les.y_is refl) refl)
    (steps h _ (n + 1 + 1 + 1 + 1 + 1 + 1 + 1 + 1 + 1 + 1 + 1) _ _ _ (digit_goes k is_name (Low3 high (les.x * 16 + les.y)) bytes from _ h les.z (record { piece = Plain; added = Scalar (65536 + (high - 55296) * 1024 + (low - 56320)) }) (bytes ++ utf8_of (65536 + (high - 55296) * 1024 + (low - 56320))) les.z_is
    (via_digit (Low3 high (les.x * 16 + les.y)) h les.z _ les.z_is refl (low_code high ((les.x * 16 + les.y) * 16 + les.z) low from_high to_high low_is from_low to_low)) (scalar_adds bytes _ top)) (stays _ _))))))))))))
  where
    second_is : (w x y z code : ℕ) → x < 16 → y < 16 → z < 16 → code ≡ ((w * 16 + x) * 16 + y) * 16 + z → code < 56320 → w ≡ 13 → x < 12
    second_is w x y z code xs ys zs e lt is = omega arith

letter_goes : (c v : ℕ) → Letter c v → (k : List Frame) (is_name : Bool) (bytes : List ℕ) (from n : ℕ) → Leads (92 ∷ c ∷ []) n (within k is_name Plain bytes from) (within k is_name Plain (bytes ++ v ∷ []) from)
letter_goes c v l k is_name bytes from n =
    steps 92 (c ∷ []) n _ (within k is_name Slash bytes from) _ (onto k is_name Plain Slash bytes from n 92 (λ e p. absurd cc) refl)
    (steps c [] (n + 1) _ _ _ (grows k is_name Slash bytes from (n + 1) c (record { piece = Plain; added = Byte v }) (bytes ++ v ∷ []) (λ e p. cc) (letter_adds c v l) refl) (stays (n + 1 + 1) _))

as_is : (m m' stands stands' : List ℕ) → m ≡ m' → stands ≡ stands' → (k : List Frame) (is_name : Bool) (bytes : List ℕ) (from n : ℕ) → Leads m' n (within k is_name Plain bytes from) (within k is_name Plain (bytes ++ stands') from) → Leads m n (within k is_name Plain bytes from) (within k is_name Plain (bytes ++ stands) from)
as_is m m' stands stands' e f k is_name bytes from n l =
    subst (λ (x : List ℕ). Leads x n (within k is_name Plain bytes from) (within k is_name Plain (bytes ++ stands) from)) (sym e)
    (subst (λ (y : List ℕ). Leads m' n (within k is_name Plain bytes from) (within k is_name Plain (bytes ++ y) from)) (sym f) l)

-- bytes that stand for themselves
pub plain_go : (p : List ℕ) → ArePlain p → (k : List Frame) (is_name : Bool) (bytes : List ℕ) (from n : ℕ) → Leads p n (within k is_name Plain bytes from) (within k is_name Plain (bytes ++ p) from)
plain_go [] all k is_name bytes from n = subst (λ (x : List ℕ). Leads [] n (within k is_name Plain bytes from) (within k is_name Plain x from)) (sym (append-nil bytes)) (stays n (within k is_name Plain bytes from))
plain_go (b ∷ p) all k is_name bytes from n =
    subst (λ (x : List ℕ). Leads (b ∷ p) n (within k is_name Plain bytes from) (within k is_name Plain x from)) (append_assoc bytes (b ∷ []) p)
    (steps b p n (within k is_name Plain bytes from) (within k is_name Plain (bytes ++ b ∷ []) from) (within k is_name Plain ((bytes ++ b ∷ []) ++ p) from) (plain_goes k is_name bytes from n b all.0.low all.0.no_quote all.0.no_slash) (plain_go p all.1 k is_name (bytes ++ b ∷ []) from (n + 1)))

pub piece_goes : {m stands : List ℕ} → Piece m stands → (k : List Frame) (is_name : Bool) (bytes : List ℕ) (from n : ℕ) → Leads m n (within k is_name Plain bytes from) (within k is_name Plain (bytes ++ stands) from)
piece_goes (plain m stands r) k is_name bytes from n = as_is m _ stands _ r.is r.stands_is k is_name bytes from n (plain_go (encode_utf8 r.c) (char_plain r.c (record { low = r.low; no_quote = r.no_quote; no_slash = r.no_slash })) k is_name bytes from n)
piece_goes (letter m stands r) k is_name bytes from n = as_is m _ stands _ r.is r.stands_is k is_name bytes from n (letter_goes r.c r.v r.names k is_name bytes from n)
piece_goes (unit m stands r) k is_name bytes from n = as_is m _ stands _ r.is (r.stands_is ∙ sym (utf8_is r.code)) k is_name bytes from n (unit_goes r.a r.b r.c r.d r.code r.hex r.single k is_name bytes from n)
piece_goes (pair m stands r) k is_name bytes from n = as_is m _ stands _ r.is (r.stands_is ∙ sym (utf8_is (halves r.high r.low))) k is_name bytes from n (pair_goes r.a r.b r.c r.d r.e r.f r.g r.h r.high r.low r.first r.from_high r.to_high r.second r.from_low r.to_low k is_name bytes from n)

-- the pieces of a text
pub pieces_go : {raw bytes : List ℕ} → Pieces raw bytes → (k : List Frame) (is_name : Bool) (from n : ℕ) → Leads raw n (within k is_name Plain [] from) (within k is_name Plain bytes from)
pieces_go no_piece k is_name from n = stays n _
pieces_go (one_more raw piece bytes stands begun p) k is_name from n = leads_on (pieces_go begun k is_name from n) piece (n + length raw) _ refl (piece_goes p k is_name bytes from (n + length raw))

quote_ends : (k : List Frame) (bytes : List ℕ) (from n : ℕ) → text_of bytes ≡ Some bytes → (step_of (within k false Plain bytes from) n 34).next ≡ Some (at k (After (trees.Text bytes)))
unfolding step_of
quote_ends k bytes from n utf8 = rw utf8 refl

name_ends : (k : List Frame) (ms : List Member) (bytes : List ℕ) (from n : ℕ) → text_of bytes ≡ Some bytes → (step_of (within (frames.Object ms ∷ k) true Plain bytes from) n 34).next ≡ Some (at (frames.Member ms bytes ∷ k) Colon)
unfolding step_of
name_ends k ms bytes from n utf8 = rw utf8 refl

quote_begins : (k : List Frame) (n : ℕ) → (step_of (at k Value) n 34).next ≡ Some (within k false Plain [] n)
unfolding step_of
quote_begins k n = refl

name_begins : (k : List Frame) (n : ℕ) → (step_of (at k Name) n 34).next ≡ Some (within k true Plain [] n)
unfolding step_of
name_begins k n = refl

-- a text that is a value
pub text_goes : (m bytes : List ℕ) → Quoted m bytes → (k : List Frame) (n : ℕ) → Leads m n (at k Value) (at k (After (trees.Text bytes)))
text_goes m bytes q k n =
    subst (λ (x : List ℕ). Leads x n (at k Value) (at k (After (trees.Text bytes)))) (sym q.is)
    (steps 34 (q.raw ++ 34 ∷ []) n (at k Value) (within k false Plain [] n) (at k (After (trees.Text bytes))) (quote_begins k n)
    (leads_on (pieces_go q.pieces k false n (n + 1)) (34 ∷ []) (n + 1 + length q.raw) (at k (After (trees.Text bytes))) refl
    (steps 34 [] (n + 1 + length q.raw) (within k false Plain bytes n) (at k (After (trees.Text bytes))) (at k (After (trees.Text bytes))) (quote_ends k bytes n (n + 1 + length q.raw) (text_is bytes (pieces_utf8 q.pieces))) (stays (n + 1 + length q.raw + 1) (at k (After (trees.Text bytes)))))))

-- a text that is a name
pub name_goes : (m bytes : List ℕ) → Quoted m bytes → (k : List Frame) (ms : List Member) (n : ℕ) → Leads m n (at (frames.Object ms ∷ k) Name) (at (frames.Member ms bytes ∷ k) Colon)
name_goes m bytes q k ms n =
    let named : State = at (frames.Member ms bytes ∷ k) Colon in
    subst (λ (x : List ℕ). Leads x n (at (frames.Object ms ∷ k) Name) named) (sym q.is)
    (steps 34 (q.raw ++ 34 ∷ []) n (at (frames.Object ms ∷ k) Name) (within (frames.Object ms ∷ k) true Plain [] n) named (name_begins (frames.Object ms ∷ k) n)
    (leads_on (pieces_go q.pieces (frames.Object ms ∷ k) true n (n + 1)) (34 ∷ []) (n + 1 + length q.raw) named refl
    (steps 34 [] (n + 1 + length q.raw) (within (frames.Object ms ∷ k) true Plain bytes n) named named (name_ends k ms bytes n (n + 1 + length q.raw) (text_is bytes (pieces_utf8 q.pieces))) (stays (n + 1 + length q.raw + 1) named))))

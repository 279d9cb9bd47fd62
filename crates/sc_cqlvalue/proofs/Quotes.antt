-- One step of a text in quotes: a pair, or a byte that is itself.
use Rattle.std.proofs.Common.{◌≡◌, ℕ, ◌+◌, ◌<◌, ◌≤◌, List, [], ◌∷◌, ◌++◌, length, get_or, drop, true, false, refl, add-one, drop-cons, append_assoc, arith}
use Rattle.std.proofs.lemmas.List.{length-drop}
use Rattle.std.proofs.Math.ListN.{drop_of_length-le}
use Rattle.std.proofs.Math.Seq.{drop-drop}
use Rattle.sc_cqlvalue.specs.Literals.{is_pair, unescaped}

pair_long : (quote mark : ℕ) (bytes : List ℕ) → is_pair quote mark bytes ≡ true → 2 ≤ length bytes
pair_long quote mark [] h = cc
pair_long quote mark (a ∷ []) h = cc
pair_long quote mark (a ∷ b ∷ bytes) h = omega arith

pub pair_within : (quote mark : ℕ) (bytes : List ℕ) (at : ℕ) → is_pair quote mark (drop at bytes) ≡ true → at + 2 ≤ length bytes
pair_within quote mark bytes at h = omega (arith, pair_long quote mark (drop at bytes) h, length-drop at bytes)

pub pair_here : (quote mark : ℕ) (bytes : List ℕ) → is_pair quote mark bytes ≡ true → unescaped quote mark bytes ≡ quote ∷ unescaped quote mark (drop 2 bytes)
unfolding unescaped
pair_here quote mark [] h = cc
pair_here quote mark (a ∷ []) h = cc
pair_here quote mark (a ∷ b ∷ bytes) h = rw h refl

pub byte_here : (quote mark a : ℕ) (bytes : List ℕ) → is_pair quote mark (a ∷ bytes) ≡ false → unescaped quote mark (a ∷ bytes) ≡ a ∷ unescaped quote mark bytes
unfolding unescaped
byte_here quote mark a [] h = refl
byte_here quote mark a (b ∷ bytes) h = rw h refl

pub pair_on : (quote mark : ℕ) (bytes : List ℕ) (at : ℕ) → is_pair quote mark (drop at bytes) ≡ true → unescaped quote mark (drop at bytes) ≡ quote ∷ unescaped quote mark (drop (at + 2) bytes)
pair_on quote mark bytes at h = rw (← drop-drop 2 at bytes) (pair_here quote mark (drop at bytes) h)

pub byte_on : (quote mark : ℕ) (bytes : List ℕ) (at : ℕ) → at < length bytes → is_pair quote mark (drop at bytes) ≡ false → unescaped quote mark (drop at bytes) ≡ get_or bytes at 0 ∷ unescaped quote mark (drop (at + 1) bytes)
byte_on quote mark bytes at lt h =
    let cut : drop at bytes ≡ get_or bytes at 0 ∷ drop (at + 1) bytes = rw (add-one, drop-cons bytes at 0) refl in
    let k = rw cut at h in
    rw cut (byte_here quote mark (get_or bytes at 0) (drop (at + 1) bytes) k)

pub none_left : (quote mark : ℕ) (bytes : List ℕ) (at : ℕ) → length bytes ≤ at → unescaped quote mark (drop at bytes) ≡ []
unfolding unescaped
none_left quote mark bytes at le = rw (drop_of_length-le bytes le) refl

pub goes_on : (done rest more whole now : List ℕ) (byte : ℕ) → done ++ rest ≡ whole → rest ≡ byte ∷ more → now ≡ done ++ byte ∷ [] → now ++ more ≡ whole
goes_on done rest more whole now byte so_far here added = let e : (done ++ byte ∷ []) ++ more ≡ done ++ (byte ∷ more) = append_assoc done (byte ∷ []) more in cc

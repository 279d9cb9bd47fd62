-- How far a head within the limits may reach (RFC 9112, section 2.2 has the empty lines before it).
use Rattle.std.specs.Prelude.{◌≡◌, ℕ, ◌+◌, ◌<◌, ◌≤◌, ◌⊎◌, ◌++◌, Bool, true, false, ◌==◌, List, [], ◌∷◌, length, if◌then◌else◌}

-- the line feeds behind the first byte that is neither CR nor LF, which has come or hasn't
abbrev pub feeds_behind : Bool → List ℕ → ℕ
feeds_behind begun [] = 0
feeds_behind begun (b ∷ bytes) =
    if b == 10 then (if begun then 1 + feeds_behind true bytes else feeds_behind false bytes)
    else (if b == 13 then feeds_behind begun bytes else feeds_behind true bytes)

-- whether a byte that is neither CR nor LF has come
abbrev pub begun_after : Bool → List ℕ → Bool
begun_after begun [] = begun
begun_after begun (b ∷ bytes) = if b == 10 then begun_after begun bytes else (if b == 13 then begun_after begun bytes else begun_after true bytes)

-- as many bytes, or as many lines behind the empty ones, as a head within the limits has at its end
abbrev pub IsOver : List ℕ → Type 0
IsOver bytes = (65536 ≤ length bytes) ⊎ (66 ≤ feeds_behind false bytes)

-- fewer of both
abbrev pub IsShort : List ℕ → Type 0
IsShort bytes = (length bytes < 65536) × (feeds_behind false bytes < 66)

-- the bytes are over, and the front ends with the byte by which they come to be
pub record IsFirstOver (bytes front : List ℕ) : Type 0 where
  pub before : List ℕ
  pub last : ℕ
  pub rest : List ℕ
  pub parts : bytes ≡ before ++ (last ∷ rest)
  pub front_is : front ≡ before ++ (last ∷ [])
  pub short : IsShort before
  pub over : IsOver front

-- the front in which a head within the limits ends if it is there: up to the byte by which the bytes come to be over, or all of them
abbrev pub IsRoom : List ℕ → List ℕ → Type 0
IsRoom bytes front = ((bytes ≡ front) × IsShort front) ⊎ IsFirstOver bytes front

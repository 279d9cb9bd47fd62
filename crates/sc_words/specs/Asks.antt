-- The words behind the program's name, and what they ask for.
use Rattle.std.specs.Prelude.{◌≡◌, ℕ, ◌+◌, ◌*◌, ◌-◌, ◌<◌, ◌≤◌, min, List, [], ◌∷◌, length, codes, All}
use Rattle.sc_words.specs.Forms.{IsPlainWord}
use Rattle.sc_words.specs.declared.command.Command.{Command}
use Rattle.sc_words.specs.declared.command.Command.TheVariants.{Page, Pipe, Serve, Keep}
use Rattle.sc_words.specs.declared.command.Serving.{Serving}
use Rattle.sc_words.specs.declared.command.Keeping.{Keeping}

-- the number that digits stand for, behind the number n
abbrev pub number_behind : ℕ → List ℕ → ℕ
number_behind n [] = n
number_behind n (d ∷ ds) = number_behind (10 * n + (d - 48)) ds

-- the byte is a digit
abbrev pub IsDigit : ℕ → Type 0
IsDigit b = (48 ≤ b) × (b ≤ 57)

-- one or more digits, whose number is within the range; zeros may lead
pub record IsNumber (low high : ℕ) (word : List ℕ) (n : ℕ) : Type 0 where
  pub some : 0 < length word
  pub digits : All IsDigit word
  pub is : n ≡ number_behind 0 word
  pub above : low ≤ n
  pub below : n ≤ high

-- one or more digits that aren't all zero; above 10,000 the limit is 10,000
pub record IsLimit (word : List ℕ) (most : ℕ) : Type 0 where
  pub some : 0 < length word
  pub digits : All IsDigit word
  pub positive : 0 < number_behind 0 word
  pub limit : most ≡ min (number_behind 0 word) 10000

-- `serve`, a port, workers, tighteners and connections, each within its range
pub record AreServeWords (words : List (List ℕ)) (serving : Serving) : Type 0 where
  pub port : List ℕ
  pub workers : List ℕ
  pub tighteners : List ℕ
  pub connections : List ℕ
  pub are : words ≡ codes "serve" ∷ port ∷ workers ∷ tighteners ∷ connections ∷ []
  pub port_is : IsNumber 1 65535 port serving.port
  pub workers_are : IsNumber 1 8 workers serving.workers
  pub tighteners_are : IsNumber 1 8 tighteners serving.tighteners
  pub connections_are : IsNumber 1 1000000 connections serving.connections

-- `keep`, a port, workers and connections, each within its range, and a file, which doesn't begin with `-`
pub record AreKeepWords (words : List (List ℕ)) (keeping : Keeping) : Type 0 where
  pub port : List ℕ
  pub workers : List ℕ
  pub connections : List ℕ
  pub are : words ≡ codes "keep" ∷ port ∷ workers ∷ connections ∷ keeping.file.now ∷ []
  pub port_is : IsNumber 1 65535 port keeping.port
  pub workers_are : IsNumber 1 8 workers keeping.workers
  pub connections_are : IsNumber 1 1000000 connections keeping.connections
  pub plain : IsPlainWord keeping.file.now

-- the words ask for the command; a base doesn't begin with `-`
abbrev pub Asks : List (List ℕ) → Command → Type 0
Asks words (Page limit) = (word : List ℕ) × (words ≡ codes "page" ∷ word ∷ []) × IsLimit word limit
Asks words (Pipe base) = (words ≡ codes "pipe" ∷ base.now ∷ []) × IsPlainWord base.now
Asks words (Serve serving) = AreServeWords words serving
Asks words (Keep keeping) = AreKeepWords words keeping

-- the words are no command
abbrev pub AsksNothing : List (List ℕ) → Type 0
AsksNothing words = (command : Command) → Asks words command → ⊥

-- The parts of one collection, which stand together. No public clause cites it.
use Rattle.std.specs.Prelude.{◌≡◌, ◌≢◌, ℕ, List, ◌++◌, All}
use Rattle.sc_history.specs.Part.{Part}

-- these are the parts of the collection
pub record IsRunOf (collection : List ℕ) (parts run : List Part) : Type 0 where
  pub before : List Part
  pub after : List Part
  pub whole : parts ≡ before ++ (run ++ after)
  pub others : All (λ part. part.name.collection ≢ collection) before
  pub of : All (λ part. part.name.collection ≡ collection) run
  pub behind : All (λ part. part.name.collection ≢ collection) after

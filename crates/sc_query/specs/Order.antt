-- In which order the items of a search come, and behind which place (STAC API, Sort extension; a token stands for a place).
use Rattle.std.specs.Prelude.{◌≡◌, ◌≢◌, ℕ, true, List, [], ◌∷◌, Option, Some, None, Result, Ok, Err}
use Rattle.sc_sort.specs.declared.key.Key.{Key}
use Rattle.sc_sort.specs.declared.fault.SortFault.{SortFault}
use Rattle.sc_sort.specs.Keys.{Keys}
use Rattle.sc_sort.specs.Words.{datetime_name}
use Rattle.sc_sort.specs.Sorts.{sort_of_text, sort_of_tree}
use Rattle.sc_token.specs.declared.fault.TokenFault.{TokenFault}
use Rattle.sc_token.specs.declared.fault.TokenFault.TheVariants.{WrongKind, OutOfMemory}
use Rattle.sc_token.specs.Reading as tokens
use Rattle.sc_query.specs.declared.fault.QueryFault.{QueryFault}
use Rattle.sc_query.specs.declared.fault.QueryFault.TheVariants.{BadSort, BadToken}
use Rattle.sc_query.specs.Given.{Parameter, in_text, in_tree, text_given}

abbrev pub sort_from : Result (List Key) SortFault → Result (List Key) QueryFault
sort_from (Ok keys) = Ok keys
sort_from (Err fault) = Err (BadSort fault)

-- the latest first where no sort is given
abbrev pub sort_given : Option Parameter → Result (List Key) QueryFault
sort_given None = Ok (record { name = datetime_name; down = true } ∷ [])
sort_given (Some (in_text text)) = sort_from (sort_of_text text)
sort_given (Some (in_tree tree)) = sort_from (sort_of_tree tree)

-- the place whose token under this sort is given; the fault tells why it is none
pub data TokenReads (sort : List Key) (given : Parameter) : Result Keys QueryFault → Type 0 where
  place : (text : List ℕ) (keys : Keys) → text_given given ≡ Some text → tokens.Answers sort text (Ok keys) → TokenReads sort given (Ok keys)
  no_place : (text : List ℕ) (fault : TokenFault) → text_given given ≡ Some text → tokens.Answers sort text (Err fault) → fault ≢ OutOfMemory → TokenReads sort given (Err (BadToken fault))
  no_text : text_given given ≡ None → TokenReads sort given (Err (BadToken WrongKind))

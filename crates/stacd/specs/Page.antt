-- What a call of `page` does.
use Rattle.std.specs.Prelude.{◌≡◌, ℕ, ◌^◌, Bool, true, ◌||◌, nat_lt, List, [], ◌∷◌, ◌++◌, length}
use Rattle.std.specs.declared.option.Option.{Option}
use Rattle.std.specs.Io.KnownBytes.{Appends, Consumes, Keeps}
use Rattle.sc_outside.specs.Outside.{AppendsFront}
use Rattle.sc_item.specs.Feature.{Feature}
use Rattle.sc_outside.specs.Lines.{lines_to_read}
use Rattle.sc_page.specs.Order.{default_order}
use Rattle.sc_page.specs.Page.{every_item, bare_page_text, IsFlatPage}
use Rattle.stacd.specs.Lines.{AreItems, IsFirstBad}
use Rattle.stacd.specs.declared.fault.LineFault.{LineFault}
use Rattle.stacd.specs.declared.fault.LineFault.TheVariants as faults
use Rattle.stacd.specs.declared.page.PageEnd.{PageEnd}
use Rattle.stacd.specs.declared.page.PageEnd.TheVariants.{Done, BadLine, ReadFault, WriteFault, OutOfMemory}

-- The lines to judge among the bytes taken: a line that isn't whole is one only at the end of the input, or past the limit.
abbrev pub lines_to_judge : List ℕ → Bool → List (List ℕ)
lines_to_judge taken ended = lines_to_read (ended || nat_lt (2 ^ 28) (length taken)) taken

-- the lines are items, and the text is their page and a line feed
pub record IsAnswer (lines : List (List ℕ)) (limit : ℕ) (text : List ℕ) : Type 0 where
  pub items : List Feature
  pub are : AreItems lines items
  pub page : List Feature
  pub flat : IsFlatPage every_item default_order limit items page
  pub is : text ≡ bare_page_text page ++ 10 ∷ []

-- how the call ends on the lines to judge, and what it leaves of the sink
abbrev pub EndsOn : PageEnd → ℕ → List (List ℕ) → Bool → Option (List ℕ) → Option (List ℕ) → Type 0
EndsOn Done limit lines ended old new = (ended ≡ true) × (text : List ℕ) × IsAnswer lines limit text × Appends old new text
EndsOn (BadLine n) limit lines ended old new = IsFirstBad lines n × Keeps old new
EndsOn ReadFault limit lines ended old new = (items : List Feature) × AreItems lines items × Keeps old new
EndsOn WriteFault limit lines ended old new = (ended ≡ true) × (text : List ℕ) × IsAnswer lines limit text × AppendsFront old new text
EndsOn OutOfMemory limit lines ended old new = Keeps old new

-- The call took these bytes, and ended on their lines.
pub record PageRan (end : PageEnd) (limit : ℕ) (left left' : Option (List ℕ)) (ended : Bool) (old new : Option (List ℕ)) : Type 0 where
  pub taken : List ℕ
  pub took : Consumes left left' taken
  pub ends : EndsOn end limit (lines_to_judge taken ended) ended old new

-- what a fault of the lines ends a call with
abbrev pub end_of_fault : LineFault → PageEnd
end_of_fault (faults.BadLine n) = BadLine n
end_of_fault faults.OutOfMemory = OutOfMemory

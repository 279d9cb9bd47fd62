-- Parts on both sides of a name. No public clause cites it.
use Rattle.std.specs.Prelude.{◌≡◌, List, ◌++◌, Option, IfSome, All}
use Rattle.std.specs.Option.{option_to_list}
use Rattle.std.specs.declared.cmp.Ordering.TheVariants.{Less}
use Rattle.sc_cut.specs.declared.name.PartName.{PartName}
use Rattle.sc_history.specs.Names.{name_order}
use Rattle.sc_history.specs.Part.{Part}

-- the parts whose names come before the name, the part that has it, if there is one, and the parts whose names come after
pub record IsSplit (name : PartName) (parts before : List Part) (here : Option Part) (after : List Part) : Type 0 where
  pub whole : parts ≡ before ++ (option_to_list here ++ after)
  pub below : All (λ part. name_order part.name name ≡ Less) before
  pub named : IfSome here (λ part. part.name ≡ name)
  pub above : All (λ part. name_order name part.name ≡ Less) after

-- The load of a tree by the kind of step, and the fault of a line's text. No public clause cites it.
use Rattle.std.specs.Prelude.{true, false, Option, None}
use Rattle.sc_json.specs.declared.tree.Json.{Json}
use Rattle.sc_json.specs.declared.fault.JsonFault.{JsonFault}
use Rattle.sc_json.specs.declared.fault.JsonFault.TheVariants as json
use Rattle.sc_script.specs.declared.step.Draft.{Draft}
use Rattle.sc_script.specs.declared.step.StepFault.{StepFault}
use Rattle.sc_script.specs.declared.step.StepFault.TheVariants as fault
use Rattle.sc_script.specs.declared.kind.Kind.{Kind}
use Rattle.sc_script.specs.declared.kind.Kind.TheVariants as kind
use Rattle.sc_script.specs.Step.{add_of, drop_of, items_of, replace_of, patch_of, delete_of}

abbrev pub draft_of : Kind → Json → Option Draft
draft_of kind.Add tree = add_of tree
draft_of kind.Drop tree = drop_of tree
draft_of kind.Insert tree = items_of false tree
draft_of kind.Upsert tree = items_of true tree
draft_of kind.Replace tree = replace_of tree
draft_of kind.Patch tree = patch_of tree
draft_of kind.Delete tree = delete_of tree
draft_of kind tree = None

-- want of memory is told, and every other fault of a line's text is a bad step
abbrev pub fault_of : JsonFault → StepFault
fault_of json.OutOfMemory = fault.OutOfMemory
fault_of other = fault.BadStep

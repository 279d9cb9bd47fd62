-- A line spells one tree, so it is the step that its tree is, or none.
use Rattle.std.proofs.Common.{◌≡◌, ℕ, List, Some, None, Err, ap, ◌∙◌}
use Rattle.sc_json.specs.declared.tree.Json.{Json}
use Rattle.sc_json.specs.declared.fault.JsonFault.{JsonFault}
use Rattle.sc_json.specs.declared.fault.JsonFault.TheVariants as json
use Rattle.sc_json.specs.Spells.{Spells}
use Rattle.sc_json.specs.Faults as faults
use Rattle.sc_json.specs.Faults.{JsonFaultOf}
use Rattle.sc_json.proofs.Spelled.{spelled_once}
use Rattle.sc_json.proofs.Answered.{fault_excludes}
use Rattle.sc_script.specs.Step.{Answers, IsNoStep, step_of}
use Rattle.sc_script.specs.Drafts.{fault_of}

excluded : (line : List ℕ) (fault : JsonFault) → JsonFaultOf line fault → IsNoStep line
excluded line fault f step s = fault_excludes line fault s.tree f s.spelled

-- a fault of the line's text
pub faulty : (line : List ℕ) (fault : JsonFault) → faults.Answers line (Err fault) → Answers line (Err (fault_of fault))
faulty line (json.Syntax at) f = excluded line (json.Syntax at) f
faulty line (json.Duplicate at) f = excluded line (json.Duplicate at) f
faulty line (json.TooDeep at) f = excluded line (json.TooDeep at) f
faulty line (json.NumberTooWide at) f = excluded line (json.NumberTooWide at) f
faulty line (json.NotUtf8 at) f = excluded line (json.NotUtf8 at) f
faulty line json.OutOfMemory f = tt

-- a tree that is no step
pub no_step : (line : List ℕ) (tree : Json) → Spells line tree → None ≡ step_of tree → IsNoStep line
no_step line tree spelled none step s =
    let same : tree ≡ s.tree = spelled_once line tree s.tree spelled.text s.spelled.text in
    let e : None ≡ Some step = none ∙ ap step_of same ∙ s.is in
    absurd cc

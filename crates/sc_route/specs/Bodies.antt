-- The body of a request as JSON.
use Rattle.std.specs.Prelude.{◌≡◌, []}
use Rattle.sc_json.specs.declared.tree.Json.{Json}
use Rattle.sc_json.specs.declared.fault.JsonFault.{JsonFault}
use Rattle.sc_json.specs.Spells.{Spells}
use Rattle.sc_json.specs.Faults.{JsonFaultOf}
use Rattle.sc_http.specs.declared.request.Request.{Request}
use Rattle.sc_http.specs.Headers.{length_name, values_of}
use Rattle.sc_refusal.specs.declared.fault.RouteFault.{RouteFault}
use Rattle.sc_refusal.specs.declared.fault.RouteFault.TheVariants.{NoRoute, NoMethod, NoLength, BadBody, BadLoad, BadQuery, BadSeen, OutOfMemory}

-- no header tells a length (RFC 9110, section 8.6)
abbrev pub HasNoLength : Request → Type 0
HasNoLength q = values_of length_name q.headers ≡ []

-- the body is told the length of, and spells the tree, whatever its media type
pub record HasBody (q : Request) (tree : Json) : Type 0 where
  pub told : ¬ (HasNoLength q)
  pub spells : Spells q.body tree

-- the body is told the length of, and spells no tree for this reason
pub record HasBadBody (q : Request) (fault : JsonFault) : Type 0 where
  pub told : ¬ (HasNoLength q)
  pub bad : JsonFaultOf q.body fault

-- why the tree of a body can't be read: it has no length, or it is bad; want of memory says nothing
abbrev pub IsBodyFault : Request → RouteFault → Type 0
IsBodyFault q NoRoute = ⊥
IsBodyFault q (NoMethod allow) = ⊥
IsBodyFault q NoLength = HasNoLength q
IsBodyFault q (BadBody fault) = HasBadBody q fault
IsBodyFault q (BadLoad fault) = ⊥
IsBodyFault q (BadQuery fault) = ⊥
IsBodyFault q BadSeen = ⊥
IsBodyFault q OutOfMemory = Unit {0}

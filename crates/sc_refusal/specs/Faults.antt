-- The fault of a request that comes of another: want of memory is told as such.
use Rattle.sc_json.specs.declared.fault.JsonFault.{JsonFault}
use Rattle.sc_json.specs.declared.fault.JsonFault.TheVariants as json
use Rattle.sc_load.specs.declared.fault.PrepareFault.{PrepareFault}
use Rattle.sc_load.specs.declared.fault.PrepareFault.TheVariants as prepare
use Rattle.sc_query.specs.declared.fault.QueryFault.{QueryFault}
use Rattle.sc_query.specs.declared.fault.QueryFault.TheVariants as query
use Rattle.sc_refusal.specs.declared.fault.RouteFault.{RouteFault}
use Rattle.sc_refusal.specs.declared.fault.RouteFault.TheVariants.{BadBody, BadLoad, BadQuery, OutOfMemory}

abbrev pub of_json : JsonFault → RouteFault
of_json json.OutOfMemory = OutOfMemory
of_json fault = BadBody fault

abbrev pub of_prepare : PrepareFault → RouteFault
of_prepare prepare.OutOfMemory = OutOfMemory
of_prepare fault = BadLoad fault

abbrev pub of_query : QueryFault → RouteFault
of_query query.OutOfMemory = OutOfMemory
of_query fault = BadQuery fault

use Rattle.std.proofs.Common.{rules, ◌≡◌, ap}
use Rattle.matchit.specs.Router.{InsertsRead}
use Rattle.matchit.specs.Route.{parse_route}
use Rattle.sc_place.specs.Endpoints.{route_text}
use Rattle.sc_place.proofs.Adds.{Adds, inserted}
use Rattle.sc_place.proofs.Conflicts.{higher, only_memory}
use Rattle.sc_place.proofs.endpoint.add.Goals as goal
use Rattle.sc_place.proofs.endpoint.add.Goals.{in-Ok, in-Err-OutOfMemory}

pub returns-clause-each : goal.returns-clause-each
returns-clause-each c = (inserted c.args.endpoint c.args.router.now c.insert.new.self c.insert.result (rw c.text_of.ensures at c.insert.ensures)).0 c.requires.each

pub returns-clause-keeps : goal.returns-clause-keeps
returns-clause-keeps c = (inserted c.args.endpoint c.args.router.now c.insert.new.self c.insert.result (rw c.text_of.ensures at c.insert.ensures)).1

pub returns-clause-serves : goal.returns-clause-serves
returns-clause-serves c =
    let h = (inserted c.args.endpoint c.args.router.now c.insert.new.self c.insert.result (rw c.text_of.ensures at c.insert.ensures)).2 in
    elim c.match-insert.branch [
      | in-Ok w ↦ rw w.result-is (rw w.in-Ok.is at h)
      | in-Err-OutOfMemory w ↦ rw w.result-is tt
    ]

pub returns-clause-below : goal.returns-clause-below
returns-clause-below c = higher c.args.endpoint c.args.router.now c.insert.new.self c.insert.result (rw c.text_of.ensures at c.insert.ensures) c.requires.below

pub unreachable-requires : goal.unreachable-requires
unreachable-requires c =
    let m = only_memory c.args.endpoint c.args.router.now c.insert.new.self c.in-Err-Conflict.field-0 c.requires.each c.requires.below (rw c.text_of.ensures at c.in-Err-Conflict.ensures) in
    let e = c.in-Err-Conflict.field-0-is in
    cc

pub unreachable-requires-in-Err-InvalidParamSegment : goal.unreachable-requires-in-Err-InvalidParamSegment
unreachable-requires-in-Err-InvalidParamSegment c =
    let m = only_memory c.args.endpoint c.args.router.now c.insert.new.self c.in-Err-InvalidParamSegment.field-0 c.requires.each c.requires.below (rw c.text_of.ensures at c.in-Err-InvalidParamSegment.ensures) in
    let e = c.in-Err-InvalidParamSegment.field-0-is in
    cc

pub unreachable-requires-in-Err-InvalidParam : goal.unreachable-requires-in-Err-InvalidParam
unreachable-requires-in-Err-InvalidParam c =
    let m = only_memory c.args.endpoint c.args.router.now c.insert.new.self c.in-Err-InvalidParam.field-0 c.requires.each c.requires.below (rw c.text_of.ensures at c.in-Err-InvalidParam.ensures) in
    let e = c.in-Err-InvalidParam.field-0-is in
    cc

pub unreachable-requires-in-Err-InvalidCatchAll : goal.unreachable-requires-in-Err-InvalidCatchAll
unreachable-requires-in-Err-InvalidCatchAll c =
    let m = only_memory c.args.endpoint c.args.router.now c.insert.new.self c.in-Err-InvalidCatchAll.field-0 c.requires.each c.requires.below (rw c.text_of.ensures at c.in-Err-InvalidCatchAll.ensures) in
    let e = c.in-Err-InvalidCatchAll.field-0-is in
    cc

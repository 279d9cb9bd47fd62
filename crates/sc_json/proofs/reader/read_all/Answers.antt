use Rattle.std.proofs.Common.{ℕ, ◌+◌, ◌<◌, length, drop, sym, subst, ◌∙◌, arith, Result, Err}
use Rattle.sc_json.specs.declared.tree.Json.{Json}
use Rattle.sc_json.specs.declared.fault.JsonFault.{JsonFault}
use Rattle.sc_json.specs.Machine.{Reads, read_from, read_of, fault_of}
use Rattle.sc_json.proofs.Run.{after_run, reads_on, stops, ends, ends_badly}
use Rattle.sc_json.proofs.reader.read_all.Goals as goal

pub returns-in-Err : goal.returns-in-Err
returns-in-Err c =
    let bs = c.args.bytes.now in let i = c.reading.at in let j : ℕ = i + c.in_ok-at.field-0 in
    let r = after_run bs i c.in_ok-at.field-0 c.reading.state c.run.new.state c.reading.invariant.within c.in_ok-at.ensures in
    let lt : j < length bs = omega (arith, r.0) in
    subst (λ (x : JsonFault). Reads (Err x) (read_of bs)) (sym c.at_place.ensures)
    (subst (λ (x : Result Json JsonFault). Reads (Err (fault_of j c.in-Err.fault)) x) (sym r.1 ∙ c.reading.invariant.same)
    (stops bs j j c.run.new.state c.in-Err.fault lt c.in-Err.ensures))

pub reading-preserved : goal.reading-preserved
reading-preserved c =
    let bs = c.args.bytes.now in let i = c.reading.at in let j : ℕ = i + c.in_ok-at.field-0 in
    let r = after_run bs i c.in_ok-at.field-0 c.reading.state c.run.new.state c.reading.invariant.within c.in_ok-at.ensures in
    let lt : j < length bs = omega (arith, r.0) in
    let k = c.in-Ok.ensures in
    record { within = omega (arith, r.0); same = sym (reads_on bs j j c.run.new.state c.step.new.state lt k.0 k.1) ∙ (sym r.1 ∙ c.reading.invariant.same) }

pub returns-in-Ok-finish : goal.returns-in-Ok-finish
returns-in-Ok-finish c =
    let bs = c.args.bytes.now in let i = c.reading.at in let j : ℕ = i + c.in_ok-at.field-0 in
    let r = after_run bs i c.in_ok-at.field-0 c.reading.state c.run.new.state c.reading.invariant.within c.in_ok-at.ensures in
    sym (sym r.1 ∙ c.reading.invariant.same) ∙ ends bs j j c.run.new.state c.in-Ok-finish.tree (omega arith) c.in-Ok-finish.ensures

pub returns-in-Err-finish : goal.returns-in-Err-finish
returns-in-Err-finish c =
    let bs = c.args.bytes.now in let i = c.reading.at in let j : ℕ = i + c.in_ok-at.field-0 in
    let r = after_run bs i c.in_ok-at.field-0 c.reading.state c.run.new.state c.reading.invariant.within c.in_ok-at.ensures in
    let f = c.in-Err-finish.fault in
    subst (λ (x : JsonFault). Reads (Err x) (read_of bs)) (sym c.at_place-in-Err-finish.ensures)
    (subst (λ (x : Result Json JsonFault). Reads (Err (fault_of (length bs) f)) x) (sym r.1 ∙ c.reading.invariant.same)
    (subst (λ (n : ℕ). Reads (Err (fault_of n f)) (read_from (drop j bs) j c.run.new.state)) c.if-at-bytes.true
    (ends_badly bs j j c.run.new.state f (omega arith) c.in-Err-finish.ensures)))

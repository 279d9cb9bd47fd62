-- Steps of reading parameters in turn.
use Rattle.std.proofs.Common.{◌≡◌, ◌≢◌, Option, None, Result, Ok, Err, sym, ap, subst, ◌∙◌}
use Rattle.std.specs.Prelude.{IsErrAnd}
use Rattle.std.proofs.lemmas.Result.{err_from_is_err_and}
use Rattle.sc_json.specs.declared.tree.Json.{Json}
use Rattle.sc_json.specs.Views.{object_of}
use Rattle.sc_expr.specs.declared.expr.Expr.{Expr}
use Rattle.sc_expr.specs.Query.{Asked}
use Rattle.sc_query.specs.declared.fault.QueryFault.{QueryFault}
use Rattle.sc_query.specs.declared.fault.QueryFault.TheVariants.{OutOfMemory}
use Rattle.sc_query.specs.declared.filter.Language.{Language}
use Rattle.sc_query.specs.Words.{language_name, crs_name, filter_name}
use Rattle.sc_query.specs.Given.{Parameters, of_body}
use Rattle.sc_query.specs.Filters.{language_given, crs_given, FilterReads}
use Rattle.sc_query.specs.Query.{FilterOf, QueryOf, QueryOfBody, object_judged}
use Rattle.sc_query.specs.Reading.{Optional, goes_on, Answers}

-- the filter, behind its language and its coordinate system
pub filter_read : (given : Parameters) (named : Option Language) (result : Result (Option Expr) QueryFault) → Ok named ≡ language_given (given language_name) → Ok tt ≡ crs_given (given crs_name) → Answers (Optional (FilterReads named) (given filter_name)) result → Answers (FilterOf given) result
filter_read given named (Ok filter) language crs h = goes_on named (Ok filter) language (goes_on tt (Ok filter) crs h)
filter_read given named (Err fault) language crs h = λ ne. goes_on named (Err fault) language (goes_on tt (Err fault) crs (h ne))

-- the query of a body that is an object
pub body_read : (body : Json) (result : Result Asked QueryFault) → Ok tt ≡ object_judged (object_of body) → Answers (QueryOf None (of_body body)) result → Answers (QueryOfBody body) result
body_read body (Ok query) object h = goes_on tt (Ok query) object h
body_read body (Err fault) object h = λ ne. goes_on tt (Err fault) object (h ne)

-- what a fault that is passed on answers
pub passed_on : {B : Type 0} (Reads : Result B QueryFault → Type 0) (result : Result B QueryFault) (fault : QueryFault) → IsErrAnd result (λ y. y ≡ fault) → Answers Reads (Err fault) → Answers Reads result
passed_on Reads result fault e h =
    let p = err_from_is_err_and result e in
    subst (Answers Reads) (sym (p.1 ∙ ap Err p.2)) h

-- the fault of what is read, where it isn't want of memory
pub judged : {B K : Type 0} (Reads : Result B QueryFault → Type 0) (fault bad : QueryFault) → (fault ≢ OutOfMemory → K) → (fault ≢ OutOfMemory → fault ≡ bad) → (K → Reads (Err bad)) → Answers Reads (Err fault)
judged Reads fault bad known e h = λ ne. subst (λ (f : QueryFault). Reads (Err f)) (sym (e ne)) (h (known ne))

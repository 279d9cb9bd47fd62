use Rattle.std.proofs.Common.{List, ℕ, subst}
use Rattle.sc_cqlread.specs.Filters.{IsCqlText}
use Rattle.sc_cqlread.specs.Faults as in_texts
use Rattle.sc_query.specs.declared.filter.Language.TheVariants as languages
use Rattle.sc_query.specs.Filters.{FilterReadsIn, of_text, fault_of_text}
use Rattle.sc_query.proofs.Chain.{judged}
use Rattle.sc_query.proofs.filter.of_text.Goals as goal

pub returns-in-Ok : goal.returns-in-Ok
returns-in-Ok c = λ given e. of_text c.args.text.now _ e (subst (λ (t : List ℕ). IsCqlText t c.in-Ok.filter) c.bytes.ensures.bytes c.in-Ok.ensures)

pub returns-in-Err : goal.returns-in-Err
returns-in-Err c = λ given e.
    let read = subst (λ (t : List ℕ). in_texts.IsFault t c.in-Err.fault) c.bytes.ensures.bytes c.in-Err.ensures in
    judged (FilterReadsIn given languages.Text) _ _ c.no_filter.ensures.known c.no_filter.ensures.bad (λ known. fault_of_text c.args.text.now c.in-Err.fault e read known)

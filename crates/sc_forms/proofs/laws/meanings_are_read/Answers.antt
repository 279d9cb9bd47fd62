use Rattle.sc_forms.proofs.Filters.{expr_is_filter}
use Rattle.sc_forms.proofs.Meaning.{meaning_read}
use Rattle.sc_forms.proofs.laws.meanings_are_read.Goals as goal

pub returns-clause-expr : goal.returns-clause-expr
returns-clause-expr c = meaning_read

pub returns-clause-filter : goal.returns-clause-filter
returns-clause-filter c text tokens end expr are is shallow means low few = expr_is_filter text expr (meaning_read text tokens end expr are is shallow means) low few

pub returns-clause-only : goal.returns-clause-only
returns-clause-only c text tokens end expr other are is shallow means low few spelled =
    c.one_answer.ensures.filter text other expr spelled (expr_is_filter text expr (meaning_read text tokens end expr are is shallow means) low few)

pub returns-clause-no_fault : goal.returns-clause-no_fault
returns-clause-no_fault c text tokens end expr fault are is shallow means low few is_fault =
    c.one_answer.ensures.no_fault text expr fault (expr_is_filter text expr (meaning_read text tokens end expr are is shallow means) low few) is_fault

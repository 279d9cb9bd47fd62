use Rattle.std.proofs.Common.{sym, ap, ◌∙◌}
use Rattle.std.proofs.lemmas.Result.{err_from_is_err_and}
use Rattle.sc_http.specs.Headers.{length_of}
use Rattle.sc_http.proofs.Bodies.{first_request, body_ends, request_made}
use Rattle.sc_http.proofs.Steps.{reads_same}
use Rattle.sc_http.proofs.finish.finish.Goals as goal

pub returns-in_err-len-clause-err : goal.returns-in_err-len-clause-err
returns-in_err-len-clause-err g c =
    let h = c.requires.head in
    let size = ap length_of (sym (c.as_slice.ensures ∙ ap (λ z. z.headers) h.3)) ∙ sym c.body_len.ensures ∙ c.in_err-len.was in
    let p = err_from_is_err_and c.from_residual.result c.from_residual.ensures.1 in
    rw (p.1, p.2) (λ _. (_, reads_same _ _ _, (h.0, h.1, h.2, size)))

pub returns-in_err-body-clause-err : goal.returns-in_err-body-clause-err
returns-in_err-body-clause-err g c =
    let h = c.requires.head in
    let size = ap length_of (sym (c.as_slice.ensures ∙ ap (λ z. z.headers) h.3)) ∙ sym c.body_len.ensures ∙ c.in_ok-len.was in
    let p = err_from_is_err_and c.from_residual-in_err-body.result c.from_residual-in_err-body.ensures.1 in
    rw (p.1, p.2) (body_ends _ _ h.0 h.1 _ _ _ _ _ _ _ _ _ _ h.2 (ap (λ z. z.len) h.3) size c.min-used.ensures c.in_err-body.ensures.end)

pub returns-clause-ok : goal.returns-clause-ok
returns-clause-ok g c =
    let h = c.requires.head in
    let size = ap length_of (sym (c.as_slice.ensures ∙ ap (λ z. z.headers) h.3)) ∙ sym c.body_len.ensures ∙ c.in_ok-len.was in
    let r = first_request _ _ _ _ _ _ _ _ _ _ _ h.2 (ap (λ z. z.len) h.3) size c.min-used.ensures c.in_ok-body.ensures.took c.in_ok-body.ensures.len in
    (r.0, r.1, (h.0, _, r.2, request_made _ h.0 _ _ _ _ h.3 c.of.ensures c.as_slice-2.ensures c.closes-close.ensures))

use Rattle.std.proofs.Common.{◌≡◌, ◌∙◌, map, true, false, sym}
use Rattle.clap.specs.declared.error.kind.ErrorKind.TheVariants as kind
use Rattle.sc_words.proofs.Ends.{final_ok, final_err}
use Rattle.sc_words.proofs.words.read.Goals as goal

pub returns-in-Ok : goal.returns-in-Ok
returns-in-Ok c = c.form_met.ensures ∙ final_ok _ (map (λ s. s.now) c.args.words.now) c.in-Ok.matches c.in_ok-command.ensures c.requires c.in-Ok.ensures.matches c.in-Ok.ensures.kinds

pub returns-else-eq : goal.returns-else-eq
returns-else-eq c =
    final_err _ (map (λ s. s.now) c.args.words.now) c.in-Err.error c.in_ok-command.ensures c.requires c.in-Err.ensures.kinds
    (λ e.
    let k : c.kind.result ≡ kind.OutOfMemory = c.kind.ensures ∙ e in
    let off : c.eq.result ≡ true = rw k at c.eq.ensures in
    let bad : false ≡ true = sym c.if-eq.false ∙ off in
    cc)

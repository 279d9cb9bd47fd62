use Rattle.std.proofs.Common.{◌∷◌, ◌++◌, [], ap, rules, sym, ◌∙◌, append_assoc}
use Rattle.sc_serve.proofs.Notices.{none_told, one_told}
use Rattle.sc_serve.proofs.notifying.tell_all.Goals as goal

pub loop-name-init : goal.loop-name-init
loop-name-init g c = record { split = search rules; told = none_told c.args.notices.now }

pub loop-name-preserved : goal.loop-name-preserved
loop-name-preserved g c =
    let now = c.loop-name in
    record {
      split = now.invariant.split ∙ ap (λ l. now.yielded ++ l) c.in-Some.ensures.steps.0 ∙ sym (append_assoc now.yielded (c.in-Some.name ∷ []) _);
      told = one_told now.yielded c.args.notices.now now.notices c.tell.new.pass c.in-Some.name c.tell.result now.invariant.told c.tell.ensures.call;
    }

pub loop-name-preserved-in-Some : goal.loop-name-preserved-in-Some
loop-name-preserved-in-Some g c =
    let now = c.loop-name in
    record {
      split = now.invariant.split ∙ ap (λ l. now.yielded ++ l) c.in-Some.ensures.steps.0 ∙ sym (append_assoc now.yielded (c.in-Some.name ∷ []) _);
      told = one_told now.yielded c.args.notices.now now.notices c.tell.new.pass c.in-Some.name c.tell.result now.invariant.told c.tell.ensures.call;
    }

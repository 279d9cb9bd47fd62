use Rattle.std.proofs.Common.{◌≡◌, ◌<◌, List, ℕ, ◌∷◌, length, drop, get_or, refl, sym, ap, subst, ◌∙◌, arith}
use Rattle.std.proofs.lemmas.Grind.{common_steps}
use Rattle.sc_journal.specs.Format.{frames}
use Rattle.sc_kept.specs.Keeping.{IsBehind, IsStoredOn}
use Rattle.sc_kept.proofs.Storing.{first_of, one_size, run_none, run_one, stored_none, stored_one}
use Rattle.sc_kept.proofs.backlog.store_backlog.Goals as goal

pub storing-init : goal.storing-init
storing-init g c = record {
  stored = λ s b. stored_none g.D.Disk.tells g.D.Disk.may_leave c.args.journal.now s c.args.backlog.now.items b;
  any_moment = λ s b t. run_none g.D.Disk.tells g.D.Disk.may_leave g.D.Disk.clock g.D.Disk.left_since g.met.D.Disk.since_now c.args.journal.now s c.args.backlog.now.items b t;
  size = refl;
  told = λ t. t;
  clock = omega arith;
  faults = omega arith;
}

pub returns-in_err-append-clause-any_moment : goal.returns-in_err-append-clause-any_moment
returns-in_err-append-clause-any_moment g c = λ s b t.
    let x = c.in-Some.first.now in
    let items = c.storing.backlog.items in
    let some : 0 < length items = grind (arith, common_steps) in
    let is : x ≡ get_or items 0 x = c.in-Some.ensures.lookup in
    let so = subst (λ (l : List (List ℕ)). IsStoredOn g.D.Disk.tells g.D.Disk.may_leave s c.args.backlog.now.items c.storing.journal l) (first_of items x some is) (c.storing.invariant.stored s b) in
    run_one g.D.Disk.tells g.D.Disk.may_leave g.D.Disk.clock g.D.Disk.left_since c.args.journal.now c.storing.journal c.append.new.self s c.args.backlog.now.items (drop 1 items) x so c.storing.invariant.clock
    (c.storing.invariant.any_moment s b (c.append.ensures.told t)) c.append.ensures.any_moment t

pub storing-preserved-in_ok-append : goal.storing-preserved-in_ok-append
storing-preserved-in_ok-append g c =
    let x = c.in-Some.first.now in
    let items = c.storing.backlog.items in
    let later = c.pop_front-stored.new.self.items in
    let some : 0 < length items = grind (arith, common_steps) in
    let is : x ≡ get_or items 0 x = c.in-Some.ensures.lookup in
    let split : items ≡ x ∷ later = first_of items x some is ∙ ap (λ (l : List (List ℕ)). x ∷ l) (sym c.pop_front-stored.ensures.rest) in
    let so : (s : List (List ℕ)) → IsBehind g.D.Disk.tells g.D.Disk.may_leave c.args.journal.now s c.args.backlog.now.items → IsStoredOn g.D.Disk.tells g.D.Disk.may_leave s c.args.backlog.now.items c.storing.journal (x ∷ later) =
    λ s b. subst (λ (l : List (List ℕ)). IsStoredOn g.D.Disk.tells g.D.Disk.may_leave s c.args.backlog.now.items c.storing.journal l) split (c.storing.invariant.stored s b) in
    record {
      stored = λ s b. stored_one g.D.Disk.tells g.D.Disk.may_leave c.storing.journal c.append.new.self s c.args.backlog.now.items later x (so s b) c.in_ok-append.ensures.stored c.in_ok-append.ensures.last;
      any_moment = λ s b t.
          run_one g.D.Disk.tells g.D.Disk.may_leave g.D.Disk.clock g.D.Disk.left_since c.args.journal.now c.storing.journal c.append.new.self s c.args.backlog.now.items later x (so s b) c.storing.invariant.clock
          (c.storing.invariant.any_moment s b (c.append.ensures.told t)) c.append.ensures.any_moment t;
      size = omega (arith, c.storing.invariant.size, c.in_ok-append.ensures.place, ap (λ (l : List (List ℕ)). length (frames l)) split, one_size x later);
      told = λ t. c.storing.invariant.told (c.append.ensures.told t);
      clock = omega (arith, c.storing.invariant.clock, c.append.ensures.clock);
      faults = omega (arith, c.storing.invariant.faults, c.append.ensures.cause.later);
    }

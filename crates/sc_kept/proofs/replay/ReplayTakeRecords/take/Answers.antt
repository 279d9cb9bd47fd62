use Rattle.std.proofs.Common.{◌++◌, ◌∷◌, [], ℕ, sym, subst}
use Rattle.std.specs.Prelude.{Option}
use Rattle.sc_kept.specs.Replaying.{IsReplayed}
use Rattle.sc_kept.proofs.Following.{records_more}
use Rattle.sc_kept.proofs.replay.ReplayTakeRecords.take.Goals as goal

pub returns-else-not-branch : goal.returns-else-not-branch
returns-else-not-branch c = λ records so.
    let old = c.args.self.now.catalogue.entries in
    let new = c.follow.new.catalogue.entries in
    let payload = c.args.payload.now in
    subst (λ (refused : Option ℕ). IsReplayed new refused (records ++ payload ∷ [])) (sym c.in-None.is)
    (records_more old new records payload (subst (λ (refused : Option ℕ). IsReplayed old refused records) c.in-None.is so) (c.in_ok-follow-in-None.ensures.followed c.if-not-branch.false))

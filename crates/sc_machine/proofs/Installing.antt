-- Installs, by what the fields of a machine are.
use Rattle.std.proofs.Common.{◌≡◌, ℕ, Bool, true, false, List, Some, None, option_map, refl, sym, ap, ◌∙◌, subst}
use Rattle.std.specs.Prelude.{if◌then◌else◌}
use Rattle.std.specs.BTreeMap.{get}
use Rattle.sc_base.specs.Text.{text_order}
use Rattle.sc_bounds.specs.Extent.{Extent}
use Rattle.sc_cut.specs.declared.name.PartName.{PartName}
use Rattle.sc_history.specs.declared.installed.Installed.{Installed}
use Rattle.sc_history.specs.Changes.{Change}
use Rattle.sc_history.specs.Names.{is_name}
use Rattle.sc_history.specs.Installs.{answer_in, bounds_in, installed}
use Rattle.sc_history.specs.Part.{Part, bounds_of, lookup}
use Rattle.sc_history.proofs.Names.{same_name}
use Rattle.sc_shelf.specs.Ticket.{Hull}
use Rattle.sc_catalog.specs.Entries.{IsInstallOf, IsTightOf, TellsOf}
use Rattle.sc_catalog.specs.Holdings.{Holdings}
use Rattle.sc_catalog.specs.Views as views
use Rattle.sc_catalog.proofs.Hulls.{tight_told}
use Rattle.sc_outcome.specs.declared.outcome.Outcome.{Outcome}
use Rattle.sc_outcome.specs.Refused.{no_such_name}
use Rattle.sc_machine.specs.State.{bounds_at, named}
use Rattle.sc_machine.specs.Looks.{IsInstalled, TakesInstall, bounds_left, hull_then, told_of}
use Rattle.sc_machine.specs.Inside.{Hulls, Snaps, bounds_of_parts, looked, state_of}
use Rattle.sc_machine.proofs.Seen.{bounds_seen, named_seen, seen_by}

module _ (old new : Holdings) (hull : Hull) (tight : IsTightOf old.entries hull) (is : views.IsInstalled hull old new) (past : List Change) (told : TellsOf old.entries past) (snaps : Snaps) (hulls : Hulls) where
  then_is : hull.bounds ≡ hull_then past (looked hull)
  then_is = (tight_told old.entries hull tight past told).hull_is

  left : (other : PartName) → bounds_of other new.parts ≡ bounds_left past (looked hull) (state_of old snaps hulls) other
  left other = go (is_name hull.name other) refl (is.parts_are.each other)
    where
      go : (b : Bool) → is_name hull.name other ≡ b → lookup other new.parts ≡ (if b then option_map (installed hull.stamp hull.bounds) (lookup hull.name old.parts) else lookup other old.parts)
          → bounds_of other new.parts ≡ (if b then option_map (bounds_in past hull.name hull.stamp (hull_then past (looked hull))) (bounds_at hull.name (bounds_of_parts old.parts)) else bounds_at other (bounds_of_parts old.parts))
      go true e lies =
          ap (λ (n : PartName). bounds_of n new.parts) (sym (same_name hull.name other e)) ∙ is.bounds_are past told
          ∙ ap (λ (b : Extent). option_map (bounds_in past hull.name hull.stamp b) (bounds_of hull.name old.parts)) then_is
          ∙ ap (λ o. option_map (bounds_in past hull.name hull.stamp (hull_then past (looked hull))) o) (sym (bounds_seen hull.name old.parts))
      go false e lies = ap (λ o. option_map (λ (p : Part). p.bounds) o) lies ∙ sym (bounds_seen other old.parts)

  installed_at : (told_is : Installed) (outcome : Outcome) → told_is ≡ answer_in past hull.name hull.stamp → told_of told_is (bounds_of hull.name new.parts) ≡ Some outcome → IsInstalled (looked hull) (state_of old snaps hulls) (state_of new snaps hulls) outcome
  installed_at told_is outcome answer tells = record {
    past = past;
    told = told;
    entries_are = is.entries_are;
    bounds_are = seen_by (bounds_left past (looked hull) (state_of old snaps hulls)) new.parts is.parts_are.rise left;
    snapshots_are = refl;
    tickets_are = refl;
    outcome_is = ap (λ o. told_of (answer_in past hull.name hull.stamp) o) (bounds_seen hull.name new.parts) ∙ ap (λ (a : Installed). told_of a (bounds_of hull.name new.parts)) (sym answer) ∙ tells;
  }

pub install_seen : (old new : Holdings) (hull : Hull) (told : Installed) (outcome : Outcome) → IsTightOf old.entries hull → views.IsInstalled hull old new → IsInstallOf old.entries hull told → told_of told (bounds_of hull.name new.parts) ≡ Some outcome
    → (snaps : Snaps) (hulls : Hulls) → IsInstalled (looked hull) (state_of old snaps hulls) (state_of new snaps hulls) outcome
install_seen old new hull told outcome tight is tells said snaps hulls = installed_at old new hull tight is tells.past tells.tells snaps hulls told outcome tells.is said

-- ---- tickets by their names

pub install_nowhere : (holdings : Holdings) (snaps : Snaps) (hulls : Hulls) (name : List ℕ) (outcome : Outcome) → None ≡ get text_order hulls name → outcome ≡ no_such_name name
    → TakesInstall name (named name (state_of holdings snaps hulls).tickets) (state_of holdings snaps hulls) (state_of holdings snaps hulls) outcome
install_nowhere holdings snaps hulls name outcome none told =
    subst (λ o. TakesInstall name o (state_of holdings snaps hulls) (state_of holdings snaps hulls) outcome) (sym (named_seen looked hulls name ∙ ap (λ o. option_map looked o) (sym none))) (refl, told)

pub install_named : (old new : Holdings) (snaps : Snaps) (hulls : Hulls) (name : List ℕ) (hull : Hull) (outcome : Outcome) → Some hull ≡ get text_order hulls name → IsInstalled (looked hull) (state_of old snaps hulls) (state_of new snaps hulls) outcome
    → TakesInstall name (named name (state_of old snaps hulls).tickets) (state_of old snaps hulls) (state_of new snaps hulls) outcome
install_named old new snaps hulls name hull outcome there is =
    subst (λ o. TakesInstall name o (state_of old snaps hulls) (state_of new snaps hulls) outcome) (sym (named_seen looked hulls name ∙ ap (λ o. option_map looked o) (sym there))) is

-- What is taken of a catalogue stands, and an install keeps it.
use Rattle.std.proofs.Common.{◌≡◌, ℕ, Bool, true, false, cond, List, length, Option, Some, None, refl, sym, ◌∙◌, subst, arith}
use Rattle.std.specs.Option.{option_map}
use Rattle.sc_bounds.specs.Extent.{Extent}
use Rattle.sc_bounds.proofs.Extents.{within_itself}
use Rattle.sc_cut.specs.declared.name.PartName.{PartName}
use Rattle.sc_index.specs.declared.index.ItemIndex.{ItemIndex}
use Rattle.sc_history.specs.Content.{Collection}
use Rattle.sc_history.specs.Changes.{Change}
use Rattle.sc_history.specs.Names.{is_name}
use Rattle.sc_history.specs.History.{replay}
use Rattle.sc_history.specs.Part.{Part, bounds_of, lookup}
use Rattle.sc_history.specs.Sound.{Stands}
use Rattle.sc_history.specs.Installs.{AreInstalled, answer, answer_in, bounds_in, installed}
use Rattle.sc_history.specs.declared.installed.Installed.{Installed}
use Rattle.sc_history.specs.Views.{IsSnapshot, IsTight, Snap}
use Rattle.sc_part.specs.Version.{Version}
use Rattle.sc_history.proofs.Names.{same_name}
use Rattle.sc_history.proofs.Installing.{stand_installed, stands_installed}
use Rattle.sc_history.proofs.Moving.{answer_is, bounds_installed}
use Rattle.sc_history.proofs.Taking.{snapshot_taken, ticket_taken}
use Rattle.sc_history.proofs.Telling.{one_telling}
use Rattle.sc_shelf.specs.Ticket.{Hull, version_of}
use Rattle.sc_catalog.specs.declared.entry.Entry.{Entry}
use Rattle.sc_catalog.specs.Entries.{AnswersLook, IsInstallOf, IsLookOf, IsSnapshotOf, TellsOf, loads_of}
use Rattle.sc_catalog.specs.Kept.{IsKept}
use Rattle.sc_catalog.specs.Views.{IsNoWider}

module _ (entries : List Entry) (bytes : ℕ) (collections : List Collection) (parts : List Part) (index : ItemIndex) (kept : IsKept entries bytes collections parts index) where
  one_past : (past : List Change) → TellsOf entries past → kept.past ≡ past
  one_past past told = one_telling (loads_of entries) kept.past past kept.told told

  revision_is : length kept.past ≡ length entries
  revision_is = omega (arith, kept.reflects.revision_is)

  pub snapshot_stands : IsSnapshotOf entries (record { revision = length entries; collections = collections; parts = parts })
  snapshot_stands =
      let taken = snapshot_taken kept.past parts kept.reflects.stand in
      let counted = subst (λ r. IsSnapshot kept.past (record { revision = r; collections = (replay kept.past).collections; parts = parts })) revision_is taken in
      record {
        past = kept.past;
        told = kept.told;
        is = subst (λ l. IsSnapshot kept.past (record { revision = length entries; collections = l; parts = parts })) (sym kept.reflects.collections_are) counted;
        revision_is = refl;
      }

  look_of : (name : PartName) (part : Option Part) → Stands kept.past name part → AnswersLook kept.past name (option_map version_of part)
  look_of name None is = is
  look_of name (Some part) is = record { name_is = is.name_is; stamp_is = is.stamp_is; is = ticket_taken kept.past name part kept.reflects.is is }

  pub look_stands : (name : PartName) (ticket : Option Version) → ticket ≡ option_map version_of (lookup name parts) → IsLookOf entries name ticket
  look_stands name ticket e = record { past = kept.past; told = kept.told; answers = subst (AnswersLook kept.past name) (sym e) (look_of name (lookup name parts) (kept.reflects.stand.each name)) }

  -- what an install answers and leaves, by the history alone
  pub answer_told : (hull : Hull) (told : Installed) → told ≡ answer hull.stamp (lookup hull.name parts) → IsInstallOf entries hull told
  answer_told hull told e = record { past = kept.past; tells = kept.told; is = e ∙ answer_is kept.past parts hull.name hull.stamp kept.reflects.stand }

  pub bounds_told : (name : PartName) (stamp : ℕ) (hull : Extent) (new : List Part) → AreInstalled name stamp hull parts new → (past : List Change) → TellsOf entries past
      → bounds_of name new ≡ option_map (bounds_in past name stamp hull) (bounds_of name parts)
  bounds_told name stamp hull new are past told =
      subst (λ p. bounds_of name new ≡ option_map (bounds_in p name stamp hull) (bounds_of name parts)) (one_past past told) (bounds_installed kept.past name stamp hull parts new kept.reflects.stand are)

  module _ (name : PartName) (stamp : ℕ) (hull : Extent) (tight : (past : List Change) → TellsOf entries past → IsTight past name stamp hull) (new : List Part) (are : AreInstalled name stamp hull parts new) where
    tight_now : IsTight kept.past name stamp hull
    tight_now = tight kept.past kept.told

    -- the new parts stand as the old ones did
    pub install_keeps : IsKept entries bytes collections new index
    install_keeps = record {
      past = kept.past;
      told = kept.told;
      reflects = record {
        is = kept.reflects.is;
        revision_is = kept.reflects.revision_is;
        bytes_are = kept.reflects.bytes_are;
        collections_are = kept.reflects.collections_are;
        stand = stand_installed kept.past name stamp hull parts new kept.reflects.is kept.reflects.stand tight_now are;
        indexes = kept.reflects.indexes;
      };
    }

    no_wider : (part : Option Part) → IsNoWider part part
    no_wider None = tt
    no_wider (Some part) = within_itself part.bounds

    narrowed : (part : Option Part) → Stands kept.past name part → IsNoWider part (option_map (installed stamp hull) part)
    narrowed None is = tt
    narrowed (Some part) is = (stands_installed kept.past name stamp hull part kept.reflects.is is tight_now).1

    -- and no bounds become wider
    pub install_narrows : (other : PartName) → IsNoWider (lookup other parts) (lookup other new)
    install_narrows other = subst (IsNoWider (lookup other parts)) (sym (are.each other)) (go (is_name name other) refl)
      where
        go : (t : Bool) → is_name name other ≡ t → IsNoWider (lookup other parts) (cond t (option_map (installed stamp hull) (lookup name parts)) (lookup other parts))
        go true e = subst (λ n. IsNoWider (lookup n parts) (option_map (installed stamp hull) (lookup name parts))) (same_name name other e) (narrowed (lookup name parts) (kept.reflects.stand.each name))
        go false e = no_wider (lookup other parts)

use Rattle.std.proofs.Common.{◌≡◌, length, rules, subst, sym}
use Rattle.sc_history.specs.Views.{Snap, Stood}
use Rattle.sc_catalog.specs.Entries.{IsSnapshotOf}
use Rattle.sc_catalog.proofs.Hulls.{snapshot_stood}
use Rattle.sc_catalog.proofs.Views.{snapshot_stands}
use Rattle.sc_catalog.proofs.catalogue.Catalogue.snapshot.Goals as goal

pub of-requires : goal.of-requires
of-requires c =
    let i = c.self.inside in
    let now : Snap = record { revision = length i.history.items; collections = i.collections; parts = i.parts } in
    let snap : Snap = record { revision = c.len.result; collections = c.in_ok-share.field-0; parts = c.in_ok-share-2.field-0 } in
    let same : snap ≡ now = search rules in
    subst Stood (sym same) (snapshot_stood i.history.items now (snapshot_stands i.history.items i.bytes i.collections i.parts i.index c.self.invariant))

pub returns-clause-stands : goal.returns-clause-stands
returns-clause-stands c =
    let i = c.self.inside in
    let snap : Snap = record { revision = length i.history.items; collections = i.collections; parts = i.parts } in
    let same : c.of.result ≡ snap = search rules in
    rw (← c.self.view_is) (subst (IsSnapshotOf i.history.items) (sym same) (snapshot_stands i.history.items i.bytes i.collections i.parts i.index c.self.invariant))

use Rattle.std.proofs.Common.{◌↔◌, IsTrue, List, All, subst}
use Rattle.std.proofs.lemmas.List.Elements.{All-same}
use Rattle.sc_geom.specs.declared.point.Pt.{Pt}
use Rattle.sc_cross.specs.Area.{IsInside}
use Rattle.sc_cross.specs.Meets.{SomePair}
use Rattle.sc_cross.specs.Parts.{IsRingIn}
use Rattle.sc_cross.proofs.Geometries.{areas_in}
use Rattle.sc_cross.proofs.boxed.ring_enters.Goals as goal

pub path_enters-requires-clause-areas : goal.path_enters-requires-clause-areas
path_enters-requires-clause-areas c =
    All-same (All (IsRingIn c.args.extent.now)) c.areas.result.now c.args.geom.now.areas c.areas.ensures.areas (areas_in c.args.extent.now c.args.geom.now c.areas.ensures.kept c.requires.extent)

pub returns : goal.returns
returns c = subst (λ (l : List (List (List Pt))). IsTrue c.path_enters.result ↔ SomePair IsInside c.args.ring.now l) c.areas.ensures.areas c.path_enters.ensures

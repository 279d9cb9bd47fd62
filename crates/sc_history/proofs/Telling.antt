-- A history is told in one way, and grows by accepted loads.
use Rattle.std.proofs.Common.{◌≡◌, List, [], ◌∷◌, ◌++◌, length, map, refl, sym, ap, ◌∙◌, subst, Less}
use Rattle.std.proofs.lemmas.List.{length-map}
use Rattle.sc_load.specs.declared.load.Load.{Load}
use Rattle.sc_history.specs.Content.{Collection, nothing}
use Rattle.sc_history.specs.Changes.{Change, Puts, collections_after}
use Rattle.sc_history.specs.Names.{name_order}
use Rattle.sc_history.specs.History.{replay}
use Rattle.sc_history.specs.Refusals.{IsAccepted}
use Rattle.sc_history.specs.Taken.{IsPast, Tells}
use Rattle.sc_history.specs.Part.{Part}
use Rattle.sc_history.specs.Touch.{ArePublished}
use Rattle.sc_history.specs.Sound.{Sound, Stand}
use Rattle.sc_history.proofs.Lists.{pairs_from_ascending}
use Rattle.sc_history.proofs.Patching.{puts_once}
use Rattle.sc_history.proofs.Standing.{stand_next}
use Rattle.sc_history.proofs.Pasts.{past_next}

-- ---- one telling

same_change : (a b : Change) → a.load ≡ b.load → a.come ≡ b.come → a ≡ b
same_change a b load come = λ i. record { load = load i; come = come i }

pub one_past : (past others : List Change) → map (λ c. c.load) past ≡ map (λ c. c.load) others → IsPast past → IsPast others → past ≡ others
one_past [] [] e is is' = refl
one_past [] (b ∷ others) e is is' = absurd cc
one_past (a ∷ past) [] e is is' = absurd cc
one_past (a ∷ past) (b ∷ others) e is is' =
    let load : a.load ≡ b.load = cc in
    let loads : map (λ c. c.load) past ≡ map (λ c. c.load) others = cc in
    let rest : past ≡ others = one_past past others loads is.1 is'.1 in
    let puts : Puts (replay others).items b.load a.come = subst (λ l. Puts (replay others).items l a.come) load (subst (λ p. Puts (replay p).items a.load a.come) rest is.0.allowed.puts) in
    let come : a.come ≡ b.come = puts_once (replay others).items b.load a.come b.come puts is'.0.allowed.puts in
    let first : a ≡ b = same_change a b load come in
    λ i. first i ∷ rest i

pub one_telling : (history : List Load) (past others : List Change) → Tells history past → Tells history others → past ≡ others
one_telling history past others a b = one_past past others (a.loads ∙ sym b.loads) a.accepted b.accepted

-- ---- a longer history

split_loads : (newer older : List Load) (past : List Change) → map (λ c. c.load) past ≡ newer ++ older → (later : List Change) × (before : List Change) × (past ≡ later ++ before) × (map (λ c. c.load) before ≡ older)
split_loads [] older past e = ([], past, refl, e)
split_loads (x ∷ newer) older [] e = absurd cc
split_loads (x ∷ newer) older (c ∷ past) e =
    let rest : map (λ (d : Change). d.load) past ≡ newer ++ older = cc in
    let r = split_loads newer older past rest in
    (c ∷ r.0, r.1, ap (λ l. c ∷ l) r.2, r.3)

older_past : (later before : List Change) → IsPast (later ++ before) → IsPast before
older_past [] before is = is
older_past (c ∷ later) before is = older_past later before is.1

-- what tells a longer history ends with what tells its beginning
pub told_split : (newer older : List Load) (past : List Change) → Tells (newer ++ older) past → (later : List Change) × (before : List Change) × (past ≡ later ++ before) × Tells older before
told_split newer older past told =
    let r = split_loads newer older past told.loads in
    (r.0, r.1, r.2, record { loads = r.3; accepted = older_past r.0 r.1 (subst IsPast r.2 told.accepted) })

pub told_length : (history : List Load) (past : List Change) → Tells history past → length past ≡ length history
told_length history past told = sym (length-map past (λ (c : Change). c.load)) ∙ ap length told.loads

-- ---- it grows

pub told_nothing : Tells [] []
told_nothing = record { loads = refl; accepted = tt }

pub told_next : (history : List Load) (past : List Change) (change : Change) → Tells history past → IsAccepted past change → Tells (change.load ∷ history) (change ∷ past)
told_next history past change t is = record { loads = ap (λ l. change.load ∷ l) t.loads; accepted = (is, t.accepted) }

-- ---- what is sound

replay_nothing : replay [] ≡ nothing
unfolding replay
replay_nothing = refl

pub stand_nothing : Stand [] []
unfolding replay
stand_nothing = record { rise = pairs_from_ascending (λ p q. name_order p.name q.name ≡ Less) [] tt; each = λ name. refl }

pub sound_nothing : Sound [] [] []
sound_nothing = record { past = []; told = told_nothing; collections_are = ap (λ c. c.collections) (sym replay_nothing); stand = stand_nothing }

replay_collections : (past : List Change) (change : Change) → (replay (change ∷ past)).collections ≡ collections_after (replay past).collections change.load
unfolding replay
replay_collections past change = refl

pub sound_next : (history : List Load) (collections : List Collection) (old new : List Part) (change : Change) (is : Sound history collections old) → IsAccepted is.past change → ArePublished is.past change old new
    → Sound (change.load ∷ history) (collections_after collections change.load) new
sound_next history collections old new change is accepted are = record {
  past = change ∷ is.past;
  told = told_next history is.past change is.told accepted;
  collections_are = ap (λ c. collections_after c change.load) is.collections_are ∙ sym (replay_collections is.past change);
  stand = stand_next is.past change old new (past_next is.past change is.told.accepted accepted.allowed) is.stand are;
}

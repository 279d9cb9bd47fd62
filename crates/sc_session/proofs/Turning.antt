-- The turns of a connection's requests.
use Rattle.std.proofs.Common.{◌≡◌, ℕ, ◌≤◌, Bool, true, false, List, [], ◌∷◌, ◌++◌, length, map, filter, flat_map, refl, sym, ap, ◌∙◌, subst, append_assoc, arith, length-append, ⊎_elim}
use Rattle.std.specs.Prelude.{◌==◌}
use Rattle.std.specs.List.{All}
use Rattle.std.proofs.lemmas.List.Elements.{All-nil, All-cons, All-append}
use Rattle.sc_http.specs.declared.request.Request.{Request}
use Rattle.sc_http.specs.declared.reply.Reply.{Reply}
use Rattle.sc_visit.specs.Visits.{Visitor, TakesTurn, TakesTurns, Rise}
use Rattle.sc_visit.proofs.Turning.{turns_grow, turns_own, turns_rise}
use Rattle.sc_session.specs.declared.ask.Ask.{Ask}
use Rattle.sc_session.specs.declared.ask.Ask.TheVariants.{Nothing, Look, Publish, PublishFrom}
use Rattle.sc_session.specs.Service.{Service}
use Rattle.sc_session.specs.Handling.{Does, Publishes, AreHandled, accepted_of, loads_accepted}

module _ {E L J : Type 0} (service : Service E L J) (numbered : (number : ℕ) (load : L) → service.by (service.entry number load) ≡ number) where
  -- turns whose own entries are those of these loads
  pub record Turned (loads : List L) (old new : Visitor E) : Type 0 where
    pub owns : List (List E)
    pub turns : TakesTurns service.by owns old new
    pub own : flat_map (λ (o : List E). o) owns ≡ map (service.entry old.number) loads
    pub his : All (All (λ e. service.by e ≡ old.number)) owns
    pub number_is : new.number ≡ old.number

  no_turn : (old new : Visitor E) → new ≡ old → Turned [] old new
  no_turn old new e = record { owns = []; turns = e; own = refl; his = All-nil (All (λ e. service.by e ≡ old.number)); number_is = ap (λ v. v.number) e }

  one_turn : (old new : Visitor E) → TakesTurn service.by [] old new → Turned [] old new
  one_turn old new t = record {
    owns = [] ∷ [];
    turns = (new, t, refl);
    own = refl;
    his = All-cons (All (λ e. service.by e ≡ old.number)) [] [] (All-nil (λ e. service.by e ≡ old.number)) (All-nil (All (λ e. service.by e ≡ old.number)));
    number_is = t.same.number_is;
  }

  load_turn : (old new : Visitor E) (load : L) → TakesTurn service.by (service.entry old.number load ∷ []) old new → Turned (load ∷ []) old new
  load_turn old new load t = record {
    owns = (service.entry old.number load ∷ []) ∷ [];
    turns = (new, t, refl);
    own = refl;
    his = All-cons (All (λ e. service.by e ≡ old.number)) (service.entry old.number load ∷ []) [] (All-cons (λ e. service.by e ≡ old.number) (service.entry old.number load) [] (numbered old.number load) (All-nil (λ e. service.by e ≡ old.number))) (All-nil (All (λ e. service.by e ≡ old.number)));
    number_is = t.same.number_is;
  }

  turns_append : (a b : List (List E)) (old mid new : Visitor E) → TakesTurns service.by a old mid → TakesTurns service.by b mid new → TakesTurns service.by (a ++ b) old new
  turns_append [] b old mid new h k = subst (λ v. TakesTurns service.by b v new) h k
  turns_append (own ∷ a) b old mid new h k = (h.0, h.1, turns_append a b h.0 mid new h.2 k)

  flat-append : (a b : List (List E)) → flat_map (λ (o : List E). o) (a ++ b) ≡ flat_map (λ (o : List E). o) a ++ flat_map (λ (o : List E). o) b
  flat-append [] b = refl
  flat-append (own ∷ a) b = ap (λ l. own ++ l) (flat-append a b) ∙ sym (append_assoc own (flat_map (λ (o : List E). o) a) (flat_map (λ (o : List E). o) b))

  mapped : (f : L → E) (a b : List L) → map f (a ++ b) ≡ map f a ++ map f b
  mapped f [] b = refl
  mapped f (x ∷ a) b = ap (λ l. f x ∷ l) (mapped f a b)

  then_turned : (a b : List L) (old mid new : Visitor E) → Turned a old mid → Turned b mid new → Turned (a ++ b) old new
  then_turned a b old mid new h k = record {
    owns = h.owns ++ k.owns;
    turns = turns_append h.owns k.owns old mid new h.turns k.turns;
    own = flat-append h.owns k.owns ∙ ap (λ l. l ++ flat_map (λ (o : List E). o) k.owns) h.own ∙ ap (λ l. map (service.entry old.number) a ++ l) (k.own ∙ ap (λ n. map (service.entry n) b) h.number_is)
        ∙ sym (mapped (service.entry old.number) a b);
    his = All-append (All (λ e. service.by e ≡ old.number)) h.owns k.owns h.his (subst (λ n. All (All (λ e. service.by e ≡ n)) k.owns) h.number_is k.his);
    number_is = k.number_is ∙ h.number_is;
  }

  publishes : (load : L) (accepted : Bool) (old new : Visitor E) → Publishes service load accepted old new → Turned (accepted_of (Publish load) accepted) old new
  publishes load true old new h = load_turn old new load h.0
  publishes load false old new h = one_turn old new h

  does_turned : (ask : Ask L) (accepted : Bool) (old new : Visitor E) → Does service ask accepted old new → Turned (accepted_of ask accepted) old new
  does_turned Nothing accepted old new h = no_turn old new h.1
  does_turned Look accepted old new h = one_turn old new h.1
  does_turned (Publish load) accepted old new h = publishes load accepted old new h
  does_turned (PublishFrom stated load) true old new h =
      ⊎_elim (λ x. absurd cc) (λ x. then_turned [] (load ∷ []) old h.0 new (one_turn old h.0 h.1) (publishes load true h.0 new x.1)) h.2
  does_turned (PublishFrom stated load) false old new h =
      ⊎_elim (λ x. one_turn old new (subst (λ v. TakesTurn service.by [] old v) (sym x.2) h.1)) (λ x. then_turned [] [] old h.0 new (one_turn old h.0 h.1) (publishes load false h.0 new x.1)) h.2

  pub handled_turned : (qs : List Request) (rs : List Reply) (old new : Visitor E) (h : AreHandled service qs rs old new) → Turned (loads_accepted service qs rs old new h) old new
  handled_turned [] [] old new h = no_turn old new h
  handled_turned [] (a ∷ rs) old new h = absurd h
  handled_turned (q ∷ qs) [] old new h = absurd h
  handled_turned (q ∷ qs) (a ∷ rs) old new h =
      then_turned (accepted_of (service.asks h.1.job) h.1.accepted) (loads_accepted service qs rs h.0 new h.2) old h.0 new
      (does_turned (service.asks h.1.job) h.1.accepted old h.0 h.1.does) (handled_turned qs rs h.0 new h.2)

  -- what the pass has seen goes on
  pub handled_grows : (qs : List Request) (rs : List Reply) (old new : Visitor E) → AreHandled service qs rs old new → (rest : List E) × (new.seen ≡ old.seen ++ rest)
  handled_grows qs rs old new h = let t = handled_turned qs rs old new h in turns_grow service.by t.owns old new t.turns

  -- its own entries are the loads that were accepted
  pub handled_own : (qs : List Request) (rs : List Reply) (old new : Visitor E) (h : AreHandled service qs rs old new)
      → filter (λ e. service.by e == old.number) new.seen ≡ filter (λ e. service.by e == old.number) old.seen ++ map (service.entry old.number) (loads_accepted service qs rs old new h)
  handled_own qs rs old new h = let t = handled_turned qs rs old new h in
      turns_own service.by t.owns old new t.his t.turns ∙ ap (λ l. filter (λ e. service.by e == old.number) old.seen ++ l) t.own

  -- its visits rise
  pub handled_rise : (qs : List Request) (rs : List Reply) (old new : Visitor E) → AreHandled service qs rs old new
      → (more : List ℕ) × (new.visits ≡ old.visits ++ more) × Rise (length old.seen) more (length new.seen)
  handled_rise qs rs old new h = let t = handled_turned qs rs old new h in let r = turns_rise service.by t.owns old new t.turns in (r.0, r.1, r.3)

  -- the revisions that are told never fall
  pub told_rise : (qs : List Request) (rs : List Reply) (old new : Visitor E) → AreHandled service qs rs old new → Rise (length old.seen) (map (λ r. r.revision) rs) (length new.seen)
  told_rise [] [] old new h = ap (λ v. length v.seen) h
  told_rise [] (a ∷ rs) old new h = absurd h
  told_rise (q ∷ qs) [] old new h = absurd h
  told_rise (q ∷ qs) (a ∷ rs) old new h =
      let t = does_turned (service.asks h.1.job) h.1.accepted old h.0 h.1.does in
      let g = turns_grow service.by t.owns old h.0 t.turns in
      let longer : length old.seen ≤ a.revision = omega (arith, h.1.revision, ap length g.1, length-append old.seen g.0) in
      (longer, subst (λ n. Rise n (map (λ r. r.revision) rs) (length new.seen)) (sym h.1.revision) (told_rise qs rs h.0 new h.2))

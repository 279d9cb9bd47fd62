-- What is told of loads, turn by turn.
use Rattle.std.proofs.Common.{◌≡◌, ◌≢◌, ℕ, inl, inr, List, [], ◌∷◌, ◌++◌, refl, sym, ap, ◌∙◌, subst, append_assoc}
use Rattle.std.specs.Prelude.{All, Option, None, Some}
use Rattle.std.proofs.lemmas.List.{append-nil, append_cancel_right}
use Rattle.std.proofs.lemmas.List.Elements.{All-head, All-tail}
use Rattle.sc_cut.specs.declared.name.PartName.{PartName}
use Rattle.sc_load.specs.declared.load.Load.{Load}
use Rattle.sc_catalog.specs.declared.entry.Entry.{Entry}
use Rattle.sc_catalog.specs.declared.entry.Published.{Published}
use Rattle.sc_catalog.specs.Entries.{by, entry_of, IsTaken}
use Rattle.sc_visit.specs.Visits.{Visitor, TakesTurn}
use Rattle.sc_notice.specs.declared.notice.Notice.{Notice}
use Rattle.sc_notice.specs.declared.notice.Notice.TheVariants.{Part}
use Rattle.sc_notice.specs.declared.notice.Call.{Call}
use Rattle.sc_notice.specs.Callers.{Caller, Calls, tells}
use Rattle.sc_serve.specs.Notices.{IsToldBy, AreToldBy, Changes, AreEntriesTold, TellsOfLoads, AreTold}

-- ---- parts, one after the other

told_more : (names : List PartName) (calls : List Call) (name : PartName) (call : Call) → AreToldBy names calls → IsToldBy name call → AreToldBy (names ++ name ∷ []) (calls ++ call ∷ [])
told_more [] [] name call are is = (is, tt)
told_more [] (c ∷ calls) name call are is = absurd are
told_more (n ∷ names) [] name call are is = absurd are
told_more (n ∷ names) (c ∷ calls) name call are is = (are.0, told_more names calls name call are.1 is)

told_by_tell : (name : PartName) (answer : Option Notice) → IsToldBy name (tells (Part name) answer)
told_by_tell name None = inl refl
told_by_tell name (Some back) = inr refl

pub none_told : (caller : Caller) → AreTold [] caller caller
none_told caller = record { of_is = refl; shares_are = refl; calls = []; calls_are = sym (append-nil caller.calls); are = tt }

pub one_told : (names : List PartName) (a b c : Caller) (name : PartName) (answer : Option Notice) → AreTold names a b → Calls (tells (Part name) answer) b c → AreTold (names ++ name ∷ []) a c
one_told names a b c name answer told call = record {
  of_is = call.of_is ∙ told.of_is;
  shares_are = call.shares_are ∙ told.shares_are;
  calls = told.calls ++ tells (Part name) answer ∷ [];
  calls_are = call.calls_are ∙ ap (λ l. l ++ tells (Part name) answer ∷ []) told.calls_are ∙ append_assoc a.calls told.calls (tells (Part name) answer ∷ []);
  are = told_more names told.calls name (tells (Part name) answer) told.are (told_by_tell name answer);
}

-- ---- entries, one after the other

module _ (number : ℕ) where
  others_told : (history rest : List Entry) → All (λ e. by e ≢ number) rest → AreEntriesTold number history rest []
  others_told history [] others = refl
  others_told history (e ∷ rest) others =
      ([], [], refl, inl (All-head (λ e. by e ≢ number) e rest others, refl), others_told (history ++ e ∷ []) rest (All-tail (λ e. by e ≢ number) e rest others))

  own_told : (history : List Entry) (entry : Entry) (names : List PartName) (calls : List Call) → by entry ≡ number → Changes history entry names → AreToldBy names calls
      → AreEntriesTold number history (entry ∷ []) calls
  own_told history entry names calls own changes told = (calls, [], sym (append-nil calls), inr (own, (names, changes, told)), refl)

  entries_more : (history xs ys : List Entry) (cs ds : List Call) → AreEntriesTold number history xs cs → AreEntriesTold number (history ++ xs) ys ds → AreEntriesTold number history (xs ++ ys) (cs ++ ds)
  entries_more history [] ys cs ds a b = subst (λ l. AreEntriesTold number history ys (l ++ ds)) (sym a) (subst (λ l. AreEntriesTold number l ys ds) (append-nil history) b)
  entries_more history (e ∷ xs) ys cs ds a b = (
    a.0,
    a.1 ++ ds,
    ap (λ l. l ++ ds) a.2 ∙ append_assoc a.0 a.1 ds,
    a.3,
    entries_more (history ++ e ∷ []) xs ys a.1 ds a.4 (subst (λ l. AreEntriesTold number l ys ds) (sym (append_assoc history (e ∷ []) xs)) b),
  )

-- ---- from one moment to the next

pub tells_nothing : (visitor : Visitor Entry) (caller : Caller) → TellsOfLoads visitor visitor caller caller
tells_nothing visitor caller = record {
  of_is = refl;
  shares_are = refl;
  number_is = refl;
  rest = [];
  seen_are = sym (append-nil visitor.seen);
  calls = [];
  calls_are = sym (append-nil caller.calls);
  told = refl;
}

pub tells_then : (u v w : Visitor Entry) (a b c : Caller) → TellsOfLoads u v a b → TellsOfLoads v w b c → TellsOfLoads u w a c
tells_then u v w a b c s t = record {
  of_is = t.of_is ∙ s.of_is;
  shares_are = t.shares_are ∙ s.shares_are;
  number_is = t.number_is ∙ s.number_is;
  rest = s.rest ++ t.rest;
  seen_are = t.seen_are ∙ ap (λ l. l ++ t.rest) s.seen_are ∙ append_assoc u.seen s.rest t.rest;
  calls = s.calls ++ t.calls;
  calls_are = t.calls_are ∙ ap (λ l. l ++ t.calls) s.calls_are ∙ append_assoc a.calls s.calls t.calls;
  told = entries_more u.number u.seen s.rest t.rest s.calls t.calls s.told
      (subst (λ n. AreEntriesTold n (u.seen ++ s.rest) t.rest t.calls) s.number_is (subst (λ l. AreEntriesTold v.number l t.rest t.calls) s.seen_are t.told));
}

-- a turn that adds nothing
pub tells_looked : (u v : Visitor Entry) (caller : Caller) → TakesTurn by [] u v → TellsOfLoads u v caller caller
tells_looked u v caller turn = record {
  of_is = refl;
  shares_are = refl;
  number_is = turn.same.number_is;
  rest = turn.knows.rest;
  seen_are = turn.left ∙ append-nil turn.found ∙ turn.knows.whole;
  calls = [];
  calls_are = sym (append-nil caller.calls);
  told = others_told u.number u.seen turn.knows.rest turn.knows.others;
}

-- a turn that adds a load, of which all is told
pub tells_load : (load : Load) (published : Published) (u v : Visitor Entry) (a b : Caller) → TakesTurn by (entry_of u.number load ∷ []) u v → IsTaken u.number load v.seen published → AreTold published.touched a b
    → TellsOfLoads u v a b
tells_load load published u v a b turn is told =
    let entry : Entry = entry_of u.number load in
    let found : turn.found ≡ is.before = append_cancel_right turn.found is.before (entry ∷ []) (sym turn.left ∙ is.whole) in
    let before : is.before ≡ u.seen ++ turn.knows.rest = sym found ∙ turn.knows.whole in
    let changes : Changes is.before entry published.touched = record { takes = is.takes; are = is.touched_are } in
    let own : AreEntriesTold u.number (u.seen ++ turn.knows.rest) (entry ∷ []) told.calls =
    subst (λ l. AreEntriesTold u.number l (entry ∷ []) told.calls) before (own_told u.number is.before entry published.touched told.calls refl changes told.are) in
    record {
      of_is = told.of_is;
      shares_are = told.shares_are;
      number_is = turn.same.number_is;
      rest = turn.knows.rest ++ entry ∷ [];
      seen_are = turn.left ∙ ap (λ l. l ++ entry ∷ []) turn.knows.whole ∙ append_assoc u.seen turn.knows.rest (entry ∷ []);
      calls = told.calls;
      calls_are = told.calls_are;
      told = entries_more u.number u.seen turn.knows.rest (entry ∷ []) [] told.calls (others_told u.number u.seen turn.knows.rest turn.knows.others) own;
    }

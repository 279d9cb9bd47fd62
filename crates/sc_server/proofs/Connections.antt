-- Connections that are served one after the other.
use Rattle.std.proofs.Common.{◌≡◌, inl, inr, ℕ, ◌+◌, ◌≤◌, Bool, true, false, List, [], ◌∷◌, ◌++◌, length, refl, sym, ap, ◌∙◌, subst, arith, append_assoc, length-append, None, Some}
use Rattle.std.proofs.lemmas.List.{append-nil}
use Rattle.std.specs.declared.option.Option.{Option}
use Rattle.sc_outside.specs.Causes.{Rose}
use Rattle.sc_outside.specs.Connections.{AtMostOut, CountsUp, HandsOut, IsOwed, NoneLeft, Stays, TakesBack}
use Rattle.sc_visit.specs.Visits.{Visitor}
use Rattle.sc_session.specs.declared.ending.ConnEnd.{ConnEnd}
use Rattle.sc_session.specs.Service.{Service}
use Rattle.sc_session.specs.Session.{Session}
use Rattle.sc_server.specs.Listening.{HandsOutAll, AreAll, TakesBackAll, place_of, AreServed, IsListened, ListensOnce}
use Rattle.sc_server.specs.declared.listening.Asked.{Asked}
use Rattle.sc_server.specs.declared.listening.Asked.TheVariants as asked

none_out : {X : Type 0} (l : Option (List X)) → HandsOutAll l l []
none_out None = tt
none_out (Some xs) = refl

none_back : {X : Type 0} (l : Option (List X)) → TakesBackAll l l []
none_back None = tt
none_back (Some xs) = sym (append-nil xs)

out_more : {X : Type 0} (l m n : Option (List X)) (xs : List X) (x : X) → HandsOutAll l m xs → HandsOut m n x → HandsOutAll l n (xs ++ x ∷ [])
out_more None m n xs x a b = tt
out_more (Some all) None n xs x a b = absurd a
out_more (Some all) (Some rest) None xs x a b = absurd b
out_more (Some all) (Some rest) (Some last) xs x a b = a ∙ ap (λ t. xs ++ t) b ∙ sym (append_assoc xs (x ∷ []) last)

back_more : {X : Type 0} (l m n : Option (List X)) (xs : List X) (x : X) → TakesBackAll l m xs → TakesBack m n x → TakesBackAll l n (xs ++ x ∷ [])
back_more None m n xs x a b = tt
back_more (Some ys) None n xs x a b = absurd a
back_more (Some ys) (Some zs) None xs x a b = absurd b
back_more (Some ys) (Some zs) (Some ws) xs x a b = b ∙ ap (λ t. t ++ x ∷ []) a ∙ append_assoc ys xs (x ∷ [])

out_stays : {X : Type 0} (l m n : Option (List X)) (xs : List X) → HandsOutAll l m xs → Stays m n → HandsOutAll l n xs
out_stays None m n xs a b = tt
out_stays (Some all) None n xs a b = absurd a
out_stays (Some all) (Some rest) None xs a b = absurd b
out_stays (Some all) (Some rest) (Some last) xs a b = a ∙ ap (λ t. xs ++ t) (sym b)

back_stays : {X : Type 0} (l m n : Option (List X)) (xs : List X) → TakesBackAll l m xs → Stays m n → TakesBackAll l n xs
back_stays None m n xs a b = tt
back_stays (Some ys) None n xs a b = absurd a
back_stays (Some ys) (Some zs) None xs a b = absurd b
back_stays (Some ys) (Some zs) (Some ws) xs a b = b ∙ a

are_all : {X : Type 0} (l m : Option (List X)) (xs : List X) → HandsOutAll l m xs → NoneLeft m → AreAll l xs
are_all None m xs a n = tt
are_all (Some all) None xs a n = absurd a
are_all (Some all) (Some rest) xs a n = a ∙ ap (λ t. xs ++ t) n ∙ append-nil xs

-- what was handed out before a change that leaves the list as it is
pub handed_then : {X : Type 0} (l m n : Option (List X)) (x : X) → HandsOut l m x → Stays m n → HandsOut l n x
handed_then None m n x a b = tt
handed_then (Some xs) None n x a b = absurd a
handed_then (Some xs) (Some ys) None x a b = absurd b
handed_then (Some xs) (Some ys) (Some zs) x a b = a ∙ ap (λ t. x ∷ t) (sym b)

-- what is taken back behind a change that leaves the list as it is
pub taken_then : {X : Type 0} (l m n : Option (List X)) (x : X) → Stays l m → TakesBack m n x → TakesBack l n x
taken_then None m n x a b = tt
taken_then (Some xs) None n x a b = absurd a
taken_then (Some xs) (Some ys) None x a b = absurd b
taken_then (Some xs) (Some ys) (Some zs) x a b = b ∙ ap (λ t. t ++ x ∷ []) a

-- a connection that was handed out may be handed back
pub owed : {X : Type 0} (out out' : Option ℕ) (back back' : Option (List X)) → AtMostOut out back → CountsUp out out' → Stays back back' → IsOwed out' back'
owed None None back back' most up stays = tt
owed None (Some m) back back' most up stays = absurd up
owed (Some n) None back back' most up stays = absurd up
owed (Some n) (Some m) None None most up stays = tt
owed (Some n) (Some m) None (Some ys) most up stays = absurd stays
owed (Some n) (Some m) (Some xs) None most up stays = absurd stays
owed (Some n) (Some m) (Some xs) (Some ys) most up stays = omega (arith, most, up, ap length stays)

rose_later : (a b c : ℕ) → a ≤ b → Rose b c → Rose a c
rose_later a b c l r = omega (arith, l, r)

module _ {In Out E L J : Type 0} (left : In → Option (List ℕ)) (ended : In → Bool) (faults : In → ℕ) (written : Out → Option (List ℕ)) (write_faults : Out → ℕ) (service : Service E L J) where
  served_more : (cs ds : List (In × Out)) (c d : In × Out) (end : ConnEnd) (old mid new : Visitor E)
      → AreServed left ended faults written write_faults service cs ds old mid
      → Session service (place_of left ended faults written write_faults service c mid) (place_of left ended faults written write_faults service d new) end
      → AreServed left ended faults written write_faults service (cs ++ c ∷ []) (ds ++ d ∷ []) old new
  served_more [] [] c d end old mid new s one =
      (new, end, subst (λ v. Session service (place_of left ended faults written write_faults service c v) (place_of left ended faults written write_faults service d new) end) s one, refl)
  served_more [] (e ∷ ds) c d end old mid new s one = absurd s
  served_more (b ∷ cs) [] c d end old mid new s one = absurd s
  served_more (b ∷ cs) (e ∷ ds) c d end old mid new s one = (s.0, s.1, s.2, served_more cs ds c d end s.0 mid new s.3 one)

  module _ {N : Type 0} (net_left net_back : N → Option (List (In × Out))) (net_faults : N → ℕ) where
    -- so many connections were served so far
    pub record SoFar (count : ℕ) (old_net new_net : N) (old new : Visitor E) : Type 0 where
      pub given : List (In × Out)
      pub back : List (In × Out)
      pub served : AreServed left ended faults written write_faults service given back old new
      pub handed_out : HandsOutAll (net_left old_net) (net_left new_net) given
      pub handed_back : TakesBackAll (net_back old_net) (net_back new_net) back
      pub many : length given ≡ count
      pub later : net_faults old_net ≤ net_faults new_net

    abbrev Once : Asked → N → N → Visitor E → Visitor E → Type 0
    Once = ListensOnce left ended faults written write_faults service net_left net_back net_faults

    abbrev Listened : ℕ → Bool → N → N → Visitor E → Visitor E → Type 0
    Listened = IsListened left ended faults written write_faults service net_left net_back net_faults

    pub none_yet : (net : N) (old : Visitor E) → SoFar 0 net net old old
    none_yet net old = record {
      given = [];
      back = [];
      served = refl;
      handed_out = none_out (net_left net);
      handed_back = none_back (net_back net);
      many = refl;
      later = omega arith;
    }

    pub one_more : (count : ℕ) (a b c : N) (u v w : Visitor E) → SoFar count a b u v → Once asked.Served b c v w → SoFar (count + 1) a c u w
    one_more count a b c u v w s o = record {
      given = s.given ++ o.0 ∷ [];
      back = s.back ++ o.1 ∷ [];
      served = served_more s.given s.back o.0 o.1 o.2 u v w s.served o.3;
      handed_out = out_more (net_left a) (net_left b) (net_left c) s.given o.0 s.handed_out o.4;
      handed_back = back_more (net_back a) (net_back b) (net_back c) s.back o.1 s.handed_back o.5;
      many = length-append s.given (o.0 ∷ []) ∙ ap (λ n. n + 1) s.many;
      later = omega (arith, s.later, o.6);
    }

    pub ends_full : (count most : ℕ) (a b : N) (u v : Visitor E) → count ≡ most → SoFar count a b u v → Listened most false a b u v
    ends_full count most a b u v full s = record {
      given = s.given;
      back = s.back;
      served = s.served;
      handed_out = s.handed_out;
      handed_back = s.handed_back;
      few = omega (arith, s.many, full);
      all = inl (s.many ∙ full);
      later = s.later;
      cause = λ e. let bad : false ≡ true = e in cc;
    }

    pub ends_none : (count most : ℕ) (a b c : N) (u v w : Visitor E) → count ≤ most → SoFar count a b u v → Once asked.NoneLeft b c v w → Listened most false a c u w
    ends_none count most a b c u v w l s o = record {
      given = s.given;
      back = s.back;
      served = subst (AreServed left ended faults written write_faults service s.given s.back u) (sym o.0) s.served;
      handed_out = out_stays (net_left a) (net_left b) (net_left c) s.given s.handed_out o.2;
      handed_back = back_stays (net_back a) (net_back b) (net_back c) s.back s.handed_back o.3;
      few = omega (arith, s.many, l);
      all = inr (inl (are_all (net_left a) (net_left b) s.given s.handed_out o.1));
      later = omega (arith, s.later, o.4);
      cause = λ e. let bad : false ≡ true = e in cc;
    }

    pub ends_failed : (count most : ℕ) (a b c : N) (u v w : Visitor E) → count ≤ most → SoFar count a b u v → Once asked.Failed b c v w → Listened most true a c u w
    ends_failed count most a b c u v w l s o = record {
      given = s.given;
      back = s.back;
      served = subst (AreServed left ended faults written write_faults service s.given s.back u) (sym o.0) s.served;
      handed_out = out_stays (net_left a) (net_left b) (net_left c) s.given s.handed_out o.1;
      handed_back = back_stays (net_back a) (net_back b) (net_back c) s.back s.handed_back o.2;
      few = omega (arith, s.many, l);
      all = inr (inr refl);
      later = omega (arith, s.later, o.3);
      cause = λ e. rose_later (net_faults a) (net_faults b) (net_faults c) s.later o.4;
    }

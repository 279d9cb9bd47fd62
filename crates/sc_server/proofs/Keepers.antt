-- Workers over a kept catalogue: how they are employed, what they leave, and what that shows of the closed history.
use Rattle.std.proofs.Common.{◌≡◌, ℕ, ◌+◌, ◌-◌, ◌<◌, Bool, ◌||◌, List, [], ◌∷◌, ◌++◌, length, get_or, false, sym, refl, ap, ap₂, ◌∙◌, subst, arith, length-append, map}
use Rattle.std.proofs.Math.ListN.{get_or-append}
use Rattle.std.proofs.lemmas.List.{length-map}
use Rattle.std.specs.declared.option.Option.{Option}
use Rattle.std.specs.List.{All}
use Rattle.sc_turn.specs.{TableId}
use Rattle.sc_turn.specs.History.{Closes, HasNumbers}
use Rattle.sc_turn.specs.Passes.{card_desk, card_number, card_seen, card_start, card_visits, pair_of, IsNew, AreNew}
use Rattle.sc_turn.specs.declared.booked.Booked.{Ghosts}
use Rattle.sc_turn.specs.declared.pass.Card.{Card}
use Rattle.sc_load.specs.declared.load.Load.{Load}
use Rattle.sc_catalog.specs.declared.entry.Entry.{Entry}
use Rattle.sc_catalog.specs.Entries.{by}
use Rattle.sc_visit.specs.Visits.{Visitor, IsSame}
use Rattle.sc_session.specs.Service.{Service}
use Rattle.sc_server.specs.Seats.{joiner, IsCardFor}
use Rattle.sc_server.specs.Workers.{seen_by}
use Rattle.sc_server.specs.Keepers.{AreDismissed, AreEmployed, AreLeft, IsKeptServed}
use Rattle.sc_server.specs.declared.keeper.Keeper.{Keeper}
use Rattle.sc_server.proofs.Lists.{any_image, any_more, at_map_or, at_middle, at_next, images_twice, map_more, pick, same_images, snoc_each}
use Rattle.sc_server.proofs.Sessions.{served_same}

-- ---- employing

module _ {V : Type 0} {g : Ghosts V Entry} (desk : TableId) (begun : List Entry) (m : ℕ) (all done next rest : List (Card V Entry g)) (card : Card V Entry g) (new : AreNew desk begun m all) (split : all ≡ done ++ next) (is : next ≡ card ∷ rest) where
  pub next_card : IsNew desk (length done + 1) begun card
  next_card =
      let at = at_next all done rest next card card split is in
      let count = new.count in
      let lt = at.1 in
      subst (IsNew desk (length done + 1) begun) at.0 (new.each (length done) card (omega arith))

-- where a listener is left, a card is
pub card_left : {C N : Type 0} (all done next : List C) (nets yielded rest more : List N) (net : N)
    → length all ≡ length nets → all ≡ done ++ next → length done ≡ length yielded → nets ≡ yielded ++ rest → rest ≡ net ∷ more → 0 < length next
card_left all done next nets yielded rest more net many split dealt left is =
    omega (arith, many, ap length split, length-append done next, dealt, ap length left, length-append yielded rest, ap length is)

-- workers have passes that are numbered from 1
abbrev pub AreNumbered : {N D : Type 0} → TableId → List Entry → List (Keeper N D) → Type 0
AreNumbered {N} {D} desk begun keepers = (k : ℕ) (w : Keeper N D) → k < length keepers → (get_or keepers k w).pass ≡ joiner desk begun (k + 1)

pub none_numbered : {N D : Type 0} (desk : TableId) (begun : List Entry) → AreNumbered {N = N} {D = D} desk begun []
none_numbered desk begun k w lt = absurd (omega (arith, lt))

pub numbered_step : {N D V : Type 0} {g : Ghosts V Entry} (desk : TableId) (begun : List Entry) (card : Card V Entry g) (keepers keepers' : List (Keeper N D)) (keeper : Keeper N D) (v : Visitor Entry)
    → IsNew desk (length keepers + 1) begun card → AreNumbered desk begun keepers → keepers' ≡ keepers ++ keeper ∷ [] → keeper.pass ≡ v
    → v.desk ≡ card_desk card → v.number ≡ card_number card → v.start ≡ card_start card → v.seen ≡ card_seen card → v.visits ≡ card_visits card → AreNumbered desk begun keepers'
numbered_step {N} {D} desk begun card keepers keepers' keeper v new numbered items pass_is d n st se vi =
    let number : v.number ≡ length keepers + 1 = n ∙ new.numbered in
    let pass : v ≡ joiner desk begun (length keepers + 1) =
    λ i. record { desk = (d ∙ new.of) i; number = number i; start = (st ∙ new.begun) i; seen = (se ∙ new.saw) i; visits = (vi ∙ new.unvisited) i } in
    let P : ℕ → Keeper N D → Type 0 = λ k w. w.pass ≡ joiner desk begun (k + 1) in
    subst (AreNumbered desk begun) (sym items) (λ k w lt. snoc_each P keepers keeper numbered (pass_is ∙ pass) k w (omega (arith, length-append keepers (keeper ∷ []), lt)))

-- ---- leaving

pub none_left : {N D V : Type 0} {g : Ghosts V Entry} → AreDismissed {N = N} {D = D} {V = V} {g = g} [] [] [] false
none_left = record { many = refl; each = λ k w c lt. absurd (omega (arith, lt)); nets_are = refl; failed_is = refl }

pub left_step : {N D V : Type 0} {g : Ghosts V Entry} (keepers : List (Keeper N D)) (keeper : Keeper N D) (cards cards' : List (Card V Entry g)) (card : Card V Entry g) (nets nets' : List N) (net : N) (failed failed' is_failed : Bool)
    → AreDismissed keepers cards nets failed → cards' ≡ cards ++ card ∷ [] → nets' ≡ nets ++ net ∷ [] → failed' ≡ (failed || is_failed)
    → IsCardFor keeper.pass card → net ≡ keeper.net → is_failed ≡ keeper.failed → AreDismissed (keepers ++ keeper ∷ []) cards' nets' failed'
left_step {N} {D} {V} {g} keepers keeper cards cards' card nets nets' net failed failed' is_failed left items nets_more more is net_is failed_is =
    let many = left.many in
    let C : Type 0 = Card V Entry g in
    let Q : ℕ → Keeper N D → Type 0 = λ k w. (d : C) → IsCardFor w.pass (get_or (cards ++ card ∷ []) k d) in
    let last : Q (length keepers) keeper = λ d. subst (λ k. IsCardFor keeper.pass (get_or (cards ++ card ∷ []) k d)) many (subst (IsCardFor keeper.pass) (sym (at_middle cards [] card d)) is) in
    let first = λ (k : ℕ) (w : Keeper N D) (lt : k < length keepers) (d : C). subst (IsCardFor (get_or keepers k w).pass) (sym (get_or-append cards (card ∷ []) d k (omega arith))) (left.each k w d lt) in
    record {
      many = ap length items ∙ length-append cards (card ∷ []) ∙ ap (λ n. n + 1) many ∙ sym (length-append keepers (keeper ∷ []));
      each = λ k w d lt. subst (λ l. IsCardFor (get_or (keepers ++ keeper ∷ []) k w).pass (get_or l k d)) (sym items) (snoc_each Q keepers keeper first last k w (omega (arith, length-append keepers (keeper ∷ []), lt)) d);
      nets_are = nets_more ∙ ap₂ (λ xs x. xs ++ x ∷ []) left.nets_are net_is ∙ sym (map_more (λ (w : Keeper N D). w.net) keepers keeper);
      failed_is = more ∙ ap₂ (λ a b. a || b) left.failed_is failed_is ∙ sym (any_more (λ (w : Keeper N D). w.failed) keepers keeper);
    }

-- ---- what they did, and the closed history

module _ {In Out N D J : Type 0} (left : In → Option (List ℕ)) (ended : In → Bool) (faults : In → ℕ) (written : Out → Option (List ℕ)) (write_faults : Out → ℕ) (service : Service Entry Load J) (net_left net_back : N → Option (List (In × Out))) (net_faults : N → ℕ)
    {V : Type 0} {g : Ghosts V Entry} (desk : TableId) (begun : List Entry) (most : ℕ) (nets back : List N) (old : List (Keeper N D)) (cards : List (Card V Entry g)) (failed : Bool)
    (employed : AreEmployed desk begun nets old) (are : AreLeft left ended faults written write_faults service net_left net_back net_faults most old cards back failed) where
  abbrev new : List (Keeper N D)
  new = are.ended_as

  many : length old ≡ length nets
  many = sym (length-map old (λ (w : Keeper N D). w.net)) ∙ ap length employed.nets_are

  long : length new ≡ length old
  long = are.kept.count

  same : (k : ℕ) (w : Keeper N D) → k < length old → IsSame (get_or old k w).pass (get_or new k w).pass
  same k w lt = let did = are.kept.each k w lt in served_same left ended faults written write_faults service did.given did.back (get_or old k w).pass (get_or new k w).pass did.served

  card_at : (k : ℕ) (c : Card V Entry g) → k < length cards → (card_desk (get_or cards k c) ≡ desk) × (card_number (get_or cards k c) ≡ k + 1)
  card_at k c lt =
      let here : k < length new = omega (arith, are.dismissed.many, lt) in
      let there : k < length old = omega (arith, long, here) in
      let w = pick old k there in
      let is = are.dismissed.each k w c here in
      let kept = same k w there in
      let first = employed.passes k w there in
      (is.of ∙ kept.desk_is ∙ ap (λ (v : Visitor Entry). v.desk) first, is.numbered ∙ kept.number_is ∙ ap (λ (v : Visitor Entry). v.number) first)

  pub cards_desk : All (λ card. card_desk card ≡ desk) cards
  cards_desk k c lt = (card_at k c lt).0

  pub cards_many : length cards ≡ length nets
  cards_many = are.dismissed.many ∙ long ∙ many

  pub cards_all : (m : ℕ) → m ≡ length nets → HasNumbers m (map card_number cards)
  cards_all m is x low high =
      let k : ℕ = x - 1 in
      let lt : k < length cards = omega (arith, is, cards_many, low, high) in
      let k_is : k + 1 ≡ x = omega (arith, low) in
      let c = pick cards k lt in
      let images = length-map cards card_number in
      (k, omega (arith, images, lt), at_map_or card_number cards k c x lt ∙ (card_at k c lt).1 ∙ k_is)

  pairs_are : map pair_of cards ≡ map seen_by (map (λ (w : Keeper N D). w.pass) new)
  pairs_are =
      same_images (λ (w : Keeper N D). seen_by w.pass) pair_of new cards are.dismissed.many (λ k w c lt. let p = are.dismissed.each k w c lt in ap₂ (λ a b. (a, b)) p.numbered p.saw)
      ∙ images_twice (λ (w : Keeper N D). w.pass) seen_by new

  pub kept_served : (history : List Entry) → Closes by begun (map pair_of cards) history
      → IsKeptServed left ended faults written write_faults service net_left net_back net_faults most begun nets back failed history
  kept_served history closes = record {
    desk = desk;
    ends = map (λ (w : Keeper N D). w.pass) new;
    flags = map (λ (w : Keeper N D). w.failed) new;
    many = (
      ap length are.dismissed.nets_are ∙ length-map new (λ (w : Keeper N D). w.net) ∙ long ∙ many,
      length-map new (λ (w : Keeper N D). w.pass) ∙ long ∙ many,
      length-map new (λ (w : Keeper N D). w.failed) ∙ long ∙ many,
    );
    each = λ k n v f lt.
        let here : k < length old = omega (arith, many, lt) in
        let there : k < length new = omega (arith, long, here) in
        let w = pick new k there in
        let net : get_or nets k n ≡ (get_or old k w).net = ap (λ (l : List N). get_or l k n) (sym employed.nets_are) ∙ at_map_or (λ (u : Keeper N D). u.net) old k w n here in
        let flag = at_map_or (λ (u : Keeper N D). u.failed) new k w f there in
        let back_is : get_or back k n ≡ (get_or new k w).net = ap (λ (l : List N). get_or l k n) are.dismissed.nets_are ∙ at_map_or (λ (u : Keeper N D). u.net) new k w n there in
        let end = at_map_or (λ (u : Keeper N D). u.pass) new k w v there in
        rw (flag, net, back_is, end, sym (employed.passes k w here)) (are.kept.each k w here);
    failed_is = are.dismissed.failed_is ∙ any_image (λ (w : Keeper N D). w.failed) new;
    closes = subst (λ l. Closes by begun l history) pairs_are closes;
  }

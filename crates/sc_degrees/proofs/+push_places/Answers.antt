use Rattle.std.proofs.Common.{◌≡◌, ◌<◌, ◌≤◌, ◌+◌, ◌/◌, ◌++◌, ◌∷◌, [], List, ℕ, ap, ◌∙◌, string_bytes, arith}
use Rattle.std.proofs.lemmas.Result.{on_ok_weaker}
use Rattle.sc_degrees.proofs.Places.{places_none, places_pushed, some_places, digit_small}
use Rattle.sc_degrees.proofs.+push_places.Goals as goal

pub returns-then-rest-eq0 : goal.returns-then-rest-eq0
returns-then-rest-eq0 t c = places_none c.args.count c.args.rest (string_bytes c.args.out.now) c.if-rest-eq0.true

pub returns : goal.returns
returns t c =
    let count : ℕ = c.args.count in let rest : ℕ = c.args.rest in let unit : ℕ = c.pow-unit.result in
    let more : 1 ≤ count = some_places count rest c.if-rest-eq0.false c.requires.within in
    let small : rest / unit < 10 = digit_small count rest unit more c.requires.within c.pow-unit.ensures in
    let digit : 48 + rest / unit < 128 = omega arith in
    let mid : string_bytes c.push.new.self ≡ string_bytes c.args.out.now ++ (48 + rest / unit) ∷ [] =
    c.in_ok-push.ensures.bytes ∙ ap (λ (x : List ℕ). string_bytes c.args.out.now ++ x) (c.in_ok-push.ensures.ascii digit) in
    on_ok_weaker c.push_places.result (places_pushed count rest unit (string_bytes c.args.out.now) (string_bytes c.push.new.self) (string_bytes c.push_places.new.out) c.if-rest-eq0.false more c.pow-unit.ensures mid) c.push_places.ensures

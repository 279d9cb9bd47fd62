use Rattle.std.proofs.Common.{subst}
use Rattle.sc_http.specs.Heads.{HeadOf}
use Rattle.sc_http.proofs.Fronts.{take_room, head_of_room, none_over, over_all, front_over}
use Rattle.sc_http.proofs.look.look.Goals as goal

pub returns-then-is_over : goal.returns-then-is_over
returns-then-is_over c =
    let m = c.requires in
    let judged = subst (λ b. HeadOf b c.in_ok-head.field-0) (take_room _ m.front _ m.room m.seen) c.in_ok-head.ensures in
    let f = subst (HeadOf m.front) c.in-Unfinished.is judged in
    let over = front_over _ _ m c.if-is_over.ensures in
    (none_over _ m.front m.room over f, over_all _ m.front m.room over, (m.front, m.room, f.open_still))

pub returns-in-Found : goal.returns-in-Found
returns-in-Found c =
    let m = c.requires in
    let judged = subst (λ b. HeadOf b c.in_ok-head.field-0) (take_room _ m.front _ m.room m.seen) c.in_ok-head.ensures in
    let f = subst (HeadOf m.front) c.in-Found.is judged in
    let h = head_of_room _ m.front f.0 f.1 m.room f.2 f.3 in
    (f.0, h.0, h.1, f.4)

pub returns-in-Malformed : goal.returns-in-Malformed
returns-in-Malformed c =
    let m = c.requires in
    let judged = subst (λ b. HeadOf b c.in_ok-head.field-0) (take_room _ m.front _ m.room m.seen) c.in_ok-head.ensures in
    (m.front, m.room, subst (HeadOf m.front) c.in-Malformed.is judged)

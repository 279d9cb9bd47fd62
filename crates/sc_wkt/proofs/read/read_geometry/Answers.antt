use Rattle.std.proofs.Common.{◌≡◌, ◌<◌, [], ap, subst, ◌∙◌, arith}
use Rattle.std.specs.Option.{option_or}
use Rattle.sc_wkt.specs.Drawing.{Drawing}
use Rattle.sc_wkt.specs.Kept.{IsDrawing}
use Rattle.sc_wkt.proofs.Ahead.{some_left, not_true, ahead_at_first, ahead_on, ahead_stops, ahead_ends, taken_is_formed, token_read}
use Rattle.sc_wkt.proofs.read.read_geometry.Goals as goal

pub loop-drawing-init : goal.loop-drawing-init
loop-drawing-init c = (
  ahead_at_first c.args.text.now c.args.is_whole c.in_ok-stack.stack c.in_ok-drawing.drawing c.in_ok-stack.ensures c.in_ok-drawing.ensures,
  λ e. some_left c.in_ok-stack.stack c.in_ok-stack.ensures e,
)

pub returns-then-not-branch : goal.returns-then-not-branch
returns-then-not-branch c =
    let refuses = rw c.if-not-branch.true at (c.in_ok-take.ensures c.loop-drawing.invariant.0.drawn c.loop-drawing.invariant.0.drawing_is) in
    ahead_stops c.args.text.now c.args.is_whole c.loop-drawing.at c.loop-drawing.level c.loop-drawing.stack c.loop-drawing.drawing c.loop-drawing.wide c.loop-drawing.invariant.0
    c.next_token-token.result c.next_token-token.ensures.token c.loop-drawing.invariant.1 refuses c.take.new.drawing

pub loop-drawing-preserved : goal.loop-drawing-preserved
loop-drawing-preserved c =
    let took = rw c.if-not-branch.false at (c.in_ok-take.ensures c.loop-drawing.invariant.0.drawn c.loop-drawing.invariant.0.drawing_is) in
    let read = token_read c.args.text.now c.loop-drawing.stack c.loop-drawing.invariant.0.drawn c.next_token-token.result c.take.new.stack took.0 took.1 in
    let wide = c.wide_at.ensures c.args.text.now read.0 (subst (λ (d : Drawing). IsDrawing c.take.new.drawing d) read.1 took.2) in
    let ahead = ahead_on c.args.text.now c.args.is_whole c.loop-drawing.at c.loop-drawing.level c.loop-drawing.stack c.loop-drawing.drawing c.loop-drawing.wide c.loop-drawing.invariant.0
    c.next_token-token.result c.next_token-token.ensures.token c.take.new.stack c.take.new.drawing took.0 took.1 took.2
    c.or-wide.result (c.or-wide.ensures ∙ ap (option_or c.loop-drawing.wide) wide) c.level_behind-level.result c.level_behind-level.ensures c.next_token-token.ensures.within in
    let left : c.take.new.stack ≡ [] → ⊥ = λ e. not_true (c.if-is_empty.ensures.1 e) in
    (ahead, left)

pub loop-drawing-smaller : goal.loop-drawing-smaller
loop-drawing-smaller c =
    let took = rw c.if-not-branch.false at (c.in_ok-take.ensures c.loop-drawing.invariant.0.drawn c.loop-drawing.invariant.0.drawing_is) in
    let formed = taken_is_formed c.args.text.now c.args.is_whole c.loop-drawing.at c.loop-drawing.level c.loop-drawing.stack c.loop-drawing.drawing c.loop-drawing.wide c.loop-drawing.invariant.0
    c.next_token-token.result c.next_token-token.ensures.token c.take.new.stack took.0 took.1 in
    let forward : c.next_token-token.result.from < c.next_token-token.result.to = c.next_token-token.ensures.forward formed in
    omega (arith, c.next_token-token.ensures.onward, c.next_token-token.ensures.within)

pub returns-then-is_empty : goal.returns-then-is_empty
returns-then-is_empty c =
    let took = rw c.if-not-branch.false at (c.in_ok-take.ensures c.loop-drawing.invariant.0.drawn c.loop-drawing.invariant.0.drawing_is) in
    let read = token_read c.args.text.now c.loop-drawing.stack c.loop-drawing.invariant.0.drawn c.next_token-token.result c.take.new.stack took.0 took.1 in
    let wide = c.wide_at.ensures c.args.text.now read.0 (subst (λ (d : Drawing). IsDrawing c.take.new.drawing d) read.1 took.2) in
    let ahead = ahead_on c.args.text.now c.args.is_whole c.loop-drawing.at c.loop-drawing.level c.loop-drawing.stack c.loop-drawing.drawing c.loop-drawing.wide c.loop-drawing.invariant.0
    c.next_token-token.result c.next_token-token.ensures.token c.take.new.stack c.take.new.drawing took.0 took.1 took.2
    c.or-wide.result (c.or-wide.ensures ∙ ap (option_or c.loop-drawing.wide) wide) c.level_behind-level.result c.level_behind-level.ensures c.next_token-token.ensures.within in
    ahead_ends c.args.text.now c.args.is_whole c.next_token-token.result.to c.level_behind-level.result c.take.new.stack c.take.new.drawing c.or-wide.result ahead (c.is_empty.ensures.0 c.if-is_empty.true)

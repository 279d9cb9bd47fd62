use Rattle.std.proofs.Common.{◌+◌, [], ◌∷◌, sym, ◌∙◌, ap, arith}
use Rattle.std.proofs.lemmas.List.{take-append-drop, append-nil}
use Rattle.sc_outside.specs.Lines.{lines_to_read}
use Rattle.sc_outside.proofs.LineFacts.{judged_at_feed, judged_without_feed, none_judged, some_bytes}
use Rattle.sc_outside.proofs.lines.next_line.Goals as goal

pub returns-in-Some : goal.returns-in-Some
returns-in-Some c = (
  rw (c.split_at.ensures.front, c.split_at.ensures.back) (judged_at_feed c.args.bytes.now c.in-Some.at c.in-Some.ensures c.args.all),
  rw (c.split_at.ensures.front, c.split_at.ensures.back) (sym (take-append-drop (c.in-Some.at + 1) c.args.bytes.now)),
  omega (arith, c.split_at.ensures.front_len),
)

pub returns-then-not-all : goal.returns-then-not-all
returns-then-not-all c =
    ap (λ a. lines_to_read a c.args.bytes.now) c.if-not-all.true ∙ none_judged c.args.bytes.now (sym c.in_default.is ∙ c.feed_at.ensures)

pub returns : goal.returns
returns c = (
  ap (λ a. lines_to_read a c.args.bytes.now) c.if-not-all.false ∙ judged_without_feed c.args.bytes.now (sym c.in_default.is ∙ c.feed_at.ensures) (some_bytes _ c.if-is_empty.ensures) ∙ ap (λ a. c.args.bytes.now ∷ lines_to_read a []) (sym c.if-not-all.false),
  sym (append-nil c.args.bytes.now),
  some_bytes _ c.if-is_empty.ensures,
)

use Rattle.std.proofs.lemmas.Str.{IsUtf8-string_bytes}
use Rattle.std.proofs.Common.{rules}
use Rattle.sc_eval.proofs.Places.{head_begins, head_goes_on}
use Rattle.sc_eval.proofs.like.whole_head.Goals as goal

pub loop-c-init : goal.loop-c-init
loop-c-init c = (c.utf8.pattern, head_begins _ _ c.new-head.ensures.bytes)

pub loop-c-preserved : goal.loop-c-preserved
loop-c-preserved c = (
  search rules,
  head_goes_on _ _ _ _ _ _ c.in-Some-Same-default.c (IsUtf8-string_bytes c.loop-c.head) (IsUtf8-string_bytes c.push.new.self)
      c.in_ok-push.ensures.bytes c.loop-c.invariant.1 c.in-Some-Same-default.ensures.0 c.in-Some-Same-default.field-0-0-is,
)

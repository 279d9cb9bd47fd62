use Rattle.sc_http.proofs.Replies.{joined}
use Rattle.sc_http.proofs.reply.put_reply.Goals as goal

pub returns-clause-bytes : goal.returns-clause-bytes
returns-clause-bytes c =
    joined c.args.reply.now _ _ _ _ _ _ _ _ _ _ _ _ _ c.type_text.ensures c.len.ensures c.end_text.ensures c.as_str.ensures c.in_ok-put_status.ensures.bytes
    c.in_ok-push_str.ensures.bytes c.in_ok-put_length.ensures.bytes c.in_ok-put_revision.ensures.bytes c.in_ok-put_allow.ensures.bytes c.in_ok-put_close.ensures.bytes
    c.in_ok-push_str-2.ensures.bytes c.in_ok-push_str-3.ensures.bytes

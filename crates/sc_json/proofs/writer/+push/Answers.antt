use Rattle.sc_json.proofs.Writing.{compact-list, compact-object, closed}
use Rattle.sc_json.proofs.writer.+push.Goals as goal

pub push_json-returns-in_ok-push-in-List-2 : goal.push_json-returns-in_ok-push-in-List-2
unfolding lib.Utf8.encode
push_json-returns-in_ok-push-in-List-2 t c =
    let done = rw c.as_slice.ensures at c.in_ok-push_elements-in-List.ensures in
    rw (c.in-List.is, compact-list) (closed _ _ _ _ _ 91 93 c.in_ok-push-in-List.ensures.bytes done c.in_ok-push-in-List-2.ensures.bytes)

pub push_json-returns-in_ok-push-in-Object-2 : goal.push_json-returns-in_ok-push-in-Object-2
unfolding lib.Utf8.encode
push_json-returns-in_ok-push-in-Object-2 t c =
    let done = rw c.as_slice-in-Object.ensures at c.in_ok-push_members-in-Object.ensures in
    rw (c.in-Object.is, compact-object) (closed _ _ _ _ _ 123 125 c.in_ok-push-in-Object.ensures.bytes done c.in_ok-push-in-Object-2.ensures.bytes)

use Rattle.std.proofs.Common.{◌≡◌}
use Rattle.std.specs.Str.{IsUtf8}
use Rattle.sc_time.specs.Written.{utc_text}
use Rattle.sc_time.proofs.Back.{read_back, utf8_text, not_none}
use Rattle.sc_time.proofs.write.write_instant.Goals as goal

pub unreachable-requires : goal.unreachable-requires
unreachable-requires c =
    let bytes : c.in_ok-bytes.bytes.items ≡ utc_text c.form_of-form.result = c.in_ok-bytes.ensures in
    let utf8 : IsUtf8 c.in_ok-bytes.bytes.items = rw bytes (utf8_text c.form_of-form.result) in
    let some = not_none c.in_ok-bytes.bytes.items utf8 c.of_vec.result c.of_vec.ensures in
    let none = c.in-None.is in
    cc

pub returns-clause-read_back : goal.returns-clause-read_back
returns-clause-read_back c =
    let bytes : c.in_ok-bytes.bytes.items ≡ utc_text c.form_of-form.result = c.in_ok-bytes.ensures in
    let utf8 : IsUtf8 c.in_ok-bytes.bytes.items = rw bytes (utf8_text c.form_of-form.result) in
    let some = not_none c.in_ok-bytes.bytes.items utf8 c.of_vec.result c.of_vec.ensures in
    let is = c.in-Some.is in
    let same : c.in-Some.text ≡ c.in_ok-bytes.bytes.items = cc in
    rw (same, bytes) (read_back c.args.at c.form_of-form.result c.form_of-form.ensures.range c.form_of-form.ensures.form)

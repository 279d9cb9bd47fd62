use Rattle.std.proofs.Common.{◌++◌, ◌∙◌, ap, string_bytes}
use Rattle.std.specs.List.{flat_map}
use Rattle.sc_json.specs.Compact.{quoted}
use Rattle.sc_token.proofs.Lists.{listed, with_comma}
use Rattle.sc_token.proofs.list.list_text.Goals as goal

pub returns-clause-text : goal.returns-clause-text
unfolding lib.Utf8.encode
returns-clause-text c =
    listed c.args.key.now
    (string_bytes c.in_ok-out.out) (string_bytes c.push.new.self) (string_bytes c.push_values.new.out) (string_bytes c.push_quoted.new.out)
    (string_bytes c.push-2.new.self) (string_bytes c.push_quoted-2.new.out) (string_bytes c.push-3.new.self)
    c.in_ok-out.ensures.bytes
    c.in_ok-push.ensures.bytes
    (c.in_ok-push_values.ensures ∙ ap (λ vs. string_bytes c.push.new.self ++ flat_map with_comma vs) c.values.ensures.values)
    (c.in_ok-push_quoted.ensures ∙ ap (λ t. string_bytes c.push_values.new.out ++ quoted t) (c.as_str.ensures ∙ c.collection.ensures))
    c.in_ok-push-2.ensures.bytes
    (c.in_ok-push_quoted-2.ensures ∙ ap (λ t. string_bytes c.push-2.new.self ++ quoted t) (c.as_str-2.ensures ∙ c.id.ensures))
    c.in_ok-push-3.ensures.bytes

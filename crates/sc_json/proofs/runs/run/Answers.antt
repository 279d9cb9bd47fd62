use Rattle.std.proofs.Common.{sym, ◌∙◌}
use Rattle.sc_json.proofs.RunsOn.{plain_front, number_front, blank_front}
use Rattle.sc_json.proofs.runs.run.Goals as goal

pub returns-in_ok-extend-in-Quoted-default-Plain-default-default :
    goal.returns-in_ok-extend-in-Quoted-default-Plain-default-default
returns-in_ok-extend-in-Quoted-default-Plain-default-default c =
    let q = c.in-Quoted-default-Plain-default-default in
    plain_front c.args.state.now q.is_name q.piece q.text c.extend.new.self q.from c.args.at c.plain_len-n.result c.args.bytes.now
    q.is q.piece-is c.plain_len-n.ensures.within c.plain_len-n.ensures.plain c.in_ok-extend-in-Quoted-default-Plain-default-default.ensures

pub returns-in_ok-extend-in-Number : goal.returns-in_ok-extend-in-Number
returns-in_ok-extend-in-Number c =
    number_front c.args.state.now c.in-Number.part c.number_len-n.result.1 c.in-Number.literal c.extend-in-Number.new.self c.in-Number.from c.args.at c.number_len-n.result.0 c.args.bytes.now
    c.in-Number.is c.number_len-n.ensures.within c.number_len-n.ensures.parts c.in_ok-extend-in-Number.ensures

pub returns-then-rests : goal.returns-then-rests
returns-then-rests c = blank_front c.args.state.now c.args.at c.blank_len.result c.args.bytes.now (sym c.rests.ensures ∙ c.if-rests.true) c.blank_len.ensures.within c.blank_len.ensures.blank

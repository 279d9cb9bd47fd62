use Rattle.sc_gen.proofs.Words.{drawn, four_behind}
use Rattle.sc_gen.proofs.draw.Draw.of.Goals as goal

pub returns-clause-draw : goal.returns-clause-draw
returns-clause-draw c =
    drawn c.next_word-moment.result c.next_word-longitude.result c.next_word-latitude.result c.next_word-cover.result c.args.words.now c.next_word-moment.new.self c.next_word-longitude.new.self c.next_word-latitude.new.self c.next_word-cover.new.self
    c.next_word-moment.ensures c.next_word-longitude.ensures c.next_word-latitude.ensures c.next_word-cover.ensures

pub returns-clause-behind : goal.returns-clause-behind
returns-clause-behind c =
    four_behind c.next_word-moment.result c.next_word-longitude.result c.next_word-latitude.result c.next_word-cover.result
    c.args.words.now c.next_word-moment.new.self c.next_word-longitude.new.self c.next_word-latitude.new.self c.next_word-cover.new.self
    c.next_word-moment.ensures c.next_word-longitude.ensures c.next_word-latitude.ensures c.next_word-cover.ensures

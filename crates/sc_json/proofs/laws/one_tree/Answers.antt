use Rattle.sc_json.proofs.Spelled.{spelled_once}
use Rattle.sc_json.proofs.SpelledUtf8.{padded_utf8}
use Rattle.sc_json.proofs.laws.one_tree.Goals as goal

pub returns-clause-one : goal.returns-clause-one
returns-clause-one c = λ bytes a b x y. spelled_once bytes a b x.text y.text

pub returns-clause-utf8 : goal.returns-clause-utf8
returns-clause-utf8 c = λ bytes tree s. padded_utf8 s.text

-- What the code's values that lend pairs, a body or a value of theirs stand for.
use Rattle.std.specs.Prelude.{Option}
use Rattle.std.specs.Option.{option_map}
use Rattle.sc_query.specs.declared.given.Given.{Given}
use Rattle.sc_query.specs.declared.given.Given.TheVariants as lent
use Rattle.sc_query.specs.declared.given.Source.{Source}
use Rattle.sc_query.specs.declared.given.Source.TheVariants as sources
use Rattle.sc_query.specs.Given.{Parameter, in_text, in_tree, Parameters, of_pairs, of_body}

abbrev pub told : Given → Parameter
told (lent.Text text) = in_text text.now
told (lent.Tree tree) = in_tree tree.now

abbrev pub all_told : Option Given → Option Parameter
all_told = option_map told

abbrev pub parameters : Source → Parameters
parameters (sources.Pairs pairs) = of_pairs pairs.now
parameters (sources.Body body) = of_body body.now

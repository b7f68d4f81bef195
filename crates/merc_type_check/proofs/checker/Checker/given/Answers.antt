use Rattle.std.proofs.Common.{length, refl}
use Rattle.std.proofs.lemmas.Option.{slice_get_read}
use Rattle.merc_type_check.proofs.checker.Checker.given.Goals as goal

pub returns-in-Some-giver : goal.returns-in-Some-giver
returns-in-Some-giver c = record {
  index = c.loop-index.index;
  variable = c.index-variables-index.result;
  variable_is = slice_get_read c.args.variables.now (length c.args.variables.now) c.loop-index.index c.index-variables-index.result refl c.loop-index-test.true c.index-variables-index.is;
  number_is = slice_get_read c.args.numbers.now (length c.args.numbers.now) c.loop-index.index c.in-Some.number.now refl c.in-Some.ensures.lookup.3.0 c.in-Some.ensures.lookup.1;
  waits = c.in-Some-giver.ensures;
}

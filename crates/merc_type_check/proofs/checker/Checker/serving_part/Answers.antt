use Rattle.merc_type_check.proofs.Serving.{serves_given, serves_own}
use Rattle.merc_type_check.proofs.checker.Checker.serving_part.Goals as goal

pub returns-then-is_open_alone : goal.returns-then-is_open_alone
returns-then-is_open_alone c =
    serves_given c.args.self.now c.args.variables.now c.args.numbers.now _ _ c.requires.sound c.in-Some.ensures
    (c.is_open_alone.ensures c.if-is_open_alone.true)

pub returns-else-is_open_alone : goal.returns-else-is_open_alone
returns-else-is_open_alone c = λ declared are. serves_own c.args.self.now c.part_number.result c.args.variables.now c.part_number.ensures declared

pub returns-in-None : goal.returns-in-None
returns-in-None c = λ declared are. serves_own c.args.self.now c.part_number-in-None.result c.args.variables.now c.part_number-in-None.ensures declared

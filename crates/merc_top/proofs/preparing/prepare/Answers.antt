-- The code that is loaded makes the run.
use Rattle.std.proofs.Common.{refl}
use Rattle.merc_top.proofs.preparing.prepare.Goals as goal

pub returns-in-Ok : goal.returns-in-Ok
returns-in-Ok c = λ tree one program_alone alone.
    let made = c.in-Ok.ensures tree one program_alone alone c.args.steps in
    record {
      names_are = refl;
      variables_are = refl;
      most_is = refl;
      makes = record {
        codes = made.0;
        query = made.1;
        program = made.2;
        yields = made.3;
      };
    }

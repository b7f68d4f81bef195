-- What is ready to run.
use Rattle.std.specs.Prelude.{◌≡◌, ℕ, List, Option}
use Rattle.merc_meaning.specs.Trace.{Run}
use Rattle.merc_course.specs.Course.{whole}
use Rattle.merc_code.specs.Steps.{Code, Codes}
use Rattle.merc_code.specs.Meaning.{start}
use Rattle.merc_last_calls.specs.LeanMeaning.{YieldsLean}
use Rattle.merc_load.specs.Loaded.{IsProgram}
use Rattle.merc_solving.specs.declared.solving.Ready.{Ready}

-- The code that is loaded makes this run, of at most as many steps as are allowed, and meets nobody.
pub record Makes (ready : Ready) (asked : Run) : Type 0 where
  pub codes : Codes
  pub query : Code
  pub program : IsProgram ready.program codes query
  pub yields : YieldsLean codes (start query ready.steps) (whole asked)

-- the same, with these texts of names, these names of the variables that its answers give values, and this bound of its answers
pub record IsReady (names : List (List ℕ)) (variables : List ℕ) (most : Option ℕ) (asked : Run) (ready : Ready) : Type 0 where
  pub names_are : ready.names ≡ names
  pub variables_are : ready.variables ≡ variables
  pub most_is : ready.most ≡ most
  pub makes : Makes ready asked

-- Which run the words ask for.
use Rattle.std.specs.Prelude.{◌≡◌, ◌≤◌, ℕ, List, length, Option, Some}
use Rattle.merc_base.specs.Outside.{Files, file_named}
use Rattle.merc_meaning.specs.Trace.{Run}
use Rattle.merc_transfer.specs.Loading.{file_limit}
use Rattle.merc_top.specs.Words.{IsSolve}
use Rattle.merc_top.specs.Output.{IsAskedRun}

-- the words ask for this run over these files, with these texts of names and these answer variables, and for so many of its answers
pub record AsksRun (words : List (List ℕ)) (files : Files) (names : List (List ℕ)) (variables : List ℕ) (most : Option ℕ) (asked : Run) : Type 0 where
  pub file : List ℕ
  pub goal : List ℕ
  pub text : List ℕ
  pub steps : ℕ
  pub request : IsSolve words file goal steps most
  pub content : file_named file files ≡ Some text
  pub within : length text ≤ file_limit
  pub run_is : IsAskedRun text goal steps names variables asked

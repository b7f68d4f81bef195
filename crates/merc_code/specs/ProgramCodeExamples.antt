-- Worked examples of the code of procedures and conjuncts. The first predicate has two modes, the second has none. At the first site two conjuncts are forked.
use Rattle.std.specs.Prelude.{◌≡◌, ℕ, List, [], ◌∷◌, Option, Some, None, refl}
use Rattle.merc_tree.specs.declared.declarations.Arg.TheVariants.{Input, Output}
use Rattle.merc_code.specs.declared.instruction.Instruction.TheVariants.{Fail, Return, Answer, Close}
use Rattle.merc_code.specs.Steps.{ProcedureCode, ConjunctCode, Codes}
use Rattle.merc_code.specs.ProgramCode.{ProgramCode, codes_in}

abbrev succeeds : ProcedureCode
succeeds = record { places = Input ∷ []; code = Return ∷ [] }

abbrev fails : ProcedureCode
fails = record { places = Output ∷ []; code = Fail ∷ [] }

abbrev closes : ConjunctCode
closes = record { used = []; code = Close ∷ [] }

abbrev cannot_close : ConjunctCode
cannot_close = record { used = 0 ∷ []; code = Fail ∷ Close ∷ [] }

abbrev code : ProgramCode
code = record { procedures = (succeeds ∷ fails ∷ []) ∷ [] ∷ []; conjuncts = (closes ∷ cannot_close ∷ []) ∷ []; query = Answer [] ∷ [] }

abbrev at : ℕ → ℕ → Option ProcedureCode
at number in_mode = Codes.procedures (codes_in code) (record { predicate = number; mode = in_mode })

abbrev forked : ℕ → List ConjunctCode
forked site = Codes.conjuncts (codes_in code) site

first_mode : at 0 0 ≡ Some succeeds
first_mode = refl

second_mode : at 0 1 ≡ Some fails
second_mode = refl

past_the_modes : at 0 2 ≡ None
past_the_modes = refl

no_modes : at 1 0 ≡ None
no_modes = refl

past_the_predicates : at 2 0 ≡ None
past_the_predicates = refl

past_the_modes-not : at 0 2 ≡ Some succeeds → ⊥
past_the_modes-not is_the_first = cc

first_site : forked 0 ≡ closes ∷ cannot_close ∷ []
first_site = refl

past_the_sites : forked 1 ≡ []
past_the_sites = refl

first_site-not : forked 0 ≡ closes ∷ [] → ⊥
first_site-not forks_one_alone = cc

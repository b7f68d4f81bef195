-- Worked examples of code that is valid and of code that is not. The first procedure has one input and then one output. The second has one input, and no call of
-- it comes back. At the first site a conjunct is forked that reads variable 0 and gives variable 1 a value, and nothing is forked at others.
use Rattle.std.proofs.Common.{arith}
use Rattle.std.specs.Prelude.{◌≡◌, ◌<◌, ℕ, zero, suc, Bool, true, false, List, [], ◌∷◌, Option, Some, None, refl, slice_get}
use Rattle.merc_tree.specs.declared.declarations.Arg.{Arg}
use Rattle.merc_tree.specs.declared.declarations.Arg.TheVariants.{Input, Output}
use Rattle.merc_graded_tree.specs.declared.basic.Procedure.{Procedure}
use Rattle.merc_graded_tree.specs.declared.basic.Site.{Site}
use Rattle.merc_code.specs.declared.instruction.Instruction.TheVariants.{Copy, Jump, Try, Mark, Commit, Call, Return, Fail, Fork, Close}
use Rattle.merc_code.specs.Steps.{Code, ProcedureCode, ConjunctCode, Codes}
use Rattle.merc_live.specs.Reads.{is_in, MayReadMark, here as reads_mark_here, later as reads_mark_later, there as reads_mark_there}
use Rattle.merc_listing.specs.Valid.{NamesLaterPlaces, CallAgrees, own_inputs, looks_at, goes_past, ReadsUnwritten, here, later, there, forked, IsValid, IsValidProcedure}

abbrev in_out : List Arg
in_out = Input ∷ Output ∷ []

abbrev called : ℕ → Procedure
called number = record { predicate = number; mode = 0 }

abbrev site : ℕ → Site
site number = record { number = number }

abbrev copies : ProcedureCode
copies = record { places = in_out; code = Copy 1 0 ∷ Return ∷ [] }

abbrev gives_one : ConjunctCode
gives_one = record { used = 0 ∷ 1 ∷ []; code = Copy 1 0 ∷ Close ∷ [] }

abbrev forked_at : ℕ → List ConjunctCode
forked_at zero = gives_one ∷ []
forked_at (suc other) = []

abbrev codes : Codes
codes = record {
  procedures = λ procedure. slice_get (copies ∷ record { places = Input ∷ []; code = Fail ∷ [] } ∷ []) procedure.predicate;
  conjuncts = forked_at;
}

abbrev is_first : ℕ → Bool
is_first zero = true
is_first (suc other) = false

abbrev comes_back : Procedure → Bool
comes_back procedure = is_first procedure.predicate

-- ---- places

later_place : NamesLaterPlaces (Try 1 ∷ Jump 0 ∷ Return ∷ [])
later_place = ((omega arith, tt), ((omega arith, tt), (tt, tt)))

-- no instruction stands behind the last
later_place-not : NamesLaterPlaces (Try 2 ∷ Jump 0 ∷ Return ∷ []) → ⊥
later_place-not names = omega (arith, names.0.0)

-- ---- calls

agrees : CallAgrees codes (Call (called 0) (4 ∷ 7 ∷ []))
agrees = refl

agrees-not : CallAgrees codes (Call (called 0) (4 ∷ [])) → ⊥
agrees-not one_argument = cc

agrees-not_there : CallAgrees codes (Call (called 2) []) → ⊥
agrees-not_there agrees = agrees

goes_past-first : goes_past codes comes_back (Call (called 0) (4 ∷ 7 ∷ [])) ≡ true
goes_past-first = refl

goes_past-second : goes_past codes comes_back (Call (called 1) (4 ∷ [])) ≡ false
goes_past-second = refl

-- ---- variables

own_inputs-example : own_inputs 0 (Output ∷ Input ∷ Input ∷ []) ≡ 1 ∷ 2 ∷ []
own_inputs-example = refl

looks_at-fork : looks_at codes None (Fork (site 0)) ≡ []
looks_at-fork = refl

abbrev Reads : ℕ → Code → Type 0
Reads variable code = ReadsUnwritten codes comes_back variable (Some in_out) code

-- the output is returned, and was not given a value
returns_unwritten : Reads 1 (Return ∷ [])
returns_unwritten = here (Some in_out) Return [] refl

-- one of two ways leaves the copy out
way_round : Reads 1 (Try 1 ∷ Copy 1 0 ∷ Return ∷ [])
way_round = there (Some in_out) (Try 1) (Copy 1 0 ∷ Return ∷ []) 1 refl returns_unwritten

-- behind a call that does not come back nothing is read
no_way_past : Reads 1 (Call (called 1) (0 ∷ []) ∷ Return ∷ []) → ⊥
no_way_past (here own instruction rest looks) = cc
no_way_past (later own instruction rest goes writes reads) = cc
no_way_past (there own instruction rest skipped skips reads) = cc

-- a conjunct reads what was not written before its fork
forked_unwritten : Reads 0 (Fork (site 0) ∷ Return ∷ [])
forked_unwritten = forked (Some in_out) (site 0) (Return ∷ []) gives_one (0, omega arith, refl) (here None (Copy 1 0) (Close ∷ []) refl)

-- ---- whole code

return_reads : (variable : ℕ) → is_in variable (1 ∷ []) ≡ false → Reads variable (Return ∷ []) → ⊥
return_reads variable free (here _ _ _ looks) = cc
return_reads variable free (later _ _ _ goes writes reads) = cc
return_reads variable free (there _ _ _ skipped skips reads) = cc

copies_reads : (variable : ℕ) → Reads variable (Copy 1 0 ∷ Return ∷ []) → is_in variable (0 ∷ []) ≡ true
copies_reads variable (here _ _ _ looks) = looks
copies_reads variable (later _ _ _ goes writes reads) = absurd (return_reads variable writes reads)
copies_reads variable (there _ _ _ skipped skips reads) = cc

no_marks : (mark : ℕ) → MayReadMark mark (Copy 1 0 ∷ Return ∷ []) → ⊥
no_marks mark (reads_mark_here _ _ looks) = cc
no_marks mark (reads_mark_later _ _ goes writes (reads_mark_here _ _ looks)) = cc
no_marks mark (reads_mark_later _ _ goes writes (reads_mark_later _ _ goes' writes' reads)) = cc
no_marks mark (reads_mark_later _ _ goes writes (reads_mark_there _ _ skipped skips reads)) = cc
no_marks mark (reads_mark_there _ _ skipped skips reads) = cc

copies_is_valid : IsValidProcedure codes comes_back copies
copies_is_valid = record { places = (tt, (tt, tt)); variables = copies_reads; marks = no_marks; calls = (tt, (tt, tt)) }

-- without the copy the output is unwritten at the return
returns_is_not : IsValidProcedure codes comes_back (record { places = in_out; code = Return ∷ [] }) → ⊥
returns_is_not valid = let given = valid.variables 1 returns_unwritten in cc

-- a mark that was not set
unset_mark : IsValidProcedure codes comes_back (record { places = []; code = Commit 0 ∷ Return ∷ [] }) → ⊥
unset_mark valid = valid.marks 0 (reads_mark_here _ _ refl)

set_mark : MayReadMark 0 (Mark 0 ∷ Commit 0 ∷ []) → ⊥
set_mark (reads_mark_here _ _ looks) = cc
set_mark (reads_mark_later _ _ goes writes reads) = cc
set_mark (reads_mark_there _ _ skipped skips reads) = cc

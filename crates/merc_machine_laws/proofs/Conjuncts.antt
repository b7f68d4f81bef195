-- The conjuncts that a machine can make at a fork are those whose courses are forked there.
use Rattle.std.proofs.Common.{◌≡◌, ℕ, zero, suc, true, List, [], ◌∷◌, Option, Some, None, slice_get, refl, sym, ap, ◌∙◌}
use Rattle.std.specs.Option.{is_some}
use Rattle.merc_graded_tree.specs.declared.basic.Procedure.{Procedure}
use Rattle.merc_graded_tree.specs.declared.basic.Site.{Site}
use Rattle.merc_meaning.specs.Trace.{Env, RunEnd}
use Rattle.merc_course.specs.Course.{AtFork, Courses, Meets, Reply, RunCourse}
use Rattle.merc_code.specs.declared.instruction.Instruction.TheVariants.{Fork}
use Rattle.merc_code.specs.Steps.{Code, Codes, ConjunctCode, State, forked_at}
use Rattle.merc_last_calls.specs.LeanMeaning.{YieldAllLean, yield_none, yield_more}
use Rattle.merc_layout.specs.declared.entries.Entry.{Entry}
use Rattle.merc_layout.specs.KnownConjuncts.{conjunct_at}
use Rattle.merc_load.specs.declared.loaded.Loaded.{Loaded}
use Rattle.merc_load.specs.Loaded.{IsLoaded}
use Rattle.merc_machine.specs.declared.machine.Machine.{Machine}
use Rattle.merc_machine.specs.Coming.{MeetsAt, all_left}
use Rattle.merc_machine.specs.Running.{Means, course_at}
use Rattle.merc_machine.proofs.MetAt.{met-at, met-fork}

both_there : {A B : Type 0} (one : Option A) (other : Option B) → ((a : A) → one ≡ Some a → is_some other ≡ true) → ((b : B) → other ≡ Some b → is_some one ≡ true)
    → is_some one ≡ is_some other
both_there None None there back = refl
both_there None (Some b) there back = back b refl
both_there (Some a) None there back = sym (there a refl)
both_there (Some a) (Some b) there back = refl

-- those that are known are those that code has
known_there : (program : Loaded) (codes : Codes) (entry_of : Procedure → Entry) (query : Code) → IsLoaded program codes entry_of query
    → (site number : ℕ) → is_some (conjunct_at program.conjuncts site number) ≡ is_some (slice_get (codes.conjuncts site) number)
known_there program codes entry_of query loaded site number =
    both_there (conjunct_at program.conjuncts site number) (slice_get (codes.conjuncts site) number)
    (λ known found. ap (λ (c : Option ConjunctCode). is_some c) (loaded.no_others site number known found).1)
    (λ conjunct found. ap (λ (k : _). is_some k) (loaded.conjuncts site number conjunct found).found)

forked_there : (conjuncts : List ConjunctCode) (env : Env) (left number : ℕ) → is_some (slice_get conjuncts number) ≡ is_some (slice_get (forked_at conjuncts env left) number)
forked_there [] env left number = refl
forked_there (conjunct ∷ conjuncts) env left zero = refl
forked_there (conjunct ∷ conjuncts) env left (suc number) = forked_there conjuncts env left number

yield_there : (codes : Codes) (states : List State) (forked : Courses RunEnd) → YieldAllLean codes states forked
    → (number : ℕ) → is_some (slice_get states number) ≡ is_some (course_at forked number)
yield_there codes _ _ yield_none number = refl
yield_there codes _ _ (yield_more state states course courses y all) zero = refl
yield_there codes _ _ (yield_more state states course courses y all) (suc number) = yield_there codes states courses all number

pub known_as_forked : (machine : Machine) (site : Site) (forked : Courses RunEnd) (next : Reply → RunCourse) → Means machine (Meets (AtFork site.number) forked next)
    → MeetsAt machine (Fork site) → (number : ℕ) → is_some (conjunct_at machine.program.now.conjuncts site.number number) ≡ is_some (course_at forked number)
known_as_forked machine site forked next means at number =
    let met = met-at machine (Fork site) (Meets (AtFork site.number) forked next) means.stands_before at in
    let conjuncts = met.codes.conjuncts site.number in
    known_there machine.program.now met.codes met.entry_of met.query met.loaded site.number number
    ∙ (forked_there conjuncts met.env (all_left machine) number
    ∙ yield_there met.codes (forked_at conjuncts met.env (all_left machine)) forked (met-fork machine site forked next met).0 number)

-- What stands at a script where it meets others: the item at which it does, and what is left behind that.
use Rattle.std.proofs.Common.{◌≡◌, ℕ, zero, suc, List, Option, Some, None, refl, sym, ◌∙◌, subst}
use Rattle.std.specs.Option.{is_some}
use Rattle.merc_value.specs.Value.{Value}
use Rattle.merc_meaning.specs.Trace.{RunEnd}
use Rattle.merc_script.specs.declared.outcome.Outcome.{Outcome}
use Rattle.merc_script.specs.declared.outcome.Outcome.TheVariants.{Ok as Fine, Starved}
use Rattle.merc_script.specs.declared.cells.Move.{Move}
use Rattle.merc_script.specs.Script.{Script, Ends, WaitThen, SignalThen, ForkThen, Children, Cell, ends}
use Rattle.merc_script.specs.Joining.{joined}
use Rattle.merc_course.specs.Course.{AtFork, AtSignal, AtWait, Courses, Given, Joined, Meets, Passed, Reply, RunCourse}
use Rattle.merc_plan.specs.Stands.{Stands, waits, starves, hands, goes_on, ends_there, StandAll, stand_none, stand_more}
use Rattle.merc_machine.specs.Running.{course_at}
use Rattle.merc_machine_laws.specs.AtScripts.{IsAtFork, IsAtSignal, IsAtWait, child_at}

same_number : (one other : ℕ) → Fine one ≡ Fine other → one ≡ other
same_number one other e = cc

same_value : (one other : Value) → Some one ≡ Some other → one ≡ other
same_value one other e = cc

same_script : (one other : Script) → Some one ≡ Some other → one ≡ other
same_script one other e = cc

-- Given are the values of cells.
module _ (values : ℕ → Option Value) where
  pub fork_item : (site : ℕ) (forked : Courses RunEnd) (next : Reply → RunCourse) (script : Script) → Stands values (Meets (AtFork site) forked next) script → IsAtFork script
  fork_item site forked next _ (goes_on _ limit steps cells moves _ _ children rest joins all s) = tt
  fork_item site forked next _ (ends_there _ limit cells moves _ _ children end bad all) = tt

  pub wait_item : (variable : ℕ) (forked : Courses RunEnd) (next : Reply → RunCourse) (script : Script) → Stands values (Meets (AtWait variable) forked next) script → IsAtWait script
  wait_item variable forked next _ (waits _ cell value _ _ rest has s) = tt
  wait_item variable forked next _ (starves _ cell _ _ none) = tt

  pub signal_item : (variable : ℕ) (value : Value) (forked : Courses RunEnd) (next : Reply → RunCourse) (script : Script)
      → Stands values (Meets (AtSignal variable value) forked next) script → IsAtSignal script
  signal_item variable value forked next _ (hands _ cell _ _ _ rest has s) = tt

  pub forked_stand : (site limit : ℕ) (cells : List Cell) (moves : List Move) (forked : Courses RunEnd) (next : Reply → RunCourse) (children : Children) (rest : Script)
      → Stands values (Meets (AtFork site) forked next) (ForkThen limit cells moves children rest) → StandAll values forked children
  forked_stand site limit cells moves forked next children rest (goes_on _ _ steps _ _ _ _ _ _ joins all s) = all
  forked_stand site limit cells moves forked next children _ (ends_there _ _ _ _ _ _ _ end bad all) = all

  pub behind_fork : (site limit : ℕ) (cells : List Cell) (moves : List Move) (forked : Courses RunEnd) (next : Reply → RunCourse) (children : Children) (rest : Script)
      → Stands values (Meets (AtFork site) forked next) (ForkThen limit cells moves children rest)
      → (steps : ℕ) → joined limit (ends children) ≡ Fine steps → Stands values (next (Joined steps)) rest
  behind_fork site limit cells moves forked next children rest (goes_on _ _ made _ _ _ _ _ _ joins all s) steps is =
      subst (λ (n : ℕ). Stands values (next (Joined n)) rest) (same_number made steps (sym joins ∙ is)) s
  behind_fork site limit cells moves forked next children _ (ends_there _ _ _ _ _ _ _ end bad all) steps is = absurd (bad steps is)

  pub fork_end : (site limit : ℕ) (cells : List Cell) (moves : List Move) (forked : Courses RunEnd) (next : Reply → RunCourse) (children : Children) (rest : Script)
      → Stands values (Meets (AtFork site) forked next) (ForkThen limit cells moves children rest)
      → ((steps : ℕ) → joined limit (ends children) ≡ Fine steps → ⊥) → (end : Outcome) × (rest ≡ Ends end)
  fork_end site limit cells moves forked next children rest (goes_on _ _ steps _ _ _ _ _ _ joins all s) none = absurd (none steps joins)
  fork_end site limit cells moves forked next children _ (ends_there _ _ _ _ _ _ _ end bad all) none = (end, refl)

  pub behind_wait : (variable cell : ℕ) (forked : Courses RunEnd) (next : Reply → RunCourse) (rest : Script) → Stands values (Meets (AtWait variable) forked next) (WaitThen cell rest)
      → (value : Value) → values cell ≡ Some value → Stands values (next (Given value)) rest
  behind_wait variable cell forked next rest (waits _ _ given _ _ _ has s) value is =
      subst (λ (v : Value). Stands values (next (Given v)) rest) (same_value given value (sym has ∙ is)) s
  behind_wait variable cell forked next _ (starves _ _ _ _ none) value is = absurd cc

  pub wait_end : (variable cell : ℕ) (forked : Courses RunEnd) (next : Reply → RunCourse) (rest : Script) → Stands values (Meets (AtWait variable) forked next) (WaitThen cell rest)
      → values cell ≡ None → rest ≡ Ends Starved
  wait_end variable cell forked next rest (waits _ _ given _ _ _ has s) none = absurd cc
  wait_end variable cell forked next _ (starves _ _ _ _ none) none' = refl

  pub behind_signal : (variable cell : ℕ) (value : Value) (forked : Courses RunEnd) (next : Reply → RunCourse) (rest : Script)
      → Stands values (Meets (AtSignal variable value) forked next) (SignalThen cell rest) → (values cell ≡ Some value) × Stands values (next Passed) rest
  behind_signal variable cell value forked next rest (hands _ _ _ _ _ _ has s) = (has, s)

-- The courses of conjuncts stand at the scripts of a fork's children, each at the one of its number.

pub child_course : (values : ℕ → Option Value) (forked : Courses RunEnd) (children : Children) → StandAll values forked children
    → (number : ℕ) (script : Script) → child_at children number ≡ Some script → (course : RunCourse) × (course_at forked number ≡ Some course) × Stands values course script
child_course values _ _ stand_none number script at = absurd cc
child_course values _ _ (stand_more course courses first others s all) zero script at = (course, refl, subst (Stands values course) (same_script first script at) s)
child_course values _ _ (stand_more course courses first others s all) (suc number) script at = child_course values courses others all number script at

pub same_there : (values : ℕ → Option Value) (forked : Courses RunEnd) (children : Children) → StandAll values forked children
    → (number : ℕ) → is_some (course_at forked number) ≡ is_some (child_at children number)
same_there values _ _ stand_none number = refl
same_there values _ _ (stand_more course courses first others s all) zero = refl
same_there values _ _ (stand_more course courses first others s all) (suc number) = same_there values courses others all number

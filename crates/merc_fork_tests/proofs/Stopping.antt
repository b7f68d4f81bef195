-- What is known of machines that are run by hand, behind their stops and where they go on.
use Rattle.std.proofs.Common.{◌≡◌, ◌≤◌, ℕ, refl, subst, false, arith, List, [], ◌∷◌, length}
use Rattle.std.specs.Prelude.{Some, map}
use Rattle.std.proofs.lemmas.Option.{same_Some}
use Rattle.std.specs.Option.{is_some}
use Rattle.merc_value.specs.Value.{Value}
use Rattle.merc_value.specs.Block.{BlockData, root_values, value_of}
use Rattle.merc_value.specs.declared.word.Word.{Word}
use Rattle.merc_meaning.specs.Trace.{RunEnd}
use Rattle.merc_course.specs.Course.{AtFork as ForkMeeting, Courses, Joined, Meets, Reply, RunCourse}
use Rattle.merc_script.specs.declared.outcome.Outcome.{Outcome}
use Rattle.merc_script.specs.declared.outcome.Outcome.TheVariants.{Ok as Fine, Raise as RaiseOutcome, Limit as LimitOutcome, Starved as StarvedOutcome, NoMemory as NoMemoryOutcome}
use Rattle.merc_machine.specs.Coming.{all_left}
use Rattle.merc_machine.specs.Running.{Means, Ran, stop_by}
use Rattle.merc_machine.specs.declared.machine.Machine.{Machine}
use Rattle.merc_machine.specs.declared.running.Stop.{Stop}
use Rattle.merc_machine.specs.declared.running.Stop.TheVariants.{Answer, Ended, Raised, LimitPassed, Starved, AtFork, AtWait, AtSignal, SliceOver, NoMemory}

-- Behind a run no more steps are left than before, unless memory was refused.
pub left-behind : (stop : Stop) (course : RunCourse) (old machine : Machine) (before after slice : ℕ) → Ran stop course old machine before after slice → (stop ≡ NoMemory → ⊥) → all_left machine ≤ all_left old
left-behind Answer course old machine before after slice r not_refused = omega (arith, r.4.spends)
left-behind Ended course old machine before after slice r not_refused = omega (arith, r.2.spends)
left-behind (Raised text) course old machine before after slice r not_refused = omega (arith, r.2.spends)
left-behind LimitPassed course old machine before after slice r not_refused = omega (arith, r.2.spends)
left-behind Starved course old machine before after slice r not_refused = absurd r
left-behind (AtFork site) course old machine before after slice r not_refused = omega (arith, r.ran.spends)
left-behind (AtWait variable) course old machine before after slice r not_refused = omega (arith, r.ran.spends)
left-behind (AtSignal variable) course old machine before after slice r not_refused = omega (arith, r.1.ran.spends)
left-behind SliceOver course old machine before after slice r not_refused = omega (arith, r.1.spends)
left-behind NoMemory course old machine before after slice r not_refused = absurd (not_refused refl)

-- Behind an answer a machine goes on.
pub answered : (stop : Stop) (course : RunCourse) (old machine : Machine) (before after slice : ℕ) → Ran stop course old machine before after slice → Some stop ≡ Some Answer → (rest : RunCourse) × Means machine rest
answered stop course old machine before after slice r is = let ran : Ran Answer course old machine before after slice = subst (λ (some : Stop). Ran some course old machine before after slice) (same_Some _ _ is) r in (ran.2, ran.5)

-- The outcome behind which a machine goes on has a number of steps.
pub fine-steps : (outcome : Outcome) → is_some (stop_by outcome) ≡ false → (steps : ℕ) × (outcome ≡ Fine steps)
fine-steps (Fine steps) e = (steps, refl)
fine-steps (RaiseOutcome text steps) e = absurd (cc)
fine-steps LimitOutcome e = absurd (cc)
fine-steps StarvedOutcome e = absurd (cc)
fine-steps NoMemoryOutcome e = absurd (cc)

pub rejoined : (outcome : Outcome) (site : ℕ) (old machine : Machine) → is_some (stop_by outcome) ≡ false
    → ((steps : ℕ) → outcome ≡ Fine steps → (forked : Courses RunEnd) (next : Reply → RunCourse) → Means old (Meets (ForkMeeting site) forked next) → Means machine (next (Joined steps)))
    → (forked : Courses RunEnd) × (next : Reply → RunCourse) × Means old (Meets (ForkMeeting site) forked next) → (course : RunCourse) × Means machine course
rejoined outcome site old machine fine goes m = let steps = fine-steps outcome fine in (m.1 (Joined steps.0), goes steps.0 steps.1 m.0 m.1 m.2)

-- a block with one root has one value
only : (items : List Word) (value_at : Word → Value) → length items ≡ 1 → (value : Value) × (map value_at items ≡ value ∷ [])
only [] value_at one = absurd (omega (arith, one))
only (item ∷ []) value_at one = (value_at item, refl)
only (item ∷ other ∷ items) value_at one = absurd (omega (arith, one))

pub one-root : (block : BlockData) → length block.roots ≡ 1 → (value : Value) × (root_values block ≡ value ∷ [])
one-root block one = only block.roots (value_of block.cells) one

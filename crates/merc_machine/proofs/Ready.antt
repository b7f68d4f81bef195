-- Steps at instructions at which a machine meets others.
use Rattle.std.proofs.Common.{◌≡◌, ℕ, ◌<◌, [], length, true, false, Option, Some, None, slice_get, refl, ap, ◌∙◌, subst}
use Rattle.std.specs.Option.{is_some}
use Rattle.std.proofs.lemmas.List.Elements.{All-head}
use Rattle.merc_value.specs.Value.{Value}
use Rattle.merc_meaning.specs.Steps.{value_at}
use Rattle.merc_code.specs.declared.instruction.Instruction.{Instruction}
use Rattle.merc_code.specs.declared.instruction.Instruction.TheVariants.{Signal}
use Rattle.merc_code.specs.Steps.{Codes, signals}
use Rattle.merc_graded_tree.specs.declared.basic.Procedure.{Procedure}
use Rattle.merc_layout.specs.declared.entries.Entry.{Entry}
use Rattle.merc_layout.specs.Frames.{FitsInstruction}
use Rattle.merc_load.specs.declared.loaded.Op.TheVariants.{Meet as MeetOp}
use Rattle.merc_store.specs.Data.{StoreData}
use Rattle.merc_store.specs.Fitting.{slot_value}
use Rattle.merc_machine.specs.declared.machine.Machine.{Machine}
use Rattle.merc_machine.specs.declared.machine.Phase.TheVariants.{Running, GoingBack}
use Rattle.merc_machine.specs.Event.{Move, Meet}
use Rattle.merc_machine.specs.Coming.{IsReady, Steps, all_left}
use Rattle.merc_machine.proofs.Going.{step_is}
use Rattle.merc_machine.proofs.Inverses.{is_meeting}
use Rattle.merc_machine.proofs.Linking.{IsMeeting, meets_fork, meets_wait, meets_signal}
use Rattle.merc_machine.proofs.Standings.{reads, moves_back}

-- a value that is there
pub some_value : (value : Option Value) → is_some value ≡ true → (found : Value) × (value ≡ Some found)
some_value None is = absurd cc
some_value (Some value) is = (value, refl)

pub no_value : (value : Option Value) → is_some value ≡ false → value ≡ None
no_value None is = refl
no_value (Some value) is = absurd cc

-- A fork and a wait are always ready.
ready_there : (codes : Codes) (entry_of : Procedure → Entry) (variables : ℕ) (own : _) (store : StoreData) (instruction : Instruction) → ((variable : ℕ) → instruction ≡ Signal variable → ⊥)
    → IsMeeting codes entry_of variables own instruction → IsReady store instruction
ready_there codes entry_of variables own store _ signal (meets_fork site) = tt
ready_there codes entry_of variables own store _ signal (meets_wait variable) = tt
ready_there codes entry_of variables own store _ signal (meets_signal variable) = absurd (signal variable refl)

-- Given is a machine that runs at a place.
module _ (before : Machine) (place : ℕ) (running : before.phase ≡ Running place) where
  -- It stops before an instruction that is ready ..
  pub ready_steps : (instruction : Instruction) → slice_get before.program.now.ops.items place ≡ Some (MeetOp instruction) → IsReady before.store instruction → Steps before Meet before
  ready_steps instruction found ready codes entry_of query loaded state stands unstuck =
      (refl, (state, refl, stands, (instruction, record { place = place; running = running; op = found; ready = ready })))

  -- .. as all but signals are.
  pub other_steps : (instruction : Instruction) → slice_get before.program.now.ops.items place ≡ Some (MeetOp instruction) → ((variable : ℕ) → instruction ≡ Signal variable → ⊥) → Steps before Meet before
  other_steps instruction found signal codes entry_of query loaded state stands unstuck =
      let at = reads codes entry_of before place running state (MeetOp instruction) tt found stands unstuck in
      let is = is_meeting codes entry_of at.runs.stands.variables at.runs.own at.instruction at.rest (MeetOp instruction) instruction at.link refl in
      let meeting = subst (IsMeeting codes entry_of at.runs.stands.variables at.runs.own) is.0 is.1 in
      ready_steps instruction found (ready_there codes entry_of at.runs.stands.variables at.runs.own before.store instruction signal meeting) codes entry_of query loaded state stands unstuck

  -- A signal whose variable has no value goes back.
  pub valueless_steps : (variable : ℕ) → slice_get before.program.now.ops.items place ≡ Some (MeetOp (Signal variable))
      → slot_value before.store.cells (slice_get before.store.stacks.current variable) ≡ None → Steps before Move (record before { phase = GoingBack })
  valueless_steps variable found none codes entry_of query loaded state stands unstuck =
      let at = reads codes entry_of before place running state (MeetOp (Signal variable)) tt found stands unstuck in
      let is = is_meeting codes entry_of at.runs.stands.variables at.runs.own at.instruction at.rest (MeetOp (Signal variable)) (Signal variable) at.link refl in
      let variables = at.runs.stands.variables in
      let size = length before.store.stacks.current in
      let fits : FitsInstruction variables size (Signal variable) = subst (FitsInstruction variables size) is.0 (All-head (FitsInstruction variables size) at.instruction at.rest at.runs.stands.position.fits) in
      let there = All-head (λ (x : ℕ). x < variables) variable [] fits.read_variables_are_there in
      let has : value_at at.env variable ≡ None = at.runs.stands.frame.values variable there ∙ none in
      let step = step_is codes state at.instruction (Signal variable) at.rest at.env at.marks at.callers at.choices (all_left before) at.is is.0
      ∙ ap (signals at.rest at.env at.marks at.callers at.choices (all_left before) variable) has in
      (refl, moves_back codes entry_of before place running state at.choices step at.runs.choices_stand)

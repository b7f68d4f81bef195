use Rattle.std.proofs.Common.{Some, slice_get, refl, sym, ap, ◌∙◌}
use Rattle.merc_code.specs.declared.instruction.Instruction.{Instruction}
use Rattle.merc_code.specs.declared.instruction.Instruction.TheVariants.{Signal}
use Rattle.merc_load.specs.declared.loaded.Op.TheVariants.{Meet as MeetOp}
use Rattle.merc_store.specs.Fitting.{slot_value}
use Rattle.merc_machine.specs.declared.machine.Next.TheVariants.{Back, Meet}
use Rattle.merc_machine.proofs.Ready.{no_value, other_steps, ready_steps, some_value, valueless_steps}
use Rattle.merc_machine.proofs.Standings.{proceeds_from, running_at}
use Rattle.merc_machine.proofs.machine.Machine.meet.Goals as goal

pub returns-then-has_word : goal.returns-then-has_word
returns-then-has_word c =
    let machine = c.args.self.now in
    let op = c.requires.op ∙ ap (λ (i : Instruction). Some (MeetOp i)) c.in-Signal.is in
    let value = some_value (slot_value machine.store.cells (slice_get machine.store.stacks.current c.in-Signal.variable)) (sym c.has_word.ensures ∙ c.if-has_word.true) in
    proceeds_from machine machine c.args.place (Meet c.args.place) (ready_steps (running_at machine c.args.place) c.args.place refl (Signal c.in-Signal.variable) op value)

pub returns-else-has_word : goal.returns-else-has_word
returns-else-has_word c =
    let machine = c.args.self.now in
    let op = c.requires.op ∙ ap (λ (i : Instruction). Some (MeetOp i)) c.in-Signal.is in
    let none = no_value (slot_value machine.store.cells (slice_get machine.store.stacks.current c.in-Signal.variable)) (sym c.has_word.ensures ∙ c.if-has_word.false) in
    proceeds_from machine machine c.args.place Back (valueless_steps (running_at machine c.args.place) c.args.place refl c.in-Signal.variable op none)

pub returns-in_default : goal.returns-in_default
returns-in_default c =
    let machine = c.args.self.now in
    proceeds_from machine machine c.args.place (Meet c.args.place) (other_steps (running_at machine c.args.place) c.args.place refl c.args.instruction.now c.requires.op c.in_default.not-Signal)

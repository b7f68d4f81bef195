use Rattle.std.proofs.Common.{length, drop}
use Rattle.std.specs.List.{All}
use Rattle.merc_value.specs.Block.{IsBelow}
use Rattle.merc_machine.proofs.Shown.{AreShown}
use Rattle.merc_machine.proofs.machine.Machine.answer_words.Given as goal

abbrev pub invariant-loop-variable : goal.invariant-loop-variable
invariant-loop-variable l =
    All (IsBelow (length l.fn.self.store.cells)) l.words.items
    × AreShown l.fn.self.store.cells l.fn.self.store.stacks.current l.words.items (drop l.variable-index l.variable-items) l.variable-items

-- What is written so far and what is pending are the text together, and each step takes from what is pending.
use Rattle.std.proofs.Common.{◌≡◌, ◌+◌, ◌*◌, ◌++◌, ℕ, List, length}
use Rattle.merc_value.specs.Block.{value_of}
use Rattle.merc_value.specs.Text.{value_text}
use Rattle.merc_value.specs.Writing.{pending, AreTodosBelow}
use Rattle.merc_value.proofs.writing.write_word.Given as goal

abbrev pub invariant-loop-todo : goal.invariant-loop-todo
invariant-loop-todo l = record {
  front : List ℕ;
  appended : l.into ≡ l.fn.into ++ front;
  whole : front ++ pending l.names l.cells l.stack.items ≡ value_text l.names (value_of l.cells l.fn.word);
  below : AreTodosBelow (length l.cells) l.stack.items;
}

abbrev pub decreases-loop-todo : goal.decreases-loop-todo
decreases-loop-todo l = 2 * length (pending l.names l.cells l.stack.items) + length l.stack.items

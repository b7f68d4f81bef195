-- Each round writes a piece of what is pending.
use Rattle.std.proofs.Common.{◌++◌, ◌∙◌, ap, subst, length, append_assoc}
use Rattle.merc_value.specs.Writing.{AreTodosBelow, piece_text}
use Rattle.merc_value.proofs.WritingLemmas.{below-last, round_whole, round_below, round_falls}
use Rattle.merc_value.proofs.writing.write_word.Goals as goal

pub next_piece-requires-clause-within : goal.next_piece-requires-clause-within
next_piece-requires-clause-within c =
    below-last (length c.args.cells.now) c.pop.new.self.items c.in-Some.todo (subst (AreTodosBelow (length c.args.cells.now)) c.in-Some.ensures.items c.loop-todo.invariant.below)

pub loop-todo-smaller : goal.loop-todo-smaller
loop-todo-smaller c = round_falls c.args.names.now c.args.cells.now c.loop-todo.stack.items c.pop.new.self.items c.next_piece.new.stack.items c.in-Some.todo c.in_ok-piece.piece c.in-Some.ensures.items c.in_ok-piece.ensures

pub loop-todo-preserved : goal.loop-todo-preserved
loop-todo-preserved c = record {
  front = c.loop-todo.invariant.front ++ piece_text c.args.names.now c.in_ok-piece.piece;
  appended = c.in_ok-write_piece.ensures.ok
      ∙ ap (λ t. t ++ piece_text c.args.names.now c.in_ok-piece.piece) c.loop-todo.invariant.appended
      ∙ append_assoc c.args.into.now c.loop-todo.invariant.front (piece_text c.args.names.now c.in_ok-piece.piece);
  whole = round_whole c.args.names.now c.args.cells.now c.loop-todo.stack.items c.pop.new.self.items c.next_piece.new.stack.items c.in-Some.todo c.in_ok-piece.piece c.in-Some.ensures.items c.in_ok-piece.ensures c.loop-todo.invariant.front
      ∙ c.loop-todo.invariant.whole;
  below = round_below c.args.names.now c.args.cells.now c.loop-todo.stack.items c.pop.new.self.items c.next_piece.new.stack.items c.in-Some.todo c.in_ok-piece.piece c.in-Some.ensures.items c.in_ok-piece.ensures c.loop-todo.invariant.below;
}

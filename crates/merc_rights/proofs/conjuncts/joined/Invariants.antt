use Rattle.std.proofs.Common.{◌≡◌, ◌++◌, ◌<◌, ℕ, List, length, reverse}
use Rattle.std.specs.List.Sorted.{IsNonDecreasingBy}
use Rattle.merc_rights.specs.Groups.{by_variable, numbered, numbered_with, AreAt}
use Rattle.merc_rights.specs.Rights.{Right}
use Rattle.merc_rights.specs.Rows.{row_of}
use Rattle.merc_rights.specs.declared.groups.NumberedGroup.{NumberedGroup}
use Rattle.merc_rights.proofs.conjuncts.joined.Given as goal

abbrev pub invariant-loop-item : goal.invariant-loop-item
invariant-loop-item l = record {
  rest : List NumberedGroup;
  are : l.fn.own.items ≡ l.left.items ++ rest;
  in_order : IsNonDecreasingBy (λ item. item.number) l.rows.items;
  same : (number : ℕ) → number < length l.left.items → row_of number (numbered l.rows.items) ≡ row_of number (numbered l.fn.moved.items);
  done : (signals : List Right) → AreAt l.fn.own.items signals (numbered l.fn.moved.items)
      → numbered_with (by_variable signals) l.left.items ++ numbered (reverse l.all.items) ≡ numbered_with (by_variable signals) l.fn.own.items;
}

abbrev pub decreases-loop-item : goal.decreases-loop-item
decreases-loop-item l = length l.left.items

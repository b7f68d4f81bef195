-- The arguments that are taken stand behind those that are left.
use Rattle.std.proofs.Common.{◌≡◌, ℕ, ◌+◌, ◌*◌, ◌≤◌, ◌++◌, List, length, map}
use Rattle.merc_tree.specs.Term.{Term}
use Rattle.merc_term_text.specs.Written.{part_of}
use Rattle.merc_term_text.specs.Walking.{pending, weights, sizes_of}
use Rattle.merc_term_text.proofs.WalkLemmas.{begun}
use Rattle.merc_term_text.proofs.writing.put_arguments.Given as goal

abbrev pub invariant-loop-last : goal.invariant-loop-last
invariant-loop-last l = record {
  taken : List Term;
  all : l.arguments ++ taken ≡ l.fn.arguments;
  whole : (names : List (List ℕ)) → pending names l.stack.items ≡ begun names l.arguments (map (part_of names) taken) ++ pending names l.fn.stack.items;
  heavier : weights l.stack.items ≤ 16 * sizes_of taken + 1 + weights l.fn.stack.items;
}

abbrev pub decreases-loop-last : goal.decreases-loop-last
decreases-loop-last l = length l.arguments

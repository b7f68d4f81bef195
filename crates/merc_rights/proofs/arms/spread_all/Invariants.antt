use Rattle.std.proofs.Common.{ℕ, List, ◌≡◌, ◌++◌}
use Rattle.std.specs.List.{flat_map}
use Rattle.std.specs.Vec.Iter.{into_iter_items}
use Rattle.merc_rights.specs.Groups.{all_rights, numbered, shares_in}
use Rattle.merc_rights.specs.Rows.{row_of, Tells}
use Rattle.merc_rights.proofs.arms.spread_all.Given as goal

abbrev pub invariant-loop-group : goal.invariant-loop-group
invariant-loop-group l = (lists : List (List ℕ)) → Tells l.holders lists → (number : ℕ)
    → row_of number (numbered l.found.items) ++ row_of number (flat_map (shares_in lists) (all_rights (into_iter_items l.group-iterator))) ≡ row_of number (flat_map (shares_in lists) l.fn.signals)

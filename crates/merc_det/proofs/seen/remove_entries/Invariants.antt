use Rattle.std.proofs.Common.{◌≡◌, length}
use Rattle.merc_det.specs.Seen.{back_to, known_in, Finds}
use Rattle.merc_det.proofs.seen.remove_entries.Given as goal

abbrev pub invariant-loop-entries : goal.invariant-loop-entries
invariant-loop-entries l = record {
  finds : Finds l.entries.items l.latest;
  known : back_to l.length (known_in l.entries.items) ≡ back_to l.length (known_in l.fn.entries.items);
}

abbrev pub decreases-loop-entries : goal.decreases-loop-entries
decreases-loop-entries l = length l.entries.items

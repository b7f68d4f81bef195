use Rattle.std.proofs.Common.{◌≡◌, ◌||◌, ◌++◌, ℕ, is_some, reverse, length}
use Rattle.std.specs.Option.{option_or}
use Rattle.merc_answer_variables.specs.Statuses.{place_among}
use Rattle.merc_answer_variables.specs.Reading.{status}
use Rattle.merc_answer_variables.proofs.reader.put_all.Given as goal

abbrev pub invariant-loop-last : goal.invariant-loop-last
invariant-loop-last l = record {
  trail : l.found.items ++ reverse l.trail.items ≡ l.fn.found.items ++ reverse l.fn.trail.items;
  places : (name : ℕ) → option_or (place_among name l.found.items (reverse l.trail.items)) (status l.all name).place ≡ place_among name l.fn.found.items (reverse l.fn.trail.items);
  shown : (name : ℕ) → (is_some (place_among name l.found.items (reverse l.trail.items)) || (status l.all name).shown) ≡ is_some (place_among name l.fn.found.items (reverse l.fn.trail.items));
}

abbrev pub decreases-loop-last : goal.decreases-loop-last
decreases-loop-last l = length l.found.items

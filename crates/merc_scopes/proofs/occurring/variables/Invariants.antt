use Rattle.std.proofs.Common.{◌≡◌, ℕ}
use Rattle.std.specs.Option.{option_or}
use Rattle.merc_value.specs.Text.{is_blank}
use Rattle.merc_scopes.specs.Scopes.{at_of}
use Rattle.merc_scopes.specs.FirstPlaces.{place_in, IsInStep}
use Rattle.merc_scopes.specs.Walking.{stacked}
use Rattle.merc_scopes.proofs.Walks.{parts_all}
use Rattle.merc_scopes.proofs.occurring.variables.Given as goal

abbrev pub invariant-loop-numbered : goal.invariant-loop-numbered
invariant-loop-numbered l = record {
  step : IsInStep l.found;
  whole : (name : ℕ) → option_or (place_in l.found.places name) (at_of name (stacked (is_blank l.names) l.stack.items)) ≡ at_of name (stacked (is_blank l.names) l.fn.stack.items);
}

abbrev pub decreases-loop-numbered : goal.decreases-loop-numbered
decreases-loop-numbered l = parts_all l.stack.items

use Rattle.std.proofs.Common.{◌≡◌, ℕ, btree_map_len}
use Rattle.std.specs.Option.{option_or, option_and}
use Rattle.merc_scopes.specs.FirstPlaces.{place_in, IsInStep}
use Rattle.merc_scopes.proofs.first_places.put_behind.Given as goal

abbrev pub invariant-loop-name : goal.invariant-loop-name
invariant-loop-name l = record {
  joined : (name : ℕ) → option_or (place_in l.all name) (place_in l.behind name) ≡ option_or (place_in l.fn.all name) (place_in l.fn.behind name);
  step : IsInStep l.shared;
  twice : (name : ℕ) → option_or (place_in l.shared.places name) (option_and (place_in l.behind name) (place_in l.all name)) ≡ option_or (place_in l.fn.shared.places name) (option_and (place_in l.fn.behind name) (place_in l.fn.all name));
}

abbrev pub decreases-loop-name : goal.decreases-loop-name
decreases-loop-name l = btree_map_len l.behind.by_name

-- The text goes on with the targets before this one.
use Rattle.std.proofs.Common.{◌≡◌, ◌++◌, ◌∷◌, map, drop}
use Rattle.merc_listing.specs.Listing.{spaced, target_text}
use Rattle.merc_listing.specs.Parts.{slot}
use Rattle.merc_listing.proofs.instructions.push_switch.Given as goal

abbrev pub invariant-loop-target : goal.invariant-loop-target
invariant-loop-target l =
    l.line ++ spaced (map (target_text l.known.names.now l.known.predicates.now l.place) (drop l.target-index l.targets))
    ≡ l.fn.line ++ spaced (slot l.fn.whole ∷ map (target_text l.known.names.now l.known.predicates.now l.place) l.targets)

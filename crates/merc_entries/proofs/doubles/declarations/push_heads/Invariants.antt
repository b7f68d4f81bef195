use Rattle.std.proofs.Common.{◌≡◌, ◌++◌, map, drop}
use Rattle.std.specs.List.{flat_map}
use Rattle.merc_entries.specs.Entries.{key_of}
use Rattle.merc_entries.specs.FirstPlaces.{declared_value, declared_at}
use Rattle.merc_entries.proofs.doubles.declarations.push_heads.Given as goal

abbrev pub invariant-loop-head : goal.invariant-loop-head
invariant-loop-head l =
    map (declared_value (λ key. key)) l.declared.items ++ declared_at l.place (flat_map key_of (drop l.head-index l.heads))
    ≡ map (declared_value (λ key. key)) l.fn.declared.items ++ declared_at l.place (flat_map key_of l.heads)

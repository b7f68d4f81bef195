-- What the calls of a graph do to its equations.
use Rattle.std.specs.Prelude.{◌≡◌, ℕ, ◌<◌, Bool, true, false, ◌↔◌, List, [], ◌∷◌, length}
use Rattle.merc_tree.specs.Types.{TypeExpr}
use Rattle.merc_type_graph.specs.Solutions.{Entry, Agrees, Solves}

-- these places are among so many
abbrev pub AllWithin : ℕ → List ℕ → Type 0
AllWithin count [] = Unit {0}
AllWithin count (place ∷ places) = (place < count) × AllWithin count places

-- One more place, behind the old ones, whose type agrees with an entry.
abbrev pub Adds : List Entry → List Entry → Entry → Type 0
Adds old new entry = (types : ℕ → TypeExpr) → Solves new types ↔ (Solves old types × Agrees types (length old) entry)

-- Two places made equal: what solved the old equations and has equal types there solves the new ones, and nothing else does. Or nothing did.
abbrev pub MakesEqual : Bool → List Entry → List Entry → ℕ → ℕ → Type 0
MakesEqual true old new one other =
    (length new ≡ length old) × ((types : ℕ → TypeExpr) → Solves new types ↔ (Solves old types × (types one ≡ types other)))
MakesEqual false old new one other = (types : ℕ → TypeExpr) → Solves old types → types one ≡ types other → ⊥

-- A place that is given a type: what solved the old equations and has this type there solves the new ones, and nothing else does. Or nothing did.
abbrev pub MakesWhole : Bool → List Entry → List Entry → ℕ → TypeExpr → Type 0
MakesWhole true old new place whole =
    (length new ≡ length old) × ((types : ℕ → TypeExpr) → Solves new types ↔ (Solves old types × (types place ≡ whole)))
MakesWhole false old new place whole = (types : ℕ → TypeExpr) → Solves old types → types place ≡ whole → ⊥

-- There are types that solve the equations, or there are none.
abbrev pub Decides : Bool → List Entry → Type 0
Decides true entries = (types : ℕ → TypeExpr) × Solves entries types
Decides false entries = (types : ℕ → TypeExpr) → Solves entries types → ⊥

-- The mode that a call takes, by its number and how many inputs it has.
use Rattle.std.specs.Prelude.{ℕ, nat_lt, Option, Some, None, if◌then◌else◌}
use Rattle.std.specs.Option.{option_map}
use Rattle.merc_tree.specs.declared.declarations.ModeDecl.{ModeDecl}
use Rattle.merc_order.specs.CallModes.{width}

-- of two modes the one with more inputs, the first where they have as many
abbrev pub wider_of : ℕ → ℕ → Option (ℕ × ℕ) → ℕ × ℕ
wider_of number inputs None = (number, inputs)
wider_of number inputs (Some other) = if nat_lt inputs other.1 then other else (number, inputs)

-- a mode with its number, by its number and how many inputs it has
abbrev pub in_short : Option (ℕ × ModeDecl) → Option (ℕ × ℕ)
in_short taken = option_map (λ mode. (mode.0, width mode.1.args)) taken

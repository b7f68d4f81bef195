-- What a call writes at one of its places.
use Rattle.std.specs.Prelude.{ℕ, Bool, Option, Some, None, if◌then◌else◌}
use Rattle.merc_tree.specs.declared.declarations.Arg.{Arg}
use Rattle.merc_tree.specs.declared.declarations.Arg.TheVariants.{Input, Output}

-- an output with no test
abbrev pub written_here : Bool → Option Arg → Option ℕ → Option ℕ
written_here test None argument = None
written_here test (Some Input) argument = None
written_here test (Some Output) None = None
written_here test (Some Output) (Some argument) = if test then None else Some argument

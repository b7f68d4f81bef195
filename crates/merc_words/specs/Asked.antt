-- What `clap` is asked.
use Rattle.std.specs.Prelude.{ℕ, true, List, [], Some, codes}
use Rattle.clap.specs.Walk.{Rule}
use Rattle.clap.specs.Simple.{App, new_rule, new_shape, with_rule}

-- an option with one value
abbrev pub option_rule : List ℕ → Rule
option_rule name = record (new_rule name) { long = Some name }

-- a command that is handed the words behind its name, and adds no help
abbrev pub plain_app : App
plain_app = record { top = record (new_shape (codes "merc")) { no_binary_name = true; disable_help_flag = true }; subs = [] }

-- One command for all: three options and two plain words, of which none is wanted.
abbrev pub asked_app : App
asked_app =
    with_rule (with_rule (with_rule (with_rule (with_rule plain_app (option_rule (codes "workers"))) (option_rule (codes "steps"))) (option_rule (codes "max"))) (new_rule (codes "first"))) (new_rule (codes "second"))

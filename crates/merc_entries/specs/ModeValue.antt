-- What the code's modes stand for.
use Rattle.merc_entries.specs.declared.doubles.modes.Mode.{Mode as CodeMode}
use Rattle.merc_entries.specs.Entries.{Mode}

abbrev pub mode_value : CodeMode → Mode
mode_value mode = record { predicate = mode.predicate; outputs = mode.outputs.items }

-- A module that is grown is a file that can be read.
use Rattle.std.specs.Prelude.{ℕ, ◌≤◌, length}
use Rattle.std.specs.Str.{IsAscii}
use Rattle.merc_transfer.specs.Loading.{file_limit}
use Rattle.merc_grow.specs.Grown.{predicate_limit, grown}

-- it has no more bytes than a file may have
abbrev pub GrownFits : Type 0
GrownFits = (count : ℕ) → count ≤ predicate_limit → length (grown count) ≤ file_limit

-- each of its bytes is a character
abbrev pub GrownIsAscii : Type 0
GrownIsAscii = (count : ℕ) → count ≤ predicate_limit → IsAscii (grown count)

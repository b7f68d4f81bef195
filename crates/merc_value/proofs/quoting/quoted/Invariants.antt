-- The quote stands first, and then each byte so far.
use Rattle.std.proofs.Common.{◌≡◌, ◌∷◌, take}
use Rattle.std.specs.List.{flat_map}
use Rattle.merc_value.specs.Text.{escape}
use Rattle.merc_value.proofs.quoting.quoted.Given as goal

abbrev pub invariant-loop-byte : goal.invariant-loop-byte
invariant-loop-byte l = l.written ≡ l.quote ∷ flat_map (escape l.quote) (take l.byte-index l.text)

-- What the code's look at the tokens answers.
use Rattle.std.specs.Prelude.{◌≡◌, List, Option, Some, None}
use Rattle.std.specs.Borrow.{Bor}
use Rattle.merc_tokens.specs.declared.token.Token.{Token}

-- it finds just this, and these tokens behind it
abbrev pub Finds : {A : Type 0} → Option (A × List Token) → Option (A × Bor (List Token)) → Type 0
Finds there None = there ≡ None
Finds there (Some found) = there ≡ Some (found.0, found.1.now)

-- Rows of the code's operator table.
use Rattle.std.specs.Prelude.{ℕ}
use Rattle.merc_terms.specs.declared.operators.Fixity.{Fixity}
use Rattle.merc_terms.specs.declared.operators.Operator.{Operator}

-- the operator of a row: its priority, its fixity and its name
abbrev pub operator_of : ℕ × Fixity × ℕ → Operator
operator_of row = record { name = row.2; priority = row.0; fixity = row.1 }

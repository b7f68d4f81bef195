-- Laws of the operator table.
use Rattle.std.proofs.Common.{◌≡◌, ℕ, Bool, true, false, List, [], ◌∷◌, Option, Some, map, find, cond, ◌==◌, ◌&&◌, refl, ap, ◌∙◌}
use Rattle.std.specs.Option.{option_map}
use Rattle.merc_terms.specs.declared.operators.Fixity.{Fixity}
use Rattle.merc_terms.specs.declared.operators.Operator.{Operator}
use Rattle.merc_terms.specs.Operators.{operators}
use Rattle.merc_terms.specs.OperatorRows.{operator_of}

-- A search in rows is a search in their operators.
pub found_rows : (test : Fixity → Bool) (name : ℕ) (rows : List (ℕ × Fixity × ℕ))
    → option_map operator_of (find (λ row. (row.2 == name) && test row.1) rows) ≡ find (λ operator. (operator.name == name) && test operator.fixity) (map operator_of rows)
found_rows test name [] = refl
found_rows test name (row ∷ rows) =
    elim ((row.2 == name) && test row.1) as (λ b. option_map operator_of (cond b (Some row) (find (λ row. (row.2 == name) && test row.1) rows))
    ≡ cond b (Some (operator_of row)) (find (λ operator. (operator.name == name) && test operator.fixity) (map operator_of rows)))
    [ true ↦ refl | false ↦ found_rows test name rows ]

-- What a search by name finds in the rows of the table.
pub found_named : (test : Fixity → Bool) (name : ℕ) (rows : List (ℕ × Fixity × ℕ)) (result : Option Operator)
    → map operator_of rows ≡ operators
    → result ≡ option_map operator_of (find (λ row. (row.2 == name) && test row.1) rows)
    → result ≡ find (λ operator. (operator.name == name) && test operator.fixity) operators
found_named test name rows result all e =
    e ∙ found_rows test name rows ∙ ap (λ (those : List Operator). find (λ operator. (operator.name == name) && test operator.fixity) those) all

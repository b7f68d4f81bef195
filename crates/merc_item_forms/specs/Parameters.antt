-- Parameters that repeat, by the names of the variables.
use Rattle.std.specs.Prelude.{ℕ, Bool, false, ◌==◌, ◌||◌, List, [], ◌∷◌, Option, Some, None, if◌then◌else◌}
use Rattle.merc_tree.specs.Term.{Term, Variable, Integer, Text, Application}
use Rattle.merc_value.specs.Text.{is_blank}
use Rattle.merc_item_forms.specs.Forms.{is_in}

-- the name of a variable other than `_`
abbrev pub own_variable : List (List ℕ) → Term → Option ℕ
own_variable names (Variable name span) = if is_blank names name then None else Some name
own_variable names (Integer value span) = None
own_variable names (Text text span) = None
own_variable names (Application name qualifier arguments span) = None

abbrev pub with_name : Option ℕ → List ℕ → List ℕ
with_name None rest = rest
with_name (Some name) rest = name ∷ rest

abbrev pub own_variables : List (List ℕ) → List Term → List ℕ
own_variables names [] = []
own_variables names (term ∷ rest) = with_name (own_variable names term) (own_variables names rest)

-- whether a number stands in a list twice
abbrev pub has_double : List ℕ → Bool
has_double [] = false
has_double (first ∷ rest) = is_in first rest || has_double rest

-- whether two numbers side by side are equal
abbrev pub begins_with : ℕ → List ℕ → Bool
begins_with name [] = false
begins_with name (first ∷ rest) = name == first

abbrev pub has_equal_neighbors : List ℕ → Bool
has_equal_neighbors [] = false
has_equal_neighbors (first ∷ rest) = begins_with first rest || has_equal_neighbors rest

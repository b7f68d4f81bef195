-- The lines of a module that is checked: each procedure of the file with its categories.
use Rattle.std.specs.Prelude.{ℕ, List, [], ◌∷◌, ◌++◌, length, map, take, codes}
use Rattle.std.specs.Fmt.{decimal}
use Rattle.merc_base.specs.Category.{category_name}
use Rattle.merc_tree.specs.declared.declarations.Arg.{Arg}
use Rattle.merc_tree.specs.declared.declarations.Arg.TheVariants.{Input, Output}
use Rattle.merc_tree.specs.declared.declarations.Module.{Module}
use Rattle.merc_value.specs.Text.{name_text, text_at}
use Rattle.merc_graded_tree.specs.Nodes.{Node}
use Rattle.merc_grading.specs.Faults.{Procedure, procedures_of}
use Rattle.merc_grading.specs.Grading.{category_at}
use Rattle.merc_solving.specs.Lines.{line, comma_list}

abbrev pub place_text : Arg → List ℕ
place_text Input = codes "in"
place_text Output = codes "out"

-- the places of a mode in brackets; nothing where there is none
abbrev pub places_text : List Arg → List ℕ
places_text [] = []
places_text (place ∷ places) = codes "(" ++ comma_list (map place_text (place ∷ places)) ++ codes ")"

-- a procedure with its declared category, and the one that its tree has
abbrev pub procedure_line : List (List ℕ) → Procedure → Node → List ℕ
procedure_line names procedure tree =
    line (name_text (text_at names procedure.predicate.name) ++ places_text procedure.mode.args ++ codes " is " ++ category_name procedure.mode.category
    ++ codes ", inferred " ++ category_name (category_at tree))

abbrev pub procedure_lines : List (List ℕ) → List Procedure → List Node → List (List ℕ)
procedure_lines names [] trees = []
procedure_lines names (first ∷ rest) [] = []
procedure_lines names (first ∷ rest) (tree ∷ trees) = procedure_line names first tree ∷ procedure_lines names rest trees

-- the procedures of the file, which stand before those of the library
abbrev pub own_procedures : Module → List Procedure
own_procedures found = procedures_of (take found.own found.preds)

-- the lines of a module whose procedures have these trees
abbrev pub check_lines : List (List ℕ) → Module → List Node → List (List ℕ)
check_lines names found trees =
    procedure_lines names (own_procedures found) trees ++ line (codes "procedures " ++ decimal (length (own_procedures found))) ∷ []

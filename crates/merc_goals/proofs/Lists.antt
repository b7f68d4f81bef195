-- A list of variables is taken apart cell by cell.
use Rattle.std.proofs.Common.{◌≡◌, ℕ, ◌<◌, ◌==◌, Bool, true, false, List, [], ◌∷◌, ◌++◌, Option, Some, None, if◌then◌else◌, refl, ap, sym, subst, ◌∙◌, arith}
use Rattle.std.proofs.lemmas.List.{append_assoc}
use Rattle.std.specs.Option.{option_map}
use Rattle.merc_base.specs.Names.{cons_name, nil_name}
use Rattle.merc_tree.specs.Term.{Term, Variable, Integer, Text, Application, none, more}
use Rattle.merc_operands.specs.Operands.{plain_name}
use Rattle.merc_goals.specs.Written.{parts, listed_variables}
use Rattle.merc_goals.specs.Links.{cell_of}
use Rattle.merc_goals.specs.declared.links.Cell.{Cell}

-- variables before those of the rest
abbrev pub behind : List ℕ → Option (List ℕ) → Option (List ℕ)
behind variables None = None
behind variables (Some others) = Some (variables ++ others)

behind-one : (variable : ℕ) (found : Option (List ℕ)) → option_map (λ others. variable ∷ others) found ≡ behind (variable ∷ []) found
behind-one variable None = refl
behind-one variable (Some others) = refl

behind-behind : (front back : List ℕ) (found : Option (List ℕ)) → behind front (behind back found) ≡ behind (front ++ back) found
behind-behind front back None = refl
behind-behind front back (Some others) = ap Some (sym (append_assoc front back others))

abbrev pub if_nil : Option ℕ → Option (List ℕ)
if_nil None = None
if_nil (Some name) = if name == nil_name then Some [] else None

-- the variables where the list begins with a cell, and where it does not
abbrev pub variables_by : Term → Option Cell → Option (List ℕ)
variables_by list None = if_nil (plain_name list)
variables_by list (Some cell) = behind (cell.variable ∷ []) (listed_variables cell.rest)

cell_if : (test : Bool) (list rest : Term) (variable : ℕ) → plain_name list ≡ None
    → (if test then option_map (λ others. variable ∷ others) (listed_variables rest) else None)
    ≡ variables_by list (if test then Some (record { variable = variable; rest = rest }) else None)
cell_if true list rest variable is = behind-one variable (listed_variables rest)
cell_if false list rest variable is = ap if_nil (sym is)

no_cell : (test : Bool) (list : Term) → plain_name list ≡ None → None ≡ variables_by list (if test then None else None)
no_cell true list is = ap if_nil (sym is)
no_cell false list is = ap if_nil (sym is)

pub variables-by : (list : Term) → listed_variables list ≡ variables_by list (cell_of list)
variables-by (Variable name span) = refl
variables-by (Integer value span) = refl
variables-by (Text text span) = refl
variables-by (Application name None none span) = refl
variables-by (Application name None (more (Variable variable place) none) span) = refl
variables-by (Application name None (more (Integer value place) none) span) = refl
variables-by (Application name None (more (Text text place) none) span) = refl
variables-by (Application name None (more (Application other qualifier arguments place) none) span) = refl
variables-by (Application name None (more (Variable variable place) (more rest none)) span) =
    cell_if (name == cons_name) (Application name None (more (Variable variable place) (more rest none)) span) rest variable refl
variables-by (Application name None (more (Integer value place) (more rest none)) span) =
    no_cell (name == cons_name) (Application name None (more (Integer value place) (more rest none)) span) refl
variables-by (Application name None (more (Text text place) (more rest none)) span) =
    no_cell (name == cons_name) (Application name None (more (Text text place) (more rest none)) span) refl
variables-by (Application name None (more (Application other qualifier arguments place) (more rest none)) span) =
    no_cell (name == cons_name) (Application name None (more (Application other qualifier arguments place) (more rest none)) span) refl
variables-by (Application name None (more (Variable variable place) (more second (more third rest))) span) = refl
variables-by (Application name None (more (Integer value place) (more second (more third rest))) span) = refl
variables-by (Application name None (more (Text text place) (more second (more third rest))) span) = refl
variables-by (Application name None (more (Application other qualifier arguments place) (more second (more third rest))) span) = refl
variables-by (Application name (Some qualifier) arguments span) = refl

abbrev pub IsLess : ℕ → Option Cell → Type 0
IsLess limit None = Unit {0}
IsLess limit (Some cell) = parts cell.rest < limit

less_if : (test : Bool) (limit : ℕ) (cell : Cell) → parts cell.rest < limit → IsLess limit (if test then Some cell else None)
less_if true limit cell less = less
less_if false limit cell less = tt

none_less : (test : Bool) (limit : ℕ) → IsLess limit (if test then None else None)
none_less true limit = tt
none_less false limit = tt

cell_less : (list : Term) → IsLess (parts list) (cell_of list)
cell_less (Variable name span) = tt
cell_less (Integer value span) = tt
cell_less (Text text span) = tt
cell_less (Application name None none span) = tt
cell_less (Application name None (more only none) span) = tt
cell_less (Application name None (more (Variable variable place) (more rest none)) span) =
    less_if (name == cons_name) (parts (Application name None (more (Variable variable place) (more rest none)) span)) (record { variable = variable; rest = rest }) (omega arith)
cell_less (Application name None (more (Integer value place) (more rest none)) span) = none_less (name == cons_name) _
cell_less (Application name None (more (Text text place) (more rest none)) span) = none_less (name == cons_name) _
cell_less (Application name None (more (Application other qualifier arguments place) (more rest none)) span) = none_less (name == cons_name) _
cell_less (Application name None (more first (more second (more third rest))) span) = tt
cell_less (Application name (Some qualifier) arguments span) = tt

pub cell_smaller : (list : Term) (cell : Cell) → Some cell ≡ cell_of list → parts cell.rest < parts list
cell_smaller list cell is = let P : Option Cell → Type 0 = λ o. IsLess (parts list) o in subst P (sym is) (cell_less list)

-- one step of the loop over a list
pub cell_step : (names pushed : List ℕ) (list : Term) (cell : Cell) (whole : Option (List ℕ)) → pushed ≡ names ++ cell.variable ∷ []
    → Some cell ≡ cell_of list → behind names (listed_variables list) ≡ whole → behind pushed (listed_variables cell.rest) ≡ whole
cell_step names pushed list cell whole pushing is before =
    ap (λ l. behind l (listed_variables cell.rest)) pushing
    ∙ sym (behind-behind names (cell.variable ∷ []) (listed_variables cell.rest))
    ∙ ap (behind names) (ap (variables_by list) is ∙ sym (variables-by list))
    ∙ before

-- the end of the list
pub list_end : (names : List ℕ) (list : Term) (whole : Option (List ℕ)) → None ≡ cell_of list → behind names (listed_variables list) ≡ whole
    → behind names (if_nil (plain_name list)) ≡ whole
list_end names list whole is before = ap (behind names) (ap (variables_by list) is ∙ sym (variables-by list)) ∙ before

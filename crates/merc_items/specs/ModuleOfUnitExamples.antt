-- The module that the items of a file and of a unit are. Each item has a line of its own, and what stands inside of it another one.
use Rattle.std.specs.Prelude.{◌≡◌, ℕ, ◌+◌, ◌*◌, ◌==◌, List, [], ◌∷◌, None, Some, codes, refl, if◌then◌else◌}
use Rattle.merc_base.specs.Names.{colon_minus_name, module_name, import_module_name, type_name, type_arrow_name, semicolon_name, pred_name, mode_name, colon_colon_name, is_name, in_name, out_name, int_name, string_name, list_name, det_name, semidet_name, multi_name, nondet_name}
use Rattle.merc_base.specs.declared.place.Span.{Span}
use Rattle.merc_base.specs.declared.category.Category.TheVariants.{Det, Semidet, Multi, Nondet}
use Rattle.merc_tree.specs.Term.{Term, Variable, Application, terms_of}
use Rattle.merc_tree.specs.Types.{IntType, TextType, TypeApplication, no_types}
use Rattle.merc_tree.specs.declared.declarations.Arg.TheVariants.{Input, Output}
use Rattle.merc_tree.specs.declared.declarations.PredDecl.{PredDecl}
use Rattle.merc_tree.specs.declared.declarations.Module.{Module}
use Rattle.merc_entries.specs.Entries.{entries}
use Rattle.merc_items.specs.ModuleOf.{module_of}

-- the span of the item on a line
abbrev line : ℕ → Span
line number = record { first = 100 * number; past = 100 * number + 90; line = number }

abbrev inside : Span
inside = record { first = 7; past = 8; line = 77 }

abbrev at : Span → ℕ → List Term → Term
at span name arguments = Application name None (terms_of arguments) span

abbrev apply : ℕ → List Term → Term
apply name arguments = at inside name arguments

abbrev name : ℕ → Term
name word = apply word []

abbrev both : ℕ → Term → Term → Term
both operator left right = apply operator (left ∷ right ∷ [])

-- `:- word argument.`
abbrev declared : ℕ → ℕ → Term → Term
declared number word argument = at (line number) colon_minus_name (apply word (argument ∷ []) ∷ [])

abbrev names : List (List ℕ)
names = codes "_" ∷ codes "X" ∷ codes "Y" ∷ []

abbrev x : Term
x = Variable 1 inside

abbrev y : Term
y = Variable 2 inside

abbrev m_name : ℕ
m_name = 100

abbrev t_name : ℕ
t_name = 101

abbrev c_name : ℕ
c_name = 102

abbrev d_name : ℕ
d_name = 103

abbrev p_name : ℕ
p_name = 104

abbrev u_name : ℕ
u_name = 105

abbrev e_name : ℕ
e_name = 106

abbrev r_name : ℕ
r_name = 107

-- line 1: `:- module m.`
-- line 2: `:- import_module list.`
-- line 3: `:- type t ---> c(int, string) ; d.`
-- line 4: `:- pred p(int, string).`
-- line 5: `:- mode p(in, out) is det.`
-- line 6: `:- mode p(out, in) is multi.`
-- line 7: `:- pred p(t::in) is semidet.`
-- line 8: `p(X) :- p(X, Y).`
-- line 9: `p(X, Y).`

abbrev mode_p : ℕ → ℕ → ℕ → ℕ → Term
mode_p number first second category = declared number mode_name (both is_name (both p_name (name first) (name second)) (name category))

abbrev file : List Term
file =
    declared 1 module_name (name m_name) ∷
    declared 2 import_module_name (name list_name) ∷
    declared 3 type_name (both type_arrow_name (name t_name) (both semicolon_name (both c_name (name int_name) (name string_name)) (name d_name))) ∷
    declared 4 pred_name (both p_name (name int_name) (name string_name)) ∷
    mode_p 5 in_name out_name det_name ∷
    mode_p 6 out_name in_name multi_name ∷
    declared 7 pred_name (both is_name (apply p_name (both colon_colon_name (name t_name) (name in_name) ∷ [])) (name semidet_name)) ∷
    at (line 8) colon_minus_name (apply p_name (x ∷ []) ∷ both p_name x y ∷ []) ∷
    at (line 9) p_name (x ∷ y ∷ []) ∷ []

-- The unit, in a text of its own:
-- line 1: `:- type u ---> e.`
-- line 2: `:- pred r(int, u).`
-- line 3: `:- mode r(out, in) is nondet.`
-- line 4: `r(X, Y) :- p(X, Y).`

abbrev unit_terms : ℕ → List Term
unit_terms unit =
    if unit == list_name then
    declared 1 type_name (both type_arrow_name (name u_name) (name e_name)) ∷
    declared 2 pred_name (both r_name (name int_name) (name u_name)) ∷
    declared 3 mode_name (both is_name (both r_name (name out_name) (name in_name)) (name nondet_name)) ∷
    at (line 4) colon_minus_name (both r_name x y ∷ both p_name x y ∷ []) ∷ []
    else []

abbrev whole : Module
whole = module_of names file (entries unit_terms file)

-- a predicate has the modes of its own number of arguments, each at the item that declares it
abbrev p_of_two : PredDecl
p_of_two = record {
  name = p_name;
  args = IntType ∷ TextType ∷ [];
  modes = record { args = Input ∷ Output ∷ []; category = Det; span = line 5 } ∷ record { args = Output ∷ Input ∷ []; category = Multi; span = line 6 } ∷ [];
  span = line 4;
  unit = None;
}

abbrev p_of_one : PredDecl
p_of_one = record {
  name = p_name;
  args = TypeApplication t_name no_types ∷ [];
  modes = record { args = Input ∷ []; category = Semidet; span = line 7 } ∷ [];
  span = line 7;
  unit = None;
}

abbrev r_of_unit : PredDecl
r_of_unit = record {
  name = r_name;
  args = IntType ∷ TypeApplication u_name no_types ∷ [];
  modes = record { args = Output ∷ Input ∷ []; category = Nondet; span = line 3 } ∷ [];
  span = line 2;
  unit = Some list_name;
}

-- what the unit declares stands behind what the file does, and is the unit's; the file has two predicates of its own
pub made : whole ≡ record {
  name = m_name;
  units = list_name ∷ [];
  types =
      record { name = t_name; params = []; constructors = record { name = c_name; args = IntType ∷ TextType ∷ [] } ∷ record { name = d_name; args = [] } ∷ []; unit = None } ∷
      record { name = u_name; params = []; constructors = record { name = e_name; args = [] } ∷ []; unit = Some list_name } ∷ [];
  preds = p_of_two ∷ p_of_one ∷ r_of_unit ∷ [];
  own = 2;
  clauses =
      record { head = apply p_name (x ∷ []); body = Some (both p_name x y); span = line 8 } ∷
      record { head = at (line 9) p_name (x ∷ y ∷ []); body = None; span = line 9 } ∷
      record { head = both r_name x y; body = Some (both p_name x y); span = line 4 } ∷ [];
}
made = refl

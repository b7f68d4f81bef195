-- Worked examples of the lines of a module that is checked: what holds, and what does not.
use Rattle.std.specs.Prelude.{◌≡◌, ◌+◌, ℕ, List, [], ◌∷◌, length, Some, None, codes, refl}
use Rattle.std.proofs.Common.{arith, slice_index, ap, sym}
use Rattle.std.specs.Fmt.{digits}
use Rattle.merc_base.specs.declared.category.Category.{Category}
use Rattle.merc_base.specs.declared.category.Category.TheVariants.{Det, Semidet, Failure}
use Rattle.merc_base.specs.declared.place.Span.{Span}
use Rattle.merc_tree.specs.Types.{IntType}
use Rattle.merc_tree.specs.declared.declarations.Arg.{Arg}
use Rattle.merc_tree.specs.declared.declarations.Arg.TheVariants.{Input, Output}
use Rattle.merc_tree.specs.declared.declarations.Module.{Module}
use Rattle.merc_tree.specs.declared.declarations.ModeDecl.{ModeDecl}
use Rattle.merc_tree.specs.declared.declarations.PredDecl.{PredDecl}
use Rattle.merc_value.specs.Text.{word_operators}
use Rattle.merc_graded_tree.specs.Nodes.{Node, node, Basic}
use Rattle.merc_graded_tree.specs.declared.basic.BasicGoal.TheVariants.{True}
use Rattle.merc_grading.specs.Faults.{Procedure}
use Rattle.merc_top.specs.Checking.{place_text, places_text, procedure_line, procedure_lines, own_procedures, check_lines}
use Rattle.merc_transfer.specs.Writing.{text_of}
use Rattle.merc_top.proofs.Requests.{differ}

abbrev at : ℕ → Span
at byte = record { first = byte; past = byte + 1; line = 1 }

-- a tree of this category
abbrev pub tree : Category → Node
tree category = node (Basic True) [] (Some category) (at 0)

abbrev pub mode : List Arg → Category → ModeDecl
mode places category = record { args = places; category = category; span = at 0 }

-- the file's predicate of this name and these modes
abbrev pub predicate : ℕ → List ModeDecl → PredDecl
predicate name modes = record { name = name; args = IntType ∷ IntType ∷ IntType ∷ []; modes = modes; span = at 0; unit = None }

-- names: 0 is `add`, 1 is `p`, 2 is `Red`, 3 is `rem`
abbrev names : List (List ℕ)
names = codes "add" ∷ codes "p" ∷ codes "Red" ∷ codes "rem" ∷ []

abbrev adds : ModeDecl
adds = mode (Input ∷ Input ∷ Output ∷ []) Det

abbrev subtracts : ModeDecl
subtracts = mode (Input ∷ Output ∷ Input ∷ []) Semidet

abbrev procedure : ℕ → ModeDecl → Procedure
procedure name mode = record { predicate = predicate name (mode ∷ []); mode = mode }

-- ---- a line

pub place_text-in : place_text Input ≡ codes "in"
place_text-in = refl

pub place_text-out : place_text Output ≡ codes "out"
place_text-out = refl

pub place_text-counterexample : place_text Output ≡ codes "in" → ⊥
place_text-counterexample same = cc

pub places_text-example : places_text (Input ∷ Input ∷ Output ∷ []) ≡ codes "(in, in, out)"
places_text-example = refl

pub places_text-one : places_text (Output ∷ []) ≡ codes "(out)"
places_text-one = refl

pub places_text-nothing : places_text [] ≡ []
places_text-nothing = refl

pub places_text-counterexample : places_text [] ≡ codes "()" → ⊥
places_text-counterexample same = cc

pub procedure_line-example : procedure_line names (procedure 0 adds) (tree Det) ≡ codes "add(in, in, out) is det, inferred det\n"
unfolding word_operators
procedure_line-example = refl

-- without arguments, and with another category than is declared
pub procedure_line-no_places : procedure_line names (procedure 1 (mode [] Semidet)) (tree Failure) ≡ codes "p is semidet, inferred failure\n"
unfolding word_operators
procedure_line-no_places = refl

-- a name that begins like a variable
pub procedure_line-quoted : procedure_line names (procedure 2 (mode (Input ∷ []) Det)) (tree Det) ≡ codes "'Red'(in) is det, inferred det\n"
procedure_line-quoted = refl

-- a name that is an operator
pub procedure_line-operator : procedure_line names (procedure 3 (mode (Input ∷ []) Det)) (tree Det) ≡ codes "'rem'(in) is det, inferred det\n"
unfolding word_operators
procedure_line-operator = refl

-- what is declared and what is inferred change places
pub procedure_line-counterexample : procedure_line names (procedure 1 (mode [] Semidet)) (tree Failure) ≡ codes "p is failure, inferred semidet\n" → ⊥
unfolding word_operators
procedure_line-counterexample same = differ 102 115 (omega arith) (sym (ap (λ (text : List ℕ). slice_index text 5) same))

-- ---- all lines

abbrev add_lines : List (List ℕ)
add_lines = codes "add(in, in, out) is det, inferred det\n" ∷ codes "add(in, out, in) is semidet, inferred det\n" ∷ []

-- each mode has its own line and tree
pub procedure_lines-example : procedure_lines names (procedure 0 adds ∷ procedure 0 subtracts ∷ []) (tree Det ∷ tree Det ∷ tree Failure ∷ []) ≡ add_lines
unfolding word_operators
procedure_lines-example = refl

pub procedure_lines-counterexample : procedure_lines names (procedure 0 adds ∷ []) (tree Failure ∷ tree Det ∷ []) ≡ codes "add(in, in, out) is det, inferred det\n" ∷ [] → ⊥
unfolding word_operators
procedure_lines-counterexample same =
    differ 100 102 (omega arith) (sym (ap (λ (texts : List (List ℕ)). slice_index (text_of texts) 34) same))

-- the file's predicate of two modes, behind which one of the library stands
abbrev sums : Module
sums = record {
  name = 1;
  units = [];
  types = [];
  preds = predicate 0 (adds ∷ subtracts ∷ []) ∷ predicate 2 (adds ∷ []) ∷ [];
  own = 1;
  clauses = [];
}

abbrev trees : List Node
trees = tree Det ∷ tree Det ∷ tree Det ∷ []

pub own_procedures-example : own_procedures sums ≡ record { predicate = predicate 0 (adds ∷ subtracts ∷ []); mode = adds } ∷ record { predicate = predicate 0 (adds ∷ subtracts ∷ []); mode = subtracts } ∷ []
own_procedures-example = refl

-- that of the library is not among them
pub own_procedures-counterexample : length (own_procedures sums) ≡ 3 → ⊥
own_procedures-counterexample same = cc

pub check_lines-example : check_lines names sums trees
    ≡ codes "add(in, in, out) is det, inferred det\n" ∷ codes "add(in, out, in) is semidet, inferred det\n" ∷ codes "procedures 2\n" ∷ []
unfolding word_operators digits
check_lines-example = refl

-- a module of no procedure
pub check_lines-none : check_lines names (record { name = 1; units = []; types = []; preds = []; own = 0; clauses = [] }) [] ≡ codes "procedures 0\n" ∷ []
unfolding digits
check_lines-none = refl

-- the procedures are counted, not the predicates
pub check_lines-counterexample : check_lines names sums trees
    ≡ codes "add(in, in, out) is det, inferred det\n" ∷ codes "add(in, out, in) is semidet, inferred det\n" ∷ codes "procedures 1\n" ∷ [] → ⊥
unfolding word_operators digits
check_lines-counterexample same =
    differ 49 50 (omega arith) (sym (ap (λ (texts : List (List ℕ)). slice_index (text_of texts) 91) same))

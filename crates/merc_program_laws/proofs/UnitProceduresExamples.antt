-- A predicate whose output is unbound at its end, of the file and of a unit.
use Rattle.std.proofs.Common.{◌≡◌, ℕ, ◌+◌, inl, inr, ◌⊎◌, [], ◌∷◌, Option, Some, None, refl, sym, ap, ◌∙◌}
use Rattle.merc_base.specs.declared.category.Category.TheVariants.{Det}
use Rattle.merc_base.specs.declared.place.Span.{Span}
use Rattle.merc_tree.specs.Term.{Variable, Application, none, more}
use Rattle.merc_tree.specs.Types.{IntType}
use Rattle.merc_tree.specs.declared.declarations.Arg.{Arg}
use Rattle.merc_tree.specs.declared.declarations.Arg.TheVariants.{Input, Output}
use Rattle.merc_tree.specs.declared.declarations.PredDecl.{PredDecl}
use Rattle.merc_tree.specs.declared.declarations.Module.{Module}
use Rattle.merc_order.specs.Faults.{unbound_output}
use Rattle.merc_program_laws.specs.UnitProcedures.{faults_in, HasOrderedUnits, IsFileOrderFault}

abbrev at : ℕ → Span
at first = record { first = first; past = first + 1; line = 1 }

abbrev p_name : ℕ
p_name = 200

abbrev x_name : ℕ
x_name = 201

-- `:- pred p(int).` with one mode, of this unit or of the file
abbrev declared_in : Option ℕ → Arg → PredDecl
declared_in unit argument = record { name = p_name; args = IntType ∷ []; modes = record { args = argument ∷ []; category = Det; span = at 5 } ∷ []; span = at 0; unit = unit }

-- the module with this predicate, and the clause `p(X).`
abbrev example : PredDecl → Module
example declared = record {
  name = 99;
  units = [];
  types = [];
  preds = declared ∷ [];
  own = 0;
  clauses = record { head = Application p_name None (more (Variable x_name (at 12)) none) (at 10); body = None; span = at 10 } ∷ [];
}

-- In the mode `(in)` it can be ordered.
pub HasOrderedUnits-input : HasOrderedUnits [] (example (declared_in (Some 7) Input))
HasOrderedUnits-input declared unit (inl same) is = ap (faults_in [] (example (declared_in (Some 7) Input))) same
HasOrderedUnits-input declared unit (inr among) is = absurd among

-- in the mode `(out)` it leaves its argument unbound
pub HasOrderedUnits-output : HasOrderedUnits [] (example (declared_in (Some 7) Output)) → ⊥
HasOrderedUnits-output units = let none = units (declared_in (Some 7) Output) 7 (inl refl) refl in cc

-- The same predicate of a file is none of a unit, and its fault is the file's.

pub HasOrderedUnits-file : HasOrderedUnits [] (example (declared_in None Output))
HasOrderedUnits-file declared unit (inl same) is = absurd (let wrong : Some unit ≡ None = sym is ∙ ap (λ (d : PredDecl). d.unit) same in cc)
HasOrderedUnits-file declared unit (inr among) is = absurd among

pub IsFileOrderFault-file : IsFileOrderFault [] (example (declared_in None Output)) (unbound_output (at 5))
IsFileOrderFault-file = record { declared = declared_in None Output; among = inl refl; own = refl; fault = inl refl }

pub IsFileOrderFault-unit : IsFileOrderFault [] (example (declared_in (Some 7) Output)) (unbound_output (at 5)) → ⊥
IsFileOrderFault-unit fault = of fault.declared fault.among fault.own
  where
    of : (declared : PredDecl) → (declared ≡ declared_in (Some 7) Output) ⊎ ⊥ → declared.unit ≡ None → ⊥
    of declared (inl same) own = let wrong : (declared_in (Some 7) Output).unit ≡ None = ap (λ (d : PredDecl). d.unit) (sym same) ∙ own in cc
    of declared (inr never) own = never

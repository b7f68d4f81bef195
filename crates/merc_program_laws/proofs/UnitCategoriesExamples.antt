-- A predicate that is declared `det` and always fails, and one with parallel conjuncts that do, of the file and of a unit.
use Rattle.std.proofs.Common.{◌≡◌, ℕ, ◌+◌, inl, inr, ◌⊎◌, [], ◌∷◌, Option, Some, None, refl, sym, ap, subst, ◌∙◌}
use Rattle.merc_base.specs.Names.{ampersand_name, fail_name}
use Rattle.merc_base.specs.Places.{place_of}
use Rattle.merc_base.specs.declared.category.Category.TheVariants.{Det, Failure}
use Rattle.merc_base.specs.declared.place.Span.{Span}
use Rattle.merc_base.specs.declared.refusal.Detail.TheVariants.{Categories}
use Rattle.merc_base.specs.declared.refusal.Refusal.{Refusal}
use Rattle.merc_base.specs.declared.refusal.Rule.TheVariants.{WrongCategory}
use Rattle.merc_tree.specs.Term.{Term, Application, none, more}
use Rattle.merc_tree.specs.Types.{IntType}
use Rattle.merc_tree.specs.declared.declarations.ModeDecl.{ModeDecl}
use Rattle.merc_tree.specs.declared.declarations.PredDecl.{PredDecl}
use Rattle.merc_tree.specs.declared.declarations.Module.{Module}
use Rattle.merc_graded_tree.specs.declared.basic.BasicGoal.TheVariants.{True}
use Rattle.merc_graded_tree.specs.Nodes.{Node, node, Basic}
use Rattle.merc_order.specs.Ordered.{Outcome, Ready, Stuck}
use Rattle.merc_order.specs.Procedures.{modes_of, procedure_from}
use Rattle.merc_order.specs.Spelt.{spelt}
use Rattle.merc_grading.specs.Faults.{Body, Procedure}
use Rattle.merc_program_laws.specs.UnitProcedures.{body_in}
use Rattle.merc_program_laws.specs.UnitCategories.{HasBody, category_faults, HasNoUnitFault, IsFileCategoryFault}

abbrev at : ℕ → Span
at first = record { first = first; past = first + 1; line = 1 }

abbrev p_name : ℕ
p_name = 200

abbrev mode : ModeDecl
mode = record { args = []; category = Det; span = at 5 }

-- `:- pred p is det.`, of this unit or of the file
abbrev declared_in : Option ℕ → PredDecl
declared_in unit = record { name = p_name; args = []; modes = mode ∷ []; span = at 0; unit = unit }

abbrev fails : ℕ → Term
fails first = Application fail_name None none (at first)

-- `fail & fail`
abbrev both_fail : Term
both_fail = Application ampersand_name None (more (fails 15) (more (fails 20) none)) (at 17)

-- the module with this predicate, and the clause `p :- B.`
abbrev example : Option ℕ → Term → Module
example unit goal = record {
  name = 99;
  units = [];
  types = [];
  preds = declared_in unit ∷ [];
  own = 0;
  clauses = record { head = Application p_name None none (at 10); body = Some goal; span = at 10 } ∷ [];
}

abbrev procedure : Option ℕ → Procedure
procedure unit = record { predicate = declared_in unit; mode = mode }

-- the tree of its body

abbrev tree_from : Option ℕ → Outcome → Node
tree_from unit (Ready ordered) = spelt (modes_of (declared_in unit ∷ [])) 0 ordered
tree_from unit (Stuck fault) = node (Basic True) [] None (at 0)

abbrev body : Option ℕ → Term → Body
body unit goal = record { types = λ variable. IntType; tree = tree_from unit (procedure_from (modes_of (declared_in unit ∷ [])) 0 mode (body_in [] (example unit goal) (declared_in unit))) }

-- What a unit declares is taken as it is.
pub HasNoUnitFault-fails : HasNoUnitFault [] (example (Some 7) (fails 15))
HasNoUnitFault-fails of unit own (inl same) is has =
    subst (λ (one : Procedure). HasBody [] (example (Some 7) (fails 15)) one own → category_faults [] (example (Some 7) (fails 15)) one own ≡ []) (sym same) computed has
  where
    computed : HasBody [] (example (Some 7) (fails 15)) (procedure (Some 7)) own → category_faults [] (example (Some 7) (fails 15)) (procedure (Some 7)) own ≡ []
    computed one =
        ap (λ (tree : Node). category_faults [] (example (Some 7) (fails 15)) (procedure (Some 7)) (record { types = own.types; tree = tree }))
        (one.tree.2 ∙ ap (tree_from (Some 7)) (sym one.tree.1))
HasNoUnitFault-fails of unit own (inr among) is has = absurd among

-- parallel conjuncts that fail
pub HasNoUnitFault-parallel : HasNoUnitFault [] (example (Some 7) both_fail) → ⊥
HasNoUnitFault-parallel units =
    let found = units (procedure (Some 7)) 7 (body (Some 7) both_fail) (inl refl) refl (record { tree = (_, refl, refl); typed = (tt, (tt, tt)) }) in cc

-- The same predicate of a file has a fault, which is the file's.

abbrev not_det : Refusal
not_det = record { rule = WrongCategory; place = place_of (at 5); detail = Categories Det Failure }

pub IsFileCategoryFault-file : IsFileCategoryFault [] (example None (fails 15)) not_det
IsFileCategoryFault-file = record {
  procedure = procedure None;
  body = body None (fails 15);
  among = inl refl;
  own = refl;
  has = record { tree = (_, refl, refl); typed = (tt, tt) };
  fault = inl refl;
}

pub IsFileCategoryFault-unit : IsFileCategoryFault [] (example (Some 7) (fails 15)) not_det → ⊥
IsFileCategoryFault-unit fault = of fault.procedure fault.among fault.own
  where
    of : (one : Procedure) → (one ≡ procedure (Some 7)) ⊎ ⊥ → one.predicate.unit ≡ None → ⊥
    of one (inl same) own = let wrong : (declared_in (Some 7)).unit ≡ None = ap (λ (p : Procedure). p.predicate.unit) (sym same) ∙ own in cc
    of one (inr never) own = never

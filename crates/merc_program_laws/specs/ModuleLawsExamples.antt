-- The module of `p.`, whose mode has a category, in the file or in a unit; and goals that are asked over it.
use Rattle.std.specs.Prelude.{◌≡◌, ℕ, List, [], ◌∷◌, Option, Some, None, refl}
use Rattle.std.proofs.Common.{inr, ap, sym, subst, ◌∙◌}
use Rattle.merc_base.specs.Names.{true_name}
use Rattle.merc_base.specs.declared.category.Category.{Category}
use Rattle.merc_base.specs.declared.category.Category.TheVariants.{Det, Semidet, Erroneous}
use Rattle.merc_tree.specs.Term.{Term, Application, none, no_span}
use Rattle.merc_tree.specs.Types.{TypeExpr, TypeVariable, IntType}
use Rattle.merc_tree.specs.declared.declarations.ModeDecl.{ModeDecl}
use Rattle.merc_tree.specs.declared.declarations.PredDecl.{PredDecl}
use Rattle.merc_tree.specs.declared.declarations.TypeDef.{TypeDef}
use Rattle.merc_tree.specs.declared.declarations.Module.{Module}
use Rattle.merc_graded_tree.specs.declared.basic.BasicGoal.TheVariants.{True}
use Rattle.merc_graded_tree.specs.Nodes.{Node, node, Basic}
use Rattle.merc_order.specs.Ordered.{Ordered, Ready}
use Rattle.merc_order.specs.Procedures.{IsProcedure, modes_of}
use Rattle.merc_order.specs.Spelt.{spelt}
use Rattle.merc_grading.specs.Faults.{Body, category_fault, procedures_of}
use Rattle.merc_bodies.specs.Bodies.{body_of}
use Rattle.merc_flat.specs.Flat.{clause_node}
use Rattle.merc_program_laws.specs.ProgramBodies.{UnitsAllow}
use Rattle.merc_program_laws.specs.ModuleLaws.{BecomesGood, BecomesGoodQuery, HaveBodies, IsFaultless, UnitsKeepTheirCategories}

abbrev p : ℕ
p = 200

abbrev pub word : ℕ → Term
word name = Application name None none no_span

abbrev pub mode : Category → ModeDecl
mode category = record { args = []; category = category; span = no_span }

abbrev pub predicate : Option ℕ → Category → PredDecl
predicate unit category = record { name = p; args = []; modes = mode category ∷ []; span = no_span; unit = unit }

abbrev pub example : Option ℕ → Category → Module
example unit category = record {
  name = 99;
  units = [];
  types = [];
  preds = predicate unit category ∷ [];
  own = 1;
  clauses = record { head = word p; body = None; span = no_span } ∷ [];
}

abbrev pub tree : Node
tree = node (Basic True) [] None no_span

abbrev body_with : (ℕ → TypeExpr) → Body
body_with types = record { types = types; tree = tree }

abbrev pub body : Body
body = body_with (λ variable. IntType)

pub has_body : (unit : Option ℕ) (category : Category) → HaveBodies [] (example unit category) (body ∷ [])
has_body unit category = (record { tree = (_, refl, refl); typed = (tt, tt) }, tt)

ready_same : (one other : Ordered) → Ready one ≡ Ready other → one ≡ other
ready_same one other h = cc

-- it has no other body
only_body : (unit : Option ℕ) (category : Category) (P : List Body → Type 0) → ((types : ℕ → TypeExpr) → P (body_with types ∷ [])) → (bodies : List Body)
    → HaveBodies [] (example unit category) bodies → P bodies
only_body unit category P each [] are = absurd are
only_body unit category P each (one ∷ []) are = subst (λ (t : Node). P (record { types = one.types; tree = t } ∷ [])) (sym (is_tree one.tree are.0.tree)) (each one.types)
  where
    is_tree : (other : Node) → IsProcedure (modes_of (example unit category).preds) 0 (mode category) (body_of (clause_node [] (example unit category)) (example unit category).clauses (predicate unit category)) other → other ≡ tree
    is_tree other (ordered, ready, same) = same ∙ sym (ap (λ (o : Ordered). spelt (modes_of (example unit category).preds) 0 o) (ready_same _ ordered ready))
only_body unit category P each (one ∷ other ∷ rest) are = absurd are.1

-- The file may declare `det` and `semidet` for it, and not `erroneous`.

faultless : IsFaultless [] (example None Det)
faultless = record {
  typed = ((λ variable. IntType, record { head = tt; parts = (tt, tt) }), tt);
  ordered = refl;
  categories = only_body None Det (λ bodies. category_fault [] (example None Det).preds bodies ≡ None) (λ types. refl);
}

not_allowed : IsFaultless [] (example None Erroneous) → ⊥
not_allowed h = cc (h.categories (body ∷ []) (has_body None Erroneous))

-- A unit keeps its category or not, in the same way.

keeps : UnitsKeepTheirCategories [] (example (Some 5) Semidet)
keeps = only_body (Some 5) Semidet (λ bodies. UnitsAllow (example (Some 5) Semidet) (procedures_of (example (Some 5) Semidet).preds) bodies) (λ types. ((λ is. refl), tt))

does_not_keep : UnitsKeepTheirCategories [] (example (Some 5) Erroneous) → ⊥
does_not_keep h = cc ((h (body ∷ []) (has_body (Some 5) Erroneous)).0 refl)

-- A module without predicates is a good program, unless a type is not.

abbrev with_types : List TypeDef → Module
with_types types = record { name = 99; units = []; types = types; preds = []; own = 0; clauses = [] }

good : BecomesGood [] (with_types [])
good = record { bodies = []; are = tt; good = record { good_types = record { apart = tt; scoped = tt }; procedures = tt } }

-- `:- type t ---> f(T).`
not_good : BecomesGood [] (with_types (record { name = 80; params = []; constructors = record { name = 81; args = TypeVariable 82 ∷ [] } ∷ []; unit = None } ∷ [])) → ⊥
not_good h = cc h.good.good_types.scoped.0.0.0

-- `true` is a good goal, where there are no answer variables

asked : BecomesGoodQuery [] (example None Det) [] (word true_name)
asked = record {
  body = body;
  is = record { tree = (_, refl, refl); typed = (tt, tt) };
  good = record {
    typed = (tt, tt);
    literals = (tt, tt);
    binds = (λ v h. h, tt, tt);
    binds_answers = inr (λ v h. h);
    guarded = tt;
    is_graded = (tree, refl);
  };
}

asked_unbound : BecomesGoodQuery [] (example None Det) (0 ∷ []) (word true_name) → ⊥
asked_unbound h = cc h.is.tree.1

-- A module with the predicate p/0 and two clauses of it, `p :- q.` and `p :- r.`, each of which calls what is not there. The names are 100 to 102.
use Rattle.std.proofs.Common.{◌≡◌, ℕ, ◌+◌, inl, List, [], ◌∷◌, ◌++◌, Some, None, refl, sym, ap, ◌∙◌, arith}
use Rattle.merc_base.specs.FirstFault.{first_of_faults}
use Rattle.merc_base.specs.Names.{fail_name}
use Rattle.merc_base.specs.Places.{place_of}
use Rattle.merc_base.specs.declared.category.Category.{Category}
use Rattle.merc_base.specs.declared.category.Category.TheVariants.{Det, Failure}
use Rattle.merc_base.specs.declared.place.Span.{Span}
use Rattle.merc_base.specs.declared.refusal.Detail.TheVariants.{Categories}
use Rattle.merc_base.specs.declared.refusal.Refusal.{Refusal}
use Rattle.merc_base.specs.declared.refusal.Rule.TheVariants.{WrongCategory}
use Rattle.merc_tree.specs.Term.{Term, Variable, Application, none, more}
use Rattle.merc_tree.specs.Types.{IntType}
use Rattle.merc_tree.specs.declared.declarations.Arg.TheVariants.{Output}
use Rattle.merc_tree.specs.declared.declarations.Clause.{Clause}
use Rattle.merc_tree.specs.declared.declarations.Module.{Module}
use Rattle.merc_flat.specs.GoalFaults.{unknown_name}
use Rattle.merc_graded_tree.specs.declared.basic.BasicGoal.TheVariants.{True, Fail}
use Rattle.merc_graded_tree.specs.Nodes.{Node as OrderedNode, node, Basic}
use Rattle.merc_order.specs.Faults.{unbound_output}
use Rattle.merc_order.specs.Ordered.{Outcome, Ready, Stuck}
use Rattle.merc_order.specs.Procedures.{modes_of}
use Rattle.merc_order.specs.Spelt.{spelt}
use Rattle.merc_grading.specs.Faults.{Body, category_fault, declaration_faults}
use Rattle.merc_check.specs.Accepted.{HaveBodies, RefusesClauses}
use Rattle.merc_check.specs.Accepted.RefusesClauses.{fault as clauses_faulty}
use Rattle.merc_program_laws.specs.ClauseFaults.{ComesFirst, earlier_phase, lesser_place, lesser_rule, HasNameFault, name, IsCategoryFault, IsOrderFault}

abbrev at : ℕ → Span
at first = record { first = first; past = first + 1; line = 1 }

abbrev atom : ℕ → ℕ → Term
atom word first = Application word None none (at first)

-- `p :- B.`, which begins at a byte, its body five bytes later
abbrev clause : ℕ → ℕ → Clause
clause first word = record { head = atom 100 first; body = Some (atom word (first + 5)); span = at first }

abbrev example : Module
example = record {
  name = 99;
  units = [];
  types = [];
  preds = record { name = 100; args = []; modes = []; span = at 0; unit = None } ∷ [];
  own = 1;
  clauses = clause 10 101 ∷ clause 20 102 ∷ [];
}

abbrev unknown_at : ℕ → Refusal
unknown_at first = unknown_name example (at first)

-- both clauses have a fault
first_clause : HasNameFault example (clause 10 101) (unknown_at 15)
first_clause = name (at 15) (inl refl)

second_clause : HasNameFault example (clause 20 102) (unknown_at 25)
second_clause = name (at 25) (inl refl)

-- that of the first is told, and comes first
told : RefusesClauses [] example (unknown_at 15)
told = clauses_faulty (unknown_at 15) refl

comes_first : ComesFirst 9 (unknown_at 15).place (unknown_at 15).rule 9 (unknown_at 25).place (unknown_at 25).rule
comes_first = lesser_place 9 (unknown_at 15).place (unknown_at 25).place (unknown_at 15).rule (unknown_at 25).rule (omega arith)

-- the other does not come before it
not_second : ComesFirst 9 (unknown_at 25).place (unknown_at 25).rule 9 (unknown_at 15).place (unknown_at 15).rule → ⊥
not_second (earlier_phase _ _ _ _ _ _ less) = omega (arith, less)
not_second (lesser_place _ _ _ _ _ less) = omega (arith, less)
not_second (lesser_rule _ _ _ _ _ same less) = omega (arith, same)

-- The same module with the one clause `p(X) :- true.`, of `p(int::out)`: X is unbound at the end, at the mode.

abbrev unbound : Module
unbound = record {
  name = 99;
  units = [];
  types = [];
  preds = record { name = 100; args = IntType ∷ []; modes = record { args = Output ∷ []; category = Det; span = at 3 } ∷ []; span = at 0; unit = None } ∷ [];
  own = 1;
  clauses = record { head = Application 100 None (more (Variable 103 (at 10)) none) (at 10); body = None; span = at 10 } ∷ [];
}

order_told : IsOrderFault [] [] unbound (unbound_output (at 3))
order_told = record { faultless = λ clause among phase fault has. among; first = refl }

-- there is none where there are no procedures
no_order_told : IsOrderFault [] [] (record { name = 99; units = []; types = []; preds = []; own = 0; clauses = [] }) (unbound_output (at 3)) → ⊥
no_order_told told = let wrong = told.first in cc

-- The same module with the one clause `p :- fail.`, of `p` with a declared category: the clause always fails, which `det` does not allow, and `failure` does.

abbrev failing : Category → Module
failing category = record {
  name = 99;
  units = [];
  types = [];
  preds = record { name = 100; args = []; modes = record { args = []; category = category; span = at 3 } ∷ []; span = at 0; unit = None } ∷ [];
  own = 1;
  clauses = record { head = atom 100 10; body = Some (atom fail_name 15); span = at 10 } ∷ [];
}

abbrev not_det : Refusal
not_det = record { rule = WrongCategory; place = place_of (at 3); detail = Categories Det Failure }

-- the tree of a procedure whose body goes in this order
abbrev tree_from : Category → Outcome → OrderedNode
tree_from category (Ready ordered) = spelt (modes_of (failing category).preds) 0 ordered
tree_from category (Stuck fault) = node (Basic True) [] None (at 0)

-- whatever its body, it is compared with what is declared
compared : (category : Category) (own : List Body) → HaveBodies [] (failing category) own → category_fault [] (failing category).preds own ≡ first_of_faults (declaration_faults category (at 3) Failure ++ [] ++ [])
compared category [] are = absurd are
compared category (body ∷ []) are =
    let tree = are.0.tree in
    ap (λ (tree : OrderedNode). category_fault [] (failing category).preds (record { types = body.types; tree = tree } ∷ [])) (tree.2 ∙ ap (tree_from category) (sym tree.1))
compared category (body ∷ other ∷ rest) are = absurd are.1

category_told : IsCategoryFault [] [] (failing Det) not_det
category_told = record { faultless = λ clause among phase fault has. among; ordered = refl; first = compared Det }

-- a body of `p`, in which each variable is an integer
abbrev failing_body : Body
failing_body = record { types = λ variable. IntType; tree = node (Basic Fail) [] None (at 15) }

no_category_told : IsCategoryFault [] [] (failing Failure) not_det → ⊥
no_category_told told = let wrong = told.first (failing_body ∷ []) (record { tree = (_, refl, refl); typed = (tt, tt) }, tt) in cc

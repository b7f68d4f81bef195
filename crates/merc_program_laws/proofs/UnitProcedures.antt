-- The predicates of library units can be ordered in each of their modes.
use Rattle.std.proofs.Common.{◌≡◌, ℕ, inl, inr, List, [], ◌∷◌, map, length, Option, Some, None, refl, subst}
use Rattle.merc_base.specs.declared.refusal.Refusal.{Refusal}
use Rattle.merc_tree.specs.declared.declarations.ModeDecl.{ModeDecl}
use Rattle.merc_tree.specs.declared.declarations.PredDecl.{PredDecl}
use Rattle.merc_goal_tree.specs.Nodes.{Node}
use Rattle.merc_order.specs.Procedures.{mode_faults, modes_of, procedure_faults}
use Rattle.merc_program_laws.specs.ClauseFaults.{IsAmong}
use Rattle.merc_program_laws.proofs.FirstFaults.{among_either, least_of}
use Rattle.merc_program_laws.specs.UnitProcedures.{body_in, faults_in, HasOrderedUnits, TellsFileOrder, UnitsAreOrdered}
use Rattle.merc_program_laws.proofs.ListOrders.{append_ordered, length_ordered, member_ordered, onto_ordered, reverse_ordered}
use Rattle.merc_program_laws.proofs.UnitBodies.{holds_of_units}

pub units_ordered : UnitsAreOrdered
units_ordered = holds_of_units (λ modes arity own body. mode_faults modes arity own body ≡ []) (
    record { append = append_ordered; member = member_ordered; length_of = length_ordered; reverse = reverse_ordered; onto = onto_ordered })

-- a fault of procedures is one of a predicate

record IsOfPredicate (modes : ℕ → List ModeDecl) (body : PredDecl → Node) (all : List PredDecl) (fault : Refusal) : Type 0 where
  declared : PredDecl
  among : IsAmong declared all
  inside : IsAmong fault (mode_faults modes (length declared.args) declared.modes (body declared))

of_predicate : (modes : ℕ → List ModeDecl) (body : PredDecl → Node) (all : List PredDecl) (fault : Refusal) → IsAmong fault (procedure_faults modes all (map body all)) → IsOfPredicate modes body all fault
of_predicate modes body [] fault among = absurd among
of_predicate modes body (first ∷ rest) fault among =
    elim (among_either fault (mode_faults modes (length first.args) first.modes (body first)) (procedure_faults modes rest (map body rest)) among)
    as (λ _. IsOfPredicate modes body (first ∷ rest) fault) [
      | inl here ↦ record { declared = first; among = inl refl; inside = here }
      | inr there ↦ (let inner = of_predicate modes body rest fault there in record { declared = inner.declared; among = inr inner.among; inside = inner.inside })
    ]

pub tells_file : TellsFileOrder
tells_file before after text terms found told table is tells =
    let units = units_ordered before after text terms found table is in
    let least = least_of (procedure_faults (modes_of found.preds) found.preds (map (body_in after found) found.preds)) told tells in
    let of = of_predicate (modes_of found.preds) (body_in after found) found.preds told least.among in
    record { declared = of.declared; among = of.among; own = own of.declared of.among of.inside units of.declared.unit refl; fault = of.inside }
  where
    own : (declared : PredDecl) → IsAmong declared found.preds → IsAmong told (faults_in after found declared) → HasOrderedUnits after found → (unit : Option ℕ) → declared.unit ≡ unit → declared.unit ≡ None
    own declared among inside units None same = same
    own declared among inside units (Some unit) same = absurd (subst (IsAmong told) (units declared unit among same) inside)

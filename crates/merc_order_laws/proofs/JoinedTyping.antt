-- Clauses that are typed one by one are typed as one goal.
use Rattle.std.proofs.Common.{◌≡◌, ℕ, zero, suc, ◌+◌, ◌-◌, ◌<◌, ◌≤◌, true, List, [], ◌∷◌, ◌++◌, length, map, get_or, ap, sym, ◌∙◌, arith, ⊎_elim}
use Rattle.std.specs.Prelude.{◌==◌, nat_lt, if◌then◌else◌}
use Rattle.std.specs.List.{AllByRecursion, position_or_len}
use Rattle.std.proofs.lemmas.Bool.{cases_lt, lt-ltb, le-ltb}
use Rattle.merc_tree.specs.Types.{TypeExpr, IntType}
use Rattle.merc_tree.specs.declared.declarations.Clause.{Clause}
use Rattle.merc_tree.specs.declared.declarations.PredDecl.{PredDecl}
use Rattle.merc_tree.specs.declared.declarations.Module.{Module}
use Rattle.merc_goal_tree.specs.Nodes.{Node, nodes_of}
use Rattle.merc_goal_tree.specs.Parts.{parts_of, all_parts}
use Rattle.merc_goal_tree.specs.Variables.{variables}
use Rattle.merc_bodies.specs.Bodies.{as_one, asked_body, body_of, clauses_of, joined_forms, numbered, own_variables}
use Rattle.merc_bodies.proofs.Rising.{has}
use Rattle.merc_bodies.proofs.Members.{has_own, place_within, at_place}
use Rattle.merc_type_check.specs.Typing.{AreArguments, IsTypedPart, HasTyping}
use Rattle.merc_order_laws.proofs.Choices.{chosen_true, chosen_false}
use Rattle.merc_order_laws.proofs.NewTypes.{renamed_typed}

-- lists of facts

all_append : {T : Type 0} (P : T → Type 0) (one other : List T) → AllByRecursion P one → AllByRecursion P other → AllByRecursion P (one ++ other)
all_append P [] other all also = also
all_append P (first ∷ rest) other all also = (all.0, all_append P rest other all.1 also)

all_map : {S T : Type 0} (P : T → Type 0) (f : S → T) (items : List S) → AllByRecursion (λ item. P (f item)) items → AllByRecursion P (map f items)
all_map P f [] all = tt
all_map P f (first ∷ rest) all = (all.0, all_map P f rest all.1)

module _ (known : Module) (types : ℕ → TypeExpr) where
  -- the types of arguments, by their numbers

  argument_at : (number : ℕ) (arguments : List TypeExpr) → AreArguments known types number arguments → (index : ℕ) → index < length arguments → types (number + index) ≡ get_or arguments index IntType
  argument_at number [] are index within = absurd (omega (arith, within))
  argument_at number (first ∷ rest) are zero within = ap types (omega arith) ∙ are.0
  argument_at number (first ∷ rest) are (suc index) within = ap types (omega arith) ∙ argument_at (number + 1) rest are.1 index (omega (arith, within))

  arguments_from : (number : ℕ) (arguments : List TypeExpr) → ((index : ℕ) → index < length arguments → types (number + index) ≡ get_or arguments index IntType) → AreArguments known types number arguments
  arguments_from number [] each = tt
  arguments_from number (first ∷ rest) each = (
    ap types (omega arith) ∙ each zero (omega arith),
    arguments_from (number + 1) rest (λ index within. ap types (omega arith) ∙ each (suc index) (omega (arith, within))),
  )

  -- goals of which each is typed

  abbrev AreTypedParts : Node → Type 0
  AreTypedParts goal = AllByRecursion (IsTypedPart known types) (parts_of goal)

  all_typed_parts : (goals : List Node) → AllByRecursion AreTypedParts goals → AllByRecursion (IsTypedPart known types) (all_parts (nodes_of goals))
  all_typed_parts [] all = tt
  all_typed_parts (first ∷ rest) all = all_append (IsTypedPart known types) (parts_of first) (all_parts (nodes_of rest)) all.0 (all_typed_parts rest all.1)

  one_typed : (clauses : List Clause) (goals : List Node) → AllByRecursion AreTypedParts goals → AreTypedParts (as_one clauses goals)
  one_typed clauses [] all = (tt, tt)
  one_typed clauses (only ∷ []) all = all.0
  one_typed [] (first ∷ second ∷ rest) all = all_append (IsTypedPart known types) (all_parts (nodes_of (first ∷ second ∷ rest))) _ (all_typed_parts (first ∷ second ∷ rest) all) (tt, tt)
  one_typed (clause ∷ clauses) (first ∷ second ∷ rest) all = all_append (IsTypedPart known types) (all_parts (nodes_of (first ∷ second ∷ rest))) _ (all_typed_parts (first ∷ second ∷ rest) all) (tt, tt)

module _ (known : Module) (arguments : List TypeExpr) where
  -- the types of the own variables of these clauses, which have the numbers from this one on
  abbrev own_types : ℕ → (forms : List Node) → AllByRecursion (HasTyping known arguments) forms → ℕ → TypeExpr
  own_types at [] each number = IntType
  own_types at (form ∷ forms) each number =
      if nat_lt number (at + length (own_variables (length arguments) form)) then each.0.0 (get_or (own_variables (length arguments) form) (number - at) 0)
      else own_types (at + length (own_variables (length arguments) form)) forms each.1 number

  -- those of all variables
  abbrev all_types : (forms : List Node) → AllByRecursion (HasTyping known arguments) forms → ℕ → TypeExpr
  all_types forms each number = if nat_lt number (length arguments) then get_or arguments number IntType else own_types (length arguments) forms each number

  module _ (types : ℕ → TypeExpr) (heads : (number : ℕ) → number < length arguments → types number ≡ get_or arguments number IntType) where
    -- a variable of a clause has, by its new number, the type that it has in the clause
    keeps : (at : ℕ) (form : Node) (forms : List Node) (each : AllByRecursion (HasTyping known arguments) (form ∷ forms)) → length arguments ≤ at
        → ((number : ℕ) → at ≤ number → types number ≡ own_types at (form ∷ forms) each number)
        → (number : ℕ) → has number (variables form) ≡ true → types (numbered (length arguments) at (own_variables (length arguments) form) number) ≡ each.0.0 number
    keeps at form forms each behind same number there =
        let arity = length arguments in
        let own = own_variables arity form in
        let place = position_or_len (λ other. other == number) own in
        ⊎_elim
        (λ (argument : number < arity).
        ap types (chosen_true (nat_lt number arity) number (at + place) (lt-ltb number arity argument))
        ∙ heads number argument
        ∙ sym (argument_at known each.0.0 0 arguments each.0.1.head number argument)
        ∙ ap each.0.0 (omega arith))
        (λ (past : arity ≤ number).
        let among = has_own arity form number there past in
        let within = place_within number own among in
        ap types (chosen_false (nat_lt number arity) number (at + place) (le-ltb number arity past))
        ∙ same (at + place) (omega arith)
        ∙ chosen_true (nat_lt (at + place) (at + length own)) (each.0.0 (get_or own ((at + place) - at) 0)) (own_types (at + length own) forms each.1 (at + place)) (lt-ltb (at + place) (at + length own) (omega (arith, within)))
        ∙ ap (λ n. each.0.0 (get_or own n 0)) (omega arith)
        ∙ ap each.0.0 (at_place number own among))
        (cases_lt number arity)

    forms_typed : (at : ℕ) (forms : List Node) (each : AllByRecursion (HasTyping known arguments) forms) → length arguments ≤ at
        → ((number : ℕ) → at ≤ number → types number ≡ own_types at forms each number) → AllByRecursion (AreTypedParts known types) (joined_forms (length arguments) at forms)
    forms_typed at [] each behind same = tt
    forms_typed at (form ∷ forms) each behind same =
        let own = own_variables (length arguments) form in (
          renamed_typed known each.0.0 types (numbered (length arguments) at own) form (keeps at form forms each behind same) each.0.1.parts,
          forms_typed (at + length own) forms each.1 (omega (arith, behind)) (λ number past.
              same number (omega (arith, past))
              ∙ chosen_false (nat_lt number (at + length own)) (each.0.0 (get_or own (number - at) 0)) (own_types (at + length own) forms each.1 number) (le-ltb number (at + length own) past)),
        )

  heads_are : (forms : List Node) (each : AllByRecursion (HasTyping known arguments) forms) (number : ℕ) → number < length arguments → all_types forms each number ≡ get_or arguments number IntType
  heads_are forms each number within = chosen_true (nat_lt number (length arguments)) (get_or arguments number IntType) (own_types (length arguments) forms each number) (lt-ltb number (length arguments) within)

  all_typed : (forms : List Node) (each : AllByRecursion (HasTyping known arguments) forms) → AllByRecursion (AreTypedParts known (all_types forms each)) (joined_forms (length arguments) (length arguments) forms)
  all_typed forms each =
      forms_typed (all_types forms each) (heads_are forms each) (length arguments) forms each (omega arith)
      (λ number past. chosen_false (nat_lt number (length arguments)) (get_or arguments number IntType) (own_types (length arguments) forms each number) (le-ltb number (length arguments) past))

  as_one_typed : (clauses : List Clause) (forms : List Node) → AllByRecursion (HasTyping known arguments) forms → HasTyping known arguments (as_one clauses (joined_forms (length arguments) (length arguments) forms))
  as_one_typed clauses forms each = (
    all_types forms each,
    record {
      head = arguments_from known (all_types forms each) 0 arguments (λ index within. ap (all_types forms each) (omega arith) ∙ heads_are forms each index within);
      parts = one_typed known (all_types forms each) clauses (joined_forms (length arguments) (length arguments) forms) (all_typed forms each);
    },
  )

pub body_typed : (known : Module) (form : Clause → Node) (clauses : List Clause) (declared : PredDecl)
    → AllByRecursion (λ clause. HasTyping known declared.args (form clause)) (clauses_of clauses declared) → HasTyping known declared.args (body_of form clauses declared)
body_typed known form clauses declared each =
    as_one_typed known declared.args (clauses_of clauses declared) (map form (clauses_of clauses declared)) (all_map (HasTyping known declared.args) form (clauses_of clauses declared) each)

pub asked_typed : (known : Module) (form : Node) → HasTyping known [] form → HasTyping known [] (asked_body form)
asked_typed known form typing = as_one_typed known [] [] (form ∷ []) (typing, tt)

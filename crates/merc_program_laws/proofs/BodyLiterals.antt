-- The bodies of predicates, and of a goal that is asked, have the literals of their forms.
use Rattle.std.proofs.Common.{◌≡◌, ℕ, ◌+◌, Bool, true, false, cond, refl, List, [], ◌∷◌, ◌++◌, length, map}
use Rattle.std.specs.List.{AllByRecursion}
use Rattle.merc_tree.specs.declared.declarations.Clause.{Clause}
use Rattle.merc_tree.specs.declared.declarations.PredDecl.{PredDecl}
use Rattle.merc_goals.specs.Written.{written}
use Rattle.merc_goal_tree.specs.Nodes.{Node, Nodes, Simple, Conjunction, Parallel, Disjunction, Conditional, Negation, Quantified, no_nodes, more_nodes}
use Rattle.merc_goal_tree.specs.declared.goal.SimpleGoal.{SimpleGoal}
use Rattle.merc_goal_tree.specs.declared.goal.SimpleGoal.TheVariants.{True, Fail, Same, Shape, Arithmetic, Compare, Raise, Call}
use Rattle.merc_goal_tree.specs.declared.goal.Symbol.{Symbol}
use Rattle.merc_goal_tree.specs.declared.goal.Symbol.TheVariants.{Constructor, Integer, Text}
use Rattle.merc_bodies.specs.Bodies.{as_one, body_of, clauses_of, is_head, joined_forms, numbered, own_variables}
use Rattle.merc_bodies.specs.Renamed.{all_renamed, renamed, renamed_goal}
use Rattle.merc_flat.specs.Flat.{clause_node, query_node}
use Rattle.merc_order_laws.specs.WrittenGoals.{all_simple_goals, simple_goals}
use Rattle.merc_order_laws.proofs.Written.{all_left, all_right}
use Rattle.merc_program_laws.specs.GoodPrograms.{FitsArguments}
use Rattle.merc_program_laws.specs.ProgramBodies.{HasWrittenLiterals, WrittenLiteral}
use Rattle.merc_program_laws.specs.ClauseWords.{ClauseHasWords}
use Rattle.merc_program_laws.specs.TextLaws.{BodyHasLiterals, ModuleHasLiterals, QueryHasLiterals}
use Rattle.merc_program_laws.proofs.FormLiterals.{AreLiteral, joined}
use Rattle.merc_program_laws.proofs.GoalLiterals.{HaveLiterals, clause_has_literals, goal_has_literals, nodes_literal}
use Rattle.merc_program_laws.proofs.Lists.{all_implied}
use Rattle.merc_program_laws.proofs.ModuleWords.{module_has_words}
use Rattle.merc_program_laws.proofs.WrittenWords.{written_words}

-- Given are other variables.
module _ (new : ℕ → ℕ) where
  none_mapped : (arguments : List ℕ) → arguments ≡ [] → map new arguments ≡ []
  none_mapped [] none = refl
  none_mapped (first ∷ rest) none = absurd cc

  fits_renamed : (symbol : Symbol) (arguments : List ℕ) → FitsArguments symbol arguments → FitsArguments symbol (map new arguments)
  fits_renamed (Constructor name arity) arguments h = tt
  fits_renamed (Integer value) arguments h = (h.0, none_mapped arguments h.1)
  fits_renamed (Text text) arguments h = none_mapped arguments h

  literal_renamed : (goal : SimpleGoal) → WrittenLiteral goal → WrittenLiteral (renamed_goal new goal)
  literal_renamed True h = tt
  literal_renamed Fail h = tt
  literal_renamed (Same one other) h = tt
  literal_renamed (Shape variable symbol arguments) h = fits_renamed symbol arguments h
  literal_renamed (Arithmetic operation result left right) h = tt
  literal_renamed (Compare comparison left right) h = tt
  literal_renamed (Raise text) h = tt
  literal_renamed (Call predicate arguments) h = tt

  mutual
    renamed_literal : (goal : Node) → HasWrittenLiterals goal → HasWrittenLiterals (renamed new goal)
    renamed_literal (Simple goal span) h = (literal_renamed goal h.0, tt)
    renamed_literal (Conjunction goals span) h = all_renamed_literal goals h
    renamed_literal (Parallel goals span) h = all_renamed_literal goals h
    renamed_literal (Disjunction goals span) h = all_renamed_literal goals h
    renamed_literal (Conditional condition then_part else_part span) h =
        let others = all_right WrittenLiteral (simple_goals condition) (simple_goals then_part ++ simple_goals else_part) h in
        joined (simple_goals (renamed new condition)) (simple_goals (renamed new then_part) ++ simple_goals (renamed new else_part))
        (renamed_literal condition (all_left WrittenLiteral (simple_goals condition) (simple_goals then_part ++ simple_goals else_part) h))
        (joined (simple_goals (renamed new then_part)) (simple_goals (renamed new else_part))
        (renamed_literal then_part (all_left WrittenLiteral (simple_goals then_part) (simple_goals else_part) others))
        (renamed_literal else_part (all_right WrittenLiteral (simple_goals then_part) (simple_goals else_part) others)))
    renamed_literal (Negation goal span) h = renamed_literal goal h
    renamed_literal (Quantified own goal span) h = renamed_literal goal h

    all_renamed_literal : (goals : Nodes) → AreLiteral (all_simple_goals goals) → AreLiteral (all_simple_goals (all_renamed new goals))
    all_renamed_literal no_nodes h = tt
    all_renamed_literal (more_nodes first rest) h =
        joined (simple_goals (renamed new first)) (all_simple_goals (all_renamed new rest))
        (renamed_literal first (all_left WrittenLiteral (simple_goals first) (all_simple_goals rest) h))
        (all_renamed_literal rest (all_right WrittenLiteral (simple_goals first) (all_simple_goals rest) h))

joined_forms_literal : (arity at : ℕ) (forms : List Node) → HaveLiterals forms → HaveLiterals (joined_forms arity at forms)
joined_forms_literal arity at [] h = tt
joined_forms_literal arity at (form ∷ forms) h = (
  renamed_literal (numbered arity at (own_variables arity form)) form h.0,
  joined_forms_literal arity (at + length (own_variables arity form)) forms h.1,
)

as_one_literal : (clauses : List Clause) (forms : List Node) → HaveLiterals forms → HasWrittenLiterals (as_one clauses forms)
as_one_literal clauses [] h = (tt, tt)
as_one_literal clauses (only ∷ []) h = h.0
as_one_literal [] (first ∷ second ∷ rest) h = nodes_literal (first ∷ second ∷ rest) h
as_one_literal (clause ∷ clauses) (first ∷ second ∷ rest) h = nodes_literal (first ∷ second ∷ rest) h

-- Given are the forms of clauses, and a predicate.
module _ (form : Clause → Node) (declared : PredDecl) where
  forms_literal : (clauses : List Clause) → AllByRecursion (λ clause. HasWrittenLiterals (form clause)) clauses → HaveLiterals (map form (clauses_of clauses declared))
  forms_literal [] h = tt
  forms_literal (clause ∷ rest) h = by (is_head declared clause.head) (forms_literal rest h.1)
    where
      by : (b : Bool) → HaveLiterals (map form (clauses_of rest declared)) → HaveLiterals (map form (cond b (clause ∷ clauses_of rest declared) (clauses_of rest declared)))
      by true others = (h.0, others)
      by false others = others

pub body_has_literals : BodyHasLiterals
body_has_literals form clauses declared h =
    let forms = map form (clauses_of clauses declared) in
    let arity = length declared.args in
    as_one_literal (clauses_of clauses declared) (joined_forms arity arity forms) (joined_forms_literal arity arity forms (forms_literal form declared clauses h))

each_body : (form : Clause → Node) (clauses : List Clause) → AllByRecursion (λ clause. HasWrittenLiterals (form clause)) clauses → (predicates : List PredDecl)
    → AllByRecursion (λ declared. HasWrittenLiterals (body_of form clauses declared)) predicates
each_body form clauses h [] = tt
each_body form clauses h (declared ∷ rest) = (body_has_literals form clauses declared h, each_body form clauses h rest)

pub module_has_literals : ModuleHasLiterals
module_has_literals before after text terms found is =
    each_body (clause_node after found) found.clauses
    (all_implied ClauseHasWords (λ clause. HasWrittenLiterals (clause_node after found clause)) found.clauses (λ clause words. clause_has_literals after found clause words)
    (module_has_words before after text terms found is))
    found.preds

pub query_has_literals : QueryHasLiterals
query_has_literals before after text term known reads =
    let form = query_node after known (written 0 term) in
    renamed_literal (numbered 0 0 (own_variables 0 form)) form (goal_has_literals after known (written 0 term) (written_words 0 term reads.goal.allowed.words))

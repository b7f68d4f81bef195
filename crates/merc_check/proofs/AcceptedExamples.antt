-- Small modules and goals that are accepted, and others that are refused, each by one rule. Names in modules have numbers behind those of the constants.
use Rattle.std.proofs.Common.{◌≡◌, ℕ, ◌+◌, pos, List, [], ◌∷◌, length, Option, Some, None, codes, refl, sym, subst, ap, ◌∙◌}
use Rattle.std.specs.List.{AllByRecursion}
use Rattle.merc_base.specs.FirstFault.{first_of_faults}
use Rattle.merc_base.specs.Names.{ampersand_name, comma_name, equal_name, fail_name, semicolon_name, true_name}
use Rattle.merc_base.specs.Places.{place_of}
use Rattle.merc_base.specs.declared.category.Category.{Category}
use Rattle.merc_base.specs.declared.category.Category.TheVariants.{Det, Semidet, Multi, Failure}
use Rattle.merc_base.specs.declared.place.Span.{Span}
use Rattle.merc_base.specs.declared.refusal.Detail.TheVariants.{Plain, Categories, Conjunct}
use Rattle.merc_base.specs.declared.refusal.Refusal.{Refusal}
use Rattle.merc_base.specs.declared.refusal.Rule.TheVariants.{TypeMismatch, WrongCategory, ParallelCategory}
use Rattle.merc_tree.specs.Term.{Term, Variable, Integer, Text, Application, none, more, no_span}
use Rattle.merc_tree.specs.Types.{TypeExpr, IntType, TextType}
use Rattle.merc_tree.specs.declared.declarations.Arg.{Arg}
use Rattle.merc_tree.specs.declared.declarations.Arg.TheVariants.{Input, Output}
use Rattle.merc_tree.specs.declared.declarations.Clause.{Clause}
use Rattle.merc_tree.specs.declared.declarations.ModeDecl.{ModeDecl}
use Rattle.merc_tree.specs.declared.declarations.Module.{Module}
use Rattle.merc_goals.specs.Faults.{outside_profile}
use Rattle.merc_goal_tree.specs.Nodes.{Simple, Disjunction, nodes_of}
use Rattle.merc_goal_tree.specs.declared.goal.SimpleGoal.TheVariants.{True, Shape, Call}
use Rattle.merc_goal_tree.specs.declared.goal.Symbol.TheVariants.{Integer as IntegerSymbol}
use Rattle.merc_flat.specs.GoalFaults.{unknown_name}
use Rattle.merc_graded_tree.specs.declared.basic.BasicGoal.TheVariants.{True as TrueGoal, Fail as FailGoal, Build, Split}
use Rattle.merc_graded_tree.specs.declared.entries.Running.TheVariants.{Sequential, Parallel}
use Rattle.merc_graded_tree.specs.Nodes.{Node as OrderedNode, node, Basic, Conjunction as OrderedConjunction, Disjunction as OrderedDisjunction, nodes_of as ordered_nodes}
use Rattle.merc_order.specs.Bound.{nothing}
use Rattle.merc_order.specs.Faults.{never_ready, unbound_output}
use Rattle.merc_order.specs.Ordered.{Outcome, Ready, Stuck, put, Build as Builds}
use Rattle.merc_order.specs.Procedures.{bound_at, modes_of, order_fault}
use Rattle.merc_order.specs.Spelt.{spelt}
use Rattle.merc_modes.specs.Told.{fault_in}
use Rattle.merc_grading.specs.Faults.{Body, all_finished, category_fault, finished, parallel_faults, procedure_faults, procedures_of, query_category_fault}
use Rattle.merc_order_laws.specs.TypedTree.{IsTypedTree}
use Rattle.merc_check.specs.Accepted.{AcceptsClauses, AcceptsGoal, AreGraded, HasBody, HaveBodies, IsGradedGoal, IsTypedClause, IsTypedQuery, RefusesClauses, RefusesGoal, bodies, query_answers, query_names, query_order, type_mismatch}
use Rattle.merc_check.specs.Accepted.RefusesClauses.{fault as clauses_faulty, untyped as clause_untyped, unordered as clauses_unordered, category as clauses_categories}
use Rattle.merc_check.specs.Accepted.RefusesGoal.{fault as goal_faulty, untyped as goal_untyped, unordered as goal_unordered, category as goal_categories}
use Rattle.merc_check.proofs.AcceptedLaws.{HasAllBodies, HasOneBody, RefusesClauses-excludes, RefusesClauses-unique, RefusesGoal-unique}

abbrev p_name : ℕ
p_name = 100

abbrev pub q_name : ℕ
q_name = 101

abbrev c_name : ℕ
c_name = 102

-- the name of the variable in clauses, and the text "a"

abbrev x_name : ℕ
x_name = 103

abbrev a_text : ℕ
a_text = 104

abbrev pub at : ℕ → Span
at first = record { first = first; past = first + 1; line = 1 }

abbrev one : ℕ → Term
one first = Integer (pos 1) (at first)

abbrev letter : ℕ → Term
letter first = Text a_text (at first)

abbrev pub word : ℕ → ℕ → Term
word name first = Application name None none (at first)

abbrev over : ℕ → Term → ℕ → Term
over name only first = Application name None (more only none) (at first)

abbrev join : ℕ → Term → Term → ℕ → Term
join name left right first = Application name None (more left (more right none)) (at first)

-- a clause of `p`, whose head stands one byte behind where the clause does
abbrev clause : Term → Option Term → ℕ → Clause
clause only body first = record { head = over p_name only (first + 1); body = body; span = at first }

-- `p(1).`, `p(X).` and `p("a").`, of which the last is not typed

abbrev pub one_at : ℕ → Clause
one_at first = clause (one (first + 3)) None first

abbrev any_at : ℕ → Clause
any_at first = clause (Variable x_name (at (first + 3))) None first

abbrev pub letter_at : ℕ → Clause
letter_at first = clause (letter (first + 3)) None first

-- `p(X) :- q.`, where there may be no q, and `p(X) :- X.`

abbrev calling_at : ℕ → Clause
calling_at first = clause (Variable x_name (at (first + 3))) (Some (word q_name (first + 5))) first

abbrev outside_at : ℕ → Clause
outside_at first = clause (Variable x_name (at (first + 3))) (Some (Variable x_name (at (first + 5)))) first

abbrev mode_at : ℕ → Arg → Category → ModeDecl
mode_at first argument category = record { args = argument ∷ []; category = category; span = at first }

abbrev input : Category → List ModeDecl
input category = mode_at 3 Input category ∷ []

abbrev output : List ModeDecl
output = mode_at 3 Output Det ∷ []

-- the module with `p(int)`, in these modes and with these clauses
abbrev pub example : List ModeDecl → List Clause → Module
example modes clauses = record {
  name = 99;
  units = [];
  types = [];
  preds = record { name = p_name; args = IntType ∷ []; modes = modes; span = at 0; unit = None } ∷ [];
  own = 1;
  clauses = clauses;
}

abbrev pub bare : Module
bare = record { name = 99; units = []; types = []; preds = []; own = 0; clauses = [] }

-- what is told of a clause stands where it begins

mismatch : type_mismatch (record { first = 20; past = 28; line = 2 }) ≡ record { rule = TypeMismatch; place = record { byte = 20; line = 2 }; detail = Plain }
mismatch = refl

mismatch-end : type_mismatch (record { first = 20; past = 28; line = 2 }) ≡ record { rule = TypeMismatch; place = record { byte = 28; line = 2 }; detail = Plain } → ⊥
mismatch-end same = let wrong : ◌≡◌ {A = ℕ} 20 28 = ap (λ (refusal : Refusal). refusal.place.byte) same in cc

-- ---- the parts of a module

pub one_typed : (modes : List ModeDecl) (clauses : List Clause) (first : ℕ) → IsTypedClause [] (example modes clauses) (one_at first)
one_typed modes clauses first = ((λ variable. IntType), record { head = (refl, tt); parts = (refl, tt) })

any_typed : (modes : List ModeDecl) (clauses : List Clause) (first : ℕ) → IsTypedClause [] (example modes clauses) (any_at first)
any_typed modes clauses first = ((λ variable. IntType), record { head = (refl, tt); parts = (tt, tt) })

-- by the declared type of the argument
pub letter_untyped : (modes : List ModeDecl) (clauses : List Clause) (first : ℕ) → IsTypedClause [] (example modes clauses) (letter_at first) → ⊥
letter_untyped modes clauses first typing =
    let types : ℕ → TypeExpr = typing.0 in
    let head : types 0 ≡ IntType = typing.1.head.0 in
    let text : types 0 ≡ TextType = typing.1.parts.0 in
    cc

-- `p(1).`, `q.` and `p(X) :- q.`, where q/0 is the library's: each predicate has its clauses as one goal
abbrev with_unit : Module
with_unit = record {
  name = 99;
  units = 98 ∷ [];
  types = [];
  preds = record { name = p_name; args = IntType ∷ []; modes = []; span = at 0; unit = None } ∷ record { name = q_name; args = []; modes = []; span = at 5; unit = Some 98 } ∷ [];
  own = 1;
  clauses = one_at 10 ∷ record { head = word q_name 20; body = None; span = at 20 } ∷ calling_at 30 ∷ [];
}

goals : bodies [] with_unit
    ≡ Disjunction (nodes_of (Simple (Shape 0 (IntegerSymbol (pos 1)) []) (at 10) ∷ Simple (Call 1 []) (at 35) ∷ [])) (at 10) ∷ Simple True (at 20) ∷ []
goals = refl

goals-own : length (bodies [] with_unit) ≡ 1 → ⊥
goals-own same = cc

-- ---- a module that is accepted, and the same with a category that is refused

-- `p(1).`, in the mode `(in)` of this category
abbrev pub splitting : Category → Module
splitting category = example (input category) (one_at 10 ∷ [])

abbrev splits : Option Category → OrderedNode
splits category = node (Basic (Split 0 (IntegerSymbol (pos 1)) [])) [] category (at 10)

abbrev body_of_type : TypeExpr → Body
body_of_type type = record { types = λ variable. type; tree = splits None }

splitting_has : (category : Category) → HaveBodies [] (splitting category) (body_of_type IntType ∷ [])
splitting_has category = (record { tree = (_, refl, refl); typed = (refl, tt) }, tt)

splitting_has-none : HaveBodies [] (splitting Det) [] → ⊥
splitting_has-none are = are

-- its variable is no text
splitting_has-text : HaveBodies [] (splitting Det) (body_of_type TextType ∷ []) → ⊥
splitting_has-text are = let wrong : TextType ≡ IntType = are.0.typed.0 in cc

-- the tree of what goes in this order, whose fresh variables are numbered from here on
abbrev pub tree_from : (ℕ → List ModeDecl) → ℕ → Outcome → OrderedNode
tree_from modes fresh (Ready ordered) = spelt modes fresh ordered
tree_from modes fresh (Stuck fault) = node (Basic TrueGoal) [] None no_span

-- whatever body it has, its one tree is semidet, since the argument is an integer
splitting_trees : (category : Category) (own : List Body) → HaveBodies [] (splitting category) own
    → all_finished [] (splitting category).preds (procedures_of (splitting category).preds) own ≡ splits (Some Semidet) ∷ []
splitting_trees category [] are = absurd are
splitting_trees category (body ∷ []) are =
    let is : body.tree ≡ splits None = are.0.tree.2 ∙ ap (tree_from (modes_of (splitting category).preds) 1) (sym are.0.tree.1) in
    let typed : IsTypedTree (splitting category) body.types (splits None) = subst (IsTypedTree (splitting category) body.types) is are.0.typed in
    ap (λ (tree : OrderedNode). finished [] (splitting category).preds (bound_at (Input ∷ [])) (record { types = body.types; tree = tree }) ∷ []) is
    ∙ ap (λ (type : TypeExpr). finished [] (splitting category).preds (bound_at (Input ∷ [])) (body_of_type type) ∷ []) typed.0
splitting_trees category (body ∷ other ∷ rest) are = absurd are.1

splitting_fault : (category : Category) (own : List Body) → HaveBodies [] (splitting category) own
    → category_fault [] (splitting category).preds own ≡ first_of_faults (procedure_faults (procedures_of (splitting category).preds) (splits (Some Semidet) ∷ []))
splitting_fault category own are =
    ap (λ (trees : List OrderedNode). first_of_faults (procedure_faults (procedures_of (splitting category).preds) trees)) (splitting_trees category own are)

pub splitting_typed : (category : Category) → AllByRecursion (IsTypedClause [] (splitting category)) (splitting category).clauses
splitting_typed category = (one_typed (input category) (one_at 10 ∷ []) 10, tt)

accepted : AcceptsClauses [] (splitting Semidet)
accepted = record {
  flat = refl;
  typed = splitting_typed Semidet;
  ordered = refl;
  categories = splitting_fault Semidet;
}

pub accepted-unrefused : (refusal : Refusal) → RefusesClauses [] (splitting Semidet) refusal → ⊥
accepted-unrefused refusal refuses = RefusesClauses-excludes [] (splitting Semidet) (λ typed ordered. (body_of_type IntType ∷ [], splitting_has Semidet)) refusal refuses accepted

graded : AreGraded [] (splitting Semidet) (splits (Some Semidet) ∷ [])
graded own are = sym (splitting_trees Semidet own are)

-- without its category
graded-bare : AreGraded [] (splitting Semidet) (splits None ∷ []) → ⊥
graded-bare trees = let wrong : splits None ∷ [] ≡ splits (Some Semidet) ∷ [] = trees (body_of_type IntType ∷ []) (splitting_has Semidet) in cc

graded-none : AreGraded [] (splitting Semidet) [] → ⊥
graded-none trees = let wrong : ◌≡◌ {A = List OrderedNode} [] (splits (Some Semidet) ∷ []) = trees (body_of_type IntType ∷ []) (splitting_has Semidet) in cc

abbrev not_det : Refusal
not_det = record { rule = WrongCategory; place = place_of (at 3); detail = Categories Det Semidet }

category_told : RefusesClauses [] (splitting Det) not_det
category_told = clauses_categories not_det refl (splitting_typed Det) refl (splitting_fault Det)

category_wrong : AcceptsClauses [] (splitting Det) → ⊥
category_wrong accepts = let wrong : Some not_det ≡ None = accepts.categories (body_of_type IntType ∷ []) (splitting_has Det) in cc

-- a module of nothing
bare_accepted : AcceptsClauses [] bare
bare_accepted = record { flat = refl; typed = tt; ordered = refl; categories = λ own are. refl }

bare_accepted-unrefused : (refusal : Refusal) → RefusesClauses [] bare refusal → ⊥
bare_accepted-unrefused refusal refuses = RefusesClauses-excludes [] bare (λ typed ordered. ([], tt)) refusal refuses bare_accepted

-- ---- modules of which one thing alone is wrong, as a category is in the one above: the form of a goal, a type, an order

abbrev outside : Module
outside = example (input Det) (outside_at 20 ∷ [])

outside_told : RefusesClauses [] outside (outside_profile (at 25))
outside_told = clauses_faulty (outside_profile (at 25)) refl

outside_wrong : AcceptsClauses [] outside → ⊥
outside_wrong accepts = let wrong : Some (outside_profile (at 25)) ≡ None = accepts.flat in cc

abbrev untyped : Module
untyped = example output (letter_at 20 ∷ [])

untyped_told : RefusesClauses [] untyped (type_mismatch (at 20))
untyped_told = clause_untyped [] (letter_at 20) [] refl refl tt (letter_untyped output (letter_at 20 ∷ []) 20)

untyped_wrong : AcceptsClauses [] untyped → ⊥
untyped_wrong accepts = letter_untyped output (letter_at 20 ∷ []) 20 accepts.typed.0

abbrev unbound : Module
unbound = example output (any_at 20 ∷ [])

unbound_told : RefusesClauses [] unbound (unbound_output (at 3))
unbound_told = clauses_unordered (unbound_output (at 3)) refl (any_typed output (any_at 20 ∷ []) 20, tt) refl

unbound_wrong : AcceptsClauses [] unbound → ⊥
unbound_wrong accepts = let wrong : Some (unbound_output (at 3)) ≡ None = accepts.ordered in cc

-- ---- modules of which several things are wrong: one alone is told

-- where one refusal is told, nothing is at another byte
pub at_one_byte : (known : Module) (told other : Refusal) → HasAllBodies [] known → RefusesClauses [] known told → RefusesClauses [] known other → told.place.byte ≡ other.place.byte
at_one_byte known told other has is refuses = ap (λ (refusal : Refusal). refusal.place.byte) (RefusesClauses-unique [] known has told other is refuses)

-- the first of two clauses that are not typed
abbrev pub two_wrong : Module
two_wrong = example [] (one_at 10 ∷ letter_at 20 ∷ letter_at 30 ∷ [])

pub two_wrong-bodies : HasAllBodies [] two_wrong
two_wrong-bodies typed ordered = absurd (letter_untyped [] two_wrong.clauses 20 typed.1.0)

pub first_told : RefusesClauses [] two_wrong (type_mismatch (at 20))
first_told = clause_untyped (one_at 10 ∷ []) (letter_at 20) (letter_at 30 ∷ []) refl refl (one_typed [] two_wrong.clauses 10, tt) (letter_untyped [] two_wrong.clauses 20)

first_told-second : RefusesClauses [] two_wrong (type_mismatch (at 30)) → ⊥
first_told-second refuses = let wrong : ◌≡◌ {A = ℕ} 20 30 = at_one_byte two_wrong (type_mismatch (at 20)) (type_mismatch (at 30)) two_wrong-bodies first_told refuses in cc

first_told-typed : RefusesClauses [] two_wrong (type_mismatch (at 10)) → ⊥
first_told-typed refuses = let wrong : ◌≡◌ {A = ℕ} 20 10 = at_one_byte two_wrong (type_mismatch (at 20)) (type_mismatch (at 10)) two_wrong-bodies first_told refuses in cc

-- an unknown name comes before a type, also one of a clause before it
abbrev name_last : Module
name_last = example [] (letter_at 10 ∷ calling_at 20 ∷ [])

name_told : RefusesClauses [] name_last (unknown_name name_last (at 25))
name_told = clauses_faulty (unknown_name name_last (at 25)) refl

name_told-type : RefusesClauses [] name_last (type_mismatch (at 10)) → ⊥
name_told-type refuses =
    let has : HasAllBodies [] name_last = λ typed ordered. absurd (letter_untyped [] name_last.clauses 10 typed.0) in
    let wrong : ◌≡◌ {A = ℕ} 25 10 = at_one_byte name_last (unknown_name name_last (at 25)) (type_mismatch (at 10)) has name_told refuses in
    cc

-- a type comes before an order: `p(X). p("a").` in the mode `(out)`
abbrev type_last : Module
type_last = example output (any_at 10 ∷ letter_at 20 ∷ [])

type_last-unordered : order_fault type_last.preds (bodies [] type_last) ≡ Some (unbound_output (at 10))
type_last-unordered = refl

type_told : RefusesClauses [] type_last (type_mismatch (at 20))
type_told =
    clause_untyped (any_at 10 ∷ []) (letter_at 20) [] refl refl (any_typed output type_last.clauses 10, tt)
    (letter_untyped output type_last.clauses 20)

type_told-order : RefusesClauses [] type_last (unbound_output (at 10)) → ⊥
type_told-order refuses =
    let has : HasAllBodies [] type_last = λ typed ordered. absurd (letter_untyped output type_last.clauses 20 typed.1.0) in
    let wrong : ◌≡◌ {A = ℕ} 20 10 = at_one_byte type_last (type_mismatch (at 20)) (unbound_output (at 10)) has type_told refuses in
    cc

-- an order comes before a category: `p(X).`, which does not fail, in the modes `(in) is failure` and `(out) is det`
abbrev failure_or_det : List ModeDecl
failure_or_det = mode_at 3 Input Failure ∷ mode_at 5 Output Det ∷ []

abbrev order_last : Module
order_last = example failure_or_det (any_at 10 ∷ [])

order_told : RefusesClauses [] order_last (unbound_output (at 5))
order_told = clauses_unordered (unbound_output (at 5)) refl (any_typed failure_or_det (any_at 10 ∷ []) 10, tt) refl

abbrev not_failure : Refusal
not_failure = record { rule = WrongCategory; place = place_of (at 3); detail = Categories Failure Det }

order_told-category : RefusesClauses [] order_last not_failure → ⊥
order_told-category refuses =
    let has : HasAllBodies [] order_last = λ typed ordered. absurd (let wrong : Some (unbound_output (at 5)) ≡ None = ordered in cc) in
    let wrong : ◌≡◌ {A = ℕ} 5 3 = at_one_byte order_last (unbound_output (at 5)) not_failure has order_told refuses in
    cc

-- ---- goals, over the variables X, `_Y` and Z, whose names are 0, 1 and 2

abbrev pub texts : List (List ℕ)
texts = codes "X" ∷ codes "_Y" ∷ codes "Z" ∷ []

-- `V = 1` and `V = "a"`

abbrev is_one : ℕ → ℕ → Term
is_one name first = join equal_name (Variable name (at first)) (one (first + 2)) first

abbrev is_letter : ℕ → ℕ → Term
is_letter name first = join equal_name (Variable name (at first)) (letter (first + 2)) first

-- `_Y = 1, Z = 1, X = 1`, which stands one byte before its first conjunct
abbrev pub three : Term
three = join comma_name (is_one 1 10) (join comma_name (is_one 2 13) (is_one 0 16) 12) 9

-- the answer variables in the order of the text, not of their names
three-names : query_names texts three ≡ 2 ∷ 0 ∷ []
three-names = refl

-- `_Y` is none, but has a number
three-answers : query_answers texts bare three ≡ 1 ∷ 2 ∷ []
three-answers = refl

three-all_names : query_names texts three ≡ 1 ∷ 2 ∷ 0 ∷ [] → ⊥
three-all_names same = cc

three-own_numbers : query_answers texts bare three ≡ 0 ∷ 1 ∷ [] → ⊥
three-own_numbers same = cc

-- a goal without variables has neither
true-names : query_names texts (word true_name 10) ≡ []
true-names = refl

true-answers : query_answers texts bare (word true_name 10) ≡ []
true-answers = refl

true_accepted : AcceptsGoal texts bare (word true_name 10)
true_accepted = record {
  flat = refl;
  typed = ((λ variable. IntType), record { head = tt; parts = (tt, tt) });
  ordered = refl;
  categories = λ body is. ap (λ (tree : OrderedNode). query_category_fault [] [] (record { types = body.types; tree = tree })) (is.tree.2 ∙ ap (tree_from (modes_of []) 0) (sym is.tree.1));
}

three_typed : IsTypedQuery texts bare three
three_typed = ((λ variable. IntType), record { head = tt; parts = (refl, (refl, (refl, (tt, tt)))) })

-- the body, and the same with its categories

abbrev builds : ℕ → List ℕ → Option Category → ℕ → OrderedNode
builds variable outputs category first = node (Basic (Build variable (IntegerSymbol (pos 1)) [])) outputs category (at first)

abbrev three_tree : Option Category → OrderedNode
three_tree category = node (OrderedConjunction Sequential (ordered_nodes (builds 0 [] category 10 ∷ builds 1 (1 ∷ []) category 13 ∷ builds 2 (2 ∷ []) category 16 ∷ []))) (1 ∷ 2 ∷ []) category (at 9)

abbrev three_body : TypeExpr → Body
three_body type = record { types = λ variable. type; tree = three_tree None }

three_has : HasBody texts bare three (three_body IntType)
three_has = record { tree = (_, refl, refl); typed = (refl, (refl, (refl, tt))) }

three_has-text : HasBody texts bare three (three_body TextType) → ⊥
three_has-text is = let wrong : TextType ≡ IntType = is.typed.0 in cc

three_finished : (body : Body) → HasBody texts bare three body → finished [] [] nothing body ≡ three_tree (Some Det)
three_finished body is =
    ap (λ (tree : OrderedNode). finished [] [] nothing (record { types = body.types; tree = tree })) (is.tree.2 ∙ ap (tree_from (modes_of []) 3) (sym is.tree.1))

three_accepted : AcceptsGoal texts bare three
three_accepted = record {
  flat = refl;
  typed = three_typed;
  ordered = refl;
  categories = λ body is. ap (λ (tree : OrderedNode). first_of_faults (parallel_faults tree)) (three_finished body is);
}

three_graded : IsGradedGoal texts bare three (three_tree (Some Det) ∷ [])
three_graded body is = ap (λ (tree : OrderedNode). tree ∷ []) (sym (three_finished body is))

three_graded-bare : IsGradedGoal texts bare three (three_tree None ∷ []) → ⊥
three_graded-bare trees = let wrong : three_tree None ∷ [] ≡ three_tree (Some Det) ∷ [] = trees (three_body IntType) three_has in cc

three_graded-none : IsGradedGoal texts bare three [] → ⊥
three_graded-none trees = let wrong : ◌≡◌ {A = List OrderedNode} [] (three_tree (Some Det) ∷ []) = trees (three_body IntType) three_has in cc

-- `( X = 1, X = 1 ; X = 1, X = 1 )`: each disjunct begins with a split of X, but there is no switch, since nothing is bound before the goal

abbrev repeated : Term
repeated = join semicolon_name (join comma_name (is_one 0 10) (is_one 0 13) 10) (join comma_name (is_one 0 16) (is_one 0 19) 16) 9

abbrev repeats : Option Category → ℕ → ℕ → OrderedNode
repeats category first second =
    node (OrderedConjunction Sequential (ordered_nodes (builds 0 (0 ∷ []) category first ∷ node (Basic (Split 0 (IntegerSymbol (pos 1)) [])) [] category (at second) ∷ []))) (0 ∷ []) category (at first)

abbrev repeated_tree : Option Category → Option Category → OrderedNode
repeated_tree category whole = node (OrderedDisjunction (ordered_nodes (repeats category 10 13 ∷ repeats category 16 19 ∷ []))) (0 ∷ []) whole (at 9)

repeated_graded : IsGradedGoal texts bare repeated (repeated_tree (Some Det) (Some Multi) ∷ [])
repeated_graded body is =
    sym (ap (λ (tree : OrderedNode). finished [] [] nothing (record { types = body.types; tree = tree }) ∷ []) (is.tree.2 ∙ ap (tree_from (modes_of []) 1) (sym is.tree.1)))

repeated_has : HasBody texts bare repeated (record { types = λ variable. IntType; tree = repeated_tree None None })
repeated_has = record { tree = (_, refl, refl); typed = (refl, (refl, (refl, (refl, tt)))) }

-- `X = 1`: an answer variable is an output
one_order : query_order texts bare (is_one 0 10) ≡ Ready (put (Builds 0 (IntegerSymbol (pos 1)) []) (0 ∷ []) (at 10))
one_order = refl

-- `_Y = 1` has no output
other_order : query_order texts bare (is_one 1 10) ≡ Ready (put (Builds 0 (IntegerSymbol (pos 1)) []) [] (at 10))
other_order = refl

-- `X = 1 ; true`: an answer variable is bound in each disjunct
either_order : query_order texts bare (join semicolon_name (is_one 0 10) (word true_name 18) 9) ≡ Stuck (unbound_output (at 9))
either_order = refl

-- `_Y = 1 ; true`: another is not
other_either : fault_in (query_order texts bare (join semicolon_name (is_one 1 10) (word true_name 18) 9)) ≡ None
other_either = refl

-- ---- goals of which one thing alone is wrong

-- `X`
outside_goal_told : RefusesGoal texts bare (Variable 0 (at 4)) (outside_profile (at 4))
outside_goal_told = goal_faulty (outside_profile (at 4)) refl

outside_goal_wrong : AcceptsGoal texts bare (Variable 0 (at 4)) → ⊥
outside_goal_wrong accepts = let wrong : Some (outside_profile (at 4)) ≡ None = accepts.flat in cc

-- `q`
unknown_goal_told : RefusesGoal texts bare (word q_name 4) (unknown_name bare (at 4))
unknown_goal_told = goal_faulty (unknown_name bare (at 4)) refl

-- `X = 1, X = "a"`: the whole goal is told
abbrev clash : Term
clash = join comma_name (is_one 0 10) (is_letter 0 13) 9

clash_untyped : IsTypedQuery texts bare clash → ⊥
clash_untyped typing =
    let types : ℕ → TypeExpr = typing.0 in
    let int : types 4 ≡ IntType = typing.1.parts.0 in
    let text : types 4 ≡ TextType = typing.1.parts.1.0 in
    cc

clash_told : RefusesGoal texts bare clash (type_mismatch (at 9))
clash_told = goal_untyped refl clash_untyped

clash_wrong : AcceptsGoal texts bare clash → ⊥
clash_wrong accepts = clash_untyped accepts.typed

-- `p(X)`, whose argument is an input
abbrev inputs : Module
inputs = example (input Det) []

abbrev asks : ℕ → Term
asks first = over p_name (Variable 0 (at (first + 2))) first

asks_told : RefusesGoal texts inputs (asks 4) (never_ready (at 4))
asks_told = goal_unordered (never_ready (at 4)) refl ((λ variable. IntType), record { head = tt; parts = (((λ name. IntType), (refl, tt)), tt) }) refl

asks_wrong : AcceptsGoal texts inputs (asks 4) → ⊥
asks_wrong accepts = let wrong : Some (never_ready (at 4)) ≡ None = accepts.ordered in cc

-- `true & fail`
abbrev beside : Term
beside = join ampersand_name (word true_name 10) (word fail_name 17) 9

abbrev fails_beside : Refusal
fails_beside = record { rule = ParallelCategory; place = place_of (at 17); detail = Conjunct 2 Failure }

abbrev beside_body : Body
beside_body = record {
  types = λ variable. IntType;
  tree = node (OrderedConjunction (Parallel None) (ordered_nodes (node (Basic TrueGoal) [] None (at 10) ∷ node (Basic FailGoal) [] None (at 17) ∷ []))) [] None (at 9);
}

beside_has : HasBody texts bare beside beside_body
beside_has = record { tree = (_, refl, refl); typed = (tt, (tt, tt)) }

beside_fault : (body : Body) → HasBody texts bare beside body → query_category_fault [] [] body ≡ Some fails_beside
beside_fault body is =
    ap (λ (tree : OrderedNode). query_category_fault [] [] (record { types = body.types; tree = tree })) (is.tree.2 ∙ ap (tree_from (modes_of []) 0) (sym is.tree.1))

beside_told : RefusesGoal texts bare beside fails_beside
beside_told = goal_categories fails_beside refl ((λ variable. IntType), record { head = tt; parts = (tt, (tt, (tt, tt))) }) refl beside_fault

beside_wrong : AcceptsGoal texts bare beside → ⊥
beside_wrong accepts = let wrong : Some fails_beside ≡ None = accepts.categories beside_body beside_has in cc

-- ---- goals of which several things are wrong: one alone is told

goal_at_one_byte : (known : Module) (goal : Term) (told other : Refusal) → HasOneBody texts known goal → RefusesGoal texts known goal told → RefusesGoal texts known goal other → told.place.byte ≡ other.place.byte
goal_at_one_byte known goal told other has is refuses = ap (λ (refusal : Refusal). refusal.place.byte) (RefusesGoal-unique texts known goal has told other is refuses)

-- `X = c`, where there is no c: a name comes before a type
abbrev no_c : Term
no_c = join equal_name (Variable 0 (at 10)) (word c_name 14) 10

no_c_told : RefusesGoal texts bare no_c (unknown_name bare (at 14))
no_c_told = goal_faulty (unknown_name bare (at 14)) refl

no_c_told-type : RefusesGoal texts bare no_c (type_mismatch (at 10)) → ⊥
no_c_told-type refuses =
    let has : HasOneBody texts bare no_c = λ typed ordered. absurd typed.1.parts.0 in
    let wrong : ◌≡◌ {A = ℕ} 14 10 = goal_at_one_byte bare no_c (unknown_name bare (at 14)) (type_mismatch (at 10)) has no_c_told refuses in
    cc

-- `p(X), p("a")`: a type comes before an order
abbrev both : Term
both = join comma_name (asks 10) (over p_name (letter 18) 16) 9

both-unordered : query_order texts inputs both ≡ Stuck (never_ready (at 10))
both-unordered = refl

both_untyped : IsTypedQuery texts inputs both → ⊥
both_untyped typing =
    let types : ℕ → TypeExpr = typing.0 in
    let text : types 8 ≡ TextType = typing.1.parts.1.0 in
    let argument : types 8 ≡ IntType = typing.1.parts.1.1.0.1.0 in
    cc

both_told : RefusesGoal texts inputs both (type_mismatch (at 9))
both_told = goal_untyped refl both_untyped

both_told-order : RefusesGoal texts inputs both (never_ready (at 10)) → ⊥
both_told-order refuses =
    let wrong : ◌≡◌ {A = ℕ} 9 10 = goal_at_one_byte inputs both (type_mismatch (at 9)) (never_ready (at 10)) (λ typed ordered. absurd (both_untyped typed)) both_told refuses in cc

-- `fail & p(X)`: an order comes before a category
abbrev late : Term
late = join ampersand_name (word fail_name 10) (asks 17) 9

late_told : RefusesGoal texts inputs late (never_ready (at 17))
late_told = goal_unordered (never_ready (at 17)) refl ((λ variable. IntType), record { head = tt; parts = (tt, (((λ name. IntType), (refl, tt)), (tt, tt))) }) refl

abbrev late_fails : Refusal
late_fails = record { rule = ParallelCategory; place = place_of (at 10); detail = Conjunct 1 Failure }

late_told-category : RefusesGoal texts inputs late late_fails → ⊥
late_told-category refuses =
    let has : HasOneBody texts inputs late = λ typed ordered. absurd (let wrong : Some (never_ready (at 17)) ≡ None = ordered in cc) in
    let wrong : ◌≡◌ {A = ℕ} 17 10 = goal_at_one_byte inputs late (never_ready (at 17)) late_fails has late_told refuses in
    cc

-- A body's parts are completed one after the other, until the body is complete.
use Rattle.std.specs.Prelude.{◌≡◌, ◌≤◌, ◌<◌, ◌+◌, ◌-◌, ℕ, zero, suc, List, [], ◌∷◌, ◌++◌, length, drop, map, None, Some, slice_get}
use Rattle.std.proofs.Common.{◌∙◌, ap, sym, subst, arith, add-one}
use Rattle.std.proofs.lemmas.List.{append_assoc, append-nil}
use Rattle.merc_base.specs.declared.place.Span.{Span}
use Rattle.merc_tree.specs.declared.declarations.ModeDecl.{ModeDecl}
use Rattle.merc_goal_tree.specs.declared.entries.Root.{Root}
use Rattle.merc_goal_tree.specs.Nodes.{Node, no_nodes, nodes_of}
use Rattle.merc_goal_tree.specs.Parts.{parts_of}
use Rattle.merc_goal_tree.specs.Roots.{arity_of, joined}
use Rattle.merc_goal_tree.specs.Variables.{variables, count}
use Rattle.merc_order.specs.Procedures.{total_of}
use Rattle.merc_goal_facts.specs.declared.knowing.Known.{Known}
use Rattle.merc_goal_facts.specs.Facts.{AreKnown as AllAreKnown, subgoals, all_subgoals}
use Rattle.merc_goal_facts.specs.Complete.{AreKnown}
use Rattle.merc_goal_facts.specs.Knowing.{variables_of_all, AreComplete, Completes}
use Rattle.merc_goal_facts.specs.Occurring.{root_variables, parts_variables}
use Rattle.merc_goal_facts.proofs.CompleteGoals.{counted}
use Rattle.merc_goal_facts.proofs.Joins.{rebuilt, rebuilds, AreFound, joined_variables}
use Rattle.merc_goal_facts.proofs.Occurring.{parts_variables-parts_of}
use Rattle.merc_goal_facts.proofs.Outside.{count-append}

-- the part at an index

none_past : {X : Type 0} (items : List X) (index : ℕ) → None ≡ slice_get items index → index < length items → ⊥
none_past [] index is within = absurd (omega (arith, within))
none_past (first ∷ rest) zero is within = cc
none_past (first ∷ rest) (suc index) is within = none_past rest index is (omega (arith, within))

-- there is a part at each index below their number
pub is_there : {X : Type 0} (items : List X) (index many : ℕ) → None ≡ slice_get items index → index < many → many ≡ length items → ⊥
is_there items index many is within counted = none_past items index is (omega (arith, within, counted))

left_from : {X : Type 0} (items : List X) (index : ℕ) (item : X) → Some item ≡ slice_get items index → drop index items ≡ item ∷ drop (suc index) items
left_from [] index item is = absurd cc
left_from (first ∷ rest) zero item is = cc
left_from (first ∷ rest) (suc index) item is = left_from rest index item is

-- it is the first of those from there on
pub first_left : {X : Type 0} (items : List X) (index : ℕ) (item : X) → Some item ≡ slice_get items index → drop index items ≡ item ∷ drop (index + 1) items
first_left items index item is = left_from items index item is ∙ ap (λ n. item ∷ drop n items) (sym (add-one index))

-- each part finds what it joins

pub next_found : (left : List (Root × Span)) (part : Root × Span) (rest : List (Root × Span)) (many : ℕ) → left ≡ part ∷ rest → AreFound left many → arity_of part.0 ≤ many
next_found left part rest many is found = (subst (λ l. AreFound l many) is found).0

pub rest_found : (left : List (Root × Span)) (part : Root × Span) (rest : List (Root × Span)) (many now : ℕ) → left ≡ part ∷ rest → now ≡ many - arity_of part.0 + 1 → AreFound left many → AreFound rest now
rest_found left part rest many now is now_is found = subst (AreFound rest) (sym now_is) (subst (λ l. AreFound l many) is found).1

-- Goals are complete that become the body where the parts that are left join them.
pub record IsOnTheWay (modes : ℕ → List ModeDecl) (heads : List ℕ) (goal : Node) (left : List (Root × Span)) (known : Known) : Type 0 where
  pub goals : List Node
  pub becomes : rebuilt left goals ≡ goal ∷ []
  pub rest : variables_of_all goals ++ parts_variables left ≡ variables goal
  pub are : AreComplete (total_of heads goal) modes heads goals known

total_is : (heads all : List ℕ) (goal : Node) (variable : ℕ) → all ≡ heads ++ variables goal → total_of heads goal variable ≡ count variable all
total_is heads all goal variable is = let sum = count-append variable heads (variables goal) in let whole = ap (count variable) is in omega arith

module _ (modes : ℕ → List ModeDecl) (heads : List ℕ) (goal : Node) where
  pub at_first : (known : Known) → known.facts.items ≡ [] → known.complete.items ≡ [] → known.end ≡ length heads → IsOnTheWay modes heads goal (parts_of goal) known
  at_first known facts complete end = record {
    goals = [];
    becomes = rebuilds goal [];
    rest = parts_variables-parts_of goal;
    are = record {
      facts_are = subst (AllAreKnown (total_of heads goal) modes []) (sym facts) tt;
      complete_are = subst (λ l. AreKnown (total_of heads goal) modes known.facts.items l no_nodes) (sym complete) tt;
      starts_are = ap (λ l. map (λ c. c.start) l) complete;
      end_is = end ∙ omega arith;
    };
  }

  whole_is : (all : List ℕ) (goals : List Node) (part : Root × Span) (left rest : List (Root × Span)) → all ≡ heads ++ variables goal → left ≡ part ∷ rest
      → variables_of_all goals ++ parts_variables left ≡ variables goal → all ≡ heads ++ (variables_of_all goals ++ (root_variables part.0 ++ parts_variables rest))
  whole_is all goals part left rest is next same = is ∙ ap (λ l. heads ++ l) (sym same) ∙ ap (λ l. heads ++ (variables_of_all goals ++ parts_variables l)) next

  rest_is : (goals : List Node) (root : Root) (span : Span) (left rest : List (Root × Span)) → left ≡ (root, span) ∷ rest → arity_of root ≤ length goals
      → variables_of_all goals ++ parts_variables left ≡ variables goal → variables_of_all (joined root span goals) ++ parts_variables rest ≡ variables goal
  rest_is goals root span left rest next many same =
      ap (λ l. l ++ parts_variables rest) (joined_variables root span goals many)
      ∙ append_assoc (variables_of_all goals) (root_variables root) (parts_variables rest)
      ∙ ap (λ l. variables_of_all goals ++ parts_variables l) (sym next) ∙ same

  pub one_further : (all : List ℕ) (root : Root) (span : Span) (left rest : List (Root × Span)) (old new : Known) → all ≡ heads ++ variables goal → left ≡ (root, span) ∷ rest
      → arity_of root ≤ length old.complete.items → Completes modes all root old new → IsOnTheWay modes heads goal left old → IsOnTheWay modes heads goal rest new
  one_further all root span left rest old new is next many completes way =
      let goals = way.goals in
      let enough : arity_of root ≤ length goals =
      subst (λ n. arity_of root ≤ n) (counted (total_of heads goal) modes old.facts.items old.complete.items goals way.are.complete_are) many in
      record {
        goals = joined root span goals;
        becomes = ap (λ l. rebuilt l goals) (sym next) ∙ way.becomes;
        rest = rest_is goals root span left rest next enough way.rest;
        are = completes (total_of heads goal) heads (parts_variables rest) goals span (λ variable. total_is heads all goal variable is)
            (whole_is all goals (root, span) left rest is next way.rest) way.are;
      }

  pub at_last : (left : List (Root × Span)) (known : Known) → left ≡ [] → IsOnTheWay modes heads goal left known → AllAreKnown (total_of heads goal) modes (subgoals goal) known.facts.items
  at_last left known none way =
      let whole : way.goals ≡ goal ∷ [] = ap (λ l. rebuilt l way.goals) (sym none) ∙ way.becomes in
      subst (λ l. AllAreKnown (total_of heads goal) modes l known.facts.items)
      (ap (λ l. all_subgoals (nodes_of l)) whole ∙ append-nil (subgoals goal)) way.are.facts_are

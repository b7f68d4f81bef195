-- The symbols in goals still fit the types of their variables once switches are found.
use Rattle.std.proofs.Common.{◌≡◌, ℕ, zero, suc, Bool, true, false, not, ◌==◌, ◌&&◌, nat_le, List, [], ◌∷◌, ◌++◌, length, filter, Option, Some, None, IfSome, if◌then◌else◌, refl, subst, eqb-true}
use Rattle.std.specs.List.{list_all, AllByRecursion}
use Rattle.merc_base.specs.declared.place.Span.{Span}
use Rattle.merc_tree.specs.Types.{TypeExpr}
use Rattle.merc_tree.specs.declared.declarations.TypeDef.{TypeDef}
use Rattle.merc_goal_tree.specs.declared.goal.Symbol.{Symbol}
use Rattle.merc_graded_tree.specs.declared.basic.BasicGoal.{BasicGoal}
use Rattle.merc_graded_tree.specs.declared.basic.BasicGoal.TheVariants.{True, Fail, Assign, Test, Build, Split, Arithmetic, Compare, Raise, Call, Wait, Signal}
use Rattle.merc_graded_tree.specs.declared.entries.Running.TheVariants.{Sequential, Parallel}
use Rattle.merc_graded_tree.specs.Nodes.{Node, node, Goal, Basic, Conjunction, Disjunction, Switch, Conditional, Negation, Quantified, Nodes, no_nodes, more_nodes, nodes_of, list_of}
use Rattle.merc_order.specs.Bound.{Bound, among}
use Rattle.merc_grading.specs.Known.{same_symbol}
use Rattle.merc_grading.specs.Fitting.{FitsSymbol, FitsBasic, HasArms, Fits, FitsGoal, FitsAll, FitsArms}
use Rattle.merc_grading.specs.Switches.{Beginning, beginning, goal_beginning, all_beginning, basic_beginning, followed, symbol_in, symbol_at, is_there, split_variables, Group, of_symbol, without_symbol, with_disjunct, grouped, lesser, least, or_else, can_switch, is_complete, candidates, choice, arm_body, arms_of_groups, switched, regrouped, bound_behind, find, find_goal, find_all, find_each}
use Rattle.merc_order_laws.proofs.Facts.{and_left, and_right}
use Rattle.merc_order_laws.proofs.Written.{all_joined}
use Rattle.merc_order_laws.specs.Fitting.{FoundFits}

-- What holds of each number that passes a test holds of those that a filter keeps, of the least of them, and of the first of two.
module _ (P : ℕ → Type 0) where
  passing : (test : ℕ → Bool) (all : List ℕ) → ((one : ℕ) → test one ≡ true → P one) → AllByRecursion P (filter test all)
  passing test [] holds = tt
  passing test (first ∷ rest) holds = by (test first) refl (passing test rest holds)
    where
      by : (b : Bool) → test first ≡ b → AllByRecursion P (filter test rest) → AllByRecursion P (if b then first ∷ filter test rest else filter test rest)
      by true is others = (holds first is, others)
      by false is others = others

  kept : (test : ℕ → Bool) (all : List ℕ) → AllByRecursion P all → AllByRecursion P (filter test all)
  kept test [] holds = tt
  kept test (first ∷ rest) holds = by (test first) (kept test rest holds.1)
    where
      by : (b : Bool) → AllByRecursion P (filter test rest) → AllByRecursion P (if b then first ∷ filter test rest else filter test rest)
      by true others = (holds.0, others)
      by false others = others

  lesser_holds : (one : ℕ) (other : Option ℕ) → P one → IfSome other P → P (lesser one other)
  lesser_holds one None holds others = holds
  lesser_holds one (Some other) holds others = by (nat_le one other)
    where
      by : (b : Bool) → P (if b then one else other)
      by true = holds
      by false = others

  least_holds : (all : List ℕ) → AllByRecursion P all → IfSome (least all) P
  least_holds [] holds = tt
  least_holds (first ∷ rest) holds = lesser_holds first (least rest) holds.0 (least_holds rest holds.1)

  either_holds : (one other : Option ℕ) → IfSome one P → IfSome other P → IfSome (or_else one other) P
  either_holds None other first second = second
  either_holds (Some one) other first second = first

-- Given are the declared types and the type of each variable.
module _ (declared : List TypeDef) (types : ℕ → TypeExpr) where
  abbrev AllFit : List Node → Type 0
  AllFit goals = AllByRecursion (Fits declared types) goals

  nodes_fit : (goals : List Node) → AllFit goals → FitsAll declared types (nodes_of goals)
  nodes_fit [] fit = tt
  nodes_fit (first ∷ rest) fit = (fit.0, nodes_fit rest fit.1)

  -- the splits in the beginning of a goal fit

  abbrev SplitsFit : List (ℕ × Symbol) → Type 0
  SplitsFit splits = AllByRecursion (λ (one : ℕ × Symbol). FitsSymbol declared types one.0 one.1) splits

  followed_fits : (first next : Beginning) → SplitsFit first.splits → SplitsFit next.splits → SplitsFit (followed first next).splits
  followed_fits first next fits others = by first.goes_on
    where
      by : (b : Bool) → SplitsFit (if b then record { splits = first.splits ++ next.splits; goes_on = next.goes_on } else first).splits
      by true = all_joined (λ (one : ℕ × Symbol). FitsSymbol declared types one.0 one.1) first.splits next.splits fits others
      by false = fits

  basic_begins : (goal : BasicGoal) → FitsBasic declared types goal → SplitsFit (basic_beginning goal).splits
  basic_begins True fits = tt
  basic_begins Fail fits = tt
  basic_begins (Assign to from) fits = tt
  basic_begins (Test one other) fits = tt
  basic_begins (Build whole symbol arguments) fits = tt
  basic_begins (Split whole symbol arguments) fits = (fits, tt)
  basic_begins (Arithmetic operation result left right) fits = tt
  basic_begins (Compare comparison left right) fits = tt
  basic_begins (Raise text) fits = tt
  basic_begins (Call procedure arguments) fits = tt
  basic_begins (Wait variable conjunct) fits = tt
  basic_begins (Signal variable conjunct) fits = tt

  mutual
    begins : (whole : Node) → Fits declared types whole → SplitsFit (beginning whole).splits
    begins (node goal outputs category span) fits = goal_begins goal fits

    goal_begins : (goal : Goal) → FitsGoal declared types goal → SplitsFit (goal_beginning goal).splits
    goal_begins (Basic goal) fits = basic_begins goal fits
    goal_begins (Conjunction Sequential goals) fits = all_begin goals fits
    goal_begins (Conjunction (Parallel site) goals) fits = tt
    goal_begins (Disjunction goals) fits = tt
    goal_begins (Switch variable arms) fits = tt
    goal_begins (Conditional condition then_part else_part) fits = tt
    goal_begins (Negation goal) fits = tt
    goal_begins (Quantified own goal) fits = tt

    all_begin : (goals : Nodes) → FitsAll declared types goals → SplitsFit (all_beginning goals).splits
    all_begin no_nodes fits = tt
    all_begin (more_nodes first rest) fits = followed_fits (beginning first) (all_beginning rest) (begins first fits.0) (all_begin rest fits.1)

  -- Groups whose symbols fit a variable, and whose disjuncts fit.
  module _ (variable : ℕ) where
    abbrev IfFits : Option Symbol → Type 0
    IfFits symbol = IfSome symbol (FitsSymbol declared types variable)

    symbol_fits : (splits : List (ℕ × Symbol)) → SplitsFit splits → IfFits (symbol_in splits variable)
    symbol_fits [] fit = tt
    symbol_fits (first ∷ rest) fit = by (first.0 == variable) refl (symbol_fits rest fit.1)
      where
        by : (b : Bool) → (first.0 == variable) ≡ b → IfFits (symbol_in rest variable) → IfFits (if b then Some first.1 else symbol_in rest variable)
        by true is others = subst (λ (v : ℕ). FitsSymbol declared types v first.1) (eqb-true first.0 variable is) fit.0
        by false is others = others

    abbrev GroupFits : Group → Type 0
    GroupFits group = FitsSymbol declared types variable group.0 × AllFit group.1

    abbrev GroupsFit : List Group → Type 0
    GroupsFit groups = AllByRecursion GroupFits groups

    of_symbol_fit : (symbol : Symbol) (groups : List Group) → GroupsFit groups → AllFit (of_symbol symbol groups)
    of_symbol_fit symbol [] fit = tt
    of_symbol_fit symbol (group ∷ groups) fit = by (same_symbol symbol group.0) (of_symbol_fit symbol groups fit.1)
      where
        by : (b : Bool) → AllFit (of_symbol symbol groups) → AllFit (if b then group.1 else of_symbol symbol groups)
        by true others = fit.0.1
        by false others = others

    without_fit : (symbol : Symbol) (groups : List Group) → GroupsFit groups → GroupsFit (without_symbol symbol groups)
    without_fit symbol [] fit = tt
    without_fit symbol (group ∷ groups) fit = by (not (same_symbol symbol group.0)) (without_fit symbol groups fit.1)
      where
        by : (b : Bool) → GroupsFit (without_symbol symbol groups) → GroupsFit (if b then group ∷ without_symbol symbol groups else without_symbol symbol groups)
        by true others = (fit.0, others)
        by false others = others

    with_fit : (symbol : Option Symbol) (first : Node) (groups : List Group) → IfFits symbol → Fits declared types first → GroupsFit groups → GroupsFit (with_disjunct symbol first groups)
    with_fit None first groups symbol_is one fit = fit
    with_fit (Some symbol) first groups symbol_is one fit = ((symbol_is, (one, of_symbol_fit symbol groups fit)), without_fit symbol groups fit)

    grouped_fit : (disjuncts : List Node) → AllFit disjuncts → GroupsFit (grouped variable disjuncts)
    grouped_fit [] fit = tt
    grouped_fit (first ∷ rest) fit =
        with_fit (symbol_at variable first) first (grouped variable rest) (symbol_fits (beginning first).splits (begins first fit.0)) fit.0 (grouped_fit rest fit.1)

    arms_fit : (body : List Node → Node) (groups : List Group) → ((disjuncts : List Node) → AllFit disjuncts → Fits declared types (body disjuncts)) → GroupsFit groups
        → FitsArms declared types variable (arms_of_groups declared types body groups)
    arms_fit body [] bodies fit = tt
    arms_fit body (group ∷ groups) bodies fit = (fit.0.0, bodies group.1 fit.0.1, arms_fit body groups bodies fit.1)

    -- each disjunct that begins with a symbol of the variable is in an arm
    group_there : (body : List Node → Node) (symbol : Option Symbol) (first : Node) (groups : List Group) → is_there symbol ≡ true
        → HasArms declared types (arms_of_groups declared types body (with_disjunct symbol first groups))
    group_there body None first groups is = absurd cc
    group_there body (Some symbol) first groups is = tt

    -- whether a variable is split in the beginning of this disjunct
    abbrev IsSplitIn : Node → ℕ → Type 0
    IsSplitIn first other = is_there (symbol_at other first) ≡ true

    split_in_first : (bound : Bound) (used : List ℕ) (first : Node) (rest : List Node) → AllByRecursion (IsSplitIn first) (candidates declared types bound used (first ∷ rest))
    split_in_first bound used first rest =
        passing (IsSplitIn first) (λ other. not (among used other) && can_switch declared types bound (first ∷ rest) other) (split_variables (first ∷ rest))
        (λ other is.
        and_left (is_there (symbol_at other first)) (list_all (λ disjunct. is_there (symbol_at other disjunct)) rest)
        (and_right (bound other) (list_all (λ disjunct. is_there (symbol_at other disjunct)) (first ∷ rest)) (and_right (not (among used other)) (can_switch declared types bound (first ∷ rest) other) is)))

    arms_there : (body : List Node → Node) (bound : Bound) (used : List ℕ) (disjuncts : List Node) → choice declared types bound used disjuncts ≡ Some variable
        → HasArms declared types (arms_of_groups declared types body (grouped variable disjuncts))
    arms_there body bound used [] chosen = absurd cc
    arms_there body bound used (first ∷ rest) chosen =
        let those = candidates declared types bound used (first ∷ rest) in
        let complete : ℕ → Bool = λ other. is_complete declared types (first ∷ rest) other in
        let split = split_in_first bound used first rest in
        group_there body (symbol_at variable first) first (grouped variable rest)
        (subst (λ (o : Option ℕ). IfSome o (IsSplitIn first)) chosen
        (either_holds (IsSplitIn first) (least (filter complete those)) (least those)
        (least_holds (IsSplitIn first) (filter complete those) (kept (IsSplitIn first) complete those split))
        (least_holds (IsSplitIn first) those split)))

  body_fits : (outputs : List ℕ) (span : Span) (again : List Node → Goal) → ((disjuncts : List Node) → AllFit disjuncts → FitsGoal declared types (again disjuncts)) → (disjuncts : List Node) → AllFit disjuncts
      → Fits declared types (arm_body declared types outputs span again disjuncts)
  body_fits outputs span again fits [] fit = fits [] fit
  body_fits outputs span again fits (only ∷ []) fit = fit.0
  body_fits outputs span again fits (first ∷ second ∷ rest) fit = fits (first ∷ second ∷ rest) fit

  -- a switch fits where the arms of several disjuncts do
  switch_fits : (outputs : List ℕ) (span : Span) (bound : Bound) (used : List ℕ) (again : ℕ → List Node → Goal) (disjuncts : List Node)
      → ((variable : ℕ) (several : List Node) → AllFit several → FitsGoal declared types (again variable several)) → AllFit disjuncts
      → (chosen : Option ℕ) → choice declared types bound used disjuncts ≡ chosen
      → FitsGoal declared types (switched declared types chosen (λ variable. Switch variable (arms_of_groups declared types (arm_body declared types outputs span (again variable)) (grouped variable disjuncts))) disjuncts)
  switch_fits outputs span bound used again disjuncts inner fit None is = nodes_fit disjuncts fit
  switch_fits outputs span bound used again disjuncts inner fit (Some variable) is =
      let body = arm_body declared types outputs span (again variable) in (
        arms_there variable body bound used disjuncts is,
        arms_fit variable body (grouped variable disjuncts) (body_fits outputs span (again variable) (inner variable)) (grouped_fit variable disjuncts fit),
      )

  regrouped_fits : (left : ℕ) (outputs : List ℕ) (span : Span) (bound : Bound) (used : List ℕ) (disjuncts : List Node) → AllFit disjuncts
      → FitsGoal declared types (regrouped declared types left outputs span bound used disjuncts)
  regrouped_fits zero outputs span bound used disjuncts fit = nodes_fit disjuncts fit
  regrouped_fits (suc left) outputs span bound used disjuncts fit =
      switch_fits outputs span bound used (λ variable several. regrouped declared types left outputs span bound (variable ∷ used) several) disjuncts
      (λ variable several several_fit. regrouped_fits left outputs span bound (variable ∷ used) several several_fit) fit (choice declared types bound used disjuncts) refl

  mutual
    found_fits_in : (bound : Bound) (tree : Node) → Fits declared types tree → Fits declared types (find declared types bound tree)
    found_fits_in bound (node goal outputs category span) fits = goal_fits bound outputs span goal fits

    goal_fits : (bound : Bound) (outputs : List ℕ) (span : Span) (goal : Goal) → FitsGoal declared types goal → FitsGoal declared types (find_goal declared types bound outputs span goal)
    goal_fits bound outputs span (Basic goal) fits = fits
    goal_fits bound outputs span (Conjunction running goals) fits = all_fit bound goals fits
    goal_fits bound outputs span (Disjunction goals) fits =
        regrouped_fits (length (split_variables (list_of (find_each declared types bound goals)))) outputs span bound [] (list_of (find_each declared types bound goals)) (each_fits bound goals fits)
    goal_fits bound outputs span (Switch variable arms) fits = fits
    goal_fits bound outputs span (Conditional condition then_part else_part) fits =
        (found_fits_in bound condition fits.0, found_fits_in (bound_behind declared types bound condition) then_part fits.1, found_fits_in bound else_part fits.2)
    goal_fits bound outputs span (Negation goal) fits = found_fits_in bound goal fits
    goal_fits bound outputs span (Quantified own goal) fits = found_fits_in bound goal fits

    all_fit : (bound : Bound) (goals : Nodes) → FitsAll declared types goals → FitsAll declared types (find_all declared types bound goals)
    all_fit bound no_nodes fits = tt
    all_fit bound (more_nodes first rest) fits = (found_fits_in bound first fits.0, all_fit (bound_behind declared types bound first) rest fits.1)

    each_fits : (bound : Bound) (goals : Nodes) → FitsAll declared types goals → AllFit (list_of (find_each declared types bound goals))
    each_fits bound no_nodes fits = tt
    each_fits bound (more_nodes first rest) fits = (found_fits_in bound first fits.0, each_fits bound rest fits.1)

pub found_fits : FoundFits
found_fits declared types bound tree fits = found_fits_in declared types bound tree fits

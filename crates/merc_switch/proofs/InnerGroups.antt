-- Disjuncts that all go to one arm of a switch are looked at again at once.
use Rattle.std.specs.Prelude.{◌≡◌, ◌≤◌, ◌<◌, ℕ, zero, suc, ◌-◌, ◌||◌, ◌==◌, not, List, [], ◌∷◌, ◌++◌, length, map, Option, Some, None, IfSome, if◌then◌else◌, true, false, refl}
use Rattle.std.specs.List.{AllByRecursion, filter, list_all}
use Rattle.std.proofs.Common.{◌∙◌, ap, sym, subst, arith}
use Rattle.std.proofs.lemmas.Bool.Decides.{nat_tests}
use mathlib.Core.Path.{fun_ext}
use Rattle.merc_tree.specs.Types.{TypeExpr}
use Rattle.merc_tree.specs.declared.declarations.TypeDef.{TypeDef}
use Rattle.merc_goal_tree.specs.declared.goal.Symbol.{Symbol}
use Rattle.merc_graded_tree.specs.declared.entries.Root.TheVariants.{Switch as SwitchRoot}
use Rattle.merc_graded_tree.specs.Nodes.{Node, node, nodes_of, outputs_of, span_of}
use Rattle.merc_graded_tree.specs.Variables.{in_nodes}
use Rattle.merc_order.specs.Bound.{among}
use Rattle.merc_grading.specs.Switches.{Group as Arm, symbol_at, is_there, with_disjunct, grouped}
use Rattle.merc_switch.specs.declared.tasks.Group.{Group}
use Rattle.merc_switch.specs.declared.tasks.Task.{Task}
use Rattle.merc_switch.specs.declared.tasks.Task.TheVariants.{Judge, Close}
use Rattle.merc_switch_choice.specs.declared.choosing.Candidates.{Candidates}
use Rattle.merc_switch_choice.specs.Variables.{behind, all_behind}
use Rattle.merc_switch_choice.specs.Choosing.{chosen, AreLeft, Takes}
use Rattle.merc_switch.specs.Selections.{Selection}
use Rattle.merc_switch.specs.Tasks.{HaveEnough, total, found_in, done, FitsTask, Performs}
use Rattle.merc_switch.specs.Plans.{arm_plan, switch_plan, group_plan, choice_left, inner_group, outer_label, AreNarrowed, HaveSymbol}
use Rattle.merc_switch_choice.proofs.Members.{among-behind, among-all_behind}
use Rattle.merc_switch_choice.proofs.ChoiceLaws.{chosen_split}
use Rattle.merc_switch_choice.proofs.SameSymbols.{symbol_self}
use Rattle.merc_switch.proofs.JudgedGroups.{judges, regrouped_used, several_arm, or_turned}
use Rattle.merc_switch_choice.proofs.LeftLaws.{left_same}

-- tasks that lead to the same, of which no more is left to do
pub record Reaches (declared : List TypeDef) (tasks tasks' : List Task) (goals : List Node) (bound : List ℕ) : Type 0 where
  pub same : (types : ℕ → TypeExpr) → AllByRecursion (FitsTask declared types) tasks → done declared types tasks goals bound ≡ done declared types tasks' goals bound
  pub fits : (types : ℕ → TypeExpr) → AllByRecursion (FitsTask declared types) tasks → AllByRecursion (FitsTask declared types) tasks'
  pub enough : HaveEnough (length goals) tasks → HaveEnough (length goals) tasks'
  pub smaller : total tasks' ≤ total tasks

pub reaches_self : (declared : List TypeDef) (tasks : List Task) (goals : List Node) (bound : List ℕ) → Reaches declared tasks tasks goals bound
reaches_self declared tasks goals bound = record { same = λ types fits. refl; fits = λ types fits. fits; enough = λ h. h; smaller = omega arith }

pub reaches_end : (declared : List TypeDef) (tasks now after : List Task) (goals : List Node) (bound : List ℕ) → Reaches declared tasks now goals bound → Performs declared now goals bound after goals bound
    → Performs declared tasks goals bound after goals bound
reaches_end declared tasks now after goals bound reaches performs = record {
  same = λ types fits. reaches.same types fits ∙ performs.same types (reaches.fits types fits);
  fits = λ types fits. performs.fits types (reaches.fits types fits);
  enough = λ h. performs.enough (reaches.enough h);
  smaller = let one = reaches.smaller in let two = performs.smaller in omega (arith, one, two);
}

pub reaches_on : (declared : List TypeDef) (tasks now after : List Task) (goals : List Node) (bound : List ℕ) → Reaches declared tasks now goals bound → Performs declared now goals bound after goals bound
    → Reaches declared tasks after goals bound
reaches_on declared tasks now after goals bound reaches performs =
    let whole = reaches_end declared tasks now after goals bound reaches performs in
    record { same = whole.same; fits = whole.fits; enough = whole.enough; smaller = let less = whole.smaller in omega (arith, less) }

-- disjuncts of one symbol are one group

grouped_one : (v : ℕ) (s : Symbol) (first : Node) (rest : List Node) → AllByRecursion (λ disjunct. symbol_at v disjunct ≡ Some s) (first ∷ rest) → grouped v (first ∷ rest) ≡ (s, first ∷ rest) ∷ []
grouped_one v s first [] are = ap (λ o. with_disjunct o first []) are.0
grouped_one v s first (second ∷ rest) are =
    let none : List Arm = [] in
    ap (λ o. with_disjunct o first (grouped v (second ∷ rest))) are.0
    ∙ ap (λ l. with_disjunct (Some s) first l) (grouped_one v s second rest are.1)
    ∙ ap (λ b. (s, first ∷ (if b then second ∷ rest else [])) ∷ (if not b then (s, second ∷ rest) ∷ none else none)) (symbol_self s)

grouped_several : (v : ℕ) (s : Symbol) (disjuncts : List Node) → HaveSymbol v s disjuncts → grouped v disjuncts ≡ (s, disjuncts) ∷ []
grouped_several v s [] have = absurd (let some = have.several in omega (arith, some))
grouped_several v s (first ∷ rest) have = grouped_one v s first rest have.symbols_are

several_not_one : (disjuncts : List Node) → 2 ≤ length disjuncts → (length disjuncts == 1) ≡ false
several_not_one [] several = absurd (omega (arith, several))
several_not_one (only ∷ []) several = absurd (omega (arith, several))
several_not_one (first ∷ second ∷ rest) several = grind (arith, nat_tests)

still_left : (left variable : ℕ) → 0 < left → choice_left left (Some variable) ≡ Some variable
still_left zero variable some = absurd (omega (arith, some))
still_left (suc left) variable some = refl

-- the inner group with these variables used
abbrev inner_with : ℕ → Group → List ℕ → Group
inner_with variable group used = record {
  selected = group.selected;
  used = used;
  left = group.left - 1;
  outputs = filter (λ output. in_nodes (nodes_of group.selected.disjuncts) output) (outputs_of group.selected.whole);
  category = None;
}

used_same : (used : List ℕ) (v : ℕ) → among (behind (all_behind [] used) v) ≡ among (behind used v)
used_same used v = fun_ext (λ w. among-behind (all_behind [] used) v w ∙ ap (λ b. b || (w == v)) (among-all_behind [] used w) ∙ sym (among-behind used v w))

used_first : (used : List ℕ) (v : ℕ) → among (v ∷ used) ≡ among (behind used v)
used_first used v = fun_ext (λ w. or_turned (w == v) (among used w) ∙ sym (among-behind used v w))

plan_one : (variable : ℕ) (symbol : Symbol) (group : Group) (rest : List Task) → HaveSymbol variable symbol group.selected.disjuncts
    → Judge (inner_with variable group (behind (all_behind [] group.used) variable)) ∷ Close (outer_label variable symbol group) ∷ rest ≡ switch_plan variable group ++ rest
plan_one variable symbol group rest have =
    ap (λ t. t ∷ Close (outer_label variable symbol group) ∷ rest) (several_arm group.selected.whole group.used group.left variable group.selected.disjuncts (several_not_one group.selected.disjuncts have.several))
    ∙ sym (ap (λ (arms : List Arm). (map (λ arm. arm_plan group.selected.whole group.used group.left variable arm.1) arms
    ++ Close (record { root = SwitchRoot variable (map (λ arm. arm.0) arms); outputs = group.outputs; category = group.category; span = span_of group.selected.whole }) ∷ []) ++ rest)
    (grouped_several variable symbol group.selected.disjuncts have))

pub inner_performs : (declared : List TypeDef) (variable : ℕ) (symbol : Symbol) (group : Group) (rest : List Task) (goals : List Node) (bound : List ℕ) → HaveSymbol variable symbol group.selected.disjuncts → 0 < group.left
    → Some variable ≡ chosen declared (among bound) group.used group.selected.disjuncts
    → Performs declared (Judge group ∷ rest) goals bound (Judge (inner_group variable group) ∷ Close (outer_label variable symbol group) ∷ rest) goals bound
inner_performs declared variable symbol group rest goals bound have some is =
    let listed = behind (all_behind [] group.used) variable in
    let closed = Close (outer_label variable symbol group) ∷ rest in
    let planned : Judge (inner_with variable group listed) ∷ closed ≡ group_plan (choice_left group.left (chosen declared (among bound) group.used group.selected.disjuncts)) group ++ rest =
    plan_one variable symbol group rest have ∙ ap (λ o. group_plan o group ++ rest) (sym (still_left group.left variable some) ∙ ap (choice_left group.left) is) in
    let performs = judges declared group rest (Judge (inner_with variable group listed) ∷ closed) goals bound planned in
    record {
      same = λ types fits. performs.same types fits
          ∙ ap (λ g. done declared types closed (goals ++ node g (inner_with variable group listed).outputs None (span_of group.selected.whole) ∷ []) bound)
          (regrouped_used declared types (group.left - 1) (outputs_of group.selected.whole) (span_of group.selected.whole) (among bound) listed (behind group.used variable) (used_same group.used variable) (found_in declared types (among bound) group.selected.disjuncts));
      fits = performs.fits;
      enough = performs.enough;
      smaller = performs.smaller;
    }

pub inner_is : (variable : ℕ) (group : Group) (selected : Selection) (used : List ℕ) (left : ℕ) (outputs : List ℕ) → selected ≡ group.selected → used ≡ behind group.used variable → left ≡ group.left - 1
    → outputs ≡ filter (λ output. in_nodes (nodes_of group.selected.disjuncts) output) (outputs_of group.selected.whole)
    → record { selected = selected; used = used; left = left; outputs = outputs; category = None } ≡ inner_group variable group
inner_is variable group selected used left outputs selected_is used_is left_is outputs_are =
    let made : Selection → List ℕ → ℕ → List ℕ → Group = λ s u l o. record { selected = s; used = u; left = l; outputs = o; category = None } in
    ap (λ s. made s used left outputs) selected_is ∙ ap (λ u. made group.selected u left outputs) used_is ∙ ap (λ l. made group.selected (behind group.used variable) l outputs) left_is
    ∙ ap (made group.selected (behind group.used variable) (group.left - 1)) outputs_are

abbrev pub with_selected : Group → Selection → Group
with_selected group selected = record { selected = selected; used = group.used; left = group.left; outputs = group.outputs; category = group.category }

-- what the candidates tell of a group, whose disjuncts they were given
module _ (declared : List TypeDef) (bound : List ℕ) (group : Group) (disjuncts : List Node) (before after : Candidates) (choice : Option ℕ) (same : disjuncts ≡ group.selected.disjuncts)
    (takes : Takes declared disjuncts before after choice) (left : AreLeft declared (among bound) group.used group.selected.disjuncts before.untried before.uncovered) where
  takes_now : Takes declared group.selected.disjuncts before after choice
  takes_now = subst (λ l. Takes declared l before after choice) same takes

  pub choice_told : (other : Option ℕ) → choice ≡ other → other ≡ chosen declared (among bound) group.used group.selected.disjuncts
  choice_told other is = sym is ∙ takes_now.choice_is (among bound) group.used left

  pub inner_left : (variable : ℕ) (inner : Group) → inner ≡ inner_group variable group → choice ≡ Some variable → AreLeft declared (among bound) inner.used inner.selected.disjuncts after.untried after.uncovered
  inner_left variable inner made is =
      subst (λ (g : Group). AreLeft declared (among bound) g.used g.selected.disjuncts after.untried after.uncovered) (sym made)
      (left_same declared (among bound) (variable ∷ group.used) (behind group.used variable) group.selected.disjuncts after.untried after.uncovered (used_first group.used variable)
      (takes_now.left_are (among bound) group.used variable left is))

pub reaches_inner : (declared : List TypeDef) (start : List Task) (variable : ℕ) (symbol : Symbol) (group : Group) (rest : List Task) (inner : Group) (tasks : List Task) (goals : List Node) (bound : List ℕ)
    → Reaches declared start (Judge group ∷ rest) goals bound → inner ≡ inner_group variable group → tasks ≡ Close (outer_label variable symbol group) ∷ rest → HaveSymbol variable symbol group.selected.disjuncts
    → 0 < group.left → Some variable ≡ chosen declared (among bound) group.used group.selected.disjuncts → Reaches declared start (Judge inner ∷ tasks) goals bound
reaches_inner declared start variable symbol group rest inner tasks goals bound reaches made put have some is =
    subst (λ g. Reaches declared start (Judge g ∷ tasks) goals bound) (sym made)
    (subst (λ l. Reaches declared start (Judge (inner_group variable group) ∷ l) goals bound) (sym put)
    (reaches_on declared start (Judge group ∷ rest) (Judge (inner_group variable group) ∷ Close (outer_label variable symbol group) ∷ rest) goals bound reaches
    (inner_performs declared variable symbol group rest goals bound have some is)))

pub inner_narrowed : (variable : ℕ) (group inner : Group) → inner ≡ inner_group variable group → AreNarrowed inner
inner_narrowed variable group inner made = subst (λ (g : Group). AreNarrowed g) (sym made) refl

-- the ends

used_up : (left : ℕ) (choice : Option ℕ) → (left ≡ 0) → choice_left left choice ≡ None
used_up zero choice none = refl
used_up (suc left) choice none = absurd (omega (arith, none))

without_choice : (left : ℕ) → choice_left left None ≡ None
without_choice zero = refl
without_choice (suc left) = refl

-- What is chosen of a group whose disjuncts were looked at.
module _ (declared : List TypeDef) (bound : List ℕ) (group : Group) (selected : Selection) (same : selected ≡ group.selected) where
  left_same_choice : choice_left group.left (chosen declared (among bound) group.used group.selected.disjuncts) ≡ choice_left group.left (chosen declared (among bound) group.used selected.disjuncts)
  left_same_choice = ap (λ (s : Selection). choice_left group.left (chosen declared (among bound) group.used s.disjuncts)) (sym same)

  pub none_chosen : None ≡ chosen declared (among bound) group.used group.selected.disjuncts → None ≡ choice_left group.left (chosen declared (among bound) group.used selected.disjuncts)
  none_chosen none = sym (without_choice group.left) ∙ ap (choice_left group.left) none ∙ left_same_choice

  pub one_chosen : (variable : ℕ) → 0 < group.left → Some variable ≡ chosen declared (among bound) group.used group.selected.disjuncts
      → Some variable ≡ choice_left group.left (chosen declared (among bound) group.used selected.disjuncts)
  one_chosen variable some is = sym (still_left group.left variable some) ∙ ap (choice_left group.left) is ∙ left_same_choice

  pub performs_same : (start rest after : List Task) (goals : List Node) → Reaches declared start (Judge group ∷ rest) goals bound → Performs declared (Judge (with_selected group selected) ∷ rest) goals bound after goals bound
      → Performs declared start goals bound after goals bound
  performs_same start rest after goals reaches performs =
      reaches_end declared start (Judge group ∷ rest) after goals bound reaches (subst (λ s. Performs declared (Judge (with_selected group s) ∷ rest) goals bound after goals bound) same performs)

pub none_left : (left : ℕ) (choice : Option ℕ) → left ≡ 0 → None ≡ choice_left left choice
none_left left choice none = sym (used_up left choice none)

still_chosen : (left variable : ℕ) (choice : Option ℕ) → Some variable ≡ choice_left left choice → Some variable ≡ choice
still_chosen zero variable choice is = absurd (cc)
still_chosen (suc left) variable choice is = is

-- all disjuncts split the variable that is chosen
pub choice_split : (declared : List TypeDef) (bound : List ℕ) (group : Group) (choice : Option ℕ) → choice ≡ choice_left group.left (chosen declared (among bound) group.used group.selected.disjuncts)
    → IfSome choice (λ variable. list_all (λ disjunct. is_there (symbol_at variable disjunct)) group.selected.disjuncts ≡ true)
choice_split declared bound group None is = tt
choice_split declared bound group (Some variable) is =
    chosen_split declared (among bound) group.used group.selected.disjuncts variable (still_chosen group.left variable (chosen declared (among bound) group.used group.selected.disjuncts) is)

-- A goal taken apart into tasks becomes what it has to.
use Rattle.std.specs.Prelude.{◌≡◌, ◌≤◌, ◌<◌, ℕ, zero, suc, ◌+◌, ◌-◌, Bool, List, [], ◌∷◌, ◌++◌, length, take, drop, if◌then◌else◌, true, false, refl}
use Rattle.std.specs.List.{AllByRecursion}
use Rattle.std.proofs.Common.{◌∙◌, ap, sym, subst, arith}
use Rattle.std.proofs.lemmas.List.{length-append, append_assoc, append-nil}
use mathlib.Core.Path.{fun_ext}
use Rattle.merc_tree.specs.Types.{TypeExpr}
use Rattle.merc_tree.specs.declared.declarations.TypeDef.{TypeDef}
use Rattle.merc_graded_tree.specs.declared.entries.Label.{Label}
use Rattle.merc_graded_tree.specs.Nodes.{Node, node, Goal, Basic, Conjunction, Disjunction, Switch, Conditional, Negation, Quantified, Nodes, no_nodes, more_nodes, list_of, outputs_of}
use Rattle.merc_graded_tree.specs.Roots.{label_of, labelled, last_joined, arity_of}
use Rattle.merc_graded_tree.specs.RootLaws.{nodes_of-list_of, last_joined_is}
use Rattle.merc_order.specs.Bound.{Bound, with, among}
use Rattle.merc_grading.specs.Fitting.{Fits, FitsAll}
use Rattle.merc_grading.specs.Switches.{split_variables, regrouped, bound_behind, find, find_all, find_each}
use Rattle.merc_switch.specs.declared.tasks.Task.{Task}
use Rattle.merc_switch.specs.declared.tasks.Task.TheVariants.{Find, Keep, Bind, Unbind, Close}
use Rattle.merc_switch_choice.specs.Variables.{behind, all_behind}
use Rattle.merc_switch.specs.Tasks.{HaveEnough, effort, all_effort, load, total, found_in, done, FitsTask, Performs}
use Rattle.merc_switch.specs.Plans.{in_turn, plan}
use Rattle.merc_switch_choice.proofs.Members.{among-all_behind}
use Rattle.merc_switch.proofs.FoundBeginnings.{found_beginning}
use Rattle.merc_switch.proofs.FoundGroups.{split_variables_kept}

-- what is bound once outputs are

more_bound : (bound more : List ℕ) → among (all_behind bound more) ≡ with (among bound) (among more)
more_bound bound more = fun_ext (λ w. among-all_behind bound more w)

-- the first ones stay where they are
kept_if : (b : Bool) (bound : List ℕ) (v mark : ℕ) → mark ≤ length bound → (take mark (if b then bound else bound ++ v ∷ []) ≡ take mark bound) × (mark ≤ length (if b then bound else bound ++ v ∷ []))
kept_if true bound v mark h = (refl, h)
kept_if false bound v mark h = (take_front bound (v ∷ []) mark h, omega (arith, h, length-append bound (v ∷ [])))
  where
    take_front : (xs ys : List ℕ) (n : ℕ) → n ≤ length xs → take n (xs ++ ys) ≡ take n xs
    take_front xs ys zero k = refl
    take_front [] ys (suc n) k = absurd (omega (arith, k))
    take_front (x ∷ xs) ys (suc n) k = ap (λ l. x ∷ l) (take_front xs ys n (omega (arith, k)))

take-all_behind : (bound more : List ℕ) (mark : ℕ) → mark ≤ length bound → take mark (all_behind bound more) ≡ take mark bound
take-all_behind bound [] mark h = refl
take-all_behind bound (first ∷ rest) mark h =
    let k = kept_if (among bound first) bound first mark h in
    take-all_behind (behind bound first) rest mark k.1 ∙ k.0

length-all_behind : (bound more : List ℕ) (mark : ℕ) → mark ≤ length bound → mark ≤ length (all_behind bound more)
length-all_behind bound [] mark h = h
length-all_behind bound (first ∷ rest) mark h = length-all_behind (behind bound first) rest mark (kept_if (among bound first) bound first mark h).1

take_whole : (xs : List ℕ) → take (length xs) xs ≡ xs
take_whole [] = refl
take_whole (x ∷ xs) = ap (λ l. x ∷ l) (take_whole xs)

-- effort of goals

effort_of_list : (more : ℕ) (goals : Nodes) → all_effort more goals ≡ load more (list_of goals)
effort_of_list more no_nodes = refl
effort_of_list more (more_nodes first rest) = ap (λ n. (more + effort first) + n) (effort_of_list more rest)

pub total-append : (front back : List Task) → total (front ++ back) ≡ total front + total back
total-append [] back = omega arith
total-append (first ∷ rest) back = let h = total-append rest back in omega arith

total_turn : (mark : ℕ) (goals : List Node) → total (in_turn mark goals) ≡ 1 + load 1 goals
total_turn mark [] = refl
total_turn mark (first ∷ rest) = let h = total_turn mark rest in omega arith

-- goals that tasks need

enough_turn : (mark : ℕ) (goals : List Node) (rest : List Task) (count : ℕ) → HaveEnough (count + length goals) rest → HaveEnough count (in_turn mark goals ++ rest)
enough_turn mark [] rest count h = subst (λ n. HaveEnough n rest) (omega arith) h
enough_turn mark (first ∷ goals) rest count h = enough_turn mark goals rest (suc count) (subst (λ n. HaveEnough n rest) (omega arith) h)

enough_closed : (label : Label) (rest : List Task) (count size : ℕ) → arity_of label.root ≡ size → HaveEnough (suc count) rest → HaveEnough (count + size) (Close label ∷ rest)
enough_closed label rest count size is h = (omega arith, subst (λ n. HaveEnough n rest) (omega arith) h)

module _ (declared : List TypeDef) (types : ℕ → TypeExpr) where
  all_length : (bound : Bound) (goals : Nodes) → length (list_of (find_all declared types bound goals)) ≡ length (list_of goals)
  all_length bound no_nodes = refl
  all_length bound (more_nodes first rest) = ap suc (all_length (bound_behind declared types bound first) rest)

  each_is : (bound : Bound) (goals : Nodes) → list_of (find_each declared types bound goals) ≡ found_in declared types bound (list_of goals)
  each_is bound no_nodes = refl
  each_is bound (more_nodes first rest) = ap (λ l. find declared types bound first ∷ l) (each_is bound rest)

  fits_list : (goals : Nodes) → FitsAll declared types goals → AllByRecursion (Fits declared types) (list_of goals)
  fits_list no_nodes h = tt
  fits_list (more_nodes first rest) h = (h.0, fits_list rest h.1)

  fits_turn : (mark : ℕ) (goals : Nodes) (rest : List Task) → FitsAll declared types goals → AllByRecursion (FitsTask declared types) rest
      → AllByRecursion (FitsTask declared types) (in_turn mark (list_of goals) ++ rest)
  fits_turn mark no_nodes rest fits others = (tt, others)
  fits_turn mark (more_nodes first goals) rest fits others = (fits.0, (tt, fits_turn mark goals rest fits.1 others))

  -- goals one after the other
  done_turn : (mark : ℕ) (goals : Nodes) (rest : List Task) (before : List Node) (bound : List ℕ) → mark ≤ length bound
      → done declared types (in_turn mark (list_of goals) ++ rest) before bound ≡ done declared types rest (before ++ list_of (find_all declared types (among bound) goals)) (take mark bound)
  done_turn mark no_nodes rest before bound h = ap (λ l. done declared types rest l (take mark bound)) (sym (append-nil before))
  done_turn mark (more_nodes first goals) rest before bound h =
      let more = all_behind bound (outputs_of first) in
      let one = find declared types (among bound) first in
      done_turn mark goals rest (before ++ one ∷ []) more (length-all_behind bound (outputs_of first) mark h)
      ∙ ap (λ l. done declared types rest ((before ++ one ∷ []) ++ list_of (find_all declared types (among more) goals)) l) (take-all_behind bound (outputs_of first) mark h)
      ∙ ap (λ (b : Bound). done declared types rest ((before ++ one ∷ []) ++ list_of (find_all declared types b goals)) (take mark bound)) (more_bound bound (outputs_of first))
      ∙ ap (λ l. done declared types rest l (take mark bound)) (append_assoc before (one ∷ []) (list_of (find_all declared types (bound_behind declared types (among bound) first) goals)))

  -- goals that become one
  pub done_closed : (label : Label) (last : List Node) (rest : List Task) (before : List Node) (bound : List ℕ) → arity_of label.root ≡ length last
      → done declared types (Close label ∷ rest) (before ++ last) bound ≡ done declared types rest (before ++ labelled label last ∷ []) bound
  done_closed label last rest before bound arity = ap (λ l. done declared types rest l bound) (last_joined_is label before last arity)

  pub done_plan : (whole : Node) (rest : List Task) (before : List Node) (bound : List ℕ)
      → done declared types (plan (length bound) whole ++ rest) before bound ≡ done declared types rest (before ++ find declared types (among bound) whole ∷ []) bound
  done_plan (node (Basic goal) outputs category span) rest before bound = refl
  done_plan (node (Conjunction running goals) outputs category span) rest before bound =
      let label = label_of (node (Conjunction running goals) outputs category span) in
      let found = find_all declared types (among bound) goals in
      ap (λ l. done declared types l before bound) (append_assoc (in_turn (length bound) (list_of goals)) (Close label ∷ []) rest)
      ∙ done_turn (length bound) goals (Close label ∷ rest) before bound (omega arith)
      ∙ ap (λ b. done declared types (Close label ∷ rest) (before ++ list_of found) b) (take_whole bound)
      ∙ done_closed label (list_of found) rest before bound (sym (all_length (among bound) goals))
      ∙ ap (λ l. done declared types rest (before ++ node (Conjunction running l) outputs category span ∷ []) bound) (nodes_of-list_of found)
  done_plan (node (Disjunction goals) outputs category span) rest before bound =
      let found = found_in declared types (among bound) (list_of goals) in
      let of_goal : Goal → List Node = λ g. done declared types rest (before ++ node g outputs category span ∷ []) bound in
      ap (λ n. of_goal (regrouped declared types n outputs span (among bound) [] found))
      (ap length (sym (split_variables_kept (λ g. find declared types (among bound) g) (λ g. found_beginning declared types (among bound) g) (list_of goals))))
      ∙ ap (λ l. of_goal (regrouped declared types (length (split_variables l)) outputs span (among bound) [] l)) (sym (each_is (among bound) goals))
  done_plan (node (Switch variable arms) outputs category span) rest before bound = refl
  done_plan (node (Conditional condition then_part else_part) outputs category span) rest before bound =
      let label = label_of (node (Conditional condition then_part else_part) outputs category span) in
      let more = all_behind bound (outputs_of condition) in
      let one = find declared types (among bound) condition in
      let two : Bound → Node = λ b. find declared types b then_part in
      let three : List ℕ → Node = λ b. find declared types (among b) else_part in
      ap (λ b. done declared types (Close label ∷ rest) (((before ++ one ∷ []) ++ two (among more) ∷ []) ++ three b ∷ []) b) (take-all_behind bound (outputs_of condition) (length bound) (omega arith) ∙ take_whole bound)
      ∙ ap (λ (b : Bound). done declared types (Close label ∷ rest) (((before ++ one ∷ []) ++ two b ∷ []) ++ three bound ∷ []) bound) (more_bound bound (outputs_of condition))
      ∙ ap (λ l. done declared types (Close label ∷ rest) l bound)
      (append_assoc (before ++ one ∷ []) (two (bound_behind declared types (among bound) condition) ∷ []) (three bound ∷ [])
      ∙ append_assoc before (one ∷ []) (two (bound_behind declared types (among bound) condition) ∷ three bound ∷ []))
      ∙ done_closed label (one ∷ two (bound_behind declared types (among bound) condition) ∷ three bound ∷ []) rest before bound refl
  done_plan (node (Negation goal) outputs category span) rest before bound =
      done_closed (label_of (node (Negation goal) outputs category span)) (find declared types (among bound) goal ∷ []) rest before bound refl
  done_plan (node (Quantified own goal) outputs category span) rest before bound =
      done_closed (label_of (node (Quantified own goal) outputs category span)) (find declared types (among bound) goal ∷ []) rest before bound refl

  fits_plan : (mark : ℕ) (whole : Node) (rest : List Task) → Fits declared types whole → AllByRecursion (FitsTask declared types) rest → AllByRecursion (FitsTask declared types) (plan mark whole ++ rest)
  fits_plan mark (node (Basic goal) outputs category span) rest fits others = (tt, others)
  fits_plan mark (node (Conjunction running goals) outputs category span) rest fits others =
      let label = label_of (node (Conjunction running goals) outputs category span) in
      subst (λ l. AllByRecursion (FitsTask declared types) l) (sym (append_assoc (in_turn mark (list_of goals)) (Close label ∷ []) rest)) (fits_turn mark goals (Close label ∷ rest) fits (tt, others))
  fits_plan mark (node (Disjunction goals) outputs category span) rest fits others = (fits_list goals fits, others)
  fits_plan mark (node (Switch variable arms) outputs category span) rest fits others = (tt, others)
  fits_plan mark (node (Conditional condition then_part else_part) outputs category span) rest fits others = (fits.0, (tt, (fits.1, (tt, (fits.2, (tt, others))))))
  fits_plan mark (node (Negation goal) outputs category span) rest fits others = (fits, (tt, others))
  fits_plan mark (node (Quantified own goal) outputs category span) rest fits others = (fits, (tt, others))

enough_plan : (mark : ℕ) (whole : Node) (rest : List Task) (count : ℕ) → HaveEnough (suc count) rest → HaveEnough count (plan mark whole ++ rest)
enough_plan mark (node (Basic goal) outputs category span) rest count h = h
enough_plan mark (node (Conjunction running goals) outputs category span) rest count h =
    let label = label_of (node (Conjunction running goals) outputs category span) in
    subst (λ l. HaveEnough count l) (sym (append_assoc (in_turn mark (list_of goals)) (Close label ∷ []) rest))
    (enough_turn mark (list_of goals) (Close label ∷ rest) count (enough_closed label rest count (length (list_of goals)) refl h))
enough_plan mark (node (Disjunction goals) outputs category span) rest count h = h
enough_plan mark (node (Switch variable arms) outputs category span) rest count h = h
enough_plan mark (node (Conditional condition then_part else_part) outputs category span) rest count h =
    subst (λ n. HaveEnough n (Close (label_of (node (Conditional condition then_part else_part) outputs category span)) ∷ rest)) (omega arith)
    (enough_closed (label_of (node (Conditional condition then_part else_part) outputs category span)) rest count 3 refl h)
enough_plan mark (node (Negation goal) outputs category span) rest count h =
    subst (λ n. HaveEnough n (Close (label_of (node (Negation goal) outputs category span)) ∷ rest)) (omega arith) (enough_closed (label_of (node (Negation goal) outputs category span)) rest count 1 refl h)
enough_plan mark (node (Quantified own goal) outputs category span) rest count h =
    subst (λ n. HaveEnough n (Close (label_of (node (Quantified own goal) outputs category span)) ∷ rest)) (omega arith) (enough_closed (label_of (node (Quantified own goal) outputs category span)) rest count 1 refl h)

smaller_plan : (mark : ℕ) (whole : Node) → total (plan mark whole) < effort whole
smaller_plan mark (node (Basic goal) outputs category span) = omega arith
smaller_plan mark (node (Conjunction running goals) outputs category span) =
    let one = total-append (in_turn mark (list_of goals)) (Close (label_of (node (Conjunction running goals) outputs category span)) ∷ []) in
    let two = total_turn mark (list_of goals) in
    let three = effort_of_list 1 goals in
    omega arith
smaller_plan mark (node (Disjunction goals) outputs category span) = let one = effort_of_list (suc (length (split_variables (list_of goals)))) goals in omega arith
smaller_plan mark (node (Switch variable arms) outputs category span) = omega arith
smaller_plan mark (node (Conditional condition then_part else_part) outputs category span) = omega arith
smaller_plan mark (node (Negation goal) outputs category span) = omega arith
smaller_plan mark (node (Quantified own goal) outputs category span) = omega arith

one_more : (goals : List Node) (goal : Node) → suc (length goals) ≡ length (goals ++ goal ∷ [])
one_more goals goal = omega (arith, length-append goals (goal ∷ []))

-- the tasks, each with what it becomes

pub finds_goal : (declared : List TypeDef) (whole : Node) (rest tasks : List Task) (goals : List Node) (bound : List ℕ) → tasks ≡ plan (length bound) whole ++ rest
    → Performs declared (Find whole ∷ rest) goals bound tasks goals bound
finds_goal declared whole rest tasks goals bound planned =
    subst (λ l. Performs declared (Find whole ∷ rest) goals bound l goals bound) (sym planned) (record {
      same = λ types fits. sym (done_plan declared types whole rest goals bound);
      fits = λ types fits. fits_plan declared types (length bound) whole rest fits.0 fits.1;
      enough = λ h. enough_plan (length bound) whole rest (length goals) h;
      smaller = let one = smaller_plan (length bound) whole in let two = total-append (plan (length bound) whole) rest in omega arith;
    })

pub keeps_goal : (declared : List TypeDef) (whole : Node) (rest : List Task) (goals after : List Node) (bound : List ℕ) → after ≡ goals ++ whole ∷ []
    → Performs declared (Keep whole ∷ rest) goals bound rest after bound
keeps_goal declared whole rest goals after bound put =
    subst (λ l. Performs declared (Keep whole ∷ rest) goals bound rest l bound) (sym put) (record {
      same = λ types fits. refl;
      fits = λ types fits. fits.1;
      enough = λ h. subst (λ n. HaveEnough n rest) (one_more goals whole) h;
      smaller = omega arith;
    })

pub binds_goal : (declared : List TypeDef) (whole : Node) (rest : List Task) (goals : List Node) (bound after : List ℕ) → after ≡ all_behind bound (outputs_of whole)
    → Performs declared (Bind whole ∷ rest) goals bound rest goals after
binds_goal declared whole rest goals bound after more =
    subst (λ l. Performs declared (Bind whole ∷ rest) goals bound rest goals l) (sym more) (record {
      same = λ types fits. refl;
      fits = λ types fits. fits.1;
      enough = λ h. h;
      smaller = omega arith;
    })

pub unbinds : (declared : List TypeDef) (mark : ℕ) (rest : List Task) (goals : List Node) (bound after : List ℕ) → after ≡ take mark bound
    → Performs declared (Unbind mark ∷ rest) goals bound rest goals after
unbinds declared mark rest goals bound after less =
    subst (λ l. Performs declared (Unbind mark ∷ rest) goals bound rest goals l) (sym less) (record {
      same = λ types fits. refl;
      fits = λ types fits. fits.1;
      enough = λ h. h;
      smaller = omega arith;
    })

take_size : {X : Type 0} (xs : List X) (n : ℕ) → n ≤ length xs → length (take n xs) ≡ n
take_size xs zero h = refl
take_size [] (suc n) h = absurd (omega (arith, h))
take_size (x ∷ xs) (suc n) h = ap suc (take_size xs n (omega (arith, h)))

closed_size : (label : Label) (goals : List Node) → arity_of label.root ≤ length goals → suc (length goals - arity_of label.root) ≡ length (last_joined label goals)
closed_size label goals h =
    let before = length goals - arity_of label.root in
    let size = take_size goals before (omega arith) in
    omega (arith, size, length-append (take before goals) (labelled label (drop before goals) ∷ []))

pub closes : (declared : List TypeDef) (label : Label) (rest : List Task) (goals after : List Node) (bound : List ℕ) → after ≡ last_joined label goals
    → Performs declared (Close label ∷ rest) goals bound rest after bound
closes declared label rest goals after bound joined =
    subst (λ l. Performs declared (Close label ∷ rest) goals bound rest l bound) (sym joined) (record {
      same = λ types fits. refl;
      fits = λ types fits. fits.1;
      enough = λ h. subst (λ n. HaveEnough n rest) (closed_size label goals h.0) h.1;
      smaller = omega arith;
    })

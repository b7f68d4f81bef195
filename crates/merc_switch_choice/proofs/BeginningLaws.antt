-- What a goal begins with, goal after goal.
use Rattle.std.specs.Prelude.{◌≡◌, ℕ, ◌+◌, Bool, true, false, List, [], ◌∷◌, ◌++◌, length, reverse, Result, Ok, Err, OnOk, refl}
use Rattle.std.specs.Borrow.{Bor}
use Rattle.std.proofs.Common.{◌∙◌, ap, sym, subst, arith}
use Rattle.std.proofs.lemmas.List.{append-nil, append_assoc, length-append, reverse-append, reverse-reverse}
use Rattle.merc_goal_tree.specs.declared.goal.Symbol.{Symbol}
use Rattle.merc_graded_tree.specs.declared.basic.BasicGoal.{BasicGoal}
use Rattle.merc_graded_tree.specs.declared.entries.Running.{Running}
use Rattle.merc_graded_tree.specs.declared.entries.Running.TheVariants.{Sequential, Parallel}
use Rattle.merc_graded_tree.specs.declared.node_ref.NodeView.{NodeView}
use Rattle.merc_graded_tree.specs.declared.node_ref.NodeView.TheVariants.{Basic as BasicView, Conjunction as ConjunctionView, Disjunction as DisjunctionView, Switch as SwitchView, Conditional as ConditionalView, Negation as NegationView, Quantified as QuantifiedView}
use Rattle.merc_graded_tree.specs.Views.{viewed}
use Rattle.merc_graded_tree.specs.Nodes.{Node, node, Goal, Basic, Conjunction, nodes_of, goal_of}
use Rattle.merc_graded_tree.specs.Roots.{goals_of, goals_in, label_of}
use Rattle.merc_graded_tree.specs.Labels.{labels_of, all_labels}
use Rattle.merc_graded_tree.specs.LabelCode.{labels_are}
use Rattle.merc_graded_tree.proofs.JoinLaws.{list_of-nodes_of}
use Rattle.merc_grading.specs.Switches.{Beginning, nothing_else, stops, followed, basic_beginning, beginning, goal_beginning, all_beginning}
use Rattle.merc_switch_choice.specs.Beginnings.{splits_with, left_with, Begins}

followed_assoc_if : (a : List (ℕ × Symbol)) (g h : Bool) (b : List (ℕ × Symbol)) (c : Beginning)
    → followed (followed (record { splits = a; goes_on = g }) (record { splits = b; goes_on = h })) c ≡ followed (record { splits = a; goes_on = g }) (followed (record { splits = b; goes_on = h }) c)
followed_assoc_if a true true b c = let with_splits : List (ℕ × Symbol) → Beginning = λ l. record { splits = l; goes_on = c.goes_on } in ap with_splits (append_assoc a b c.splits)
followed_assoc_if a true false b c = refl
followed_assoc_if a false h b c = refl

followed_assoc : (a b c : Beginning) → followed (followed a b) c ≡ followed a (followed b c)
followed_assoc a b c = followed_assoc_if a.splits a.goes_on b.goes_on b.splits c

all_beginning-append : (xs ys : List Node) → all_beginning (nodes_of (xs ++ ys)) ≡ followed (all_beginning (nodes_of xs)) (all_beginning (nodes_of ys))
all_beginning-append [] ys = refl
all_beginning-append (x ∷ xs) ys =
    ap (λ (b : Beginning). followed (beginning x) b) (all_beginning-append xs ys) ∙ sym (followed_assoc (beginning x) (all_beginning (nodes_of xs)) (all_beginning (nodes_of ys)))

-- the labels of goals in any order

labels-append : (xs ys : List Node) → length (all_labels (xs ++ ys)) ≡ length (all_labels xs) + length (all_labels ys)
labels-append [] ys = omega arith
labels-append (x ∷ xs) ys =
    let h = labels-append xs ys in
    omega (arith, h, length-append (labels_of x) (all_labels (xs ++ ys)), length-append (labels_of x) (all_labels xs))

labels-reverse : (xs : List Node) → length (all_labels (reverse xs)) ≡ length (all_labels xs)
labels-reverse [] = refl
labels-reverse (x ∷ xs) =
    let h = labels-reverse xs in
    let turned : length (all_labels (reverse (x ∷ xs))) ≡ length (all_labels (reverse xs ++ x ∷ [])) = ap (λ l. length (all_labels l)) (reverse-append (x ∷ []) xs) in
    omega (arith, h, turned, labels-append (reverse xs) (x ∷ []), length-append (labels_of x) (all_labels xs), length-append (labels_of x) [])

labels_count : (whole : Node) → length (labels_of whole) ≡ length (all_labels (goals_of whole)) + 1
labels_count whole = ap length (labels_are whole) ∙ length-append (all_labels (goals_of whole)) (label_of whole ∷ [])

with_last : (rest : List Node) (next : Node) → length (all_labels (rest ++ next ∷ [])) ≡ length (all_labels rest) + (length (all_labels (goals_of next)) + 1)
with_last rest next = omega (arith, labels-append rest (next ∷ []), length-append (labels_of next) [], labels_count next)

-- one goal more

begins_goal : (next : Node) → beginning next ≡ goal_beginning (goal_of next)
begins_goal (node goal outputs category span) = refl

next_first : (splits : List (ℕ × Symbol)) (rest : List Node) (next : Node) (start : Beginning) → start ≡ goal_beginning (goal_of next)
    → splits_with splits (rest ++ next ∷ []) ≡ splits ++ (followed start (all_beginning (nodes_of (reverse rest)))).splits
next_first splits rest next start is =
    ap (λ l. splits ++ (all_beginning (nodes_of l)).splits) (reverse-append rest (next ∷ []))
    ∙ ap (λ (b : Beginning). splits ++ (followed b (all_beginning (nodes_of (reverse rest)))).splits) (begins_goal next ∙ sym is)

on_if : (splits more : List (ℕ × Symbol)) (goes_on : Bool) (rest : Beginning) → goes_on ≡ true
    → (splits ++ more) ++ rest.splits ≡ splits ++ (followed (record { splits = more; goes_on = goes_on }) rest).splits
on_if splits more true rest h = append_assoc splits more rest.splits
on_if splits more false rest h = cc

end_if : (splits more : List (ℕ × Symbol)) (goes_on : Bool) (rest : Beginning) → goes_on ≡ false
    → (splits ++ more) ++ [] ≡ splits ++ (followed (record { splits = more; goes_on = goes_on }) rest).splits
end_if splits more true rest h = cc
end_if splits more false rest h = append-nil (splits ++ more)

pub basic_on : (next : Node) (rest : List Node) (splits splits' : List (ℕ × Symbol)) (goal : BasicGoal) (goes_on : Bool) → Basic goal ≡ goal_of next
    → splits' ≡ splits ++ (basic_beginning goal).splits → goes_on ≡ (basic_beginning goal).goes_on → goes_on ≡ true → Begins next rest splits rest splits'
basic_on next rest splits splits' goal goes_on is put told on = record {
  same = ap (λ l. splits_with l rest) put
      ∙ on_if splits (basic_beginning goal).splits (basic_beginning goal).goes_on (all_beginning (nodes_of (reverse rest))) (sym told ∙ on)
      ∙ sym (next_first splits rest next (basic_beginning goal) (ap goal_beginning is));
  smaller = omega (arith, with_last rest next);
}

pub basic_end : (next : Node) (rest rest' : List Node) (splits splits' : List (ℕ × Symbol)) (goal : BasicGoal) (goes_on : Bool) → Basic goal ≡ goal_of next
    → splits' ≡ splits ++ (basic_beginning goal).splits → goes_on ≡ (basic_beginning goal).goes_on → goes_on ≡ false → rest' ≡ [] → Begins next rest splits rest' splits'
basic_end next rest rest' splits splits' goal goes_on is put told ends none = subst (λ l. Begins next rest splits l splits') (sym none) (record {
  same = ap (λ l. splits_with l []) put
      ∙ end_if splits (basic_beginning goal).splits (basic_beginning goal).goes_on (all_beginning (nodes_of (reverse rest))) (sym told ∙ ends)
      ∙ sym (next_first splits rest next (basic_beginning goal) (ap goal_beginning is));
  smaller = omega (arith, with_last rest next);
})

sequence_on : (next : Node) (rest : List Node) (splits : List (ℕ × Symbol)) (goals : List Node) → Conjunction Sequential (nodes_of goals) ≡ goal_of next
    → Begins next rest splits (rest ++ reverse goals) splits
sequence_on next rest splits goals is = record {
  same = ap (λ l. splits ++ (all_beginning (nodes_of l)).splits) (reverse-append rest (reverse goals) ∙ ap (λ l. l ++ reverse rest) (reverse-reverse goals))
      ∙ ap (λ (b : Beginning). splits ++ b.splits) (all_beginning-append goals (reverse rest))
      ∙ sym (next_first splits rest next (all_beginning (nodes_of goals)) (ap goal_beginning is));
  smaller =
      let inner : goals ≡ goals_of next = sym (list_of-nodes_of goals) ∙ ap goals_in is in
      omega (arith, with_last rest next, labels-append rest (reverse goals), labels-reverse goals, ap (λ l. length (all_labels l)) inner);
}

pub stops_at : (next : Node) (rest rest' : List Node) (splits : List (ℕ × Symbol)) (goal : Goal) → goal ≡ goal_of next → goal_beginning goal ≡ stops → rest' ≡ [] → Begins next rest splits rest' splits
stops_at next rest rest' splits goal is stop none = subst (λ l. Begins next rest splits l splits) (sym none) (record {
  same = sym (next_first splits rest next stops (sym stop ∙ ap goal_beginning is));
  smaller = omega (arith, with_last rest next);
})

conjunction_by : (running : Running) (next : Node) (rest : List Node) (splits : List (ℕ × Symbol)) (goals : List Node) → Conjunction running (nodes_of goals) ≡ goal_of next
    → Begins next rest splits (left_with running goals rest) splits
conjunction_by Sequential next rest splits goals is = sequence_on next rest splits goals is
conjunction_by (Parallel site) next rest splits goals is = stops_at next rest [] splits (Conjunction (Parallel site) (nodes_of goals)) is refl refl

pub conjunction_on : (running : Running) (next : Node) (rest rest' : List Node) (splits : List (ℕ × Symbol)) (goals : List Node) → Conjunction running (nodes_of goals) ≡ goal_of next
    → rest' ≡ left_with running goals rest → Begins next rest splits rest' splits
conjunction_on running next rest rest' splits goals is put = subst (λ l. Begins next rest splits l splits) (sym put) (conjunction_by running next rest splits goals is)

stops_else : (view : NodeView) → ((goal : Bor BasicGoal) → view ≡ BasicView goal → ⊥) → ((running : Running) (goals : List Node) → view ≡ ConjunctionView running goals → ⊥) → goal_beginning (viewed view) ≡ stops
stops_else (BasicView goal) apart other = absurd (apart goal refl)
stops_else (ConjunctionView running goals) apart other = absurd (other running goals refl)
stops_else (DisjunctionView goals) apart other = refl
stops_else (SwitchView variable symbols goals) apart other = refl
stops_else (ConditionalView condition then_part else_part) apart other = refl
stops_else (NegationView goal) apart other = refl
stops_else (QuantifiedView own goal) apart other = refl

pub ends_else : (view : NodeView) (next : Node) (rest rest' : List Node) (splits : List (ℕ × Symbol)) → viewed view ≡ goal_of next
    → ((goal : Bor BasicGoal) → view ≡ BasicView goal → ⊥) → ((running : Running) (goals : List Node) → view ≡ ConjunctionView running goals → ⊥) → rest' ≡ [] → Begins next rest splits rest' splits
ends_else view next rest rest' splits is apart other cleared = stops_at next rest rest' splits (viewed view) is (stops_else view apart other) cleared

pub at_start : (splits : List (ℕ × Symbol)) (goal : Node) (rest : List Node) → splits ≡ [] → rest ≡ goal ∷ [] → splits_with splits rest ≡ (beginning goal).splits
at_start splits goal rest none one = ap (λ l. splits_with l rest) none ∙ ap (λ l. (all_beginning (nodes_of (reverse l))).splits) one ∙ only (beginning goal).splits (beginning goal).goes_on
  where
    only : (s : List (ℕ × Symbol)) (g : Bool) → (followed (record { splits = s; goes_on = g }) nothing_else).splits ≡ s
    only s true = append-nil s
    only s false = refl

pub OnOk-weaker : {X Y : Type 0} (r : Result X Y) (P Q : Type 0) → (P → Q) → OnOk r P → OnOk r Q
OnOk-weaker (Ok x) P Q f h = f h
OnOk-weaker (Err e) P Q f h = h

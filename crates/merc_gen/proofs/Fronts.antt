-- A goal's code in front of what follows is its code in front of nothing, and then what follows.
use Rattle.std.proofs.Common.{◌≡◌, ℕ, suc, Bool, true, false, not, ◌&&◌, [], ◌∷◌, ◌++◌, length, drop, refl, sym, ap, ◌∙◌, if◌then◌else◌, Some, None}
use Rattle.std.proofs.lemmas.List.{append_assoc}
use Rattle.std.proofs.Math.Seq.{drop-append_seam}
use Rattle.merc_graded_tree.specs.declared.basic.BasicGoal.{BasicGoal}
use Rattle.merc_graded_tree.specs.declared.basic.BasicGoal.TheVariants.{True, Fail as FailGoal, Assign, Test as TestGoal, Build as BuildGoal, Split as SplitGoal, Arithmetic as ArithmeticGoal, Compare as CompareGoal, Raise as RaiseGoal, Call as CallGoal, Wait, Signal}
use Rattle.merc_graded_tree.specs.declared.basic.Procedure.{Procedure}
use Rattle.merc_graded_tree.specs.declared.entries.Running.TheVariants.{Sequential, Parallel}
use Rattle.merc_graded_tree.specs.Nodes.{Node, node, Goal, Basic, Conjunction, Disjunction, Switch as SwitchGoal, Conditional, Negation, Quantified, Nodes, no_nodes, more_nodes, Arms, no_arms, more_arms}
use Rattle.merc_meaning.specs.Runs.{answers_once}
use Rattle.merc_code.specs.declared.instruction.Instruction.{Instruction}
use Rattle.merc_code.specs.declared.instruction.Instruction.TheVariants.{Jump, Switch, Mark, Commit, Fail}
use Rattle.merc_code.specs.Steps.{Code}
use Rattle.merc_gen.specs.Generated.{basic_code, leaving, are_none, are_no_arms, quiet, goal_code, node_code, condition_code, negated_code, all_code, any_code, arms_code, targets}

pub front-then : (f g : Code → Code) → ((r : Code) → f r ≡ f [] ++ r) → ((r : Code) → g r ≡ g [] ++ r) → (rest : Code) → f (g rest) ≡ f (g []) ++ rest
front-then f g hf hg rest = hf (g rest) ∙ (ap (λ x. f [] ++ x) (hg rest) ∙ (sym (append_assoc (f []) (g []) rest) ∙ ap (λ x. x ++ rest) (sym (hf (g [])))))

-- a jump over the code lands behind it
pub skips : (f : Code → Code) → ((r : Code) → f r ≡ f [] ++ r) → (rest : Code) → drop (length (f [])) (f rest) ≡ rest
skips f h rest = ap (λ x. drop (length (f [])) x) (h rest) ∙ drop-append_seam (f []) rest

two-front : (one two : Instruction) (f : Code → Code) → ((r : Code) → f r ≡ f [] ++ r) → (rest : Code) → one ∷ two ∷ f rest ≡ (one ∷ two ∷ f []) ++ rest
two-front one two f h rest = ap (λ x. one ∷ two ∷ x) (h rest)

framed-front : (b : Bool) (f : ℕ → Code → Code) → ((m : ℕ) (r : Code) → f m r ≡ f m [] ++ r) → (m : ℕ) (rest : Code)
    → (if b then Mark m ∷ f (suc m) (Commit m ∷ rest) else f m rest) ≡ (if b then Mark m ∷ f (suc m) (Commit m ∷ []) else f m []) ++ rest
framed-front true f h m rest = ap (λ x. Mark m ∷ x) (front-then (λ r. f (suc m) r) (λ r. Commit m ∷ r) (λ r. h (suc m) r) (λ r. refl) rest)
framed-front false f h m rest = h m rest

any-front : (b : Bool) (one two : Instruction) (f g : Code → Code) → ((r : Code) → f r ≡ f [] ++ r) → ((r : Code) → g r ≡ g [] ++ r) → (rest : Code)
    → (if b then f rest else one ∷ f (two ∷ g rest)) ≡ (if b then f [] else one ∷ f (two ∷ g [])) ++ rest
any-front true one two f g hf hg rest = hf rest
any-front false one two f g hf hg rest = ap (λ x. one ∷ x) (front-then f (λ r. two ∷ g r) hf (λ r. ap (λ x. two ∷ x) (hg r)) rest)

arms-front-by : (b : Bool) (two : Instruction) (f g : Code → Code) → ((r : Code) → f r ≡ f [] ++ r) → ((r : Code) → g r ≡ g [] ++ r) → (rest : Code)
    → (if b then f rest else f (two ∷ g rest)) ≡ (if b then f [] else f (two ∷ g [])) ++ rest
arms-front-by true two f g hf hg rest = hf rest
arms-front-by false two f g hf hg rest = front-then f (λ r. two ∷ g r) hf (λ r. ap (λ x. two ∷ x) (hg r)) rest

basic-front : (g : BasicGoal) (rest : Code) → basic_code g rest ≡ basic_code g [] ++ rest
basic-front True rest = refl
basic-front FailGoal rest = refl
basic-front (Assign to from) rest = refl
basic-front (TestGoal one other) rest = refl
basic-front (BuildGoal whole symbol arguments) rest = refl
basic-front (SplitGoal whole symbol arguments) rest = refl
basic-front (ArithmeticGoal operation result one other) rest = refl
basic-front (CompareGoal comparison one other) rest = refl
basic-front (RaiseGoal text) rest = refl
basic-front (CallGoal procedure arguments) rest = refl
basic-front (Wait variable conjunct) rest = refl
basic-front (Signal variable conjunct) rest = refl

-- Given is which procedures leave no choice point behind.
module _ (single : Procedure → Bool) where
  mutual
    pub goal-front : (g : Goal) (m : ℕ) (rest : Code) → goal_code single g m rest ≡ goal_code single g m [] ++ rest
    goal-front (Basic g) m rest = basic-front g rest
    goal-front (Conjunction Sequential ns) m rest = all-front ns m rest
    goal-front (Conjunction (Parallel None) ns) m rest = all-front ns m rest
    goal-front (Conjunction (Parallel (Some site)) ns) m rest = refl
    goal-front (Disjunction ns) m rest = disjuncts-front ns m rest
    goal-front (SwitchGoal x arms) m rest = ap (λ k. Switch x (targets single arms m 0) ∷ k) (arms-front arms m rest)
    goal-front (Conditional c t e) m rest =
        two-front _ _ (λ r. condition_code single c m (node_code single t m (Jump (length (node_code single e m [])) ∷ node_code single e m r)))
        (λ r. front-then (λ k. condition_code single c m k) (λ k. node_code single t m (Jump (length (node_code single e m [])) ∷ node_code single e m k)) (λ k. condition-front c m k)
        (λ k. front-then (λ k'. node_code single t m k') (λ k'. Jump (length (node_code single e m [])) ∷ node_code single e m k') (λ k'. node-front t m k')
        (λ k'. ap (λ x. Jump (length (node_code single e m [])) ∷ x) (node-front e m k')) k) r) rest
    goal-front (Negation n) m rest = two-front _ _ (λ r. negated_code single n m r) (λ r. negated-front n m r) rest
    goal-front (Quantified own n) m rest = node-front n m rest

    pub node-front : (n : Node) (m : ℕ) (rest : Code) → node_code single n m rest ≡ node_code single n m [] ++ rest
    node-front (node g outputs category span) m rest =
        framed-front (answers_once outputs category && not (quiet single g)) (λ m' r. goal_code single g m' r) (λ m' r. goal-front g m' r) m rest

    pub condition-front : (n : Node) (m : ℕ) (rest : Code) → condition_code single n m rest ≡ condition_code single n m [] ++ rest
    condition-front (node g outputs category span) m rest =
        front-then (λ r. goal_code single g (suc m) r) (λ r. leaving (answers_once outputs category) m ∷ r) (λ r. goal-front g (suc m) r) (λ r. refl) rest

    pub negated-front : (n : Node) (m : ℕ) (rest : Code) → negated_code single n m rest ≡ negated_code single n m [] ++ rest
    negated-front (node g outputs category span) m rest =
        front-then (λ r. goal_code single g (suc m) r) (λ r. Commit m ∷ Fail ∷ r) (λ r. goal-front g (suc m) r) (λ r. refl) rest

    pub all-front : (ns : Nodes) (m : ℕ) (rest : Code) → all_code single ns m rest ≡ all_code single ns m [] ++ rest
    all-front no_nodes m rest = refl
    all-front (more_nodes n ns) m rest = front-then (λ r. node_code single n m r) (λ r. all_code single ns m r) (λ r. node-front n m r) (λ r. all-front ns m r) rest

    pub disjuncts-front : (ns : Nodes) (m : ℕ) (rest : Code) → any_code single ns m rest ≡ any_code single ns m [] ++ rest
    disjuncts-front no_nodes m rest = refl
    disjuncts-front (more_nodes n ns) m rest =
        any-front (are_none ns) _ _ (λ r. node_code single n m r) (λ r. any_code single ns m r) (λ r. node-front n m r) (λ r. disjuncts-front ns m r) rest

    pub arms-front : (arms : Arms) (m : ℕ) (rest : Code) → arms_code single arms m rest ≡ arms_code single arms m [] ++ rest
    arms-front no_arms m rest = refl
    arms-front (more_arms symbol n arms) m rest =
        arms-front-by (are_no_arms arms) _ (λ r. node_code single n m r) (λ r. arms_code single arms m r) (λ r. node-front n m r) (λ r. arms-front arms m r) rest

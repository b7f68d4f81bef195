-- The flat form of a goal depends on its scope only by what names stand for in it.
use Rattle.std.proofs.Common.{◌≡◌, ℕ, ◌==◌, Bool, true, false, List, [], ◌∷◌, ◌++◌, map, length, Option, Some, None, if◌then◌else◌, refl, ap, sym, ◌∙◌}
use Rattle.merc_base.specs.declared.place.Span.{Span}
use Rattle.merc_tree.specs.Term.{Term, Variable, Integer, Text, Application, list_of}
use Rattle.merc_goals.specs.Written.{Written, WrittenGoals, no_goals, more_goals, Truth, Failure, Equal, Compared, Called, Conjunction, Parallel, Disjunction, Conditional, Negated, Quantified, WrongForm, OutsideProfile, written_span}
use Rattle.merc_goals.specs.Entries.{goals_of}
use Rattle.merc_goals.specs.declared.goal.Form.{Form}
use Rattle.merc_goals.specs.declared.goal.Form.TheVariants.{Truth as TruthForm, Failure as FailureForm, Equal as EqualForm, Compared as ComparedForm, Called as CalledForm, Conjunction as ConjunctionForm, Parallel as ParallelForm, Disjunction as DisjunctionForm, Conditional as ConditionalForm, Negated as NegatedForm, Quantified as QuantifiedForm, WrongForm as NoForm, OutsideProfile as OutsideForm}
use Rattle.merc_goal_tree.specs.Nodes.{Node, Nodes, Parallel as ParallelNode, Disjunction as DisjunctionNode, Conditional as ConditionalNode, Negation, Quantified as QuantifiedNode, more_nodes, nodes_of}
use Rattle.merc_goal_tree.specs.declared.goal.SimpleGoal.{SimpleGoal}
use Rattle.merc_name_resolution.specs.declared.callee.Callee.{Callee}
use Rattle.merc_scopes.specs.declared.occurrence.Occurrence.{Occurrence}
use Rattle.merc_scopes.specs.Scopes.{at_of, introduced}
use Rattle.merc_flat_form.specs.Levels.{or_else, scope_of, shown}
use Rattle.merc_flat_form.specs.FlatForm.{flat, flat_all, flat_each, one_goal, simple}
use Rattle.merc_flat_form.specs.Frames.{part_of, parts_of}
use Rattle.merc_flat_form.specs.Steps.{call_goals, simple_goals}
use Rattle.merc_flat_form.proofs.ScopeLaws.{called-same, compared-same, equal-same}

picked : (test : Bool) (at : ℕ) (x y z : Option ℕ) → x ≡ or_else y z → (if test then Some at else x) ≡ or_else (if test then Some at else y) z
picked true at x y z is = refl
picked false at x y z is = is

-- in two scopes the first counts
pub at_of-append : (name : ℕ) (front back : List Occurrence) → at_of name (front ++ back) ≡ or_else (at_of name front) (at_of name back)
at_of-append name [] back = refl
at_of-append name (first ∷ rest) back = picked (first.name == name) first.at _ _ _ (at_of-append name rest back)

pub or_else-none : (found : Option ℕ) → or_else found None ≡ found
or_else-none None = refl
or_else-none (Some at) = refl

module _ (a b : List Occurrence) (same : (name : ℕ) → at_of name a ≡ at_of name b) (other : List Occurrence) where
  -- with other names behind both, or before both
  before-same : (name : ℕ) → at_of name (a ++ other) ≡ at_of name (b ++ other)
  before-same name = at_of-append name a other ∙ ap (λ x. or_else x (at_of name other)) (same name) ∙ sym (at_of-append name b other)

  behind-same : (name : ℕ) → at_of name (other ++ a) ≡ at_of name (other ++ b)
  behind-same name = at_of-append name other a ∙ ap (or_else (at_of name other)) (same name) ∙ sym (at_of-append name other b)

three : (c d t u e f : Node) (span : Span) → c ≡ d → t ≡ u → e ≡ f → ConditionalNode c t e span ∷ [] ≡ ConditionalNode d u f span ∷ []
three c d t u e f span p q r = cc

both : (a b c d : List Node) → a ≡ b → c ≡ d → a ++ c ≡ b ++ d
both a b c d p q = cc

both_nodes : (a b : Node) (c d : Nodes) → a ≡ b → c ≡ d → more_nodes a c ≡ more_nodes b d
both_nodes a b c d p q = cc

module _ (blank : ℕ → Bool) (callee : ℕ → Option ℕ → ℕ → Callee) where
  mutual
    pub flat-same : (a b : List Occurrence) → ((name : ℕ) → at_of name a ≡ at_of name b) → (goal : Written) → flat blank callee a goal ≡ flat blank callee b goal
    flat-same a b same (Truth span) = refl
    flat-same a b same (Failure span) = refl
    flat-same a b same (Equal at left right span) =
        ap (simple span) (equal-same blank _ _ (before-same a b same (introduced blank (Equal at left right span))) at left right)
    flat-same a b same (Compared at name left right span) =
        ap (simple span) (compared-same blank _ _ (before-same a b same (introduced blank (Compared at name left right span))) at name left right)
    flat-same a b same (Called at name qualifier arguments span) =
        ap (simple span)
        (called-same blank _ _ (before-same a b same (introduced blank (Called at name qualifier arguments span))) at (callee name qualifier (length (list_of arguments))) arguments)
    flat-same a b same (Conjunction goals span) = flat_all-same _ _ (before-same a b same (introduced blank (Conjunction goals span))) goals
    flat-same a b same (Parallel goals span) =
        ap (λ g. ParallelNode g span ∷ []) (flat_each-same _ _ (before-same a b same (introduced blank (Parallel goals span))) goals)
    flat-same a b same (Disjunction goals span) = ap (λ g. DisjunctionNode g span ∷ []) (flat_each-same a b same goals)
    flat-same a b same (Conditional condition then_part else_part span) =
        let region = before-same a b same (introduced blank (Conditional condition then_part else_part span)) in
        three _ _ _ _ _ _ span
        (ap (one_goal (written_span condition)) (flat-same _ _ region condition))
        (ap (one_goal (written_span then_part)) (flat-same _ _ region then_part))
        (ap (one_goal (written_span else_part)) (flat-same a b same else_part))
    flat-same a b same (Negated goal span) = ap (λ g. Negation (one_goal (written_span goal) g) span ∷ []) (flat-same a b same goal)
    flat-same a b same (Quantified variables goal span) =
        let known = introduced blank (Quantified variables goal span) in
        ap (λ g. QuantifiedNode (map (λ one. one.at) known) (one_goal (written_span goal) g) span ∷ []) (flat-same _ _ (behind-same a b same known) goal)
    flat-same a b same (WrongForm span) = refl
    flat-same a b same (OutsideProfile span) = refl

    pub flat_all-same : (a b : List Occurrence) → ((name : ℕ) → at_of name a ≡ at_of name b) → (goals : WrittenGoals) → flat_all blank callee a goals ≡ flat_all blank callee b goals
    flat_all-same a b same no_goals = refl
    flat_all-same a b same (more_goals first rest) = both _ _ _ _ (flat-same a b same first) (flat_all-same a b same rest)

    pub flat_each-same : (a b : List Occurrence) → ((name : ℕ) → at_of name a ≡ at_of name b) → (goals : WrittenGoals) → flat_each blank callee a goals ≡ flat_each blank callee b goals
    flat_each-same a b same no_goals = refl
    flat_each-same a b same (more_goals first rest) =
        both_nodes _ _ _ _ (ap (one_goal (written_span first)) (flat-same a b same first)) (flat_each-same a b same rest)

  pub part-same : (keeps : Bool) (a b : List Occurrence) → ((name : ℕ) → at_of name a ≡ at_of name b) → (goal : Written)
      → part_of blank callee keeps a goal ≡ part_of blank callee keeps b goal
  part-same true a b same goal = flat-same a b same goal
  part-same false a b same goal = ap (λ g. one_goal (written_span goal) g ∷ []) (flat-same a b same goal)

  pub parts-same : (keeps : Bool) (a b : List Occurrence) → ((name : ℕ) → at_of name a ≡ at_of name b) → (goals : List Written)
      → parts_of blank callee keeps a goals ≡ parts_of blank callee keeps b goals
  parts-same keeps a b same [] = refl
  parts-same keeps a b same (first ∷ rest) = both _ _ _ _ (part-same keeps a b same first) (parts-same keeps a b same rest)

  -- all goals of a list, and one of each

  pub flat_all-parts : (scope : List Occurrence) (goals : List Written) → flat_all blank callee scope (goals_of goals) ≡ parts_of blank callee true scope goals
  flat_all-parts scope [] = refl
  flat_all-parts scope (first ∷ rest) = ap (λ g. flat blank callee scope first ++ g) (flat_all-parts scope rest)

  pub flat_each-parts : (scope : List Occurrence) (goals : List Written) → flat_each blank callee scope (goals_of goals) ≡ nodes_of (parts_of blank callee false scope goals)
  flat_each-parts scope [] = refl
  flat_each-parts scope (first ∷ rest) = ap (more_nodes (one_goal (written_span first) (flat blank callee scope first))) (flat_each-parts scope rest)

  -- goals without sub-goals

  call-same : (a b : List Occurrence) → ((name : ℕ) → at_of name a ≡ at_of name b) → (at : ℕ) (term : Term)
      → call_goals blank callee at a term ≡ call_goals blank callee at b term
  call-same a b same at (Variable name span) = refl
  call-same a b same at (Integer value span) = refl
  call-same a b same at (Text text span) = refl
  call-same a b same at (Application name qualifier arguments span) = called-same blank a b same at (callee name qualifier (length (list_of arguments))) arguments

  pub simple-same : (a b : List Occurrence) → ((name : ℕ) → at_of name a ≡ at_of name b) → (form : Form) (at : ℕ)
      → simple_goals blank callee form at a ≡ simple_goals blank callee form at b
  simple-same a b same TruthForm at = refl
  simple-same a b same FailureForm at = refl
  simple-same a b same (EqualForm left right) at = equal-same blank a b same at left right
  simple-same a b same (ComparedForm name left right) at = compared-same blank a b same at name left right
  simple-same a b same (CalledForm term) at = call-same a b same at term
  simple-same a b same (ConjunctionForm count) at = refl
  simple-same a b same (ParallelForm count) at = refl
  simple-same a b same (DisjunctionForm count) at = refl
  simple-same a b same ConditionalForm at = refl
  simple-same a b same NegatedForm at = refl
  simple-same a b same (QuantifiedForm variables) at = refl
  simple-same a b same NoForm at = refl
  simple-same a b same OutsideForm at = refl

  -- the goals of a goal without sub-goals in any scope like its own
  pub simple-put : (form : Form) (at : ℕ) (span : Span) (found : List Occurrence) (levels inner : List (List Occurrence)) (nodes later : List Node) (items : List SimpleGoal)
      → ((name : ℕ) → shown name inner ≡ or_else (shown name levels) (at_of name found)) → items ≡ simple_goals blank callee form at (scope_of inner)
      → later ≡ nodes ++ simple span items → (scope : List Occurrence) → ((name : ℕ) → at_of name scope ≡ or_else (shown name levels) (at_of name found))
      → later ≡ nodes ++ simple span (simple_goals blank callee form at scope)
  simple-put form at span found levels inner nodes later items names are put scope same =
      put ∙ ap (λ l. nodes ++ simple span l) (are ∙ simple-same (scope_of inner) scope (λ name. names name ∙ sym (same name)) form at)

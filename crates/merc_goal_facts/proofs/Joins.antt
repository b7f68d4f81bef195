-- The last goals of a list that become one: their variables and what is in them.
use Rattle.std.specs.Prelude.{◌≡◌, ◌≤◌, ◌+◌, ◌-◌, ℕ, List, [], ◌∷◌, ◌++◌, length, take, drop, refl}
use Rattle.std.proofs.Common.{◌∙◌, ap, sym, subst, arith}
use Rattle.std.proofs.lemmas.List.{append_assoc, append-nil, length-append, length-drop, length-take-le, take-append-drop}
use Rattle.merc_base.specs.declared.place.Span.{Span}
use Rattle.merc_goal_tree.specs.declared.entries.Entry.{Entry}
use Rattle.merc_goal_tree.specs.declared.entries.Root.{Root}
use Rattle.merc_goal_tree.specs.declared.entries.Root.TheVariants.{Simple as SimpleRoot, Conjunction as ConjunctionRoot, Parallel as ParallelRoot, Disjunction as DisjunctionRoot, Conditional as ConditionalRoot, Negation as NegationRoot, Quantified as QuantifiedRoot}
use Rattle.merc_goal_tree.specs.Nodes.{Node, Nodes, Simple, Conjunction, Parallel, Disjunction, Conditional, Negation, Quantified, no_nodes, more_nodes, nodes_of, list_of}
use Rattle.merc_goal_tree.specs.Entries.{built, entries_of}
use Rattle.merc_goal_tree.specs.EntryCode.{built-entries_of, node_of-entries_of}
use Rattle.merc_goal_tree.specs.Parts.{parts_of, all_parts, parts_in}
use Rattle.merc_goal_tree.specs.Roots.{arity_of, joining, joined}
use Rattle.merc_goal_tree.specs.Variables.{variables}
use Rattle.merc_goal_tree.proofs.PartLaws.{parts_are}
use Rattle.merc_goal_facts.specs.Facts.{subgoals, all_subgoals}
use Rattle.merc_goal_facts.specs.Knowing.{variables_of_all}
use Rattle.merc_goal_facts.specs.Occurring.{root_variables}

-- goals one after the other

pub variables-append : (front back : List Node) → variables_of_all (front ++ back) ≡ variables_of_all front ++ variables_of_all back
variables-append [] back = refl
variables-append (first ∷ front) back =
    ap (λ l. variables first ++ l) (variables-append front back) ∙ sym (append_assoc (variables first) (variables_of_all front) (variables_of_all back))

subgoals-append : (front back : List Node) → all_subgoals (nodes_of (front ++ back)) ≡ all_subgoals (nodes_of front) ++ all_subgoals (nodes_of back)
subgoals-append [] back = refl
subgoals-append (first ∷ front) back =
    ap (λ l. subgoals first ++ l) (subgoals-append front back) ∙ sym (append_assoc (subgoals first) (all_subgoals (nodes_of front)) (all_subgoals (nodes_of back)))

pub variables_cut : (count : ℕ) (goals : List Node) → variables_of_all goals ≡ variables_of_all (take count goals) ++ variables_of_all (drop count goals)
variables_cut count goals = ap variables_of_all (sym (take-append-drop count goals)) ∙ variables-append (take count goals) (drop count goals)

subgoals_cut : (count : ℕ) (goals : List Node) → all_subgoals (nodes_of goals) ≡ all_subgoals (nodes_of (take count goals)) ++ all_subgoals (nodes_of (drop count goals))
subgoals_cut count goals = ap (λ l. all_subgoals (nodes_of l)) (sym (take-append-drop count goals)) ∙ subgoals-append (take count goals) (drop count goals)

-- the variables of a goal by its root

three_variables : (span : Span) (goals : List Node) → 3 ≡ length goals → variables (joining ConditionalRoot span goals) ≡ variables_of_all goals ++ []
three_variables span [] count = absurd (omega arith)
three_variables span (first ∷ []) count = absurd (omega arith)
three_variables span (first ∷ second ∷ []) count = absurd (omega arith)
three_variables span (first ∷ second ∷ third ∷ []) count =
    ap (λ l. variables first ++ (variables second ++ l)) (sym (append-nil (variables third))) ∙ sym (append-nil (variables first ++ (variables second ++ (variables third ++ []))))
three_variables span (first ∷ second ∷ third ∷ fourth ∷ rest) count = absurd (omega arith)

one_variables : (goals : List Node) (whole : Node) → 1 ≡ length goals → ((goal : Node) → goals ≡ goal ∷ [] → variables whole ≡ variables goal) → variables whole ≡ variables_of_all goals ++ []
one_variables [] whole count is = absurd (omega arith)
one_variables (goal ∷ []) whole count is = is goal refl ∙ sym (append-nil (variables goal)) ∙ sym (append-nil (variables goal ++ []))
one_variables (first ∷ second ∷ rest) whole count is = absurd (omega arith)

pub joining_variables : (root : Root) (span : Span) (goals : List Node) → arity_of root ≡ length goals → variables (joining root span goals) ≡ variables_of_all goals ++ root_variables root
joining_variables (SimpleRoot goal) span [] count = refl
joining_variables (SimpleRoot goal) span (first ∷ rest) count = absurd (omega arith)
joining_variables (ConjunctionRoot many) span goals count = sym (append-nil (variables_of_all goals))
joining_variables (ParallelRoot many) span goals count = sym (append-nil (variables_of_all goals))
joining_variables (DisjunctionRoot many) span goals count = sym (append-nil (variables_of_all goals))
joining_variables ConditionalRoot span goals count = three_variables span goals count
joining_variables NegationRoot span goals count = one_variables goals (joining NegationRoot span goals) count (λ goal is. ap (λ l. variables (joining NegationRoot span l)) is)
joining_variables (QuantifiedRoot own) span goals count = one_variables goals (joining (QuantifiedRoot own) span goals) count (λ goal is. ap (λ l. variables (joining (QuantifiedRoot own) span l)) is)

-- the goals in a goal by its root

three_subgoals : (span : Span) (goals : List Node) → 3 ≡ length goals → subgoals (joining ConditionalRoot span goals) ≡ all_subgoals (nodes_of goals) ++ joining ConditionalRoot span goals ∷ []
three_subgoals span [] count = absurd (omega arith)
three_subgoals span (first ∷ []) count = absurd (omega arith)
three_subgoals span (first ∷ second ∷ []) count = absurd (omega arith)
three_subgoals span (first ∷ second ∷ third ∷ []) count =
    ap (λ l. l ++ Conditional first second third span ∷ [])
    (append_assoc (subgoals first) (subgoals second) (subgoals third) ∙ ap (λ l. subgoals first ++ (subgoals second ++ l)) (sym (append-nil (subgoals third))))
three_subgoals span (first ∷ second ∷ third ∷ fourth ∷ rest) count = absurd (omega arith)

one_subgoals : (goals : List Node) (whole : Node) → 1 ≡ length goals → ((goal : Node) → goals ≡ goal ∷ [] → subgoals whole ≡ subgoals goal ++ whole ∷ []) → subgoals whole ≡ all_subgoals (nodes_of goals) ++ whole ∷ []
one_subgoals [] whole count is = absurd (omega arith)
one_subgoals (goal ∷ []) whole count is = is goal refl ∙ ap (λ l. l ++ whole ∷ []) (sym (append-nil (subgoals goal)))
one_subgoals (first ∷ second ∷ rest) whole count is = absurd (omega arith)

pub joining_subgoals : (root : Root) (span : Span) (goals : List Node) → arity_of root ≡ length goals → subgoals (joining root span goals) ≡ all_subgoals (nodes_of goals) ++ joining root span goals ∷ []
joining_subgoals (SimpleRoot goal) span [] count = refl
joining_subgoals (SimpleRoot goal) span (first ∷ rest) count = absurd (omega arith)
joining_subgoals (ConjunctionRoot many) span goals count = refl
joining_subgoals (ParallelRoot many) span goals count = refl
joining_subgoals (DisjunctionRoot many) span goals count = refl
joining_subgoals ConditionalRoot span goals count = three_subgoals span goals count
joining_subgoals NegationRoot span goals count =
    one_subgoals goals (joining NegationRoot span goals) count (λ goal is. subst (λ l. subgoals (joining NegationRoot span l) ≡ subgoals goal ++ joining NegationRoot span l ∷ []) (sym is) refl)
joining_subgoals (QuantifiedRoot own) span goals count =
    one_subgoals goals (joining (QuantifiedRoot own) span goals) count (λ goal is. subst (λ l. subgoals (joining (QuantifiedRoot own) span l) ≡ subgoals goal ++ joining (QuantifiedRoot own) span l ∷ []) (sym is) refl)

-- The last goals become one.

pub last_count : (root : Root) (goals : List Node) → arity_of root ≤ length goals → arity_of root ≡ length (drop (length goals - arity_of root) goals)
last_count root goals many = let long = length-drop (length goals - arity_of root) goals in omega arith

pub joined_variables : (root : Root) (span : Span) (goals : List Node) → arity_of root ≤ length goals → variables_of_all (joined root span goals) ≡ variables_of_all goals ++ root_variables root
joined_variables root span goals many =
    let kept = length goals - arity_of root in
    let front = take kept goals in
    let last = drop kept goals in
    variables-append front (joining root span last ∷ [])
    ∙ ap (λ l. variables_of_all front ++ l) (append-nil (variables (joining root span last)) ∙ joining_variables root span last (last_count root goals many))
    ∙ sym (append_assoc (variables_of_all front) (variables_of_all last) (root_variables root))
    ∙ ap (λ l. l ++ root_variables root) (sym (variables_cut kept goals))

pub joined_subgoals : (root : Root) (span : Span) (goals : List Node) → arity_of root ≤ length goals
    → all_subgoals (nodes_of (joined root span goals)) ≡ all_subgoals (nodes_of goals) ++ joining root span (drop (length goals - arity_of root) goals) ∷ []
joined_subgoals root span goals many =
    let kept = length goals - arity_of root in
    let front = take kept goals in
    let last = drop kept goals in
    let whole = joining root span last in
    subgoals-append front (whole ∷ [])
    ∙ ap (λ l. all_subgoals (nodes_of front) ++ l) (append-nil (subgoals whole) ∙ joining_subgoals root span last (last_count root goals many))
    ∙ sym (append_assoc (all_subgoals (nodes_of front)) (all_subgoals (nodes_of last)) (whole ∷ []))
    ∙ ap (λ l. l ++ whole ∷ []) (sym (subgoals_cut kept goals))

pub joined_length : (root : Root) (span : Span) (goals : List Node) → length (joined root span goals) ≡ length goals - arity_of root + 1
joined_length root span goals =
    let kept = length goals - arity_of root in
    length-append (take kept goals) (joining root span (drop kept goals) ∷ []) ∙ ap (λ n. n + 1) (length-take-le kept goals (omega arith))

-- Parts put one behind the other.

-- what goals become where these parts join them
abbrev pub rebuilt : List (Root × Span) → List Node → List Node
rebuilt [] goals = goals
rebuilt (part ∷ parts) goals = rebuilt parts (joined part.0 part.1 goals)

rebuilt-built : (entries : List Entry) (goals : List Node) → rebuilt (parts_in entries) goals ≡ built entries goals
rebuilt-built [] goals = refl
rebuilt-built (entry ∷ entries) goals = rebuilt-built entries (joined entry.root entry.span goals)

-- a goal's parts become the goal
pub rebuilds : (goal : Node) (goals : List Node) → rebuilt (parts_of goal) goals ≡ goals ++ goal ∷ []
rebuilds goal goals =
    ap (λ l. rebuilt l goals) (sym (parts_are (entries_of goal) goal (ap entries_of (node_of-entries_of goal)) (node_of-entries_of goal)))
    ∙ rebuilt-built (entries_of goal) goals ∙ built-entries_of goal goals

-- Each part finds as many goals as it joins, where there are so many at first.
abbrev pub AreFound : List (Root × Span) → ℕ → Type 0
AreFound [] count = Unit {0}
AreFound (part ∷ parts) count = (arity_of part.0 ≤ count) × AreFound parts (count - arity_of part.0 + 1)

found_at : (arity count : ℕ) (rest : List (Root × Span)) → AreFound rest (count + 1) → AreFound rest ((count + arity) - arity + 1)
found_at arity count rest found = subst (λ n. AreFound rest (n + 1)) (omega arith) found

mutual
  are_found : (goal : Node) (rest : List (Root × Span)) (count : ℕ) → AreFound rest (count + 1) → AreFound (parts_of goal ++ rest) count
  are_found (Simple goal span) rest count found = (omega arith, subst (λ n. AreFound rest (n + 1)) (omega arith) found)
  are_found (Conjunction all span) rest count found =
      subst (λ l. AreFound l count) (sym (append_assoc (all_parts all) _ rest)) (all_found all _ count (omega arith, found_at (length (list_of all)) count rest found))
  are_found (Parallel all span) rest count found =
      subst (λ l. AreFound l count) (sym (append_assoc (all_parts all) _ rest)) (all_found all _ count (omega arith, found_at (length (list_of all)) count rest found))
  are_found (Disjunction all span) rest count found =
      subst (λ l. AreFound l count) (sym (append_assoc (all_parts all) _ rest)) (all_found all _ count (omega arith, found_at (length (list_of all)) count rest found))
  are_found (Conditional condition then_part else_part span) rest count found =
      subst (λ l. AreFound l count)
      (sym (append_assoc (parts_of condition ++ parts_of then_part ++ parts_of else_part) _ rest ∙ append_assoc (parts_of condition ++ parts_of then_part) (parts_of else_part) _ ∙ append_assoc (parts_of condition) (parts_of then_part) _))
      (are_found condition _ count (are_found then_part _ (count + 1) (are_found else_part _ (count + 1 + 1) (omega arith, subst (λ n. AreFound rest (n + 1)) (omega arith) found))))
  are_found (Negation goal span) rest count found =
      subst (λ l. AreFound l count) (sym (append_assoc (parts_of goal) _ rest)) (are_found goal _ count (omega arith, found_at 1 count rest found))
  are_found (Quantified own goal span) rest count found =
      subst (λ l. AreFound l count) (sym (append_assoc (parts_of goal) _ rest)) (are_found goal _ count (omega arith, found_at 1 count rest found))

  all_found : (all : Nodes) (rest : List (Root × Span)) (count : ℕ) → AreFound rest (count + length (list_of all)) → AreFound (all_parts all ++ rest) count
  all_found no_nodes rest count found = subst (λ n. AreFound rest n) (omega arith) found
  all_found (more_nodes first others) rest count found =
      subst (λ l. AreFound l count) (sym (append_assoc (parts_of first) (all_parts others) rest))
      (are_found first (all_parts others ++ rest) count (all_found others rest (count + 1) (subst (λ n. AreFound rest n) (omega arith) found)))

pub all_found_at : (goal : Node) (count : ℕ) → AreFound (parts_of goal) count
all_found_at goal count = subst (λ l. AreFound l count) (append-nil (parts_of goal)) (are_found goal [] count tt)

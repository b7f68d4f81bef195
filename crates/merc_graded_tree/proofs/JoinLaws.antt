-- The root of a goal that joins others, and these, where they are as many as the root joins.
use Rattle.std.proofs.Common.{◌≡◌, ◌≤◌, List, [], ◌∷◌, ◌++◌, length, refl, ap, sym, ◌∙◌, arith}
use Rattle.merc_goal_tree.specs.declared.goal.Symbol.{Symbol}
use Rattle.merc_graded_tree.specs.declared.entries.Root.{Root}
use Rattle.merc_graded_tree.specs.declared.entries.Root.TheVariants.{Basic as BasicRoot, Conjunction as ConjunctionRoot, Disjunction as DisjunctionRoot, Switch as SwitchRoot, Conditional as ConditionalRoot, Negation as NegationRoot, Quantified as QuantifiedRoot}
use Rattle.merc_graded_tree.specs.Nodes.{Node, nodes_of, list_of, no_arms, more_arms}
use Rattle.merc_graded_tree.specs.Roots.{symbols_of, bodies_of, arms_of, root_of, goals_in, arity_of, goal_at, joining}

pub list_of-nodes_of : (goals : List Node) → list_of (nodes_of goals) ≡ goals
list_of-nodes_of [] = refl
list_of-nodes_of (first ∷ rest) = ap (λ l. first ∷ l) (list_of-nodes_of rest)

pub symbols_of-arms_of : (symbols : List Symbol) (goals : List Node) → length symbols ≡ length goals → symbols_of (arms_of symbols goals) ≡ symbols
symbols_of-arms_of [] goals count = refl
symbols_of-arms_of (symbol ∷ symbols) [] count = absurd (omega arith)
symbols_of-arms_of (symbol ∷ symbols) (body ∷ bodies) count = ap (λ l. symbol ∷ l) (symbols_of-arms_of symbols bodies (omega arith))

pub bodies_of-arms_of : (symbols : List Symbol) (goals : List Node) → length symbols ≡ length goals → bodies_of (arms_of symbols goals) ≡ goals
bodies_of-arms_of [] [] count = refl
bodies_of-arms_of [] (body ∷ bodies) count = absurd (omega arith)
bodies_of-arms_of (symbol ∷ symbols) [] count = absurd (omega arith)
bodies_of-arms_of (symbol ∷ symbols) (body ∷ bodies) count = ap (λ l. body ∷ l) (bodies_of-arms_of symbols bodies (omega arith))

-- goals past the symbols are of no arm
pub arms_past : (symbols : List Symbol) (goals : List Node) (last : Node) → length symbols ≤ length goals → arms_of symbols (goals ++ last ∷ []) ≡ arms_of symbols goals
arms_past [] goals last h = refl
arms_past (first ∷ rest) [] last h = absurd (omega (arith, h))
arms_past (first ∷ rest) (goal ∷ goals) last h =
    let k : length rest ≤ length goals = omega (arith, h) in ap (more_arms first goal) (arms_past rest goals last k)

pub arms_none : (symbols : List Symbol) → arms_of symbols [] ≡ no_arms
arms_none [] = refl
arms_none (first ∷ rest) = refl

pub root_joined : (root : Root) (goals : List Node) → arity_of root ≡ length goals → root_of (joining root goals) ≡ root
root_joined (BasicRoot goal) goals count = refl
root_joined (ConjunctionRoot running many) goals count = ap (ConjunctionRoot running) (ap length (list_of-nodes_of goals) ∙ sym count)
root_joined (DisjunctionRoot many) goals count = ap DisjunctionRoot (ap length (list_of-nodes_of goals) ∙ sym count)
root_joined (SwitchRoot variable symbols) goals count = ap (SwitchRoot variable) (symbols_of-arms_of symbols goals count)
root_joined ConditionalRoot goals count = refl
root_joined NegationRoot goals count = refl
root_joined (QuantifiedRoot own) goals count = refl

none_joined : (goals : List Node) → 0 ≡ length goals → [] ≡ goals
none_joined [] count = refl
none_joined (first ∷ rest) count = absurd (omega arith)

one_joined : (goals : List Node) → 1 ≡ length goals → goal_at goals 0 ∷ [] ≡ goals
one_joined [] count = absurd (omega arith)
one_joined (only ∷ []) count = refl
one_joined (first ∷ second ∷ rest) count = absurd (omega arith)

three_joined : (goals : List Node) → 3 ≡ length goals → goal_at goals 0 ∷ goal_at goals 1 ∷ goal_at goals 2 ∷ [] ≡ goals
three_joined [] count = absurd (omega arith)
three_joined (first ∷ []) count = absurd (omega arith)
three_joined (first ∷ second ∷ []) count = absurd (omega arith)
three_joined (first ∷ second ∷ third ∷ []) count = refl
three_joined (first ∷ second ∷ third ∷ fourth ∷ rest) count = absurd (omega arith)

pub goals_joined : (root : Root) (goals : List Node) → arity_of root ≡ length goals → goals_in (joining root goals) ≡ goals
goals_joined (BasicRoot goal) goals count = none_joined goals count
goals_joined (ConjunctionRoot running many) goals count = list_of-nodes_of goals
goals_joined (DisjunctionRoot many) goals count = list_of-nodes_of goals
goals_joined (SwitchRoot variable symbols) goals count = bodies_of-arms_of symbols goals count
goals_joined ConditionalRoot goals count = three_joined goals count
goals_joined NegationRoot goals count = one_joined goals count
goals_joined (QuantifiedRoot own) goals count = one_joined goals count

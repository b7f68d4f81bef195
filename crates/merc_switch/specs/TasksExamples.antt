-- Worked examples of tasks and plans, over the types and goals of the examples of categories.
use Rattle.std.specs.Prelude.{◌≡◌, Bool, true, false, List, [], ◌∷◌, Option, Some, None, refl}
use Rattle.std.specs.List.{list_all}
use Rattle.std.proofs.Common.{ap, arith}
use Rattle.merc_goal_tree.specs.declared.goal.Symbol.{Symbol}
use Rattle.merc_graded_tree.specs.declared.entries.Label.{Label}
use Rattle.merc_graded_tree.specs.declared.entries.Root.{Root}
use Rattle.merc_graded_tree.specs.declared.entries.Root.TheVariants.{Disjunction as DisjunctionRoot, Switch as SwitchRoot}
use Rattle.merc_graded_tree.specs.Nodes.{Node, Negation, Disjunction, nodes_of, span_of}
use Rattle.merc_graded_tree.specs.Roots.{label_of}
use Rattle.merc_order.specs.Bound.{among}
use Rattle.merc_grading.specs.Known.{same_symbol}
use Rattle.merc_grading.specs.Switches.{listed}
use Rattle.merc_grading.specs.GradingExamples.{red, green, declared, c, d, types, of, both, is_red, is_green}
use Rattle.merc_switch.specs.declared.tasks.Group.{Group}
use Rattle.merc_switch.specs.declared.tasks.Task.TheVariants.{Find, Judge, Close}
use Rattle.merc_switch.specs.Tasks.{HaveEnough, done}
use Rattle.merc_switch.specs.Plans.{plan, switch_plan, group_plan, choice_left, inner_group, outer_label, AreNarrowed, HaveSymbol}
use Rattle.merc_switch_choice.specs.Choosing.{chosen}

-- `not C = red`
abbrev not_red : Node
not_red = of (Negation (is_red c))

negation : plan 0 not_red ≡ Find (is_red c) ∷ Close (label_of not_red) ∷ []
negation = refl

negation_done : done declared types (plan 0 not_red) [] [] ≡ not_red ∷ []
negation_done = refl

enough : HaveEnough 0 (plan 0 not_red)
enough = (omega arith, tt)

-- a goal is closed before there is one
not_enough : HaveEnough 0 (Close (label_of not_red) ∷ []) → ⊥
not_enough have = absurd (omega (arith, have.0))

-- `( C = red ; C = green )`
abbrev colors : List Node
colors = is_red c ∷ is_green c ∷ []

abbrev whole : Node
whole = of (Disjunction (nodes_of colors))

abbrev group : Group
group = record { selected = record { whole = whole; disjuncts = colors }; used = []; left = 2; outputs = []; category = None }

abbrev label : Root → Label
label root = record { root = root; outputs = []; category = None; span = span_of whole }

-- where C is bound
switch : group_plan (choice_left 2 (chosen declared (among (c ∷ [])) [] colors)) group ≡ Find (is_red c) ∷ Find (is_green c) ∷ Close (label (SwitchRoot c (red ∷ green ∷ []))) ∷ []
switch = refl

-- where it is not
no_switch : group_plan (choice_left 2 (chosen declared (among (d ∷ [])) [] colors)) group ≡ Find (is_red c) ∷ Find (is_green c) ∷ Close (label (DisjunctionRoot 2)) ∷ []
no_switch = refl

-- and where it can be judged no more
used_up : choice_left 0 (chosen declared (among (c ∷ [])) [] colors) ≡ None
used_up = refl

unbound_not_chosen : chosen declared (among (d ∷ [])) [] colors ≡ Some c → ⊥
unbound_not_chosen wrong = cc

-- `D`, whose symbols are all there, goes before `C`
covered_first : chosen declared (among (c ∷ d ∷ [])) [] (both (is_red c ∷ is_red d ∷ []) ∷ both (is_red c ∷ is_green d ∷ []) ∷ []) ≡ Some d
covered_first = refl

-- `( C = red, D = red ; C = red, D = green )`, where C is bound: both are the one arm of red
abbrev reds : List Node
reds = both (is_red c ∷ is_red d ∷ []) ∷ both (is_red c ∷ is_green d ∷ []) ∷ []

abbrev outer : Group
outer = record { selected = record { whole = of (Disjunction (nodes_of reds)); disjuncts = reds }; used = []; left = 4; outputs = []; category = None }

both_red : HaveSymbol c red reds
both_red = record { several = omega arith; symbols_are = (refl, (refl, tt)) }

both_red_not : HaveSymbol d red reds → ⊥
both_red_not have =
    let wrong : ◌≡◌ {A = Bool} false true = ap (λ (symbol : Option Symbol). list_all (λ one. same_symbol red one) (listed symbol)) have.symbols_are.1.0 in
    absurd (cc)

one_arm : switch_plan c outer ≡ Judge (inner_group c outer) ∷ Close (outer_label c red outer) ∷ []
one_arm = refl

narrowed : AreNarrowed outer
narrowed = refl

-- an output that does not occur
narrowed_not : AreNarrowed (record { selected = record { whole = of (Disjunction (nodes_of colors)); disjuncts = colors }; used = []; left = 2; outputs = d ∷ []; category = None }) → ⊥
narrowed_not wrong = cc

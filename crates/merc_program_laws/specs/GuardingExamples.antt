-- Goals that guard a symbol or not, over the types and variables of the examples of categories.
use Rattle.std.specs.Prelude.{◌≡◌, true, false, [], ◌∷◌, refl}
use Rattle.std.proofs.Common.{inl, inr, ap}
use Rattle.merc_graded_tree.specs.declared.basic.BasicGoal.TheVariants.{True}
use Rattle.merc_graded_tree.specs.Nodes.{Node, Switch, Disjunction, Conditional, Negation, Quantified, nodes_of, no_arms, more_arms}
use Rattle.merc_grading.specs.Known.{same_symbol}
use Rattle.merc_grading.specs.GradingExamples.{red, green, c, d, of, basic, both, is_red, is_green}
use Rattle.merc_program_laws.specs.Guarding.{Guards, HasGuards}

-- a split, a conjunction with one, and a disjunction of such conjunctions

split : Guards c red (is_red c)
split = (refl, refl)

conjunction : Guards c red (both (basic True ∷ is_red c ∷ []))
conjunction = inr (inl (refl, refl))

disjunction : Guards c red (of (Disjunction (nodes_of (both (is_red c ∷ is_red d ∷ []) ∷ is_red c ∷ []))))
disjunction = (inl (refl, refl), ((refl, refl), tt))

inner_switch : Guards c red (of (Switch d (more_arms red (both (is_red c ∷ is_red d ∷ [])) (more_arms green (is_red c) no_arms))))
inner_switch = (inl (refl, refl), ((refl, refl), tt))

-- another variable, another symbol, a disjunct and an arm that are no such split, and goals of other forms

other_variable : Guards c red (is_red d) → ⊥
other_variable h = cc h.0

other_symbol : Guards c red (is_green c) → ⊥
other_symbol h = let wrong : false ≡ true = ap (λ symbol. same_symbol symbol red) h.1 in cc

free_disjunct : Guards c red (of (Disjunction (nodes_of (is_red c ∷ basic True ∷ [])))) → ⊥
free_disjunct h = h.1.0

free_arm : Guards c red (of (Switch d (more_arms red (is_red c) (more_arms green (is_green d) no_arms)))) → ⊥
free_arm h = cc h.1.0.0

no_conjunct : Guards c red (both (basic True ∷ [])) → ⊥
no_conjunct (inl h) = h
no_conjunct (inr h) = h

negation : Guards c red (of (Negation (is_red c))) → ⊥
negation h = h

-- a switch on C: where it is `red`, nothing else; where it is `green`, D is too

abbrev switch_on : Node → Node → Node
switch_on first second = of (Switch c (more_arms red first (more_arms green second no_arms)))

switch : HasGuards (switch_on (is_red c) (both (is_green c ∷ is_green d ∷ [])))
switch = ((refl, refl), refl, tt, (inl (refl, refl), refl, (tt, (tt, tt)), tt))

arms_turned : HasGuards (switch_on (is_green c) (is_red c)) → ⊥
arms_turned h = let wrong : false ≡ true = ap (λ symbol. same_symbol symbol red) h.0.1 in cc

symbol_twice : HasGuards (of (Switch c (more_arms red (is_red c) (more_arms red (is_red c) no_arms)))) → ⊥
symbol_twice h = cc h.1

-- the parts of a goal have guards too

abbrev bad : Node
bad = switch_on (is_green c) (is_red c)

in_conjunction : HasGuards (both (basic True ∷ bad ∷ [])) → ⊥
in_conjunction h = arms_turned h.1.0

in_disjunction : HasGuards (of (Disjunction (nodes_of (bad ∷ [])))) → ⊥
in_disjunction h = arms_turned h.0

in_arm : HasGuards (of (Switch d (more_arms red (both (is_red d ∷ bad ∷ [])) no_arms))) → ⊥
in_arm h = arms_turned h.2.1.0

in_condition : HasGuards (of (Conditional bad (basic True) (basic True))) → ⊥
in_condition h = arms_turned h.0

in_then_part : HasGuards (of (Conditional (basic True) bad (basic True))) → ⊥
in_then_part h = arms_turned h.1

in_else_part : HasGuards (of (Conditional (basic True) (basic True) bad)) → ⊥
in_else_part h = arms_turned h.2

in_negation : HasGuards (of (Negation bad)) → ⊥
in_negation h = arms_turned h

in_quantified : HasGuards (of (Quantified [] bad)) → ⊥
in_quantified h = arms_turned h

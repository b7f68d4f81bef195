-- Goals that are looked at, for whether a goal leaves a choice point behind.
use Rattle.std.specs.Prelude.{◌≡◌, ◌≤◌, ◌<◌, ◌+◌, ℕ, suc, Bool, true, false, ◌&&◌, List, [], ◌∷◌, ◌++◌, length, reverse, refl}
use Rattle.std.proofs.Common.{◌∙◌, ap, sym, arith}
use Rattle.merc_graded_tree.specs.declared.basic.Procedure.{Procedure}
use Rattle.merc_graded_tree.specs.declared.entries.Running.{Running}
use Rattle.merc_graded_tree.specs.declared.node_ref.NodeView.{NodeView}
use Rattle.merc_graded_tree.specs.Nodes.{Node, node, Goal, Conjunction, Disjunction, Switch, Conditional, Quantified, Arms, no_arms, more_arms, nodes_of}
use Rattle.merc_graded_tree.specs.Roots.{bodies_of}
use Rattle.merc_graded_tree.specs.Views.{viewed}
use Rattle.merc_gen.specs.Generated.{is_once, quiet, node_quiet, all_quiet, any_quiet, arms_quiet}
use Rattle.merc_gen.specs.Turns.{node_turns, goal_turns, joined_turns, arms_turns, list_turns}
use Rattle.merc_gen.specs.Waiting.{are_quiet, Spreads}
use Rattle.merc_graded_tree.proofs.Reversed.{reverse-first}

pub and-assoc : (a b c : Bool) → (a && b) && c ≡ a && (b && c)
and-assoc true b c = refl
and-assoc false b c = refl

pub and-true : (a : Bool) → a && true ≡ a
and-true true = refl
and-true false = refl

pub and-false : (a : Bool) → a && false ≡ false
and-false true = refl
and-false false = refl

pub and-comm : (a b : Bool) → a && b ≡ b && a
and-comm true b = sym (and-true b)
and-comm false b = sym (and-false b)

-- turns

pub turns-append : (front back : List Node) → list_turns (front ++ back) ≡ list_turns front + list_turns back
turns-append [] back = omega arith
turns-append (first ∷ rest) back = let h = turns-append rest back in omega (arith, h)

pub turns-reverse : (goals : List Node) → list_turns (reverse goals) ≡ list_turns goals
turns-reverse [] = refl
turns-reverse (first ∷ rest) =
    let h = turns-reverse rest in omega (arith, h, ap list_turns (reverse-first first rest), turns-append (reverse rest) (first ∷ []))

pub turns-joined : (goals : List Node) → joined_turns (nodes_of goals) ≡ list_turns goals
turns-joined [] = refl
turns-joined (first ∷ rest) = ap (λ n. suc (suc (suc (node_turns first + n)))) (turns-joined rest)

pub turns-arms : (arms : Arms) → arms_turns arms ≡ list_turns (bodies_of arms)
turns-arms no_arms = refl
turns-arms (more_arms symbol body rest) = ap (λ n. suc (suc (suc (node_turns body + n)))) (turns-arms rest)

some_turns : (goal : Node) → 2 ≤ node_turns goal
some_turns (node goal outputs category span) = omega arith

pub looked_fewer : (before rest after : List Node) (last : Node) → before ≡ rest ++ last ∷ [] → list_turns after ≤ node_turns last + list_turns rest → list_turns after < list_turns before
looked_fewer before rest after last e h = omega (arith, h, ap list_turns e, turns-append rest (last ∷ []))

module _ (single : Procedure → Bool) where
  abbrev each_quiet : List Node → Bool
  each_quiet = are_quiet single

  quiet-append : (front back : List Node) → each_quiet (front ++ back) ≡ each_quiet front && each_quiet back
  quiet-append [] back = refl
  quiet-append (first ∷ rest) back =
      ap (λ b. node_quiet single first && b) (quiet-append rest back) ∙ sym (and-assoc (node_quiet single first) (each_quiet rest) (each_quiet back))

  pub quiet-last : (front : List Node) (last : Node) → each_quiet (front ++ last ∷ []) ≡ node_quiet single last && each_quiet front
  quiet-last front last =
      quiet-append front (last ∷ []) ∙ and-comm (each_quiet front) (node_quiet single last && true)
      ∙ ap (λ b. b && each_quiet front) (and-true (node_quiet single last))

  quiet-reverse : (goals : List Node) → each_quiet (reverse goals) ≡ each_quiet goals
  quiet-reverse [] = refl
  quiet-reverse (first ∷ rest) =
      ap each_quiet (reverse-first first rest) ∙ quiet-last (reverse rest) first ∙ ap (λ b. node_quiet single first && b) (quiet-reverse rest)

  quiet-all : (goals : List Node) → all_quiet single (nodes_of goals) ≡ each_quiet goals
  quiet-all [] = refl
  quiet-all (first ∷ rest) = ap (λ b. node_quiet single first && b) (quiet-all rest)

  quiet-arms : (arms : Arms) → arms_quiet single arms ≡ each_quiet (bodies_of arms)
  quiet-arms no_arms = refl
  quiet-arms (more_arms symbol body rest) = ap (λ b. node_quiet single body && b) (quiet-arms rest)

  quiet-any : (goals : List Node) → length goals ≤ 1 → any_quiet single (nodes_of goals) ≡ each_quiet goals
  quiet-any [] h = refl
  quiet-any (first ∷ []) h = sym (and-true (node_quiet single first))
  quiet-any (first ∷ second ∷ rest) h = absurd (omega (arith, h))

  loud-any : (goals : List Node) → 1 < length goals → any_quiet single (nodes_of goals) ≡ false
  loud-any [] h = absurd (omega (arith, h))
  loud-any (first ∷ []) h = absurd (omega (arith, h))
  loud-any (first ∷ second ∷ rest) h = refl

  -- goals in the place of one
  spreads : (goal : Goal) (goals before after : List Node) → after ≡ before ++ reverse goals → quiet single goal ≡ each_quiet goals → list_turns goals ≤ goal_turns goal
      → Spreads single goal true before after
  spreads goal goals before after e same h = record {
    same = ap each_quiet e ∙ quiet-append before (reverse goals) ∙ and-comm (each_quiet before) (each_quiet (reverse goals))
        ∙ ap (λ b. b && each_quiet before) (quiet-reverse goals ∙ sym same);
    fewer = omega (arith, h, ap list_turns e, turns-append before (reverse goals), turns-reverse goals);
  }

  -- one of which nothing has to be looked at
  pub settled : (goal : Goal) (passes : Bool) (left : List Node) → passes ≡ quiet single goal → Spreads single goal passes left left
  settled goal passes left e = record { same = ap (λ b. b && each_quiet left) e; fewer = omega arith }

  pub conjuncts : (running : Running) (goals before after : List Node) → after ≡ before ++ reverse goals → Spreads single (Conjunction running (nodes_of goals)) true before after
  conjuncts running goals before after e = spreads (Conjunction running (nodes_of goals)) goals before after e (quiet-all goals) (omega (arith, turns-joined goals))

  pub disjuncts : (goals before after : List Node) → length goals ≤ 1 → after ≡ before ++ reverse goals → Spreads single (Disjunction (nodes_of goals)) true before after
  disjuncts goals before after h e = spreads (Disjunction (nodes_of goals)) goals before after e (quiet-any goals h) (omega (arith, turns-joined goals))

  pub loud : (goals left : List Node) → 1 < length goals → Spreads single (Disjunction (nodes_of goals)) false left left
  loud goals left h = settled (Disjunction (nodes_of goals)) false left (sym (loud-any goals h))

  pub arms_spread : (variable : ℕ) (arms : Arms) (before after : List Node) → after ≡ before ++ reverse (bodies_of arms) → Spreads single (Switch variable arms) true before after
  arms_spread variable arms before after e = spreads (Switch variable arms) (bodies_of arms) before after e (quiet-arms arms) (omega (arith, turns-arms arms))

  pub parts : (condition then_part else_part : Node) (passes : Bool) (before between after : List Node) → passes ≡ is_once condition → between ≡ before ++ else_part ∷ []
      → after ≡ between ++ then_part ∷ [] → Spreads single (Conditional condition then_part else_part) passes before after
  parts condition then_part else_part passes before between after p e f = record {
    same =
        ap (λ l. passes && each_quiet l) f ∙ ap (λ b. passes && b) (quiet-last between then_part ∙ ap (λ l. node_quiet single then_part && each_quiet l) e
        ∙ ap (λ b. node_quiet single then_part && b) (quiet-last before else_part) ∙ sym (and-assoc (node_quiet single then_part) (node_quiet single else_part) (each_quiet before)))
        ∙ sym (and-assoc passes (node_quiet single then_part && node_quiet single else_part) (each_quiet before))
        ∙ ap (λ b. (b && (node_quiet single then_part && node_quiet single else_part)) && each_quiet before) p;
    fewer = let h = some_turns condition in omega (arith, h, ap list_turns e, ap list_turns f, turns-append before (else_part ∷ []), turns-append between (then_part ∷ []));
  }

  pub inner : (own : List ℕ) (goal : Node) (before after : List Node) → after ≡ before ++ goal ∷ [] → Spreads single (Quantified own goal) true before after
  inner own goal before after e = spreads (Quantified own goal) (goal ∷ []) before after e (sym (and-true (node_quiet single goal))) (omega arith)

  -- as it is seen
  pub seen : (view : NodeView) (goal : Goal) (passes now : Bool) (before after : List Node) → goal ≡ viewed view → now ≡ passes → Spreads single goal passes before after
      → Spreads single (viewed view) now before after
  seen view goal passes now before after e f spread = record {
    same = ap (λ b. b && each_quiet after) f ∙ spread.same ∙ ap (λ g. quiet single g && each_quiet before) e;
    fewer = let h = spread.fewer in omega (arith, h, ap goal_turns e);
  }

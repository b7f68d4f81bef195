-- The typings of small goals, over a module that declares nothing.
use Rattle.std.specs.Prelude.{◌≡◌, ◌<◌, ℕ, zero, suc, pos, [], ◌∷◌, Option, Some, None, refl}
use Rattle.std.specs.Option.{IfSome}
use Rattle.std.proofs.Common.{sym, ◌∙◌, arith}
use Rattle.merc_tree.specs.Term.{no_span}
use Rattle.merc_tree.specs.Types.{TypeExpr, IntType, TextType}
use Rattle.merc_tree.specs.declared.declarations.Module.{Module}
use Rattle.merc_goal_tree.specs.declared.goal.SimpleGoal.TheVariants.{Same, Shape}
use Rattle.merc_goal_tree.specs.declared.goal.Symbol.TheVariants.{Integer}
use Rattle.merc_goal_tree.specs.Nodes.{Node, Simple}
use Rattle.merc_type_graph.specs.Solutions.{Unknown, WholeEntry, Applied, Link}
use Rattle.merc_type_check.specs.Typings.{AreTypings}
use Rattle.merc_type_check.specs.TypingExamples.{apart}

abbrev bare : Module
bare = record { name = 99; units = []; types = []; preds = []; own = 0; clauses = [] }

-- X, and Y, have the places with their numbers, and no other variable has one
abbrev x_alone : ℕ → Option ℕ
x_alone zero = Some 0
x_alone (suc number) = None

abbrev x_and_y : ℕ → Option ℕ
x_and_y zero = Some 0
x_and_y (suc zero) = Some 1
x_and_y (suc (suc number)) = None

abbrev all_ints : ℕ → TypeExpr
all_ints number = IntType

abbrev all_texts : ℕ → TypeExpr
all_texts number = TextType

-- `X = 3`: the type of X is `int`, and that of any other variable is free
abbrev three : Node
three = Simple (Shape 0 (Integer (pos 3)) []) no_span

three_typings : AreTypings (WholeEntry IntType ∷ []) x_alone bare [] three
three_typings = record {
  there = there;
  solvable = (all_ints, (refl, tt));
  sound = λ places types solution. record { head = tt; parts = (sym (solution.variables 0) ∙ solution.solved.0, tt) };
  complete = λ types typed. (all_ints, record { solved = (refl, tt); variables = agrees types typed.parts.0 });
}
  where
    there : (number : ℕ) → IfSome (x_alone number) (λ place. place < 1)
    there zero = omega arith
    there (suc number) = tt

    agrees : (types : ℕ → TypeExpr) → types 0 ≡ IntType → (number : ℕ) → IfSome (x_alone number) (λ place. all_ints place ≡ types number)
    agrees types is zero = sym is
    agrees types is (suc number) = tt

-- `X = Y`: both have one type, whichever
abbrev alike : Node
alike = Simple (Same 0 1) no_span

alike_typings : AreTypings (Link 1 ∷ Unknown ∷ []) x_and_y bare [] alike
alike_typings = record {
  there = there;
  solvable = (all_ints, (refl, (tt, tt)));
  sound = λ places types solution. record { head = tt; parts = (sym (solution.variables 0) ∙ solution.solved.0 ∙ solution.variables 1, tt) };
  complete = λ types typed. (types, record { solved = (typed.parts.0, (tt, tt)); variables = agrees types });
}
  where
    there : (number : ℕ) → IfSome (x_and_y number) (λ place. place < 2)
    there zero = omega arith
    there (suc zero) = omega arith
    there (suc (suc number)) = tt

    agrees : (types : ℕ → TypeExpr) (number : ℕ) → IfSome (x_and_y number) (λ place. types place ≡ types number)
    agrees types zero = refl
    agrees types (suc zero) = refl
    agrees types (suc (suc number)) = tt

-- Where nothing is known of the type of X, too much solves the equations for `X = 3`: it could be `string`.
three_wide : AreTypings (Unknown ∷ []) x_alone bare [] three → ⊥
three_wide are =
    let typed = are.sound all_texts all_texts (record { solved = (tt, tt); variables = agrees }) in
    let same : TextType ≡ IntType = typed.parts.0 in
    cc
  where
    agrees : (number : ℕ) → IfSome (x_alone number) (λ place. all_texts place ≡ all_texts number)
    agrees zero = refl
    agrees (suc number) = tt

-- Where X and Y are `int`, too little solves them for `X = Y`: both could be `string`.
alike_narrow : AreTypings (Link 1 ∷ WholeEntry IntType ∷ []) x_and_y bare [] alike → ⊥
alike_narrow are =
    let solution = (are.complete all_texts (record { head = tt; parts = (refl, tt) })).1 in
    let int = solution.solved.1.0 in
    let text = solution.variables 1 in
    let same : TextType ≡ IntType = sym text ∙ int in
    cc

-- Nothing solves an equation of a type within itself.
within_itself : (goal : Node) → AreTypings (Applied 100 (0 ∷ []) ∷ []) x_alone bare [] goal → ⊥
within_itself goal are = let places : ℕ → TypeExpr = are.solvable.0 in apart (places 0) are.solvable.1.0

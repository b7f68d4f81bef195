-- The bodies of predicates and their types.
use Rattle.std.specs.Prelude.{List, []}
use Rattle.std.specs.List.{AllByRecursion}
use Rattle.merc_tree.specs.declared.declarations.Clause.{Clause}
use Rattle.merc_tree.specs.declared.declarations.PredDecl.{PredDecl}
use Rattle.merc_tree.specs.declared.declarations.Module.{Module}
use Rattle.merc_goal_tree.specs.Nodes.{Node}
use Rattle.merc_bodies.specs.Bodies.{asked_body, body_of, clauses_of}
use Rattle.merc_type_check.specs.Typing.{HasTyping}

-- Where there are types for the form of each clause of a predicate, there are types for its body.
abbrev pub BodyIsTyped : Type 0
BodyIsTyped = (known : Module) (form : Clause → Node) (clauses : List Clause) (declared : PredDecl)
    → AllByRecursion (λ clause. HasTyping known declared.args (form clause)) (clauses_of clauses declared) → HasTyping known declared.args (body_of form clauses declared)

-- The same of a goal that is asked.
abbrev pub AskedIsTyped : Type 0
AskedIsTyped = (known : Module) (form : Node) → HasTyping known [] form → HasTyping known [] (asked_body form)

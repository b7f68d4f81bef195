-- What holds of the clauses and the types of a module that a text is.
use Rattle.std.specs.Prelude.{ℕ, List}
use Rattle.std.specs.List.{AllByRecursion, IsDistinct}
use Rattle.std.specs.Str.{bytes_eq}
use Rattle.merc_base.specs.Names.{HoldsFixed}
use Rattle.merc_tree.specs.Term.{Term}
use Rattle.merc_tree.specs.declared.declarations.Clause.{Clause}
use Rattle.merc_tree.specs.declared.declarations.Module.{Module}
use Rattle.merc_tree.specs.declared.declarations.PredDecl.{PredDecl}
use Rattle.merc_terms.specs.Texts.{ReadsGoal}
use Rattle.merc_goals.specs.Written.{written}
use Rattle.merc_goal_tree.specs.Nodes.{Node}
use Rattle.merc_bodies.specs.Bodies.{asked_body, body_of}
use Rattle.merc_flat.specs.Flat.{clause_node, query_node}
use Rattle.merc_items.specs.ReadModule.{IsModule}
use Rattle.merc_program_laws.specs.GoodPrograms.{AreGoodTypes, IsScoped}
use Rattle.merc_program_laws.specs.ProgramBodies.{HasWrittenLiterals}
use Rattle.merc_program_laws.specs.ClauseWords.{ClauseHasWords}

-- The integers of a module's clauses have 64 bits, in those of library units too.
abbrev pub ModuleHasWords : Type 0
ModuleHasWords = (before after : List (List ℕ)) (text : List ℕ) (terms : List Term) (found : Module) → IsModule before after text terms found → AllByRecursion ClauseHasWords found.clauses

-- The flat form of a clause has its literals as they are written: integers of 64 bits, and no arguments.
abbrev pub ClauseHasLiterals : Type 0
ClauseHasLiterals = (names : List (List ℕ)) (known : Module) (clause : Clause) → ClauseHasWords clause → HasWrittenLiterals (clause_node names known clause)

-- The body of a predicate has them where the forms of its clauses have.
abbrev pub BodyHasLiterals : Type 0
BodyHasLiterals = (form : Clause → Node) (clauses : List Clause) (declared : PredDecl) → AllByRecursion (λ clause. HasWrittenLiterals (form clause)) clauses
    → HasWrittenLiterals (body_of form clauses declared)

-- So does the body of each predicate of a module.
abbrev pub ModuleHasLiterals : Type 0
ModuleHasLiterals = (before after : List (List ℕ)) (text : List ℕ) (terms : List Term) (found : Module) → IsModule before after text terms found
    → AllByRecursion (λ declared. HasWrittenLiterals (body_of (clause_node after found) found.clauses declared)) found.preds

-- And so does the body of a goal that is asked.
abbrev pub QueryHasLiterals : Type 0
QueryHasLiterals = (before after : List (List ℕ)) (text : List ℕ) (term : Term) (known : Module) → ReadsGoal before after text term
    → HasWrittenLiterals (asked_body (query_node after known (written 0 term)))

-- The constructors of a module's types mention none but the parameters of their types. The table of names is as each is: the constants come first, and each
-- text stands once.
abbrev pub ModuleIsScoped : Type 0
ModuleIsScoped = (before after : List (List ℕ)) (text : List ℕ) (terms : List Term) (found : Module) → HoldsFixed before → IsDistinct bytes_eq before
    → IsModule before after text terms found → AllByRecursion IsScoped found.types

-- Its types are told apart as well.
abbrev pub ModuleHasGoodTypes : Type 0
ModuleHasGoodTypes = (before after : List (List ℕ)) (text : List ℕ) (terms : List Term) (found : Module) → HoldsFixed before → IsDistinct bytes_eq before
    → IsModule before after text terms found → AreGoodTypes found.types

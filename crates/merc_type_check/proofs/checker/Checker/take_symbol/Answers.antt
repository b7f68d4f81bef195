use Rattle.std.proofs.Common.{◌≡◌, ℕ, List, sym, subst}
use Rattle.std.specs.Prelude.{slice_get}
use Rattle.merc_base.specs.Groups.{kept}
use Rattle.merc_name_resolution.specs.Known.{constructor_in}
use Rattle.merc_tree.specs.declared.declarations.Constructor.{Constructor}
use Rattle.merc_tree.specs.declared.declarations.TypeDef.{TypeDef}
use Rattle.std.proofs.lemmas.Result.{IfOk-weaker}
use Rattle.merc_tree.specs.Types.{TypeExpr, IntType, TextType}
use Rattle.merc_type_check.proofs.Steps.{plain_goal_takes}
use Rattle.merc_type_check.specs.TypeNumbers.{AreNumbers}
use Rattle.merc_type_check.specs.Progress.{Takes}
use Rattle.merc_type_check.specs.Typing.{HasConstructor}
use Rattle.merc_type_check.proofs.Numbers.{numbers_are}
use Rattle.merc_type_check.proofs.Asked.{constructed}
use Rattle.merc_type_check.proofs.checker.Checker.take_symbol.Goals as goal

pub returns-in-Some : goal.returns-in-Some
returns-in-Some c =
    rw c.in-Constructor.is
    (IfOk-weaker c.take_constructor.result _ _
    (λ done takes. constructed done c.args.self.now c.take_constructor.new.self c.args.known.now c.args.variable c.in-Constructor.name
    c.in-Constructor.arity c.args.arguments.now c.in-Some.type_def.now c.in-Some.constructor.now c.in-Some.ensures c.requires.fresh
    (subst (λ (n : ℕ). Takes done c.args.self.now c.take_constructor.new.self
    (λ types instance. HasConstructor c.args.known.now types (instance n) c.args.variable c.in-Some.type_def.now c.in-Some.constructor.now c.args.arguments.now))
    c.part_number.ensures (takes c.args.known.now)))
    c.take_constructor.ensures)

pub returns-in-Integer : goal.returns-in-Integer
returns-in-Integer c =
    rw c.in-Integer.is
    (IfOk-weaker c.is_int.result _ _
    (λ done takes. plain_goal_takes done c.args.self.now c.is_int.new.self (λ types. types c.args.variable ≡ IntType) takes) c.is_int.ensures)

pub returns-in-Text : goal.returns-in-Text
returns-in-Text c =
    rw c.in-Text.is
    (IfOk-weaker c.is_text.result _ _
    (λ done takes. plain_goal_takes done c.args.self.now c.is_text.new.self (λ types. types c.args.variable ≡ TextType) takes) c.is_text.ensures)

pub take_constructor-requires-clause-numbers : goal.take_constructor-requires-clause-numbers
take_constructor-requires-clause-numbers c =
    subst (λ (t : List TypeExpr). AreNumbers t c.of_constructor-numbers.result.now c.in-Some.constructor.now.args) c.requires.table
    (subst (λ (l : List ℕ). AreNumbers c.args.declared.now.table l c.in-Some.constructor.now.args) (sym c.of_constructor-numbers.ensures)
    (numbers_are (λ (found : TypeDef × Constructor). found.1.args) c.args.declared.now.table
    (slice_get (kept c.args.declared.now.constructors c.in-Constructor.name c.in-Constructor.arity) 0)
    (constructor_in c.args.known.now.types c.in-Constructor.name c.in-Constructor.arity) (c.in-Some.type_def.now, c.in-Some.constructor.now) c.in-Some.ensures
    (c.requires.declared.constructors c.in-Constructor.name c.in-Constructor.arity)))

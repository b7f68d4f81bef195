use Rattle.std.proofs.Common.{◌≡◌, ℕ, List, subst}
use Rattle.std.specs.Prelude.{slice_get}
use Rattle.std.proofs.lemmas.Result.{IfOk-weaker}
use Rattle.merc_tree.specs.Types.{IntType, TextType}
use Rattle.merc_type_check.specs.Progress.{GoalTakes}
use Rattle.merc_type_check.specs.Typing.{HasSymbol, IsCalled}
use Rattle.merc_type_check.proofs.Steps.{plain_goal_takes}
use Rattle.merc_type_check.proofs.checker.Checker.take_goal.Goals as goal

pub returns-in-Same : goal.returns-in-Same
returns-in-Same c =
    rw c.in-Same.is
    (IfOk-weaker c.are_alike.result _ _
    (λ done takes. plain_goal_takes done c.args.self.now c.are_alike.new.self (λ types. types c.in-Same.one ≡ types c.in-Same.other) takes) c.are_alike.ensures)

pub returns-in-Arithmetic : goal.returns-in-Arithmetic
returns-in-Arithmetic c =
    rw c.in-Arithmetic.is
    (IfOk-weaker c.are_all_ints.result _ _
    (λ done takes. plain_goal_takes done c.args.self.now c.are_all_ints.new.self
    (λ types. (types c.in-Arithmetic.result ≡ IntType) × (types c.in-Arithmetic.left ≡ IntType) × (types c.in-Arithmetic.right ≡ IntType)) takes)
    c.are_all_ints.ensures)

pub returns-in-Compare : goal.returns-in-Compare
returns-in-Compare c =
    rw c.in-Compare.is
    (IfOk-weaker c.are_ints.result _ _
    (λ done takes. plain_goal_takes done c.args.self.now c.are_ints.new.self
    (λ types. (types c.in-Compare.left ≡ IntType) × (types c.in-Compare.right ≡ IntType)) takes)
    c.are_ints.ensures)

pub returns-in-Raise : goal.returns-in-Raise
returns-in-Raise c =
    rw c.in-Raise.is
    (IfOk-weaker c.is_text.result _ _
    (λ done takes. plain_goal_takes done c.args.self.now c.is_text.new.self (λ types. types c.in-Raise.text ≡ TextType) takes) c.is_text.ensures)

pub returns-in-Shape : goal.returns-in-Shape
returns-in-Shape c =
    rw c.in-Shape.is
    (IfOk-weaker c.take_symbol.result _ _
    (λ done takes. subst (λ (l : List ℕ). GoalTakes done c.args.self.now c.take_symbol.new.self (λ types. HasSymbol c.args.known.now types c.in-Shape.variable c.in-Shape.symbol l))
    c.as_slice.ensures takes) c.take_symbol.ensures)

pub returns-in-Call : goal.returns-in-Call
returns-in-Call c =
    rw c.in-Call.is
    (IfOk-weaker c.take_call.result _ _
    (λ done takes. subst (λ (l : List ℕ). GoalTakes done c.args.self.now c.take_call.new.self (λ types. IsCalled c.args.known.now types (slice_get c.args.known.now.preds c.in-Call.predicate) l))
    c.as_slice-in-Call.ensures takes) c.take_call.ensures)

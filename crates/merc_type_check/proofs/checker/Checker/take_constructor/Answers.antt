use Rattle.std.proofs.Common.{ℕ, ◌≤◌, List, sym, subst}
use Rattle.merc_tree.specs.Types.{TypeExpr}
use Rattle.merc_type_check.specs.TypeNumbers.{AreNumbers}
use Rattle.std.proofs.lemmas.Result.{IfOk-weaker}
use Rattle.merc_type_check.specs.Typing.{HaveTypes}
use Rattle.merc_type_check.proofs.Steps.{step_takes}
use Rattle.merc_type_check.proofs.Asked.{HasWhole, whole_taken, taken, refused, refuses_more}
use Rattle.merc_type_check.proofs.checker.Checker.take_constructor.Goals as goal

pub returns-then-not-done : goal.returns-then-not-done
returns-then-not-done c = λ known.
    refuses_more c.args.self.now (HasWhole c.args.user c.args.variable c.args.declared.now) _ (λ types instance both. both.0)
    (refused c.in_ok-done.done c.args.self.now c.make_equal.new.self (HasWhole c.args.user c.args.variable c.args.declared.now) c.if-not-done.true
    (whole_taken c.args.user c.in_ok-done.done c.args.self.now c.variable.new.self c.whole.new.self c.make_equal.new.self c.in_ok-place.place c.in_ok-whole.whole c.args.variable
    c.args.declared.now c.in_ok-place.ensures c.in_ok-whole.ensures c.in_ok-done.ensures))

pub have_types-requires-clause-sound : goal.have_types-requires-clause-sound
have_types-requires-clause-sound c =
    let step = taken c.in_ok-done.done c.args.self.now c.make_equal.new.self (HasWhole c.args.user c.args.variable c.args.declared.now) c.if-not-done.false
    (whole_taken c.args.user c.in_ok-done.done c.args.self.now c.variable.new.self c.whole.new.self c.make_equal.new.self c.in_ok-place.place c.in_ok-whole.whole c.args.variable
    c.args.declared.now c.in_ok-place.ensures c.in_ok-whole.ensures c.in_ok-done.ensures) in
    step.sound

pub returns : goal.returns
returns c =
    let step = taken c.in_ok-done.done c.args.self.now c.make_equal.new.self (HasWhole c.args.user c.args.variable c.args.declared.now) c.if-not-done.false
    (whole_taken c.args.user c.in_ok-done.done c.args.self.now c.variable.new.self c.whole.new.self c.make_equal.new.self c.in_ok-place.place c.in_ok-whole.whole c.args.variable
    c.args.declared.now c.in_ok-place.ensures c.in_ok-whole.ensures c.in_ok-done.ensures) in
    IfOk-weaker c.have_types.result _ _
    (λ done takes. λ known. step_takes done c.args.self.now c.make_equal.new.self c.have_types.new.self (HasWhole c.args.user c.args.variable c.args.declared.now)
    (λ types instance. HaveTypes known types (instance c.args.user) c.args.arguments.now c.args.constructor.now.args) step (takes known)) c.have_types.ensures

pub have_types-requires-clause-numbers : goal.have_types-requires-clause-numbers
have_types-requires-clause-numbers c =
    let step = taken c.in_ok-done.done c.args.self.now c.make_equal.new.self (HasWhole c.args.user c.args.variable c.args.declared.now) c.if-not-done.false
    (whole_taken c.args.user c.in_ok-done.done c.args.self.now c.variable.new.self c.whole.new.self c.make_equal.new.self c.in_ok-place.place c.in_ok-whole.whole c.args.variable
    c.args.declared.now c.in_ok-place.ensures c.in_ok-whole.ensures c.in_ok-done.ensures) in
    subst (λ (t : List TypeExpr). AreNumbers t c.args.numbers.now c.args.constructor.now.args) (sym step.same_table) c.requires.numbers

pub whole-requires-clause-begun : goal.whole-requires-clause-begun
whole-requires-clause-begun c = subst (λ (n : ℕ). c.args.user ≤ n) (sym c.in_ok-place.ensures.grows.same_part) c.requires.begun

pub have_types-requires-clause-begun : goal.have_types-requires-clause-begun
have_types-requires-clause-begun c =
    let step = taken c.in_ok-done.done c.args.self.now c.make_equal.new.self (HasWhole c.args.user c.args.variable c.args.declared.now) c.if-not-done.false
    (whole_taken c.args.user c.in_ok-done.done c.args.self.now c.variable.new.self c.whole.new.self c.make_equal.new.self c.in_ok-place.place c.in_ok-whole.whole c.args.variable
    c.args.declared.now c.in_ok-place.ensures c.in_ok-whole.ensures c.in_ok-done.ensures) in
    subst (λ (n : ℕ). c.args.user ≤ n) (sym step.same_part) c.requires.begun

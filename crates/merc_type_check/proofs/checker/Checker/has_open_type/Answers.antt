use Rattle.std.proofs.Common.{◌<◌, ◌≤◌, ℕ, List, length, sym, subst}
use Rattle.std.proofs.lemmas.Result.{IfOk-weaker}
use Rattle.merc_tree.specs.Types.{TypeExpr, replaced}
use Rattle.merc_type_table.specs.Table.{type_at}
use Rattle.merc_type_check.specs.Progress.{Places}
use Rattle.merc_type_check.proofs.Asked.{two_equal}
use Rattle.merc_type_check.proofs.checker.Checker.has_open_type.Goals as goal

pub declared-requires-clause-there : goal.declared-requires-clause-there
declared-requires-clause-there c = subst (λ (t : List TypeExpr). c.args.number < length t) (sym c.in_ok-place.ensures.grows.same_table) c.requires.number

pub declared-requires-clause-begun : goal.declared-requires-clause-begun
declared-requires-clause-begun c = subst (λ (n : ℕ). c.args.user ≤ n) (sym c.in_ok-place.ensures.grows.same_part) c.requires.begun

pub returns : goal.returns
returns c =
    let placed : Places c.variable.new.self c.declared.new.self c.in_ok-other.other (λ types instance. replaced (instance c.args.user) (type_at c.args.self.now.graph.table c.args.number)) =
    subst (λ (t : List TypeExpr). Places c.variable.new.self c.declared.new.self c.in_ok-other.other (λ types instance. replaced (instance c.args.user) (type_at t c.args.number)))
    c.in_ok-place.ensures.grows.same_table c.in_ok-other.ensures.placed in
    IfOk-weaker c.make_equal.result _ _
    (λ done equal. two_equal done c.args.self.now c.variable.new.self c.declared.new.self c.make_equal.new.self c.in_ok-place.place
    c.in_ok-other.other (λ types instance. types c.args.variable) (λ types instance. replaced (instance c.args.user) (type_at c.args.self.now.graph.table c.args.number))
    c.in_ok-place.ensures placed equal)
    c.make_equal.ensures

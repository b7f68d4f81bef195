-- A file that breaks a rule is refused by that rule; else its procedures have the lines.
use Rattle.std.proofs.Common.{◌≤◌, arith, subst, sym, refl, List, ℕ, length}
use Rattle.std.specs.List.{IsDistinct}
use Rattle.std.specs.Str.{bytes_eq}
use Rattle.std.proofs.lemmas.Result.{IfOk-weaker}
use Rattle.merc_base.specs.Names.{HoldsFixed, fixed_names}
use Rattle.merc_base.proofs.NameLaws.{fixed_names-distinct}
use Rattle.merc_check.specs.Checked.{IsAccepted, Refuses}
use Rattle.merc_base.proofs.NameExamples.{HoldsFixed-fixed}
use Rattle.merc_check.proofs.CheckedLaws.{AreGraded-count}
use Rattle.merc_transfer.specs.Loading.{file_limit}
use Rattle.merc_transfer.specs.Statuses.{accepted_status}
use Rattle.merc_top.specs.Checking.{check_lines}
use Rattle.merc_top.specs.Output.IsCheckDue.{check_accepted}
use Rattle.merc_top.proofs.Dues.{check_due_by, fault-check}
use Rattle.merc_top.proofs.answering.check_due.Goals as goal

pub check-requires-clause-length : goal.check-requires-clause-length
unfolding file_limit
check-requires-clause-length c = let within : length c.args.text.now ≤ 1048576 = c.requires in omega (arith, within)

pub check-requires-clause-fixed : goal.check-requires-clause-fixed
check-requires-clause-fixed c = subst (λ (names : List (List ℕ)). HoldsFixed names) (sym c.new-names.ensures) HoldsFixed-fixed

pub check-requires-clause-distinct : goal.check-requires-clause-distinct
check-requires-clause-distinct c = subst (λ (names : List (List ℕ)). IsDistinct bytes_eq names) (sym c.new-names.ensures) fixed_names-distinct

pub returns-in-Err : goal.returns-in-Err
returns-in-Err c =
    IfOk-weaker c.fault_due.result _ _
    (λ due is. fault-check c.args.name.now c.args.text.now c.bytes.result.now c.in-Err.fault due (Refuses c.new-names.result c.args.text.now) c.bytes.ensures
    (λ refusal refuses. subst (λ (names : List (List ℕ)). Refuses names c.args.text.now refusal) c.new-names.ensures refuses) c.in-Err.ensures.refused is)
    c.fault_due.ensures

pub returns-in-Ok : goal.returns-in-Ok
returns-in-Ok c =
    let names = c.check.new.names in
    let checked = c.in-Ok.checked in
    let is_accepted =
    subst (λ (before : List (List ℕ)). IsAccepted before names c.args.text.now checked.items checked.module) c.new-names.ensures c.in-Ok.ensures.accepted in
    let graded = c.in-Ok.ensures.graded in
    let count = AreGraded-count fixed_names c.args.text.now fixed_names-distinct HoldsFixed-fixed names checked.items checked.module is_accepted checked.trees graded in
    IfOk-weaker c.accepted_due-due.result _ _
    (λ due is. check_due_by c.args.name.now c.args.text.now due.lines (check_lines names checked.module checked.trees) due.status accepted_status (is.0 (omega (arith, count))) is.1
    (check_accepted names checked.items checked.module checked.trees is_accepted graded))
    c.accepted_due-due.ensures

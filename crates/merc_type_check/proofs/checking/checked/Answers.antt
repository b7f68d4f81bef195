use Rattle.std.proofs.Common.{◌≡◌, ℕ, ◌+◌, ◌<◌, ◌≤◌, List, map, sym, ap, subst, ◌∙◌, arith}
use Rattle.merc_goal_tree.specs.Parts.{parts_of}
use Rattle.merc_tree.specs.Types.{TypeExpr}
use Rattle.merc_type_table.specs.Table.{type_at}
use Rattle.merc_type_check.specs.Checked.{head_of}
use Rattle.merc_type_matching.specs.Kept.{AreKept}
use Rattle.merc_type_matching.specs.Listed.{AreWithin}
use Rattle.merc_tree.specs.declared.declarations.Module.{Module}
use Rattle.merc_type_check.specs.declared.checker.Checker.{Checker}
use Rattle.merc_type_check.specs.Progress.{begun, GoalRefuses, GoalStep, GoalTakes, Knows, Takes, Types}
use Rattle.merc_type_check.specs.Repeats.{IsRepeatedIf}
use Rattle.merc_type_check.specs.Typing.{AreArguments, IsTypedPart}
use Rattle.merc_type_check.proofs.Steps.{knows_begun}
use Rattle.merc_type_check.proofs.Asked.{taken, refused, some_there}
use Rattle.merc_type_check.proofs.Numbers.{numbers_types, numbers_within}
use Rattle.merc_type_check.proofs.Told.{head_known, head_untyped, part_known, part_repeated, part_untyped, all_known, IsTypedUpTo}
use Rattle.merc_type_check.proofs.checking.checked.Goals.{then-not-branch+in_ok-done-in-Some+else-not-done-2, else-not-branch}
use Rattle.merc_type_check.proofs.checking.checked.Goals as goal

pub take_head-requires-clause-numbers : goal.take_head-requires-clause-numbers
take_head-requires-clause-numbers c =
    subst (λ (t : List TypeExpr). AreWithin t c.head_numbers.result.now) (sym (c.new-checker.ensures.table ∙ c.listed.ensures))
    (numbers_within c.args.declared.now.table c.head_numbers.result.now (head_of c.args.known.now c.args.predicate) (c.head_numbers.ensures c.args.known.now c.requires.declared))

pub returns-then-not-done-clause-none : goal.returns-then-not-done-clause-none
returns-then-not-done-clause-none c =
    let head : map (type_at c.new-checker.result.graph.table) c.head_numbers.result.now ≡ head_of c.args.known.now c.args.predicate =
    subst (λ (t : List TypeExpr). map (type_at t) c.head_numbers.result.now ≡ head_of c.args.known.now c.args.predicate) (sym (c.new-checker.ensures.table ∙ c.listed.ensures))
    (numbers_types c.args.declared.now.table c.head_numbers.result.now (head_of c.args.known.now c.args.predicate) (c.head_numbers.ensures c.args.known.now c.requires.declared)) in
    head_untyped c.new-checker.result c.args.known.now (head_of c.args.known.now c.args.predicate) c.args.goal.now c.new-checker.ensures.free
    (refused c.in_ok-done.done c.new-checker.result c.take_head.new.self (λ types instance. AreArguments c.args.known.now types 0 (head_of c.args.known.now c.args.predicate))
    c.if-not-done.true
    (subst (λ (l : List TypeExpr). Takes c.in_ok-done.done c.new-checker.result c.take_head.new.self (λ types instance. AreArguments c.args.known.now types 0 l)) head
    (c.in_ok-done.ensures c.args.known.now)))

pub loop-index-init : goal.loop-index-init
loop-index-init c =
    let head : map (type_at c.new-checker.result.graph.table) c.head_numbers.result.now ≡ head_of c.args.known.now c.args.predicate =
    subst (λ (t : List TypeExpr). map (type_at t) c.head_numbers.result.now ≡ head_of c.args.known.now c.args.predicate) (sym (c.new-checker.ensures.table ∙ c.listed.ensures))
    (numbers_types c.args.declared.now.table c.head_numbers.result.now (head_of c.args.known.now c.args.predicate) (c.head_numbers.ensures c.args.known.now c.requires.declared)) in
    let step = taken c.in_ok-done.done c.new-checker.result c.take_head.new.self
    (λ types instance. AreArguments c.args.known.now types 0 (head_of c.args.known.now c.args.predicate)) c.if-not-done.false
    (subst (λ (l : List TypeExpr). Takes c.in_ok-done.done c.new-checker.result c.take_head.new.self (λ types instance. AreArguments c.args.known.now types 0 l)) head
    (c.in_ok-done.ensures c.args.known.now)) in
    record {
      knows = head_known c.new-checker.result c.take_head.new.self c.args.known.now (head_of c.args.known.now c.args.predicate) c.args.goal.now c.new-checker.ensures.free step;
      table = sym (step.same_table ∙ c.new-checker.ensures.table ∙ c.listed.ensures);
      part = let first = step.same_part ∙ c.new-checker.ensures.first in omega arith;
      mode = step.same_mode ∙ c.new-checker.ensures.mode;
    }

knows_now : (old now : Checker) (Asked : Types → Type 0) (number : ℕ) → now ≡ begun old number → old.part < number → Knows old Asked → Knows now Asked
knows_now old now Asked number same less knows = subst (λ (one : Checker). Knows one Asked) (sym same) (knows_begun old number Asked less knows)

pub begin-requires : goal.begin-requires
begin-requires c = let less = c.loop-index.invariant.part in omega arith

pub take_part-requires-clause-sound : goal.take_part-requires-clause-sound
take_part-requires-clause-sound c =
    (knows_now c.loop-index.checker c.begin.new.self (IsTypedUpTo c.args.known.now (head_of c.args.known.now c.args.predicate) c.args.goal.now c.loop-index.index)
    (c.loop-index.index + 1) c.begin.ensures.same (let less = c.loop-index.invariant.part in omega arith) c.loop-index.invariant.knows).sound

pub take_part-requires-clause-table : goal.take_part-requires-clause-table
take_part-requires-clause-table c = c.loop-index.invariant.table ∙ ap (λ (one : Checker). one.graph.table) (sym c.begin.ensures.same)

pub take_part-requires-clause-fresh : goal.take_part-requires-clause-fresh
take_part-requires-clause-fresh c = c.begin.ensures.fresh c.loop-index.invariant.knows.sound

pub returns-then-not-done-2-clause-none : goal.returns-then-not-done-2-clause-none
returns-then-not-done-2-clause-none c =
    let refuses : GoalRefuses c.begin.new.self (λ types. IsTypedPart c.args.known.now types (c.in-Some.part.now, c.in-Some.field-0-1)) =
    subst (λ b. GoalTakes b c.begin.new.self c.take_part.new.self (λ types. IsTypedPart c.args.known.now types (c.in-Some.part.now, c.in-Some.field-0-1)))
    c.if-not-done-2.true (c.in_ok-done-in-Some.ensures c.in-Some.field-0-1) in
    part_untyped c.begin.new.self c.args.known.now (head_of c.args.known.now c.args.predicate) c.args.goal.now c.loop-index.index (c.in-Some.part.now, c.in-Some.field-0-1)
    c.in-Some.ensures
    (knows_now c.loop-index.checker c.begin.new.self (IsTypedUpTo c.args.known.now (head_of c.args.known.now c.args.predicate) c.args.goal.now c.loop-index.index)
    (c.loop-index.index + 1) c.begin.ensures.same (let less = c.loop-index.invariant.part in omega arith) c.loop-index.invariant.knows) refuses

pub unreachable-requires : goal.unreachable-requires
unreachable-requires c =
    let less = c.loop-index-test.true in
    let same = c.part_count-count.ensures in
    some_there (parts_of c.args.goal.now) c.loop-index.index c.in-None.ensures (omega arith)

pub loop-index-preserved : goal.loop-index-preserved
loop-index-preserved c =
    let known : Module = c.args.known.now in
    let arguments : List TypeExpr = head_of known c.args.predicate in
    let index : ℕ = c.loop-index.index in
    let part_before = c.loop-index.invariant.part in
    elim c.if-not-branch.branch [
      | then-not-branch+in_ok-done-in-Some+else-not-done-2 w ↦
          let step : GoalStep w.begin.new.self w.take_part.new.self (λ types. IsTypedPart known types (c.in-Some.part.now, c.in-Some.field-0-1)) =
          subst (λ b. GoalTakes b w.begin.new.self w.take_part.new.self (λ types. IsTypedPart known types (c.in-Some.part.now, c.in-Some.field-0-1)))
          w.if-not-done-2.false (w.in_ok-done-in-Some.ensures c.in-Some.field-0-1) in
          let begun_is = w.begin.ensures.same in
          let part_is : w.take_part.new.self.part ≡ index + 1 = step.same_part ∙ ap (λ (one : Checker). one.part) begun_is in
          record {
            knows = subst (λ (one : Checker). Knows one (IsTypedUpTo known arguments c.args.goal.now (index + 1))) (sym w.checker-is)
                (part_known w.begin.new.self w.take_part.new.self known arguments c.args.goal.now index (c.in-Some.part.now, c.in-Some.field-0-1) c.in-Some.ensures
                (knows_now c.loop-index.checker w.begin.new.self (IsTypedUpTo known arguments c.args.goal.now index) (index + 1) begun_is (omega arith)
                c.loop-index.invariant.knows) step);
            table = c.loop-index.invariant.table ∙ ap (λ (one : Checker). one.graph.table) (sym begun_is) ∙ sym step.same_table
                ∙ ap (λ (one : Checker). one.graph.table) (sym w.checker-is);
            part = subst (λ (one : Checker). one.part ≤ index + 1) (sym w.checker-is) (omega arith);
            mode = ap (λ (one : Checker). one.may_wait) w.checker-is ∙ step.same_mode ∙ ap (λ (one : Checker). one.may_wait) begun_is ∙ c.loop-index.invariant.mode;
          }
      | else-not-branch w ↦ record {
        knows = subst (λ (one : Checker). Knows one (IsTypedUpTo known arguments c.args.goal.now (index + 1))) (sym w.checker-is)
            (part_repeated c.loop-index.checker known arguments c.args.goal.now index c.in-Some.part.now c.in-Some.field-0-1 c.in-Some.ensures
            (subst (λ b. IsRepeatedIf b (parts_of c.args.goal.now) index c.in-Some.part.now) w.if-not-branch.false c.in_ok-is_repeated-in-Some.ensures)
            c.loop-index.invariant.knows);
        table = c.loop-index.invariant.table ∙ ap (λ (one : Checker). one.graph.table) (sym w.checker-is);
        part = subst (λ (one : Checker). one.part ≤ index + 1) (sym w.checker-is) (omega arith);
        mode = ap (λ (one : Checker). one.may_wait) w.checker-is ∙ c.loop-index.invariant.mode;
      }
    ]

pub returns-clause-some : goal.returns-clause-some
returns-clause-some c =
    let less = c.loop-index-test.false in
    let same = c.part_count-count.ensures in
    all_known c.loop-index.checker c.args.known.now (head_of c.args.known.now c.args.predicate) c.args.goal.now c.loop-index.index (omega arith) c.loop-index.invariant.knows

pub returns-clause-table : goal.returns-clause-table
returns-clause-table c = c.loop-index.invariant.table

pub new-checker-requires : goal.new-checker-requires
new-checker-requires c = subst (λ (t : List TypeExpr). AreKept t c.args.matchings) (sym c.listed.ensures) c.requires.kept

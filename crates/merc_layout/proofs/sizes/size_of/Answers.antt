use Rattle.std.proofs.Common.{◌≡◌, ◌+◌, ◌≤◌, arith}
use Rattle.merc_layout.proofs.Rooms.{fits_within, lends_within, within-step}
use Rattle.merc_layout.proofs.sizes.size_of.Goals as goal

pub loop-instruction-preserved : goal.loop-instruction-preserved
loop-instruction-preserved c =
    let own = c.max-own.ensures in
    let used = c.max-used.ensures in
    let more = c.max-variables.ensures in
    let marks = c.max-marks.ensures in
    let above_written : c.in_ok-above_written.field-0 ≤ c.max-variables.result = omega (arith, own, used, more) in
    let above_read : c.in_ok-above_read.field-0 ≤ c.max-variables.result = omega (arith, own, used, more) in
    let above_lent : c.above_lent.result ≤ c.max-variables.result = omega (arith, used, more) in
    let above_marks : c.in_ok-above_marks.field-0 ≤ c.max-marks.result = omega (arith, marks) in
    record {
      arguments = omega (arith, c.loop-instruction.invariant.arguments, more);
      within = λ conjuncts told. within-step conjuncts c.args.code.now c.loop-instruction.instruction-index c.instruction-item.result c.loop-instruction.variables c.loop-instruction.marks c.max-variables.result c.max-marks.result
          c.loop-instruction-test.true c.instruction-item.is (omega (arith, more)) (omega (arith, marks)) (c.loop-instruction.invariant.within conjuncts told) (record {
            written_variables_are_there = λ k d h. let e = c.in_ok-above_written.ensures k d h in omega (arith, e, above_written);
            set_marks_are_there = λ k d h. let e = c.in_ok-above_marks.ensures.0 k d h in omega (arith, e, above_marks);
            read_variables_are_there = λ k d h. let e = c.in_ok-above_read.ensures k d h in omega (arith, e, above_read);
            read_marks_are_there = λ k d h. let e = c.in_ok-above_marks.ensures.1 k d h in omega (arith, e, above_marks);
            lent_variables_are_there = λ k d h. let e = c.above_lent.ensures conjuncts told k d h in omega (arith, e, above_lent);
          });
    }

pub returns-in-Some : goal.returns-in-Some
returns-in-Some c = λ conjuncts told.
    let sum : c.in-Some.slots ≡ c.loop-instruction.variables + c.loop-instruction.marks = c.in-Some.ensures.1 in
    record {
      room = omega (arith, sum);
      arguments = c.loop-instruction.invariant.arguments;
      fits = fits_within conjuncts c.args.code.now c.loop-instruction.instruction-index c.loop-instruction.variables c.loop-instruction.marks c.in-Some.slots c.loop-instruction-test.false sum
          (c.loop-instruction.invariant.within conjuncts told);
      lends = lends_within conjuncts c.args.code.now c.loop-instruction.instruction-index c.loop-instruction.variables c.loop-instruction.marks c.loop-instruction-test.false
          (c.loop-instruction.invariant.within conjuncts told);
    }

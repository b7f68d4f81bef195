use Rattle.std.proofs.Common.{◌≡◌, ℕ, Bool, false, not, eqb, length, inl, inr, refl, sym, subst, ◌∙◌, arith}
use Rattle.std.proofs.lemmas.Bool.Decides.{nat_tests}
use Rattle.std.proofs.lemmas.List.{take_all}
use Rattle.std.proofs.lemmas.Option.{slice_get_read}
use Rattle.std.specs.List.{AllByRecursion}
use Rattle.merc_type_check.specs.Serving.{IsClosedBut}
use Rattle.merc_type_matching.proofs.Parts.{within_at}
use Rattle.merc_type_check.proofs.Serving.{closed_push}
use Rattle.merc_type_check.proofs.checker.Checker.is_open_alone.Goals.{else-ne-via-then-ne+else-not-is_closed, else-ne-via-else-ne}
use Rattle.merc_type_check.proofs.checker.Checker.is_open_alone.Goals as goal

same_number : (a b : ℕ) (differs : Bool) → differs ≡ not (eqb a b) → differs ≡ false → a ≡ b
same_number a b differs e f = grind (arith, nat_tests)

pub is_closed-requires-clause-declared : goal.is_closed-requires-clause-declared
is_closed-requires-clause-declared c =
    within_at c.args.self.now.graph.table c.args.numbers.now c.loop-number.number-index c.number-item.result c.requires.within
    (slice_get_read c.args.numbers.now (length c.args.numbers.now) c.loop-number.number-index c.number-item.result refl c.loop-number-test.true c.number-item.is)

pub loop-number-preserved : goal.loop-number-preserved
loop-number-preserved c =
    closed_push c.args.self.now.graph.table c.args.only c.args.numbers.now c.loop-number.number-index c.number-item.result
    (slice_get_read c.args.numbers.now (length c.args.numbers.now) c.loop-number.number-index c.number-item.result refl c.loop-number-test.true c.number-item.is)
    c.loop-number.invariant
    (elim c.else-ne.branch [
      | else-ne-via-then-ne+else-not-is_closed w ↦ inl (sym w.is_closed.ensures ∙ w.if-not-is_closed.false)
      | else-ne-via-else-ne w ↦ inr (same_number c.number-item.result c.args.only c.ne.result c.ne.ensures w.if-ne.false)
    ])

pub returns : goal.returns
returns c = λ yes.
    subst (AllByRecursion (IsClosedBut c.args.self.now.graph.table c.args.only)) (take_all c.loop-number.number-index c.args.numbers.now c.loop-number-test.false)
    c.loop-number.invariant

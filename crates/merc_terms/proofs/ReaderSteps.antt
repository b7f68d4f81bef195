-- Each move of the reader is a step.
use Rattle.std.proofs.Common.{◌≡◌, ℕ, suc, ◌+◌, ◌<◌, ◌≤◌, List, [], ◌∷◌, length, Option, Some, None, refl, sym, ap, subst, ◌∙◌, arith}
use Rattle.std.specs.Borrow.{Bor}
use Rattle.merc_base.specs.declared.place.Span.{Span}
use Rattle.merc_tokens.specs.declared.token.Token.{Token}
use Rattle.merc_terms.specs.declared.built.Built.{Built}
use Rattle.merc_terms.specs.declared.operators.Operator.{Operator}
use Rattle.merc_terms.specs.declared.frame.Bound.{Bound}
use Rattle.merc_terms.specs.declared.frame.Role.TheVariants.{RightOperand}
use Rattle.merc_terms.specs.declared.frame.Frame.{Frame}
use Rattle.merc_terms.specs.declared.starting.Start.{Start}
use Rattle.merc_terms.specs.declared.moving.Move.{Move}
use Rattle.merc_terms.specs.declared.moving.Move.TheVariants.{Have as HaveMove, Open, Refused as RefusedMove}
use Rattle.merc_terms.specs.declared.moving.Progress.{Progress}
use Rattle.merc_terms.specs.declared.reading.Reader.{Reader}
use Rattle.merc_terms.specs.declared.reading.State.{State}
use Rattle.merc_terms.specs.declared.reading.State.TheVariants.{Need, Have, Whole, Refused}
use Rattle.merc_terms.specs.Operators.{last_most}
use Rattle.merc_terms.specs.Reader.{Reading, Read, frame_of, operand_bound, started_by, closed_by, infix_at, finished, whole_bound, whole_term}
use Rattle.merc_terms.specs.Starting.{start_at}
use Rattle.merc_terms.specs.Moves.{begun_in, filled_in, pending_in, counted_in, least_taken, read_of, Keeps}
use Rattle.merc_terms.specs.Standing.{pending_all, counted_all, Stands, Comes, Leads, Steps, Entered}
use Rattle.merc_terms.proofs.ReaderLaws.{Arrives, refused, begun, filled, ended, gone_on}

abbrev progress_of : Built → Bor (List Token) → Progress
progress_of built rest = record { built = built; rest = rest }

abbrev reader_of : Progress → Bound → List Frame → Reader
reader_of progress bound frames = record { progress = progress; bound = bound; frames = frames }

-- no term begins
pub refused_step : (old : Reader) → Stands Need old → start_at old.progress.rest.now ≡ None → Steps Need old Refused old
refused_step old stands e = record {
  stands = record { built = stands.built; few = stands.few };
  leads = λ answer comes. refused old.bound old.progress.built old.progress.rest.now old.frames answer e comes;
  falls = omega arith;
}

-- a term begins with this
pub begun_step : (old new : Reader) (built : Built) (rest : Bor (List Token)) (start : Start) (to : Move) (state : State) → Stands Need old → start_at old.progress.rest.now ≡ Some (start, rest.now)
    → length rest.now < length old.progress.rest.now
    → ((parts : Reading) (tokens : List Token) → begun_in parts old.bound built tokens to ≡ started_by parts old.bound old.progress.built start tokens)
    → length old.progress.built.terms + pending_in to ≤ length built.terms → counted_in to ≤ 1
    → Entered to old.bound (reader_of (progress_of built rest) old.bound old.frames) state new → Steps Need old state new
begun_step old new built rest start (HaveMove span priority) state stands e shorter same more few entered =
    rw (entered.0, entered.1) (record {
      stands = record { built = omega (arith, stands.built); few = omega (arith, stands.few) };
      leads = λ answer comes. begun old.bound old.progress.built built old.progress.rest.now rest.now start (HaveMove span priority) old.frames answer e (λ parts. same parts rest.now) shorter comes;
      falls = omega arith;
    })
begun_step old new built rest start (Open role inner) state stands e shorter same more few entered =
    rw (entered.0, entered.1) (record {
      stands = record { built = omega (arith, stands.built); few = omega (arith, stands.few) };
      leads = λ answer comes. begun old.bound old.progress.built built old.progress.rest.now rest.now start (Open role inner) old.frames answer e (λ parts. same parts rest.now) shorter comes;
      falls = omega arith;
    })
begun_step old new built rest start RefusedMove state stands e shorter same more few entered =
    rw (entered.0, entered.1) (record {
      stands = record { built = omega (arith, stands.built); few = omega (arith, stands.few) };
      leads = λ answer comes. begun old.bound old.progress.built built old.progress.rest.now rest.now start RefusedMove old.frames answer e (λ parts. same parts rest.now) shorter comes;
      falls = omega arith;
    })

-- an infix operator goes on behind a term
pub operator_step : (old : Reader) (rest : Bor (List Token)) (span : Span) (priority : ℕ) (operator : Operator) (inner : Bound) (frames : List Frame) → Stands (Have span priority) old
    → infix_at old.bound priority old.progress.rest.now ≡ Some (operator, rest.now) → length rest.now < length old.progress.rest.now
    → inner ≡ operand_bound (last_most operator) old.bound → frames ≡ frame_of (RightOperand operator span) old.bound ∷ old.frames
    → Steps (Have span priority) old Need (reader_of (progress_of old.progress.built rest) inner frames)
operator_step old rest span priority operator inner frames stands e shorter within pushed =
    rw (within, pushed) (record {
      stands = record { built = omega (arith, stands.built); few = omega (arith, stands.few) };
      leads = λ answer comes. gone_on old.bound old.progress.built span priority old.progress.rest.now rest.now operator old.frames answer e shorter comes;
      falls = omega arith;
    })

-- the whole term was read
pub whole_step : (old : Reader) (span : Span) (priority : ℕ) (frames : List Frame) → pending_all old.frames + 1 ≤ length old.progress.built.terms
    → counted_all old.frames + length old.progress.rest.now < 18446744073709551616 → infix_at old.bound priority old.progress.rest.now ≡ None → old.frames ≡ [] → frames ≡ []
    → Steps (Have span priority) old Whole (reader_of old.progress old.bound frames)
whole_step old span priority frames enough few e none none' = rw none' (record {
  stands = record { built = omega arith; few = omega arith };
  leads = λ answer comes. (span, priority, alone (ended old.bound old.progress.built span priority old.progress.rest.now old.frames answer e comes));
  falls = omega arith;
})
  where
    alone : {answer : Option Read} → Comes (λ n. Some (read_of old.progress span priority)) old.frames (length old.progress.rest.now) answer → answer ≡ Some (read_of old.progress span priority)
    alone comes = sym comes.is ∙ ap (λ (frames : List Frame). finished comes.steps frames (Some (read_of old.progress span priority))) none

-- what becomes of an open term whose part was read
part_filled : (old : Reader) (built : Built) (rest : List Token) (frame : Frame) (frames : List Frame) (span : Span) (priority : ℕ) (to : Move) (answer : Option Read)
    → infix_at old.bound priority old.progress.rest.now ≡ None → old.frames ≡ frame ∷ frames
    → ((parts : Reading) (priority : ℕ) → filled_in parts frame.bound built rest to ≡ closed_by parts frame.role frame.bound (read_of old.progress span priority))
    → length rest + least_taken to ≤ length old.progress.rest.now → Leads (Have span priority) old answer → Arrives to frame.bound built frames rest answer
part_filled old built rest frame frames span priority to answer e popped same taken comes =
    let open' : Comes (λ n. Some (read_of old.progress span priority)) (frame ∷ frames) (length old.progress.rest.now) answer =
    subst (λ (frames : List Frame). Comes (λ n. Some (read_of old.progress span priority)) frames (length old.progress.rest.now) answer) popped
    (ended old.bound old.progress.built span priority old.progress.rest.now old.frames answer e comes) in
    filled frame (read_of old.progress span priority) built rest to frames answer (λ parts. same parts priority) taken open'

-- an open term whose part was read
pub filled_step : (old new : Reader) (built : Built) (rest : Bor (List Token)) (frame : Frame) (frames : List Frame) (span : Span) (priority : ℕ) (to : Move) (state : State)
    → pending_all old.frames + 1 ≤ length old.progress.built.terms → counted_all old.frames + length old.progress.rest.now < 18446744073709551616
    → infix_at old.bound priority old.progress.rest.now ≡ None → old.frames ≡ frame ∷ frames
    → ((parts : Reading) (priority : ℕ) → filled_in parts frame.bound built rest.now to ≡ closed_by parts frame.role frame.bound (read_of old.progress span priority))
    → Keeps frame.role old.progress to (progress_of built rest) → Entered to frame.bound (reader_of (progress_of built rest) old.bound frames) state new → Steps (Have span priority) old state new
filled_step old new built rest frame frames span priority (HaveMove span' priority') state enough few e popped same keeps entered =
    rw (entered.0, entered.1) (record {
      stands = record { built = omega (arith, ap pending_all popped, keeps.built); few = omega (arith, ap counted_all popped, keeps.few) };
      leads = λ answer comes. part_filled old built rest.now frame frames span priority (HaveMove span' priority') answer e popped same keeps.taken comes;
      falls = omega (arith, ap (λ (frames : List Frame). length frames) popped, keeps.taken);
    })
filled_step old new built rest frame frames span priority (Open role inner) state enough few e popped same keeps entered =
    rw (entered.0, entered.1) (record {
      stands = record { built = omega (arith, ap pending_all popped, keeps.built); few = omega (arith, ap counted_all popped, keeps.few) };
      leads = λ answer comes. part_filled old built rest.now frame frames span priority (Open role inner) answer e popped same keeps.taken comes;
      falls = omega (arith, ap (λ (frames : List Frame). length frames) popped, keeps.taken);
    })
filled_step old new built rest frame frames span priority RefusedMove state enough few e popped same keeps entered =
    rw (entered.0, entered.1) (record {
      stands = record { built = omega (arith, ap pending_all popped, keeps.built); few = omega (arith, ap counted_all popped, keeps.few) };
      leads = λ answer comes. part_filled old built rest.now frame frames span priority RefusedMove answer e popped same keeps.taken comes;
      falls = omega (arith, ap (λ (frames : List Frame). length frames) popped, keeps.taken);
    })

-- The reading of a whole term starts.
pub record Starts (progress : Progress) (reader : Reader) : Type 0 where
  pub stands : Stands Need reader
  pub leads : Leads Need reader (whole_term progress.built progress.rest.now)

pub starts : (progress : Progress) (bound : Bound) (frames : List Frame) → length progress.rest.now < 18446744073709551616 → bound ≡ whole_bound → frames ≡ [] → Starts progress (reader_of progress bound frames)
starts progress bound frames few whole none = rw (whole, none) (record {
  stands = record { built = omega arith; few = omega arith };
  leads = record { n = suc (length progress.rest.now); steps = []; enough = omega arith; each = tt; is = refl };
})

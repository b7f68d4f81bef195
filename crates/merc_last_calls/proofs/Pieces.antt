-- A piece of a run with last calls is one without them.
use Rattle.std.proofs.Common.{◌≡◌, List, ℕ, zero, suc, ◌+◌, ap, ◌∙◌, subst, arith}
use Rattle.merc_meaning.specs.Trace.{Env, RunEnd}
use Rattle.merc_course.specs.Course.{Meeting, Reply}
use Rattle.merc_code.specs.Steps.{Codes, State, Step, Stops, Moves, Ticks, Answers, Asks}
use Rattle.merc_code.specs.Meaning.{Goes, stays, moves, ticks}
use Rattle.merc_last_calls.specs.LastCalls.{step_lean}
use Rattle.merc_last_calls.specs.LeanMeaning.{GoesLean, stays as stays_lean, moves as moves_lean, ticks as ticks_lean}
use Rattle.merc_last_calls.specs.Standing.{Matches, Ahead, stops as stops_too, moves as moves_too, ticks as ticks_too, answers as answers_too, asks as asks_too, stuck, behind, Follows, FollowsAnswer, FollowsAsk, FollowsStop}
use Rattle.merc_last_calls.proofs.StepParts.{same_moves, same_ticks, same_answers, same_asks}
use Rattle.merc_last_calls.proofs.Leaning.{ahead}

-- Given is the code of the procedures.
module _ (codes : Codes) where
  joined : (n m k : ℕ) (one middle last : State) → k ≡ n + m → Goes codes n one middle → Goes codes m middle last → Goes codes k one last
  joined n m k one middle last e (stays _) h = subst (λ x. Goes codes x middle last) (let f : m ≡ k = omega (arith, e) in f) h
  joined n m k one middle last e (moves _ _ next _ q g) h = moves k one next last q (joined n m k next middle last e g h)
  joined n m zero one middle last e (ticks n' _ next _ q g) h = absurd (omega (arith, e))
  joined n m (suc k) one middle last e (ticks n' _ next _ q g) h = ticks k one next last q (joined n' m k next middle last (omega (arith, e)) g h)

  moved : (made : Step) (lean state : State) → Ahead codes made state → made ≡ Moves lean → Follows codes zero lean state
  moved made lean state (stops_too _ end q) h = absurd cc
  moved made lean state (moves_too lean' _ next q m) h =
      record { there = next; goes = moves zero state next next q (stays next); matches = subst (λ s. Matches s next) (same_moves lean' lean h) m }
  moved made lean state (ticks_too lean' _ next q m) h = absurd cc
  moved made lean state (answers_too lean' _ next values q m) h = absurd cc
  moved made lean state (asks_too lean' _ what forked next q m) h = absurd cc
  moved made lean state (stuck _ q) h = absurd cc
  moved made lean state (behind _ _ next q g) h = let f = moved made lean next g h in record { there = f.there; goes = moves zero state next f.there q f.goes; matches = f.matches }

  ticked : (made : Step) (lean state : State) → Ahead codes made state → made ≡ Ticks lean → Follows codes 1 lean state
  ticked made lean state (stops_too _ end q) h = absurd cc
  ticked made lean state (moves_too lean' _ next q m) h = absurd cc
  ticked made lean state (ticks_too lean' _ next q m) h =
      record { there = next; goes = ticks zero state next next q (stays next); matches = subst (λ s. Matches s next) (same_ticks lean' lean h) m }
  ticked made lean state (answers_too lean' _ next values q m) h = absurd cc
  ticked made lean state (asks_too lean' _ what forked next q m) h = absurd cc
  ticked made lean state (stuck _ q) h = absurd cc
  ticked made lean state (behind _ _ next q g) h = let f = ticked made lean next g h in record { there = f.there; goes = moves 1 state next f.there q f.goes; matches = f.matches }

  answered : (made : Step) (values : Env) (lean state : State) → Ahead codes made state → made ≡ Answers values lean → FollowsAnswer codes values lean state
  answered made values lean state (stops_too _ end q) h = absurd cc
  answered made values lean state (moves_too lean' _ next q m) h = absurd cc
  answered made values lean state (ticks_too lean' _ next q m) h = absurd cc
  answered made values lean state (answers_too lean' _ next values' q m) h =
      let parts = same_answers values' values lean' lean h in
      record { before = state; there = next; goes = stays state; answers = q ∙ ap (λ v. Answers v next) parts.0; matches = subst (λ s. Matches s next) parts.1 m }
  answered made values lean state (asks_too lean' _ what forked next q m) h = absurd cc
  answered made values lean state (stuck _ q) h = absurd cc
  answered made values lean state (behind _ _ next q g) h =
      let f = answered made values lean next g h in
      record { before = f.before; there = f.there; goes = moves zero state next f.before q f.goes; answers = f.answers; matches = f.matches }

  stopped : (made : Step) (end : RunEnd) (state : State) → Ahead codes made state → made ≡ Stops end → FollowsStop codes end state
  stopped made end state (stops_too _ end' q) h = record { before = state; goes = stays state; stops = q ∙ h }
  stopped made end state (moves_too lean' _ next q m) h = absurd cc
  stopped made end state (ticks_too lean' _ next q m) h = absurd cc
  stopped made end state (answers_too lean' _ next values q m) h = absurd cc
  stopped made end state (asks_too lean' _ what forked next q m) h = absurd cc
  stopped made end state (stuck _ q) h = absurd cc
  stopped made end state (behind _ _ next q g) h =
      let f = stopped made end next g h in
      record { before = f.before; goes = moves zero state next f.before q f.goes; stops = f.stops }

  asked : (made : Step) (what : Meeting) (forked : List State) (lean : Reply → State) (state : State) → Ahead codes made state → made ≡ Asks what forked lean → FollowsAsk codes what forked lean state
  asked made what forked lean state (stops_too _ end' q) h = absurd cc
  asked made what forked lean state (moves_too lean' _ next q m) h = absurd cc
  asked made what forked lean state (ticks_too lean' _ next q m) h = absurd cc
  asked made what forked lean state (answers_too lean' _ next values q m) h = absurd cc
  asked made what forked lean state (asks_too lean' _ what' forked' next q m) h =
      let parts = same_asks what' what forked' forked lean' lean h in
      record {
        before = state;
        there = next;
        goes = stays state;
        asks = q ∙ (ap (λ x. Asks x forked' next) parts.0 ∙ ap (λ x. Asks what x next) parts.1);
        matches = λ r. subst (λ f. Matches (f r) (next r)) parts.2 (m r);
      }
  asked made what forked lean state (stuck _ q) h = absurd cc
  asked made what forked lean state (behind _ _ next q g) h =
      let f = asked made what forked lean next g h in
      record { before = f.before; there = f.there; goes = moves zero state next f.before q f.goes; asks = f.asks; matches = f.matches }

  pub goes : (count : ℕ) (lean last : State) → GoesLean codes count lean last → (state : State) → Matches lean state → Follows codes count last state
  goes count lean last (stays_lean _) state m = record { there = state; goes = stays state; matches = m }
  goes count lean last (moves_lean _ _ next _ q g) state m =
      let f = moved (step_lean codes lean) next state (ahead codes lean state m) q in
      let h = goes count next last g f.there f.matches in
      record { there = h.there; goes = joined zero count count state f.there h.there (omega arith) f.goes h.goes; matches = h.matches }
  goes count lean last (ticks_lean less _ next _ q g) state m =
      let f = ticked (step_lean codes lean) next state (ahead codes lean state m) q in
      let h = goes less next last g f.there f.matches in
      record { there = h.there; goes = joined 1 less (suc less) state f.there h.there (omega arith) f.goes h.goes; matches = h.matches }

  pub answers : (lean next state : State) (values : Env) → step_lean codes lean ≡ Answers values next → Matches lean state → FollowsAnswer codes values next state
  answers lean next state values q m = answered (step_lean codes lean) values next state (ahead codes lean state m) q

  pub stops : (lean state : State) (end : RunEnd) → step_lean codes lean ≡ Stops end → Matches lean state → FollowsStop codes end state
  stops lean state end q m = stopped (step_lean codes lean) end state (ahead codes lean state m) q

  pub asks : (lean state : State) (what : Meeting) (forked : List State) (next : Reply → State) → step_lean codes lean ≡ Asks what forked next → Matches lean state → FollowsAsk codes what forked next state
  asks lean state what forked next q m = asked (step_lean codes lean) what forked next state (ahead codes lean state m) q

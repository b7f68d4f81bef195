-- With last calls and without, the courses are the same.
use Rattle.std.proofs.Common.{◌≡◌, ℕ, List, [], ap, refl, sym, ◌∙◌, subst}
use Rattle.merc_meaning.specs.Trace.{Env, RunEnd}
use Rattle.merc_course.specs.Course.{RunCourse as Run, Ends, Tick, Answer, Meets, Meeting, Reply, Courses}
use Rattle.merc_code.specs.Steps.{Code, Codes, State, Step, Stops, Moves, Ticks, Answers, Asks}
use Rattle.merc_code.specs.Meaning.{Yields, YieldAll, start, stops, moves, ticks, answers, asks, yield_none, yield_more}
use Rattle.merc_last_calls.specs.LastCalls.{step_lean}
use Rattle.merc_last_calls.specs.LeanMeaning.{YieldsLean, YieldAllLean, stops as stops_lean, moves as moves_lean, ticks as ticks_lean, answers as answers_lean, asks as asks_lean, yield_none as none_lean, yield_more as more_lean}
use Rattle.merc_last_calls.specs.Standing.{bottom, none, Matches, at, Ahead, stops as stops_too, moves as moves_too, ticks as ticks_too, answers as answers_too, asks as asks_too, stuck, behind}
use Rattle.merc_last_calls.proofs.StepParts.{same_moves, same_ticks, same_answers, same_asks}
use Rattle.merc_last_calls.proofs.Leaning.{ahead, own}

-- Given is the code of the procedures.
module _ (codes : Codes) where
  -- Where a step with last calls was made, code without makes it too.

  stopped : (made : Step) (state : State) (end : RunEnd) → Ahead codes made state → made ≡ Stops end → Yields codes state (Ends end)
  stopped made state end (stops_too _ end' q) h = stops state end (q ∙ h)
  stopped made state end (moves_too lean _ next q m) h = absurd cc
  stopped made state end (ticks_too lean _ next q m) h = absurd cc
  stopped made state end (answers_too lean _ next values q m) h = absurd cc
  stopped made state end (asks_too lean' _ what forked next q m) h = absurd cc
  stopped made state end (stuck _ q) h = absurd cc
  stopped made state end (behind _ _ next q g) h = moves state next _ q (stopped made next end g h)

  moved : (made : Step) (state lean : State) (run : Run) → Ahead codes made state → made ≡ Moves lean → ((next : State) → Matches lean next → Yields codes next run) → Yields codes state run
  moved made state lean run (stops_too _ end' q) h f = absurd cc
  moved made state lean run (moves_too lean' _ next q m) h f = moves state next run q (f next (subst (λ s. Matches s next) (same_moves lean' lean h) m))
  moved made state lean run (ticks_too lean' _ next q m) h f = absurd cc
  moved made state lean run (answers_too lean' _ next values q m) h f = absurd cc
  moved made state lean run (asks_too lean' _ what forked next q m) h f = absurd cc
  moved made state lean run (stuck _ q) h f = absurd cc
  moved made state lean run (behind _ _ next q g) h f = moves state next run q (moved made next lean run g h f)

  ticked : (made : Step) (state lean : State) (run : Run) → Ahead codes made state → made ≡ Ticks lean → ((next : State) → Matches lean next → Yields codes next run) → Yields codes state (Tick run)
  ticked made state lean run (stops_too _ end' q) h f = absurd cc
  ticked made state lean run (moves_too lean' _ next q m) h f = absurd cc
  ticked made state lean run (ticks_too lean' _ next q m) h f = ticks state next run q (f next (subst (λ s. Matches s next) (same_ticks lean' lean h) m))
  ticked made state lean run (answers_too lean' _ next values q m) h f = absurd cc
  ticked made state lean run (asks_too lean' _ what forked next q m) h f = absurd cc
  ticked made state lean run (stuck _ q) h f = absurd cc
  ticked made state lean run (behind _ _ next q g) h f = moves state next (Tick run) q (ticked made next lean run g h f)

  answered : (made : Step) (state lean : State) (values : Env) (run : Run) → Ahead codes made state → made ≡ Answers values lean
      → ((next : State) → Matches lean next → Yields codes next run) → Yields codes state (Answer values run)
  answered made state lean values run (stops_too _ end' q) h f = absurd cc
  answered made state lean values run (moves_too lean' _ next q m) h f = absurd cc
  answered made state lean values run (ticks_too lean' _ next q m) h f = absurd cc
  answered made state lean values run (answers_too lean' _ next values' q m) h f =
      let parts = same_answers values' values lean' lean h in
      subst (λ v. Yields codes state (Answer v run)) parts.0 (answers state next values' run q (f next (subst (λ s. Matches s next) parts.1 m)))
  answered made state lean values run (asks_too lean' _ what forked next q m) h f = absurd cc
  answered made state lean values run (stuck _ q) h f = absurd cc
  answered made state lean values run (behind _ _ next q g) h f = moves state next (Answer values run) q (answered made next lean values run g h f)

  asked : (made : Step) (state : State) (what : Meeting) (forked : List State) (lean : Reply → State) (courses : Courses RunEnd) (runs : Reply → Run) → Ahead codes made state → made ≡ Asks what forked lean
      → YieldAll codes forked courses → ((r : Reply) (next : State) → Matches (lean r) next → Yields codes next (runs r)) → Yields codes state (Meets what courses runs)
  asked made state what forked lean courses runs (stops_too _ end' q) h y f = absurd cc
  asked made state what forked lean courses runs (moves_too lean' _ next q m) h y f = absurd cc
  asked made state what forked lean courses runs (ticks_too lean' _ next q m) h y f = absurd cc
  asked made state what forked lean courses runs (answers_too lean' _ next values q m) h y f = absurd cc
  asked made state what forked lean courses runs (asks_too lean' _ what' forked' next q m) h y f =
      let parts = same_asks what' what forked' forked lean' lean h in
      asks state what forked next courses runs (q ∙ (ap (λ x. Asks x forked' next) parts.0 ∙ ap (λ x. Asks what x next) parts.1)) y
      (λ r. f r (next r) (subst (λ g. Matches (g r) (next r)) parts.2 (m r)))
  asked made state what forked lean courses runs (stuck _ q) h y f = absurd cc
  asked made state what forked lean courses runs (behind _ _ next q g) h y f = moves state next (Meets what courses runs) q (asked made next what forked lean courses runs g h y f)

  mutual
    pub without : (lean : State) (run : Run) → YieldsLean codes lean run → (state : State) → Matches lean state → Yields codes state run
    without lean run (stops_lean _ end q) state m = stopped _ state end (ahead codes lean state m) q
    without lean run (moves_lean _ next run' q y) state m = moved _ state next run' (ahead codes lean state m) q (λ s m'. without next run' y s m')
    without lean run (ticks_lean _ next run' q y) state m = ticked _ state next run' (ahead codes lean state m) q (λ s m'. without next run' y s m')
    without lean run (answers_lean _ next values run' q y) state m = answered _ state next values run' (ahead codes lean state m) q (λ s m'. without next run' y s m')
    without lean run (asks_lean _ what forked next courses runs q y z) state m =
        asked _ state what forked next courses runs (ahead codes lean state m) q (without_all forked courses y) (λ r s m'. without (next r) (runs r) (z r) s m')

    without_all : (states : List State) (runs : Courses RunEnd) → YieldAllLean codes states runs → YieldAll codes states runs
    without_all states runs none_lean = yield_none
    without_all states runs (more_lean state states' run runs' y ys) = yield_more state states' run runs' (without state run y state (own state)) (without_all states' runs' ys)

  mutual
    -- The other way the induction goes over the steps of code without last calls; the step that was made waits until code without has made its own.
    does : (state : State) (run : Run) → Yields codes state run → (lean : State) (made : Step) → step_lean codes lean ≡ made → Ahead codes made state → YieldsLean codes lean run
    does state run (stops _ end q) lean made h (stops_too _ end' p) = stops_lean lean end (h ∙ sym p ∙ q)
    does state run (stops _ end q) lean made h (moves_too lean' _ next' p m) = absurd cc
    does state run (stops _ end q) lean made h (ticks_too lean' _ next' p m) = absurd cc
    does state run (stops _ end q) lean made h (answers_too lean' _ next' values' p m) = absurd cc
    does state run (stops _ end q) lean made h (asks_too lean' _ what' forked' next' p m) = absurd cc
    does state run (stops _ end q) lean made h (stuck _ p) = absurd cc
    does state run (stops _ end q) lean made h (behind _ _ next' p g) = absurd cc
    does state run (moves _ next run' q y) lean made h (stops_too _ end' p) = absurd cc
    does state run (moves _ next run' q y) lean made h (moves_too lean' _ next' p m) =
        moves_lean lean lean' run' h (does next run' y lean' _ refl (subst (λ s. Ahead codes (step_lean codes lean') s) (same_moves next' next (sym p ∙ q)) (ahead codes lean' next' m)))
    does state run (moves _ next run' q y) lean made h (ticks_too lean' _ next' p m) = absurd cc
    does state run (moves _ next run' q y) lean made h (answers_too lean' _ next' values' p m) = absurd cc
    does state run (moves _ next run' q y) lean made h (asks_too lean' _ what' forked' next' p m) = absurd cc
    does state run (moves _ next run' q y) lean made h (stuck _ p) = absurd cc
    does state run (moves _ next run' q y) lean made h (behind _ _ next' p g) = does next run' y lean made h (subst (λ s. Ahead codes made s) (same_moves next' next (sym p ∙ q)) g)
    does state run (ticks _ next run' q y) lean made h (stops_too _ end' p) = absurd cc
    does state run (ticks _ next run' q y) lean made h (moves_too lean' _ next' p m) = absurd cc
    does state run (ticks _ next run' q y) lean made h (ticks_too lean' _ next' p m) =
        ticks_lean lean lean' run' h (does next run' y lean' _ refl (subst (λ s. Ahead codes (step_lean codes lean') s) (same_ticks next' next (sym p ∙ q)) (ahead codes lean' next' m)))
    does state run (ticks _ next run' q y) lean made h (answers_too lean' _ next' values' p m) = absurd cc
    does state run (ticks _ next run' q y) lean made h (asks_too lean' _ what' forked' next' p m) = absurd cc
    does state run (ticks _ next run' q y) lean made h (stuck _ p) = absurd cc
    does state run (ticks _ next run' q y) lean made h (behind _ _ next' p g) = absurd cc
    does state run (answers _ next values run' q y) lean made h (stops_too _ end' p) = absurd cc
    does state run (answers _ next values run' q y) lean made h (moves_too lean' _ next' p m) = absurd cc
    does state run (answers _ next values run' q y) lean made h (ticks_too lean' _ next' p m) = absurd cc
    does state run (answers _ next values run' q y) lean made h (answers_too lean' _ next' values' p m) =
        let parts = same_answers values' values next' next (sym p ∙ q) in
        subst (λ v. YieldsLean codes lean (Answer v run')) parts.0
        (answers_lean lean lean' values' run' h (does next run' y lean' _ refl (subst (λ s. Ahead codes (step_lean codes lean') s) parts.1 (ahead codes lean' next' m))))
    does state run (answers _ next values run' q y) lean made h (asks_too lean' _ what' forked' next' p m) = absurd cc
    does state run (answers _ next values run' q y) lean made h (stuck _ p) = absurd cc
    does state run (answers _ next values run' q y) lean made h (behind _ _ next' p g) = absurd cc
    does state run (asks _ what forked next courses runs q ys y) lean made h (stops_too _ end' p) = absurd cc
    does state run (asks _ what forked next courses runs q ys y) lean made h (moves_too lean' _ next' p m) = absurd cc
    does state run (asks _ what forked next courses runs q ys y) lean made h (ticks_too lean' _ next' p m) = absurd cc
    does state run (asks _ what forked next courses runs q ys y) lean made h (answers_too lean' _ next' values' p m) = absurd cc
    does state run (asks _ what forked next courses runs q ys y) lean made h (asks_too lean' _ what' forked' next' p m) =
        let parts = same_asks what' what forked' forked next' next (sym p ∙ q) in
        asks_lean lean what forked lean' courses runs (h ∙ (ap (λ x. Asks x forked' lean') parts.0 ∙ ap (λ x. Asks what x lean') parts.1)) (all_do forked courses ys)
        (λ r. does (next r) (runs r) (y r) (lean' r) _ refl (subst (λ f. Ahead codes (step_lean codes (lean' r)) (f r)) parts.2 (ahead codes (lean' r) (next' r) (m r))))
    does state run (asks _ what forked next courses runs q ys y) lean made h (stuck _ p) = absurd cc
    does state run (asks _ what forked next courses runs q ys y) lean made h (behind _ _ next' p g) = absurd cc

    all_do : (states : List State) (runs : Courses RunEnd) → YieldAll codes states runs → YieldAllLean codes states runs
    all_do states runs yield_none = none_lean
    all_do states runs (yield_more state states' run runs' y ys) = more_lean state states' run runs' (does state run y state _ refl (ahead codes state state (own state))) (all_do states' runs' ys)

  pub with_last_calls : (lean state : State) (run : Run) → Matches lean state → Yields codes state run → YieldsLean codes lean run
  with_last_calls lean state run m y = does state run y lean _ refl (ahead codes lean state m)

pub starts : (code : Code) (limit : ℕ) → Matches (start code limit) (start code limit)
starts code limit = at code [] [] [] [] [] [] limit bottom none

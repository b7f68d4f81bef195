-- Runs behind steps, and the lines of a run written one by one.
use Rattle.std.proofs.Common.{◌≡◌, ◌+◌, ◌<◌, ◌≤◌, ◌⊎◌, ◌∙◌, ℕ, zero, suc, List, [], ◌∷◌, ◌++◌, ap, sym, refl, subst, length, map, append_assoc, arith, inl, inr}
use Rattle.std.specs.Prelude.{◌==◌, Bool, true, false, nat_eq, nat_le, take, Option, Some, None, Result, Ok, Err, IfOk, if◌then◌else◌}
use Rattle.std.specs.Option.{option_eq}
use Rattle.std.proofs.lemmas.Bool.{false≢true, le-leb, lt-leb}
use Rattle.std.proofs.lemmas.Bool.Decides.{leb_tells, nat_tests}
use Rattle.std.proofs.lemmas.Option.{same_Some}
use Rattle.std.proofs.lemmas.List.{append-nil, length-append, map-append}
use Rattle.merc_base.specs.Outside.{SinkState}
use Rattle.merc_meaning.specs.Trace.{Env, Run, RunEnd, RunDone, RunRaised, LimitPassed, Ends, Answer}
use Rattle.merc_machine.specs.declared.machine.Machine.{Machine}
use Rattle.merc_machine.specs.declared.running.Stop.{Stop}
use Rattle.merc_machine.specs.declared.running.Stop.TheVariants.{Answer as AnswerStop, Ended, Raised, LimitPassed as LimitStop, Starved, AtFork, AtWait, AtSignal, SliceOver, NoMemory as NoMemoryStop}
use Rattle.merc_machine.specs.Running.{Means}
use Rattle.merc_meaning.specs.Counting.{counted}
use Rattle.merc_course.specs.Course.{whole as whole_course}
use Rattle.merc_transfer.specs.declared.writing.Cut.{Cut}
use Rattle.merc_transfer.specs.declared.writing.Cut.TheVariants.{NoMemory}
use Rattle.merc_transfer.specs.Writing.{PutsAll, PutsFront, Cuts, Writes}
use Rattle.merc_solving.specs.Runs.{answers_of, answers_told, end_of, is_stopped, steps_before, steps_made, steps_of}
use Rattle.merc_transfer.specs.Statuses.{solved_status, raised_status, limit_status}
use Rattle.merc_solving.specs.RunLines.{solution_line, end_line, end_status, last_line, run_lines, run_status, stopped_line}
use Rattle.merc_solving.specs.Solving.{PutsStop, Solves}
use Rattle.merc_solving.proofs.AloneRuns.{RanAlone, run_behind}
use Rattle.merc_transfer.proofs.WritingLemmas.{cuts-within, puts_all-none, puts_all-behind, puts_front-all, puts_front-before}

-- ---- runs behind steps

answers-behind : (made : ℕ) (run : Run) → answers_of (run_behind made run) ≡ answers_of run
answers-behind zero run = refl
answers-behind (suc made) run = answers-behind made run

end-behind : (made : ℕ) (run : Run) → end_of (run_behind made run) ≡ end_of run
end-behind zero run = refl
end-behind (suc made) run = end-behind made run

steps-behind : (made : ℕ) (run : Run) → steps_of (run_behind made run) ≡ made + steps_of run
steps-behind zero run = omega arith
steps-behind (suc made) run = let more = steps-behind made run in omega (arith, more)

none-more : (more : ℕ) → more ≡ 0 + more
none-more more = omega arith

suc-within : (made more : ℕ) → suc (made + more) ≡ suc made + more
suc-within made more = omega arith

counted-more : (number made more : ℕ) → counted (counted number made) more ≡ counted number (made + more)
counted-more number zero more = ap (λ (n : ℕ). counted number n) (none-more more)
counted-more number (suc made) more =
    counted-more (if number == 18446744073709551615 then number else suc number) made more ∙ ap (λ (n : ℕ). counted number n) (suc-within made more)

-- ---- statuses

pub end_status-raised : (count text : ℕ) → end_status count (RunRaised text) ≡ raised_status
end_status-raised zero text = refl
end_status-raised (suc count) text = refl

pub end_status-limit : (count : ℕ) → end_status count LimitPassed ≡ limit_status
end_status-limit zero = refl
end_status-limit (suc count) = refl

-- ---- bounds

-- whether a bound leaves an answer to be told
abbrev pub IsOpen : Option ℕ → Type 0
IsOpen None = Unit {0}
IsOpen (Some zero) = ⊥
IsOpen (Some (suc more)) = Unit {0}

-- what a bound leaves behind an answer
abbrev pub one_less : Option ℕ → Option ℕ
one_less None = None
one_less (Some zero) = Some zero
one_less (Some (suc more)) = Some more

-- what a bound leaves behind so many answers
abbrev pub IsLeft : Option ℕ → ℕ → Option ℕ → Type 0
IsLeft None count None = Unit {0}
IsLeft None count (Some more) = ⊥
IsLeft (Some most) count None = ⊥
IsLeft (Some most) count (Some more) = count + more ≡ most

left-begins : (most : Option ℕ) → IsLeft most 0 most
left-begins None = tt
left-begins (Some most) = omega arith

left-answered : (most bound : Option ℕ) (count : ℕ) → IsLeft most count bound → IsOpen bound → IsLeft most (suc count) (one_less bound)
left-answered None None count left wanted = tt
left-answered None (Some more) count left wanted = absurd left
left-answered (Some most) None count left wanted = absurd left
left-answered (Some most) (Some zero) count left wanted = absurd wanted
left-answered (Some most) (Some (suc more)) count left wanted = omega (arith, left)

pub left-open : (most bound : Option ℕ) (count : ℕ) → IsLeft most count bound → (most ≡ Some count → ⊥) → IsOpen bound
left-open None None count left more = tt
left-open None (Some rest) count left more = absurd left
left-open (Some most) None count left more = absurd left
left-open (Some most) (Some zero) count left more = more (ap (λ (n : ℕ). Some n) (omega (arith, left)))
left-open (Some most) (Some (suc rest)) count left more = tt

left-none : (most bound : Option ℕ) (count : ℕ) → IsLeft most count bound → most ≡ Some count → bound ≡ Some 0
left-none None None count left is = cc
left-none None (Some more) count left is = absurd left
left-none (Some most) None count left is = absurd left
left-none (Some most) (Some more) count left is =
    let same : most ≡ count = same_Some _ _ is in ap (λ (n : ℕ). Some n) (omega (arith, left, same))

-- what a comparison of a bound says
same_number : (most count : ℕ) → true ≡ nat_eq most count → most ≡ count
same_number most count is = grind (arith, nat_tests, is)

other_number : (most count : ℕ) → false ≡ nat_eq most count → most ≡ count → ⊥
other_number most count is same = grind (arith, nat_tests, is, same)

pub enough : (most : Option ℕ) (count : ℕ) → true ≡ option_eq nat_eq most (Some count) → most ≡ Some count
enough None count is = absurd (false≢true (sym is))
enough (Some most) count is = ap (λ (n : ℕ). Some n) (same_number most count is)

pub not_enough : (most : Option ℕ) (count : ℕ) → false ≡ option_eq nat_eq most (Some count) → most ≡ Some count → ⊥
not_enough None count is same = cc
not_enough (Some most) count is same = other_number most count is (same_Some _ _ same)

told-behind : (bound : Option ℕ) (made : ℕ) (run : Run) → answers_told bound (run_behind made run) ≡ answers_told bound run
told-behind None made run = answers-behind made run
told-behind (Some more) made run = ap (λ (all : List Env). take more all) (answers-behind made run)

told-answered : (bound : Option ℕ) (values : Env) (rest : Run) → IsOpen bound → answers_told bound (Answer values rest) ≡ values ∷ answers_told (one_less bound) rest
told-answered None values rest wanted = refl
told-answered (Some zero) values rest wanted = absurd wanted
told-answered (Some (suc more)) values rest wanted = refl

told-ended : (bound : Option ℕ) (end : RunEnd) → answers_told bound (Ends end) ≡ []
told-ended None end = refl
told-ended (Some zero) end = refl
told-ended (Some (suc more)) end = refl

told-none : (run : Run) → answers_told (Some 0) run ≡ []
told-none run = refl

stopped-behind : (bound : Option ℕ) (made : ℕ) (run : Run) → is_stopped bound (run_behind made run) ≡ is_stopped bound run
stopped-behind None made run = refl
stopped-behind (Some more) made run = ap (λ (all : List Env). nat_le more (length all)) (answers-behind made run)

within-by : (most count : ℕ) → ((nat_le most count ≡ true) × (most ≤ count)) ⊎ ((nat_le most count ≡ false) × (count < most)) → nat_le (suc most) (suc count) ≡ nat_le most count
within-by most count (inl told) = le-leb (suc most) (suc count) (omega (arith, told.1)) ∙ sym told.0
within-by most count (inr told) = lt-leb (suc most) (suc count) (omega (arith, told.1)) ∙ sym told.0

within-suc : (most count : ℕ) → nat_le (suc most) (suc count) ≡ nat_le most count
within-suc most count = within-by most count (leb_tells most count)

none-within : (most : ℕ) → nat_le (suc most) 0 ≡ false
none-within most = lt-leb (suc most) 0 (omega arith)

nought-within : (count : ℕ) → nat_le 0 count ≡ true
nought-within count = le-leb 0 count (omega arith)

stopped-answered : (bound : Option ℕ) (values : Env) (rest : Run) → IsOpen bound → is_stopped bound (Answer values rest) ≡ is_stopped (one_less bound) rest
stopped-answered None values rest wanted = refl
stopped-answered (Some zero) values rest wanted = absurd wanted
stopped-answered (Some (suc more)) values rest wanted = within-suc more (length (answers_of rest))

stopped-ended : (bound : Option ℕ) (end : RunEnd) → IsOpen bound → is_stopped bound (Ends end) ≡ false
stopped-ended None end wanted = refl
stopped-ended (Some zero) end wanted = absurd wanted
stopped-ended (Some (suc more)) end wanted = none-within more

none-stopped : (run : Run) → is_stopped (Some 0) run ≡ true
none-stopped run = nought-within (length (answers_of run))

before-behind : (more made : ℕ) (run : Run) → steps_before (suc more) (run_behind made run) ≡ made + steps_before (suc more) run
before-behind more zero run = omega arith
before-behind more (suc made) run = let rest = before-behind more made run in omega (arith, rest)

made-behind : (bound : Option ℕ) (made : ℕ) (run : Run) → IsOpen bound → steps_made bound (run_behind made run) ≡ made + steps_made bound run
made-behind None made run wanted = steps-behind made run
made-behind (Some zero) made run wanted = absurd wanted
made-behind (Some (suc more)) made run wanted = before-behind more made run

ended-made : (bound : Option ℕ) (end : RunEnd) → steps_made bound (Ends end) ≡ 0
ended-made None end = refl
ended-made (Some zero) end = refl
ended-made (Some (suc more)) end = refl

none-made : (run : Run) → steps_made (Some 0) run ≡ 0
none-made run = refl

made-answered : (bound : Option ℕ) (values : Env) (rest : Run) → IsOpen bound → steps_made bound (Answer values rest) ≡ steps_made (one_less bound) rest
made-answered None values rest wanted = refl
made-answered (Some zero) values rest wanted = absurd wanted
made-answered (Some (suc more)) values rest wanted = refl

-- steps that are counted already, and those that are left behind them
counted-behind : (bound : Option ℕ) (number number' made : ℕ) (before rest : Run) → IsOpen bound → before ≡ run_behind made rest → number' ≡ counted number made
    → counted number' (steps_made bound rest) ≡ counted number (steps_made bound before)
counted-behind bound number number' made before rest wanted is counts =
    ap (λ (n : ℕ). counted n (steps_made bound rest)) counts ∙ counted-more number made (steps_made bound rest)
    ∙ ap (λ (n : ℕ). counted number n) (sym (made-behind bound made rest wanted)) ∙ ap (λ (run : Run). counted number (steps_made bound run)) (sym is)

-- ---- lines

-- the lines of some answers, and those of others and a last line behind them
lines-split : (f : Env → List ℕ) (done rest : List Env) (last : List ℕ) → map f done ++ (map f rest ++ last ∷ []) ≡ map f (done ++ rest) ++ last ∷ []
lines-split f done rest last = sym (append_assoc (map f done) (map f rest) (last ∷ [])) ∙ ap (λ (lines : List (List ℕ)). lines ++ last ∷ []) (sym (map-append f done rest))

-- ---- a run whose lines are written so far

-- Of a run some answers are written and the rest is left to a machine, of which a bound may leave so many to be told; what the counter held at the beginning and
-- holds, and what was told of the sink and is.
pub record Progress (names : List (List ℕ)) (variables : List ℕ) (most : Option ℕ) (asked : Run) (machine : Machine) (old now : SinkState) (begun ticks count : ℕ) : Type 0 where
  pub done : List Env
  pub rest : Run
  pub bound : Option ℕ
  pub means : Means machine (whole_course rest)
  pub count_is : count ≡ length done
  pub left : IsLeft most count bound
  pub answers : done ++ answers_of rest ≡ answers_of asked
  pub told : done ++ answers_told bound rest ≡ answers_told most asked
  pub stops : is_stopped bound rest ≡ is_stopped most asked
  pub end : end_of rest ≡ end_of asked
  pub steps : counted ticks (steps_made bound rest) ≡ counted begun (steps_made most asked)
  pub puts : PutsAll (map (solution_line names variables) done) old now

-- at the beginning
pub progress-begins : (names : List (List ℕ)) (variables : List ℕ) (most : Option ℕ) (asked : Run) (machine : Machine) (held : SinkState) (begun : ℕ) → Means machine (whole_course asked)
    → Progress names variables most asked machine held held begun begun 0
progress-begins names variables most asked machine held begun means = record {
  done = [];
  rest = asked;
  bound = most;
  means = means;
  count_is = refl;
  left = left-begins most;
  answers = refl;
  told = refl;
  stops = refl;
  end = refl;
  steps = refl;
  puts = puts_all-none held;
}

-- Given is a run that is written so far.
module _ (names : List (List ℕ)) (variables : List ℕ) (most : Option ℕ) (asked : Run) (machine : Machine) (old now : SinkState) (begun ticks count : ℕ)
    (so_far : Progress names variables most asked machine old now begun ticks count) where
  abbrev done_lines : List (List ℕ)
  done_lines = map (solution_line names variables) so_far.done

  abbrev last : List ℕ
  last = last_line names most asked

  abbrev whole : List (List ℕ)
  whole = run_lines names variables most asked

  -- the lines that are written and those that are left are all lines
  parts : done_lines ++ (map (solution_line names variables) (answers_told so_far.bound so_far.rest) ++ last ∷ []) ≡ whole
  parts =
      lines-split (solution_line names variables) so_far.done (answers_told so_far.bound so_far.rest) last
      ∙ ap (λ (all : List Env). map (solution_line names variables) all ++ last ∷ []) so_far.told

  pub progress-cut : Cuts whole old now NoMemory
  progress-cut =
      let left = map (solution_line names variables) (answers_told so_far.bound so_far.rest) ++ last ∷ [] in
      (subst (λ (lines : List (List ℕ)). PutsFront lines old now) parts (puts_front-before done_lines left old now (puts_front-all done_lines old now so_far.puts)), so_far.puts.faults)

  -- No answer is left to be told, and a last line is written.
  module _ (none_left : answers_told so_far.bound so_far.rest ≡ []) where
    all_told : so_far.done ≡ answers_told most asked
    all_told = sym (append-nil so_far.done) ∙ ap (λ (all : List Env). so_far.done ++ all) (sym none_left) ∙ so_far.told

    count_told : count ≡ length (answers_told most asked)
    count_told = so_far.count_is ∙ ap (λ (all : List Env). length all) all_told

    end_parts : (line : List ℕ) → line ≡ last → done_lines ++ (line ∷ []) ≡ whole
    end_parts line told =
        ap (λ (text : List ℕ). done_lines ++ (text ∷ [])) told
        ∙ ap (λ (all : List Env). done_lines ++ (map (solution_line names variables) all ++ last ∷ [])) (sym none_left)
        ∙ parts

    solves-last : (line : List ℕ) (status ticks' : ℕ) (new : SinkState) (result : Result ℕ Cut) → line ≡ last → status ≡ run_status most asked
        → ticks' ≡ counted begun (steps_made most asked) → Writes (line ∷ []) now new result → IfOk result (λ told. told ≡ status) → Solves names variables most asked old new begun ticks' result
    solves-last line status ticks' new (Ok told) line_told status_told counts writes same =
        (same ∙ status_told, subst (λ (lines : List (List ℕ)). PutsAll lines old new) (end_parts line line_told) (puts_all-behind done_lines (line ∷ []) old now new so_far.puts writes), counts)
    solves-last line status ticks' new (Err cut) line_told status_told counts writes same =
        subst (λ (lines : List (List ℕ)). Cuts lines old new cut) (end_parts line line_told) (cuts-within done_lines (line ∷ []) [] old now new cut so_far.puts writes)

  -- As many answers are told as the bound says.
  module _ (enough : most ≡ Some count) where
    bound_none : so_far.bound ≡ Some 0
    bound_none = left-none most so_far.bound count so_far.left enough

    none_told : answers_told so_far.bound so_far.rest ≡ []
    none_told = ap (λ (some : Option ℕ). answers_told some so_far.rest) bound_none ∙ told-none so_far.rest

    is_stopped_there : is_stopped most asked ≡ true
    is_stopped_there = sym so_far.stops ∙ ap (λ (some : Option ℕ). is_stopped some so_far.rest) bound_none ∙ none-stopped so_far.rest

    stopped_last : last ≡ stopped_line names count
    stopped_last =
        ap (λ (some : Bool). if some then stopped_line names (length (answers_told most asked)) else end_line names (length (answers_of asked)) (end_of asked)) is_stopped_there
        ∙ ap (λ (n : ℕ). stopped_line names n) (sym (count_told none_told))

    stopped_status : run_status most asked ≡ solved_status
    stopped_status = ap (λ (some : Bool). if some then solved_status else end_status (length (answers_of asked)) (end_of asked)) is_stopped_there

    stopped_steps : ticks ≡ counted begun (steps_made most asked)
    stopped_steps =
        ap (λ (n : ℕ). counted ticks n) (sym (none-made so_far.rest)) ∙ ap (λ (some : Option ℕ). counted ticks (steps_made some so_far.rest)) (sym bound_none) ∙ so_far.steps

    pub solves-stopped : (line : List ℕ) (status : ℕ) (new : SinkState) (result : Result ℕ Cut) → line ≡ stopped_line names count → status ≡ solved_status
        → Writes (line ∷ []) now new result → IfOk result (λ told. told ≡ status) → Solves names variables most asked old new begun ticks result
    solves-stopped line status new result line_told status_told =
        solves-last none_told line status ticks new result (line_told ∙ sym stopped_last) (status_told ∙ sym stopped_status) stopped_steps

  -- The bound leaves an answer to be told, or there is none.
  module _ (more : most ≡ Some count → ⊥) where
    wanted : IsOpen so_far.bound
    wanted = left-open most so_far.bound count so_far.left more

    -- Steps were made, and no answer came.
    pub progress-moved : (machine' : Machine) (rest : Run) (made ticks' : ℕ) → so_far.rest ≡ run_behind made rest → Means machine' (whole_course rest) → ticks' ≡ counted ticks made
        → Progress names variables most asked machine' old now begun ticks' count
    progress-moved machine' rest made ticks' is means counts = record {
      done = so_far.done;
      rest = rest;
      bound = so_far.bound;
      means = means;
      count_is = so_far.count_is;
      left = so_far.left;
      answers = ap (λ (all : List Env). so_far.done ++ all) (sym (answers-behind made rest) ∙ ap (λ (run : Run). answers_of run) (sym is)) ∙ so_far.answers;
      told = ap (λ (all : List Env). so_far.done ++ all) (sym (told-behind so_far.bound made rest) ∙ ap (λ (run : Run). answers_told so_far.bound run) (sym is)) ∙ so_far.told;
      stops = sym (stopped-behind so_far.bound made rest) ∙ ap (λ (run : Run). is_stopped so_far.bound run) (sym is) ∙ so_far.stops;
      end = sym (end-behind made rest) ∙ ap (λ (run : Run). end_of run) (sym is) ∙ so_far.end;
      steps = counted-behind so_far.bound ticks ticks' made so_far.rest rest wanted is counts ∙ so_far.steps;
      puts = so_far.puts;
    }

    -- An answer came.
    module _ (machine' : Machine) (values : Env) (rest : Run) (made ticks' : ℕ) (is : so_far.rest ≡ run_behind made (Answer values rest)) (means : Means machine' (whole_course rest))
        (counts : ticks' ≡ counted ticks made) where
      abbrev line : List ℕ
      line = solution_line names variables values

      answers_are : answers_of so_far.rest ≡ values ∷ answers_of rest
      answers_are = ap (λ (run : Run). answers_of run) is ∙ answers-behind made (Answer values rest)

      told_are : answers_told so_far.bound so_far.rest ≡ values ∷ answers_told (one_less so_far.bound) rest
      told_are =
          ap (λ (run : Run). answers_told so_far.bound run) is ∙ told-behind so_far.bound made (Answer values rest)
          ∙ told-answered so_far.bound values rest wanted

      answer_parts : done_lines ++ ((line ∷ []) ++ (map (solution_line names variables) (answers_told (one_less so_far.bound) rest) ++ last ∷ [])) ≡ whole
      answer_parts =
          ap (λ (all : List Env). done_lines ++ (map (solution_line names variables) all ++ last ∷ [])) (sym told_are)
          ∙ parts

      pub answer-cut : (new : SinkState) (cut : Cut) → Cuts (line ∷ []) now new cut → Cuts whole old new cut
      answer-cut new cut cuts =
          subst (λ (lines : List (List ℕ)). Cuts lines old new cut) answer_parts
          (cuts-within done_lines (line ∷ []) (map (solution_line names variables) (answers_told (one_less so_far.bound) rest) ++ last ∷ []) old now new cut so_far.puts cuts)

      pub progress-answered : (new : SinkState) → PutsAll (line ∷ []) now new → Progress names variables most asked machine' old new begun ticks' (suc count)
      progress-answered new puts = record {
        done = so_far.done ++ values ∷ [];
        rest = rest;
        bound = one_less so_far.bound;
        means = means;
        count_is = omega (arith, so_far.count_is, length-append so_far.done (values ∷ []));
        left = left-answered most so_far.bound count so_far.left wanted;
        answers =
            append_assoc so_far.done (values ∷ []) (answers_of rest)
            ∙ ap (λ (all : List Env). so_far.done ++ all) (sym answers_are) ∙ so_far.answers;
        told =
            append_assoc so_far.done (values ∷ []) (answers_told (one_less so_far.bound) rest)
            ∙ ap (λ (all : List Env). so_far.done ++ all) (sym told_are) ∙ so_far.told;
        stops =
            sym (stopped-answered so_far.bound values rest wanted) ∙ sym (stopped-behind so_far.bound made (Answer values rest))
            ∙ ap (λ (run : Run). is_stopped so_far.bound run) (sym is) ∙ so_far.stops;
        end = sym (end-behind made (Answer values rest)) ∙ ap (λ (run : Run). end_of run) (sym is) ∙ so_far.end;
        steps =
            ap (λ (n : ℕ). counted ticks' n) (sym (made-answered so_far.bound values rest wanted))
            ∙ counted-behind so_far.bound ticks ticks' made so_far.rest (Answer values rest) wanted is counts ∙ so_far.steps;
        puts =
            subst (λ (lines : List (List ℕ)). PutsAll lines old new) (sym (map-append (solution_line names variables) so_far.done (values ∷ [])))
            (puts_all-behind done_lines (line ∷ []) old now new so_far.puts puts);
      }

    -- The run ended.
    module _ (end : RunEnd) (made ticks' : ℕ) (is : so_far.rest ≡ run_behind made (Ends end)) (counts : ticks' ≡ counted ticks made) where
      end_is : end_of asked ≡ end
      end_is = sym so_far.end ∙ ap (λ (run : Run). end_of run) is ∙ end-behind made (Ends end)

      none_left : answers_of so_far.rest ≡ []
      none_left = ap (λ (run : Run). answers_of run) is ∙ answers-behind made (Ends end)

      none_left_told : answers_told so_far.bound so_far.rest ≡ []
      none_left_told = ap (λ (run : Run). answers_told so_far.bound run) is ∙ told-behind so_far.bound made (Ends end) ∙ told-ended so_far.bound end

      not_stopped : is_stopped most asked ≡ false
      not_stopped =
          sym so_far.stops ∙ ap (λ (run : Run). is_stopped so_far.bound run) is ∙ stopped-behind so_far.bound made (Ends end) ∙ stopped-ended so_far.bound end wanted

      all_done : so_far.done ≡ answers_of asked
      all_done = sym (append-nil so_far.done) ∙ ap (λ (all : List Env). so_far.done ++ all) (sym none_left) ∙ so_far.answers

      count_done : count ≡ length (answers_of asked)
      count_done = so_far.count_is ∙ ap (λ (all : List Env). length all) all_done

      end_last : end_line names count end ≡ last
      end_last =
          ap (λ (n : ℕ). end_line names n end) count_done ∙ ap (λ (some : RunEnd). end_line names (length (answers_of asked)) some) (sym end_is)
          ∙ ap (λ (some : Bool). if some then stopped_line names (length (answers_told most asked)) else end_line names (length (answers_of asked)) (end_of asked)) (sym not_stopped)

      end_status_is : end_status count end ≡ run_status most asked
      end_status_is =
          ap (λ (n : ℕ). end_status n end) count_done ∙ ap (λ (some : RunEnd). end_status (length (answers_of asked)) some) (sym end_is)
          ∙ ap (λ (some : Bool). if some then solved_status else end_status (length (answers_of asked)) (end_of asked)) (sym not_stopped)

      end_steps : ticks' ≡ counted begun (steps_made most asked)
      end_steps =
          ap (λ (n : ℕ). counted ticks' n) (sym (ended-made so_far.bound end))
          ∙ counted-behind so_far.bound ticks ticks' made so_far.rest (Ends end) wanted is counts ∙ so_far.steps

      pub solves-end : (line : List ℕ) (status : ℕ) (new : SinkState) (result : Result ℕ Cut) → line ≡ end_line names count end → status ≡ end_status count end
          → Writes (line ∷ []) now new result → IfOk result (λ told. told ≡ status) → Solves names variables most asked old new begun ticks' result
      solves-end line status new result line_told status_told =
          solves-last none_left_told line status ticks' new result (line_told ∙ end_last) (status_told ∙ end_status_is) end_steps

    -- Nothing was written behind the steps.
    not_put : (ticks' : ℕ) (new : SinkState) (result : Result ℕ Cut) → (result ≡ Err NoMemory) × (new ≡ now) → Solves names variables most asked old new begun ticks' result
    not_put ticks' new result puts =
        subst (λ (some : Result ℕ Cut). Solves names variables most asked old new begun ticks' some) (sym puts.0)
        (subst (λ (held : SinkState). Cuts whole old held NoMemory) (sym puts.1) progress-cut)

    -- The machine stopped, and the line of its stop was put behind the others.
    pub solves-stop : (stop : Stop) (machine' : Machine) (slice ticks' : ℕ) (new : SinkState) (result : Result ℕ Cut) → RanAlone stop so_far.rest machine' ticks ticks' slice
        → PutsStop names count stop now new result → Solves names variables most asked old new begun ticks' result
    solves-stop Ended machine' slice ticks' new result ran puts = solves-end RunDone ran.0 ticks' ran.1 ran.2 _ _ new result refl refl puts.0 puts.1
    solves-stop (Raised text) machine' slice ticks' new result ran puts = solves-end (RunRaised text) ran.0 ticks' ran.1 ran.2 _ _ new result refl refl puts.0 puts.1
    solves-stop LimitStop machine' slice ticks' new result ran puts = solves-end LimitPassed ran.0 ticks' ran.1 ran.2 _ _ new result refl refl puts.0 puts.1
    solves-stop Starved machine' slice ticks' new result ran puts = absurd ran
    solves-stop (AtFork site) machine' slice ticks' new result ran puts = absurd ran
    solves-stop (AtWait variable) machine' slice ticks' new result ran puts = absurd ran
    solves-stop (AtSignal variable) machine' slice ticks' new result ran puts = absurd ran
    solves-stop AnswerStop machine' slice ticks' new result ran puts = not_put ticks' new result puts
    solves-stop SliceOver machine' slice ticks' new result ran puts = not_put ticks' new result puts
    solves-stop NoMemoryStop machine' slice ticks' new result ran puts = not_put ticks' new result puts

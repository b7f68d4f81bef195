-- Moves with last calls make the weight less too: a state is no heavier than one that it stands for.
use Rattle.std.proofs.Common.{◌≡◌, ◌+◌, ◌<◌, ◌≤◌, List, ◌∷◌, length, subst, arith}
use Rattle.merc_code.specs.Steps.{Codes, Caller, caller, ChoicePoint, State, Step, Stops, Moves, Ticks, Answers, Asks, Stuck}
use Rattle.merc_code.specs.Weight.{left_in, choices_weight, weight}
use Rattle.merc_code.proofs.Weight.{Falls, doubled_most, falls}
use Rattle.merc_last_calls.specs.LastCalls.{step_lean}
use Rattle.merc_last_calls.specs.Standing.{Stands, bottom, kept, handed, ChoicesStand, none, dead, goes_on, Matches, at, back, Ahead, stops, moves, ticks, answers, asks, stuck, behind}
use Rattle.merc_last_calls.proofs.Leaning.{ahead, own}

fewer_left : (lean callers : List Caller) → Stands lean callers → left_in lean ≤ left_in callers
fewer_left lean callers bottom = omega arith
fewer_left lean callers (kept (caller rest env marks places arguments) lean' callers' s) = let h = fewer_left lean' callers' s in omega (arith, h)
fewer_left lean callers (handed rest env marks places arguments outer_rest outer_env outer_marks outer_places outer_arguments lean' callers' last s) =
    let h = fewer_left (caller outer_rest outer_env outer_marks outer_places outer_arguments ∷ lean') callers' s in omega (arith, h)

choices_lighter : (lean choices : List ChoicePoint) → ChoicesStand lean choices → choices_weight lean ≤ choices_weight choices
choices_lighter lean choices none = omega arith
choices_lighter lean choices (dead lean' choices' h) = let a = choices_lighter lean' choices' h in omega (arith, a)
choices_lighter lean choices (goes_on k env marks l c lean' choices' s h) =
    let a = choices_lighter lean' choices' h in
    let b = fewer_left l c s in
    let d = doubled_most (length k + left_in l) (length k + left_in c) (omega (arith, b)) in omega (arith, a, d)

lighter : (lean state : State) → Matches lean state → weight lean ≤ weight state
lighter lean state (at k env marks l c cs bs left s h) =
    let a = choices_lighter cs bs h in
    let b = fewer_left l c s in
    let d = doubled_most (length k + left_in l) (length k + left_in c) (omega (arith, b)) in omega (arith, a, d)
lighter lean state (back cs bs left h) = choices_lighter cs bs h

falls_ahead : (codes : Codes) (made : Step) (state : State) → Ahead codes made state → Falls made (weight state)
falls_ahead codes made state (stops _ end q) = tt
falls_ahead codes made state (moves lean _ next q m) = let a = lighter lean next m in let b = falls codes state next q in omega (arith, a, b)
falls_ahead codes made state (ticks lean _ next q m) = tt
falls_ahead codes made state (answers lean _ next values q m) = tt
falls_ahead codes made state (asks lean _ what forked next q m) = tt
falls_ahead codes made state (stuck _ q) = tt
falls_ahead codes (Stops end) state (behind _ _ next q g) = tt
falls_ahead codes (Moves lean) state (behind _ _ next q g) = let a = falls_ahead codes (Moves lean) next g in let b = falls codes state next q in omega (arith, a, b)
falls_ahead codes (Ticks lean) state (behind _ _ next q g) = tt
falls_ahead codes (Answers values lean) state (behind _ _ next q g) = tt
falls_ahead codes (Asks what forked lean) state (behind _ _ next q g) = tt
falls_ahead codes Stuck state (behind _ _ next q g) = tt

pub falls_lean : (codes : Codes) (lean next : State) → step_lean codes lean ≡ Moves next → weight next < weight lean
falls_lean codes lean next e = subst (λ made. Falls made (weight lean)) e (falls_ahead codes (step_lean codes lean) lean (ahead codes lean lean (own lean)))

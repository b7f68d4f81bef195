-- What is left of a run behind answers and steps.
use Rattle.std.proofs.Common.{◌≡◌, ℕ, zero, suc, ◌+◌, List, [], ◌∷◌, Some, length, slice_get, refl, ap, sym, ◌∙◌, subst, arith}
use Rattle.merc_meaning.specs.Trace.{Env, Run, RunEnd, Ends, Tick, Answer}
use Rattle.merc_carried.specs.Runs.{answers_of, end_of, steps_before, behind_steps, IsLeftOf, begins, ticked, answered, HasEnded}

suc_plus : (made more : ℕ) → made + suc more ≡ suc made + more
suc_plus made more = omega arith

none_more : (made : ℕ) → made + zero ≡ made
none_more made = omega arith

none_before : (made : ℕ) → zero + made ≡ made
none_before made = omega arith

-- behind so many steps more
pub left_steps : (whole : Run) (given made more : ℕ) (rest : Run) → IsLeftOf whole given made (behind_steps more rest) → IsLeftOf whole given (made + more) rest
left_steps whole given made zero rest left = subst (λ n. IsLeftOf whole given n rest) (sym (none_more made)) left
left_steps whole given made (suc more) rest left =
    subst (λ n. IsLeftOf whole given n rest) (sym (suc_plus made more)) (left_steps whole given (suc made) more rest (ticked given made (behind_steps more rest) left))

-- the answers further on
pub answers_on : (whole : Run) (given made : ℕ) (rest : Run) → IsLeftOf whole given made rest → (more : ℕ) → slice_get (answers_of whole) (given + more) ≡ slice_get (answers_of rest) more
answers_on whole _ _ _ begins more = ap (λ n. slice_get (answers_of whole) n) (none_before more)
answers_on whole _ _ _ (ticked given made rest left) more = answers_on whole given made (Tick rest) left more
answers_on whole _ _ _ (answered given made env rest left) more =
    ap (λ n. slice_get (answers_of whole) n) (sym (suc_plus given more)) ∙ answers_on whole given made (Answer env rest) left (suc more)

pub count_on : (whole : Run) (given made : ℕ) (rest : Run) → IsLeftOf whole given made rest → length (answers_of whole) ≡ given + length (answers_of rest)
count_on whole _ _ _ begins = sym (none_before (length (answers_of whole)))
count_on whole _ _ _ (ticked given made rest left) = count_on whole given made (Tick rest) left
count_on whole _ _ _ (answered given made env rest left) = count_on whole given made (Answer env rest) left ∙ suc_plus given (length (answers_of rest))

pub end_on : (whole : Run) (given made : ℕ) (rest : Run) → IsLeftOf whole given made rest → end_of whole ≡ end_of rest
end_on whole _ _ _ begins = refl
end_on whole _ _ _ (ticked given made rest left) = end_on whole given made (Tick rest) left
end_on whole _ _ _ (answered given made env rest left) = end_on whole given made (Answer env rest) left

-- the steps further on
pub steps_on : (whole : Run) (given made : ℕ) (rest : Run) → IsLeftOf whole given made rest → (more : ℕ) → steps_before (given + suc more) whole ≡ made + steps_before (suc more) rest
steps_on whole _ _ _ begins more = ap (λ n. steps_before n whole) (none_before (suc more)) ∙ sym (none_before (steps_before (suc more) whole))
steps_on whole _ _ _ (ticked given made rest left) more = steps_on whole given made (Tick rest) left more ∙ suc_plus made (steps_before (suc more) rest)
steps_on whole _ _ _ (answered given made env rest left) more =
    ap (λ n. steps_before n whole) (sym (suc_plus given (suc more))) ∙ steps_on whole given made (Answer env rest) left (suc more)

-- where an answer is next, it is the one behind those that were given
pub next_answer : (whole : Run) (given made : ℕ) (env : Env) (rest : Run) → IsLeftOf whole given made (Answer env rest) → slice_get (answers_of whole) given ≡ Some env
next_answer whole given made env rest left = ap (λ n. slice_get (answers_of whole) n) (sym (none_more given)) ∙ answers_on whole given made (Answer env rest) left zero

-- .. and so many steps were made before it
pub steps_to_answer : (whole : Run) (given made : ℕ) (env : Env) (rest : Run) → IsLeftOf whole given made (Answer env rest) → made ≡ steps_before (suc given) whole
steps_to_answer whole given made env rest left =
    sym (none_more made) ∙ sym (steps_on whole given made (Answer env rest) left zero) ∙ ap (λ n. steps_before n whole) (suc_plus given zero ∙ none_more (suc given))

-- at the end all answers were given
pub ended_there : (whole : Run) (given made : ℕ) (end : RunEnd) → IsLeftOf whole given made (Ends end) → HasEnded whole given end
ended_there whole given made end left =
    record { all = count_on whole given made (Ends end) left ∙ none_more given; is_end = end_on whole given made (Ends end) left }

pub steps_to_end : (whole : Run) (given made : ℕ) (end : RunEnd) → IsLeftOf whole given made (Ends end) → made ≡ steps_before (suc given) whole
steps_to_end whole given made end left =
    sym (none_more made) ∙ sym (steps_on whole given made (Ends end) left zero) ∙ ap (λ n. steps_before n whole) (suc_plus given zero ∙ none_more (suc given))

-- Worked examples of traces, and of what one step does.
use Rattle.std.specs.Prelude.{◌≡◌, ℕ, pos, negsuc, [], ◌∷◌, Option, Some, None, refl}
use Rattle.merc_tree.specs.declared.declarations.Arg.TheVariants.{Input, Output}
use Rattle.merc_goal_tree.specs.declared.goal.Operation.TheVariants.{Add, Subtract}
use Rattle.merc_goal_tree.specs.declared.goal.Symbol.TheVariants.{Constructor}
use Rattle.merc_value.specs.Value.{Value, Int, Text, none, more}
use Rattle.merc_meaning.specs.Values.{same}
use Rattle.merc_meaning.specs.Trace.{Env, Trace, Ends, Tick, Answer, Done, Raised, TooDeep, RunDone, RunRaised, LimitPassed, one_answer, after, each, taken_back, first_alone, choose, negated, cut}
use Rattle.merc_meaning.specs.Steps.{value_at, with_entry, bound, binds, compared, values_at, filled, split, operated, raised, entered, brought_back}

abbrev int : ℕ → Option Value
int number = Some (Int (pos number))

abbrev one : Env
one = int 1 ∷ []

abbrev two : Env
two = int 2 ∷ []

-- a step and an answer, and then this
abbrev step : Trace → Trace
step rest = Tick (Answer one rest)

abbrev done : Trace
done = Ends Done

after-done : after (step done) (one_answer two) ≡ step (Answer two done)
after-done = refl

after-raised : after (step (Ends (Raised 7))) (one_answer two) ≡ step (Ends (Raised 7))
after-raised = refl

after-too_deep : after (step (Ends TooDeep)) (one_answer two) ≡ step (Ends TooDeep)
after-too_deep = refl

each-example : each (λ env. Tick (Answer env (Answer two done))) (step (step done)) ≡ Tick (Tick (Answer one (Answer two (Tick (Tick (Answer one (Answer two done)))))))
each-example = refl

each-raised : each (λ env. Ends (Raised 7)) (step (step done)) ≡ Tick (Ends (Raised 7))
each-raised = refl

taken_back-example : taken_back (λ env. two) (step (step done)) ≡ Tick (Answer two (Tick (Answer two done)))
taken_back-example = refl

-- an exception in a called body is the caller's
taken_back-raised : taken_back (λ env. two) (step (Ends (Raised 7))) ≡ Tick (Answer two (Ends (Raised 7)))
taken_back-raised = refl

taken_back-too_deep : taken_back (λ env. two) (Tick (Ends TooDeep)) ≡ Tick (Ends TooDeep)
taken_back-too_deep = refl

first_alone-example : first_alone (step (step (Ends (Raised 7)))) ≡ step done
first_alone-example = refl

first_alone-none : first_alone (Tick (Ends (Raised 7))) ≡ Tick (Ends (Raised 7))
first_alone-none = refl

choose-answer : choose (λ env. one_answer two) (one_answer one) (step (step done)) ≡ Tick (Answer two (Tick (Answer two done)))
choose-answer = refl

choose-none : choose (λ env. one_answer two) (one_answer one) (Tick done) ≡ step done
choose-none = refl

choose-raised : choose (λ env. one_answer two) (one_answer one) (Tick (Ends (Raised 7))) ≡ Tick (Ends (Raised 7))
choose-raised = refl

choose-too_deep : choose (λ env. one_answer two) (one_answer one) (Tick (Ends TooDeep)) ≡ Tick (Ends TooDeep)
choose-too_deep = refl

choose-raised_behind : choose (λ env. one_answer two) (one_answer one) (step (Ends (Raised 7))) ≡ Tick (Answer two (Ends (Raised 7)))
choose-raised_behind = refl

choose-fails_behind : choose (λ env. done) (one_answer one) (step done) ≡ Tick done
choose-fails_behind = refl

negated-answer : negated two (step (step (Ends (Raised 7)))) ≡ Tick done
negated-answer = refl

negated-none : negated two (Tick done) ≡ Tick (Answer two done)
negated-none = refl

negated-too_deep : negated two (Tick (Ends TooDeep)) ≡ Tick (Ends TooDeep)
negated-too_deep = refl

cut-reached : cut 2 (step (step done)) ≡ Tick (Answer one (Tick (Answer one (Ends RunDone))))
cut-reached = refl

cut-passed : cut 1 (step (step done)) ≡ Tick (Answer one (Ends LimitPassed))
cut-passed = refl

cut-raised : cut 1 (step (Ends (Raised 7))) ≡ Tick (Answer one (Ends (RunRaised 7)))
cut-raised = refl

-- what is too deep is behind the limit
cut-too_deep : cut 3 (step (Ends TooDeep)) ≡ Tick (Answer one (Ends LimitPassed))
cut-too_deep = refl

cut-not : cut 2 (step (step done)) ≡ Tick (Answer one (Ends LimitPassed)) → ⊥
cut-not counts_from_zero = cc

-- environments

value_at-example : value_at (None ∷ int 5 ∷ []) 1 ≡ int 5
value_at-example = refl

value_at-behind : value_at (int 5 ∷ []) 3 ≡ None
value_at-behind = refl

with_entry-example : with_entry two 2 (int 7) ≡ int 2 ∷ None ∷ int 7 ∷ []
with_entry-example = refl

with_entry-cleared : with_entry (int 1 ∷ int 2 ∷ []) 0 None ≡ None ∷ int 2 ∷ []
with_entry-cleared = refl

bound-fills_up : bound one 2 (Text 7) ≡ int 1 ∷ None ∷ Some (Text 7) ∷ []
bound-fills_up = refl

values_at-example : values_at (int 1 ∷ int 2 ∷ []) (1 ∷ 0 ∷ []) ≡ Some (more (Int (pos 2)) (more (Int (pos 1)) none))
values_at-example = refl

values_at-unbound : values_at (int 1 ∷ None ∷ []) (0 ∷ 1 ∷ []) ≡ None
values_at-unbound = refl

values_at-first_unbound : values_at (None ∷ int 1 ∷ []) (0 ∷ 1 ∷ []) ≡ None
values_at-first_unbound = refl

filled-example : filled [] (1 ∷ 0 ∷ []) (more (Text 7) (more (Text 8) none)) ≡ Some (Text 8) ∷ Some (Text 7) ∷ []
filled-example = refl

-- an operand that is unbound, or no integer, fails; only a text is raised

binds-unbound : binds one 1 None ≡ done
binds-unbound = refl

compared-unbound_left : compared one same None (int 1) ≡ done
compared-unbound_left = refl

compared-unbound_right : compared one same (int 1) None ≡ done
compared-unbound_right = refl

split-unbound : split [] (Constructor 200 1) (0 ∷ []) None ≡ done
split-unbound = refl

operated-unbound : operated [] Add 0 (int 1) None ≡ done
operated-unbound = refl

operated-unbound_left : operated [] Add 0 None (int 1) ≡ done
operated-unbound_left = refl

operated-order : operated one Subtract 1 (int 7) (int 9) ≡ Answer (int 1 ∷ Some (Int (negsuc 1)) ∷ []) done
operated-order = refl

operated-text : operated [] Add 0 (Some (Text 7)) (int 1) ≡ done
operated-text = refl

raised-text : raised (Some (Text 7)) ≡ Ends (Raised 7)
raised-text = refl

raised-integer : raised (int 7) ≡ done
raised-integer = refl

-- of a call `p(in, out)` with the arguments 4 and 2

entered-example : entered (Input ∷ Output ∷ []) (4 ∷ 2 ∷ []) (None ∷ None ∷ int 9 ∷ None ∷ int 5 ∷ []) ≡ int 5 ∷ None ∷ []
entered-example = refl

brought_back-example : brought_back (Input ∷ Output ∷ []) (1 ∷ 2 ∷ []) (value_at (int 6 ∷ int 7 ∷ int 8 ∷ [])) (None ∷ int 5 ∷ []) ≡ None ∷ int 5 ∷ int 7 ∷ []
brought_back-example = refl

-- of a call `p(out, out)` with the arguments 1 and 0
brought_back-outputs : brought_back (Output ∷ Output ∷ []) (1 ∷ 0 ∷ []) (value_at (int 6 ∷ int 7 ∷ [])) [] ≡ int 7 ∷ int 6 ∷ []
brought_back-outputs = refl

brought_back-unbound : brought_back (Output ∷ []) (0 ∷ []) (value_at []) one ≡ None ∷ []
brought_back-unbound = refl

brought_back-not : brought_back (Input ∷ Output ∷ []) (1 ∷ 2 ∷ []) (value_at (int 6 ∷ int 7 ∷ [])) (None ∷ int 5 ∷ []) ≡ None ∷ int 6 ∷ int 7 ∷ [] → ⊥
brought_back-not inputs_too = cc

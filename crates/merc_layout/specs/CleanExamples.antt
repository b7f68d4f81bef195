-- Worked examples of slots at which instructions look, which they write, and from which places they may be read.
use Rattle.std.specs.Prelude.{◌≡◌, pos, true, false, [], ◌∷◌, None, refl}
use Rattle.merc_tree.specs.declared.declarations.Arg.TheVariants.{Input, Output}
use Rattle.merc_goal_tree.specs.declared.goal.Symbol.TheVariants.{Constructor, Integer as IntegerSymbol}
use Rattle.merc_code.specs.declared.instruction.Instruction.TheVariants.{Text, Copy, Split, Jump, Try, Mark, Commit, Call, Return, Fork, Wait, Signal}
use Rattle.merc_code.specs.Steps.{Codes}
use Rattle.merc_code.specs.StepsExamples.{procedure, site}
use Rattle.merc_live.specs.ReadsExamples.{one}
use Rattle.merc_live.specs.declared.reading.Slot.TheVariants.{Variable, Mark as MarkSlot}
use Rattle.merc_layout.specs.Clean.{arguments_at, looks_at, own_at, places_in, reading_places, writes}

arguments_at-inputs : arguments_at Input (Output ∷ Input ∷ []) (7 ∷ 9 ∷ []) ≡ 9 ∷ []
arguments_at-inputs = refl

arguments_at-outputs : arguments_at Output (Output ∷ Input ∷ []) (7 ∷ 9 ∷ []) ≡ 7 ∷ []
arguments_at-outputs = refl

own_at-inputs : own_at Input (Output ∷ Input ∷ []) ≡ 1 ∷ []
own_at-inputs = refl

own_at-outputs : own_at Output (Output ∷ Input ∷ []) ≡ 0 ∷ []
own_at-outputs = refl

places_in-none : places_in None ≡ []
places_in-none = refl

places_in-example : places_in (Codes.procedures one (procedure 0)) ≡ Input ∷ Output ∷ []
places_in-example = refl

-- A call looks at the input and writes the output.

looks_at-input : looks_at one [] (Variable 7) (Call (procedure 0) (7 ∷ 9 ∷ [])) ≡ true
looks_at-input = refl

looks_at-output : looks_at one [] (Variable 9) (Call (procedure 0) (7 ∷ 9 ∷ [])) ≡ false
looks_at-output = refl

writes-output : writes one (Variable 9) (Call (procedure 0) (7 ∷ 9 ∷ [])) ≡ true
writes-output = refl

writes-input : writes one (Variable 7) (Call (procedure 0) (7 ∷ 9 ∷ [])) ≡ false
writes-input = refl

-- A return looks at the outputs of the procedure.

looks_at-returned : looks_at one (Input ∷ Output ∷ []) (Variable 1) Return ≡ true
looks_at-returned = refl

looks_at-not_returned : looks_at one (Input ∷ Output ∷ []) (Variable 0) Return ≡ false
looks_at-not_returned = refl

-- A fork looks at all that its conjuncts use, a signal at what it hands on, and a wait writes.

looks_at-forked : looks_at one [] (Variable 5) (Fork (site 7)) ≡ true
looks_at-forked = refl

looks_at-not_forked : looks_at one [] (Variable 6) (Fork (site 7)) ≡ false
looks_at-not_forked = refl

looks_at-handed_on : looks_at one [] (Variable 3) (Signal 3) ≡ true
looks_at-handed_on = refl

looks_at-awaited : looks_at one [] (Variable 3) (Wait 3) ≡ false
looks_at-awaited = refl

writes-awaited : writes one (Variable 3) (Wait 3) ≡ true
writes-awaited = refl

-- Variables and marks are apart.

looks_at-mark : looks_at one [] (MarkSlot 0) (Commit 0) ≡ true
looks_at-mark = refl

looks_at-no_variable : looks_at one [] (Variable 0) (Commit 0) ≡ false
looks_at-no_variable = refl

writes-mark : writes one (MarkSlot 0) (Mark 0) ≡ true
writes-mark = refl

writes-no_mark : writes one (MarkSlot 0) (Copy 0 1) ≡ false
writes-no_mark = refl

-- A split writes as many variables as the symbol has arguments.

writes-split : writes one (Variable 4) (Split 0 (Constructor 5 1) (3 ∷ 4 ∷ [])) ≡ false
writes-split = refl

writes-literal : writes one (Variable 3) (Split 0 (IntegerSymbol (pos 1)) (3 ∷ [])) ≡ false
writes-literal = refl

-- The output is given by a copy of the input, and then returned: behind the copy it may be read, in front of it it may not.

reading_places-output : reading_places one (Input ∷ Output ∷ []) (Variable 1) (Copy 1 0 ∷ Return ∷ []) ≡ false ∷ true ∷ []
reading_places-output = refl

reading_places-input : reading_places one (Input ∷ Output ∷ []) (Variable 0) (Copy 1 0 ∷ Return ∷ []) ≡ true ∷ false ∷ []
reading_places-input = refl

-- Where the else part gives no output, it may be read from the choice point on.
reading_places-else : reading_places one (Output ∷ []) (Variable 0) (Try 2 ∷ Text 0 7 ∷ Jump 0 ∷ Return ∷ []) ≡ true ∷ false ∷ true ∷ true ∷ []
reading_places-else = refl

reading_places-both : reading_places one (Output ∷ []) (Variable 0) (Try 2 ∷ Text 0 7 ∷ Jump 1 ∷ Text 0 8 ∷ Return ∷ []) ≡ false ∷ false ∷ true ∷ false ∷ true ∷ []
reading_places-both = refl

reading_places-mark : reading_places one [] (MarkSlot 0) (Commit 0 ∷ Return ∷ []) ≡ true ∷ false ∷ []
reading_places-mark = refl

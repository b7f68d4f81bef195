-- Worked examples of frames in which code has room.
use Rattle.std.specs.Prelude.{◌<◌, ℕ, zero, suc, List, [], ◌∷◌}
use Rattle.std.proofs.Common.{arith}
use Rattle.std.proofs.lemmas.List.Elements.{All-from_recursion, All-nil}
use Rattle.merc_code.specs.declared.instruction.Instruction.TheVariants.{Mark, Return, Fork, Close}
use Rattle.merc_code.specs.Steps.{Code, ConjunctCode}
use Rattle.merc_code.specs.StepsExamples.{site}
use Rattle.merc_layout.specs.Frames.{FitsInstruction}
use Rattle.merc_layout.specs.FramesExamples.{fits, lends}
use Rattle.merc_layout.specs.Sizes.{HasRoom, IsWithin, TellsLent}

-- At the second site a conjunct is forked that uses two variables.
abbrev forked : ℕ → List ConjunctCode
forked zero = []
forked (suc zero) = record { used = 3 ∷ 4 ∷ []; code = Close ∷ [] } ∷ []
forked (suc (suc site)) = []

tells_lent-example : TellsLent (0 ∷ 5 ∷ []) forked
tells_lent-example zero = All-nil (λ (variable : ℕ). variable < 0)
tells_lent-example (suc zero) = All-from_recursion (λ (variable : ℕ). variable < 5) (3 ∷ 4 ∷ []) (omega arith, (omega arith, tt))
tells_lent-example (suc (suc site)) = All-nil (λ (variable : ℕ). variable < 0)

tells_lent-not : TellsLent (0 ∷ 4 ∷ []) forked → ⊥
tells_lent-not tells = let h : 4 < 4 = tells 1 1 0 (omega arith) in absurd (omega (arith, h))

-- Nothing is told of the second site.
tells_lent-fewer : TellsLent (0 ∷ []) forked → ⊥
tells_lent-fewer tells = let h : 3 < 0 = tells 1 0 0 (omega arith) in absurd (omega (arith, h))

is_within-example : IsWithin forked 5 0 (Fork (site 1))
is_within-example = record {
  written_variables_are_there = All-nil (λ (variable : ℕ). variable < 5);
  set_marks_are_there = All-nil (λ (mark : ℕ). mark < 0);
  read_variables_are_there = All-nil (λ (variable : ℕ). variable < 5);
  read_marks_are_there = All-nil (λ (mark : ℕ). mark < 0);
  lent_variables_are_there = All-from_recursion (λ (variable : ℕ). variable < 5) (3 ∷ 4 ∷ []) (omega arith, (omega arith, tt));
}

is_within-not : IsWithin forked 4 0 (Fork (site 1)) → ⊥
is_within-not within = let h : 4 < 4 = within.lent_variables_are_there 1 0 (omega arith) in absurd (omega (arith, h))

abbrev forks : Code
forks = Mark 0 ∷ Fork (site 1) ∷ Return ∷ []

has_room-example : HasRoom forked (record { variables = 5; slots = 6 }) 1 forks
has_room-example = record {
  room = omega arith;
  arguments = omega arith;
  fits = All-from_recursion (FitsInstruction 5 6) forks (fits 5 6 (Mark 0) tt (omega arith, tt) tt tt, (fits 5 6 (Fork (site 1)) tt tt tt tt, (fits 5 6 Return tt tt tt tt, tt)));
  lends = lends forked 5 forks (tt, ((omega arith, (omega arith, tt)), (tt, tt)));
}

-- There is no variable for what the conjunct uses.
has_room-not : HasRoom forked (record { variables = 4; slots = 6 }) 1 forks → ⊥
has_room-not has = let h : 4 < 4 = has.lends 1 Return (omega arith) 1 0 (omega arith) in absurd (omega (arith, h))

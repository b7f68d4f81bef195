-- Worked examples of code that starts clean.
use Rattle.std.specs.Prelude.{◌≡◌, ℕ, Bool, true, false, List, [], ◌∷◌, Some, refl}
use Rattle.merc_tree.specs.declared.declarations.Arg.{Arg}
use Rattle.merc_tree.specs.declared.declarations.Arg.TheVariants.{Input, Output}
use Rattle.merc_code.specs.declared.instruction.Instruction.TheVariants.{Copy, Commit, Return}
use Rattle.merc_code.specs.Steps.{Code, Codes}
use Rattle.merc_live.specs.Reads.{is_in, MayReadVariable, MayReadMark, here, later, there}
use Rattle.merc_layout.specs.StartsClean.{StartsClean, own_inputs}

own_inputs-example : own_inputs 0 (Output ∷ Input ∷ Output ∷ Input ∷ []) ≡ 1 ∷ 3 ∷ []
own_inputs-example = refl

abbrev pub both : List Arg
both = Input ∷ Output ∷ []

abbrev pub gives_back : Code
gives_back = Copy 1 0 ∷ Return ∷ []

-- Code that gives the input back looks at it alone, whatever code the procedures have.
module _ (codes : Codes) where
  returns_output : (variable : ℕ) → is_in variable (1 ∷ []) ≡ false → MayReadVariable codes (Some both) variable (Return ∷ []) → ⊥
  returns_output variable other (here _ _ r) = clash (is_in variable (1 ∷ [])) r other
    where
      clash : (b : Bool) → b ≡ true → b ≡ false → ⊥
      clash true t f = absurd cc
      clash false t f = absurd cc
  returns_output variable other (later _ _ on g h) = absurd cc
  returns_output variable other (there _ _ skipped s h) = absurd cc

  gives_back_reads : (variable : ℕ) → MayReadVariable codes (Some both) variable gives_back → is_in variable (0 ∷ []) ≡ true
  gives_back_reads variable (here _ _ r) = r
  gives_back_reads variable (later _ _ on g h) = absurd (returns_output variable g h)
  gives_back_reads variable (there _ _ skipped s h) = absurd cc

  returns_no_mark : (mark : ℕ) → MayReadMark mark (Return ∷ []) → ⊥
  returns_no_mark mark (here _ _ r) = absurd cc
  returns_no_mark mark (later _ _ on g h) = absurd cc
  returns_no_mark mark (there _ _ skipped s h) = absurd cc

  gives_back_reads_no_mark : (mark : ℕ) → MayReadMark mark gives_back → ⊥
  gives_back_reads_no_mark mark (here _ _ r) = absurd cc
  gives_back_reads_no_mark mark (later _ _ on g h) = returns_no_mark mark h
  gives_back_reads_no_mark mark (there _ _ skipped s h) = absurd cc

  pub gives_back_clean : StartsClean codes both gives_back
  gives_back_clean = record { variables = gives_back_reads; marks = gives_back_reads_no_mark }

  -- an output that is returned and was not given
  pub starts_clean-not_given : StartsClean codes both (Return ∷ []) → ⊥
  starts_clean-not_given clean = let e : false ≡ true = clean.variables 1 (here _ _ refl) in absurd cc

  -- a mark that was not set
  starts_clean-not_set : StartsClean codes [] (Commit 0 ∷ Return ∷ []) → ⊥
  starts_clean-not_set clean = clean.marks 0 (here _ _ refl)

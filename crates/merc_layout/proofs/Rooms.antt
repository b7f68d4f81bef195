-- Room in frames.
use Rattle.std.specs.Prelude.{◌≡◌, ◌+◌, ◌≤◌, ◌<◌, ℕ, ◌⊎◌, List, length}
use Rattle.std.specs.List.{slice_index_or}
use Rattle.std.proofs.Common.{arith, subst, ◌∙◌, inl, inr}
use Rattle.std.proofs.lemmas.Bool.{cases_lt}
use Rattle.std.proofs.lemmas.List.{get_or_default}
use Rattle.merc_code.specs.declared.instruction.Instruction.{Instruction}
use Rattle.merc_code.specs.Steps.{Code, ConjunctCode}
use Rattle.merc_layout.specs.Frames.{FitsCode, LendsWithin}
use Rattle.merc_layout.specs.Sizes.{IsWithin}

-- Given is which conjuncts are forked at each site.
module _ (conjuncts : ℕ → List ConjunctCode) where
  pub within-more : (variables marks more_variables more_marks : ℕ) (instruction : Instruction) → variables ≤ more_variables → marks ≤ more_marks → IsWithin conjuncts variables marks instruction
      → IsWithin conjuncts more_variables more_marks instruction
  within-more variables marks more_variables more_marks instruction v m within = record {
    written_variables_are_there = λ k d h. let e = within.written_variables_are_there k d h in omega (arith, v, e);
    set_marks_are_there = λ k d h. let e = within.set_marks_are_there k d h in omega (arith, m, e);
    read_variables_are_there = λ k d h. let e = within.read_variables_are_there k d h in omega (arith, v, e);
    read_marks_are_there = λ k d h. let e = within.read_marks_are_there k d h in omega (arith, m, e);
    lent_variables_are_there = λ k d h. let e = within.lent_variables_are_there k d h in omega (arith, v, e);
  }

  -- one instruction more
  pub within-step : (code : Code) (index : ℕ) (instruction : Instruction) (variables marks more_variables more_marks : ℕ) → index < length code → instruction ≡ slice_index_or code index instruction
      → variables ≤ more_variables → marks ≤ more_marks → ((k : ℕ) (d : Instruction) → k < index → IsWithin conjuncts variables marks (slice_index_or code k d)) → IsWithin conjuncts more_variables more_marks instruction
      → (k : ℕ) (d : Instruction) → k < index + 1 → IsWithin conjuncts more_variables more_marks (slice_index_or code k d)
  within-step code index instruction variables marks more_variables more_marks inside found v m before here k d h = by (cases_lt k index)
    where
      by : (k < index) ⊎ (index ≤ k) → IsWithin conjuncts more_variables more_marks (slice_index_or code k d)
      by (inl less) = within-more variables marks more_variables more_marks (slice_index_or code k d) v m (before k d less)
      by (inr most) =
          let e : index ≡ k = omega (arith, h, most) in
          subst (λ n. IsWithin conjuncts more_variables more_marks (slice_index_or code n d)) e
          (subst (IsWithin conjuncts more_variables more_marks) (found ∙ get_or_default code index instruction d inside) here)

  pub fits_within : (code : Code) (index variables marks slots : ℕ) → length code ≤ index → slots ≡ variables + marks → ((k : ℕ) (d : Instruction) → k < index → IsWithin conjuncts variables marks (slice_index_or code k d))
      → FitsCode variables slots code
  fits_within code index variables marks slots all e within k d h =
      let w = within k d (omega (arith, all, h)) in
      record {
        written_variables_are_there = w.written_variables_are_there;
        set_marks_are_there = λ n m l. let s = w.set_marks_are_there n m l in omega (arith, e, s);
        read_variables_are_there = w.read_variables_are_there;
        read_marks_are_there = λ n m l. let s = w.read_marks_are_there n m l in omega (arith, e, s);
      }

  pub lends_within : (code : Code) (index variables marks : ℕ) → length code ≤ index → ((k : ℕ) (d : Instruction) → k < index → IsWithin conjuncts variables marks (slice_index_or code k d))
      → LendsWithin conjuncts variables code
  lends_within code index variables marks all within k d h = (within k d (omega (arith, all, h))).lent_variables_are_there

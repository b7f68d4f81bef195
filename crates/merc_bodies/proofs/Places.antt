-- The place that a search among rising numbers finds.
use Rattle.std.proofs.Common.{◌≡◌, ℕ, ◌<◌, ◌≤◌, List, length, get_or, Ok, Err, sym, arith, ⊎_elim}
use Rattle.std.specs.Prelude.{◌==◌}
use Rattle.std.specs.List.{position_or_len}
use Rattle.std.specs.List.Sorted.{IsBinarySearchResult, IsStrictlyIncreasing}
use Rattle.std.specs.Ordering.{nat_cmp}
use Rattle.std.proofs.lemmas.Bool.{eq-eqb, ne_eqb, cases_lt}
use Rattle.std.proofs.lemmas.List.Sorted.{searched}
use Rattle.std.proofs.lemmas.List.Sums.{position_or_len_is}
use Rattle.std.proofs.lemmas.Map.Keys.{below_from_sorted, non_decreasing_from_sorted, sorted_from_strictly_increasing}

module _ (own : List ℕ) (rises : IsStrictlyIncreasing own) (number : ℕ) where
  pub found_at : (place : ℕ) → IsBinarySearchResult (λ other. nat_cmp other number) own (Ok place) → place ≡ position_or_len (λ other. other == number) own
  found_at place found =
      let there = searched own number (Ok place) found (λ i j le within. non_decreasing_from_sorted own (sorted_from_strictly_increasing own rises) i j 0 le within) in
      sym (position_or_len_is (λ other. other == number) own place 0 (omega (arith, there.0))
      (λ k before. ne_eqb (get_or own k 0) number
      (λ same. let less = below_from_sorted own k place 0 (sorted_from_strictly_increasing own rises) before there.0 in omega (arith, less, same, there.1)))
      (λ within. eq-eqb (get_or own place 0) number there.1))

  pub found_nowhere : (place : ℕ) → IsBinarySearchResult (λ other. nat_cmp other number) own (Err place) → length own ≡ position_or_len (λ other. other == number) own
  found_nowhere place found =
      let there = searched own number (Err place) found (λ i j le within. non_decreasing_from_sorted own (sorted_from_strictly_increasing own rises) i j 0 le within) in
      sym (position_or_len_is (λ other. other == number) own (length own) 0 (omega arith)
      (λ k within. ne_eqb (get_or own k 0) number
      (λ same. ⊎_elim
      (λ (before : k < place). let less = there.1 k before in omega (arith, less, same))
      (λ (past : place ≤ k). let less = there.2 k past within in omega (arith, less, same))
      (cases_lt k place)))
      (λ within. absurd (omega (arith, within))))

-- How long the slices are that are passed on.
use Rattle.std.specs.Prelude.{◌≡◌, ◌≤◌, ◌+◌, ◌-◌, ℕ, List, ◌++◌, length, take, drop}
use Rattle.std.specs.List.{slice_range}
use Rattle.std.proofs.Common.{◌∙◌, ap, arith}
use Rattle.std.proofs.lemmas.List.{length-append, length-drop, length-take-le}
use Rattle.std.proofs.lemmas.Slice.{between_to_end}

module _ {X : Type 0} (items : List X) where
  pub front_length : (own size more : ℕ) → length items ≡ size + more → own ≡ size → length (take own items) ≡ size
  front_length own size more all is = length-take-le own items (omega (arith, all, is)) ∙ is

  pub part_length : (at end size : ℕ) → end ≤ length items → end ≡ at + size → length (slice_range items at end) ≡ size
  part_length at end size room is = length-take-le (end - at) (drop at items) (omega (arith, room, length-drop at items)) ∙ omega (arith, is)

  pub tail_length : (own size more : ℕ) → length items ≡ size + more → own ≡ size → length (slice_range items own (length items)) ≡ more
  tail_length own size more all is = ap length (between_to_end items own (length items) (omega arith)) ∙ length-drop own items ∙ omega (arith, all, is)

  -- the front was written over
  pub whole_length : (own size more : ℕ) (new : List X) → length items ≡ size + more → own ≡ size → length new ≡ length (take own items) → length (new ++ drop own items) ≡ size + more
  whole_length own size more new all is same = length-append new (drop own items) ∙ omega (arith, all, is, same, front_length own size more all is, length-drop own items)

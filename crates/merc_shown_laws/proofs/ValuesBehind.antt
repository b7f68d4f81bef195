-- The values of what is held by name behind a fork, by number: of the fork's own cells anew, and of others as before.
use Rattle.std.proofs.Common.{◌≡◌, refl, ap, ◌∙◌, subst, inl, inr, ℕ, nat_eq, Bool, true, false, ◌||◌, if◌then◌else◌, List, [], ◌∷◌, ◌++◌, map, Option}
use Rattle.merc_value.specs.Value.{Value}
use Rattle.merc_script.specs.declared.cells.Move.{Move}
use Rattle.merc_script.specs.Script.{Cell}
use Rattle.merc_core.specs.Rights.{has, without, numbers_of, moved, used_by, signals_behind}
use Rattle.merc_core.specs.WellFormed.{value_in}
use Rattle.merc_plan.specs.BranchScript.{with_numbers, renamed_cell}
use Rattle.merc_plan.proofs.Judging.{told_values}
use Rattle.merc_plan.proofs.NumberingLists.{clash, same_number, in_either, without_in}
use Rattle.merc_plan.proofs.NumberingCells.{with_old, among_all}
use Rattle.merc_plan.proofs.Numbering.{IsHeld}
use Rattle.merc_plan.proofs.StandingAt.{HaveValues, AreSame}

-- Given are the cells' values by numbers.
module _ (values : ℕ → Option Value) where
  pub fewer-waits : (value : ℕ → Option Value) (numbers : ℕ → ℕ) (signals waits gone : List ℕ) → AreSame values value numbers signals waits → AreSame values value numbers signals (without gone waits)
  fewer-waits value numbers signals waits gone same c (inl h) = same c (inl h)
  fewer-waits value numbers signals waits gone same c (inr h) = same c (inr (without_in c gone waits h).0)

  pub fewer-signals : (value : ℕ → Option Value) (numbers : ℕ → ℕ) (signals waits gone : List ℕ) → AreSame values value numbers signals waits → AreSame values value numbers (without gone signals) waits
  fewer-signals value numbers signals waits gone same c (inl h) = same c (inl (without_in c gone signals h).0)
  fewer-signals value numbers signals waits gone same c (inr h) = same c (inr h)

  found-value : (inner : ℕ → ℕ) (cells : List Cell) (c : ℕ) → HaveValues values (map (renamed_cell inner) cells) → has c (numbers_of cells) ≡ true → values (inner c) ≡ value_in cells c
  found-value inner [] c a e = absurd cc
  found-value inner (one ∷ rest) c a e = by-test (nat_eq one.cell c) (has c (numbers_of rest)) refl (found-value inner rest c a.1) e where
    by-test : (b more : Bool) → nat_eq one.cell c ≡ b → (more ≡ true → values (inner c) ≡ value_in rest c) → (b || more) ≡ true
        → values (inner c) ≡ (if b then one.value else value_in rest c)
    by-test true more q h e = subst (λ n. values (inner n) ≡ one.value) (same_number one.cell c q) a.0
    by-test false more q h e = h e

  told-so : (value : ℕ → Option Value) (numbers : ℕ → ℕ) (cells : List Cell) (first : ℕ) → HaveValues values (map (renamed_cell (with_numbers cells first numbers)) cells)
      → (c : ℕ) → (has c (numbers_of cells) ≡ false → values (numbers c) ≡ value c) → values (with_numbers cells first numbers c) ≡ told_values value cells c
  told-so value numbers cells first a c same = by-test (has c (numbers_of cells)) refl where
    by-test : (b : Bool) → has c (numbers_of cells) ≡ b → values (with_numbers cells first numbers c) ≡ (if b then value_in cells c else value c)
    by-test true e = found-value (with_numbers cells first numbers) cells c a e
    by-test false e = ap values (with_old cells first numbers c e) ∙ same e

  pub own-or-kept : (value : ℕ → Option Value) (numbers : ℕ → ℕ) (signals waits : List ℕ) → AreSame values value numbers signals waits → (cells : List Cell) (moves : List Move) (first : ℕ)
      → HaveValues values (map (renamed_cell (with_numbers cells first numbers)) cells)
      → AreSame values (told_values value cells) (with_numbers cells first numbers) (signals_behind signals moves) (used_by 0 cells ++ without (numbers_of cells) (without (moved false moves) waits))
  own-or-kept value numbers signals waits same cells moves first a c held = told-so value numbers cells first a c (by-kind held) where
    by-kind : IsHeld (signals_behind signals moves) (used_by 0 cells ++ without (numbers_of cells) (without (moved false moves) waits)) c → has c (numbers_of cells) ≡ false
        → values (numbers c) ≡ value c
    by-kind (inl h) e = same c (inl (without_in c (moved true moves) signals h).0)
    by-kind (inr h) e = elim (in_either c (used_by 0 cells) (without (numbers_of cells) (without (moved false moves) waits)) h) [
      | inl i ↦ clash (has c (numbers_of cells)) (among_all (λ one. nat_eq one.consumer 0) c cells i) e
      | inr i ↦ same c (inr (without_in c (moved false moves) waits (without_in c (numbers_of cells) (without (moved false moves) waits) i).0).0)
    ]

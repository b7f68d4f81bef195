-- The variables of a clause and the places of its own ones.
use Rattle.std.proofs.Common.{◌≡◌, ℕ, ◌<◌, ◌≤◌, true, false, true≢false, List, [], ◌∷◌, ◌++◌, length, get_or, ap, sym, ◌∙◌, arith, ⊎_elim}
use Rattle.std.specs.Prelude.{◌==◌, nat_le}
use Rattle.std.specs.List.{filter, position_or_len}
use Rattle.std.proofs.lemmas.Bool.{cases_lt, eqb-true, eq-eqb, le-leb, or_left, or_right, or_cases}
use Rattle.std.proofs.lemmas.List.Folds.{Any-from_list_any}
use Rattle.std.proofs.lemmas.List.Sums.{fails_before_first, passes_at_first}
use Rattle.std.proofs.lemmas.Map.Views.{any-filter_same}
use Rattle.merc_goal_tree.specs.Nodes.{Node}
use Rattle.merc_goal_tree.specs.Variables.{variables}
use Rattle.merc_bodies.specs.Bodies.{own_variables}
use Rattle.merc_bodies.proofs.Rising.{has, has-rising}

pub has_first : (number : ℕ) (one other : List ℕ) → has number one ≡ true → has number (one ++ other) ≡ true
has_first number [] other there = absurd cc
has_first number (first ∷ rest) other there =
    ⊎_elim (λ here. or_left (number == first) (has number (rest ++ other)) here) (λ behind. or_right (number == first) (has number (rest ++ other)) (has_first number rest other behind)) (or_cases (number == first) (has number rest) there)

pub has_second : (number : ℕ) (one other : List ℕ) → has number other ≡ true → has number (one ++ other) ≡ true
has_second number [] other there = there
has_second number (first ∷ rest) other there = or_right (number == first) (has number (rest ++ other)) (has_second number rest other there)

-- a variable of the clause that is no argument is among its own
pub has_own : (arity : ℕ) (form : Node) (variable : ℕ) → has variable (variables form) ≡ true → arity ≤ variable → has variable (own_variables arity form) ≡ true
has_own arity form variable there past =
    has-rising variable (filter (λ other. nat_le arity other) (variables form))
    ∙ any-filter_same (λ other. variable == other) (λ other. nat_le arity other) true
    (λ other same. ap (λ n. nat_le arity n) (sym (eqb-true variable other same)) ∙ le-leb arity variable past) (variables form)
    ∙ there

-- a number that is there has a place
pub place_within : (number : ℕ) (numbers : List ℕ) → has number numbers ≡ true → position_or_len (λ other. other == number) numbers < length numbers
place_within number numbers there =
    let some = Any-from_list_any (λ other. number == other) numbers there in
    ⊎_elim
    (λ (within : position_or_len (λ other. other == number) numbers < length numbers). within)
    (λ (past : length numbers ≤ position_or_len (λ other. other == number) numbers).
    let fails : (get_or numbers some.0 some.1 == number) ≡ false = fails_before_first (λ other. other == number) numbers some.0 some.1 (omega (arith, some.2)) in
    let passes : (some.1 == number) ≡ true = eq-eqb some.1 number (sym (eqb-true number some.1 some.4)) in
    absurd (true≢false (sym passes ∙ ap (λ n. n == number) (sym some.3) ∙ fails)))
    (cases_lt (position_or_len (λ other. other == number) numbers) (length numbers))

pub at_place : (number : ℕ) (numbers : List ℕ) → has number numbers ≡ true → get_or numbers (position_or_len (λ other. other == number) numbers) 0 ≡ number
at_place number numbers there = eqb-true _ number (passes_at_first (λ other. other == number) numbers 0 (place_within number numbers there))

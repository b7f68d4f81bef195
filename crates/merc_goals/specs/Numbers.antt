-- Terms with their numbers among the parts of a text.
use Rattle.std.specs.Prelude.{ℕ, ◌+◌, ◌≤◌, ◌^◌, List, [], ◌∷◌, refl}
use Rattle.std.specs.Coded.{Coded, code_by, coded×, coded_ℕ}
use Rattle.merc_tree.specs.Term.{Term}
use Rattle.merc_tree.specs.TermCode.{term_code}
use Rattle.merc_goals.specs.Written.{parts}

-- a term, and its number
pub record NumberedTerm : Type 0 where
  pub term : Term
  pub at : ℕ

abbrev pub numbered_code : Coded NumberedTerm
numbered_code = code_by (Term × ℕ) (coded× term_code coded_ℕ) (λ n. (n.term, n.at)) (λ p. record { term = p.0; at = p.1 }) (λ _. refl)

-- the greatest number that a part of a text may have or stand behind
abbrev pub number_limit : ℕ
number_limit = 2 ^ 62

-- the greatest from which the parts of a term may be numbered; a term has fewer than 2 ^ 58
abbrev pub first_limit : ℕ
first_limit = 2 ^ 61

-- the greatest from which the parts of a clause may be numbered, its body behind its head
abbrev pub clause_limit : ℕ
clause_limit = 2 ^ 60

-- the numbers of a term and its parts keep the limit
abbrev pub Fits : ℕ → Term → Type 0
Fits at term = at + parts term ≤ number_limit

-- those of both arguments of the term with this number do
abbrev pub BothFit : ℕ → Term → Term → Type 0
BothFit at left right = at + 2 + parts left + parts right ≤ number_limit

-- the arguments of the term with this number
abbrev pub left_of : ℕ → Term → NumberedTerm
left_of at left = record { term = left; at = at + 2 }

abbrev pub right_of : ℕ → Term → Term → NumberedTerm
right_of at left right = record { term = right; at = at + 2 + parts left }

-- terms one after the other, of which the first has this number
abbrev pub numbered_from : ℕ → List Term → List NumberedTerm
numbered_from at [] = []
numbered_from at (first ∷ rest) = record { term = first; at = at } ∷ numbered_from (at + parts first) rest

-- The operators that are spelled like plain names, and so are written within quotes where they stand as names, are those of
-- the operator table that are spelled so.
use Rattle.std.proofs.Common.{◌≡◌, ℕ, List, map, refl}
use Rattle.std.specs.List.{filter}
use Rattle.merc_base.specs.Names.{fixed_names}
use Rattle.merc_value.specs.Text.{is_word, text_at, word_operators}
use Rattle.merc_terms.specs.declared.operators.Operator.{Operator}
use Rattle.merc_terms.specs.Operators.{operators}

abbrev operator_texts : List (List ℕ)
operator_texts = map (λ (operator : Operator). text_at fixed_names operator.name) operators

pub word_operators-all : word_operators ≡ filter is_word operator_texts
unfolding word_operators operators fixed_names
word_operators-all = refl

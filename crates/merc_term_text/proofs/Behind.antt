-- What stands behind a token that its own bytes must not go on with.
use Rattle.std.proofs.Common.{◌≡◌, ℕ, false, List, [], ◌∷◌, refl}
use Rattle.merc_base.specs.Characters.{close_code, close_list_code, comma_code, dot_code, double_quote_code, open_code, quote_code, space_code, zero_code}
use Rattle.merc_tokens.specs.declared.bytes.Class.TheVariants.{Word, Digits}
use Rattle.merc_tokens.specs.declared.integers.Form.TheVariants.{Decimal}
use Rattle.merc_tokens.specs.Bytes.{is_letter, is_graphic, class_test, begins_with, next_is}
use Rattle.merc_tokens.specs.Integers.{form_of}
use Rattle.merc_tokens.specs.Pieces.{begins_fraction}

-- behind a full stop: nothing, or a blank
pub data EndsItem : List ℕ → Type 0 where
  at_end : EndsItem []
  at_blank : (rest : List ℕ) → EndsItem (space_code ∷ rest)

-- behind an operand: nothing, a blank, a closing bracket, a comma or a full stop
pub data EndsOperand : List ℕ → Type 0 where
  nothing : EndsOperand []
  blank : (rest : List ℕ) → EndsOperand (space_code ∷ rest)
  close : (rest : List ℕ) → EndsOperand (close_code ∷ rest)
  close_list : (rest : List ℕ) → EndsOperand (close_list_code ∷ rest)
  comma : (rest : List ℕ) → EndsOperand (comma_code ∷ rest)
  stop : EndsOperand (46 ∷ [])
  stop_blank : (rest : List ℕ) → EndsOperand (46 ∷ 32 ∷ rest)

-- and behind a name an opening parenthesis and a qualifier mark as well
pub data EndsName : List ℕ → Type 0 where
  operand : (rest : List ℕ) → EndsOperand rest → EndsName rest
  open_args : (rest : List ℕ) → EndsName (open_code ∷ rest)
  dot : (rest : List ℕ) → EndsName (dot_code ∷ rest)

pub stopped : (rest : List ℕ) → EndsItem rest → EndsOperand (dot_code ∷ rest)
stopped _ at_end = stop
stopped _ (at_blank rest) = stop_blank rest

pub ended : (rest : List ℕ) → EndsItem rest → EndsName rest
ended _ at_end = operand [] nothing
ended _ (at_blank rest) = operand (space_code ∷ rest) (blank rest)

pub ended-no_graphic : (rest : List ℕ) → EndsItem rest → begins_with is_graphic rest ≡ false
ended-no_graphic _ at_end = refl
ended-no_graphic _ (at_blank rest) = refl

pub no_digit : (rest : List ℕ) → EndsOperand rest → begins_with (class_test (Digits 10)) rest ≡ false
no_digit _ nothing = refl
no_digit _ (blank rest) = refl
no_digit _ (close rest) = refl
no_digit _ (close_list rest) = refl
no_digit _ (comma rest) = refl
no_digit _ stop = refl
no_digit _ (stop_blank rest) = refl

pub no_letter : (rest : List ℕ) → EndsOperand rest → begins_with is_letter rest ≡ false
no_letter _ nothing = refl
no_letter _ (blank rest) = refl
no_letter _ (close rest) = refl
no_letter _ (close_list rest) = refl
no_letter _ (comma rest) = refl
no_letter _ stop = refl
no_letter _ (stop_blank rest) = refl

pub no_fraction : (rest : List ℕ) → EndsOperand rest → begins_fraction rest ≡ false
no_fraction _ nothing = refl
no_fraction _ (blank rest) = refl
no_fraction _ (close rest) = refl
no_fraction _ (close_list rest) = refl
no_fraction _ (comma rest) = refl
no_fraction _ stop = refl
no_fraction _ (stop_blank rest) = refl

-- no prefix of another base
pub no_form : (rest : List ℕ) → EndsOperand rest → form_of (zero_code ∷ rest) ≡ Decimal
no_form _ nothing = refl
no_form _ (blank rest) = refl
no_form _ (close rest) = refl
no_form _ (close_list rest) = refl
no_form _ (comma rest) = refl
no_form _ stop = refl
no_form _ (stop_blank rest) = refl

operand-no_word : (rest : List ℕ) → EndsOperand rest → begins_with (class_test Word) rest ≡ false
operand-no_word _ nothing = refl
operand-no_word _ (blank rest) = refl
operand-no_word _ (close rest) = refl
operand-no_word _ (close_list rest) = refl
operand-no_word _ (comma rest) = refl
operand-no_word _ stop = refl
operand-no_word _ (stop_blank rest) = refl

pub no_word : (rest : List ℕ) → EndsName rest → begins_with (class_test Word) rest ≡ false
no_word rest (operand _ ends) = operand-no_word rest ends
no_word _ (open_args rest) = refl
no_word _ (dot rest) = refl

operand-no_single : (rest : List ℕ) → EndsOperand rest → next_is quote_code rest ≡ false
operand-no_single _ nothing = refl
operand-no_single _ (blank rest) = refl
operand-no_single _ (close rest) = refl
operand-no_single _ (close_list rest) = refl
operand-no_single _ (comma rest) = refl
operand-no_single _ stop = refl
operand-no_single _ (stop_blank rest) = refl

pub no_single_quote : (rest : List ℕ) → EndsName rest → next_is quote_code rest ≡ false
no_single_quote rest (operand _ ends) = operand-no_single rest ends
no_single_quote _ (open_args rest) = refl
no_single_quote _ (dot rest) = refl

pub no_double_quote : (rest : List ℕ) → EndsOperand rest → next_is double_quote_code rest ≡ false
no_double_quote _ nothing = refl
no_double_quote _ (blank rest) = refl
no_double_quote _ (close rest) = refl
no_double_quote _ (close_list rest) = refl
no_double_quote _ (comma rest) = refl
no_double_quote _ stop = refl
no_double_quote _ (stop_blank rest) = refl

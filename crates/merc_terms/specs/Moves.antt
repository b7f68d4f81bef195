-- What a move of the reader comes to, and what it keeps.
use Rattle.std.specs.Prelude.{ℕ, ◌+◌, ◌-◌, ◌≤◌, Bool, true, false, List, length, Option, None, if◌then◌else◌}
use Rattle.merc_base.specs.declared.place.Span.{Span}
use Rattle.merc_tokens.specs.declared.token.Token.{Token}
use Rattle.merc_terms.specs.declared.built.Built.{Built}
use Rattle.merc_terms.specs.declared.frame.Bound.{Bound}
use Rattle.merc_terms.specs.declared.frame.Role.{Role}
use Rattle.merc_terms.specs.declared.frame.Role.TheVariants.{Enclosed, Argument, Item, ListTail, Operand, FirstOperand, SecondOperand, RightOperand}
use Rattle.merc_terms.specs.declared.frame.Delimiter.{Delimiter}
use Rattle.merc_terms.specs.declared.frame.Delimiter.TheVariants.{Comma, Bar, Close, CloseList, Other}
use Rattle.merc_terms.specs.declared.moving.Progress.{Progress}
use Rattle.merc_terms.specs.declared.moving.Move.{Move}
use Rattle.merc_terms.specs.declared.moving.Move.TheVariants.{Have, Open, Refused}
use Rattle.merc_terms.specs.Reader.{Reading, Read, frame_of, term_by, tail_by, filled_by}

-- the term that begins where a move was made, within this bound
abbrev pub begun_in : Reading → Bound → Built → List Token → Move → Option Read
begun_in parts bound built rest (Have span priority) = parts.tail bound built span priority rest
begun_in parts bound built rest (Open role inner) = parts.filled (frame_of role bound) (parts.term inner built rest)
begun_in parts bound built rest Refused = None

abbrev pub is_second : Role → Bool
is_second (Enclosed span) = false
is_second (Argument name qualifier span count) = false
is_second (Item span count) = false
is_second (ListTail span count) = false
is_second (Operand operator span) = false
is_second (FirstOperand operator span) = false
is_second (SecondOperand operator span) = true
is_second (RightOperand operator span) = false

-- what becomes of an open term with this bound whose part was read. A second operand stands where the first ends, before any other token.
abbrev pub filled_in : Reading → Bound → Built → List Token → Move → Option Read
filled_in parts bound built rest (Have span priority) = tail_by parts bound built span priority rest
filled_in parts bound built rest (Open role inner) =
    if is_second role then filled_by parts (frame_of role bound) (term_by parts inner built rest)
    else parts.filled (frame_of role bound) (parts.term inner built rest)
filled_in parts bound built rest Refused = None

-- how many terms of an open term stand among those that are built
abbrev pub pending : Role → ℕ
pending (Enclosed span) = 0
pending (Argument name qualifier span count) = count - 1
pending (Item span count) = count - 1
pending (ListTail span count) = count
pending (Operand operator span) = 0
pending (FirstOperand operator span) = 0
pending (SecondOperand operator span) = 1
pending (RightOperand operator span) = 1

-- the number of an argument or a list item
abbrev pub counted : Role → ℕ
counted (Enclosed span) = 0
counted (Argument name qualifier span count) = count
counted (Item span count) = count
counted (ListTail span count) = 0
counted (Operand operator span) = 0
counted (FirstOperand operator span) = 0
counted (SecondOperand operator span) = 0
counted (RightOperand operator span) = 0

-- the same for where a move leads
abbrev pub pending_in : Move → ℕ
pending_in (Have span priority) = 1
pending_in (Open role inner) = pending role
pending_in Refused = 0

abbrev pub counted_in : Move → ℕ
counted_in (Have span priority) = 0
counted_in (Open role inner) = counted role
counted_in Refused = 0

-- how many of the tokens a move at least takes
abbrev pub least_taken : Move → ℕ
least_taken (Have span priority) = 0
least_taken (Open role inner) = if is_second role then 0 else 1
least_taken Refused = 0

-- how many tokens a delimiter at least is
abbrev pub taken_by : Delimiter → ℕ
taken_by Comma = 1
taken_by Bar = 1
taken_by (Close span) = 1
taken_by (CloseList span) = 1
taken_by Other = 0

-- what was read
abbrev pub read_of : Progress → Span → ℕ → Read
read_of progress span priority = record { built = progress.built; span = span; priority = priority; rest = progress.rest.now }

-- a move keeps what an open term whose part was read stands on
pub record Keeps (role : Role) (old : Progress) (to : Move) (new : Progress) : Type 0 where
  pub built : length old.built.terms + pending_in to ≤ length new.built.terms + (pending role + 1)
  pub few : counted_in to + length new.rest.now ≤ counted role + length old.rest.now
  pub taken : length new.rest.now + least_taken to ≤ length old.rest.now

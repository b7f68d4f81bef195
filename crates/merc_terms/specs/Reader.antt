-- What the reader of terms computes: a term where one begins, and what goes on behind one. The steps are bounded; any bound above the
-- number of the tokens serves.
use Rattle.std.specs.Prelude.{ℕ, zero, suc, ◌+◌, ℤ, pos, negsuc, neg_ℤ, Bool, true, false, ◌&&◌, ◌||◌, not, nat_le, nat_lt, List, [], ◌∷◌, ◌++◌, length, Option, Some, None, if◌then◌else◌}
use Rattle.merc_base.specs.declared.place.Span.{Span}
use Rattle.merc_base.specs.Names.{comma_name, nil_name, cons_name}
use Rattle.merc_tokens.specs.Integers.{integer_limit}
use Rattle.merc_tokens.specs.declared.token.Token.{Token}
use Rattle.merc_tokens.specs.declared.token.TokenKind.{TokenKind}
use Rattle.merc_tokens.specs.declared.token.TokenKind.TheVariants.{Name, Quoted, Var, Int, Text as TextToken, OpenArgs, Open, Close, OpenList, CloseList, Comma, Bar, Dot, Stop}
use Rattle.merc_tree.specs.Term.{Term, Terms, Variable, Integer, Text, Application, none, more, applied, enclosed}
use Rattle.merc_terms.specs.declared.built.Built.{Built}
use Rattle.merc_terms.specs.declared.frame.Bound.{Bound}
use Rattle.merc_terms.specs.declared.frame.Role.{Role}
use Rattle.merc_terms.specs.declared.frame.Role.TheVariants.{Enclosed, Argument, Item, ListTail, Operand, FirstOperand, SecondOperand, RightOperand}
use Rattle.merc_terms.specs.declared.frame.Frame.{Frame}
use Rattle.merc_terms.specs.declared.frame.Delimiter.{Delimiter}
use Rattle.merc_terms.specs.declared.frame.Delimiter.TheVariants.{Comma as CommaMark, Bar as BarMark, Close as CloseMark, CloseList as CloseListMark, Other}
use Rattle.merc_terms.specs.declared.operators.Operator.{Operator}
use Rattle.merc_terms.specs.declared.starting.Start.{Start}
use Rattle.merc_terms.specs.declared.starting.Start.TheVariants.{Variable as VariableStart, Integer as IntegerStart, Text as TextStart, Constant, Application as ApplicationStart, List as ListStart, Parenthesis, Prefix}
use Rattle.merc_terms.specs.Operators.{infix_named, first_most, last_most, takes_two, term_most, argument_most}
use Rattle.merc_terms.specs.Reading.{joined, begins_with, is_infix_name}
use Rattle.merc_terms.specs.Starting.{start_at, Started}

-- a term that was read, where it stands, its priority and the tokens behind it
pub record Read : Type 0 where
  pub built : Built
  pub span : Span
  pub priority : ℕ
  pub rest : List Token

-- whether an integer, negative or not, has 64 bits
abbrev pub fits : Bool → ℕ → Bool
fits negative magnitude = if negative then nat_le magnitude integer_limit else nat_lt magnitude integer_limit

abbrev pub integer_of : Bool → ℕ → ℤ
integer_of negative magnitude = if negative then neg_ℤ (pos magnitude) else pos magnitude

-- one term more

abbrev pub with_term : Term → Built → Built
with_term term built = record { terms = built.terms ++ term ∷ []; is_great = built.is_great }

abbrev pub with_integer : Bool → ℕ → Span → Built → Built
with_integer negative magnitude span built =
    if fits negative magnitude then with_term (Integer (integer_of negative magnitude) span) built
    else record { terms = built.terms ++ Integer (pos 0) span ∷ []; is_great = true }

-- an integer that does not fit stands as 0
abbrev pub clipped_integer : ℤ → ℤ
clipped_integer (pos n) = if nat_lt n integer_limit then pos n else pos 0
clipped_integer (negsuc n) = if nat_lt n integer_limit then negsuc n else pos 0

abbrev mutual
  pub clipped : Term → Term
  clipped (Variable name span) = Variable name span
  clipped (Integer value span) = Integer (clipped_integer value) span
  clipped (Text name span) = Text name span
  clipped (Application name qualifier arguments span) = Application name qualifier (clipped_all arguments) span

  pub clipped_all : Terms → Terms
  clipped_all none = none
  clipped_all (more first rest) = more (clipped first) (clipped_all rest)

abbrev pub is_great_integer : ℤ → Bool
is_great_integer (pos n) = not (nat_lt n integer_limit)
is_great_integer (negsuc n) = not (nat_lt n integer_limit)

-- whether an integer of a term does not fit
abbrev mutual
  pub is_great : Term → Bool
  is_great (Variable name span) = false
  is_great (Integer value span) = is_great_integer value
  is_great (Text name span) = false
  is_great (Application name qualifier arguments span) = are_great arguments

  pub are_great : Terms → Bool
  are_great none = false
  are_great (more first rest) = is_great first || are_great rest

-- a whole term more
abbrev pub pushed : Term → Built → Built
pushed term built = record { terms = built.terms ++ clipped term ∷ []; is_great = built.is_great || is_great term }

-- the last terms become arguments
abbrev pub with_application : ℕ → Option ℕ → ℕ → Span → Built → Built
with_application name qualifier arity span built = record { terms = applied name qualifier arity span built.terms; is_great = built.is_great }

-- the last terms become a list: so many items and a tail
abbrev pub with_cells : ℕ → Span → Built → Built
with_cells zero span built = built
with_cells (suc n) span built = with_cells n span (with_application cons_name None 2 span built)

abbrev pub with_list : ℕ → Span → Built → Built
with_list count span built = with_cells count span (with_term (Application nil_name None none span) built)

abbrev pub with_enclosed : Span → Built → Built
with_enclosed span built = record { terms = enclosed span built.terms; is_great = built.is_great }

-- how far terms are read: a whole one, an argument or list item, and an operand

abbrev pub whole_bound : Bound
whole_bound = record { max = term_most; commas = true }

abbrev pub argument_bound : Bound
argument_bound = record { max = argument_most; commas = false }

abbrev pub operand_bound : ℕ → Bound → Bound
operand_bound max bound = record { max = max; commas = bound.commas }

abbrev pub frame_of : Role → Bound → Frame
frame_of role bound = record { role = role; bound = bound }

-- what a prefix operator's next term is
abbrev pub prefix_role : Operator → Span → Role
prefix_role operator span = if takes_two operator.fixity then FirstOperand operator span else Operand operator span

abbrev pub prefix_bound : Operator → Bound → Bound
prefix_bound operator bound = operand_bound (if takes_two operator.fixity then first_most operator else last_most operator) bound

-- the infix operator that these tokens go on with, where a term of this priority may be its left operand within the bound
abbrev pub fitting : Bound → ℕ → Option Operator → List Token → Option (Operator × List Token)
fitting bound priority None rest = None
fitting bound priority (Some operator) rest =
    if nat_le operator.priority bound.max && nat_le priority (first_most operator) then Some (operator, rest) else None

abbrev pub infix_kind : Bound → ℕ → TokenKind → List Token → Option (Operator × List Token)
infix_kind bound priority (Name name) rest = fitting bound priority (infix_named name) rest
infix_kind bound priority Comma rest = if bound.commas then fitting bound priority (infix_named comma_name) rest else None
infix_kind bound priority (Quoted name) rest = None
infix_kind bound priority (Var name) rest = None
infix_kind bound priority (Int value) rest = None
infix_kind bound priority (TextToken name) rest = None
infix_kind bound priority OpenArgs rest = None
infix_kind bound priority Open rest = None
infix_kind bound priority Close rest = None
infix_kind bound priority OpenList rest = None
infix_kind bound priority CloseList rest = None
infix_kind bound priority Bar rest = None
infix_kind bound priority Dot rest = None
infix_kind bound priority Stop rest = None

abbrev pub infix_at : Bound → ℕ → List Token → Option (Operator × List Token)
infix_at bound priority [] = None
infix_at bound priority (first ∷ rest) = infix_kind bound priority first.kind rest

-- what stands behind a part of an open term, and the tokens behind that
abbrev pub delimiter_with : TokenKind → Span → List Token → Delimiter × List Token
delimiter_with Comma span rest = (CommaMark, rest)
delimiter_with Bar span rest = (BarMark, rest)
delimiter_with Close span rest = (CloseMark span, rest)
delimiter_with CloseList span rest = (CloseListMark span, rest)
delimiter_with (Name name) span rest = (Other, rest)
delimiter_with (Quoted name) span rest = (Other, rest)
delimiter_with (Var name) span rest = (Other, rest)
delimiter_with (Int value) span rest = (Other, rest)
delimiter_with (TextToken name) span rest = (Other, rest)
delimiter_with OpenArgs span rest = (Other, rest)
delimiter_with Open span rest = (Other, rest)
delimiter_with OpenList span rest = (Other, rest)
delimiter_with Dot span rest = (Other, rest)
delimiter_with Stop span rest = (Other, rest)

abbrev pub delimiter_at : List Token → Delimiter × List Token
delimiter_at [] = (Other, [])
delimiter_at (first ∷ rest) = delimiter_with first.kind first.span rest

-- How far the reading of the parts of a term is given: what a term is that begins with some tokens, what goes on behind a term, and what becomes of an open
-- term once its part is read.
pub record Reading : Type 0 where
  pub term : Bound → Built → List Token → Option Read
  pub tail : Bound → Built → Span → ℕ → List Token → Option Read
  pub filled : Frame → Option Read → Option Read

-- a term begins
abbrev pub started_by : Reading → Bound → Built → Start → List Token → Option Read
started_by parts bound built (VariableStart name span) rest = parts.tail bound (with_term (Variable name span) built) span 0 rest
started_by parts bound built (IntegerStart negative magnitude span) rest = parts.tail bound (with_integer negative magnitude span built) span 0 rest
started_by parts bound built (TextStart name span) rest = parts.tail bound (with_term (Text name span) built) span 0 rest
started_by parts bound built (Constant name qualifier span) rest = parts.tail bound (with_term (Application name qualifier none span) built) span 0 rest
started_by parts bound built (ApplicationStart name qualifier span) rest = parts.filled (frame_of (Argument name qualifier span 1) bound) (parts.term argument_bound built rest)
started_by parts bound built (ListStart span) rest = parts.filled (frame_of (Item span 1) bound) (parts.term argument_bound built rest)
started_by parts bound built (Parenthesis span) rest = parts.filled (frame_of (Enclosed span) bound) (parts.term whole_bound built rest)
started_by parts bound built (Prefix operator span) rest =
    if nat_le operator.priority bound.max then parts.filled (frame_of (prefix_role operator span) bound) (parts.term (prefix_bound operator bound) built rest) else None

abbrev pub begun_by : Reading → Bound → Built → Started → Option Read
begun_by parts bound built None = None
begun_by parts bound built (Some started) = started_by parts bound built started.0 started.1

abbrev pub term_by : Reading → Bound → Built → List Token → Option Read
term_by parts bound built tokens = begun_by parts bound built (start_at tokens)

-- what goes on behind a term: an infix operator and its right operand, or nothing
abbrev pub going_by : Reading → Bound → Built → Span → ℕ → List Token → Option (Operator × List Token) → Option Read
going_by parts bound built span priority tokens None = Some (record { built = built; span = span; priority = priority; rest = tokens })
going_by parts bound built span priority tokens (Some found) =
    parts.filled (frame_of (RightOperand found.0 span) bound) (parts.term (operand_bound (last_most found.0) bound) built found.1)

abbrev pub tail_by : Reading → Bound → Built → Span → ℕ → List Token → Option Read
tail_by parts bound built span priority tokens = going_by parts bound built span priority tokens (infix_at bound priority tokens)

-- what becomes of a parenthesis, of arguments and of a list before a delimiter

abbrev pub enclosed_by : Reading → Span → Bound → Read → Delimiter → List Token → Option Read
enclosed_by parts span bound read (CloseMark close) rest = tail_by parts bound (with_enclosed (joined span close) read.built) (joined span close) 0 rest
enclosed_by parts span bound read CommaMark rest = None
enclosed_by parts span bound read BarMark rest = None
enclosed_by parts span bound read (CloseListMark close) rest = None
enclosed_by parts span bound read Other rest = None

abbrev pub argument_by : Reading → ℕ → Option ℕ → Span → ℕ → Bound → Read → Delimiter → List Token → Option Read
argument_by parts name qualifier span count bound read (CloseMark close) rest =
    tail_by parts bound (with_application name qualifier count (joined span close) read.built) (joined span close) 0 rest
argument_by parts name qualifier span count bound read CommaMark rest =
    parts.filled (frame_of (Argument name qualifier span (count + 1)) bound) (parts.term argument_bound read.built rest)
argument_by parts name qualifier span count bound read BarMark rest = None
argument_by parts name qualifier span count bound read (CloseListMark close) rest = None
argument_by parts name qualifier span count bound read Other rest = None

abbrev pub item_by : Reading → Span → ℕ → Bound → Read → Delimiter → List Token → Option Read
item_by parts span count bound read (CloseListMark close) rest =
    tail_by parts bound (with_list count (joined span close) read.built) (joined span close) 0 rest
item_by parts span count bound read CommaMark rest = parts.filled (frame_of (Item span (count + 1)) bound) (parts.term argument_bound read.built rest)
item_by parts span count bound read BarMark rest = parts.filled (frame_of (ListTail span count) bound) (parts.term argument_bound read.built rest)
item_by parts span count bound read (CloseMark close) rest = None
item_by parts span count bound read Other rest = None

abbrev pub list_tail_by : Reading → Span → ℕ → Bound → Read → Delimiter → List Token → Option Read
list_tail_by parts span count bound read (CloseListMark close) rest =
    tail_by parts bound (with_cells count (joined span close) read.built) (joined span close) 0 rest
list_tail_by parts span count bound read CommaMark rest = None
list_tail_by parts span count bound read BarMark rest = None
list_tail_by parts span count bound read (CloseMark close) rest = None
list_tail_by parts span count bound read Other rest = None

-- an operator with its operands read, of which the last ends at this span
abbrev pub operated_by : Reading → Operator → ℕ → Span → Bound → Read → Option Read
operated_by parts operator operands from bound read =
    tail_by parts bound (with_application operator.name None operands (joined from read.span) read.built) (joined from read.span) operator.priority read.rest

abbrev pub second_by : Reading → Operator → Span → Bound → Option Read → Option Read
second_by parts operator span bound None = None
second_by parts operator span bound (Some read) = operated_by parts operator 2 span bound read

abbrev pub closed_by : Reading → Role → Bound → Read → Option Read
closed_by parts (Enclosed span) bound read = enclosed_by parts span bound read (delimiter_at read.rest).0 (delimiter_at read.rest).1
closed_by parts (Argument name qualifier span count) bound read =
    argument_by parts name qualifier span count bound read (delimiter_at read.rest).0 (delimiter_at read.rest).1
closed_by parts (Item span count) bound read = item_by parts span count bound read (delimiter_at read.rest).0 (delimiter_at read.rest).1
closed_by parts (ListTail span count) bound read = list_tail_by parts span count bound read (delimiter_at read.rest).0 (delimiter_at read.rest).1
closed_by parts (Operand operator span) bound read = operated_by parts operator 1 span bound read
closed_by parts (FirstOperand operator span) bound read =
    if begins_with is_infix_name read.rest then None
    else second_by parts operator span bound (term_by parts (operand_bound (last_most operator) bound) read.built read.rest)
closed_by parts (SecondOperand operator span) bound read = operated_by parts operator 2 span bound read
closed_by parts (RightOperand operator left) bound read = operated_by parts operator 2 left bound read

abbrev pub filled_by : Reading → Frame → Option Read → Option Read
filled_by parts frame None = None
filled_by parts frame (Some read) = closed_by parts frame.role frame.bound read

-- the reading with a bound on its steps; none is done in no steps
unfoldable pub reading : ℕ → Reading
reading zero = record {
  term = λ bound built tokens. None;
  tail = λ bound built span priority tokens. None;
  filled = λ frame read. None;
}
reading (suc n) = record {
  term = term_by (reading n);
  tail = tail_by (reading n);
  filled = filled_by (reading n);
}

-- what the open terms, the newest first, make of a term once it is read, with a bound on the steps for each
abbrev pub finished : List ℕ → List Frame → Option Read → Option Read
finished steps [] read = read
finished [] (frame ∷ frames) read = None
finished (n ∷ steps) (frame ∷ frames) read = finished steps frames ((reading n).filled frame read)

-- the whole term that the tokens begin with
abbrev pub whole_term : Built → List Token → Option Read
whole_term built tokens = (reading (suc (length tokens))).term whole_bound built tokens

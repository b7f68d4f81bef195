-- How a term is written: with as few parentheses as the operators' priorities ask for, but for the goal of a quantifier and an integer behind a prefix
-- operator.
use Rattle.std.specs.Prelude.{ℕ, ◌+◌, ℤ, pos, negsuc, Bool, true, false, ◌==◌, ◌&&◌, ◌||◌, not, nat_lt, List, [], ◌∷◌, ◌++◌, Option, Some, None, if◌then◌else◌}
use Rattle.merc_base.specs.Names.{comma_name, cons_name, nil_name, minus_name}
use Rattle.merc_tokens.specs.declared.token.TokenKind.TheVariants.{Name, Var, Int, Text as TextToken, OpenArgs, Open, Close, OpenList, CloseList, Comma, Bar, Dot}
use Rattle.merc_tree.specs.Term.{Term, Terms, Variable, Integer, Text, Application, none, more}
use Rattle.merc_tree.specs.Nesting.{are_two}
use Rattle.merc_terms.specs.declared.operators.Operator.{Operator}
use Rattle.merc_terms.specs.Operators.{infix_named, prefix_named, first_most, last_most, takes_two, argument_most, term_most}
use Rattle.merc_term_text.specs.Pieces.{Piece, Blank, Token, name_piece, pieces_text}

-- how an application is written
pub data Form : Type 0 where
  ListForm : Form
  InfixForm : (operator : Operator) → Form
  PrefixForm : (operator : Operator) → Form
  QuantifierForm : (operator : Operator) → Form
  PlainForm : Form

abbrev pub is_one : Terms → Bool
is_one none = false
is_one (more only none) = true
is_one (more first (more second rest)) = false

-- a prefix operator as it may be written with so many operands
abbrev pub prefix_form : Bool → Bool → Option Operator → Form
prefix_form one two None = PlainForm
prefix_form one two (Some operator) =
    if takes_two operator.fixity && two then QuantifierForm operator
    else if not (takes_two operator.fixity) && one then PrefixForm operator
    else PlainForm

abbrev pub infix_form : Option Operator → Form → Form
infix_form None other = other
infix_form (Some operator) other = InfixForm operator

abbrev pub form_of : ℕ → Option ℕ → Terms → Form
form_of name (Some qualifier) arguments = PlainForm
form_of name None arguments =
    if name == cons_name && are_two arguments then ListForm
    else if are_two arguments then infix_form (infix_named name) (prefix_form false true (prefix_named name))
    else prefix_form (is_one arguments) false (prefix_named name)

-- the priority at which a form is read, and whether it is a chain of commas
abbrev pub form_priority : Form → ℕ
form_priority ListForm = 0
form_priority (InfixForm operator) = operator.priority
form_priority (PrefixForm operator) = operator.priority
form_priority (QuantifierForm operator) = operator.priority
form_priority PlainForm = 0

abbrev pub is_comma_form : Form → Bool
is_comma_form ListForm = false
is_comma_form (InfixForm operator) = operator.name == comma_name
is_comma_form (PrefixForm operator) = false
is_comma_form (QuantifierForm operator) = false
is_comma_form PlainForm = false

abbrev pub term_form : Term → Form
term_form (Variable name span) = PlainForm
term_form (Integer value span) = PlainForm
term_form (Text name span) = PlainForm
term_form (Application name qualifier arguments span) = form_of name qualifier arguments

-- whether a term stands in parentheses where terms of at most this priority may stand, commas being operators or not
abbrev pub is_enclosed : ℕ → Bool → Form → Bool
is_enclosed max commas form = nat_lt max (form_priority form) || (is_comma_form form && not commas)

abbrev pub enclosed_if : Bool → List Piece → List Piece
enclosed_if true pieces = Token Open ∷ (pieces ++ Token Close ∷ [])
enclosed_if false pieces = pieces

-- How a part of a term is written: its form, whether it is an integer, its pieces where commas are operators or not, and its pieces
-- as the tail of a list.
pub record Part : Type 0 where
  pub form : Form
  pub is_integer : Bool
  pub pieces : Bool → List Piece
  pub tail : List Piece

-- a part where terms of at most this priority may stand, in parentheses where it needs them
abbrev pub part_pieces : ℕ → Bool → Part → List Piece
part_pieces max commas part = enclosed_if (is_enclosed max commas part.form) (part.pieces (commas || is_enclosed max commas part.form))

-- the operand of a prefix operator
abbrev pub operand_pieces : ℕ → Bool → Part → List Piece
operand_pieces max commas part = enclosed_if part.is_integer (part_pieces max commas part)

abbrev pub integer_pieces : ℤ → List Piece
integer_pieces (pos n) = Token (Int n) ∷ []
integer_pieces (negsuc n) = Token (Name minus_name) ∷ Token (Int (n + 1)) ∷ []

-- a name with its qualifier
abbrev pub qualified_pieces : List (List ℕ) → ℕ → Option ℕ → List Piece
qualified_pieces names name None = name_piece names name ∷ []
qualified_pieces names name (Some qualifier) = name_piece names qualifier ∷ Token Dot ∷ name_piece names name ∷ []

abbrev pub constant_pieces : List (List ℕ) → ℕ → Option ℕ → List Piece
constant_pieces names name None = if name == nil_name then Token OpenList ∷ Token CloseList ∷ [] else name_piece names name ∷ []
constant_pieces names name (Some qualifier) = qualified_pieces names name (Some qualifier)

-- an infix operator between its operands
abbrev pub operator_pieces : Operator → List Piece
operator_pieces operator = if operator.name == comma_name then Token Comma ∷ Blank ∷ [] else Blank ∷ Token (Name operator.name) ∷ Blank ∷ []

-- whether a name with these arguments is the empty list
abbrev pub is_nil : ℕ → Option ℕ → List Part → Bool
is_nil name None [] = name == nil_name
is_nil name None (first ∷ rest) = false
is_nil name (Some qualifier) parts = false

-- the arguments behind the first, and the closing parenthesis
abbrev pub other_pieces : List Part → List Piece
other_pieces [] = Token Close ∷ []
other_pieces (next ∷ rest) = Token Comma ∷ Blank ∷ (part_pieces argument_most false next ++ other_pieces rest)

abbrev pub plain_pieces : List (List ℕ) → ℕ → Option ℕ → List Part → List Piece
plain_pieces names name qualifier [] = constant_pieces names name qualifier
plain_pieces names name qualifier (first ∷ rest) = qualified_pieces names name qualifier ++ (Token OpenArgs ∷ (part_pieces argument_most false first ++ other_pieces rest))

-- the items of a list from a cell with these arguments on, without a bracket
abbrev pub item_pieces : List Part → List Piece
item_pieces (head ∷ tail ∷ []) = part_pieces argument_most false head ++ tail.tail
item_pieces [] = []
item_pieces (only ∷ []) = []
item_pieces (first ∷ second ∷ third ∷ rest) = []

-- an infix operator's application
abbrev pub infix_pieces : Bool → Operator → List Part → List Piece
infix_pieces commas operator (left ∷ right ∷ []) = part_pieces (first_most operator) commas left ++ (operator_pieces operator ++ part_pieces (last_most operator) commas right)
infix_pieces commas operator [] = []
infix_pieces commas operator (only ∷ []) = []
infix_pieces commas operator (first ∷ second ∷ third ∷ rest) = []

abbrev pub prefix_pieces : Bool → Operator → List Part → List Piece
prefix_pieces commas operator (operand ∷ []) = Token (Name operator.name) ∷ Blank ∷ operand_pieces (last_most operator) commas operand
prefix_pieces commas operator [] = []
prefix_pieces commas operator (first ∷ second ∷ rest) = []

-- a quantifier, whose goal stands in parentheses
abbrev pub quantifier_pieces : Bool → Operator → List Part → List Piece
quantifier_pieces commas operator (variables ∷ goal ∷ []) =
    Token (Name operator.name) ∷ Blank ∷ (part_pieces 0 commas variables ++ (Blank ∷ Token Open ∷ (part_pieces term_most true goal ++ Token Close ∷ [])))
quantifier_pieces commas operator [] = []
quantifier_pieces commas operator (only ∷ []) = []
quantifier_pieces commas operator (first ∷ second ∷ third ∷ rest) = []

-- an application with these arguments, in its form
abbrev pub formed : List (List ℕ) → Bool → Form → ℕ → Option ℕ → List Part → List Piece
formed names commas ListForm name qualifier parts = Token OpenList ∷ (item_pieces parts ++ Token CloseList ∷ [])
formed names commas (InfixForm operator) name qualifier parts = infix_pieces commas operator parts
formed names commas (PrefixForm operator) name qualifier parts = prefix_pieces commas operator parts
formed names commas (QuantifierForm operator) name qualifier parts = quantifier_pieces commas operator parts
formed names commas PlainForm name qualifier parts = plain_pieces names name qualifier parts

-- what stands behind the bar of a list, where its tail is no list
abbrev pub bar_pieces : List Piece → List Piece
bar_pieces pieces = Blank ∷ Token Bar ∷ Blank ∷ pieces

-- the part as a list's tail: nothing for the empty list, further items for a cell
abbrev pub tail_pieces : List (List ℕ) → Form → ℕ → Option ℕ → List Part → List Piece
tail_pieces names ListForm name qualifier parts = Token Comma ∷ Blank ∷ item_pieces parts
tail_pieces names (InfixForm operator) name qualifier parts = bar_pieces (enclosed_if (is_enclosed argument_most false (InfixForm operator)) (infix_pieces (is_enclosed argument_most false (InfixForm operator)) operator parts))
tail_pieces names (PrefixForm operator) name qualifier parts = bar_pieces (enclosed_if (is_enclosed argument_most false (PrefixForm operator)) (prefix_pieces (is_enclosed argument_most false (PrefixForm operator)) operator parts))
tail_pieces names (QuantifierForm operator) name qualifier parts = bar_pieces (quantifier_pieces false operator parts)
tail_pieces names PlainForm name qualifier parts = if is_nil name qualifier parts then [] else bar_pieces (plain_pieces names name qualifier parts)

abbrev mutual
  -- how a term is written
  pub part_of : List (List ℕ) → Term → Part
  part_of names (Variable name span) = record { form = PlainForm; is_integer = false; pieces = λ commas. Token (Var name) ∷ []; tail = bar_pieces (Token (Var name) ∷ []) }
  part_of names (Integer value span) = record { form = PlainForm; is_integer = true; pieces = λ commas. integer_pieces value; tail = bar_pieces (integer_pieces value) }
  part_of names (Text name span) = record { form = PlainForm; is_integer = false; pieces = λ commas. Token (TextToken name) ∷ []; tail = bar_pieces (Token (TextToken name) ∷ []) }
  part_of names (Application name qualifier arguments span) = record {
    form = form_of name qualifier arguments;
    is_integer = false;
    pieces = λ commas. formed names commas (form_of name qualifier arguments) name qualifier (parts_of names arguments);
    tail = tail_pieces names (form_of name qualifier arguments) name qualifier (parts_of names arguments);
  }

  pub parts_of : List (List ℕ) → Terms → List Part
  parts_of names none = []
  parts_of names (more first rest) = part_of names first ∷ parts_of names rest

-- the text of a term
abbrev pub term_text : List (List ℕ) → Term → List ℕ
term_text names term = pieces_text names ((part_of names term).pieces true)

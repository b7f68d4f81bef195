-- What the writer of terms has still to do, on its stack.
use Rattle.std.specs.Prelude.{◌≡◌, ℕ, ◌+◌, ◌*◌, ◌<◌, ◌≤◌, Bool, true, false, ◌==◌, ◌&&◌, not, List, [], ◌∷◌, ◌++◌, length, Option, Some, None, if◌then◌else◌}
use Rattle.merc_base.specs.Names.{cons_name, nil_name}
use Rattle.merc_tokens.specs.declared.token.TokenKind.TheVariants.{Name, Var, Text as TextToken, OpenArgs, Open, Close, OpenList, CloseList, Comma, Bar, Dot}
use Rattle.merc_tree.specs.Term.{Term, Terms, Variable, Integer, Text, Application, none, more, list_of}
use Rattle.merc_terms.specs.declared.operators.Operator.{Operator}
use Rattle.merc_terms.specs.Operators.{infix_named, prefix_named, takes_two, argument_most, term_most}
use Rattle.merc_term_text.specs.Pieces.{Piece, Blank, Token, name_piece}
use Rattle.merc_term_text.specs.Written.{Form, ListForm, InfixForm, PrefixForm, QuantifierForm, PlainForm, infix_form, part_of, part_pieces, operand_pieces, other_pieces, integer_pieces, Part}
use Rattle.merc_term_text.specs.declared.form.Form.{Form as CodeForm}
use Rattle.merc_term_text.specs.declared.form.Form.TheVariants.{List as CodeList, Infix as CodeInfix, Prefix as CodePrefix, Quantifier as CodeQuantifier, Plain as CodePlain}
use Rattle.merc_term_text.specs.declared.work.Mark.{Mark}
use Rattle.merc_term_text.specs.declared.work.Mark.TheVariants.{Nothing as NothingMark, Blank as BlankMark, OpenArguments as OpenArgumentsMark, Open as OpenMark, Close as CloseMark, OpenList as OpenListMark, CloseList as CloseListMark, EmptyList as EmptyListMark, Comma as CommaMark, Bar as BarMark, Dot as DotMark, Name as NameMark, Operator as OperatorMark, Variable as VariableMark, Integer as IntegerMark, Text as TextMark}
use Rattle.merc_term_text.specs.declared.work.Work.{Work}
use Rattle.merc_term_text.specs.declared.work.Work.TheVariants.{Mark as MarkWork, Bare as BareWork, Part as PartWork, Operand as OperandWork, Tail as TailWork}

-- the code's forms
abbrev pub meant : CodeForm → Form
meant CodeList = ListForm
meant (CodeInfix operator) = InfixForm operator
meant (CodePrefix operator) = PrefixForm operator
meant (CodeQuantifier operator) = QuantifierForm operator
meant CodePlain = PlainForm

-- the form of a name without a qualifier, by its number of arguments
abbrev pub operator_form : Operator → ℕ → Form
operator_form operator arity =
    if takes_two operator.fixity then (if arity == 2 then QuantifierForm operator else PlainForm)
    else if arity == 1 then PrefixForm operator
    else PlainForm

abbrev pub rest_form_of : Option Operator → ℕ → Form
rest_form_of None arity = PlainForm
rest_form_of (Some operator) arity = operator_form operator arity

abbrev pub rest_form : ℕ → ℕ → Form
rest_form name arity = rest_form_of (prefix_named name) arity

abbrev pub arity_form : ℕ → ℕ → Form
arity_form name arity =
    if not (arity == 2) then rest_form name arity
    else if name == cons_name then ListForm
    else infix_form (infix_named name) (rest_form name arity)

-- the pieces of a mark
abbrev pub mark_pieces : List (List ℕ) → Mark → List Piece
mark_pieces names NothingMark = []
mark_pieces names BlankMark = Blank ∷ []
mark_pieces names OpenArgumentsMark = Token OpenArgs ∷ []
mark_pieces names OpenMark = Token Open ∷ []
mark_pieces names CloseMark = Token Close ∷ []
mark_pieces names OpenListMark = Token OpenList ∷ []
mark_pieces names CloseListMark = Token CloseList ∷ []
mark_pieces names EmptyListMark = Token OpenList ∷ Token CloseList ∷ []
mark_pieces names CommaMark = Token Comma ∷ Blank ∷ []
mark_pieces names BarMark = Blank ∷ Token Bar ∷ Blank ∷ []
mark_pieces names DotMark = Token Dot ∷ []
mark_pieces names (NameMark name) = name_piece names name ∷ []
mark_pieces names (OperatorMark name) = Token (Name name) ∷ []
mark_pieces names (VariableMark name) = Token (Var name) ∷ []
mark_pieces names (IntegerMark value) = integer_pieces value
mark_pieces names (TextMark name) = Token (TextToken name) ∷ []

-- the pieces of an entry of the stack
abbrev pub work_pieces : List (List ℕ) → Work → List Piece
work_pieces names (MarkWork mark) = mark_pieces names mark
work_pieces names (BareWork term commas) = (part_of names term).pieces commas
work_pieces names (PartWork term max commas) = part_pieces max commas (part_of names term)
work_pieces names (OperandWork term max commas) = operand_pieces max commas (part_of names term)
work_pieces names (TailWork term) = (part_of names term).tail

-- the pieces of a stack, its last entry first
abbrev pub pending : List (List ℕ) → List Work → List Piece
pending names [] = []
pending names (work ∷ stack) = pending names stack ++ work_pieces names work

-- how much is there to do: each node of a term and each argument counts
abbrev mutual
  pub size : Term → ℕ
  size (Variable name span) = 1
  size (Integer value span) = 1
  size (Text name span) = 1
  size (Application name qualifier arguments span) = 1 + sizes arguments

  pub sizes : Terms → ℕ
  sizes none = 0
  sizes (more first rest) = 1 + size first + sizes rest

-- the same for arguments in a list
abbrev pub sizes_of : List Term → ℕ
sizes_of [] = 0
sizes_of (first ∷ rest) = 1 + size first + sizes_of rest

abbrev pub weight : Work → ℕ
weight (MarkWork mark) = 1
weight (BareWork term commas) = 16 * size term
weight (PartWork term max commas) = 16 * size term + 3
weight (OperandWork term max commas) = 16 * size term + 5
weight (TailWork term) = 16 * size term + 4

abbrev pub weights : List Work → ℕ
weights [] = 0
weights (work ∷ stack) = weight work + weights stack

-- pieces are put on a stack, with at most this weight
pub record Puts (pieces : List (List ℕ) → List Piece) (heavy : ℕ) (old new : List Work) : Type 0 where
  pub whole : (names : List (List ℕ)) → pending names new ≡ pieces names ++ pending names old
  pub heavier : weights new ≤ heavy + weights old

-- A mark is taken off pieces of this weight that stand before what is pending. What remains of them is pending then.
pub record Takes (pieces : List (List ℕ) → List Piece) (heavy : ℕ) (old new : List Work) (mark : Mark) : Type 0 where
  pub whole : (names : List (List ℕ)) → mark_pieces names mark ++ pending names new ≡ pieces names ++ pending names old
  pub lighter : weights new < heavy + weights old

-- the parenthesis behind a name, the arguments and the closing parenthesis, where there are arguments
abbrev pub arguments_pieces : List Part → List Piece
arguments_pieces [] = []
arguments_pieces (first ∷ rest) = Token OpenArgs ∷ (part_pieces argument_most false first ++ other_pieces rest)

-- a blank and a quantifier's goal
abbrev pub goal_pieces : Part → List Piece
goal_pieces goal = Blank ∷ Token Open ∷ (part_pieces term_most true goal ++ Token Close ∷ [])

-- what stands before the argument that follows so many
abbrev pub mark_before : ℕ → Mark
mark_before count = if count == 0 then OpenArgumentsMark else CommaMark

-- a name with its qualifier, before so many arguments
abbrev pub head_pieces : List (List ℕ) → ℕ → Option ℕ → ℕ → List Piece
head_pieces names name None arity = if name == nil_name && arity == 0 then Token OpenList ∷ Token CloseList ∷ [] else name_piece names name ∷ []
head_pieces names name (Some qualifier) arity = name_piece names qualifier ∷ Token Dot ∷ name_piece names name ∷ []

-- whether a term is the empty list
abbrev pub is_nil_shape : ℕ → Option ℕ → ℕ → Bool
is_nil_shape name None arity = name == nil_name && arity == 0
is_nil_shape name (Some qualifier) arity = false

abbrev pub is_nil_term : Term → Bool
is_nil_term (Variable name span) = false
is_nil_term (Integer value span) = false
is_nil_term (Text name span) = false
is_nil_term (Application name qualifier arguments span) = is_nil_shape name qualifier (length (list_of arguments))

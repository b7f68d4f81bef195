-- The pieces of a term that can be written are parted well, and their tokens can be spelled.
use Rattle.std.proofs.Common.{◌≡◌, ℕ, ◌+◌, ◌==◌, ◌&&◌, ◌||◌, ℤ, pos, negsuc, Bool, true, false, List, [], ◌∷◌, ◌++◌, Option, Some, None, cond, refl, ap, sym, ◌∙◌, subst, inl, arith, append_assoc, FitsSigned}
use Rattle.std.proofs.Math.Bool.{or-true}
use Rattle.std.specs.Int.{w64}
use Rattle.std.specs.List.{AllByRecursion}
use Rattle.merc_base.specs.Names.{HoldsFixed, comma_name, nil_name, minus_name}
use Rattle.merc_base.specs.declared.place.Span.{Span}
use Rattle.std.proofs.lemmas.Bool.{and_from, and_parts}
use Rattle.merc_terms.specs.Reading.{is_integer}
use Rattle.merc_terms.proofs.Table.{infix_name, prefix_name}
use Rattle.merc_value.specs.Text.{text_at, is_plain}
use Rattle.merc_tokens.specs.declared.token.TokenKind.{TokenKind}
use Rattle.merc_tokens.specs.declared.token.TokenKind.TheVariants.{Name, Quoted, Var, Int, Text as TextToken, OpenArgs, Open, Close, OpenList, CloseList, Comma, Bar, Dot, Stop}
use Rattle.merc_tree.specs.Term.{Term, Terms, Variable, Integer, Text, Application, none, more}
use Rattle.merc_terms.specs.declared.operators.Operator.{Operator}
use Rattle.merc_terms.specs.Operators.{infix_named, prefix_named, first_most, last_most, argument_most, term_most}
use Rattle.merc_term_text.specs.Pieces.{Piece, Blank, Token, kinds_of, name_piece}
use Rattle.merc_term_text.specs.Written.{Form, ListForm, PlainForm, form_of, is_enclosed, enclosed_if, part_of, parts_of, part_pieces, operand_pieces, operator_pieces, integer_pieces, other_pieces, item_pieces, infix_pieces, prefix_pieces, quantifier_pieces, plain_pieces, bar_pieces, tail_pieces, formed}
use Rattle.merc_term_text.proofs.Parted.{parted, begins_part, ends_operand, ends_name, touches, HasName, IsSpelled, IsWritable, AreWritable}
use Rattle.merc_term_text.proofs.FormViews.{IsForm, is_list, is_infix, is_prefix, is_quantifier, is_plain as is_plain_form, seen}
use Rattle.merc_term_text.specs.Walking.{is_nil_term}
use Rattle.merc_term_text.proofs.TermPieces.{other_tail, list_tail, plain_not_list, infix_not_list, prefix_not_list, quantifier_not_list, no_nil}
use Rattle.merc_term_text.proofs.OperatorFacts.{infix_spelled, prefix_spelled, minus_spelled}

-- what may stand before a part
pub data IsStart (before : Option TokenKind) : Type 0 where
  nothing : before ≡ None → IsStart before
  open_arguments : before ≡ Some OpenArgs → IsStart before
  open_parenthesis : before ≡ Some Open → IsStart before
  open_bracket : before ≡ Some OpenList → IsStart before

module _ (names : List (List ℕ)) where
  started : (before : Option TokenKind) (next : TokenKind) (rest : List Piece) → IsStart before → begins_part next ≡ true → parted names (Some next) rest ≡ true → parted names before (Token next ∷ rest) ≡ true
  started before next rest (nothing e) first well = rw e (and_from (begins_part next) (parted names (Some next) rest) first well)
  started before next rest (open_arguments e) first well = rw e (and_from (begins_part next) (parted names (Some next) rest) first well)
  started before next rest (open_parenthesis e) first well = rw e (and_from (begins_part next) (parted names (Some next) rest) first well)
  started before next rest (open_bracket e) first well = rw e (and_from (begins_part next) (parted names (Some next) rest) first well)

  -- What may stand behind a closing parenthesis may stand behind other tokens too.

  behind_variable : (name : ℕ) (rest : List Piece) → parted names (Some Close) rest ≡ true → parted names (Some (Var name)) rest ≡ true
  behind_variable name [] well = refl
  behind_variable name (Blank ∷ rest) well = well
  behind_variable name (Token next ∷ rest) well = well

  behind_integer : (value : ℕ) (rest : List Piece) → parted names (Some Close) rest ≡ true → parted names (Some (Int value)) rest ≡ true
  behind_integer value [] well = refl
  behind_integer value (Blank ∷ rest) well = well
  behind_integer value (Token next ∷ rest) well = well

  behind_text : (name : ℕ) (rest : List Piece) → parted names (Some Close) rest ≡ true → parted names (Some (TextToken name)) rest ≡ true
  behind_text name [] well = refl
  behind_text name (Blank ∷ rest) well = well
  behind_text name (Token next ∷ rest) well = well

  behind_list : (rest : List Piece) → parted names (Some Close) rest ≡ true → parted names (Some CloseList) rest ≡ true
  behind_list [] well = refl
  behind_list (Blank ∷ rest) well = well
  behind_list (Token next ∷ rest) well = well

  ends_more : (next : TokenKind) → ends_operand next ≡ true → ends_name next ≡ true
  ends_more (Name name) e = absurd (cc)
  ends_more (Quoted name) e = absurd (cc)
  ends_more (Var name) e = absurd (cc)
  ends_more (Int value) e = absurd (cc)
  ends_more (TextToken name) e = absurd (cc)
  ends_more OpenArgs e = refl
  ends_more Open e = absurd (cc)
  ends_more Close e = refl
  ends_more OpenList e = absurd (cc)
  ends_more CloseList e = refl
  ends_more Comma e = refl
  ends_more Bar e = absurd (cc)
  ends_more Dot e = refl
  ends_more Stop e = refl

  behind_quoted : (name : ℕ) (rest : List Piece) → parted names (Some Close) rest ≡ true → parted names (Some (Quoted name)) rest ≡ true
  behind_quoted name [] well = refl
  behind_quoted name (Blank ∷ rest) well = well
  behind_quoted name (Token next ∷ rest) well =
      and_from (ends_name next) (parted names (Some next) rest) (ends_more next ((and_parts (ends_operand next) (parted names (Some next) rest) well).0)) ((and_parts (ends_operand next) (parted names (Some next) rest) well).1)

  -- a name, in quotes or not

  plain_touches : (name : ℕ) (next : TokenKind) → is_plain (text_at names name) ≡ true → ends_name next ≡ true → touches names (Name name) next ≡ true
  plain_touches name next plain ends =
      ap (λ b. (b && ends_name next) || (name == minus_name && is_integer next)) plain ∙ ap (λ b. b || (name == minus_name && is_integer next)) ends

  behind_name : (name : ℕ) (rest : List Piece) → is_plain (text_at names name) ≡ true → parted names (Some (Quoted name)) rest ≡ true → parted names (Some (Name name)) rest ≡ true
  behind_name name [] plain well = refl
  behind_name name (Blank ∷ rest) plain well = well
  behind_name name (Token next ∷ rest) plain well =
      and_from (touches names (Name name) next) (parted names (Some next) rest) (plain_touches name next plain ((and_parts (ends_name next) (parted names (Some next) rest) well).0)) ((and_parts (ends_name next) (parted names (Some next) rest) well).1)

  named_by : (name : ℕ) (before : Option TokenKind) (rest : List Piece) (test : Bool) → is_plain (text_at names name) ≡ test → IsStart before → parted names (Some (Quoted name)) rest ≡ true
      → parted names before (cond test (Token (Name name)) (Token (Quoted name)) ∷ rest) ≡ true
  named_by name before rest true e start well = started before (Name name) rest start refl (behind_name name rest e well)
  named_by name before rest false e start well = started before (Quoted name) rest start refl well

  named : (name : ℕ) (before : Option TokenKind) (rest : List Piece) → IsStart before → parted names (Some (Quoted name)) rest ≡ true → parted names before (name_piece names name ∷ rest) ≡ true
  named name before rest start well = named_by name before rest (is_plain (text_at names name)) refl start well

  marked_by : (name : ℕ) (rest : List Piece) (test : Bool) → is_plain (text_at names name) ≡ test → parted names (Some (Quoted name)) rest ≡ true
      → parted names (Some Dot) (cond test (Token (Name name)) (Token (Quoted name)) ∷ rest) ≡ true
  marked_by name rest true e well = and_from (is_plain (text_at names name)) (parted names (Some (Name name)) rest) e (behind_name name rest e well)
  marked_by name rest false e well = well

  -- a name behind a qualifier mark
  marked : (name : ℕ) (rest : List Piece) → parted names (Some (Quoted name)) rest ≡ true → parted names (Some Dot) (name_piece names name ∷ rest) ≡ true
  marked name rest well = marked_by name rest (is_plain (text_at names name)) refl well

-- the tokens among the pieces can be spelled
abbrev pub AreSpelled : List (List ℕ) → List Piece → Type 0
AreSpelled names pieces = AllByRecursion (IsSpelled names) (kinds_of pieces)

spelled_append : (names : List (List ℕ)) (front rest : List Piece) → AreSpelled names front → AreSpelled names rest → AreSpelled names (front ++ rest)
spelled_append names [] rest first second = second
spelled_append names (Blank ∷ front) rest first second = spelled_append names front rest first second
spelled_append names (Token kind ∷ front) rest first second = (first.0, spelled_append names front rest first.1 second)

spelled_by : (names : List (List ℕ)) (name : ℕ) (rest : List Piece) → HasName names name → AreSpelled names rest → (test : Bool) → is_plain (text_at names name) ≡ test → AreSpelled names (cond test (Token (Name name)) (Token (Quoted name)) ∷ rest)
spelled_by names name rest known spelled true e = ((known, inl e), spelled)
spelled_by names name rest known spelled false e = (known, spelled)

name_spelled : (names : List (List ℕ)) (name : ℕ) (rest : List Piece) → HasName names name → AreSpelled names rest → AreSpelled names (name_piece names name ∷ rest)
name_spelled names name rest known spelled = spelled_by names name rest known spelled (is_plain (text_at names name)) refl

-- pieces that stand well before what may follow a closing parenthesis
abbrev pub ArePlaced : List (List ℕ) → List Piece → Type 0
ArePlaced names pieces = (before : Option TokenKind) (rest : List Piece) → IsStart before → parted names (Some Close) rest ≡ true → parted names before (pieces ++ rest) ≡ true

-- the same of a list's tail, behind a head
abbrev pub AreBehind : List (List ℕ) → List Piece → Type 0
AreBehind names pieces = (rest : List Piece) → parted names (Some Close) rest ≡ true → parted names (Some Close) (pieces ++ rest) ≡ true

pub record IsWell (names : List (List ℕ)) (term : Term) : Type 0 where
  pub placed : (commas : Bool) → ArePlaced names ((part_of names term).pieces commas)
  pub spelled : (commas : Bool) → AreSpelled names ((part_of names term).pieces commas)
  pub behind : AreBehind names (part_of names term).tail
  pub tail_spelled : AreSpelled names (part_of names term).tail

abbrev pub AreWell : List (List ℕ) → Terms → Type 0
AreWell names none = Unit {0}
AreWell names (more first rest) = IsWell names first × AreWell names rest

module _ (names : List (List ℕ)) where
  -- parentheses

  enclosed_placed : (enclosed : Bool) (pieces : List Piece) → ArePlaced names pieces → ArePlaced names (enclosed_if enclosed pieces)
  enclosed_placed true pieces placed before rest start well =
      started names before Open ((pieces ++ Token Close ∷ []) ++ rest) start refl
      (subst (λ ts. parted names (Some Open) ts ≡ true) (sym (append_assoc pieces (Token Close ∷ []) rest)) (placed (Some Open) (Token Close ∷ rest) (open_parenthesis refl) well))
  enclosed_placed false pieces placed before rest start well = placed before rest start well

  enclosed_spelled : (enclosed : Bool) (pieces : List Piece) → AreSpelled names pieces → AreSpelled names (enclosed_if enclosed pieces)
  enclosed_spelled true pieces spelled = (tt, spelled_append names pieces (Token Close ∷ []) spelled (tt, tt))
  enclosed_spelled false pieces spelled = spelled

  module _ (term : Term) (placed : (commas : Bool) → ArePlaced names ((part_of names term).pieces commas)) (spelled : (commas : Bool) → AreSpelled names ((part_of names term).pieces commas)) where
    part_placed : (max : ℕ) (commas : Bool) → ArePlaced names (part_pieces max commas (part_of names term))
    part_placed max commas = enclosed_placed (is_enclosed max commas (part_of names term).form) ((part_of names term).pieces (commas || is_enclosed max commas (part_of names term).form)) (placed (commas || is_enclosed max commas (part_of names term).form))

    part_spelled : (max : ℕ) (commas : Bool) → AreSpelled names (part_pieces max commas (part_of names term))
    part_spelled max commas = enclosed_spelled (is_enclosed max commas (part_of names term).form) ((part_of names term).pieces (commas || is_enclosed max commas (part_of names term).form)) (spelled (commas || is_enclosed max commas (part_of names term).form))

    operand_placed : (max : ℕ) (commas : Bool) → ArePlaced names (operand_pieces max commas (part_of names term))
    operand_placed max commas = enclosed_placed (part_of names term).is_integer (part_pieces max commas (part_of names term)) (part_placed max commas)

    operand_spelled : (max : ℕ) (commas : Bool) → AreSpelled names (operand_pieces max commas (part_of names term))
    operand_spelled max commas = enclosed_spelled (part_of names term).is_integer (part_pieces max commas (part_of names term)) (part_spelled max commas)

    -- a list's tail behind a bar
    barred : bar_pieces (part_pieces argument_most false (part_of names term)) ≡ (part_of names term).tail → IsWell names term
    barred e = record {
      placed = placed;
      spelled = spelled;
      behind = λ rest well. subst (λ ts. parted names (Some Close) (ts ++ rest) ≡ true) e (part_placed 1199 false None rest (nothing refl) well);
      tail_spelled = subst (AreSpelled names) e (tt, part_spelled 1199 false);
    }

  -- arguments

  others_behind : (others : Terms) → AreWell names others → AreBehind names (other_pieces (parts_of names others))
  others_behind none all rest well = well
  others_behind (more next others) all rest well =
      subst (λ ts. parted names None ts ≡ true) (sym (append_assoc (part_pieces argument_most false (part_of names next)) (other_pieces (parts_of names others)) rest))
      (part_placed next all.0.placed all.0.spelled 1199 false None (other_pieces (parts_of names others) ++ rest) (nothing refl) (others_behind others all.1 rest well))

  others_spelled : (others : Terms) → AreWell names others → AreSpelled names (other_pieces (parts_of names others))
  others_spelled none all = (tt, tt)
  others_spelled (more next others) all =
      (tt, spelled_append names (part_pieces argument_most false (part_of names next)) (other_pieces (parts_of names others)) (part_spelled next all.0.placed all.0.spelled 1199 false) (others_spelled others all.1))

  module _ (first : Term) (others : Terms) (well : IsWell names first) (all : AreWell names others) where
    abbrev inner : List Piece
    inner = part_pieces argument_most false (part_of names first) ++ other_pieces (parts_of names others)

    inner_placed : ArePlaced names inner
    inner_placed before rest start fits =
        subst (λ ts. parted names before ts ≡ true) (sym (append_assoc (part_pieces argument_most false (part_of names first)) (other_pieces (parts_of names others)) rest))
        (part_placed first well.placed well.spelled 1199 false before (other_pieces (parts_of names others) ++ rest) start (others_behind others all rest fits))

    inner_spelled : AreSpelled names inner
    inner_spelled = spelled_append names (part_pieces argument_most false (part_of names first)) (other_pieces (parts_of names others)) (part_spelled first well.placed well.spelled 1199 false) (others_spelled others all)

  -- lists

  module _ (head tail : Term) (well_head : IsWell names head) (well_tail : IsWell names tail) where
    items_placed : ArePlaced names (item_pieces (part_of names head ∷ part_of names tail ∷ []))
    items_placed before rest start fits =
        subst (λ ts. parted names before ts ≡ true) (sym (append_assoc (part_pieces argument_most false (part_of names head)) (part_of names tail).tail rest))
        (part_placed head well_head.placed well_head.spelled 1199 false before ((part_of names tail).tail ++ rest) start (well_tail.behind rest fits))

    items_spelled : AreSpelled names (item_pieces (part_of names head ∷ part_of names tail ∷ []))
    items_spelled = spelled_append names (part_pieces argument_most false (part_of names head)) (part_of names tail).tail (part_spelled head well_head.placed well_head.spelled 1199 false) well_tail.tail_spelled

    list_placed : ArePlaced names (Token OpenList ∷ (item_pieces (part_of names head ∷ part_of names tail ∷ []) ++ Token CloseList ∷ []))
    list_placed before rest start fits =
        started names before OpenList ((item_pieces (part_of names head ∷ part_of names tail ∷ []) ++ Token CloseList ∷ []) ++ rest) start refl
        (subst (λ ts. parted names (Some OpenList) ts ≡ true) (sym (append_assoc (item_pieces (part_of names head ∷ part_of names tail ∷ [])) (Token CloseList ∷ []) rest))
        (items_placed (Some OpenList) (Token CloseList ∷ rest) (open_bracket refl) (behind_list names rest fits)))

    list_spelled : AreSpelled names (Token OpenList ∷ (item_pieces (part_of names head ∷ part_of names tail ∷ []) ++ Token CloseList ∷ []))
    list_spelled = (tt, spelled_append names (item_pieces (part_of names head ∷ part_of names tail ∷ [])) (Token CloseList ∷ []) items_spelled (tt, tt))

  -- operators

  module _ (fixed : HoldsFixed names) (operator : Operator) (row : infix_named operator.name ≡ Some operator) where
    operator_by : (test : Bool) → (operator.name == comma_name) ≡ test → AreSpelled names (cond test (Token Comma ∷ Blank ∷ []) (Blank ∷ Token (Name operator.name) ∷ Blank ∷ []))
    operator_by true e = (tt, tt)
    operator_by false e = (infix_spelled names fixed operator row e, tt)

    operator_behind : (pieces : List Piece) → parted names None pieces ≡ true → parted names (Some Close) (operator_pieces operator ++ pieces) ≡ true
    operator_behind pieces well = elim (operator.name == comma_name) as (λ b. parted names (Some Close) (cond b (Token Comma ∷ Blank ∷ []) (Blank ∷ Token (Name operator.name) ∷ Blank ∷ []) ++ pieces) ≡ true) [ true ↦ well | false ↦ well ]

    module _ (left right : Term) (well_left : IsWell names left) (well_right : IsWell names right) (commas : Bool) where
      abbrev lefts : List Piece
      lefts = part_pieces (first_most operator) commas (part_of names left)

      abbrev rights : List Piece
      rights = part_pieces (last_most operator) commas (part_of names right)

      infix_placed : ArePlaced names (infix_pieces commas operator (part_of names left ∷ part_of names right ∷ []))
      infix_placed before rest start fits =
          subst (λ ts. parted names before ts ≡ true) (sym (append_assoc lefts (operator_pieces operator ++ rights) rest ∙ ap (λ t. lefts ++ t) (append_assoc (operator_pieces operator) rights rest)))
          (part_placed left well_left.placed well_left.spelled (first_most operator) commas before (operator_pieces operator ++ (rights ++ rest)) start
          (operator_behind (rights ++ rest) (part_placed right well_right.placed well_right.spelled (last_most operator) commas None rest (nothing refl) fits)))

      infix_spells : AreSpelled names (infix_pieces commas operator (part_of names left ∷ part_of names right ∷ []))
      infix_spells = spelled_append names lefts (operator_pieces operator ++ rights) (part_spelled left well_left.placed well_left.spelled (first_most operator) commas)
          (spelled_append names (operator_pieces operator) rights (operator_by (operator.name == comma_name) refl) (part_spelled right well_right.placed well_right.spelled (last_most operator) commas))

  module _ (fixed : HoldsFixed names) (operator : Operator) (row : prefix_named operator.name ≡ Some operator) where
    prefix_placed : (operand : Term) → IsWell names operand → (commas : Bool) → ArePlaced names (prefix_pieces commas operator (part_of names operand ∷ []))
    prefix_placed operand well commas before rest start fits =
        started names before (Name operator.name) (Blank ∷ (operand_pieces (last_most operator) commas (part_of names operand) ++ rest)) start refl
        (operand_placed operand well.placed well.spelled (last_most operator) commas None rest (nothing refl) fits)

    prefix_spells : (operand : Term) → IsWell names operand → (commas : Bool) → AreSpelled names (prefix_pieces commas operator (part_of names operand ∷ []))
    prefix_spells operand well commas = (prefix_spelled names fixed operator row, operand_spelled operand well.placed well.spelled (last_most operator) commas)

    module _ (variables goal : Term) (well_variables : IsWell names variables) (well_goal : IsWell names goal) (commas : Bool) where
      abbrev bound : List Piece
      bound = part_pieces 0 commas (part_of names variables)

      abbrev goals : List Piece
      goals = part_pieces term_most true (part_of names goal)

      quantifier_placed : ArePlaced names (quantifier_pieces commas operator (part_of names variables ∷ part_of names goal ∷ []))
      quantifier_placed before rest start fits =
          started names before (Name operator.name) (Blank ∷ ((bound ++ (Blank ∷ Token Open ∷ (goals ++ Token Close ∷ []))) ++ rest)) start refl
          (subst (λ ts. parted names None ts ≡ true) (sym (append_assoc bound (Blank ∷ Token Open ∷ (goals ++ Token Close ∷ [])) rest))
          (part_placed variables well_variables.placed well_variables.spelled 0 commas None (Blank ∷ Token Open ∷ ((goals ++ Token Close ∷ []) ++ rest)) (nothing refl)
          (subst (λ ts. parted names (Some Open) ts ≡ true) (sym (append_assoc goals (Token Close ∷ []) rest))
          (part_placed goal well_goal.placed well_goal.spelled 1200 true (Some Open) (Token Close ∷ rest) (open_parenthesis refl) fits))))

      quantifier_spells : AreSpelled names (quantifier_pieces commas operator (part_of names variables ∷ part_of names goal ∷ []))
      quantifier_spells = (
        prefix_spelled names fixed operator row,
        spelled_append names bound (Blank ∷ Token Open ∷ (goals ++ Token Close ∷ [])) (part_spelled variables well_variables.placed well_variables.spelled 0 commas)
            (tt, spelled_append names goals (Token Close ∷ []) (part_spelled goal well_goal.placed well_goal.spelled 1200 true) (tt, tt)),
      )

  -- variables and literals

  variable_well : (name : ℕ) (span : Span) → IsWritable names (Variable name span) → IsWell names (Variable name span)
  variable_well name span writable = barred (Variable name span) (λ commas before rest start well. started names before (Var name) rest start refl (behind_variable names name rest well)) (λ commas. (writable, tt)) refl

  text_well : (name : ℕ) (span : Span) → IsWritable names (Text name span) → IsWell names (Text name span)
  text_well name span writable = barred (Text name span) (λ commas before rest start well. started names before (TextToken name) rest start refl (behind_text names name rest well)) (λ commas. (writable, tt)) refl

  sign_touches : (value : ℕ) → touches names (Name minus_name) (Int value) ≡ true
  sign_touches value = or-true (is_plain (text_at names minus_name) && false)

  integer_placed : (value : ℤ) → ArePlaced names (integer_pieces value)
  integer_placed (pos n) before rest start well = started names before (Int n) rest start refl (behind_integer names n rest well)
  integer_placed (negsuc n) before rest start well =
      started names before (Name minus_name) (Token (Int (n + 1)) ∷ rest) start refl
      (and_from (touches names (Name minus_name) (Int (n + 1))) (parted names (Some (Int (n + 1))) rest) (sign_touches (n + 1)) (behind_integer names (n + 1) rest well))

  integer_spelled : HoldsFixed names → (value : ℤ) → FitsSigned w64 value → AreSpelled names (integer_pieces value)
  integer_spelled fixed (pos n) fits = (omega (arith, fits), tt)
  integer_spelled fixed (negsuc n) fits = (minus_spelled names fixed, (omega (arith, fits), tt))

  integer_well : HoldsFixed names → (value : ℤ) (span : Span) → IsWritable names (Integer value span) → IsWell names (Integer value span)
  integer_well fixed value span writable = barred (Integer value span) (λ commas. integer_placed value) (λ commas. integer_spelled fixed value writable) refl

  -- names with their arguments

  constant_by : (name : ℕ) (test : Bool) → HasName names name → ArePlaced names (cond test (Token OpenList ∷ Token CloseList ∷ []) (name_piece names name ∷ [])) × AreSpelled names (cond test (Token OpenList ∷ Token CloseList ∷ []) (name_piece names name ∷ []))
  constant_by name true known = ((λ before rest start well. started names before OpenList (Token CloseList ∷ rest) start refl (behind_list names rest well)), (tt, (tt, tt)))
  constant_by name false known = ((λ before rest start well. named names name before rest start (behind_quoted names name rest well)), name_spelled names name [] known tt)

  plain_well : (name : ℕ) (arguments : Terms) → HasName names name → AreWell names arguments → ArePlaced names (plain_pieces names name None (parts_of names arguments)) × AreSpelled names (plain_pieces names name None (parts_of names arguments))
  plain_well name none known all = constant_by name (name == nil_name) known
  plain_well name (more first others) known all = (
    (λ before rest start well. named names name before (Token OpenArgs ∷ (inner first others all.0 all.1 ++ rest)) start (inner_placed first others all.0 all.1 (Some OpenArgs) rest (open_arguments refl) well)),
    name_spelled names name (Token OpenArgs ∷ inner first others all.0 all.1) known (tt, inner_spelled first others all.0 all.1),
  )

  qualified_well : (name qualifier : ℕ) (arguments : Terms) → HasName names name → HasName names qualifier → AreWell names arguments
      → ArePlaced names (plain_pieces names name (Some qualifier) (parts_of names arguments)) × AreSpelled names (plain_pieces names name (Some qualifier) (parts_of names arguments))
  qualified_well name qualifier none known qualified all = (
    (λ before rest start well. named names qualifier before (Token Dot ∷ name_piece names name ∷ rest) start (marked names name rest (behind_quoted names name rest well))),
    name_spelled names qualifier (Token Dot ∷ name_piece names name ∷ []) qualified (tt, name_spelled names name [] known tt),
  )
  qualified_well name qualifier (more first others) known qualified all = (
    (λ before rest start well. named names qualifier before (Token Dot ∷ name_piece names name ∷ Token OpenArgs ∷ (inner first others all.0 all.1 ++ rest)) start
        (marked names name (Token OpenArgs ∷ (inner first others all.0 all.1 ++ rest)) (inner_placed first others all.0 all.1 (Some OpenArgs) rest (open_arguments refl) well))),
    name_spelled names qualifier (Token Dot ∷ name_piece names name ∷ Token OpenArgs ∷ inner first others all.0 all.1) qualified
        (tt, name_spelled names name (Token OpenArgs ∷ inner first others all.0 all.1) known (tt, inner_spelled first others all.0 all.1)),
  )

  -- a name with its arguments in its form

  module _ (fixed : HoldsFixed names) (name : ℕ) (known : HasName names name) where
    abbrev Formed : Terms → Form → Type 0
    Formed arguments form = AreWell names arguments → (commas : Bool) → ArePlaced names (formed names commas form name None (parts_of names arguments)) × AreSpelled names (formed names commas form name None (parts_of names arguments))

    infix_row : (operator : Operator) → infix_named name ≡ Some operator → infix_named operator.name ≡ Some operator
    infix_row operator row = ap infix_named (infix_name name operator row) ∙ row

    prefix_row : (operator : Operator) → prefix_named name ≡ Some operator → prefix_named operator.name ≡ Some operator
    prefix_row operator row = ap prefix_named (prefix_name name operator row) ∙ row

    formed_well : (arguments : Terms) (form : Form) → IsForm name arguments form → Formed arguments form
    formed_well arguments form (is_list head tail a f cons) = subst (λ ts. Formed ts form) (sym a) (subst (λ g. Formed (more head (more tail none)) g) (sym f)
        (λ all commas. (list_placed head tail all.0 all.1.0, list_spelled head tail all.0 all.1.0)))
    formed_well arguments form (is_infix left right operator a f row) = subst (λ ts. Formed ts form) (sym a) (subst (λ g. Formed (more left (more right none)) g) (sym f)
        (λ all commas. (infix_placed fixed operator (infix_row operator row) left right all.0 all.1.0 commas, infix_spells fixed operator (infix_row operator row) left right all.0 all.1.0 commas)))
    formed_well arguments form (is_prefix operand operator a f row one) = subst (λ ts. Formed ts form) (sym a) (subst (λ g. Formed (more operand none) g) (sym f)
        (λ all commas. (prefix_placed fixed operator (prefix_row operator row) operand all.0 commas, prefix_spells fixed operator (prefix_row operator row) operand all.0 commas)))
    formed_well arguments form (is_quantifier variables goal operator a f row two) = subst (λ ts. Formed ts form) (sym a) (subst (λ g. Formed (more variables (more goal none)) g) (sym f)
        (λ all commas. (quantifier_placed fixed operator (prefix_row operator row) variables goal all.0 all.1.0 commas, quantifier_spells fixed operator (prefix_row operator row) variables goal all.0 all.1.0 commas)))
    formed_well arguments form (is_plain_form f) = subst (λ g. Formed arguments g) (sym f) (λ all commas. plain_well name arguments known all)

    module _ (span : Span) where
      application_barred : (arguments : Terms) → AreWell names arguments → (form_of name None arguments ≡ ListForm → ⊥) → is_nil_term (Application name None arguments span) ≡ false → IsWell names (Application name None arguments span)
      application_barred arguments all unlisted other =
          let formed' : Formed arguments (form_of name None arguments) = formed_well arguments (form_of name None arguments) (seen name arguments) in
          barred (Application name None arguments span) (λ commas. (formed' all commas).0) (λ commas. (formed' all commas).1) (other_tail names (Application name None arguments span) unlisted other)

      abbrev Well : Form → Terms → Type 0
      Well form arguments = AreWell names arguments → form_of name None arguments ≡ form → IsWell names (Application name None arguments span)

      list_well : (head tail : Term) → Well ListForm (more head (more tail none))
      list_well head tail all l =
          let term : Term = Application name None (more head (more tail none)) span in
          let formed' : Formed (more head (more tail none)) (form_of name None (more head (more tail none))) = formed_well (more head (more tail none)) (form_of name None (more head (more tail none))) (seen name (more head (more tail none))) in
          record {
            placed = λ commas. (formed' all commas).0;
            spelled = λ commas. (formed' all commas).1;
            behind = λ rest well. subst (λ ts. parted names (Some Close) (ts ++ rest) ≡ true) (sym (list_tail names term (sym l))) (items_placed head tail all.0 all.1.0 None rest (nothing refl) well);
            tail_spelled = subst (AreSpelled names) (sym (list_tail names term (sym l))) (tt, items_spelled head tail all.0 all.1.0);
          }

      constant_well : form_of name None none ≡ PlainForm → (test : Bool) → (name == nil_name) ≡ test → IsWell names (Application name None none span)
      constant_well f true e =
          let formed' : Formed none (form_of name None none) = formed_well none (form_of name None none) (seen name none) in
          let empty : (part_of names (Application name None none span)).tail ≡ [] = ap (λ g. tail_pieces names g name None []) f ∙ ap (λ b. cond b [] (bar_pieces (plain_pieces names name None []))) e in
          record {
            placed = λ commas. (formed' tt commas).0;
            spelled = λ commas. (formed' tt commas).1;
            behind = λ rest well. subst (λ ts. parted names (Some Close) (ts ++ rest) ≡ true) (sym empty) well;
            tail_spelled = subst (AreSpelled names) (sym empty) tt;
          }
      constant_well f false e = application_barred none tt (λ l. plain_not_list (sym f ∙ l)) (ap (λ b. b && true) e)

      plain_application_well : (arguments : Terms) → Well PlainForm arguments
      plain_application_well none all f = constant_well f (name == nil_name) refl
      plain_application_well (more first others) all f = application_barred (more first others) all (λ l. plain_not_list (sym f ∙ l)) (no_nil name first others)

      well_by : (arguments : Terms) (form : Form) → form_of name None arguments ≡ form → IsForm name arguments form → AreWell names arguments → IsWell names (Application name None arguments span)
      well_by arguments form e (is_list head tail a f cons) all = subst (Well ListForm) (sym a) (list_well head tail) all (e ∙ f)
      well_by arguments form e (is_infix left right operator a f row) all = subst (Well form) (sym a) (λ all' l. application_barred (more left (more right none)) all' (λ l'. infix_not_list operator (sym f ∙ sym l ∙ l')) (no_nil name left (more right none))) all e
      well_by arguments form e (is_prefix operand operator a f row one) all = subst (Well form) (sym a) (λ all' l. application_barred (more operand none) all' (λ l'. prefix_not_list operator (sym f ∙ sym l ∙ l')) (no_nil name operand none)) all e
      well_by arguments form e (is_quantifier variables goal operator a f row two) all = subst (Well form) (sym a) (λ all' l. application_barred (more variables (more goal none)) all' (λ l'. quantifier_not_list operator (sym f ∙ sym l ∙ l')) (no_nil name variables (more goal none))) all e
      well_by arguments form e (is_plain_form f) all = plain_application_well arguments all (e ∙ f)

mutual
  pub written_well : (names : List (List ℕ)) → HoldsFixed names → (term : Term) → IsWritable names term → IsWell names term
  written_well names fixed (Variable name span) writable = variable_well names name span writable
  written_well names fixed (Integer value span) writable = integer_well names fixed value span writable
  written_well names fixed (Text name span) writable = text_well names name span writable
  written_well names fixed (Application name None arguments span) writable =
      well_by names fixed name writable.0 span arguments (form_of name None arguments) refl (seen name arguments) (all_well names fixed arguments writable.1)
  written_well names fixed (Application name (Some qualifier) arguments span) writable =
      let found = qualified_well names name qualifier arguments writable.0 writable.1 (all_well names fixed arguments writable.2) in
      barred names (Application name (Some qualifier) arguments span) (λ commas. found.0) (λ commas. found.1) (other_tail names (Application name (Some qualifier) arguments span) (λ l. plain_not_list l) refl)

  all_well : (names : List (List ℕ)) → HoldsFixed names → (terms : Terms) → AreWritable names terms → AreWell names terms
  all_well names fixed none writable = tt
  all_well names fixed (more first rest) writable = (written_well names fixed first writable.0, all_well names fixed rest writable.1)

-- The pieces of a term that can be written, and a full stop, are parted well.
pub written_parted : (names : List (List ℕ)) → HoldsFixed names → (term : Term) → IsWritable names term → parted names None ((part_of names term).pieces true ++ Token Stop ∷ []) ≡ true
written_parted names fixed term writable = (written_well names fixed term writable).placed true None (Token Stop ∷ []) (nothing refl) refl

-- Their tokens can be spelled.
pub written_spelled : (names : List (List ℕ)) → HoldsFixed names → (term : Term) → IsWritable names term → AllByRecursion (IsSpelled names) (kinds_of ((part_of names term).pieces true ++ Token Stop ∷ []))
written_spelled names fixed term writable = spelled_append names ((part_of names term).pieces true) (Token Stop ∷ []) ((written_well names fixed term writable).spelled true) (tt, tt)

-- What is read is what the tokens spell.
use Rattle.std.proofs.Common.{◌≡◌, ℕ, zero, suc, ◌+◌, ◌≤◌, Bool, true, false, ◌&&◌, List, [], ◌∷◌, length, nat_le, Option, Some, None, refl, sym, ap, subst, ◌∙◌, arith, leb-true, add-one}
use Rattle.std.specs.Bool.{if◌then◌else◌}
use Rattle.std.proofs.lemmas.Bool.{and_parts}
use Rattle.std.proofs.lemmas.Option.{same_Some}
use Rattle.merc_base.specs.declared.place.Span.{Span}
use Rattle.merc_base.specs.Names.{comma_name}
use Rattle.merc_tokens.specs.declared.token.Token.{Token}
use Rattle.merc_tokens.specs.declared.token.TokenKind.{TokenKind}
use Rattle.merc_tokens.specs.declared.token.TokenKind.TheVariants.{Name, Close, CloseList, Comma, Bar}
use Rattle.merc_tree.specs.Term.{Term, Terms, Variable, Text, Application, none, more, span_of, with_span}
use Rattle.merc_terms.specs.declared.frame.Bound.{Bound}
use Rattle.merc_terms.specs.declared.frame.Role.{Role}
use Rattle.merc_terms.specs.declared.frame.Role.TheVariants.{Enclosed, Argument, Item, ListTail, Operand, FirstOperand, SecondOperand, RightOperand}
use Rattle.merc_terms.specs.declared.frame.Frame.{Frame}
use Rattle.merc_terms.specs.declared.frame.Delimiter.{Delimiter}
use Rattle.merc_terms.specs.declared.frame.Delimiter.TheVariants.{Comma as CommaMark, Bar as BarMark, Close as CloseMark, CloseList as CloseListMark, Other}
use Rattle.merc_terms.specs.declared.operators.Operator.{Operator}
use Rattle.merc_terms.specs.declared.starting.Start.{Start}
use Rattle.merc_terms.specs.declared.starting.Start.TheVariants.{Variable as VariableStart, Integer as IntegerStart, Text as TextStart, Constant, Application as ApplicationStart, List as ListStart, Parenthesis, Prefix}
use Rattle.merc_terms.specs.Operators.{infix_named, first_most, last_most, takes_two, term_most, argument_most}
use Rattle.merc_terms.specs.Reading.{token, joined, begins_with, is_infix_name, IsInfix, name as infix_name, comma as infix_comma, Spells, before as spells_before, quantifier, between, SpellsArguments, last_argument, argument, SpellsItems, last_item, items_tail, item, cell, nil}
use Rattle.merc_terms.specs.Starting.{Started, start_at}
use Rattle.merc_terms.specs.declared.built.Built.{Built}
use Rattle.merc_terms.specs.Reader.{Read, pushed, with_application, with_cells, with_list, with_enclosed, whole_bound, argument_bound, operand_bound, frame_of, fitting, infix_kind, infix_at, delimiter_with, delimiter_at, Reading, started_by, begun_by, term_by, going_by, tail_by, enclosed_by, argument_by, item_by, list_tail_by, operated_by, second_by, closed_by, filled_by, reading}
use Rattle.merc_terms.proofs.Building.{pushed_variable, pushed_text, pushed_constant, pushed_integer, pushed_negative, pushed_back, behind, pushed_application, cells, pushed_cells, pushed_list, pushed_enclosed, span_of-with_span}
use Rattle.merc_terms.proofs.Starts.{Begins, WhereBegun, start_at-begins}
use Rattle.merc_terms.proofs.Table.{prefix_name}

-- a term that the tokens spell was read within a bound
pub record IsRead (bound : Bound) (built : Built) (tokens : List Token) (read : Read) : Type 0 where
  pub term : Term
  pub built_is : read.built ≡ pushed term built
  pub span_is : read.span ≡ span_of term
  pub within : read.priority ≤ bound.max
  pub spelled : Spells bound.commas term read.priority tokens read.rest

abbrev pub IsSoundTerm : (Bound → Built → List Token → Option Read) → Type 0
IsSoundTerm term = (bound : Bound) (built : Built) (tokens : List Token) (read : Read) → term bound built tokens ≡ Some read → IsRead bound built tokens read

-- from a term that the tokens begin with
abbrev IsSoundTail : (Bound → Built → Span → ℕ → List Token → Option Read) → Type 0
IsSoundTail tail =
    (bound : Bound) (built old : Built) (span : Span) (priority : ℕ) (tokens rest : List Token) (term : Term) (read : Read) → Spells bound.commas term priority tokens rest
    → priority ≤ bound.max → built ≡ pushed term old → span ≡ span_of term → tail bound built span priority rest ≡ Some read → IsRead bound old tokens read

-- how far the part of an open term is read that is read within a bound
abbrev part_bound : Role → Bound → Bound
part_bound (Enclosed span) bound = whole_bound
part_bound (Argument name qualifier span count) bound = argument_bound
part_bound (Item span count) bound = argument_bound
part_bound (ListTail span count) bound = argument_bound
part_bound (Operand operator span) bound = operand_bound (last_most operator) bound
part_bound (FirstOperand operator span) bound = operand_bound (first_most operator) bound
part_bound (SecondOperand operator span) bound = operand_bound (last_most operator) bound
part_bound (RightOperand operator left) bound = operand_bound (last_most operator) bound

-- with its last operand, which the rest begins with, an operator behind another operand spells a term
abbrev AwaitsLast : Operator → Span → Bound → Built → List Token → Built → List Token → Type 0
AwaitsLast operator span bound old tokens built rest =
    (first : Term) × (built ≡ pushed first old) × (operator.priority ≤ bound.max)
    × ((term : Term) (priority : ℕ) (left : List Token) → Spells bound.commas term priority rest left → priority ≤ last_most operator
    → Spells bound.commas (Application operator.name None (more first (more term none)) (joined span (span_of term))) operator.priority tokens left)

-- What an open term spells with its next part, which the rest begins with, and what was built of the parts before.
abbrev Awaits : Role → Bound → Built → List Token → Built → List Token → Type 0
Awaits (Enclosed span) bound old tokens built rest =
    (built ≡ old)
    × ((term : Term) (priority : ℕ) (close : Span) (left : List Token) → Spells true term priority rest (token Close close ∷ left) → priority ≤ term_most
    → Spells bound.commas (with_span (joined span close) term) 0 tokens left)
Awaits (Argument name qualifier span count) bound old tokens built rest =
    (before : List Term) × (count ≡ suc (length before)) × (built ≡ pushed_back before old)
    × ((terms : Terms) (close : Span) (left : List Token) → SpellsArguments terms close rest left
    → Spells bound.commas (Application name qualifier (behind before terms) (joined span close)) 0 tokens left)
Awaits (Item span count) bound old tokens built rest =
    (before : List Term) × (count ≡ suc (length before)) × (built ≡ pushed_back before old)
    × ((term : Term) (close : Span) (left : List Token) → SpellsItems (joined span close) term close rest left
    → Spells bound.commas (cells (joined span close) before term) 0 tokens left)
Awaits (ListTail span count) bound old tokens built rest =
    (last : Term) × (before : List Term) × (count ≡ suc (length before)) × (built ≡ pushed_back (last ∷ before) old)
    × ((term : Term) (priority : ℕ) (close : Span) (left : List Token) → Spells false term priority rest (token CloseList close ∷ left) → priority ≤ argument_most
    → Spells bound.commas (cells (joined span close) (last ∷ before) term) 0 tokens left)
Awaits (Operand operator span) bound old tokens built rest =
    (built ≡ old) × (operator.priority ≤ bound.max)
    × ((term : Term) (priority : ℕ) (left : List Token) → Spells bound.commas term priority rest left → priority ≤ last_most operator
    → Spells bound.commas (Application operator.name None (more term none) (joined span (span_of term))) operator.priority tokens left)
Awaits (FirstOperand operator span) bound old tokens built rest =
    (built ≡ old) × (operator.priority ≤ bound.max)
    × ((first term : Term) (priority priority' : ℕ) (middle left : List Token) → Spells bound.commas first priority rest middle → priority ≤ first_most operator
    → begins_with is_infix_name middle ≡ false → Spells bound.commas term priority' middle left → priority' ≤ last_most operator
    → Spells bound.commas (Application operator.name None (more first (more term none)) (joined span (span_of term))) operator.priority tokens left)
Awaits (SecondOperand operator span) bound old tokens built rest = AwaitsLast operator span bound old tokens built rest
Awaits (RightOperand operator left) bound old tokens built rest = AwaitsLast operator left bound old tokens built rest

abbrev IsSoundFilled : (Frame → Option Read → Option Read) → Type 0
IsSoundFilled filled =
    (role : Role) (bound : Bound) (built old : Built) (tokens rest : List Token) (part : Option Read) (read : Read) → Awaits role bound old tokens built rest
    → ((inner : Read) → part ≡ Some inner → IsRead (part_bound role bound) built rest inner) → filled (frame_of role bound) part ≡ Some read → IsRead bound old tokens read

record IsSound (parts : Reading) : Type 0 where
  term : IsSoundTerm parts.term
  tail : IsSoundTail parts.tail
  filled : IsSoundFilled parts.filled

-- where an infix operator goes on

abbrev pub WhereInfix : Bound → ℕ → List Token → Option (Operator × List Token) → Type 0
WhereInfix bound priority tokens None = Unit {0}
WhereInfix bound priority tokens (Some found) =
    (kind : TokenKind) × (mark : Span) × (tokens ≡ token kind mark ∷ found.1) × IsInfix bound.commas kind found.0
    × (found.0.priority ≤ bound.max) × (priority ≤ first_most found.0)

fitting-is : (bound : Bound) (priority : ℕ) (kind : TokenKind) (mark : Span) (rest : List Token) (found : Option Operator)
    → ((operator : Operator) → found ≡ Some operator → IsInfix bound.commas kind operator)
    → WhereInfix bound priority (token kind mark ∷ rest) (fitting bound priority found rest)
fitting-is bound priority kind mark rest None is = tt
fitting-is bound priority kind mark rest (Some operator) is = go (nat_le operator.priority bound.max && nat_le priority (first_most operator)) refl
  where
    go : (b : Bool) → (nat_le operator.priority bound.max && nat_le priority (first_most operator)) ≡ b
        → WhereInfix bound priority (token kind mark ∷ rest) (if b then Some (operator, rest) else None)
    go true both =
        let parts = and_parts (nat_le operator.priority bound.max) (nat_le priority (first_most operator)) both in
        (kind, mark, refl, is operator refl, leb-true operator.priority bound.max parts.0, leb-true priority (first_most operator) parts.1)
    go false both = tt

comma-is : (bound : Bound) (priority : ℕ) (mark : Span) (rest : List Token) (b : Bool) → bound.commas ≡ b
    → WhereInfix bound priority (token Comma mark ∷ rest) (if b then fitting bound priority (infix_named comma_name) rest else None)
comma-is bound priority mark rest true is =
    fitting-is bound priority Comma mark rest (infix_named comma_name) (λ operator found. subst (λ (b : Bool). IsInfix b Comma operator) (sym is) (infix_comma operator found))
comma-is bound priority mark rest false is = tt

infix_kind-is : (bound : Bound) (priority : ℕ) (kind : TokenKind) (mark : Span) (rest : List Token)
    → WhereInfix bound priority (token kind mark ∷ rest) (infix_kind bound priority kind rest)
infix_kind-is bound priority (Name n) mark rest = fitting-is bound priority (Name n) mark rest (infix_named n) (λ operator found. infix_name bound.commas n operator found)
infix_kind-is bound priority Comma mark rest = comma-is bound priority mark rest bound.commas refl
infix_kind-is bound priority kind mark rest = tt

pub infix_at-is : (bound : Bound) (priority : ℕ) (tokens : List Token) → WhereInfix bound priority tokens (infix_at bound priority tokens)
infix_at-is bound priority [] = tt
infix_at-is bound priority (first ∷ rest) = infix_kind-is bound priority first.kind first.span rest

-- the steps, over sound parts

going_by-sound : (parts : Reading) → IsSound parts → (bound : Bound) (built old : Built) (span : Span) (priority : ℕ) (tokens rest : List Token) (term : Term) (read : Read)
    → Spells bound.commas term priority tokens rest → priority ≤ bound.max → built ≡ pushed term old → span ≡ span_of term
    → (found : Option (Operator × List Token)) → WhereInfix bound priority rest found → going_by parts bound built span priority rest found ≡ Some read → IsRead bound old tokens read
going_by-sound parts sound bound built old span priority tokens rest term read spelled within built_is span_is None going same =
    subst (λ (r : Read). IsRead bound old tokens r) (same_Some _ read same)
    (record { term = term; built_is = built_is; span_is = span_is; within = within; spelled = spelled })
going_by-sound parts sound bound built old span priority tokens rest term read spelled within built_is span_is (Some found) going same =
    sound.filled (RightOperand found.0 span) bound built old tokens found.1 (parts.term (operand_bound (last_most found.0) bound) built found.1) read (
      term,
      built_is,
      going.4,
      λ right priority' left spelled' within'.
          rw span_is (between bound.commas going.0 priority priority' found.0 term right going.1 tokens found.1 left (rw going.2 at spelled) going.3 going.5 spelled' within'),
    )
    (λ inner there. sound.term (operand_bound (last_most found.0) bound) built found.1 inner there) same

tail_by-sound : (parts : Reading) → IsSound parts → IsSoundTail (tail_by parts)
tail_by-sound parts sound bound built old span priority tokens rest term read spelled within built_is span_is same =
    going_by-sound parts sound bound built old span priority tokens rest term read spelled within built_is span_is
    (infix_at bound priority rest) (infix_at-is bound priority rest) same

-- what stands behind a part

abbrev pub WhereMark : List Token → Delimiter → List Token → Type 0
WhereMark tokens CommaMark rest = (mark : Span) × (tokens ≡ token Comma mark ∷ rest)
WhereMark tokens BarMark rest = (mark : Span) × (tokens ≡ token Bar mark ∷ rest)
WhereMark tokens (CloseMark close) rest = tokens ≡ token Close close ∷ rest
WhereMark tokens (CloseListMark close) rest = tokens ≡ token CloseList close ∷ rest
WhereMark tokens Other rest = Unit {0}

delimiter_with-is : (kind : TokenKind) (span : Span) (rest : List Token)
    → WhereMark (token kind span ∷ rest) (delimiter_with kind span rest).0 (delimiter_with kind span rest).1
delimiter_with-is Comma span rest = (span, refl)
delimiter_with-is Bar span rest = (span, refl)
delimiter_with-is Close span rest = refl
delimiter_with-is CloseList span rest = refl
delimiter_with-is kind span rest = tt

pub delimiter_at-is : (tokens : List Token) → WhereMark tokens (delimiter_at tokens).0 (delimiter_at tokens).1
delimiter_at-is [] = tt
delimiter_at-is (first ∷ rest) = delimiter_with-is first.kind first.span rest

-- what was read before a delimiter
before_mark : (bound : Bound) (built : Built) (tokens : List Token) (inner : Read) (next : List Token) (is : IsRead bound built tokens inner) → inner.rest ≡ next
    → Spells bound.commas is.term inner.priority tokens next
before_mark bound built tokens inner next is same = subst (λ (r : List Token). Spells bound.commas is.term inner.priority tokens r) same is.spelled

enclosed_by-sound : (parts : Reading) → IsSoundTail (tail_by parts) → (span : Span) (bound : Bound) (built old : Built) (tokens rest : List Token)
    → Awaits (Enclosed span) bound old tokens built rest → (inner : Read) → IsRead whole_bound built rest inner
    → (mark : Delimiter) (left : List Token) → WhereMark inner.rest mark left → (read : Read) → enclosed_by parts span bound inner mark left ≡ Some read → IsRead bound old tokens read
enclosed_by-sound parts tail span bound built old tokens rest awaits inner is (CloseMark close) left at read same =
    let s = joined span close in
    tail bound (with_enclosed s inner.built) old s 0 tokens left (with_span s is.term) read
    (awaits.1 is.term inner.priority close left (before_mark whole_bound built rest inner _ is at) is.within) (omega arith)
    (ap (with_enclosed s) (is.built_is ∙ ap (pushed is.term) awaits.0) ∙ pushed_enclosed s is.term old) (sym (span_of-with_span s is.term)) same
enclosed_by-sound parts tail span bound built old tokens rest awaits inner is mark left at read same = cc

argument_by-sound : (parts : Reading) → IsSound parts → IsSoundTail (tail_by parts) → (name : ℕ) (qualifier : Option ℕ) (span : Span) (count : ℕ) (bound : Bound) (built old : Built)
    (tokens rest : List Token) → Awaits (Argument name qualifier span count) bound old tokens built rest → (inner : Read) → IsRead argument_bound built rest inner
    → (mark : Delimiter) (left : List Token) → WhereMark inner.rest mark left → (read : Read) → argument_by parts name qualifier span count bound inner mark left ≡ Some read
    → IsRead bound old tokens read
argument_by-sound parts sound tail name qualifier span count bound built old tokens rest awaits inner is (CloseMark close) left at read same =
    let s = joined span close in
    tail bound (with_application name qualifier count s inner.built) old s 0 tokens left (Application name qualifier (behind awaits.0 (more is.term none)) s) read
    (awaits.3 (more is.term none) close left (last_argument is.term inner.priority close rest left (before_mark argument_bound built rest inner _ is at) is.within)) (omega arith)
    (ap (with_application name qualifier count s) (is.built_is ∙ ap (pushed is.term) awaits.2)
    ∙ pushed_application name qualifier count s (is.term ∷ awaits.0) old awaits.1) refl same
argument_by-sound parts sound tail name qualifier span count bound built old tokens rest awaits inner is CommaMark left at read same =
    sound.filled (Argument name qualifier span (count + 1)) bound inner.built old tokens left (parts.term argument_bound inner.built left) read (
      is.term ∷ awaits.0,
      add-one count ∙ ap suc awaits.1,
      is.built_is ∙ ap (pushed is.term) awaits.2,
      λ terms close left' spelled.
          awaits.3 (more is.term terms) close left'
          (argument is.term terms inner.priority at.0 close rest left left' (before_mark argument_bound built rest inner _ is at.1) is.within spelled),
    )
    (λ next there. sound.term argument_bound inner.built left next there) same
argument_by-sound parts sound tail name qualifier span count bound built old tokens rest awaits inner is mark left at read same = cc

span_of-cells : (span : Span) (before : List Term) (end : Term) → span_of end ≡ span → span_of (cells span before end) ≡ span
span_of-cells span [] end is = is
span_of-cells span (term ∷ before) end is = span_of-cells span before (cell span term end) refl

item_by-sound : (parts : Reading) → IsSound parts → IsSoundTail (tail_by parts) → (span : Span) (count : ℕ) (bound : Bound) (built old : Built)
    (tokens rest : List Token) → Awaits (Item span count) bound old tokens built rest → (inner : Read) → IsRead argument_bound built rest inner
    → (mark : Delimiter) (left : List Token) → WhereMark inner.rest mark left → (read : Read) → item_by parts span count bound inner mark left ≡ Some read
    → IsRead bound old tokens read
item_by-sound parts sound tail span count bound built old tokens rest awaits inner is (CloseListMark close) left at read same =
    let s = joined span close in
    tail bound (with_list count s inner.built) old s 0 tokens left (cells s awaits.0 (cell s is.term (nil s))) read
    (awaits.3 (cell s is.term (nil s)) close left (last_item s is.term inner.priority close rest left (before_mark argument_bound built rest inner _ is at) is.within)) (omega arith)
    (ap (with_list count s) (is.built_is ∙ ap (pushed is.term) awaits.2)
    ∙ ap (λ (n : ℕ). with_list n s (pushed_back (is.term ∷ awaits.0) old)) awaits.1 ∙ pushed_list s (is.term ∷ awaits.0) old)
    (sym (span_of-cells s awaits.0 (cell s is.term (nil s)) refl)) same
item_by-sound parts sound tail span count bound built old tokens rest awaits inner is CommaMark left at read same =
    sound.filled (Item span (count + 1)) bound inner.built old tokens left (parts.term argument_bound inner.built left) read (
      is.term ∷ awaits.0,
      add-one count ∙ ap suc awaits.1,
      is.built_is ∙ ap (pushed is.term) awaits.2,
      λ others close left' spelled.
          awaits.3 (cell (joined span close) is.term others) close left'
          (item (joined span close) is.term others inner.priority at.0 close rest left left' (before_mark argument_bound built rest inner _ is at.1) is.within spelled),
    )
    (λ next there. sound.term argument_bound inner.built left next there) same
item_by-sound parts sound tail span count bound built old tokens rest awaits inner is BarMark left at read same =
    sound.filled (ListTail span count) bound inner.built old tokens left (parts.term argument_bound inner.built left) read (
      is.term,
      awaits.0,
      awaits.1,
      is.built_is ∙ ap (pushed is.term) awaits.2,
      λ end priority close left' spelled within.
          awaits.3 (cell (joined span close) is.term end) close left'
          (items_tail (joined span close) is.term end inner.priority priority at.0 close rest left left' (before_mark argument_bound built rest inner _ is at.1) is.within spelled within),
    )
    (λ next there. sound.term argument_bound inner.built left next there) same
item_by-sound parts sound tail span count bound built old tokens rest awaits inner is mark left at read same = cc

list_tail_by-sound : (parts : Reading) → IsSoundTail (tail_by parts) → (span : Span) (count : ℕ) (bound : Bound) (built old : Built)
    (tokens rest : List Token) → Awaits (ListTail span count) bound old tokens built rest → (inner : Read) → IsRead argument_bound built rest inner
    → (mark : Delimiter) (left : List Token) → WhereMark inner.rest mark left → (read : Read) → list_tail_by parts span count bound inner mark left ≡ Some read
    → IsRead bound old tokens read
list_tail_by-sound parts tail span count bound built old tokens rest awaits inner is (CloseListMark close) left at read same =
    let s = joined span close in
    tail bound (with_cells count s inner.built) old s 0 tokens left (cells s (awaits.0 ∷ awaits.1) is.term) read
    (awaits.4 is.term inner.priority close left (before_mark argument_bound built rest inner _ is at) is.within) (omega arith)
    (ap (with_cells count s) (is.built_is ∙ ap (pushed is.term) awaits.3)
    ∙ ap (λ (n : ℕ). with_cells n s (pushed is.term (pushed_back (awaits.0 ∷ awaits.1) old))) awaits.2 ∙ pushed_cells s (awaits.0 ∷ awaits.1) is.term old)
    (sym (span_of-cells s awaits.1 (cell s awaits.0 is.term) refl)) same
list_tail_by-sound parts tail span count bound built old tokens rest awaits inner is mark left at read same = cc

operated_by-sound : (parts : Reading) → IsSoundTail (tail_by parts) → (operator : Operator) (operands : ℕ) (from : Span) (bound : Bound) (old : Built) (tokens : List Token)
    (before : List Term) (inner : Read) → operands ≡ length before → inner.built ≡ pushed_back before old → operator.priority ≤ bound.max
    → Spells bound.commas (Application operator.name None (behind before none) (joined from inner.span)) operator.priority tokens inner.rest
    → (read : Read) → operated_by parts operator operands from bound inner ≡ Some read → IsRead bound old tokens read
operated_by-sound parts tail operator operands from bound old tokens before inner count built_is within spelled read same =
    let s = joined from inner.span in
    tail bound (with_application operator.name None operands s inner.built) old s operator.priority tokens inner.rest (Application operator.name None (behind before none) s) read
    spelled within (ap (with_application operator.name None operands s) built_is ∙ pushed_application operator.name None operands s before old count) refl same

-- an operator with its last operand
last_by-sound : (parts : Reading) → IsSoundTail (tail_by parts) → (operator : Operator) (from : Span) (bound : Bound) (built old : Built) (tokens rest : List Token)
    → AwaitsLast operator from bound old tokens built rest → (inner : Read) → IsRead (operand_bound (last_most operator) bound) built rest inner
    → (read : Read) → operated_by parts operator 2 from bound inner ≡ Some read → IsRead bound old tokens read
last_by-sound parts tail operator from bound built old tokens rest awaits inner is read same =
    operated_by-sound parts tail operator 2 from bound old tokens (is.term ∷ awaits.0 ∷ []) inner refl (is.built_is ∙ ap (pushed is.term) awaits.1) awaits.2
    (subst (λ (s : Span). Spells bound.commas (Application operator.name None (more awaits.0 (more is.term none)) (joined from s)) operator.priority tokens inner.rest)
    (sym is.span_is) (awaits.3 is.term inner.priority inner.rest is.spelled is.within)) read same

second_by-sound : (parts : Reading) → IsSoundTail (tail_by parts) → (operator : Operator) (from : Span) (bound : Bound) (built old : Built) (tokens rest : List Token)
    → AwaitsLast operator from bound old tokens built rest → (part : Option Read) → ((inner : Read) → part ≡ Some inner → IsRead (operand_bound (last_most operator) bound) built rest inner)
    → (read : Read) → second_by parts operator from bound part ≡ Some read → IsRead bound old tokens read
second_by-sound parts tail operator from bound built old tokens rest awaits None is read same = cc
second_by-sound parts tail operator from bound built old tokens rest awaits (Some inner) is read same =
    last_by-sound parts tail operator from bound built old tokens rest awaits inner (is inner refl) read same

first_by-sound : (parts : Reading) → IsSoundTail (tail_by parts) → IsSoundTerm (term_by parts) → (operator : Operator) (span : Span) (bound : Bound) (built old : Built)
    (tokens rest : List Token) → Awaits (FirstOperand operator span) bound old tokens built rest → (inner : Read) → IsRead (operand_bound (first_most operator) bound) built rest inner
    → (read : Read) → closed_by parts (FirstOperand operator span) bound inner ≡ Some read → IsRead bound old tokens read
first_by-sound parts tail term operator span bound built old tokens rest awaits inner is read same = go (begins_with is_infix_name inner.rest) refl same
  where
    go : (b : Bool) → begins_with is_infix_name inner.rest ≡ b
        → (if b then None else second_by parts operator span bound (term_by parts (operand_bound (last_most operator) bound) inner.built inner.rest)) ≡ Some read → IsRead bound old tokens read
    go true begins this = cc
    go false begins this =
        second_by-sound parts tail operator span bound inner.built old tokens inner.rest (
          is.term,
          is.built_is ∙ ap (pushed is.term) awaits.0,
          awaits.1,
          λ last priority left spelled within.
              awaits.2 is.term last inner.priority priority inner.rest left is.spelled is.within begins spelled within,
        )
        (term_by parts (operand_bound (last_most operator) bound) inner.built inner.rest)
        (λ next there. term (operand_bound (last_most operator) bound) inner.built inner.rest next there) read this

closed_by-sound : (parts : Reading) → IsSound parts → IsSoundTail (tail_by parts) → IsSoundTerm (term_by parts) → (role : Role) (bound : Bound) (built old : Built) (tokens rest : List Token)
    → Awaits role bound old tokens built rest → (inner : Read) → IsRead (part_bound role bound) built rest inner
    → (read : Read) → closed_by parts role bound inner ≡ Some read → IsRead bound old tokens read
closed_by-sound parts sound tail term (Enclosed span) bound built old tokens rest awaits inner is read same =
    enclosed_by-sound parts tail span bound built old tokens rest awaits inner is _ _ (delimiter_at-is inner.rest) read same
closed_by-sound parts sound tail term (Argument name qualifier span count) bound built old tokens rest awaits inner is read same =
    argument_by-sound parts sound tail name qualifier span count bound built old tokens rest awaits inner is _ _ (delimiter_at-is inner.rest) read same
closed_by-sound parts sound tail term (Item span count) bound built old tokens rest awaits inner is read same =
    item_by-sound parts sound tail span count bound built old tokens rest awaits inner is _ _ (delimiter_at-is inner.rest) read same
closed_by-sound parts sound tail term (ListTail span count) bound built old tokens rest awaits inner is read same =
    list_tail_by-sound parts tail span count bound built old tokens rest awaits inner is _ _ (delimiter_at-is inner.rest) read same
closed_by-sound parts sound tail term (Operand operator span) bound built old tokens rest awaits inner is read same =
    operated_by-sound parts tail operator 1 span bound old tokens (is.term ∷ []) inner refl (is.built_is ∙ ap (pushed is.term) awaits.0) awaits.1
    (subst (λ (s : Span). Spells bound.commas (Application operator.name None (more is.term none) (joined span s)) operator.priority tokens inner.rest)
    (sym is.span_is) (awaits.2 is.term inner.priority inner.rest is.spelled is.within)) read same
closed_by-sound parts sound tail term (FirstOperand operator span) bound built old tokens rest awaits inner is read same =
    first_by-sound parts tail term operator span bound built old tokens rest awaits inner is read same
closed_by-sound parts sound tail term (SecondOperand operator span) bound built old tokens rest awaits inner is read same =
    last_by-sound parts tail operator span bound built old tokens rest awaits inner is read same
closed_by-sound parts sound tail term (RightOperand operator left) bound built old tokens rest awaits inner is read same =
    last_by-sound parts tail operator left bound built old tokens rest awaits inner is read same

filled_by-sound : (parts : Reading) → IsSound parts → IsSoundTail (tail_by parts) → IsSoundTerm (term_by parts) → IsSoundFilled (filled_by parts)
filled_by-sound parts sound tail term role bound built old tokens rest None read awaits is same = cc
filled_by-sound parts sound tail term role bound built old tokens rest (Some inner) read awaits is same =
    closed_by-sound parts sound tail term role bound built old tokens rest awaits inner (is inner refl) read same

-- a term begins

prefix_by-sound : (parts : Reading) → IsSound parts → (operator : Operator) (span : Span) (bound : Bound) (built : Built) (tokens rest : List Token)
    → Begins bound.commas tokens (Prefix operator span) rest → (read : Read) → started_by parts bound built (Prefix operator span) rest ≡ Some read → IsRead bound built tokens read
prefix_by-sound parts sound operator span bound built tokens rest begins read same = go (nat_le operator.priority bound.max) (takes_two operator.fixity) refl refl same
  where
    named : operator.name ≡ begins.0
    named = prefix_name begins.0 operator begins.1.row

    go : (low two : Bool) → nat_le operator.priority bound.max ≡ low → takes_two operator.fixity ≡ two
        → (if low then parts.filled (frame_of (if two then FirstOperand operator span else Operand operator span) bound)
        (parts.term (operand_bound (if two then first_most operator else last_most operator) bound) built rest) else None) ≡ Some read
        → IsRead bound built tokens read
    go false two is_low is_two this = cc
    go true false is_low is_two this =
        sound.filled (Operand operator span) bound built built tokens rest (parts.term (operand_bound (last_most operator) bound) built rest) read (
          refl,
          leb-true operator.priority bound.max is_low,
          λ term priority left spelled within.
              rw (named, begins.2) (spells_before bound.commas begins.0 priority operator term span rest left begins.1 is_two spelled within),
        )
        (λ inner there. sound.term (operand_bound (last_most operator) bound) built rest inner there) this
    go true true is_low is_two this =
        sound.filled (FirstOperand operator span) bound built built tokens rest (parts.term (operand_bound (first_most operator) bound) built rest) read (
          refl,
          leb-true operator.priority bound.max is_low,
          λ first term priority priority' middle left spelled within apart spelled' within'.
              rw (named, begins.2) (quantifier bound.commas begins.0 priority priority' operator first term span rest middle left begins.1 is_two spelled within apart spelled' within'),
        )
        (λ inner there. sound.term (operand_bound (first_most operator) bound) built rest inner there) this

started_by-sound : (parts : Reading) → IsSound parts → (bound : Bound) (built : Built) (tokens : List Token) (start : Start) (rest : List Token)
    → Begins bound.commas tokens start rest → (read : Read) → started_by parts bound built start rest ≡ Some read → IsRead bound built tokens read
started_by-sound parts sound bound built tokens (VariableStart name span) rest begins read same =
    sound.tail bound _ built span 0 tokens rest (Variable name span) read begins (omega arith) (pushed_variable name span built) refl same
started_by-sound parts sound bound built tokens (IntegerStart true magnitude span) rest begins read same =
    sound.tail bound _ built span 0 tokens rest _ read begins (omega arith) (pushed_negative magnitude span built) refl same
started_by-sound parts sound bound built tokens (IntegerStart false magnitude span) rest begins read same =
    sound.tail bound _ built span 0 tokens rest _ read begins (omega arith) (pushed_integer magnitude span built) refl same
started_by-sound parts sound bound built tokens (TextStart name span) rest begins read same =
    sound.tail bound _ built span 0 tokens rest (Text name span) read begins (omega arith) (pushed_text name span built) refl same
started_by-sound parts sound bound built tokens (Constant name qualifier span) rest begins read same =
    sound.tail bound _ built span 0 tokens rest (Application name qualifier none span) read begins (omega arith) (pushed_constant name qualifier span built) refl same
started_by-sound parts sound bound built tokens (ApplicationStart name qualifier span) rest begins read same =
    sound.filled (Argument name qualifier span 1) bound built built tokens rest (parts.term argument_bound built rest) read
    ([], refl, refl, begins) (λ inner there. sound.term argument_bound built rest inner there) same
started_by-sound parts sound bound built tokens (ListStart span) rest begins read same =
    sound.filled (Item span 1) bound built built tokens rest (parts.term argument_bound built rest) read
    ([], refl, refl, begins) (λ inner there. sound.term argument_bound built rest inner there) same
started_by-sound parts sound bound built tokens (Parenthesis span) rest begins read same =
    sound.filled (Enclosed span) bound built built tokens rest (parts.term whole_bound built rest) read
    (refl, begins) (λ inner there. sound.term whole_bound built rest inner there) same
started_by-sound parts sound bound built tokens (Prefix operator span) rest begins read same =
    prefix_by-sound parts sound operator span bound built tokens rest begins read same

begun_by-sound : (parts : Reading) → IsSound parts → (bound : Bound) (built : Built) (tokens : List Token) (started : Started)
    → WhereBegun bound.commas tokens started → (read : Read) → begun_by parts bound built started ≡ Some read → IsRead bound built tokens read
begun_by-sound parts sound bound built tokens None begins read same = cc
begun_by-sound parts sound bound built tokens (Some started) begins read same =
    started_by-sound parts sound bound built tokens started.0 started.1 begins read same

term_by-sound : (parts : Reading) → IsSound parts → IsSoundTerm (term_by parts)
term_by-sound parts sound bound built tokens read same =
    begun_by-sound parts sound bound built tokens (start_at tokens) (start_at-begins bound.commas tokens) read same

reading-sound : (n : ℕ) → IsSound (reading n)
unfolding reading
reading-sound zero = record {
  term = λ bound built tokens read same. cc;
  tail = λ bound built old span priority tokens rest term read spelled within built_is span_is same. cc;
  filled = λ role bound built old tokens rest part read awaits is same. cc;
}
reading-sound (suc n) =
    let sound = reading-sound n in
    record {
      term = term_by-sound (reading n) sound;
      tail = tail_by-sound (reading n) sound;
      filled = filled_by-sound (reading n) sound (tail_by-sound (reading n) sound) (term_by-sound (reading n) sound);
    }

-- with any bound on the steps, what is read is spelled
pub term-sound : (n : ℕ) → IsSoundTerm (reading n).term
term-sound n = (reading-sound n).term

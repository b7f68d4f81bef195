-- What is spelled is read.
use Rattle.std.proofs.Common.{◌≡◌, ℕ, suc, ◌+◌, ◌<◌, ◌≤◌, Bool, true, false, ◌&&◌, ◌==◌, pos, neg_ℤ, List, [], ◌∷◌, length, nat_le, Option, Some, None, is_some, refl, sym, ap, subst, ◌∙◌, arith, le-leb, add-one}
use Rattle.std.specs.Bool.{if◌then◌else◌}
use Rattle.std.proofs.lemmas.Option.{same_Some}
use Rattle.merc_base.specs.declared.place.Span.{Span}
use Rattle.merc_base.specs.Names.{comma_name, comma_name, minus_name, nil_name}
use Rattle.merc_tokens.specs.declared.token.Token.{Token}
use Rattle.merc_tokens.specs.declared.token.TokenKind.{TokenKind}
use Rattle.merc_tokens.specs.declared.token.TokenKind.TheVariants.{Name, Quoted, Var, Int, Text as TextToken, OpenArgs, Open, Close, OpenList, CloseList, Comma, Bar, Dot, Stop}
use Rattle.merc_tree.specs.Term.{Term, Terms, Variable, Integer, Text, Application, none, more, span_of, with_span}
use Rattle.merc_terms.specs.declared.frame.Bound.{Bound}
use Rattle.merc_terms.specs.declared.frame.Role.TheVariants.{Enclosed, Argument, Item, ListTail, Operand, FirstOperand, RightOperand}
use Rattle.merc_terms.specs.declared.frame.Frame.{Frame}
use Rattle.merc_terms.specs.declared.operators.Operator.{Operator}
use Rattle.merc_terms.specs.declared.starting.Start.{Start}
use Rattle.merc_terms.specs.declared.starting.Start.TheVariants.{Variable as VariableStart, Integer as IntegerStart, Text as TextStart, Constant, Application as ApplicationStart, List as ListStart, Parenthesis, Prefix}
use Rattle.merc_terms.specs.Operators.{infix_named, prefix_named, first_most, last_most, takes_two, term_most, argument_most}
use Rattle.merc_terms.specs.Reading.{token, joined, begins_with, is_integer, goes_on_name, is_infix_name, leaves_plain, is_left_plain, is_sign, IsName, plain, left_plain, quoted, IsQualified, unquoted, quoted as quoted_behind, IsOpen, alone, behind_operator, IsPrefix, IsInfix, name as infix_name, comma as infix_comma, Spells, variable, integer, negative, text, constant, qualified, application, qualified_application, empty_list, list, parenthesis, before as spells_before, quantifier, between, SpellsArguments, last_argument, argument, SpellsItems, last_item, items_tail, item, cell, nil}
use Rattle.merc_terms.specs.Starting.{named_at, named_before, qualified_start, is_mark, plain_start, operator_start, is_list_end, list_start, start_with, start_at}
use Rattle.merc_terms.specs.declared.built.Built.{Built}
use Rattle.merc_terms.specs.Reader.{Read, pushed, with_application, with_cells, with_list, with_enclosed, whole_bound, argument_bound, operand_bound, frame_of, fitting, infix_at, started_by, begun_by, going_by, tail_by, second_by, closed_by}
use Rattle.merc_terms.proofs.Building.{pushed_variable, pushed_text, pushed_constant, pushed_integer, pushed_negative, pushed_back, behind, pushed_application, cells, pushed_cells, pushed_list, pushed_enclosed, span_of-with_span}
use Rattle.merc_terms.proofs.Table.{IsApart, infix_apart, prefix_apart, prefix_name, comma_row, minus_prefix, first_most_below, first_most_least, last_most_below, most_apart, first_most_two}
use Rattle.merc_terms.proofs.Sound.{WhereInfix, infix_at-is}
use Rattle.merc_terms.proofs.Settled.{settled, settled_term, settled_tail, settled_filled, settled_term-by, settled_tail-by, settled_filled-by}

if_true : {A : Type 0} (b : Bool) (x y : A) → b ≡ true → (if b then x else y) ≡ x
if_true true x y is = refl
if_true false x y is = cc

if_false : {A : Type 0} (b : Bool) (x y : A) → b ≡ false → (if b then x else y) ≡ y
if_false true x y is = cc
if_false false x y is = refl

-- the starts of the terms that are spelled

named_at-constant : (name : ℕ) (qualifier : Option ℕ) (span : Span) (kind : TokenKind) (first : Token) (rest : List Token) → goes_on_name kind ≡ false
    → named_at name qualifier span kind first rest ≡ Some (Constant name qualifier span, first ∷ rest)
named_at-constant name qualifier span OpenArgs first rest ends = cc
named_at-constant name qualifier span Dot first rest ends = cc
named_at-constant name qualifier span kind first rest ends = refl

named_before-constant : (name : ℕ) (qualifier : Option ℕ) (span : Span) (rest : List Token) → begins_with goes_on_name rest ≡ false
    → named_before name qualifier span rest ≡ Some (Constant name qualifier span, rest)
named_before-constant name qualifier span [] ends = refl
named_before-constant name qualifier span (first ∷ rest) ends = named_at-constant name qualifier span first.kind first rest ends

is_mark-goes_on : (kind : TokenKind) → goes_on_name kind ≡ false → is_mark kind ≡ false
is_mark-goes_on Dot ends = cc
is_mark-goes_on OpenArgs ends = refl
is_mark-goes_on kind ends = refl

plain_start-constant : (name : ℕ) (span : Span) (rest : List Token) → begins_with goes_on_name rest ≡ false → plain_start name span rest ≡ Some (Constant name None span, rest)
plain_start-constant name span [] ends = refl
plain_start-constant name span (first ∷ rest) ends =
    if_false (is_mark first.kind) (qualified_start name span rest) (named_before name None span (first ∷ rest)) (is_mark-goes_on first.kind ends)
    ∙ named_before-constant name None span (first ∷ rest) ends

plain_start-qualified : (kind : TokenKind) (qualifier name : ℕ) (span mark last : Span) (rest : List Token) → IsQualified kind name
    → plain_start qualifier span (token Dot mark ∷ token kind last ∷ rest) ≡ named_before name (Some qualifier) (joined span last) rest
plain_start-qualified kind qualifier name span mark last rest (unquoted _) = refl
plain_start-qualified kind qualifier name span mark last rest (quoted_behind _) = refl

not_sign : (name : ℕ) (rest : List Token) → is_left_plain rest ≡ true → is_sign name rest ≡ false
not_sign name [] left = and_false (name == minus_name)
  where
    and_false : (b : Bool) → (b && false) ≡ false
    and_false true = refl
    and_false false = refl
not_sign name (first ∷ rest) left = by first.kind (name == minus_name) left
  where
    by : (kind : TokenKind) (b : Bool) → leaves_plain kind ≡ true → (b && is_integer kind) ≡ false
    by (Int value) b left = cc
    by kind true left = refl
    by kind false left = refl

operator_start-left : (found : Option Operator) (name : ℕ) (span : Span) (rest : List Token) → is_left_plain rest ≡ true
    → operator_start found name span rest ≡ plain_start name span rest
operator_start-left None name span rest left = refl
operator_start-left (Some operator) name span rest left = if_true (is_left_plain rest) _ _ left

start_with-name : (kind : TokenKind) (name : ℕ) (span : Span) (rest : List Token) → IsName kind name rest → start_with kind span rest ≡ plain_start name span rest
start_with-name kind name span rest (plain _ _ row) =
    if_false (is_sign name rest) _ _ (ap (λ (b : Bool). b && begins_with is_integer rest) (minus_prefix name row))
    ∙ ap (λ (found : Option Operator). operator_start found name span rest) row
start_with-name kind name span rest (left_plain _ _ left) =
    if_false (is_sign name rest) _ _ (not_sign name rest left) ∙ operator_start-left (prefix_named name) name span rest left
start_with-name kind name span rest (quoted _ _) = refl

start_with-prefix : (name : ℕ) (operator : Operator) (span : Span) (rest : List Token) → IsPrefix name operator rest
    → start_with (Name name) span rest ≡ Some (Prefix operator span, rest)
start_with-prefix name operator span rest prefix =
    if_false (is_sign name rest) _ _ prefix.no_sign ∙ ap (λ (found : Option Operator). operator_start found name span rest) prefix.row
    ∙ if_false (is_left_plain rest) _ _ prefix.not_plain

start_with-open : (kind : TokenKind) (span : Span) (rest : List Token) → IsOpen kind → start_with kind span rest ≡ Some (Parenthesis span, rest)
start_with-open kind span rest alone = refl
start_with-open kind span rest behind_operator = refl

-- infix operators

IsInfix-unique : (commas : Bool) (kind : TokenKind) (one other : Operator) → IsInfix commas kind one → IsInfix commas kind other → one ≡ other
IsInfix-unique commas kind one other (infix_name _ name _ found) (infix_name _ _ _ found') = same_Some one other (sym found ∙ found')
IsInfix-unique commas kind one other (infix_comma _ found) (infix_comma _ found') = same_Some one other (sym found ∙ found')

IsInfix-apart : (commas : Bool) (kind : TokenKind) (operator : Operator) → IsInfix commas kind operator → IsApart operator
IsInfix-apart commas kind operator (infix_name _ name _ found) = infix_apart name operator found
IsInfix-apart commas kind operator (infix_comma _ found) = infix_apart comma_name operator found

fitting-found : (bound : Bound) (priority : ℕ) (operator : Operator) (rest : List Token) (found : Option Operator) → found ≡ Some operator
    → operator.priority ≤ bound.max → priority ≤ first_most operator → fitting bound priority found rest ≡ Some (operator, rest)
fitting-found bound priority operator rest found is low high =
    ap (λ (f : Option Operator). fitting bound priority f rest) is
    ∙ if_true (nat_le operator.priority bound.max && nat_le priority (first_most operator)) _ _
    (ap (λ (b : Bool). b && nat_le priority (first_most operator)) (le-leb operator.priority bound.max low) ∙ le-leb priority (first_most operator) high)

infix_at-found : (commas : Bool) (kind : TokenKind) (operator : Operator) → IsInfix commas kind operator → (bound : Bound) (priority : ℕ) (mark : Span) (rest : List Token)
    → bound.commas ≡ commas → operator.priority ≤ bound.max → priority ≤ first_most operator → infix_at bound priority (token kind mark ∷ rest) ≡ Some (operator, rest)
infix_at-found commas kind operator (infix_name _ name _ found) bound priority mark rest same low high = fitting-found bound priority operator rest (infix_named name) found low high
infix_at-found commas kind operator (infix_comma _ found) bound priority mark rest same low high =
    if_true bound.commas _ _ same ∙ fitting-found bound priority operator rest (infix_named comma_name) found low high

-- a term of this priority may stand before each infix operator that these tokens begin with
abbrev Follows : Bool → ℕ → List Token → Type 0
Follows commas priority rest =
    (kind : TokenKind) (operator : Operator) (mark : Span) (after : List Token) → rest ≡ token kind mark ∷ after → IsInfix commas kind operator → priority ≤ first_most operator

-- no infix operator that these tokens begin with is within the bound
abbrev Ends : Bound → List Token → Type 0
Ends bound rest =
    (kind : TokenKind) (operator : Operator) (mark : Span) (after : List Token) → rest ≡ token kind mark ∷ after → IsInfix bound.commas kind operator → bound.max < operator.priority

infix_at-none : (bound : Bound) (priority : ℕ) (rest : List Token) → Ends bound rest → infix_at bound priority rest ≡ None
infix_at-none bound priority rest ends = go (infix_at bound priority rest) refl (infix_at-is bound priority rest)
  where
    go : (found : Option (Operator × List Token)) → infix_at bound priority rest ≡ found → WhereInfix bound priority rest found → infix_at bound priority rest ≡ None
    go None is at = is
    go (Some found) is at = let above = ends at.0 found.0 at.1 found.1 at.2 at.3 in absurd (omega (arith, above, at.4))

abbrev pub read_of : Term → Built → ℕ → List Token → Read
read_of term built priority rest = record { built = pushed term built; span = span_of term; priority = priority; rest = rest }

tail-ends : (bound : Bound) (built : Built) (span : Span) (priority : ℕ) (rest : List Token) → Ends bound rest
    → settled_tail bound built span priority rest ≡ Some (record { built = built; span = span; priority = priority; rest = rest })
tail-ends bound built span priority rest ends =
    settled_tail-by bound built span priority rest ∙ ap (going_by settled bound built span priority rest) (infix_at-none bound priority rest ends)

-- reading the tokens goes on behind the term
abbrev Leads : Bool → Term → ℕ → List Token → List Token → Type 0
Leads commas term priority tokens rest =
    (bound : Bound) (built : Built) → bound.commas ≡ commas → priority ≤ bound.max → Follows commas priority rest
    → settled_term bound built tokens ≡ settled_tail bound (pushed term built) (span_of term) priority rest

-- as a part that ends there, the term is read
part-read : (commas : Bool) (term : Term) (priority : ℕ) (tokens rest : List Token) → Leads commas term priority tokens rest → (bound : Bound) (built : Built)
    → bound.commas ≡ commas → priority ≤ bound.max → Follows commas priority rest → Ends bound rest → settled_term bound built tokens ≡ Some (read_of term built priority rest)
part-read commas term priority tokens rest leads bound built same within follows ends =
    leads bound built same within follows ∙ tail-ends bound (pushed term built) (span_of term) priority rest ends

-- whether an infix operator may have this token
abbrev pub may_go_on : Bool → TokenKind → Bool
may_go_on commas (Name name) = true
may_go_on commas Comma = commas
may_go_on commas (Quoted name) = false
may_go_on commas (Var name) = false
may_go_on commas (Int value) = false
may_go_on commas (TextToken name) = false
may_go_on commas OpenArgs = false
may_go_on commas Open = false
may_go_on commas Close = false
may_go_on commas OpenList = false
may_go_on commas CloseList = false
may_go_on commas Bar = false
may_go_on commas Dot = false
may_go_on commas Stop = false

goes_on : (commas : Bool) (kind : TokenKind) (operator : Operator) → IsInfix commas kind operator → may_go_on commas kind ≡ true
goes_on commas kind operator (infix_name _ name _ found) = refl
goes_on commas kind operator (infix_comma _ found) = refl

closed-infix : (commas : Bool) (rest : List Token) → begins_with (may_go_on commas) rest ≡ false
    → (kind : TokenKind) (operator : Operator) (mark : Span) (after : List Token) → rest ≡ token kind mark ∷ after → IsInfix commas kind operator → ⊥
closed-infix commas rest closed kind operator mark after is going =
    let true_is = sym (goes_on commas kind operator going) ∙ sym (ap (begins_with (may_go_on commas)) is) ∙ closed in cc true_is

-- the same where no infix operator may stand behind it
closed-read : (commas : Bool) (term : Term) (priority : ℕ) (tokens rest : List Token) → Leads commas term priority tokens rest → (bound : Bound) (built : Built)
    → bound.commas ≡ commas → priority ≤ bound.max → begins_with (may_go_on commas) rest ≡ false → settled_term bound built tokens ≡ Some (read_of term built priority rest)
closed-read commas term priority tokens rest leads bound built same within closed =
    part-read commas term priority tokens rest leads bound built same within (λ kind operator mark after is going. absurd (closed-infix commas rest closed kind operator mark after is going))
    (λ kind operator mark after is going. absurd (closed-infix commas rest closed kind operator mark after is (subst (λ (b : Bool). IsInfix b kind operator) same going)))

-- what a term is read from that begins with this start

begun : (bound : Bound) (built : Built) (tokens : List Token) (start : Start) (rest : List Token) → start_at tokens ≡ Some (start, rest)
    → settled_term bound built tokens ≡ started_by settled bound built start rest
begun bound built tokens start rest is = settled_term-by bound built tokens ∙ ap (begun_by settled bound built) is

-- a term of one part
leaf-leads : (commas : Bool) (term : Term) (tokens rest : List Token) (start : Start) → start_at tokens ≡ Some (start, rest)
    → ((bound : Bound) (built : Built) → started_by settled bound built start rest ≡ settled_tail bound (pushed term built) (span_of term) 0 rest)
    → Leads commas term 0 tokens rest
leaf-leads commas term tokens rest start is go bound built same within follows = begun bound built tokens start rest is ∙ go bound built

constant-goes : (name : ℕ) (qualifier : Option ℕ) (span : Span) (rest : List Token) (bound : Bound) (built : Built)
    → started_by settled bound built (Constant name qualifier span) rest ≡ settled_tail bound (pushed (Application name qualifier none span) built) span 0 rest
constant-goes name qualifier span rest bound built = ap (λ (b : Built). settled_tail bound b span 0 rest) (pushed_constant name qualifier span built)

-- an open term with its part read
filled-part : (frame : Frame) (part : Option Read) (read : Read) → part ≡ Some read → settled_filled frame part ≡ closed_by settled frame.role frame.bound read
filled-part frame part read is = ap (settled_filled frame) is ∙ settled_filled-by frame read

-- what goes on behind what was built
tail-built : (bound : Bound) (built other : Built) (span : Span) (priority : ℕ) (rest : List Token) → built ≡ other
    → tail_by settled bound built span priority rest ≡ settled_tail bound other span priority rest
tail-built bound built other span priority rest is =
    sym (settled_tail-by bound built span priority rest) ∙ ap (λ (b : Built). settled_tail bound b span priority rest) is

parenthesis-leads : (commas : Bool) (kind : TokenKind) (term : Term) (priority : ℕ) (open' close : Span) (inner rest : List Token) → IsOpen kind
    → Leads true term priority inner (token Close close ∷ rest) → priority ≤ term_most → Leads commas (with_span (joined open' close) term) 0 (token kind open' ∷ inner) rest
parenthesis-leads commas kind term priority open' close inner rest opens leads low bound built same within follows =
    let s = joined open' close in
    begun bound built (token kind open' ∷ inner) (Parenthesis open') inner (start_with-open kind open' inner opens)
    ∙ filled-part (frame_of (Enclosed open') bound) (settled_term whole_bound built inner) (read_of term built priority (token Close close ∷ rest))
    (closed-read true term priority inner (token Close close ∷ rest) leads whole_bound built refl low refl)
    ∙ tail-built bound (with_enclosed s (pushed term built)) (pushed (with_span s term) built) s 0 rest (pushed_enclosed s term built)
    ∙ ap (λ (at : Span). settled_tail bound (pushed (with_span s term) built) at 0 rest) (sym (span_of-with_span s term))

-- arguments

abbrev LeadsArguments : Terms → Span → List Token → List Token → Type 0
LeadsArguments terms close tokens rest =
    (name : ℕ) (qualifier : Option ℕ) (span : Span) (count : ℕ) (bound : Bound) (built : Built) (before : List Term) → count ≡ suc (length before)
    → settled_filled (frame_of (Argument name qualifier span count) bound) (settled_term argument_bound (pushed_back before built) tokens)
    ≡ settled_tail bound (pushed (Application name qualifier (behind before terms) (joined span close)) built) (joined span close) 0 rest

last_argument-leads : (term : Term) (priority : ℕ) (close : Span) (tokens rest : List Token) → Leads false term priority tokens (token Close close ∷ rest) → priority ≤ argument_most
    → LeadsArguments (more term none) close tokens rest
last_argument-leads term priority close tokens rest leads low name qualifier span count bound built before is =
    filled-part (frame_of (Argument name qualifier span count) bound) (settled_term argument_bound (pushed_back before built) tokens)
    (read_of term (pushed_back before built) priority (token Close close ∷ rest))
    (closed-read false term priority tokens (token Close close ∷ rest) leads argument_bound (pushed_back before built) refl low refl)
    ∙ tail-built bound _ _ (joined span close) 0 rest (pushed_application name qualifier count (joined span close) (term ∷ before) built is)

argument-leads : (term : Term) (terms : Terms) (priority : ℕ) (mark close : Span) (tokens middle rest : List Token) → Leads false term priority tokens (token Comma mark ∷ middle)
    → priority ≤ argument_most → LeadsArguments terms close middle rest → LeadsArguments (more term terms) close tokens rest
argument-leads term terms priority mark close tokens middle rest leads low others name qualifier span count bound built before is =
    filled-part (frame_of (Argument name qualifier span count) bound) (settled_term argument_bound (pushed_back before built) tokens)
    (read_of term (pushed_back before built) priority (token Comma mark ∷ middle))
    (closed-read false term priority tokens (token Comma mark ∷ middle) leads argument_bound (pushed_back before built) refl low refl)
    ∙ others name qualifier span (count + 1) bound built (term ∷ before) (add-one count ∙ ap suc is)

-- list items

abbrev LeadsItems : Span → Term → Span → List Token → List Token → Type 0
LeadsItems whole term close tokens rest =
    (span : Span) (count : ℕ) (bound : Bound) (built : Built) (before : List Term) → whole ≡ joined span close → count ≡ suc (length before)
    → settled_filled (frame_of (Item span count) bound) (settled_term argument_bound (pushed_back before built) tokens)
    ≡ settled_tail bound (pushed (cells whole before term) built) whole 0 rest

last_item-leads : (whole : Span) (term : Term) (priority : ℕ) (close : Span) (tokens rest : List Token) → Leads false term priority tokens (token CloseList close ∷ rest)
    → priority ≤ argument_most → LeadsItems whole (cell whole term (nil whole)) close tokens rest
last_item-leads whole term priority close tokens rest leads low span count bound built before at is =
    filled-part (frame_of (Item span count) bound) (settled_term argument_bound (pushed_back before built) tokens)
    (read_of term (pushed_back before built) priority (token CloseList close ∷ rest))
    (closed-read false term priority tokens (token CloseList close ∷ rest) leads argument_bound (pushed_back before built) refl low refl)
    ∙ ap (λ (s : Span). tail_by settled bound (with_list count s (pushed_back (term ∷ before) built)) s 0 rest) (sym at)
    ∙ tail-built bound (with_list count whole (pushed_back (term ∷ before) built)) (pushed (cells whole (term ∷ before) (nil whole)) built) whole 0 rest
    (ap (λ (n : ℕ). with_list n whole (pushed_back (term ∷ before) built)) is ∙ pushed_list whole (term ∷ before) built)

item-leads : (whole : Span) (term others : Term) (priority : ℕ) (mark close : Span) (tokens middle rest : List Token) → Leads false term priority tokens (token Comma mark ∷ middle)
    → priority ≤ argument_most → LeadsItems whole others close middle rest → LeadsItems whole (cell whole term others) close tokens rest
item-leads whole term others priority mark close tokens middle rest leads low behind' span count bound built before at is =
    filled-part (frame_of (Item span count) bound) (settled_term argument_bound (pushed_back before built) tokens)
    (read_of term (pushed_back before built) priority (token Comma mark ∷ middle))
    (closed-read false term priority tokens (token Comma mark ∷ middle) leads argument_bound (pushed_back before built) refl low refl)
    ∙ behind' span (count + 1) bound built (term ∷ before) at (add-one count ∙ ap suc is)

items_tail-leads : (whole : Span) (term end : Term) (priority priority' : ℕ) (mark close : Span) (tokens middle rest : List Token)
    → Leads false term priority tokens (token Bar mark ∷ middle) → priority ≤ argument_most → Leads false end priority' middle (token CloseList close ∷ rest) → priority' ≤ argument_most
    → LeadsItems whole (cell whole term end) close tokens rest
items_tail-leads whole term end priority priority' mark close tokens middle rest leads low leads' low' span count bound built before at is =
    filled-part (frame_of (Item span count) bound) (settled_term argument_bound (pushed_back before built) tokens)
    (read_of term (pushed_back before built) priority (token Bar mark ∷ middle))
    (closed-read false term priority tokens (token Bar mark ∷ middle) leads argument_bound (pushed_back before built) refl low refl)
    ∙ filled-part (frame_of (ListTail span count) bound) (settled_term argument_bound (pushed_back (term ∷ before) built) middle)
    (read_of end (pushed_back (term ∷ before) built) priority' (token CloseList close ∷ rest))
    (closed-read false end priority' middle (token CloseList close ∷ rest) leads' argument_bound (pushed_back (term ∷ before) built) refl low' refl)
    ∙ ap (λ (s : Span). tail_by settled bound (with_cells count s (pushed end (pushed_back (term ∷ before) built))) s 0 rest) (sym at)
    ∙ tail-built bound (with_cells count whole (pushed end (pushed_back (term ∷ before) built))) (pushed (cells whole (term ∷ before) end) built) whole 0 rest
    (ap (λ (n : ℕ). with_cells n whole (pushed end (pushed_back (term ∷ before) built))) is ∙ pushed_cells whole (term ∷ before) end built)

items-span : (whole : Span) (term : Term) (close : Span) (tokens rest : List Token) → SpellsItems whole term close tokens rest → whole ≡ span_of term
items-span whole term close tokens rest (last_item _ _ _ _ _ _ _ _) = refl
items-span whole term close tokens rest (items_tail _ _ _ _ _ _ _ _ _ _ _ _ _ _) = refl
items-span whole term close tokens rest (item _ _ _ _ _ _ _ _ _ _ _ _) = refl

-- no list item begins with a closing bracket

named-begins : (kind : TokenKind) (name : ℕ) (rest : List Token) → IsName kind name rest → is_list_end kind ≡ false
named-begins kind name rest (plain _ _ _) = refl
named-begins kind name rest (left_plain _ _ _) = refl
named-begins kind name rest (quoted _ _) = refl

Spells-begins : {commas : Bool} {term : Term} {priority : ℕ} {tokens rest : List Token} → Spells commas term priority tokens rest → begins_with is_list_end tokens ≡ false
Spells-begins (variable commas name span rest) = refl
Spells-begins (integer commas value span rest) = refl
Spells-begins (negative commas value sign span rest) = refl
Spells-begins (text commas name span rest) = refl
Spells-begins (constant commas kind name span rest named ends) = named-begins kind name rest named
Spells-begins (qualified commas kind kind' qualifier name span mark span' rest named behind' ends) = named-begins kind qualifier _ named
Spells-begins (application commas kind name arguments span open' close inner rest named inside) = named-begins kind name _ named
Spells-begins (qualified_application commas kind kind' qualifier name arguments span mark span' open' close inner rest named behind' inside) = named-begins kind qualifier _ named
Spells-begins (empty_list commas open' close rest) = refl
Spells-begins (list commas term open' close inner rest inside) = refl
Spells-begins (parenthesis commas kind term priority open' close inner rest alone inside within) = refl
Spells-begins (parenthesis commas kind term priority open' close inner rest behind_operator inside within) = refl
Spells-begins (spells_before commas name priority operator operand span inner rest prefix one inside within) = refl
Spells-begins (quantifier commas name priority priority' operator variables goal span inner middle rest prefix two first within apart second within') = refl
Spells-begins (between commas kind priority priority' operator left right span [] middle rest first going within second within') = refl
Spells-begins (between commas kind priority priority' operator left right span (next ∷ tokens) middle rest first going within second within') = Spells-begins first

items-begin : {whole close : Span} {term : Term} {tokens rest : List Token} → SpellsItems whole term close tokens rest → begins_with is_list_end tokens ≡ false
items-begin (last_item whole term priority close tokens rest inside within) = Spells-begins inside
items-begin (items_tail whole term end priority priority' bar close tokens middle rest first within second within') = Spells-begins first
items-begin (item whole term others priority mark close tokens middle rest first within others') = Spells-begins first

list_start-items : (span : Span) (rest : List Token) → begins_with is_list_end rest ≡ false → list_start span rest ≡ Some (ListStart span, rest)
list_start-items span [] begins = refl
list_start-items span (first ∷ rest) begins = if_false (is_list_end first.kind) _ _ begins

list-leads : (commas : Bool) (term : Term) (open' close : Span) (inner rest : List Token) → SpellsItems (joined open' close) term close inner rest
    → LeadsItems (joined open' close) term close inner rest → Leads commas term 0 (token OpenList open' ∷ inner) rest
list-leads commas term open' close inner rest spelled leads bound built same within follows =
    begun bound built (token OpenList open' ∷ inner) (ListStart open') inner (list_start-items open' inner (items-begin spelled))
    ∙ leads open' 1 bound built [] refl refl
    ∙ ap (λ (s : Span). settled_tail bound (pushed term built) s 0 rest) (items-span (joined open' close) term close inner rest spelled)

application-leads : (commas : Bool) (kind : TokenKind) (name : ℕ) (terms : Terms) (span open' close : Span) (inner rest : List Token) → IsName kind name (token OpenArgs open' ∷ inner)
    → LeadsArguments terms close inner rest → Leads commas (Application name None terms (joined span close)) 0 (token kind span ∷ token OpenArgs open' ∷ inner) rest
application-leads commas kind name terms span open' close inner rest named leads bound built same within follows =
    begun bound built (token kind span ∷ token OpenArgs open' ∷ inner) (ApplicationStart name None span) inner (start_with-name kind name span (token OpenArgs open' ∷ inner) named)
    ∙ leads name None span 1 bound built [] refl

qualified_application-leads : (commas : Bool) (kind kind' : TokenKind) (qualifier name : ℕ) (terms : Terms) (span mark span' open' close : Span) (inner rest : List Token)
    → IsName kind qualifier (token Dot mark ∷ token kind' span' ∷ token OpenArgs open' ∷ inner) → IsQualified kind' name → LeadsArguments terms close inner rest
    → Leads commas (Application name (Some qualifier) terms (joined span close)) 0 (token kind span ∷ token Dot mark ∷ token kind' span' ∷ token OpenArgs open' ∷ inner) rest
qualified_application-leads commas kind kind' qualifier name terms span mark span' open' close inner rest named behind' leads bound built same within follows =
    begun bound built (token kind span ∷ token Dot mark ∷ token kind' span' ∷ token OpenArgs open' ∷ inner) (ApplicationStart name (Some qualifier) (joined span span')) inner
    (start_with-name kind qualifier span (token Dot mark ∷ token kind' span' ∷ token OpenArgs open' ∷ inner) named
    ∙ plain_start-qualified kind' qualifier name span mark span' (token OpenArgs open' ∷ inner) behind')
    ∙ leads name (Some qualifier) (joined span span') 1 bound built [] refl

-- operators

-- what follows an operator follows its last operand, and ends it

last-follows : (commas : Bool) (operator : Operator) (priority : ℕ) (rest : List Token) → priority ≤ last_most operator → Follows commas operator.priority rest → Follows commas priority rest
last-follows commas operator priority rest low follows kind other mark after is going =
    let follow = follows kind other mark after is going in let below = last_most_below operator in omega arith

last-ends : (commas : Bool) (operator : Operator) (bound : Bound) (rest : List Token) → IsApart operator → bound.commas ≡ commas → Follows commas operator.priority rest
    → Ends (operand_bound (last_most operator) bound) rest
last-ends commas operator bound rest apart same follows kind other mark after is going =
    let going' = subst (λ (b : Bool). IsInfix b kind other) same going in
    most_apart operator other apart (IsInfix-apart commas kind other going') (follows kind other mark after is going')

last-read : (commas : Bool) (operator : Operator) (term : Term) (priority : ℕ) (tokens rest : List Token) → IsApart operator → Leads commas term priority tokens rest
    → priority ≤ last_most operator → (bound : Bound) (built : Built) → bound.commas ≡ commas → Follows commas operator.priority rest
    → settled_term (operand_bound (last_most operator) bound) built tokens ≡ Some (read_of term built priority rest)
last-read commas operator term priority tokens rest apart leads low bound built same follows =
    part-read commas term priority tokens rest leads (operand_bound (last_most operator) bound) built same low
    (last-follows commas operator priority rest low follows) (last-ends commas operator bound rest apart same follows)

-- behind the first operand of two no infix operator's name stands, so it is the comma

is_comma : (commas : Bool) (kind : TokenKind) (operator : Operator) → is_infix_name kind ≡ false → IsInfix commas kind operator → operator.priority ≡ 1000
is_comma commas kind operator apart (infix_name _ name _ found) = let named : true ≡ false = sym (ap is_some found) ∙ apart in cc
is_comma commas kind operator apart (infix_comma _ found) = comma_row operator found

comma-behind : (commas : Bool) (middle : List Token) → begins_with is_infix_name middle ≡ false → (kind : TokenKind) (operator : Operator) (mark : Span) (after : List Token)
    → middle ≡ token kind mark ∷ after → IsInfix commas kind operator → operator.priority ≡ 1000
comma-behind commas middle apart kind operator mark after is going = is_comma commas kind operator (sym (ap (begins_with is_infix_name) is) ∙ apart) going

first-read : (commas : Bool) (operator : Operator) (term : Term) (priority : ℕ) (tokens middle : List Token) → IsApart operator → takes_two operator.fixity ≡ true
    → Leads commas term priority tokens middle → priority ≤ first_most operator → begins_with is_infix_name middle ≡ false → (bound : Bound) (built : Built) → bound.commas ≡ commas
    → settled_term (operand_bound (first_most operator) bound) built tokens ≡ Some (read_of term built priority middle)
first-read commas operator term priority tokens middle apart two leads low none' bound built same =
    part-read commas term priority tokens middle leads (operand_bound (first_most operator) bound) built same low
    (λ kind other mark after is going.
    let at = comma-behind commas middle none' kind other mark after is going in
    let most = first_most_two operator apart two in let least = first_most_least other in omega arith)
    (λ kind other mark after is going.
    let at = comma-behind bound.commas middle none' kind other mark after is going in let most = first_most_two operator apart two in omega arith)

abbrev prefix_goes : (bound : Bound) (built : Built) (operator : Operator) (span : Span) (inner : List Token) → Bool → Option Read
prefix_goes bound built operator span inner two =
    settled_filled (frame_of (if two then FirstOperand operator span else Operand operator span) bound)
    (settled_term (operand_bound (if two then first_most operator else last_most operator) bound) built inner)

prefix-begun : (name : ℕ) (operator : Operator) (span : Span) (inner : List Token) (bound : Bound) (built : Built) (two : Bool) → IsPrefix name operator inner
    → operator.priority ≤ bound.max → takes_two operator.fixity ≡ two
    → settled_term bound built (token (Name name) span ∷ inner) ≡ prefix_goes bound built operator span inner two
prefix-begun name operator span inner bound built two prefix within is =
    begun bound built (token (Name name) span ∷ inner) (Prefix operator span) inner (start_with-prefix name operator span inner prefix)
    ∙ if_true (nat_le operator.priority bound.max) _ _ (le-leb operator.priority bound.max within)
    ∙ ap (prefix_goes bound built operator span inner) is

before-leads : (commas : Bool) (name priority : ℕ) (operator : Operator) (operand : Term) (span : Span) (inner rest : List Token) → IsPrefix name operator inner
    → takes_two operator.fixity ≡ false → Leads commas operand priority inner rest → priority ≤ last_most operator
    → Leads commas (Application name None (more operand none) (joined span (span_of operand))) operator.priority (token (Name name) span ∷ inner) rest
before-leads commas name priority operator operand span inner rest prefix one leads low bound built same within follows =
    let s = joined span (span_of operand) in
    prefix-begun name operator span inner bound built false prefix within one
    ∙ filled-part (frame_of (Operand operator span) bound) (settled_term (operand_bound (last_most operator) bound) built inner) (read_of operand built priority rest)
    (last-read commas operator operand priority inner rest (prefix_apart name operator prefix.row) leads low bound built same follows)
    ∙ tail-built bound (with_application operator.name None 1 s (pushed operand built)) (pushed (Application name None (more operand none) s) built) s operator.priority rest
    (pushed_application operator.name None 1 s (operand ∷ []) built refl
    ∙ ap (λ (n : ℕ). pushed (Application n None (more operand none) s) built) (prefix_name name operator prefix.row))

quantifier-leads : (commas : Bool) (name priority priority' : ℕ) (operator : Operator) (variables goal : Term) (span : Span) (inner middle rest : List Token) → IsPrefix name operator inner
    → takes_two operator.fixity ≡ true → Leads commas variables priority inner middle → priority ≤ first_most operator → begins_with is_infix_name middle ≡ false
    → Leads commas goal priority' middle rest → priority' ≤ last_most operator
    → Leads commas (Application name None (more variables (more goal none)) (joined span (span_of goal))) operator.priority (token (Name name) span ∷ inner) rest
quantifier-leads commas name priority priority' operator variables goal span inner middle rest prefix two leads low none' leads' low' bound built same within follows =
    let s = joined span (span_of goal) in
    let apart = prefix_apart name operator prefix.row in
    prefix-begun name operator span inner bound built true prefix within two
    ∙ filled-part (frame_of (FirstOperand operator span) bound) (settled_term (operand_bound (first_most operator) bound) built inner) (read_of variables built priority middle)
    (first-read commas operator variables priority inner middle apart two leads low none' bound built same)
    ∙ if_false (begins_with is_infix_name middle) _ _ none'
    ∙ ap (second_by settled operator span bound) (sym (settled_term-by (operand_bound (last_most operator) bound) (pushed variables built) middle)
    ∙ last-read commas operator goal priority' middle rest apart leads' low' bound (pushed variables built) same follows)
    ∙ tail-built bound (with_application operator.name None 2 s (pushed goal (pushed variables built))) (pushed (Application name None (more variables (more goal none)) s) built) s operator.priority rest
    (pushed_application operator.name None 2 s (goal ∷ variables ∷ []) built refl
    ∙ ap (λ (n : ℕ). pushed (Application n None (more variables (more goal none)) s) built) (prefix_name name operator prefix.row))

first_kind : TokenKind → List Token → TokenKind
first_kind none' [] = none'
first_kind none' (first ∷ rest) = first.kind

operator-follows : (commas : Bool) (kind : TokenKind) (operator : Operator) (priority : ℕ) (span : Span) (middle : List Token) → IsInfix commas kind operator → priority ≤ first_most operator
    → Follows commas priority (token kind span ∷ middle)
unfolding first_kind
operator-follows commas kind operator priority span middle going low kind' other mark after is going' =
    let same : kind' ≡ kind = ap (first_kind kind) (sym is) in
    let one : operator ≡ other = IsInfix-unique commas kind operator other going (subst (λ (k : TokenKind). IsInfix commas k other) same going') in
    subst (λ (o : Operator). priority ≤ first_most o) one low

between-leads : (commas : Bool) (kind : TokenKind) (priority priority' : ℕ) (operator : Operator) (left right : Term) (span : Span) (tokens middle rest : List Token)
    → Leads commas left priority tokens (token kind span ∷ middle) → IsInfix commas kind operator → priority ≤ first_most operator
    → Leads commas right priority' middle rest → priority' ≤ last_most operator
    → Leads commas (Application operator.name None (more left (more right none)) (joined (span_of left) (span_of right))) operator.priority tokens rest
between-leads commas kind priority priority' operator left right span tokens middle rest leads going low leads' low' bound built same within follows =
    let s = joined (span_of left) (span_of right) in
    let below = first_most_below operator in
    leads bound built same (omega arith) (operator-follows commas kind operator priority span middle going low)
    ∙ settled_tail-by bound (pushed left built) (span_of left) priority (token kind span ∷ middle)
    ∙ ap (going_by settled bound (pushed left built) (span_of left) priority (token kind span ∷ middle)) (infix_at-found commas kind operator going bound priority span middle same within low)
    ∙ filled-part (frame_of (RightOperand operator (span_of left)) bound) (settled_term (operand_bound (last_most operator) bound) (pushed left built) middle)
    (read_of right (pushed left built) priority' rest)
    (last-read commas operator right priority' middle rest (IsInfix-apart commas kind operator going) leads' low' bound (pushed left built) same follows)
    ∙ tail-built bound (with_application operator.name None 2 s (pushed right (pushed left built))) (pushed (Application operator.name None (more left (more right none)) s) built) s operator.priority rest
    (pushed_application operator.name None 2 s (right ∷ left ∷ []) built refl)

mutual
  pub Spells-leads : {commas : Bool} {term : Term} {priority : ℕ} {tokens rest : List Token} → Spells commas term priority tokens rest → Leads commas term priority tokens rest
  Spells-leads (variable commas name span rest) =
      leaf-leads commas (Variable name span) _ rest (VariableStart name span) refl (λ bound built. ap (λ (b : Built). settled_tail bound b span 0 rest) (pushed_variable name span built))
  Spells-leads (integer commas value span rest) =
      leaf-leads commas (Integer (pos value) span) _ rest (IntegerStart false value span) refl (λ bound built. ap (λ (b : Built). settled_tail bound b span 0 rest) (pushed_integer value span built))
  Spells-leads (negative commas value sign span rest) =
      leaf-leads commas (Integer (neg_ℤ (pos value)) (joined sign span)) _ rest (IntegerStart true value (joined sign span)) refl
      (λ bound built. ap (λ (b : Built). settled_tail bound b (joined sign span) 0 rest) (pushed_negative value (joined sign span) built))
  Spells-leads (text commas name span rest) =
      leaf-leads commas (Text name span) _ rest (TextStart name span) refl (λ bound built. ap (λ (b : Built). settled_tail bound b span 0 rest) (pushed_text name span built))
  Spells-leads (constant commas kind name span rest named ends) =
      leaf-leads commas (Application name None none span) _ rest (Constant name None span)
      (start_with-name kind name span rest named ∙ plain_start-constant name span rest ends) (constant-goes name None span rest)
  Spells-leads (qualified commas kind kind' qualifier name span mark span' rest named behind' ends) =
      leaf-leads commas (Application name (Some qualifier) none (joined span span')) _ rest (Constant name (Some qualifier) (joined span span'))
      (start_with-name kind qualifier span _ named ∙ plain_start-qualified kind' qualifier name span mark span' rest behind'
      ∙ named_before-constant name (Some qualifier) (joined span span') rest ends) (constant-goes name (Some qualifier) (joined span span') rest)
  Spells-leads (application commas kind name arguments span open' close inner rest named inside) =
      application-leads commas kind name arguments span open' close inner rest named (SpellsArguments-lead inside)
  Spells-leads (qualified_application commas kind kind' qualifier name arguments span mark span' open' close inner rest named behind' inside) =
      qualified_application-leads commas kind kind' qualifier name arguments span mark span' open' close inner rest named behind' (SpellsArguments-lead inside)
  Spells-leads (empty_list commas open' close rest) =
      leaf-leads commas (nil (joined open' close)) _ rest (Constant nil_name None (joined open' close)) refl (constant-goes 1 None (joined open' close) rest)
  Spells-leads (list commas term open' close inner rest inside) = list-leads commas term open' close inner rest inside (SpellsItems-lead inside)
  Spells-leads (parenthesis commas kind term priority open' close inner rest opens inside within) =
      parenthesis-leads commas kind term priority open' close inner rest opens (Spells-leads inside) within
  Spells-leads (spells_before commas name priority operator operand span inner rest prefix one inside within) =
      before-leads commas name priority operator operand span inner rest prefix one (Spells-leads inside) within
  Spells-leads (quantifier commas name priority priority' operator variables goal span inner middle rest prefix two first within apart second within') =
      quantifier-leads commas name priority priority' operator variables goal span inner middle rest prefix two (Spells-leads first) within apart (Spells-leads second) within'
  Spells-leads (between commas kind priority priority' operator left right span tokens middle rest first going within second within') =
      between-leads commas kind priority priority' operator left right span tokens middle rest (Spells-leads first) going within (Spells-leads second) within'

  SpellsArguments-lead : {terms : Terms} {close : Span} {tokens rest : List Token} → SpellsArguments terms close tokens rest → LeadsArguments terms close tokens rest
  SpellsArguments-lead (last_argument term priority close tokens rest inside within) = last_argument-leads term priority close tokens rest (Spells-leads inside) within
  SpellsArguments-lead (argument term terms priority mark close tokens middle rest first within others) =
      argument-leads term terms priority mark close tokens middle rest (Spells-leads first) within (SpellsArguments-lead others)

  SpellsItems-lead : {whole close : Span} {term : Term} {tokens rest : List Token} → SpellsItems whole term close tokens rest → LeadsItems whole term close tokens rest
  SpellsItems-lead (last_item whole term priority close tokens rest inside within) = last_item-leads whole term priority close tokens rest (Spells-leads inside) within
  SpellsItems-lead (items_tail whole term end priority priority' bar close tokens middle rest first within second within') =
      items_tail-leads whole term end priority priority' bar close tokens middle rest (Spells-leads first) within (Spells-leads second) within'
  SpellsItems-lead (item whole term others priority mark close tokens middle rest first within behind') =
      item-leads whole term others priority mark close tokens middle rest (Spells-leads first) within (SpellsItems-lead behind')

-- where no infix operator may stand behind it, the term is read
pub Spells-read : (commas : Bool) (term : Term) (priority : ℕ) (tokens rest : List Token) → Spells commas term priority tokens rest → (bound : Bound) (built : Built)
    → bound.commas ≡ commas → priority ≤ bound.max → begins_with (may_go_on commas) rest ≡ false → settled_term bound built tokens ≡ Some (read_of term built priority rest)
Spells-read commas term priority tokens rest spelled = closed-read commas term priority tokens rest (Spells-leads spelled)

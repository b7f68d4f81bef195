-- Tokens of the kinds that a term is written with spell that term.
use Rattle.std.proofs.Common.{◌≡◌, ℕ, ◌+◌, ◌≤◌, ◌<◌, ◌==◌, ◌&&◌, ◌||◌, not, nat_lt, ℤ, pos, negsuc, neg_ℤ, Bool, true, false, List, [], ◌∷◌, ◌++◌, Option, Some, None, is_some, is_none, cond, refl, ap, sym, ◌∙◌, subst, eqb-true, ltb-false, le-ltb, arith, append_assoc, add-one}
use Rattle.std.proofs.Math.Bool.{and-false, or-false, or-true}
use Rattle.merc_base.specs.Names.{HoldsFixed, comma_name, minus_name, cons_name}
use Rattle.merc_base.specs.declared.place.Span.{Span}
use Rattle.std.proofs.lemmas.Bool.{or_parts, true≢false}
use Rattle.merc_terms.proofs.Table.{infix_name, prefix_name}
use Rattle.merc_value.specs.Text.{text_at, is_plain}
use Rattle.merc_tokens.specs.declared.token.Token.{Token as TokenOf}
use Rattle.merc_tokens.specs.declared.token.TokenKind.{TokenKind}
use Rattle.merc_tokens.specs.declared.token.TokenKind.TheVariants.{Name, Quoted, Var, Int, Text as TextToken, OpenArgs, Open, Close, OpenList, CloseList, Comma, Bar, Dot}
use Rattle.merc_tree.specs.Term.{Term, Terms, Variable, Integer, Text, Application, none, more, bare, bare_all, no_span, span_of, with_span}
use Rattle.merc_terms.specs.declared.operators.Operator.{Operator}
use Rattle.merc_terms.specs.Operators.{infix_named, prefix_named, takes_two, first_most, last_most, argument_most, term_most}
use Rattle.merc_terms.specs.Reading.{token, joined, begins_with, is_integer, goes_on_name, is_infix_name, leaves_plain, is_left_plain, IsName, plain, quoted, IsQualified, unquoted, alone, IsInfix, name, comma, cell, nil, Spells, variable, integer, negative, text, constant, qualified, application, qualified_application, empty_list, list, parenthesis, before, quantifier, between, SpellsArguments, last_argument, argument, SpellsItems, last_item, items_tail, item}
use Rattle.merc_term_text.specs.Pieces.{Piece, Blank, Token, kinds_of, name_piece}
use Rattle.merc_term_text.specs.Written.{Form, ListForm, InfixForm, PrefixForm, QuantifierForm, PlainForm, form_of, form_priority, is_comma_form, is_enclosed, enclosed_if, Part, part_of, parts_of, part_pieces, operand_pieces, operator_pieces, integer_pieces, other_pieces, item_pieces, infix_pieces, prefix_pieces, quantifier_pieces, plain_pieces, bar_pieces, tail_pieces, formed, is_nil}
use Rattle.merc_term_text.proofs.FormViews.{IsForm, is_list, is_infix, is_prefix, is_quantifier, is_plain as is_plain_form, seen}
use Rattle.merc_term_text.specs.Walking.{is_nil_term}
use Rattle.merc_term_text.proofs.TermPieces.{other_tail, list_tail, plain_not_list, infix_not_list, prefix_not_list, quantifier_not_list, no_nil}
use Rattle.merc_term_text.proofs.TokenKinds.{kinds, take_token, begins, begins_is}
use Rattle.merc_term_text.proofs.OperatorFacts.{infix_bounded, prefix_bounded, minus_row, no_infix, no_prefix, minus_kept}

abbrev pub is_integer_term : Term → Bool
is_integer_term (Variable name' span) = false
is_integer_term (Integer value span) = true
is_integer_term (Text name' span) = false
is_integer_term (Application name' qualifier arguments span) = false

-- Tokens begin with some that spell a term, spans aside, at this priority at most. The pieces that follow have the kinds of the rest.
pub record Read (commas : Bool) (term : Term) (most : ℕ) (tokens : List TokenOf) (after : List Piece) : Type 0 where
  pub found : Term
  pub priority : ℕ
  pub rest : List TokenOf
  pub within : priority ≤ most
  pub spells : Spells commas found priority tokens rest
  pub left : kinds rest ≡ kinds_of after
  pub same : bare found ≡ bare term
  pub starts : is_left_plain tokens ≡ false
  pub unsigned : most < 200 → is_integer_term term ≡ false → begins_with is_integer tokens ≡ false

-- arguments and their closing parenthesis
pub record ReadArguments (terms : Terms) (tokens : List TokenOf) (after : List Piece) : Type 0 where
  pub found : Terms
  pub close : Span
  pub rest : List TokenOf
  pub spells : SpellsArguments found close tokens rest
  pub left : kinds rest ≡ kinds_of after
  pub same : bare_all found ≡ bare_all terms

-- the items of a list from a cell on, and the closing bracket
pub record ReadItems (head tail : Term) (tokens : List TokenOf) (after : List Piece) : Type 0 where
  pub found : Span → Term
  pub close : Span
  pub rest : List TokenOf
  pub spells : (whole : Span) → SpellsItems whole (found whole) close tokens rest
  pub left : kinds rest ≡ kinds_of after
  pub same : (whole : Span) → bare (found whole) ≡ Application cons_name None (more (bare head) (more (bare tail) none)) no_span

-- A part is read where it stands without parentheses, where these may be needed for a chain of commas alone.
abbrev pub ReadsWhole : Term → ℕ → Bool → (Bool → List Piece) → Type 0
ReadsWhole term priority is_chain pieces = (commas : Bool) (tokens : List TokenOf) (after : List Piece) → is_chain && not commas ≡ false
    → kinds tokens ≡ kinds_of (pieces commas ++ after) → begins goes_on_name (kinds_of after) ≡ false → Read commas term priority tokens after

-- and as a list's tail, behind a head
abbrev pub ReadsTail : Term → List Piece → Type 0
ReadsTail term pieces = (head : Term) (priority : ℕ) (tokens rest : List TokenOf) (after : List Piece) → Spells false head priority tokens rest → priority ≤ argument_most
    → kinds rest ≡ kinds_of (pieces ++ Token CloseList ∷ after) → ReadItems head term tokens after

pub record Reads (names : List (List ℕ)) (term : Term) : Type 0 where
  pub bounded : form_priority (part_of names term).form ≤ term_most
  pub whole : ReadsWhole term (form_priority (part_of names term).form) (is_comma_form (part_of names term).form) (part_of names term).pieces
  pub tail : ReadsTail term (part_of names term).tail
  pub tail_first : (after : List Piece) → begins goes_on_name (kinds_of ((part_of names term).tail ++ Token CloseList ∷ after)) ≡ false

abbrev pub AllRead : List (List ℕ) → Terms → Type 0
AllRead names none = Unit {0}
AllRead names (more first rest) = Reads names first × AllRead names rest

-- tests

-- parts of a reading

raised : {commas : Bool} {term : Term} {most : ℕ} {tokens : List TokenOf} {after : List Piece} → Read commas term most tokens after → (greater : ℕ) → most ≤ greater → Read commas term greater tokens after
raised {commas} {term} {most} {tokens} {after} read greater order = record {
  found = read.found;
  priority = read.priority;
  rest = read.rest;
  within = omega (arith, read.within, order);
  spells = read.spells;
  left = read.left;
  same = read.same;
  starts = read.starts;
  unsigned = λ low other. read.unsigned (omega (arith, low, order)) other;
}

bare_with : (span : Span) (term : Term) → bare (with_span span term) ≡ bare term
bare_with span (Variable name' old) = refl
bare_with span (Integer value old) = refl
bare_with span (Text name' old) = refl
bare_with span (Application name' qualifier arguments old) = refl

-- a term in parentheses
module _ (commas : Bool) (term : Term) (pieces : List Piece)
    (inner : (tokens : List TokenOf) (after : List Piece) → kinds tokens ≡ kinds_of (pieces ++ after) → begins goes_on_name (kinds_of after) ≡ false → Read true term 1200 tokens after) where
  enclosed_read : (tokens : List TokenOf) (after : List Piece) → kinds tokens ≡ kinds_of ((Token Open ∷ (pieces ++ Token Close ∷ [])) ++ after) → Read commas term 0 tokens after
  enclosed_read tokens after same =
      let open' = take_token Open tokens (kinds_of ((pieces ++ Token Close ∷ []) ++ after)) same in
      let read = inner open'.rest (Token Close ∷ after) (open'.left ∙ ap kinds_of (append_assoc pieces (Token Close ∷ []) after)) refl in
      let close = take_token Close read.rest (kinds_of after) read.left in
      record {
        found = with_span (joined open'.span close.span) read.found;
        priority = 0;
        rest = close.rest;
        within = omega arith;
        spells = subst (λ ts. Spells commas (with_span (joined open'.span close.span) read.found) 0 ts close.rest) (sym open'.is)
            (parenthesis commas Open read.found read.priority open'.span close.span open'.rest close.rest alone
            (subst (λ ts. Spells true read.found read.priority open'.rest ts) close.is read.spells) read.within);
        left = close.left;
        same = bare_with (joined open'.span close.span) read.found ∙ read.same;
        starts = ap is_left_plain open'.is;
        unsigned = λ low other. ap (begins_with is_integer) open'.is;
      }

-- a part where terms of at most this priority may stand
module _ (names : List (List ℕ)) (term : Term) (bounded : form_priority (part_of names term).form ≤ term_most)
    (whole : ReadsWhole term (form_priority (part_of names term).form) (is_comma_form (part_of names term).form) (part_of names term).pieces) where
  part_by : (max : ℕ) (commas enclosed : Bool) → is_enclosed max commas (part_of names term).form ≡ enclosed → (tokens : List TokenOf) (after : List Piece)
      → kinds tokens ≡ kinds_of (enclosed_if enclosed ((part_of names term).pieces (commas || enclosed)) ++ after) → begins goes_on_name (kinds_of after) ≡ false → Read commas term max tokens after
  part_by max commas true e tokens after same fits =
      raised (enclosed_read commas term ((part_of names term).pieces (commas || true)) (λ tokens' after' same' fits'.
      raised (whole true tokens' after' (and-false (is_comma_form (part_of names term).form)) (same' ∙ ap (λ b. kinds_of ((part_of names term).pieces b ++ after')) (or-true commas)) fits') 1200 bounded) tokens after same) max (omega arith)
  part_by max commas false e tokens after same fits =
      raised (whole commas tokens after ((or_parts (nat_lt max (form_priority (part_of names term).form)) (is_comma_form (part_of names term).form && not commas) e).1)
      (same ∙ ap (λ b. kinds_of ((part_of names term).pieces b ++ after)) (or-false commas)) fits) max
      (ltb-false max (form_priority (part_of names term).form) ((or_parts (nat_lt max (form_priority (part_of names term).form)) (is_comma_form (part_of names term).form && not commas) e).0))

  part_from : (max : ℕ) (commas : Bool) (tokens : List TokenOf) (after : List Piece)
      → kinds tokens ≡ kinds_of (part_pieces max commas (part_of names term) ++ after) → begins goes_on_name (kinds_of after) ≡ false → Read commas term max tokens after
  part_from max commas tokens after same fits = part_by max commas (is_enclosed max commas (part_of names term).form) refl tokens after same fits

  -- a list's tail behind a bar
  tail_by_bar : bar_pieces (part_pieces argument_most false (part_of names term)) ≡ (part_of names term).tail → ReadsTail term (part_of names term).tail
  tail_by_bar barred head priority tokens rest after head_spells within same =
      let bar = take_token Bar rest (kinds_of (part_pieces argument_most false (part_of names term) ++ Token CloseList ∷ after)) (same ∙ ap (λ pieces. kinds_of (pieces ++ Token CloseList ∷ after)) (sym barred)) in
      let read = part_from 1199 false bar.rest (Token CloseList ∷ after) bar.left refl in
      let close = take_token CloseList read.rest (kinds_of after) read.left in
      record {
        found = λ all'. cell all' head read.found;
        close = close.span;
        rest = close.rest;
        spells = λ all'. items_tail all' head read.found priority read.priority bar.span close.span tokens bar.rest close.rest
            (subst (λ ts. Spells false head priority tokens ts) bar.is head_spells) within
            (subst (λ ts. Spells false read.found read.priority bar.rest ts) close.is read.spells) read.within;
        left = close.left;
        same = λ all'. ap (λ t. Application cons_name None (more (bare head) (more t none)) no_span) read.same;
      }

part_read : (names : List (List ℕ)) (term : Term) → Reads names term → (max : ℕ) (commas : Bool) (tokens : List TokenOf) (after : List Piece)
    → kinds tokens ≡ kinds_of (part_pieces max commas (part_of names term) ++ after) → begins goes_on_name (kinds_of after) ≡ false → Read commas term max tokens after
part_read names term reads max commas tokens after same fits = part_from names term reads.bounded reads.whole max commas tokens after same fits

-- a term of one token
token_read : (commas : Bool) (term found : Term) (kind : TokenKind) (span : Span) (tokens rest : List TokenOf) (after : List Piece)
    → tokens ≡ token kind span ∷ rest → kinds rest ≡ kinds_of after → Spells commas found 0 (token kind span ∷ rest) rest → bare found ≡ bare term
    → leaves_plain kind ≡ false → (is_integer_term term ≡ false → is_integer kind ≡ false) → Read commas term 0 tokens after
token_read commas term found kind span tokens rest after is left spells same kept other = record {
  found = found;
  priority = 0;
  rest = rest;
  within = omega arith;
  spells = subst (λ ts. Spells commas found 0 ts rest) (sym is) spells;
  left = left;
  same = same;
  starts = ap is_left_plain is ∙ kept;
  unsigned = λ low plain'. ap (begins_with is_integer) is ∙ other plain';
}

variable_read : (name' : ℕ) (span : Span) → ReadsWhole (Variable name' span) 0 false (λ commas. Token (Var name') ∷ [])
variable_read name' span commas tokens after chain same fits =
    let first = take_token (Var name') tokens (kinds_of after) same in
    token_read commas (Variable name' span) (Variable name' first.span) (Var name') first.span tokens first.rest after first.is first.left (variable commas name' first.span first.rest) refl refl (λ other. refl)

text_read : (name' : ℕ) (span : Span) → ReadsWhole (Text name' span) 0 false (λ commas. Token (TextToken name') ∷ [])
text_read name' span commas tokens after chain same fits =
    let first = take_token (TextToken name') tokens (kinds_of after) same in
    token_read commas (Text name' span) (Text name' first.span) (TextToken name') first.span tokens first.rest after first.is first.left (text commas name' first.span first.rest) refl refl (λ other. refl)

negated : (n : ℕ) → neg_ℤ (pos (n + 1)) ≡ negsuc n
negated n = ap (λ (k : ℕ). neg_ℤ (pos k)) (add-one n)

integer_read : (value : ℤ) (span : Span) → ReadsWhole (Integer value span) 0 false (λ commas. integer_pieces value)
integer_read (pos n) span commas tokens after chain same fits =
    let first = take_token (Int n) tokens (kinds_of after) same in
    token_read commas (Integer (pos n) span) (Integer (pos n) first.span) (Int n) first.span tokens first.rest after first.is first.left (integer commas n first.span first.rest) refl refl (λ other. absurd (true≢false other))
integer_read (negsuc n) span commas tokens after chain same fits =
    let sign = take_token (Name minus_name) tokens (Int (n + 1) ∷ kinds_of after) same in
    let last = take_token (Int (n + 1)) sign.rest (kinds_of after) sign.left in
    record {
      found = Integer (neg_ℤ (pos (n + 1))) (joined sign.span last.span);
      priority = 0;
      rest = last.rest;
      within = omega arith;
      spells = subst (λ ts. Spells commas (Integer (neg_ℤ (pos (n + 1))) (joined sign.span last.span)) 0 ts last.rest) (sym sign.is)
          (subst (λ ts. Spells commas (Integer (neg_ℤ (pos (n + 1))) (joined sign.span last.span)) 0 (token (Name minus_name) sign.span ∷ ts) last.rest) (sym last.is)
          (negative commas (n + 1) sign.span last.span last.rest));
      left = last.left;
      same = ap (λ z. Integer z no_span) (negated n);
      starts = ap is_left_plain sign.is ∙ minus_kept;
      unsigned = λ low other. absurd (true≢false other);
    }

-- a name, in quotes or not
record Named (name' : ℕ) (tokens : List TokenOf) (after : List Piece) : Type 0 where
  kind : TokenKind
  span : Span
  rest : List TokenOf
  is : tokens ≡ token kind span ∷ rest
  left : kinds rest ≡ kinds_of after
  named : (behind : List TokenOf) → IsName kind name' behind
  part : IsQualified kind name'
  kept : leaves_plain kind ≡ false
  other : is_integer kind ≡ false

named_by : (names : List (List ℕ)) → HoldsFixed names → (name' : ℕ) (bare' : Bool) → is_plain (text_at names name') ≡ bare' → (tokens : List TokenOf) (after : List Piece)
    → kinds tokens ≡ kinds_of (cond bare' (Token (Name name')) (Token (Quoted name')) ∷ after) → Named name' tokens after
named_by names fixed name' true e tokens after same =
    let first = take_token (Name name') tokens (kinds_of after) same in
    record {
      kind = Name name';
      span = first.span;
      rest = first.rest;
      is = first.is;
      left = first.left;
      named = λ behind. plain name' behind (no_prefix names fixed name' e);
      part = unquoted name';
      kept = ap (λ o. is_some o && is_none (prefix_named name')) (no_infix names fixed name' e);
      other = refl;
    }
named_by names fixed name' false e tokens after same =
    let first = take_token (Quoted name') tokens (kinds_of after) same in
    record {
      kind = Quoted name';
      span = first.span;
      rest = first.rest;
      is = first.is;
      left = first.left;
      named = λ behind. quoted name' behind;
      part = quoted name';
      kept = refl;
      other = refl;
    }

take_name : (names : List (List ℕ)) → HoldsFixed names → (name' : ℕ) (tokens : List TokenOf) (after : List Piece) → kinds tokens ≡ kinds_of (name_piece names name' ∷ after) → Named name' tokens after
take_name names fixed name' tokens after same = named_by names fixed name' (is_plain (text_at names name')) refl tokens after same

-- an infix operator

record Operated (commas : Bool) (operator : Operator) (tokens : List TokenOf) (after : List Piece) : Type 0 where
  kind : TokenKind
  span : Span
  rest : List TokenOf
  is : tokens ≡ token kind span ∷ rest
  left : kinds rest ≡ kinds_of after
  operates : IsInfix commas kind operator

operator_by : (commas : Bool) (name' : ℕ) (operator : Operator) → infix_named operator.name ≡ Some operator → (test : Bool) → (operator.name == comma_name) ≡ test → (test && not commas ≡ false) → (tokens : List TokenOf) (after : List Piece)
    → kinds tokens ≡ kinds_of (cond test (Token Comma ∷ Blank ∷ []) (Blank ∷ Token (Name operator.name) ∷ Blank ∷ []) ++ after) → Operated commas operator tokens after
operator_by true name' operator row true e chain tokens after same =
    let first = take_token Comma tokens (kinds_of after) same in
    record { kind = Comma; span = first.span; rest = first.rest; is = first.is; left = first.left; operates = comma operator (ap infix_named (sym (eqb-true operator.name comma_name e)) ∙ row) }
operator_by false name' operator row true e chain tokens after same = absurd (true≢false chain)
operator_by commas name' operator row false e chain tokens after same =
    let first = take_token (Name operator.name) tokens (kinds_of after) same in
    record { kind = Name operator.name; span = first.span; rest = first.rest; is = first.is; left = first.left; operates = name commas operator.name operator row }

operator_first : (operator : Operator) (after : List Piece) → begins goes_on_name (kinds_of (operator_pieces operator ++ after)) ≡ false
operator_first operator after = elim (operator.name == comma_name) as (λ b. begins goes_on_name (kinds_of (cond b (Token Comma ∷ Blank ∷ []) (Blank ∷ Token (Name operator.name) ∷ Blank ∷ []) ++ after)) ≡ false) [ true ↦ refl | false ↦ refl ]

module _ (names : List (List ℕ)) (name' : ℕ) (operator : Operator) (left right : Term) (span : Span) (row : infix_named name' ≡ Some operator)
    (reads_left : Reads names left) (reads_right : Reads names right) where
  infix_read : ReadsWhole (Application name' None (more left (more right none)) span) operator.priority (operator.name == comma_name) (λ commas. infix_pieces commas operator (part_of names left ∷ part_of names right ∷ []))
  infix_read commas tokens after chain same fits =
      let named : operator.name ≡ name' = infix_name name' operator row in
      let lefts : List Piece = part_pieces (first_most operator) commas (part_of names left) in
      let rights : List Piece = part_pieces (last_most operator) commas (part_of names right) in
      let one = part_read names left reads_left (first_most operator) commas tokens (operator_pieces operator ++ (rights ++ after))
      (same ∙ ap kinds_of (append_assoc lefts (operator_pieces operator ++ rights) after ∙ ap (λ t. lefts ++ t) (append_assoc (operator_pieces operator) rights after)))
      (operator_first operator (rights ++ after)) in
      let between' = operator_by commas name' operator (ap infix_named named ∙ row) (operator.name == comma_name) refl chain one.rest (rights ++ after) one.left in
      let two = part_read names right reads_right (last_most operator) commas between'.rest after between'.left fits in
      record {
        found = Application operator.name None (more one.found (more two.found none)) (joined (span_of one.found) (span_of two.found));
        priority = operator.priority;
        rest = two.rest;
        within = omega arith;
        spells = between commas between'.kind one.priority two.priority operator one.found two.found between'.span tokens between'.rest two.rest
            (subst (λ ts. Spells commas one.found one.priority tokens ts) between'.is one.spells) between'.operates one.within two.spells two.within;
        left = two.left;
        same = ap (λ (n : ℕ). Application n None (more (bare one.found) (more (bare two.found) none)) no_span) named
            ∙ ap (λ t. Application name' None (more t (more (bare two.found) none)) no_span) one.same
            ∙ ap (λ t. Application name' None (more (bare left) (more t none)) no_span) two.same;
        starts = one.starts;
        unsigned = λ low other. absurd (omega (arith, low, (infix_bounded name' operator row).low));
      }

-- a prefix operator's operand

record Operand (commas : Bool) (term : Term) (most : ℕ) (tokens : List TokenOf) (after : List Piece) : Type 0 where
  read : Read commas term most tokens after
  unsigned : most < 200 → begins_with is_integer tokens ≡ false

nat_lt_zero : (max : ℕ) → nat_lt max 0 ≡ false
nat_lt_zero max = le-ltb max 0 (omega arith)

never_enclosed : (max : ℕ) (commas : Bool) → is_enclosed max commas PlainForm ≡ false
never_enclosed max commas = ap (λ b. b || (false && not commas)) (nat_lt_zero max)

module _ (names : List (List ℕ)) (max : ℕ) (commas : Bool) where
  parted_operand : (term : Term) → Reads names term → is_integer_term term ≡ false → (tokens : List TokenOf) (after : List Piece)
      → kinds tokens ≡ kinds_of (part_pieces max commas (part_of names term) ++ after) → begins goes_on_name (kinds_of after) ≡ false → Operand commas term max tokens after
  parted_operand term reads other tokens after same fits =
      let part = part_read names term reads max commas tokens after same fits in
      record { read = part; unsigned = λ low. part.unsigned low other }

  operand_read : (term : Term) → Reads names term → (tokens : List TokenOf) (after : List Piece)
      → kinds tokens ≡ kinds_of (operand_pieces max commas (part_of names term) ++ after) → begins goes_on_name (kinds_of after) ≡ false → Operand commas term max tokens after
  operand_read (Variable name' span) reads tokens after same fits = parted_operand (Variable name' span) reads refl tokens after same fits
  operand_read (Text name' span) reads tokens after same fits = parted_operand (Text name' span) reads refl tokens after same fits
  operand_read (Application name' qualifier arguments span) reads tokens after same fits = parted_operand (Application name' qualifier arguments span) reads refl tokens after same fits
  operand_read (Integer value span) reads tokens after same fits =
      let inner : (tokens' : List TokenOf) (after' : List Piece) → kinds tokens' ≡ kinds_of (part_pieces max commas (part_of names (Integer value span)) ++ after') → begins goes_on_name (kinds_of after') ≡ false → Read true (Integer value span) 1200 tokens' after' =
      λ tokens' after' same' fits'. raised (integer_read value span true tokens' after' refl (same' ∙ ap (λ b. kinds_of (enclosed_if b (integer_pieces value) ++ after')) (never_enclosed max commas)) fits') 1200 (omega arith) in
      let open' = take_token Open tokens (kinds_of ((part_pieces max commas (part_of names (Integer value span)) ++ Token Close ∷ []) ++ after)) same in
      record {
        read = raised (enclosed_read commas (Integer value span) (part_pieces max commas (part_of names (Integer value span))) inner tokens after same) max (omega arith);
        unsigned = λ low. ap (begins_with is_integer) open'.is;
      }

-- a prefix operator's name is no sign before its operand
no_sign : (name' : ℕ) (operator : Operator) → prefix_named name' ≡ Some operator → (tokens : List TokenOf) → (last_most operator < 200 → begins_with is_integer tokens ≡ false)
    → (test : Bool) → (name' == minus_name) ≡ test → test && begins_with is_integer tokens ≡ false
no_sign name' operator row tokens unsigned true e =
    let minus = minus_row operator (ap prefix_named (sym (eqb-true name' minus_name e)) ∙ row) in
    unsigned (omega (arith, minus.1))
no_sign name' operator row tokens unsigned false e = refl

module _ (names : List (List ℕ)) (name' : ℕ) (operator : Operator) (operand : Term) (span : Span) (row : prefix_named name' ≡ Some operator) (one : takes_two operator.fixity ≡ false)
    (reads : Reads names operand) where
  prefix_read : ReadsWhole (Application name' None (more operand none) span) operator.priority false (λ commas. prefix_pieces commas operator (part_of names operand ∷ []))
  prefix_read commas tokens after chain same fits =
      let named : operator.name ≡ name' = prefix_name name' operator row in
      let first = take_token (Name operator.name) tokens (kinds_of (operand_pieces (last_most operator) commas (part_of names operand) ++ after)) same in
      let inner = operand_read names (last_most operator) commas operand reads first.rest after first.left fits in
      let row' : prefix_named operator.name ≡ Some operator = ap prefix_named named ∙ row in
      record {
        found = Application operator.name None (more inner.read.found none) (joined first.span (span_of inner.read.found));
        priority = operator.priority;
        rest = inner.read.rest;
        within = omega arith;
        spells = subst (λ ts. Spells commas (Application operator.name None (more inner.read.found none) (joined first.span (span_of inner.read.found))) operator.priority ts inner.read.rest) (sym first.is)
            (before commas operator.name inner.read.priority operator inner.read.found first.span first.rest inner.read.rest
            (record { row = row'; not_plain = inner.read.starts; no_sign = no_sign operator.name operator row' first.rest inner.unsigned (operator.name == minus_name) refl })
            one inner.read.spells inner.read.within);
        left = inner.read.left;
        same = ap (λ (n : ℕ). Application n None (more (bare inner.read.found) none) no_span) named ∙ ap (λ t. Application name' None (more t none) no_span) inner.read.same;
        starts = ap is_left_plain first.is ∙ (ap (λ o. is_some (infix_named operator.name) && is_none o) row' ∙ and-false (is_some (infix_named operator.name)));
        unsigned = λ low other. ap (begins_with is_integer) first.is;
      }

no_minus : (operator : Operator) → takes_two operator.fixity ≡ true → prefix_named operator.name ≡ Some operator → (tokens : List TokenOf)
    → (test : Bool) → (operator.name == minus_name) ≡ test → test && begins_with is_integer tokens ≡ false
no_minus operator two row tokens true e =
    let minus = minus_row operator (ap prefix_named (sym (eqb-true operator.name minus_name e)) ∙ row) in
    absurd (true≢false (sym two ∙ minus.0))
no_minus operator two row tokens false e = refl

module _ (names : List (List ℕ)) (name' : ℕ) (operator : Operator) (variables goal : Term) (span : Span) (row : prefix_named name' ≡ Some operator) (two : takes_two operator.fixity ≡ true)
    (reads_variables : Reads names variables) (reads_goal : Reads names goal) where
  quantifier_read : ReadsWhole (Application name' None (more variables (more goal none)) span) operator.priority false (λ commas. quantifier_pieces commas operator (part_of names variables ∷ part_of names goal ∷ []))
  quantifier_read commas tokens after chain same fits =
      let named : operator.name ≡ name' = prefix_name name' operator row in
      let row' : prefix_named operator.name ≡ Some operator = ap prefix_named named ∙ row in
      let bound : List Piece = part_pieces 0 commas (part_of names variables) in
      let enclosed : List Piece = Token Open ∷ (part_pieces term_most true (part_of names goal) ++ Token Close ∷ []) in
      let first = take_token (Name operator.name) tokens (kinds_of ((bound ++ (Blank ∷ enclosed)) ++ after)) same in
      let one = part_read names variables reads_variables 0 commas first.rest (Blank ∷ (enclosed ++ after)) (first.left ∙ ap kinds_of (append_assoc bound (Blank ∷ enclosed) after)) refl in
      let last = enclosed_read commas goal (part_pieces term_most true (part_of names goal)) (λ tokens' after' same' fits'. part_read names goal reads_goal 1200 true tokens' after' same' fits') one.rest after one.left in
      record {
        found = Application operator.name None (more one.found (more last.found none)) (joined first.span (span_of last.found));
        priority = operator.priority;
        rest = last.rest;
        within = omega arith;
        spells = subst (λ ts. Spells commas (Application operator.name None (more one.found (more last.found none)) (joined first.span (span_of last.found))) operator.priority ts last.rest) (sym first.is)
            (quantifier commas operator.name one.priority last.priority operator one.found last.found first.span first.rest one.rest last.rest
            (record { row = row'; not_plain = one.starts; no_sign = no_minus operator two row' first.rest (operator.name == minus_name) refl })
            two one.spells (omega (arith, one.within)) (begins_is is_infix_name one.rest ∙ ap (begins is_infix_name) one.left) last.spells (omega (arith, last.within)));
        left = last.left;
        same = ap (λ (n : ℕ). Application n None (more (bare one.found) (more (bare last.found) none)) no_span) named
            ∙ ap (λ t. Application name' None (more t (more (bare last.found) none)) no_span) one.same
            ∙ ap (λ t. Application name' None (more (bare variables) (more t none)) no_span) last.same;
        starts = ap is_left_plain first.is ∙ (ap (λ o. is_some (infix_named operator.name) && is_none o) row' ∙ and-false (is_some (infix_named operator.name)));
        unsigned = λ low other. ap (begins_with is_integer) first.is;
      }

-- arguments

arguments_read : (names : List (List ℕ)) (first : Term) (others : Terms) → Reads names first → AllRead names others → (tokens : List TokenOf) (after : List Piece)
    → kinds tokens ≡ kinds_of ((part_pieces argument_most false (part_of names first) ++ other_pieces (parts_of names others)) ++ after) → ReadArguments (more first others) tokens after
arguments_read names first none reads all tokens after same =
    let one = part_read names first reads 1199 false tokens (Token Close ∷ after) (same ∙ ap kinds_of (append_assoc (part_pieces argument_most false (part_of names first)) (Token Close ∷ []) after)) refl in
    let close = take_token Close one.rest (kinds_of after) one.left in
    record {
      found = more one.found none;
      close = close.span;
      rest = close.rest;
      spells = last_argument one.found one.priority close.span tokens close.rest (subst (λ ts. Spells false one.found one.priority tokens ts) close.is one.spells) one.within;
      left = close.left;
      same = ap (λ t. more t none) one.same;
    }
arguments_read names first (more second others) reads all tokens after same =
    let behind : List Piece = part_pieces argument_most false (part_of names second) ++ other_pieces (parts_of names others) in
    let one = part_read names first reads 1199 false tokens (Token Comma ∷ Blank ∷ (behind ++ after))
    (same ∙ ap kinds_of (append_assoc (part_pieces argument_most false (part_of names first)) (Token Comma ∷ Blank ∷ behind) after)) refl in
    let mark = take_token Comma one.rest (kinds_of (behind ++ after)) one.left in
    let inner = arguments_read names second others all.0 all.1 mark.rest after mark.left in
    record {
      found = more one.found inner.found;
      close = inner.close;
      rest = inner.rest;
      spells = argument one.found inner.found one.priority mark.span inner.close tokens mark.rest inner.rest (subst (λ ts. Spells false one.found one.priority tokens ts) mark.is one.spells) one.within inner.spells;
      left = inner.left;
      same = ap (λ t. more t (bare_all inner.found)) one.same ∙ ap (λ ts. more (bare first) ts) inner.same;
    }

-- lists

token_list : (commas : Bool) (term found : Term) (open' close : Span) (tokens inner rest : List TokenOf) (after : List Piece)
    → tokens ≡ token OpenList open' ∷ inner → kinds rest ≡ kinds_of after → SpellsItems (joined open' close) found close inner rest → bare found ≡ bare term → is_integer_term term ≡ false → Read commas term 0 tokens after
token_list commas term found open' close tokens inner rest after is left spells same other = record {
  found = found;
  priority = 0;
  rest = rest;
  within = omega arith;
  spells = subst (λ ts. Spells commas found 0 ts rest) (sym is) (list commas found open' close inner rest spells);
  left = left;
  same = same;
  starts = ap is_left_plain is;
  unsigned = λ low plain'. ap (begins_with is_integer) is;
}

module _ (names : List (List ℕ)) (head tail : Term) (reads_head : Reads names head) (reads_tail : Reads names tail) where
  items_read : (tokens : List TokenOf) (after : List Piece) → kinds tokens ≡ kinds_of (item_pieces (part_of names head ∷ part_of names tail ∷ []) ++ Token CloseList ∷ after) → ReadItems head tail tokens after
  items_read tokens after same =
      let one = part_read names head reads_head 1199 false tokens ((part_of names tail).tail ++ Token CloseList ∷ after)
      (same ∙ ap kinds_of (append_assoc (part_pieces argument_most false (part_of names head)) (part_of names tail).tail (Token CloseList ∷ after))) (reads_tail.tail_first after) in
      let items = reads_tail.tail one.found one.priority tokens one.rest after one.spells one.within one.left in
      record {
        found = items.found;
        close = items.close;
        rest = items.rest;
        spells = items.spells;
        left = items.left;
        same = λ whole. items.same whole ∙ ap (λ t. Application cons_name None (more t (more (bare tail) none)) no_span) one.same;
      }

  module _ (name' : ℕ) (span : Span) (cons : name' ≡ 2) where
    list_bare : Application cons_name None (more (bare head) (more (bare tail) none)) no_span ≡ Application name' None (more (bare head) (more (bare tail) none)) no_span
    list_bare = ap (λ (n : ℕ). Application n None (more (bare head) (more (bare tail) none)) no_span) (sym cons)

    list_read : ReadsWhole (Application name' None (more head (more tail none)) span) 0 false (λ commas. Token OpenList ∷ (item_pieces (part_of names head ∷ part_of names tail ∷ []) ++ Token CloseList ∷ []))
    list_read commas tokens after chain same fits =
        let pieces : List Piece = item_pieces (part_of names head ∷ part_of names tail ∷ []) in
        let open' = take_token OpenList tokens (kinds_of ((pieces ++ Token CloseList ∷ []) ++ after)) same in
        let items = items_read open'.rest after (open'.left ∙ ap kinds_of (append_assoc pieces (Token CloseList ∷ []) after)) in
        let whole : Span = joined open'.span items.close in
        token_list commas (Application name' None (more head (more tail none)) span) (items.found whole) open'.span items.close tokens open'.rest items.rest after open'.is items.left (items.spells whole) (items.same whole ∙ list_bare) refl

    list_tail_read : ReadsTail (Application name' None (more head (more tail none)) span) (Token Comma ∷ Blank ∷ item_pieces (part_of names head ∷ part_of names tail ∷ []))
    list_tail_read first priority tokens rest after spells within same =
        let mark = take_token Comma rest (kinds_of (item_pieces (part_of names head ∷ part_of names tail ∷ []) ++ Token CloseList ∷ after)) same in
        let items = items_read mark.rest after mark.left in
        record {
          found = λ whole. cell whole first (items.found whole);
          close = items.close;
          rest = items.rest;
          spells = λ whole. item whole first (items.found whole) priority mark.span items.close tokens mark.rest items.rest (subst (λ ts. Spells false first priority tokens ts) mark.is spells) within (items.spells whole);
          left = items.left;
          same = λ whole. ap (λ t. Application cons_name None (more (bare first) (more t none)) no_span) (items.same whole ∙ list_bare);
        }

-- names with their arguments

module _ (names : List (List ℕ)) (fixed : HoldsFixed names) (name' : ℕ) (span : Span) where
  nil_read : (name' ≡ 1) → ReadsWhole (Application name' None none span) 0 false (λ commas. Token OpenList ∷ Token CloseList ∷ [])
  nil_read nils commas tokens after chain same fits =
      let open' = take_token OpenList tokens (CloseList ∷ kinds_of after) same in
      let close = take_token CloseList open'.rest (kinds_of after) open'.left in
      record {
        found = nil (joined open'.span close.span);
        priority = 0;
        rest = close.rest;
        within = omega arith;
        spells = subst (λ ts. Spells commas (nil (joined open'.span close.span)) 0 ts close.rest) (sym open'.is)
            (subst (λ ts. Spells commas (nil (joined open'.span close.span)) 0 (token OpenList open'.span ∷ ts) close.rest) (sym close.is)
            (empty_list commas open'.span close.span close.rest));
        left = close.left;
        same = ap (λ (n : ℕ). Application n None none no_span) (sym nils);
        starts = ap is_left_plain open'.is;
        unsigned = λ low other. ap (begins_with is_integer) open'.is;
      }

  name_read : ReadsWhole (Application name' None none span) 0 false (λ commas. name_piece names name' ∷ [])
  name_read commas tokens after chain same fits =
      let first = take_name names fixed name' tokens after same in
      token_read commas (Application name' None none span) (Application name' None none first.span) first.kind first.span tokens first.rest after first.is first.left
      (constant commas first.kind name' first.span first.rest (first.named first.rest) (begins_is goes_on_name first.rest ∙ ap (begins goes_on_name) first.left ∙ fits)) refl first.kept (λ other. first.other)

  constant_by : (test : Bool) → (name' == 1) ≡ test → ReadsWhole (Application name' None none span) 0 false (λ commas. cond test (Token OpenList ∷ Token CloseList ∷ []) (name_piece names name' ∷ []))
  constant_by true e = nil_read (eqb-true name' 1 e)
  constant_by false e = name_read

  module _ (first : Term) (others : Terms) (reads : Reads names first) (all : AllRead names others) where
    abbrev inner : List Piece
    inner = part_pieces argument_most false (part_of names first) ++ other_pieces (parts_of names others)

    application_read : ReadsWhole (Application name' None (more first others) span) 0 false (λ commas. name_piece names name' ∷ Token OpenArgs ∷ inner)
    application_read commas tokens after chain same fits =
        let start = take_name names fixed name' tokens (Token OpenArgs ∷ (inner ++ after)) same in
        let open' = take_token OpenArgs start.rest (kinds_of (inner ++ after)) start.left in
        let arguments = arguments_read names first others reads all open'.rest after open'.left in
        record {
          found = Application name' None arguments.found (joined start.span arguments.close);
          priority = 0;
          rest = arguments.rest;
          within = omega arith;
          spells = subst (λ ts. Spells commas (Application name' None arguments.found (joined start.span arguments.close)) 0 ts arguments.rest) (sym start.is)
              (subst (λ ts. Spells commas (Application name' None arguments.found (joined start.span arguments.close)) 0 (token start.kind start.span ∷ ts) arguments.rest) (sym open'.is)
              (application commas start.kind name' arguments.found start.span open'.span arguments.close open'.rest arguments.rest (start.named (token OpenArgs open'.span ∷ open'.rest)) arguments.spells));
          left = arguments.left;
          same = ap (λ ts. Application name' None ts no_span) arguments.same;
          starts = ap is_left_plain start.is ∙ start.kept;
          unsigned = λ low other. ap (begins_with is_integer) start.is ∙ start.other;
        }

module _ (names : List (List ℕ)) (fixed : HoldsFixed names) (name' qualifier : ℕ) (span : Span) where
  qualified_read : ReadsWhole (Application name' (Some qualifier) none span) 0 false (λ commas. name_piece names qualifier ∷ Token Dot ∷ name_piece names name' ∷ [])
  qualified_read commas tokens after chain same fits =
      let first = take_name names fixed qualifier tokens (Token Dot ∷ name_piece names name' ∷ after) same in
      let mark = take_token Dot first.rest (kinds_of (name_piece names name' ∷ after)) first.left in
      let last = take_name names fixed name' mark.rest after mark.left in
      let rest_is : first.rest ≡ token Dot mark.span ∷ token last.kind last.span ∷ last.rest = mark.is ∙ ap (λ ts. token Dot mark.span ∷ ts) last.is in
      record {
        found = Application name' (Some qualifier) none (joined first.span last.span);
        priority = 0;
        rest = last.rest;
        within = omega arith;
        spells = subst (λ ts. Spells commas (Application name' (Some qualifier) none (joined first.span last.span)) 0 ts last.rest) (sym first.is)
            (subst (λ ts. Spells commas (Application name' (Some qualifier) none (joined first.span last.span)) 0 (token first.kind first.span ∷ ts) last.rest) (sym rest_is)
            (qualified commas first.kind last.kind qualifier name' first.span mark.span last.span last.rest (first.named (token Dot mark.span ∷ token last.kind last.span ∷ last.rest)) last.part
            (begins_is goes_on_name last.rest ∙ ap (begins goes_on_name) last.left ∙ fits)));
        left = last.left;
        same = refl;
        starts = ap is_left_plain first.is ∙ first.kept;
        unsigned = λ low other. ap (begins_with is_integer) first.is ∙ first.other;
      }

  module _ (first : Term) (others : Terms) (reads : Reads names first) (all : AllRead names others) where
    qualified_application_read : ReadsWhole (Application name' (Some qualifier) (more first others) span) 0 false
        (λ commas. name_piece names qualifier ∷ Token Dot ∷ name_piece names name' ∷ Token OpenArgs ∷ (part_pieces argument_most false (part_of names first) ++ other_pieces (parts_of names others)))
    qualified_application_read commas tokens after chain same fits =
        let pieces : List Piece = part_pieces argument_most false (part_of names first) ++ other_pieces (parts_of names others) in
        let start = take_name names fixed qualifier tokens (Token Dot ∷ name_piece names name' ∷ Token OpenArgs ∷ (pieces ++ after)) same in
        let mark = take_token Dot start.rest (kinds_of (name_piece names name' ∷ Token OpenArgs ∷ (pieces ++ after))) start.left in
        let last = take_name names fixed name' mark.rest (Token OpenArgs ∷ (pieces ++ after)) mark.left in
        let open' = take_token OpenArgs last.rest (kinds_of (pieces ++ after)) last.left in
        let arguments = arguments_read names first others reads all open'.rest after open'.left in
        let rest_is : start.rest ≡ token Dot mark.span ∷ token last.kind last.span ∷ token OpenArgs open'.span ∷ open'.rest =
        mark.is ∙ ap (λ ts. token Dot mark.span ∷ ts) (last.is ∙ ap (λ ts. token last.kind last.span ∷ ts) open'.is) in
        record {
          found = Application name' (Some qualifier) arguments.found (joined start.span arguments.close);
          priority = 0;
          rest = arguments.rest;
          within = omega arith;
          spells = subst (λ ts. Spells commas (Application name' (Some qualifier) arguments.found (joined start.span arguments.close)) 0 ts arguments.rest) (sym start.is)
              (subst (λ ts. Spells commas (Application name' (Some qualifier) arguments.found (joined start.span arguments.close)) 0 (token start.kind start.span ∷ ts) arguments.rest) (sym rest_is)
              (qualified_application commas start.kind last.kind qualifier name' arguments.found start.span mark.span last.span open'.span arguments.close open'.rest arguments.rest
              (start.named (token Dot mark.span ∷ token last.kind last.span ∷ token OpenArgs open'.span ∷ open'.rest)) last.part arguments.spells));
          left = arguments.left;
          same = ap (λ ts. Application name' (Some qualifier) ts no_span) arguments.same;
          starts = ap is_left_plain start.is ∙ start.kept;
          unsigned = λ low other. ap (begins_with is_integer) start.is ∙ start.other;
        }

-- a name with its arguments in its form

module _ (names : List (List ℕ)) (fixed : HoldsFixed names) (name' : ℕ) (span : Span) where
  plain_read : (arguments : Terms) → AllRead names arguments → ReadsWhole (Application name' None arguments span) 0 false (λ commas. plain_pieces names name' None (parts_of names arguments))
  plain_read none all = constant_by names fixed name' span (name' == 1) refl
  plain_read (more first others) all = application_read names fixed name' span first others all.0 all.1

  abbrev Whole : Terms → Form → Type 0
  Whole arguments form = AllRead names arguments → ReadsWhole (Application name' None arguments span) (form_priority form) (is_comma_form form) (λ commas. formed names commas form name' None (parts_of names arguments))

  whole_by : (arguments : Terms) (form : Form) → IsForm name' arguments form → Whole arguments form
  whole_by arguments form (is_list head tail a f cons) = subst (λ ts. Whole ts form) (sym a) (subst (λ g. Whole (more head (more tail none)) g) (sym f)
      (λ all. list_read names head tail all.0 all.1.0 name' span cons))
  whole_by arguments form (is_infix left right operator a f row) = subst (λ ts. Whole ts form) (sym a) (subst (λ g. Whole (more left (more right none)) g) (sym f)
      (λ all. infix_read names name' operator left right span row all.0 all.1.0))
  whole_by arguments form (is_prefix operand operator a f row one) = subst (λ ts. Whole ts form) (sym a) (subst (λ g. Whole (more operand none) g) (sym f)
      (λ all. prefix_read names name' operator operand span row one all.0))
  whole_by arguments form (is_quantifier variables goal operator a f row two) = subst (λ ts. Whole ts form) (sym a) (subst (λ g. Whole (more variables (more goal none)) g) (sym f)
      (λ all. quantifier_read names name' operator variables goal span row two all.0 all.1.0))
  whole_by arguments form (is_plain_form f) = subst (λ g. Whole arguments g) (sym f) (plain_read arguments)

  form_bounded : (arguments : Terms) (form : Form) → IsForm name' arguments form → form_priority form ≤ term_most
  form_bounded arguments form (is_list head tail a f cons) = rw f (omega arith)
  form_bounded arguments form (is_infix left right operator a f row) = rw f (infix_bounded name' operator row).high
  form_bounded arguments form (is_prefix operand operator a f row one) = rw f (prefix_bounded name' operator row).high
  form_bounded arguments form (is_quantifier variables goal operator a f row two) = rw f (prefix_bounded name' operator row).high
  form_bounded arguments form (is_plain_form f) = rw f (omega arith)

  module _ (arguments : Terms) (all : AllRead names arguments) where
    abbrev term : Term
    term = Application name' None arguments span

    barred : (form_of name' None arguments ≡ ListForm → ⊥) → is_nil_term term ≡ false → ReadsTail term (part_of names term).tail
    barred unlisted other = tail_by_bar names term (form_bounded arguments (form_of name' None arguments) (seen name' arguments))
        (whole_by arguments (form_of name' None arguments) (seen name' arguments) all) (other_tail names term unlisted other)

  nil_tail : name' ≡ 1 → ReadsTail (Application name' None none span) []
  nil_tail nils head priority tokens rest after spells within same =
      let close = take_token CloseList rest (kinds_of after) same in
      record {
        found = λ whole. cell whole head (nil whole);
        close = close.span;
        rest = close.rest;
        spells = λ whole. last_item whole head priority close.span tokens close.rest (subst (λ ts. Spells false head priority tokens ts) close.is spells) within;
        left = close.left;
        same = λ whole. ap (λ (n : ℕ). Application cons_name None (more (bare head) (more (Application n None none no_span) none)) no_span) (sym nils);
      }

  plain_tail_none : form_of name' None none ≡ PlainForm → (test : Bool) → (name' == 1) ≡ test → ReadsTail (Application name' None none span) (part_of names (Application name' None none span)).tail
  plain_tail_none f true e = subst (λ ts. ReadsTail (Application name' None none span) ts)
      (sym (ap (λ g. tail_pieces names g name' None []) f ∙ ap (λ b. cond b [] (bar_pieces (plain_pieces names name' None []))) e)) (nil_tail (eqb-true name' 1 e))
  plain_tail_none f false e = barred none tt (λ l. plain_not_list (sym f ∙ l)) (ap (λ b. b && true) e)

  plain_tail : (arguments : Terms) → AllRead names arguments → form_of name' None arguments ≡ PlainForm → ReadsTail (Application name' None arguments span) (part_of names (Application name' None arguments span)).tail
  plain_tail none all f = plain_tail_none f (name' == 1) refl
  plain_tail (more first others) all f = barred (more first others) all (λ l. plain_not_list (sym f ∙ l)) (no_nil name' first others)

  abbrev Tail : Terms → Type 0
  Tail arguments = AllRead names arguments → form_of name' None arguments ≡ ListForm → ReadsTail (Application name' None arguments span) (part_of names (Application name' None arguments span)).tail

  abbrev Barred : Form → Terms → Type 0
  Barred form arguments = AllRead names arguments → form_of name' None arguments ≡ form → ReadsTail (Application name' None arguments span) (part_of names (Application name' None arguments span)).tail

  tail_by_form : (arguments : Terms) (form : Form) → form_of name' None arguments ≡ form → IsForm name' arguments form → AllRead names arguments → ReadsTail (Application name' None arguments span) (part_of names (Application name' None arguments span)).tail
  tail_by_form arguments form e (is_list head tail a f cons) all = subst Tail (sym a) (λ all' l.
      subst (λ ts. ReadsTail (Application name' None (more head (more tail none)) span) ts) (sym (list_tail names (Application name' None (more head (more tail none)) span) (sym l)))
      (list_tail_read names head tail all'.0 all'.1.0 name' span cons)) all (e ∙ f)
  tail_by_form arguments form e (is_infix left right operator a f row) all = subst (Barred form) (sym a) (λ all' l. barred (more left (more right none)) all' (λ l'. infix_not_list operator (sym f ∙ sym l ∙ l')) (no_nil name' left (more right none))) all e
  tail_by_form arguments form e (is_prefix operand operator a f row one) all = subst (Barred form) (sym a) (λ all' l. barred (more operand none) all' (λ l'. prefix_not_list operator (sym f ∙ sym l ∙ l')) (no_nil name' operand none)) all e
  tail_by_form arguments form e (is_quantifier variables goal operator a f row two) all = subst (Barred form) (sym a) (λ all' l. barred (more variables (more goal none)) all' (λ l'. quantifier_not_list operator (sym f ∙ sym l ∙ l')) (no_nil name' variables (more goal none))) all e
  tail_by_form arguments form e (is_plain_form f) all = plain_tail arguments all (e ∙ f)

-- what a tail begins with
tail_begins : (names : List (List ℕ)) (form : Form) (name' : ℕ) (qualifier : Option ℕ) (parts : List Part) (after : List Piece) → begins goes_on_name (kinds_of (tail_pieces names form name' qualifier parts ++ Token CloseList ∷ after)) ≡ false
tail_begins names ListForm name' qualifier parts after = refl
tail_begins names (InfixForm operator) name' qualifier parts after = refl
tail_begins names (PrefixForm operator) name' qualifier parts after = refl
tail_begins names (QuantifierForm operator) name' qualifier parts after = refl
tail_begins names PlainForm name' qualifier parts after =
    elim (is_nil name' qualifier parts) as (λ b. begins goes_on_name (kinds_of (cond b [] (bar_pieces (plain_pieces names name' qualifier parts)) ++ Token CloseList ∷ after)) ≡ false) [ true ↦ refl | false ↦ refl ]

qualified_whole : (names : List (List ℕ)) → HoldsFixed names → (name' qualifier : ℕ) (arguments : Terms) (span : Span) → AllRead names arguments
    → ReadsWhole (Application name' (Some qualifier) arguments span) 0 false (λ commas. plain_pieces names name' (Some qualifier) (parts_of names arguments))
qualified_whole names fixed name' qualifier none span all = qualified_read names fixed name' qualifier span
qualified_whole names fixed name' qualifier (more first others) span all = qualified_application_read names fixed name' qualifier span first others all.0 all.1

-- each term reads as it is written

leaf_reads : (names : List (List ℕ)) (term : Term) (whole : ReadsWhole term (form_priority (part_of names term).form) (is_comma_form (part_of names term).form) (part_of names term).pieces)
    → form_priority (part_of names term).form ≤ term_most → bar_pieces (part_pieces argument_most false (part_of names term)) ≡ (part_of names term).tail
    → ((after : List Piece) → begins goes_on_name (kinds_of ((part_of names term).tail ++ Token CloseList ∷ after)) ≡ false) → Reads names term
leaf_reads names term whole bounded barred' first = record { bounded = bounded; whole = whole; tail = tail_by_bar names term bounded whole barred'; tail_first = first }

mutual
  pub reads : (names : List (List ℕ)) → HoldsFixed names → (term : Term) → Reads names term
  reads names fixed (Variable name' span) = leaf_reads names (Variable name' span) (variable_read name' span) (omega arith) refl (λ after. refl)
  reads names fixed (Integer value span) = leaf_reads names (Integer value span) (integer_read value span) (omega arith) refl (λ after. refl)
  reads names fixed (Text name' span) = leaf_reads names (Text name' span) (text_read name' span) (omega arith) refl (λ after. refl)
  reads names fixed (Application name' (Some qualifier) arguments span) =
      leaf_reads names (Application name' (Some qualifier) arguments span) (qualified_whole names fixed name' qualifier arguments span (all_read names fixed arguments)) (omega arith)
      (other_tail names (Application name' (Some qualifier) arguments span) (λ l. plain_not_list l) refl)
      (tail_begins names PlainForm name' (Some qualifier) (parts_of names arguments))
  reads names fixed (Application name' None arguments span) = record {
    bounded = form_bounded names fixed name' span arguments (form_of name' None arguments) (seen name' arguments);
    whole = whole_by names fixed name' span arguments (form_of name' None arguments) (seen name' arguments) (all_read names fixed arguments);
    tail = tail_by_form names fixed name' span arguments (form_of name' None arguments) refl (seen name' arguments) (all_read names fixed arguments);
    tail_first = tail_begins names (form_of name' None arguments) name' None (parts_of names arguments);
  }

  all_read : (names : List (List ℕ)) → HoldsFixed names → (terms : Terms) → AllRead names terms
  all_read names fixed none = tt
  all_read names fixed (more first rest) = (reads names fixed first, all_read names fixed rest)

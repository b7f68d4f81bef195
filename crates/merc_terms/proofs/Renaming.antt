-- Tokens with other integers spell the term with those integers. So what tokens spell is decided, integers that do not fit among it.
use Rattle.std.proofs.Common.{◌≡◌, ℕ, zero, suc, ◌≤◌, ℤ, pos, negsuc, neg_ℤ, Bool, true, false, ◌||◌, ◌&&◌, ◌==◌, List, [], ◌∷◌, None, refl, sym, ap, ap₂, subst, subst₂, ◌∙◌, arith, eqb-true, eq-eqb}
use Rattle.std.specs.Bool.{if◌then◌else◌}
use Rattle.std.proofs.lemmas.Option.{same_Some}
use Rattle.merc_base.specs.declared.place.Span.{Span}
use Rattle.merc_base.specs.Names.{minus_name, minus_name}
use Rattle.merc_terms.specs.Operators.{term_most}
use Rattle.merc_tokens.specs.declared.token.Token.{Token}
use Rattle.merc_tokens.specs.declared.token.TokenKind.{TokenKind}
use Rattle.merc_tokens.specs.declared.token.TokenKind.TheVariants.{Name, Quoted, Var, Int, Text as TextToken, OpenArgs, Open, Close, OpenList, CloseList, Comma, Bar, Dot, Stop}
use Rattle.merc_tree.specs.Term.{Term, Terms, Variable, Integer, Text, Application, none, more, span_of, with_span}
use Rattle.merc_terms.specs.declared.operators.Operator.{Operator}
use Rattle.merc_terms.specs.Reading.{token, joined, begins_with, is_integer, goes_on_name, is_infix_name, leaves_plain, is_left_plain, IsName, plain, left_plain, quoted, IsQualified, unquoted, quoted as quoted_behind, IsOpen, alone, behind_operator, IsPrefix, IsInfix, name as infix_name, comma as infix_comma, Spells, variable, integer, negative, text, constant, qualified, application, qualified_application, empty_list, list, parenthesis, before, quantifier, between, SpellsArguments, last_argument, argument, SpellsItems, last_item, items_tail, item}
use Rattle.merc_terms.specs.declared.built.Built.{Built}
use Rattle.merc_terms.specs.Reader.{Read, clipped, is_great, are_great, is_great_integer, pushed}
use Rattle.merc_terms.proofs.WholeTerms.{IsEnd, nothing, full_stop, whole_complete, great_fits}

abbrev renamed_kind : (ℕ → ℕ) → TokenKind → TokenKind
renamed_kind f (Name name) = Name name
renamed_kind f (Quoted name) = Quoted name
renamed_kind f (Var name) = Var name
renamed_kind f (Int value) = Int (f value)
renamed_kind f (TextToken name) = TextToken name
renamed_kind f OpenArgs = OpenArgs
renamed_kind f Open = Open
renamed_kind f Close = Close
renamed_kind f OpenList = OpenList
renamed_kind f CloseList = CloseList
renamed_kind f Comma = Comma
renamed_kind f Bar = Bar
renamed_kind f Dot = Dot
renamed_kind f Stop = Stop

abbrev renamed_all : (ℕ → ℕ) → List Token → List Token
renamed_all f [] = []
renamed_all f (first ∷ rest) = token (renamed_kind f first.kind) first.span ∷ renamed_all f rest

abbrev renamed_integer : (ℕ → ℕ) → ℤ → ℤ
renamed_integer f (pos n) = pos (f n)
renamed_integer f (negsuc n) = neg_ℤ (pos (f (suc n)))

abbrev mutual
  renamed : (ℕ → ℕ) → Term → Term
  renamed f (Variable name span) = Variable name span
  renamed f (Integer value span) = Integer (renamed_integer f value) span
  renamed f (Text name span) = Text name span
  renamed f (Application name qualifier arguments span) = Application name qualifier (renamed_terms f arguments) span

  renamed_terms : (ℕ → ℕ) → Terms → Terms
  renamed_terms f none = none
  renamed_terms f (more first rest) = more (renamed f first) (renamed_terms f rest)

-- what does not look at integers stays

span_of-renamed : (f : ℕ → ℕ) (term : Term) → span_of (renamed f term) ≡ span_of term
span_of-renamed f (Variable name span) = refl
span_of-renamed f (Integer value span) = refl
span_of-renamed f (Text name span) = refl
span_of-renamed f (Application name qualifier arguments span) = refl

with_span-renamed : (f : ℕ → ℕ) (span : Span) (term : Term) → with_span span (renamed f term) ≡ renamed f (with_span span term)
with_span-renamed f span (Variable name old) = refl
with_span-renamed f span (Integer value old) = refl
with_span-renamed f span (Text name old) = refl
with_span-renamed f span (Application name qualifier arguments old) = refl

abbrev Ignores : (TokenKind → Bool) → Type 0
Ignores test = (f : ℕ → ℕ) (kind : TokenKind) → test (renamed_kind f kind) ≡ test kind

goes_on_name-ignores : Ignores goes_on_name
goes_on_name-ignores f (Int value) = refl
goes_on_name-ignores f kind = refl

is_infix_name-ignores : Ignores is_infix_name
is_infix_name-ignores f (Int value) = refl
is_infix_name-ignores f kind = refl

is_integer-ignores : Ignores is_integer
is_integer-ignores f (Int value) = refl
is_integer-ignores f kind = refl

leaves_plain-ignores : Ignores leaves_plain
leaves_plain-ignores f (Int value) = refl
leaves_plain-ignores f kind = refl

begins_with-renamed : (test : TokenKind → Bool) → Ignores test → (f : ℕ → ℕ) (tokens : List Token) → begins_with test (renamed_all f tokens) ≡ begins_with test tokens
begins_with-renamed test ignores f [] = refl
begins_with-renamed test ignores f (first ∷ rest) = ignores f first.kind

is_left_plain-renamed : (f : ℕ → ℕ) (tokens : List Token) → is_left_plain (renamed_all f tokens) ≡ is_left_plain tokens
is_left_plain-renamed f [] = refl
is_left_plain-renamed f (first ∷ rest) = leaves_plain-ignores f first.kind

IsName-renamed : (f : ℕ → ℕ) (kind : TokenKind) (name : ℕ) (rest : List Token) → IsName kind name rest → IsName (renamed_kind f kind) name (renamed_all f rest)
IsName-renamed f kind name rest (plain _ _ row) = plain name (renamed_all f rest) row
IsName-renamed f kind name rest (left_plain _ _ left) = left_plain name (renamed_all f rest) (is_left_plain-renamed f rest ∙ left)
IsName-renamed f kind name rest (quoted _ _) = quoted name (renamed_all f rest)

IsQualified-renamed : (f : ℕ → ℕ) (kind : TokenKind) (name : ℕ) → IsQualified kind name → IsQualified (renamed_kind f kind) name
IsQualified-renamed f kind name (unquoted _) = unquoted name
IsQualified-renamed f kind name (quoted_behind _) = quoted_behind name

IsOpen-renamed : (f : ℕ → ℕ) (kind : TokenKind) → IsOpen kind → IsOpen (renamed_kind f kind)
IsOpen-renamed f kind alone = alone
IsOpen-renamed f kind behind_operator = behind_operator

IsInfix-renamed : (f : ℕ → ℕ) (commas : Bool) (kind : TokenKind) (operator : Operator) → IsInfix commas kind operator → IsInfix commas (renamed_kind f kind) operator
IsInfix-renamed f commas kind operator (infix_name _ name _ found) = infix_name commas name operator found
IsInfix-renamed f commas kind operator (infix_comma _ found) = infix_comma operator found

IsPrefix-renamed : (f : ℕ → ℕ) (name : ℕ) (operator : Operator) (rest : List Token) → IsPrefix name operator rest → IsPrefix name operator (renamed_all f rest)
IsPrefix-renamed f name operator rest is = record {
  row = is.row;
  not_plain = is_left_plain-renamed f rest ∙ is.not_plain;
  no_sign = ap (λ (b : Bool). (name == minus_name) && b) (begins_with-renamed is_integer is_integer-ignores f rest) ∙ is.no_sign;
}

ends-renamed : (f : ℕ → ℕ) (rest : List Token) → begins_with goes_on_name rest ≡ false → begins_with goes_on_name (renamed_all f rest) ≡ false
ends-renamed f rest ends = begins_with-renamed goes_on_name goes_on_name-ignores f rest ∙ ends

negative-renamed : (f : ℕ → ℕ) → f 0 ≡ 0 → (value : ℕ) → neg_ℤ (pos (f value)) ≡ renamed_integer f (neg_ℤ (pos value))
negative-renamed f same zero = ap (λ (n : ℕ). neg_ℤ (pos n)) same ∙ sym (ap pos same)
negative-renamed f same (suc value) = refl

mutual
  Spells-renamed : (f : ℕ → ℕ) → f 0 ≡ 0 → {commas : Bool} {term : Term} {priority : ℕ} {tokens rest : List Token} → Spells commas term priority tokens rest
      → Spells commas (renamed f term) priority (renamed_all f tokens) (renamed_all f rest)
  Spells-renamed f same (variable commas name span rest) = variable commas name span (renamed_all f rest)
  Spells-renamed f same (integer commas value span rest) = integer commas (f value) span (renamed_all f rest)
  Spells-renamed f same (negative commas value sign span rest) =
      subst (λ (z : ℤ). Spells commas (Integer z (joined sign span)) 0 (token (Name minus_name) sign ∷ token (Int (f value)) span ∷ renamed_all f rest) (renamed_all f rest))
      (negative-renamed f same value) (negative commas (f value) sign span (renamed_all f rest))
  Spells-renamed f same (text commas name span rest) = text commas name span (renamed_all f rest)
  Spells-renamed f same (constant commas kind name span rest named ends) =
      constant commas (renamed_kind f kind) name span (renamed_all f rest) (IsName-renamed f kind name rest named) (ends-renamed f rest ends)
  Spells-renamed f same (qualified commas kind kind' qualifier name span mark span' rest named behind ends) =
      qualified commas (renamed_kind f kind) (renamed_kind f kind') qualifier name span mark span' (renamed_all f rest)
      (IsName-renamed f kind qualifier (token Dot mark ∷ token kind' span' ∷ rest) named) (IsQualified-renamed f kind' name behind) (ends-renamed f rest ends)
  Spells-renamed f same (application commas kind name arguments span open' close inner rest named inside) =
      application commas (renamed_kind f kind) name (renamed_terms f arguments) span open' close (renamed_all f inner) (renamed_all f rest)
      (IsName-renamed f kind name (token OpenArgs open' ∷ inner) named) (SpellsArguments-renamed f same inside)
  Spells-renamed f same (qualified_application commas kind kind' qualifier name arguments span mark span' open' close inner rest named behind inside) =
      qualified_application commas (renamed_kind f kind) (renamed_kind f kind') qualifier name (renamed_terms f arguments) span mark span' open' close (renamed_all f inner) (renamed_all f rest)
      (IsName-renamed f kind qualifier (token Dot mark ∷ token kind' span' ∷ token OpenArgs open' ∷ inner) named) (IsQualified-renamed f kind' name behind) (SpellsArguments-renamed f same inside)
  Spells-renamed f same (empty_list commas open' close rest) = empty_list commas open' close (renamed_all f rest)
  Spells-renamed f same (list commas term open' close inner rest inside) =
      list commas (renamed f term) open' close (renamed_all f inner) (renamed_all f rest) (SpellsItems-renamed f same inside)
  Spells-renamed f same (parenthesis commas kind term priority open' close inner rest opens inside within) =
      subst (λ (t : Term). Spells commas t 0 (token (renamed_kind f kind) open' ∷ renamed_all f inner) (renamed_all f rest)) (with_span-renamed f (joined open' close) term)
      (parenthesis commas (renamed_kind f kind) (renamed f term) priority open' close (renamed_all f inner) (renamed_all f rest) (IsOpen-renamed f kind opens) (Spells-renamed f same inside) within)
  Spells-renamed f same (before commas name priority operator operand span inner rest prefix one inside within) =
      subst (λ (s : Span). Spells commas (Application name None (more (renamed f operand) none) (joined span s)) operator.priority (token (Name name) span ∷ renamed_all f inner) (renamed_all f rest))
      (span_of-renamed f operand)
      (before commas name priority operator (renamed f operand) span (renamed_all f inner) (renamed_all f rest) (IsPrefix-renamed f name operator inner prefix) one (Spells-renamed f same inside) within)
  Spells-renamed f same (quantifier commas name priority priority' operator variables goal span inner middle rest prefix two first within apart second within') =
      subst (λ (s : Span). Spells commas (Application name None (more (renamed f variables) (more (renamed f goal) none)) (joined span s)) operator.priority (token (Name name) span ∷ renamed_all f inner) (renamed_all f rest))
      (span_of-renamed f goal)
      (quantifier commas name priority priority' operator (renamed f variables) (renamed f goal) span (renamed_all f inner) (renamed_all f middle) (renamed_all f rest)
      (IsPrefix-renamed f name operator inner prefix) two (Spells-renamed f same first) within
      (begins_with-renamed is_infix_name is_infix_name-ignores f middle ∙ apart) (Spells-renamed f same second) within')
  Spells-renamed f same (between commas kind priority priority' operator left right span tokens middle rest first going within second within') =
      subst₂ (λ (s s' : Span). Spells commas (Application operator.name None (more (renamed f left) (more (renamed f right) none)) (joined s s')) operator.priority (renamed_all f tokens) (renamed_all f rest))
      (span_of-renamed f left) (span_of-renamed f right)
      (between commas (renamed_kind f kind) priority priority' operator (renamed f left) (renamed f right) span (renamed_all f tokens) (renamed_all f middle) (renamed_all f rest)
      (Spells-renamed f same first) (IsInfix-renamed f commas kind operator going) within (Spells-renamed f same second) within')

  SpellsArguments-renamed : (f : ℕ → ℕ) → f 0 ≡ 0 → {terms : Terms} {close : Span} {tokens rest : List Token} → SpellsArguments terms close tokens rest
      → SpellsArguments (renamed_terms f terms) close (renamed_all f tokens) (renamed_all f rest)
  SpellsArguments-renamed f same (last_argument term priority close tokens rest inside within) =
      last_argument (renamed f term) priority close (renamed_all f tokens) (renamed_all f rest) (Spells-renamed f same inside) within
  SpellsArguments-renamed f same (argument term terms priority mark close tokens middle rest first within others) =
      argument (renamed f term) (renamed_terms f terms) priority mark close (renamed_all f tokens) (renamed_all f middle) (renamed_all f rest)
      (Spells-renamed f same first) within (SpellsArguments-renamed f same others)

  SpellsItems-renamed : (f : ℕ → ℕ) → f 0 ≡ 0 → {whole close : Span} {term : Term} {tokens rest : List Token} → SpellsItems whole term close tokens rest
      → SpellsItems whole (renamed f term) close (renamed_all f tokens) (renamed_all f rest)
  SpellsItems-renamed f same (last_item whole term priority close tokens rest inside within) =
      last_item whole (renamed f term) priority close (renamed_all f tokens) (renamed_all f rest) (Spells-renamed f same inside) within
  SpellsItems-renamed f same (items_tail whole term end priority priority' mark close tokens middle rest first within second within') =
      items_tail whole (renamed f term) (renamed f end) priority priority' mark close (renamed_all f tokens) (renamed_all f middle) (renamed_all f rest)
      (Spells-renamed f same first) within (Spells-renamed f same second) within'
  SpellsItems-renamed f same (item whole term others priority mark close tokens middle rest first within behind) =
      item whole (renamed f term) (renamed f others) priority mark close (renamed_all f tokens) (renamed_all f middle) (renamed_all f rest)
      (Spells-renamed f same first) within (SpellsItems-renamed f same behind)

-- Small integers that tell one of them from the others: 0 stays, the one becomes 2, each other 1.
abbrev marked : ℕ → ℕ → ℕ
marked one zero = 0
marked one (suc n) = if suc n == one then 2 else 1

marked_small : (one n : ℕ) → marked one n ≤ 2
marked_small one zero = omega arith
marked_small one (suc n) = go (suc n == one)
  where
    go : (b : Bool) → (if b then 2 else 1) ≤ 2
    go true = omega arith
    go false = omega arith

small_fits : (n : ℕ) → n ≤ 2 → is_great_integer (pos n) ≡ false
small_fits zero small = refl
small_fits (suc zero) small = refl
small_fits (suc (suc zero)) small = refl
small_fits (suc (suc (suc n))) small = absurd (omega arith)

small_fits_negative : (n : ℕ) → n ≤ 2 → is_great_integer (neg_ℤ (pos n)) ≡ false
small_fits_negative zero small = refl
small_fits_negative (suc zero) small = refl
small_fits_negative (suc (suc zero)) small = refl
small_fits_negative (suc (suc (suc n))) small = absurd (omega arith)

marked_integer_fits : (one : ℕ) (value : ℤ) → is_great_integer (renamed_integer (marked one) value) ≡ false
marked_integer_fits one (pos n) = small_fits (marked one n) (marked_small one n)
marked_integer_fits one (negsuc n) = small_fits_negative (marked one (suc n)) (marked_small one (suc n))

mutual
  marked_fits : (one : ℕ) (term : Term) → is_great (renamed (marked one) term) ≡ false
  marked_fits one (Variable name span) = refl
  marked_fits one (Integer value span) = marked_integer_fits one value
  marked_fits one (Text name span) = refl
  marked_fits one (Application name qualifier arguments span) = marked_all_fit one arguments

  marked_all_fit : (one : ℕ) (terms : Terms) → are_great (renamed_terms (marked one) terms) ≡ false
  marked_all_fit one none = refl
  marked_all_fit one (more first rest) = ap₂ (λ (a b : Bool). a || b) (marked_fits one first) (marked_all_fit one rest)

-- integers that no mark tells apart are the same

marked_self : (n : ℕ) → marked (suc n) (suc n) ≡ 2
marked_self n = ap (λ (b : Bool). if b then 2 else 1) (eq-eqb (suc n) (suc n) refl)

marked_only : (one n : ℕ) → marked one (suc n) ≡ 2 → suc n ≡ one
marked_only one n is = eqb-true (suc n) one (go (suc n == one) is)
  where
    go : (b : Bool) → ◌≡◌ {A = ℕ} (if b then 2 else 1) 2 → b ≡ true
    go true is' = refl
    go false is' = absurd (omega arith)

number_same : (a b : ℕ) → ((one : ℕ) → marked one a ≡ marked one b) → a ≡ b
number_same zero zero same = refl
number_same zero (suc b) same = let e : ◌≡◌ {A = ℕ} 0 2 = same (suc b) ∙ marked_self b in absurd (omega arith)
number_same (suc a) zero same = let e : ◌≡◌ {A = ℕ} 2 0 = sym (marked_self a) ∙ same (suc a) in absurd (omega arith)
number_same (suc a) (suc b) same = sym (marked_only (suc a) b (sym (same (suc a)) ∙ marked_self a))

pos_same : (a b : ℕ) → pos a ≡ pos b → a ≡ b
pos_same a b same = cc

not_negative : (a b : ℕ) → pos a ≡ neg_ℤ (pos b) → b ≡ 2 → ⊥
not_negative a b same is = let e : pos a ≡ negsuc 1 = same ∙ ap (λ (n : ℕ). neg_ℤ (pos n)) is in cc

negated_same : (a b : ℕ) → neg_ℤ (pos a) ≡ neg_ℤ (pos b) → a ≡ b
negated_same a b same = pos_same a b (sym (twice a) ∙ ap neg_ℤ same ∙ twice b)
  where
    twice : (n : ℕ) → neg_ℤ (neg_ℤ (pos n)) ≡ pos n
    twice zero = refl
    twice (suc n) = refl

integer_same : (x y : ℤ) → ((one : ℕ) → renamed_integer (marked one) x ≡ renamed_integer (marked one) y) → x ≡ y
integer_same (pos a) (pos b) same = ap pos (number_same a b (λ one. pos_same _ _ (same one)))
integer_same (pos a) (negsuc b) same = absurd (not_negative _ _ (same (suc b)) (marked_self b))
integer_same (negsuc a) (pos b) same = absurd (not_negative _ _ (sym (same (suc a))) (marked_self a))
integer_same (negsuc a) (negsuc b) same =
    let is : suc a ≡ suc b = number_same (suc a) (suc b) (λ one. negated_same _ _ (same one)) in ap negsuc (let is' : a ≡ b = omega arith in is')

mutual
  term_same : (one other : Term) → ((mark : ℕ) → renamed (marked mark) one ≡ renamed (marked mark) other) → one ≡ other
  term_same (Variable name span) (Variable name' span') same = same 0
  term_same (Integer value span) (Integer value' span') same =
      let spans : span ≡ span' = let e = same 0 in cc in
      ap₂ Integer (integer_same value value' (λ mark. let e = same mark in cc)) spans
  term_same (Text name span) (Text name' span') same = same 0
  term_same (Application name qualifier arguments span) (Application name' qualifier' arguments' span') same =
      let e = same 0 in
      let names : name ≡ name' = cc in
      let qualifiers : qualifier ≡ qualifier' = cc in
      let spans : span ≡ span' = cc in
      let all : arguments ≡ arguments' = terms_same arguments arguments' (λ mark. let e' = same mark in cc) in
      cc
  term_same one other same = absurd (let e = same 0 in cc)

  terms_same : (one other : Terms) → ((mark : ℕ) → renamed_terms (marked mark) one ≡ renamed_terms (marked mark) other) → one ≡ other
  terms_same none none same = refl
  terms_same (more first rest) (more first' rest') same =
      ap₂ more (term_same first first' (λ mark. let e = same mark in cc)) (terms_same rest rest' (λ mark. let e = same mark in cc))
  terms_same one other same = absurd (let e = same 0 in cc)

IsEnd-renamed : (f : ℕ → ℕ) (rest : List Token) → IsEnd rest → IsEnd (renamed_all f rest)
IsEnd-renamed f rest nothing = nothing
IsEnd-renamed f rest (full_stop stop others) = full_stop stop (renamed_all f others)

abbrev pub built_none : Built
built_none = record { terms = []; is_great = false }

clipped_same : (one other : Term) → pushed one built_none ≡ pushed other built_none → clipped one ≡ clipped other
clipped_same one other same = let e : ◌≡◌ {A = List Term} (clipped one ∷ []) (clipped other ∷ []) = ap (λ (b : Built). b.terms) same in cc

-- What whole term the tokens spell is decided, and what is left behind it.
pub Spells-unique : (one other : Term) (priority priority' : ℕ) (tokens rest rest' : List Token) → Spells true one priority tokens rest → priority ≤ term_most → IsEnd rest
    → Spells true other priority' tokens rest' → priority' ≤ term_most → IsEnd rest' → (one ≡ other) × (rest ≡ rest')
Spells-unique one other priority priority' tokens rest rest' spelled within ends spelled' within' ends' = (
  term_same one other (λ mark. alike (marked mark) refl (marked_fits mark one) (marked_fits mark other)),
  ap (λ (r : Read). r.rest) (same_Some _ _ (sym (whole_complete built_none one priority tokens rest spelled within ends) ∙ whole_complete built_none other priority' tokens rest' spelled' within' ends')),
)
  where
    alike : (f : ℕ → ℕ) → f 0 ≡ 0 → is_great (renamed f one) ≡ false → is_great (renamed f other) ≡ false → renamed f one ≡ renamed f other
    alike f same fits fits' =
        let at = whole_complete built_none (renamed f one) priority (renamed_all f tokens) (renamed_all f rest) (Spells-renamed f same spelled) within (IsEnd-renamed f rest ends) in
        let at' = whole_complete built_none (renamed f other) priority' (renamed_all f tokens) (renamed_all f rest') (Spells-renamed f same spelled') within' (IsEnd-renamed f rest' ends') in
        let both = same_Some _ _ (sym at ∙ at') in
        sym (great_fits (renamed f one) fits).1 ∙ clipped_same (renamed f one) (renamed f other) (ap (λ (r : Read). r.built) both) ∙ (great_fits (renamed f other) fits').1

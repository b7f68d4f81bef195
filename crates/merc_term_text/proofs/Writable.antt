-- What was read from a text can be written.
use Rattle.std.proofs.Common.{ℕ, Bool, true, false, List, [], ◌∷◌, Some, None, codes, refl, sym, subst, arith}
use Rattle.std.specs.Char.{encode_utf8}
use Rattle.merc_base.specs.Names.{HoldsFixed, fixed_names, comma_name, cons_name, nil_name}
use Rattle.merc_base.specs.declared.place.Span.{Span}
use Rattle.merc_terms.proofs.Table.{infix_name as infix_is_named}
use Rattle.merc_tokens.specs.declared.token.Token.{Token}
use Rattle.merc_tokens.specs.declared.token.TokenKind.{TokenKind}
use Rattle.merc_tree.specs.Term.{Term, Terms, Variable, Integer, Text, Application, none, more, bare, bare_all, with_span, HasWords, HaveWords}
use Rattle.merc_terms.specs.declared.operators.Operator.{Operator}
use Rattle.merc_terms.specs.Reading.{Spells, SpellsArguments, SpellsItems, IsName, IsQualified, IsInfix}
use Rattle.merc_terms.specs.Reading.IsName.{plain, left_plain, quoted}
use Rattle.merc_terms.specs.Reading.IsQualified.{unquoted, quoted as quoted_part}
use Rattle.merc_terms.specs.Reading.IsInfix.{name as infix_name, comma as infix_comma}
use Rattle.merc_terms.specs.Reading.Spells.{variable, integer, negative, text, constant, qualified, application, qualified_application, empty_list, list, parenthesis, before, quantifier, between}
use Rattle.merc_terms.specs.Reading.SpellsArguments.{last_argument, argument}
use Rattle.merc_terms.specs.Reading.SpellsItems.{last_item, items_tail, item}
use Rattle.merc_terms.specs.Items.{SpellsItem, IsAllowed, HasItems}
use Rattle.merc_terms.specs.Items.HasItems.{item as items_item}
use Rattle.merc_term_text.specs.ReadsAs.{ReadsAs}
use Rattle.merc_term_text.proofs.Parted.{HasName, IsWritable, AreWritable}
use Rattle.merc_term_text.proofs.TokensKnown.{IsKnown, AreKnown, tokens-valid, tokens-known}

-- spans say nothing

mutual
  bare-writable : (names : List (List ℕ)) (term : Term) → IsWritable names term → IsWritable names (bare term)
  bare-writable names (Variable name span) known = known
  bare-writable names (Integer value span) known = known
  bare-writable names (Text name span) known = known
  bare-writable names (Application name None arguments span) known = (known.0, bare_all-writable names arguments known.1)
  bare-writable names (Application name (Some qualifier) arguments span) known = (known.0, known.1, bare_all-writable names arguments known.2)

  bare_all-writable : (names : List (List ℕ)) (terms : Terms) → AreWritable names terms → AreWritable names (bare_all terms)
  bare_all-writable names none known = tt
  bare_all-writable names (more first rest) known = (bare-writable names first known.0, bare_all-writable names rest known.1)

mutual
  writable-bare : (names : List (List ℕ)) (term : Term) → IsWritable names (bare term) → IsWritable names term
  writable-bare names (Variable name span) known = known
  writable-bare names (Integer value span) known = known
  writable-bare names (Text name span) known = known
  writable-bare names (Application name None arguments span) known = (known.0, writable-bare_all names arguments known.1)
  writable-bare names (Application name (Some qualifier) arguments span) known = (known.0, known.1, writable-bare_all names arguments known.2)

  writable-bare_all : (names : List (List ℕ)) (terms : Terms) → AreWritable names (bare_all terms) → AreWritable names terms
  writable-bare_all names none known = tt
  writable-bare_all names (more first rest) known = (writable-bare names first known.0, writable-bare_all names rest known.1)

-- a term whose integers have 64 bits can be written
abbrev MayWrite : List (List ℕ) → Term → Type 0
MayWrite names term = HasWords term → IsWritable names term

abbrev MayWriteAll : List (List ℕ) → Terms → Type 0
MayWriteAll names terms = HaveWords terms → AreWritable names terms

with_span-writable : (names : List (List ℕ)) (span : Span) (term : Term) → MayWrite names term → MayWrite names (with_span span term)
with_span-writable names span (Variable name old) may = may
with_span-writable names span (Integer value old) may = may
with_span-writable names span (Text name old) may = may
with_span-writable names span (Application name None arguments old) may = may
with_span-writable names span (Application name (Some qualifier) arguments old) may = may

module _ (names : List (List ℕ)) (fixed : HoldsFixed names) where
  nil-has : HasName names nil_name
  unfolding fixed_names encode_utf8
  nil-has = record { text = codes "[]"; there = fixed.text nil_name (codes "[]") refl; utf8 = (codes "[]", (refl, refl)); short = omega arith }

  cell-has : HasName names cons_name
  unfolding fixed_names encode_utf8
  cell-has = record { text = codes "[|]"; there = fixed.text cons_name (codes "[|]") refl; utf8 = (codes "[|]", (refl, refl)); short = omega arith }

  comma-has : HasName names comma_name
  unfolding fixed_names encode_utf8
  comma-has = record { text = codes ","; there = fixed.text comma_name (codes ",") refl; utf8 = (codes ",", (refl, refl)); short = omega arith }

  name-has : (kind : TokenKind) (name : ℕ) (rest : List Token) → IsName kind name rest → IsKnown names kind → HasName names name
  name-has _ _ _ (plain name rest other) known = known
  name-has _ _ _ (left_plain name rest left) known = known
  name-has _ _ _ (quoted name rest) known = known

  qualified-has : (kind : TokenKind) (name : ℕ) → IsQualified kind name → IsKnown names kind → HasName names name
  qualified-has _ _ (unquoted name) known = known
  qualified-has _ _ (quoted_part name) known = known

  infix-has : (commas : Bool) (kind : TokenKind) (operator : Operator) → IsInfix commas kind operator → IsKnown names kind → HasName names operator.name
  infix-has _ _ _ (infix_name commas name operator is) known = subst (HasName names) (sym (infix_is_named name operator is)) known
  infix-has _ _ _ (infix_comma operator is) known = subst (HasName names) (sym (infix_is_named comma_name operator is)) comma-has

  mutual
    -- a term that tokens spell can be written, and what stands behind it is known
    term-known : (commas : Bool) (term : Term) (priority : ℕ) (tokens rest : List Token) → Spells commas term priority tokens rest → AreKnown names tokens → MayWrite names term × AreKnown names rest
    term-known _ _ _ _ _ (variable commas name span rest) known = (λ words. known.0, known.1)
    term-known _ _ _ _ _ (integer commas value span rest) known = (λ words. words, known.1)
    term-known _ _ _ _ _ (negative commas value sign span rest) known = (λ words. words, known.1.1)
    term-known _ _ _ _ _ (text commas name span rest) known = (λ words. known.0, known.1)
    term-known _ _ _ _ _ (constant commas kind name span rest is goes) known = (λ words. (name-has kind name rest is known.0, tt), known.1)
    term-known _ _ _ _ _ (qualified commas kind kind' qualifier name span mark span' rest is also goes) known =
        (λ words. (qualified-has kind' name also known.1.1.0, name-has kind qualifier _ is known.0, tt), known.1.1.1)
    term-known _ _ _ _ _ (application commas kind name arguments span open' close inner rest is others) known =
        let found = arguments-known arguments close inner rest others known.1.1 in
        (λ words. (name-has kind name _ is known.0, found.0 words), found.1)
    term-known _ _ _ _ _ (qualified_application commas kind kind' qualifier name arguments span mark span' open' close inner rest is also others) known =
        let found = arguments-known arguments close inner rest others known.1.1.1.1 in
        (λ words. (qualified-has kind' name also known.1.1.0, name-has kind qualifier _ is known.0, found.0 words), found.1)
    term-known _ _ _ _ _ (empty_list commas open' close rest) known = (λ words. (nil-has, tt), known.1.1)
    term-known _ _ _ _ _ (list commas term open' close inner rest others) known = items-known _ term close inner rest others known.1
    term-known _ _ _ _ _ (parenthesis commas kind term priority open' close inner rest opens inside within) known =
        let found = term-known true term priority inner _ inside known.1 in
        (with_span-writable names _ term found.0, found.1.1)
    term-known _ _ _ _ _ (before commas name priority operator operand span inner rest prefix one spelled within) known =
        let found = term-known commas operand priority inner rest spelled known.1 in
        (λ words. (known.0, (found.0 words.0, tt)), found.1)
    term-known _ _ _ _ _ (quantifier commas name priority priority' operator variables goal span inner middle rest prefix two spelled within apart spelled' within') known =
        let found = term-known commas variables priority inner middle spelled known.1 in
        let also = term-known commas goal priority' middle rest spelled' found.1 in
        (λ words. (known.0, (found.0 words.0, (also.0 words.1.0, tt))), also.1)
    term-known _ _ _ _ _ (between commas kind priority priority' operator left right span tokens middle rest spelled is within spelled' within') known =
        let found = term-known commas left priority tokens _ spelled known in
        let also = term-known commas right priority' middle rest spelled' found.1.1 in
        (λ words. (infix-has commas kind operator is found.1.0, (found.0 words.0, (also.0 words.1.0, tt))), also.1)

    arguments-known : (terms : Terms) (close : Span) (tokens rest : List Token) → SpellsArguments terms close tokens rest → AreKnown names tokens → MayWriteAll names terms × AreKnown names rest
    arguments-known _ _ _ _ (last_argument term priority close tokens rest spelled within) known =
        let found = term-known false term priority tokens _ spelled known in
        (λ words. (found.0 words.0, tt), found.1.1)
    arguments-known _ _ _ _ (argument term terms priority comma close tokens middle rest spelled within others) known =
        let found = term-known false term priority tokens _ spelled known in
        let also = arguments-known terms close middle rest others found.1.1 in
        (λ words. (found.0 words.0, also.0 words.1), also.1)

    items-known : (whole : Span) (term : Term) (close : Span) (tokens rest : List Token) → SpellsItems whole term close tokens rest → AreKnown names tokens → MayWrite names term × AreKnown names rest
    items-known _ _ _ _ _ (last_item whole term priority close tokens rest spelled within) known =
        let found = term-known false term priority tokens _ spelled known in
        (λ words. (cell-has, (found.0 words.0, ((nil-has, tt), tt))), found.1.1)
    items-known _ _ _ _ _ (items_tail whole term end priority priority' bar close tokens middle rest spelled within spelled' within') known =
        let found = term-known false term priority tokens _ spelled known in
        let also = term-known false end priority' middle _ spelled' found.1.1 in
        (λ words. (cell-has, (found.0 words.0, (also.0 words.1.0, tt))), also.1.1)
    items-known _ _ _ _ _ (item whole term others priority comma close tokens middle rest spelled within more') known =
        let found = term-known false term priority tokens _ spelled known in
        let also = items-known whole others close middle rest more' found.1.1 in
        (λ words. (cell-has, (found.0 words.0, (also.0 words.1.0, tt))), also.1)

  item-writable : (term : Term) (tokens rest : List Token) → SpellsItem term tokens rest → IsAllowed term → AreKnown names tokens → IsWritable names term
  item-writable term tokens rest spells allowed known = (term-known true term spells.priority tokens _ spells.spelled known).0 allowed.words

  found-writable : (tokens : List Token) (term : Term) → HasItems tokens (term ∷ []) → AreKnown names tokens → IsWritable names term
  found-writable _ _ (items_item term terms tokens rest spells allowed others) known = item-writable term tokens rest spells allowed known

-- what a text reads as can be written
pub writable : (names : List (List ℕ)) (text : List ℕ) (term : Term) → HoldsFixed names → ReadsAs names text term → IsWritable names term
writable names source term fixed reads =
    let known : AreKnown names reads.tokens = tokens-known names reads.tokens reads.spelled reads.named (tokens-valid source 0 false reads.spelled reads.has.utf8 reads.has.all) in
    let found : IsWritable names reads.found = found-writable names fixed reads.tokens reads.found reads.item known in
    writable-bare names term (subst (IsWritable names) reads.same (bare-writable names reads.found found))

-- A table of names that a text's tokens were put into: it grows, stays distinct, and tells the tokens.
use Rattle.std.proofs.Common.{◌≡◌, ℕ, Bool, true, false, List, [], ◌∷◌, ◌++◌, cond, fold, map, Option, Some, None, slice_get, refl, sym, ap, subst, ◌∙◌, append_assoc}
use Rattle.std.proofs.lemmas.List.{append-nil}
use Rattle.std.specs.List.{IsDistinct, flat_map}
use Rattle.std.specs.Option.{option_map}
use Rattle.std.specs.Str.{bytes_eq}
use Rattle.merc_base.specs.Texts.{is_among, with_text}
use Rattle.merc_base.proofs.NameLaws.{fold-distinct, names_equal}
use Rattle.merc_tokens.specs.declared.token.Token.{Token}
use Rattle.merc_tokens.specs.declared.token.TokenKind.{TokenKind}
use Rattle.merc_tokens.specs.declared.token.TokenKind.TheVariants.{Name as NameKind, Quoted as QuotedKind, Var as VarKind, Int as IntKind, Text as TextKind, OpenArgs as OpenArgsKind, Open as OpenKind, Close as CloseKind, OpenList as OpenListKind, CloseList as CloseListKind, Comma as CommaKind, Bar as BarKind, Dot as DotKind, Stop as StopKind}
use Rattle.merc_tokens.specs.declared.pieces.Spelling.{Spelling}
use Rattle.merc_tokens.specs.declared.pieces.Spelling.TheVariants.{Name, Quoted, Var, Int, Text, OpenArgs, Open, Close, OpenList, CloseList, Comma, Bar, Dot, Stop}
use Rattle.merc_tokens.specs.Tokens.{SpelledToken, ReadsTokens, named_text, spelling_in, with_names, with_texts}
use Rattle.merc_tokens.proofs.TokenLaws.{HasTokens-unique}

with_text-grows : (names : List (List ℕ)) (text : List ℕ) → (more : List (List ℕ)) × (with_text names text ≡ names ++ more)
with_text-grows names text = by (is_among text names)
  where
    by : (there : Bool) → (more : List (List ℕ)) × (cond there names (names ++ text ∷ []) ≡ names ++ more)
    by true = ([], sym (append-nil names))
    by false = (text ∷ [], refl)

fold-grows : (names texts : List (List ℕ)) → (more : List (List ℕ)) × (fold with_text names texts ≡ names ++ more)
fold-grows names [] = ([], sym (append-nil names))
fold-grows names (text ∷ texts) =
    let first = with_text-grows names text in
    let others = fold-grows (with_text names text) texts in
    (first.0 ++ others.0, others.1 ∙ ap (λ (front : List (List ℕ)). front ++ others.0) first.1 ∙ append_assoc names first.0 others.0)

-- the names that a table holds stand before those of the tokens
pub with_names-grows : (names : List (List ℕ)) (spelled : List SpelledToken) → (more : List (List ℕ)) × (with_names names spelled ≡ names ++ more)
with_names-grows names spelled = fold-grows names (flat_map (λ token. named_text token.kind) spelled)

-- and each text stays there once
pub with_names-distinct : (names : List (List ℕ)) (spelled : List SpelledToken) → IsDistinct bytes_eq names → IsDistinct bytes_eq (with_names names spelled)
with_names-distinct names spelled distinct = fold-distinct names (flat_map (λ token. named_text token.kind) spelled) distinct

-- which kind of token is spelled so
abbrev IsSpelled : List (List ℕ) → Spelling → TokenKind → Type 0
IsSpelled names (Name content) kind = (name : ℕ) × (kind ≡ NameKind name) × (slice_get names name ≡ Some content)
IsSpelled names (Quoted content) kind = (name : ℕ) × (kind ≡ QuotedKind name) × (slice_get names name ≡ Some content)
IsSpelled names (Var content) kind = (name : ℕ) × (kind ≡ VarKind name) × (slice_get names name ≡ Some content)
IsSpelled names (Int value) kind = kind ≡ IntKind value
IsSpelled names (Text content) kind = (name : ℕ) × (kind ≡ TextKind name) × (slice_get names name ≡ Some content)
IsSpelled names OpenArgs kind = kind ≡ OpenArgsKind
IsSpelled names Open kind = kind ≡ OpenKind
IsSpelled names Close kind = kind ≡ CloseKind
IsSpelled names OpenList kind = kind ≡ OpenListKind
IsSpelled names CloseList kind = kind ≡ CloseListKind
IsSpelled names Comma kind = kind ≡ CommaKind
IsSpelled names Bar kind = kind ≡ BarKind
IsSpelled names Dot kind = kind ≡ DotKind
IsSpelled names Stop kind = kind ≡ StopKind

named-spelled : (names : List (List ℕ)) (make : List ℕ → Spelling) (kind : TokenKind) (name : ℕ) (found : Option (List ℕ)) (spelling : Spelling)
    → ((content : List ℕ) → slice_get names name ≡ Some content → IsSpelled names (make content) kind) → slice_get names name ≡ found → option_map make found ≡ Some spelling → IsSpelled names spelling kind
named-spelled names make kind name None spelling is e e' = absurd (cc)
named-spelled names make kind name (Some content) spelling is e e' =
    let same : make content ≡ spelling = cc in subst (λ (s : Spelling). IsSpelled names s kind) same (is content e)

same_spelling : (names : List (List ℕ)) (kind : TokenKind) (one spelling : Spelling) → Some one ≡ Some spelling → IsSpelled names one kind → IsSpelled names spelling kind
same_spelling names kind one spelling e is = let same : one ≡ spelling = cc in subst (λ (s : Spelling). IsSpelled names s kind) same is

is_spelled : (names : List (List ℕ)) (kind : TokenKind) (spelling : Spelling) → spelling_in names kind ≡ Some spelling → IsSpelled names spelling kind
is_spelled names (NameKind name) spelling e = named-spelled names Name (NameKind name) name (slice_get names name) spelling (λ content there. (name, refl, there)) refl e
is_spelled names (QuotedKind name) spelling e = named-spelled names Quoted (QuotedKind name) name (slice_get names name) spelling (λ content there. (name, refl, there)) refl e
is_spelled names (VarKind name) spelling e = named-spelled names Var (VarKind name) name (slice_get names name) spelling (λ content there. (name, refl, there)) refl e
is_spelled names (IntKind value) spelling e = same_spelling names (IntKind value) (Int value) spelling e refl
is_spelled names (TextKind name) spelling e = named-spelled names Text (TextKind name) name (slice_get names name) spelling (λ content there. (name, refl, there)) refl e
is_spelled names OpenArgsKind spelling e = same_spelling names OpenArgsKind OpenArgs spelling e refl
is_spelled names OpenKind spelling e = same_spelling names OpenKind Open spelling e refl
is_spelled names CloseKind spelling e = same_spelling names CloseKind Close spelling e refl
is_spelled names OpenListKind spelling e = same_spelling names OpenListKind OpenList spelling e refl
is_spelled names CloseListKind spelling e = same_spelling names CloseListKind CloseList spelling e refl
is_spelled names CommaKind spelling e = same_spelling names CommaKind Comma spelling e refl
is_spelled names BarKind spelling e = same_spelling names BarKind Bar spelling e refl
is_spelled names DotKind spelling e = same_spelling names DotKind Dot spelling e refl
is_spelled names StopKind spelling e = same_spelling names StopKind Stop spelling e refl

module _ (names : List (List ℕ)) (distinct : IsDistinct bytes_eq names) where
  same_name : (make : ℕ → TokenKind) (content : List ℕ) (one other : TokenKind) → ((name : ℕ) × (one ≡ make name) × (slice_get names name ≡ Some content)) → ((name : ℕ) × (other ≡ make name) × (slice_get names name ≡ Some content)) → one ≡ other
  same_name make content one other is is' = is.1 ∙ ap make ((names_equal names is.0 is'.0 content content distinct is.2 is'.2).1 refl) ∙ sym is'.1

  same_kind : (spelling : Spelling) (one other : TokenKind) → IsSpelled names spelling one → IsSpelled names spelling other → one ≡ other
  same_kind (Name content) one other is is' = same_name NameKind content one other is is'
  same_kind (Quoted content) one other is is' = same_name QuotedKind content one other is is'
  same_kind (Var content) one other is is' = same_name VarKind content one other is is'
  same_kind (Int value) one other is is' = is ∙ sym is'
  same_kind (Text content) one other is is' = same_name TextKind content one other is is'
  same_kind OpenArgs one other is is' = is ∙ sym is'
  same_kind Open one other is is' = is ∙ sym is'
  same_kind Close one other is is' = is ∙ sym is'
  same_kind OpenList one other is is' = is ∙ sym is'
  same_kind CloseList one other is is' = is ∙ sym is'
  same_kind Comma one other is is' = is ∙ sym is'
  same_kind Bar one other is is' = is ∙ sym is'
  same_kind Dot one other is is' = is ∙ sym is'
  same_kind Stop one other is is' = is ∙ sym is'

  record IsOf (found : Token) (spelled : SpelledToken) : Type 0 where
    kind_is : IsSpelled names spelled.kind found.kind
    span_is : found.span ≡ spelled.span

  is_of : (found : Token) (spelled : SpelledToken) (kind : Option Spelling) → spelling_in names found.kind ≡ kind → option_map (λ (k : Spelling). record { kind = k; span = found.span }) kind ≡ Some spelled → IsOf found spelled
  is_of found spelled None e e' = absurd (cc)
  is_of found spelled (Some kind) e e' =
      let same : record { kind = kind; span = found.span } ≡ spelled = cc in
      let same_kind : kind ≡ spelled.kind = ap (λ (s : SpelledToken). s.kind) same in
      record {
        kind_is = is_spelled names found.kind spelled.kind (e ∙ ap Some same_kind);
        span_is = ap (λ (s : SpelledToken). s.span) same;
      }

  same_token : (one other : Token) (spelled : SpelledToken) → with_texts names one ≡ Some spelled → with_texts names other ≡ Some spelled → one ≡ other
  same_token one other spelled e e' =
      let is = is_of one spelled (spelling_in names one.kind) refl e in
      let is' = is_of other spelled (spelling_in names other.kind) refl e' in
      let kinds = same_kind spelled.kind one.kind other.kind is.kind_is is'.kind_is in
      let spans = is.span_is ∙ sym is'.span_is in
      (λ i. record { kind = kinds i; span = spans i })

  same_tokens : (some others : List Token) (spelled : List SpelledToken) → map (with_texts names) some ≡ map Some spelled → map (with_texts names) others ≡ map Some spelled → some ≡ others
  same_tokens [] [] spelled e e' = refl
  same_tokens [] (other ∷ others) spelled e e' = absurd (cc)
  same_tokens (one ∷ some) [] spelled e e' = absurd (cc)
  same_tokens (one ∷ some) (other ∷ others) [] e e' = absurd (cc)
  same_tokens (one ∷ some) (other ∷ others) (first ∷ spelled) e e' =
      let h : with_texts names one ≡ Some first = cc in
      let h' : with_texts names other ≡ Some first = cc in
      let t : map (with_texts names) some ≡ map Some spelled = cc in
      let t' : map (with_texts names) others ≡ map Some spelled = cc in
      (λ i. same_token one other first h h' i ∷ same_tokens some others spelled t t' i)

module _ (before : List (List ℕ)) where
  -- the table behind a text holds what it held before
  pub ReadsTokens-grows : (after : List (List ℕ)) (text : List ℕ) (tokens : List Token) → ReadsTokens before after text tokens → (more : List (List ℕ)) × (after ≡ before ++ more)
  ReadsTokens-grows after text tokens reads = let grows = with_names-grows before reads.spelled in (grows.0, reads.table ∙ grows.1)

  pub ReadsTokens-distinct : (after : List (List ℕ)) (text : List ℕ) (tokens : List Token) → IsDistinct bytes_eq before → ReadsTokens before after text tokens → IsDistinct bytes_eq after
  ReadsTokens-distinct after text tokens distinct reads = subst (IsDistinct bytes_eq) (sym reads.table) (with_names-distinct before reads.spelled distinct)

  -- a text has one list of tokens, and one table behind it
  pub ReadsTokens-unique : (after after' : List (List ℕ)) (text : List ℕ) (tokens tokens' : List Token) → IsDistinct bytes_eq before → ReadsTokens before after text tokens → ReadsTokens before after' text tokens' → (after ≡ after') × (tokens ≡ tokens')
  ReadsTokens-unique after after' text tokens tokens' distinct reads reads' =
      let spelled = HasTokens-unique text reads'.spelled reads.spelled reads'.has reads.has in
      let tables = reads.table ∙ sym (reads'.table ∙ ap (with_names before) spelled) in
      let named = subst (λ (names : List (List ℕ)). map (with_texts names) tokens' ≡ map Some reads'.spelled) (sym tables) reads'.named in
      (tables, same_tokens after (ReadsTokens-distinct after text tokens distinct reads) tokens tokens' reads.spelled reads.named (named ∙ ap (map Some) spelled))

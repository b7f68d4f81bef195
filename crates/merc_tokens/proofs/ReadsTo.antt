-- The state of a reading: what was read, up to which place, on which line, and with which names.
use Rattle.std.proofs.Common.{◌≡◌, ℕ, ◌+◌, ◌≤◌, Bool, false, ◌==◌, cond, List, [], ◌∷◌, ◌++◌, length, take, drop, map, fold, Option, Some, None, refl, sym, ◌∙◌, ap, subst, arith, append_assoc}
use Rattle.std.proofs.lemmas.List.{append-nil, flat_map_more, map-append, take-append-drop, length-take-le}
use Rattle.std.proofs.lemmas.List.Sums.{fold-append, sum_by-append}
use Rattle.std.proofs.Math.Seq.{take-append-add}
use Rattle.std.specs.Option.{option_map}
use Rattle.std.specs.List.{count_by, flat_map, slice_get}
use Rattle.merc_base.specs.Characters.{line_end_code}
use Rattle.merc_base.specs.Texts.{with_text}
use Rattle.merc_base.proofs.NameLaws.{slice_get-front}
use Rattle.merc_tokens.specs.declared.token.Token.{Token}
use Rattle.merc_tokens.specs.declared.token.TokenKind.{TokenKind}
use Rattle.merc_tokens.specs.declared.token.TokenKind.TheVariants.{Name as NameKind, Quoted as QuotedKind, Var as VarKind, Int as IntKind, Text as TextKind, OpenArgs as OpenArgsKind, Open as OpenKind, Close as CloseKind, OpenList as OpenListKind, CloseList as CloseListKind, Comma as CommaKind, Bar as BarKind, Dot as DotKind, Stop as StopKind}
use Rattle.merc_tokens.specs.declared.pieces.Spelling.{Spelling}
use Rattle.merc_tokens.specs.declared.pieces.Piece.TheVariants.{Gap, Token as TokenPiece}
use Rattle.merc_tokens.specs.Pieces.{first_piece}
use Rattle.merc_tokens.specs.Tokens.{SpelledToken, is_name, line_at, named_text, spelling_in, token_at, with_names, with_texts}
use Rattle.merc_tokens.proofs.SoFar.{ReadSoFar, so_far-none, so_far-gap, so_far-token}

-- the line of a place further on
line_at-more : (text : List ℕ) (at len : ℕ) → at ≤ length text → line_at text (at + len) ≡ line_at text at + count_by (λ byte. byte == line_end_code) (take len (drop at text))
line_at-more text at len within =
    let front : length (take at text) ≡ at = length-take-le at text within in
    let parts : take (length (take at text) + len) (take at text ++ drop at text) ≡ take at text ++ take len (drop at text) =
    take-append-add (take at text) (drop at text) len
    in
    let taken : take (at + len) text ≡ take at text ++ take len (drop at text) =
    sym (ap (λ (n : ℕ). take (n + len) text) front) ∙ sym (ap (take (length (take at text) + len)) (take-append-drop at text)) ∙ parts
    in
    omega (arith, ap (count_by (λ byte. byte == line_end_code)) taken, sum_by-append (λ byte. cond (byte == line_end_code) 1 0) (take at text) (take len (drop at text)))

-- a name that is known stays known
named-grow : (names more : List (List ℕ)) (make : List ℕ → Spelling) (name : ℕ) (found : Option (List ℕ)) (spelling : Spelling) → slice_get names name ≡ found → option_map make found ≡ Some spelling → option_map make (slice_get (names ++ more) name) ≡ Some spelling
named-grow names more make name None spelling unknown is = absurd (cc)
named-grow names more make name (Some text) spelling known is = rw (slice_get-front names more name text known) is

spelling_in-grow : (names more : List (List ℕ)) (kind : TokenKind) (spelling : Spelling) → spelling_in names kind ≡ Some spelling → spelling_in (names ++ more) kind ≡ Some spelling
spelling_in-grow names more (NameKind name) spelling is = named-grow names more _ name _ spelling refl is
spelling_in-grow names more (QuotedKind name) spelling is = named-grow names more _ name _ spelling refl is
spelling_in-grow names more (VarKind name) spelling is = named-grow names more _ name _ spelling refl is
spelling_in-grow names more (IntKind value) spelling is = is
spelling_in-grow names more (TextKind name) spelling is = named-grow names more _ name _ spelling refl is
spelling_in-grow names more OpenArgsKind spelling is = is
spelling_in-grow names more OpenKind spelling is = is
spelling_in-grow names more CloseKind spelling is = is
spelling_in-grow names more OpenListKind spelling is = is
spelling_in-grow names more CloseListKind spelling is = is
spelling_in-grow names more CommaKind spelling is = is
spelling_in-grow names more BarKind spelling is = is
spelling_in-grow names more DotKind spelling is = is
spelling_in-grow names more StopKind spelling is = is

token-grow : (names more : List (List ℕ)) (found : Token) (kind : Option Spelling) (spelled : SpelledToken) → spelling_in names found.kind ≡ kind → option_map (λ (k : Spelling). record { kind = k; span = found.span }) kind ≡ Some spelled → with_texts (names ++ more) found ≡ Some spelled
token-grow names more found None spelled unknown is = absurd (cc)
token-grow names more found (Some spelling) spelled known is = rw (spelling_in-grow names more found.kind spelling known) is

-- texts of names are kept where names are added
pub texts-grow : (names more : List (List ℕ)) (tokens : List Token) (spelled : List SpelledToken) → map (with_texts names) tokens ≡ map Some spelled → map (with_texts (names ++ more)) tokens ≡ map Some spelled
texts-grow names more [] spelled is = is
texts-grow names more (found ∷ tokens) [] is = absurd (cc)
texts-grow names more (found ∷ tokens) (one ∷ spelled) is =
    let first : with_texts names found ≡ Some one = cc in
    let others : map (with_texts names) tokens ≡ map Some spelled = cc in
    (λ i. token-grow names more found _ one refl first i ∷ texts-grow names more tokens spelled others i)

-- a table with the names of one token more
with_names-more : (names : List (List ℕ)) (spelled : List SpelledToken) (one : SpelledToken) → with_names names (spelled ++ one ∷ []) ≡ fold with_text (with_names names spelled) (named_text one.kind)
with_names-more names spelled one =
    let named : SpelledToken → List (List ℕ) = λ found. named_text found.kind in
    ap (fold with_text names) (sym (flat_map_more named [] spelled one))
    ∙ fold-append with_text names (flat_map named spelled) (named_text one.kind)

pub record ReadsTo (text : List ℕ) (old names : List (List ℕ)) (read : List Token) (at line : ℕ) (after : Bool) : Type 0 where
  pub spelled : List SpelledToken
  pub texts : map (with_texts names) read ≡ map Some spelled
  pub table : names ≡ with_names old spelled
  pub so_far : ReadSoFar text spelled at after
  pub more : List (List ℕ)
  pub grown : names ≡ old ++ more
  pub on_line : line ≡ line_at text at
  pub few_lines : line ≤ 1 + at
  pub within : at ≤ length text

pub reads-none : (text : List ℕ) (names : List (List ℕ)) (read : List Token) → read ≡ [] → ReadsTo text names names read 0 1 false
reads-none text names read none = record {
  spelled = [];
  texts = ap (map (with_texts names)) none;
  table = refl;
  so_far = so_far-none text;
  more = [];
  grown = sym (append-nil names);
  on_line = refl;
  few_lines = omega arith;
  within = omega arith;
}

module _ (text : List ℕ) (old names : List (List ℕ)) (read : List Token) (at line len extra : ℕ) (after : Bool) (reads : ReadsTo text old names read at line after) (inside : at + len ≤ length text) (counted : extra ≡ count_by (λ byte. byte == line_end_code) (take len (drop at text))) (few : extra ≤ len) where
  further : line + extra ≡ line_at text (at + len)
  further = omega (arith, reads.on_line, counted, line_at-more text at len reads.within)

  pub reads-gap : first_piece after (drop at text) ≡ Gap len → ReadsTo text old names read (at + len) (line + extra) false
  reads-gap is = record {
    spelled = reads.spelled;
    texts = reads.texts;
    table = reads.table;
    so_far = so_far-gap text reads.spelled at len after reads.so_far is;
    more = reads.more;
    grown = reads.grown;
    on_line = further;
    few_lines = omega (arith, reads.few_lines);
    within = inside;
  }

  pub reads-token : (spelling : Spelling) (names' more : List (List ℕ)) (token : Token) (read' : List Token) → first_piece after (drop at text) ≡ TokenPiece spelling len → names' ≡ names ++ more → names' ≡ fold with_text names (named_text spelling) → read' ≡ read ++ token ∷ [] → with_texts names' token ≡ Some (record { kind = spelling; span = record { first = at; past = at + len; line = line } }) → ReadsTo text old names' read' (at + len) (line + extra) (is_name spelling)
  reads-token spelling names' more token read' is grown added pushed spelled =
      let placed : with_texts names' token ≡ Some (token_at text at len spelling) =
      spelled ∙ ap (λ (n : ℕ). Some (record { kind = spelling; span = record { first = at; past = at + len; line = n } })) reads.on_line
      in
      let kept : map (with_texts names') read ≡ map Some reads.spelled =
      subst (λ (all : List (List ℕ)). map (with_texts all) read ≡ map Some reads.spelled) (sym grown) (texts-grow names more read reads.spelled reads.texts)
      in
      record {
        spelled = reads.spelled ++ token_at text at len spelling ∷ [];
        texts =
            ap (map (with_texts names')) pushed ∙ map-append (with_texts names') read (token ∷ [])
            ∙ (λ i. kept i ++ placed i ∷ []) ∙ sym (map-append Some reads.spelled (token_at text at len spelling ∷ []));
        table =
            added ∙ ap (λ (table : List (List ℕ)). fold with_text table (named_text spelling)) reads.table
            ∙ sym (with_names-more old reads.spelled (token_at text at len spelling));
        so_far = so_far-token text reads.spelled at len after spelling reads.so_far is;
        more = reads.more ++ more;
        grown = grown ∙ ap (λ (all : List (List ℕ)). all ++ more) reads.grown ∙ append_assoc old reads.more more;
        on_line = further;
        few_lines = omega (arith, reads.few_lines);
        within = inside;
      }

-- Whole texts: their tokens, and their faults.
use Rattle.std.proofs.Common.{◌≡◌, ℕ, inl, true, false, List, [], ◌∷◌, ◌++◌, map, refl, ap, ◌∙◌, Some, None, lit≤, arith}
use Rattle.std.specs.Prelude.{codes}
use Rattle.std.proofs.Math.ListN.{replicate}
use Rattle.std.specs.Char.{encode_utf8}
use Rattle.std.specs.Str.{is_utf8, chars}
use Rattle.std.specs.Str.Lossy.{utf8_valid_len}
use Rattle.std.proofs.lemmas.Bool.{false≢true}
use Rattle.std.proofs.lemmas.Str.{is_utf8-from_IsUtf8}
use Rattle.merc_base.specs.Characters.{backquote_code, lower_a_code}
use Rattle.merc_base.specs.declared.refusal.Refusal.{Refusal}
use Rattle.merc_base.specs.declared.refusal.Rule.TheVariants.{BadToken, OutsideProfile}
use Rattle.merc_base.specs.declared.refusal.Construct.TheVariants.{Character}
use Rattle.merc_base.specs.declared.refusal.Detail.TheVariants.{Plain, Word}
use Rattle.merc_tokens.specs.declared.token.TokenKind.TheVariants.{Name as NameKind, Quoted as QuotedKind, Var as VarKind, Int as IntKind, Text as TextKind, OpenArgs as OpenArgsKind, Open as OpenKind, Close as CloseKind, OpenList as OpenListKind, CloseList as CloseListKind, Comma as CommaKind, Bar as BarKind, Dot as DotKind, Stop as StopKind}
use Rattle.merc_tokens.specs.declared.pieces.Spelling.{Spelling}
use Rattle.merc_tokens.specs.declared.pieces.Spelling.TheVariants.{Name, Quoted, Int, Var, Text, OpenArgs, Open, Close, OpenList, CloseList, Comma, Bar, Dot, Stop}
use Rattle.merc_tokens.specs.declared.pieces.Kind.TheVariants.{Name as KindName, Quoted as KindQuoted, Var as KindVar}
use Rattle.merc_tokens.specs.declared.pieces.Piece.TheVariants.{Gap, Token}
use Rattle.merc_tokens.specs.declared.reading.Reading.TheVariants.{All, Faulty}
use Rattle.merc_tokens.specs.Pieces.{Fits, first_piece, make_of}
use Rattle.merc_tokens.specs.Tokens.{SpelledToken, HasTokens, ReadsTokens, is_name, line_at, named_text, spelling_in, with_names, with_texts}
use Rattle.merc_tokens.specs.Tokens.HasTokensFrom.{ends, gap, token}
use Rattle.merc_tokens.specs.Faults.{HasFault, HasNoTokens, EndsUtf8}
use Rattle.merc_tokens.specs.Outcomes.{bad_byte, earlier}
use Rattle.merc_tokens.specs.Faults.HasFaultFrom.{here, behind_gap, behind_token}
use Rattle.merc_tokens.specs.Faults.IsFaulty.{character}
use Rattle.merc_tokens.proofs.TokenLaws.{HasFault-no_tokens, HasTokens-unique}

-- a token of these bytes
abbrev at : Spelling → ℕ → ℕ → ℕ → SpelledToken
at spelling first past line = record { kind = spelling; span = record { first = first; past = past; line = line } }

pub lines-example : HasTokens (codes "a.\nb") (at (Name (codes "a")) 0 1 1 ∷ at Stop 1 2 1 ∷ at (Name (codes "b")) 3 4 2 ∷ [])
unfolding encode_utf8
lines-example = record {
  utf8 = (codes "a.\nb", (refl, refl));
  all = token 0 1 false (Name (codes "a")) _ refl (token 1 1 true Stop _ refl (gap 2 1 false _ refl (token 3 1 false (Name (codes "b")) _ refl (ends 4 true refl))));
}

pub qualified-example : HasTokens (codes "a.b") (at (Name (codes "a")) 0 1 1 ∷ at Dot 1 2 1 ∷ at (Name (codes "b")) 2 3 1 ∷ [])
unfolding encode_utf8
qualified-example = record {
  utf8 = (codes "a.b", (refl, refl));
  all = token 0 1 false (Name (codes "a")) _ refl (token 1 1 true Dot _ refl (token 2 1 false (Name (codes "b")) _ refl (ends 3 true refl)));
}

-- names, quoted or not, are what a parenthesis or a qualifier mark stands directly behind
pub names-example : map is_name (Name [] ∷ Quoted [] ∷ []) ≡ true ∷ true ∷ []
names-example = refl

pub no_names-example : map is_name (Var [] ∷ Int 0 ∷ Text [] ∷ OpenArgs ∷ Open ∷ Close ∷ OpenList ∷ CloseList ∷ Comma ∷ Bar ∷ Dot ∷ Stop ∷ [])
    ≡ replicate 12 false
no_names-example = refl

pub quoted_arguments-example : HasTokens (codes "'a'(") (at (Quoted (codes "a")) 0 3 1 ∷ at OpenArgs 3 4 1 ∷ [])
unfolding encode_utf8
quoted_arguments-example = record {
  utf8 = (codes "'a'(", (refl, refl));
  all = token 0 3 false (Quoted (codes "a")) _ refl (token 3 1 true OpenArgs _ refl (ends 4 false refl));
}

-- `;` is a name too, on both sides of a qualifier mark
pub semicolons-example : HasTokens (codes "a.;") (at (Name (codes "a")) 0 1 1 ∷ at Dot 1 2 1 ∷ at (Name (codes ";")) 2 3 1 ∷ [])
unfolding encode_utf8
semicolons-example = record {
  utf8 = (codes "a.;", (refl, refl));
  all = token 0 1 false (Name (codes "a")) _ refl (token 1 1 true Dot _ refl (token 2 1 false (Name (codes ";")) _ refl (ends 3 true refl)));
}

-- behind a variable there is no qualifier mark
pub variable_dot-example : HasTokens (codes "X.b") (at (Var (codes "X")) 0 1 1 ∷ at (Name (codes ".")) 1 2 1 ∷ at (Name (codes "b")) 2 3 1 ∷ [])
unfolding encode_utf8
variable_dot-example = record {
  utf8 = (codes "X.b", (refl, refl));
  all = token 0 1 false (Var (codes "X")) _ refl (token 1 1 false (Name (codes ".")) _ refl (token 2 1 true (Name (codes "b")) _ refl (ends 3 true refl)));
}

-- a parenthesis that is not directly behind a name opens no arguments
pub parenthesis-example : HasTokens (codes "a (") (at (Name (codes "a")) 0 1 1 ∷ at Open 2 3 1 ∷ [])
unfolding encode_utf8
parenthesis-example = record {
  utf8 = (codes "a (", (refl, refl));
  all = token 0 1 false (Name (codes "a")) _ refl (gap 1 1 true _ refl (token 2 1 false Open _ refl (ends 3 false refl)));
}

-- a line feed is the last byte of its line, and a carriage return begins none
pub line_at-example : map (line_at (codes "a\n\n\rb")) (0 ∷ 1 ∷ 2 ∷ 3 ∷ 4 ∷ []) ≡ 1 ∷ 1 ∷ 2 ∷ 3 ∷ 3 ∷ []
line_at-example = refl

-- blanks alone
pub blanks-example : HasTokens (codes " ") []
unfolding encode_utf8
blanks-example = record { utf8 = (codes " ", (refl, refl)); all = gap 0 1 false [] refl (ends 1 false refl) }

backquote-fault : HasFault (codes "a `") 2 OutsideProfile (Word Character)
backquote-fault = inl (behind_token 0 1 false (Name (codes "a")) refl (behind_gap 1 1 true refl (here 2 false refl (character backquote_code [] refl))))

pub backquote-counterexample : HasNoTokens (codes "a `")
backquote-counterexample tokens has = HasFault-no_tokens _ 2 OutsideProfile (Word Character) tokens backquote-fault has

-- a character of two bytes that is cut short: its first byte
pub cut_short-example : EndsUtf8 (lower_a_code ∷ 195 ∷ []) 1 BadToken Plain
unfolding is_utf8 chars utf8_valid_len encode_utf8
cut_short-example = record {
  utf8 = λ text. false≢true (is_utf8-from_IsUtf8 (lower_a_code ∷ 195 ∷ []) text);
  longest = refl;
  rule_is = refl;
  detail_is = refl;
}

-- `0'` and a character of two bytes
pub character-example : first_piece false (codes "0'" ++ 195 ∷ 169 ∷ []) ≡ Token (Int 233) 4
unfolding is_utf8 chars encode_utf8
character-example = refl

-- `0'` and a line end
pub line_end-example : first_piece false (codes "0'\n.") ≡ Token (Int 10) 3
unfolding is_utf8 chars encode_utf8
line_end-example = refl

pub spelling_in-example : spelling_in (codes "a" ∷ codes "b" ∷ []) (NameKind 1) ≡ Some (Name (codes "b"))
spelling_in-example = refl

-- each kind of token
pub spelling_in-kinds : map (spelling_in (codes "a" ∷ [])) (NameKind 0 ∷ QuotedKind 0 ∷ VarKind 0 ∷ IntKind 7 ∷ TextKind 0 ∷ OpenArgsKind ∷ OpenKind ∷ CloseKind ∷ OpenListKind ∷ CloseListKind ∷ CommaKind ∷ BarKind ∷ DotKind ∷ StopKind ∷ [])
    ≡ map Some (Name (codes "a") ∷ Quoted (codes "a") ∷ Var (codes "a") ∷ Int 7 ∷ Text (codes "a") ∷ OpenArgs ∷ Open ∷ Close ∷ OpenList ∷ CloseList ∷ Comma ∷ Bar ∷ Dot ∷ Stop ∷ [])
spelling_in-kinds = refl

-- a token keeps its place
pub with_texts-example : with_texts (codes "a" ∷ []) (record { kind = NameKind 0; span = record { first = 3; past = 4; line = 2 } }) ≡ Some (at (Name (codes "a")) 3 4 2)
with_texts-example = refl

pub make_of-example : map (λ kind. make_of kind (codes "a")) (KindName ∷ KindQuoted ∷ KindVar ∷ []) ≡ Name (codes "a") ∷ Quoted (codes "a") ∷ Var (codes "a") ∷ []
make_of-example = refl

-- a name that is not known spells nothing
pub spelling_in-example-unknown : spelling_in (codes "a" ∷ []) (NameKind 1) ≡ None
spelling_in-example-unknown = refl

pub named_text-example : named_text (Var (codes "X")) ≡ codes "X" ∷ []
named_text-example = refl

-- names, variables and strings go into the table of names, and nothing else does
pub named_text-kinds : map named_text (Name (codes "n") ∷ Quoted (codes "q") ∷ Var (codes "v") ∷ Text (codes "t") ∷ []) ≡ (codes "n" ∷ []) ∷ (codes "q" ∷ []) ∷ (codes "v" ∷ []) ∷ (codes "t" ∷ []) ∷ []
named_text-kinds = refl

pub named_text-none : map named_text (Int 1 ∷ OpenArgs ∷ Open ∷ Close ∷ OpenList ∷ CloseList ∷ Comma ∷ Bar ∷ Dot ∷ Stop ∷ []) ≡ replicate 10 []
named_text-none = refl

-- a full stop names nothing, though its text is no name's
pub named_text-counterexample : named_text Stop ≡ codes "." ∷ [] → ⊥
named_text-counterexample wrong = cc

-- `b. a b`, where the table holds `a`
abbrev b_a_b : List SpelledToken
b_a_b =
    at (Name (codes "b")) 0 1 1 ∷ at Stop 1 2 1 ∷ at (Name (codes "a")) 3 4 1 ∷ at (Name (codes "b")) 5 6 1 ∷ []

pub with_names-example : with_names (codes "a" ∷ []) b_a_b ≡ codes "a" ∷ codes "b" ∷ []
with_names-example = refl

-- names go in as they come, not by the alphabet
pub with_names-counterexample : with_names [] b_a_b ≡ codes "a" ∷ codes "b" ∷ [] → ⊥
with_names-counterexample wrong = cc

pub one_name-example : ReadsTokens [] (codes "a" ∷ []) (codes "a") (record { kind = NameKind 0; span = record { first = 0; past = 1; line = 1 } } ∷ [])
unfolding encode_utf8
one_name-example = record {
  spelled = at (Name (codes "a")) 0 1 1 ∷ [];
  has = record {
    utf8 = (codes "a", (refl, refl));
    all = token 0 1 false (Name (codes "a")) _ refl (ends 1 true refl);
  };
  named = refl;
  table = refl;
}

-- no name that the text does not spell
pub other_name-counterexample : ReadsTokens [] (codes "a" ∷ []) (codes " ") [] → ⊥
other_name-counterexample reads =
    let none : reads.spelled ≡ [] = HasTokens-unique (codes " ") reads.spelled [] reads.has blanks-example in
    let table : codes "a" ∷ [] ≡ [] = reads.table ∙ ap (with_names []) none in cc

-- a piece is not empty and not longer than its text
pub Fits-example : Fits 3 (Gap 3)
Fits-example = (lit≤ tt, lit≤ tt)

pub Fits-counterexample : Fits 3 (Gap 0) → ⊥
Fits-counterexample fits = omega (arith, fits.0)

pub Fits-past : Fits 3 (Token Comma 4) → ⊥
Fits-past fits = omega (arith, fits.1)

-- `a`, a line end and `b`, of which the byte 2 is not UTF-8

abbrev outside_at : ℕ → Refusal
outside_at byte = record { rule = OutsideProfile; place = record { byte = byte; line = 1 }; detail = Word Character }

pub bad_byte-example : bad_byte (codes "a\nb") 2 ≡ record { rule = BadToken; place = record { byte = 2; line = 2 }; detail = Plain }
bad_byte-example = refl

-- a fault before that byte comes first, and one at it does not
pub earlier-example : map (earlier (codes "a\nb") 2) (Faulty (outside_at 1) ∷ Faulty (outside_at 2) ∷ Faulty (outside_at 3) ∷ All [] ∷ [])
    ≡ outside_at 1 ∷ replicate 3 (bad_byte (codes "a\nb") 2)
earlier-example = refl

use Rattle.std.proofs.Common.{◌≡◌, ◌≤◌, ◌-◌, ◌+◌, ◌∙◌, ℕ, Bool, List, [], ◌∷◌, ap, arith, drop, length, refl, subst, sym, take, take_all}
use Rattle.std.specs.Prelude.{get_or, if◌then◌else◌}
use Rattle.std.proofs.lemmas.Result.{IfOk-weaker}
use Rattle.merc_tokens.specs.Bytes.{start_of}
use Rattle.merc_tokens.specs.Integers.{integer_at}
use Rattle.merc_tokens.specs.Pieces.{named, run_of, integer_piece, graphic_piece, piece_of, first_piece, IfFirst, Fits}
use Rattle.merc_tokens.specs.declared.bytes.Class.TheVariants.{Word}
use Rattle.merc_tokens.specs.declared.bytes.Start.{Start}
use Rattle.merc_tokens.specs.declared.bytes.Start.TheVariants.{Blank, Percent, Lower, Upper, Digit, Quote, DoubleQuote, Semicolon, Open, Close, OpenList, CloseList, Comma, Bar, Outside, Graphic, Other}
use Rattle.merc_tokens.specs.declared.pieces.Piece.{Piece}
use Rattle.merc_tokens.specs.declared.pieces.Piece.TheVariants.{Gap, Token}
use Rattle.merc_tokens.specs.declared.pieces.Spelling.TheVariants.{Name, Var, OpenArgs as OpenArgsToken, Open as OpenToken}
use Rattle.merc_tokens.proofs.pieces.first_piece.Goals as goal

-- what stands behind the first byte of a text
abbrev behind : List ℕ → List ℕ
behind text = take (length text - 1) (drop 1 text)

behind-first : (byte : ℕ) (rest : List ℕ) → behind (byte ∷ rest) ≡ rest
behind-first byte rest = take_all (length (byte ∷ rest) - 1) rest (omega arith)

count_behind : (text : List ℕ) → 1 ≤ length text → 1 + length (behind text) ≡ length text
count_behind [] h = absurd (omega (arith, h))
count_behind (byte ∷ rest) h = omega (arith, ap length (behind-first byte rest))

-- a piece is what its text begins with: told of the byte and the rest, and told of the text
first_at : (after_name : Bool) (text : List ℕ) (start : Start) → 1 ≤ length text → start ≡ start_of (get_or text 0 0)
    → piece_of start after_name (get_or text 0 0) (behind text) ≡ first_piece after_name text
first_at after_name [] start h e = absurd (omega (arith, h))
first_at after_name (byte ∷ rest) start h e = ap (piece_of start after_name byte) (behind-first byte rest) ∙ ap (λ s. piece_of s after_name byte rest) e

text_at : (after_name : Bool) (text : List ℕ) (start : Start) (piece : List ℕ → Piece) → ((byte : ℕ) (rest : List ℕ) → piece (byte ∷ rest) ≡ piece_of start after_name byte rest)
    → 1 ≤ length text → start ≡ start_of (get_or text 0 0) → piece text ≡ first_piece after_name text
text_at after_name [] start piece same h e = absurd (omega (arith, h))
text_at after_name (byte ∷ rest) start piece same h e = same byte rest ∙ ap (λ s. piece_of s after_name byte rest) e

graphic_at : (after_name : Bool) (text : List ℕ) (piece : Piece) → 1 ≤ length text → Graphic ≡ start_of (get_or text 0 0)
    → IfFirst text (λ byte rest. piece ≡ graphic_piece after_name byte rest) → piece ≡ first_piece after_name text
graphic_at after_name [] piece h e told = absurd (omega (arith, h))
graphic_at after_name (byte ∷ rest) piece h e told = told ∙ ap (λ s. piece_of s after_name byte rest) e

-- a token of one byte fits
one_fits : (text : List ℕ) → 1 ≤ length text → (1 ≤ 1) × (1 ≤ length text)
one_fits text h = (omega arith, h)

run_fits : (text : List ℕ) (len : ℕ) → 1 ≤ length text → len ≤ length (behind text) → (1 ≤ 1 + len) × (1 + len ≤ length text)
run_fits text len h bound = let count = count_behind text h in (omega arith, omega (arith, bound, count))

pub returns-in-Blank-clause-value : goal.returns-in-Blank-clause-value
returns-in-Blank-clause-value c = first_at c.args.after_name c.args.text.now Blank c.in-len1-up.len_at_least c.in-Blank.ensures

pub returns-in-Blank-clause-fits : goal.returns-in-Blank-clause-fits
returns-in-Blank-clause-fits c = one_fits c.args.text.now c.in-len1-up.len_at_least

pub returns-in-Percent-clause-value : goal.returns-in-Percent-clause-value
returns-in-Percent-clause-value c = ap (λ len. Gap (1 + len)) c.run_len.ensures.count ∙ first_at c.args.after_name c.args.text.now Percent c.in-len1-up.len_at_least c.in-Percent.ensures

pub returns-in-Percent-clause-fits : goal.returns-in-Percent-clause-fits
returns-in-Percent-clause-fits c = run_fits c.args.text.now c.run_len.result c.in-len1-up.len_at_least c.run_len.ensures.bound

pub returns-in-Lower-clause-value : goal.returns-in-Lower-clause-value
returns-in-Lower-clause-value c =
    let run = λ (text : List ℕ). run_of Word text in
    IfOk-weaker c.run_piece.result _ _
    (λ piece told. told ∙ text_at c.args.after_name c.args.text.now Lower (λ text. named Name (run text) (length (run text))) (λ byte rest. refl) c.in-len1-up.len_at_least c.in-Lower.ensures)
    c.run_piece.ensures.value

pub returns-in-Lower-clause-fits : goal.returns-in-Lower-clause-fits
returns-in-Lower-clause-fits c = c.run_piece.ensures.fits

pub returns-in-Upper-clause-value : goal.returns-in-Upper-clause-value
returns-in-Upper-clause-value c =
    let run = λ (text : List ℕ). run_of Word text in
    IfOk-weaker c.run_piece-in-Upper.result _ _
    (λ piece told. told ∙ text_at c.args.after_name c.args.text.now Upper (λ text. named Var (run text) (length (run text))) (λ byte rest. refl) c.in-len1-up.len_at_least c.in-Upper.ensures)
    c.run_piece-in-Upper.ensures.value

pub returns-in-Upper-clause-fits : goal.returns-in-Upper-clause-fits
returns-in-Upper-clause-fits c = c.run_piece-in-Upper.ensures.fits

pub returns-in-Digit-clause-value : goal.returns-in-Digit-clause-value
returns-in-Digit-clause-value c = c.integer_piece.ensures.value ∙ text_at c.args.after_name c.args.text.now Digit (λ text. integer_piece (integer_at text) text) (λ byte rest. refl) c.in-len1-up.len_at_least c.in-Digit.ensures

pub returns-in-Digit-clause-fits : goal.returns-in-Digit-clause-fits
returns-in-Digit-clause-fits c = c.integer_piece.ensures.fits

pub returns-in-Quote-clause-value : goal.returns-in-Quote-clause-value
returns-in-Quote-clause-value c =
    IfOk-weaker c.quoted_piece.result _ _ (λ piece told. told ∙ first_at c.args.after_name c.args.text.now Quote c.in-len1-up.len_at_least c.in-Quote.ensures) c.quoted_piece.ensures.value

pub returns-in-Quote-clause-fits : goal.returns-in-Quote-clause-fits
returns-in-Quote-clause-fits c =
    IfOk-weaker c.quoted_piece.result _ _ (λ piece told. subst (λ bound. Fits bound piece) (count_behind c.args.text.now c.in-len1-up.len_at_least) told) c.quoted_piece.ensures.fits

pub returns-in-DoubleQuote-clause-value : goal.returns-in-DoubleQuote-clause-value
returns-in-DoubleQuote-clause-value c =
    IfOk-weaker c.string_piece.result _ _ (λ piece told. told ∙ first_at c.args.after_name c.args.text.now DoubleQuote c.in-len1-up.len_at_least c.in-DoubleQuote.ensures) c.string_piece.ensures.value

pub returns-in-DoubleQuote-clause-fits : goal.returns-in-DoubleQuote-clause-fits
returns-in-DoubleQuote-clause-fits c =
    IfOk-weaker c.string_piece.result _ _ (λ piece told. subst (λ bound. Fits bound piece) (count_behind c.args.text.now c.in-len1-up.len_at_least) told) c.string_piece.ensures.fits

pub returns-in_ok-of-in-Semicolon-clause-value : goal.returns-in_ok-of-in-Semicolon-clause-value
returns-in_ok-of-in-Semicolon-clause-value c = ap (λ name. Token (Name name) 1) c.in_ok-of-in-Semicolon.ensures ∙ first_at c.args.after_name c.args.text.now Semicolon c.in-len1-up.len_at_least c.in-Semicolon.ensures

pub returns-in_ok-of-in-Semicolon-clause-fits : goal.returns-in_ok-of-in-Semicolon-clause-fits
returns-in_ok-of-in-Semicolon-clause-fits c = one_fits c.args.text.now c.in-len1-up.len_at_least

pub returns-in-Open-clause-value : goal.returns-in-Open-clause-value
returns-in-Open-clause-value c = ap (λ b. Token (if b then OpenArgsToken else OpenToken) 1) (sym c.if-after_name.true) ∙ first_at c.args.after_name c.args.text.now Open c.in-len1-up.len_at_least c.in-Open.ensures

pub returns-in-Open-clause-fits : goal.returns-in-Open-clause-fits
returns-in-Open-clause-fits c = one_fits c.args.text.now c.in-len1-up.len_at_least

pub returns-in-Open-2-clause-value : goal.returns-in-Open-2-clause-value
returns-in-Open-2-clause-value c = ap (λ b. Token (if b then OpenArgsToken else OpenToken) 1) (sym c.if-after_name.false) ∙ first_at c.args.after_name c.args.text.now Open c.in-len1-up.len_at_least c.in-Open.ensures

pub returns-in-Open-2-clause-fits : goal.returns-in-Open-2-clause-fits
returns-in-Open-2-clause-fits c = one_fits c.args.text.now c.in-len1-up.len_at_least

pub returns-in-Close-clause-value : goal.returns-in-Close-clause-value
returns-in-Close-clause-value c = first_at c.args.after_name c.args.text.now Close c.in-len1-up.len_at_least c.in-Close.ensures

pub returns-in-Close-clause-fits : goal.returns-in-Close-clause-fits
returns-in-Close-clause-fits c = one_fits c.args.text.now c.in-len1-up.len_at_least

pub returns-in-OpenList-clause-value : goal.returns-in-OpenList-clause-value
returns-in-OpenList-clause-value c = first_at c.args.after_name c.args.text.now OpenList c.in-len1-up.len_at_least c.in-OpenList.ensures

pub returns-in-OpenList-clause-fits : goal.returns-in-OpenList-clause-fits
returns-in-OpenList-clause-fits c = one_fits c.args.text.now c.in-len1-up.len_at_least

pub returns-in-CloseList-clause-value : goal.returns-in-CloseList-clause-value
returns-in-CloseList-clause-value c = first_at c.args.after_name c.args.text.now CloseList c.in-len1-up.len_at_least c.in-CloseList.ensures

pub returns-in-CloseList-clause-fits : goal.returns-in-CloseList-clause-fits
returns-in-CloseList-clause-fits c = one_fits c.args.text.now c.in-len1-up.len_at_least

pub returns-in-Comma-clause-value : goal.returns-in-Comma-clause-value
returns-in-Comma-clause-value c = first_at c.args.after_name c.args.text.now Comma c.in-len1-up.len_at_least c.in-Comma.ensures

pub returns-in-Comma-clause-fits : goal.returns-in-Comma-clause-fits
returns-in-Comma-clause-fits c = one_fits c.args.text.now c.in-len1-up.len_at_least

pub returns-in-Bar-clause-value : goal.returns-in-Bar-clause-value
returns-in-Bar-clause-value c = first_at c.args.after_name c.args.text.now Bar c.in-len1-up.len_at_least c.in-Bar.ensures

pub returns-in-Bar-clause-fits : goal.returns-in-Bar-clause-fits
returns-in-Bar-clause-fits c = one_fits c.args.text.now c.in-len1-up.len_at_least

pub returns-in-Outside-clause-value : goal.returns-in-Outside-clause-value
returns-in-Outside-clause-value c = first_at c.args.after_name c.args.text.now Outside c.in-len1-up.len_at_least c.in-Outside.ensures

pub returns-in-Outside-clause-fits : goal.returns-in-Outside-clause-fits
returns-in-Outside-clause-fits c = tt

pub returns-in-Graphic-clause-value : goal.returns-in-Graphic-clause-value
returns-in-Graphic-clause-value c =
    IfOk-weaker c.graphic_piece.result _ _ (λ piece told. graphic_at c.args.after_name c.args.text.now piece c.in-len1-up.len_at_least c.in-Graphic.ensures told) c.graphic_piece.ensures.value

pub returns-in-Graphic-clause-fits : goal.returns-in-Graphic-clause-fits
returns-in-Graphic-clause-fits c = c.graphic_piece.ensures.fits

pub returns-in-Other-clause-value : goal.returns-in-Other-clause-value
returns-in-Other-clause-value c = first_at c.args.after_name c.args.text.now Other c.in-len1-up.len_at_least c.in-Other.ensures

pub returns-in-Other-clause-fits : goal.returns-in-Other-clause-fits
returns-in-Other-clause-fits c = tt

-- The tokens that have been read so far, and the place behind them.
use Rattle.std.proofs.Common.{◌≡◌, ℕ, ◌+◌, ◌≤◌, Bool, false, List, [], ◌∷◌, ◌++◌, drop, refl, sym, ◌∙◌, ap, subst, arith, append_assoc}
use Rattle.merc_base.specs.declared.refusal.Rule.{Rule}
use Rattle.merc_base.specs.declared.refusal.Detail.{Detail}
use Rattle.merc_tokens.specs.declared.pieces.Spelling.{Spelling}
use Rattle.merc_tokens.specs.declared.pieces.Piece.TheVariants.{Gap, Token}
use Rattle.merc_tokens.specs.Pieces.{first_piece}
use Rattle.merc_tokens.specs.Tokens.{SpelledToken, HasTokensFrom, is_name, token_at}
use Rattle.merc_tokens.specs.Tokens.HasTokensFrom.{ends, gap, token}
use Rattle.merc_tokens.specs.Faults.{HasFaultFrom}
use Rattle.merc_tokens.specs.Faults.HasFaultFrom.{here, behind_gap, behind_token}
use Rattle.merc_tokens.proofs.PieceFaults.{piece-faulty}

-- at the end of a text no piece begins
pub piece-end : (text : List ℕ) (at : ℕ) (after : Bool) → drop at text ≡ [] → first_piece after (drop at text) ≡ first_piece after []
piece-end text at after ended = ap (first_piece after) ended

-- where a gap begins, the tokens are those behind it
pub tokens-behind_gap : (text : List ℕ) (at len : ℕ) (after : Bool) (tokens : List SpelledToken) → first_piece after (drop at text) ≡ Gap len → HasTokensFrom text at after tokens → HasTokensFrom text (at + len) false tokens
tokens-behind_gap text at len after _ is (ends _ _ ended) = let none = piece-end text at after ended in absurd (cc)
tokens-behind_gap text at len after tokens is (gap _ more _ _ also on) =
    let same : more ≡ len = cc in subst (λ (n : ℕ). HasTokensFrom text (at + n) false tokens) same on
tokens-behind_gap text at len after _ is (token _ more _ spelling rest also on) = absurd (cc)

-- where a token begins, it is the first
pub tokens-behind_token : (text : List ℕ) (at len : ℕ) (after : Bool) (spelling : Spelling) (tokens : List SpelledToken) → first_piece after (drop at text) ≡ Token spelling len → HasTokensFrom text at after tokens → (more : List SpelledToken) × (tokens ≡ token_at text at len spelling ∷ more) × HasTokensFrom text (at + len) (is_name spelling) more
tokens-behind_token text at len after spelling _ is (ends _ _ ended) = let none = piece-end text at after ended in absurd (cc)
tokens-behind_token text at len after spelling tokens is (gap _ more _ _ also on) = absurd (cc)
tokens-behind_token text at len after spelling _ is (token _ other _ spelled rest also on) =
    let same_len : other ≡ len = cc in
    let same : spelled ≡ spelling = cc in (
      rest,
      (λ i. token_at text at (same_len i) (same i) ∷ rest),
      subst (λ (s : Spelling). HasTokensFrom text (at + len) (is_name s) rest) same (subst (λ (n : ℕ). HasTokensFrom text (at + n) (is_name spelled) rest) same_len on),
    )

-- a fault is where no gap and no token begins, and so behind them
pub fault-behind_gap : (text : List ℕ) (place : ℕ) (rule : Rule) (detail : Detail) (at len : ℕ) (after : Bool) → first_piece after (drop at text) ≡ Gap len → HasFaultFrom text place rule detail at after → HasFaultFrom text place rule detail (at + len) false
fault-behind_gap text place rule detail at len after is (here _ _ same faulty) = let fault = (piece-faulty _ _ _ after faulty).is in absurd (cc)
fault-behind_gap text place rule detail at len after is (behind_gap _ more _ also on) =
    let same : more ≡ len = cc in subst (λ (n : ℕ). HasFaultFrom text place rule detail (at + n) false) same on
fault-behind_gap text place rule detail at len after is (behind_token _ more _ spelling also on) = absurd (cc)

pub fault-behind_token : (text : List ℕ) (place : ℕ) (rule : Rule) (detail : Detail) (at len : ℕ) (after : Bool) (spelling : Spelling) → first_piece after (drop at text) ≡ Token spelling len → HasFaultFrom text place rule detail at after → HasFaultFrom text place rule detail (at + len) (is_name spelling)
fault-behind_token text place rule detail at len after spelling is (here _ _ same faulty) = let fault = (piece-faulty _ _ _ after faulty).is in absurd (cc)
fault-behind_token text place rule detail at len after spelling is (behind_gap _ more _ also on) = absurd (cc)
fault-behind_token text place rule detail at len after spelling is (behind_token _ more _ spelled also on) =
    let same_len : more ≡ len = cc in
    let same : spelled ≡ spelling = cc in
    subst (λ (s : Spelling). HasFaultFrom text place rule detail (at + len) (is_name s)) same (subst (λ (n : ℕ). HasFaultFrom text place rule detail (at + n) (is_name spelled)) same_len on)

-- a fault is not before where it is looked for
pub fault-le : (text : List ℕ) (place : ℕ) (rule : Rule) (detail : Detail) (at : ℕ) (after : Bool) → HasFaultFrom text place rule detail at after → at ≤ place
fault-le text place rule detail at after (here _ _ same faulty) = omega arith
fault-le text place rule detail at after (behind_gap _ len _ is on) = omega (arith, fault-le text place rule detail (at + len) false on)
fault-le text place rule detail at after (behind_token _ len _ spelling is on) = omega (arith, fault-le text place rule detail (at + len) (is_name spelling) on)

-- what a text has from its start on is what was read and what it has from a place on, in both directions
pub record ReadSoFar (text : List ℕ) (read : List SpelledToken) (at : ℕ) (after : Bool) : Type 0 where
  pub tokens : (more : List SpelledToken) → HasTokensFrom text at after more → HasTokensFrom text 0 false (read ++ more)
  pub forced : (all : List SpelledToken) → HasTokensFrom text 0 false all → (more : List SpelledToken) × (all ≡ read ++ more) × HasTokensFrom text at after more
  pub faults : (place : ℕ) (rule : Rule) (detail : Detail) → HasFaultFrom text place rule detail at after → HasFaultFrom text place rule detail 0 false
  pub no_others : (place : ℕ) (rule : Rule) (detail : Detail) → HasFaultFrom text place rule detail 0 false → HasFaultFrom text place rule detail at after

pub so_far-none : (text : List ℕ) → ReadSoFar text [] 0 false
so_far-none text = record {
  tokens = λ more has. has;
  forced = λ all has. (all, refl, has);
  faults = λ place rule detail has. has;
  no_others = λ place rule detail has. has;
}

pub so_far-gap : (text : List ℕ) (read : List SpelledToken) (at len : ℕ) (after : Bool) → ReadSoFar text read at after → first_piece after (drop at text) ≡ Gap len → ReadSoFar text read (at + len) false
so_far-gap text read at len after so_far is = record {
  tokens = λ more has. so_far.tokens more (gap at len after more is has);
  forced = λ all has.
      let parts = so_far.forced all has in
      (parts.0, parts.1, tokens-behind_gap text at len after parts.0 is parts.2);
  faults = λ place rule detail has. so_far.faults place rule detail (behind_gap at len after is has);
  no_others = λ place rule detail has. fault-behind_gap text place rule detail at len after is (so_far.no_others place rule detail has);
}

pub so_far-token : (text : List ℕ) (read : List SpelledToken) (at len : ℕ) (after : Bool) (spelling : Spelling) → ReadSoFar text read at after → first_piece after (drop at text) ≡ Token spelling len → ReadSoFar text (read ++ token_at text at len spelling ∷ []) (at + len) (is_name spelling)
so_far-token text read at len after spelling so_far is = record {
  tokens = λ more has.
      subst (HasTokensFrom text 0 false) (sym (append_assoc read (token_at text at len spelling ∷ []) more))
      (so_far.tokens (token_at text at len spelling ∷ more) (token at len after spelling more is has));
  forced = λ all has.
      let parts = so_far.forced all has in
      let others = tokens-behind_token text at len after spelling parts.0 is parts.2 in (
        others.0,
        parts.1 ∙ ap (λ (more : List SpelledToken). read ++ more) others.1 ∙ sym (append_assoc read (token_at text at len spelling ∷ []) others.0),
        others.2,
      );
  faults = λ place rule detail has. so_far.faults place rule detail (behind_token at len after spelling is has);
  no_others = λ place rule detail has. fault-behind_token text place rule detail at len after spelling is (so_far.no_others place rule detail has);
}

-- A text has at most one list of tokens, and none where it has a fault.
use Rattle.std.proofs.Common.{◌≡◌, ℕ, ◌+◌, inl, inr, Bool, false, List, [], ◌∷◌, drop, refl, sym, ◌∙◌, ap}
use Rattle.merc_base.specs.declared.refusal.Rule.{Rule}
use Rattle.merc_base.specs.declared.refusal.Detail.{Detail}
use Rattle.merc_tokens.specs.Tokens.{SpelledToken, HasTokens, HasTokensFrom, is_name, token_at}
use Rattle.merc_tokens.specs.Tokens.HasTokensFrom.{ends, gap, token}
use Rattle.merc_tokens.specs.Faults.{HasFault, HasFaultFrom}
use Rattle.merc_tokens.specs.Faults.HasFaultFrom.{here, behind_gap, behind_token}
use Rattle.merc_tokens.proofs.PieceFaults.{piece-faulty, some-faulty}
use Rattle.merc_tokens.proofs.SoFar.{piece-end, tokens-behind_gap, tokens-behind_token}

tokens-end : (text : List ℕ) (at : ℕ) (after : Bool) (tokens : List SpelledToken) → drop at text ≡ [] → HasTokensFrom text at after tokens → tokens ≡ []
tokens-end text at after _ ended (ends _ _ also) = refl
tokens-end text at after tokens ended (gap _ len _ _ is on) = let none = piece-end text at after ended in absurd (cc)
tokens-end text at after _ ended (token _ len _ spelling rest is on) = let none = piece-end text at after ended in absurd (cc)

HasTokensFrom-unique : (text : List ℕ) (at : ℕ) (after : Bool) (ts us : List SpelledToken) → HasTokensFrom text at after ts → HasTokensFrom text at after us → ts ≡ us
HasTokensFrom-unique text at after _ us (ends _ _ ended) other = sym (tokens-end text at after us ended other)
HasTokensFrom-unique text at after ts us (gap _ len _ _ is on) other =
    HasTokensFrom-unique text (at + len) false ts us on (tokens-behind_gap text at len after us is other)
HasTokensFrom-unique text at after _ us (token _ len _ spelling rest is on) other =
    let others = tokens-behind_token text at len after spelling us is other in
    ap (λ (more : List SpelledToken). token_at text at len spelling ∷ more) (HasTokensFrom-unique text (at + len) (is_name spelling) rest others.0 on others.2)
    ∙ sym others.1

-- a text has at most one list of tokens
pub HasTokens-unique : (text : List ℕ) (ts us : List SpelledToken) → HasTokens text ts → HasTokens text us → ts ≡ us
HasTokens-unique text ts us has also = HasTokensFrom-unique text 0 false ts us has.all also.all

no_tokens-from : (text : List ℕ) (place : ℕ) (rule : Rule) (detail : Detail) (at : ℕ) (after : Bool) (tokens : List SpelledToken) → HasFaultFrom text place rule detail at after → HasTokensFrom text at after tokens → ⊥
no_tokens-from text place rule detail at after _ (here _ _ same faulty) (ends _ _ ended) = some-faulty _ rule detail faulty ended
no_tokens-from text place rule detail at after tokens (here _ _ same faulty) (gap _ len _ _ is on) = let fault = (piece-faulty _ rule detail after faulty).is in cc
no_tokens-from text place rule detail at after _ (here _ _ same faulty) (token _ len _ spelling rest is on) = let fault = (piece-faulty _ rule detail after faulty).is in cc
no_tokens-from text place rule detail at after tokens (behind_gap _ len _ is more) has =
    no_tokens-from text place rule detail (at + len) false tokens more (tokens-behind_gap text at len after tokens is has)
no_tokens-from text place rule detail at after tokens (behind_token _ len _ spelling is more) has =
    let others = tokens-behind_token text at len after spelling tokens is has in
    no_tokens-from text place rule detail (at + len) (is_name spelling) others.0 more others.2

-- a text with a fault has none
pub HasFault-no_tokens : (text : List ℕ) (place : ℕ) (rule : Rule) (detail : Detail) (tokens : List SpelledToken) → HasFault text place rule detail → HasTokens text tokens → ⊥
HasFault-no_tokens text place rule detail tokens (inl fault) has = no_tokens-from text place rule detail 0 false tokens fault has.all
HasFault-no_tokens text place rule detail tokens (inr ended) has = ended.utf8 has.utf8

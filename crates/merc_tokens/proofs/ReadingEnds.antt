-- What a reading says at its end.
use Rattle.std.proofs.Common.{◌≡◌, ℕ, ◌<◌, ◌≤◌, inr, Bool, false, List, [], length, drop, map, Some, refl, ap, subst, arith, length-drop}
use Rattle.std.proofs.lemmas.List.{append-nil}
use Rattle.merc_base.specs.Refusal.{rule_number}
use Rattle.merc_base.specs.declared.refusal.Rule.{Rule}
use Rattle.merc_base.specs.declared.refusal.Detail.{Detail}
use Rattle.merc_tokens.specs.declared.token.Token.{Token}
use Rattle.merc_tokens.specs.declared.pieces.Piece.TheVariants.{Fault}
use Rattle.merc_tokens.specs.Pieces.{first_piece}
use Rattle.merc_tokens.specs.Tokens.{SpelledToken, HasTokensFrom, with_texts, with_names, line_at}
use Rattle.merc_tokens.specs.Tokens.HasTokensFrom.{ends, gap, token}
use Rattle.merc_tokens.specs.Faults.{IsFaulty, HasFaultFrom, ComesFirst}
use Rattle.merc_tokens.specs.Faults.HasFaultFrom.{here, behind_gap, behind_token}
use Rattle.merc_tokens.specs.Outcomes.{ReadsAll, ReadsFault}
use Rattle.merc_tokens.proofs.PieceFaults.{piece-faulty, faulty-piece, some-faulty}
use Rattle.merc_tokens.proofs.SoFar.{ReadSoFar, piece-end}

-- where a piece is a fault no tokens are
no_tokens : (text : List ℕ) (at : ℕ) (after : Bool) (rule : Rule) (detail : Detail) (tokens : List SpelledToken) → at < length text → first_piece after (drop at text) ≡ Fault rule detail → HasTokensFrom text at after tokens → ⊥
no_tokens text at after rule detail _ inside is (ends _ _ ended) = omega (arith, ap length ended, length-drop at text)
no_tokens text at after rule detail tokens inside is (gap _ len _ _ also on) = cc
no_tokens text at after rule detail _ inside is (token _ len _ spelling rest also on) = cc

-- and no other fault comes before it
least_here : (text : List ℕ) (at : ℕ) (after : Bool) (rule : Rule) (detail : Detail) → first_piece after (drop at text) ≡ Fault rule detail → (place : ℕ) (rule' : Rule) (detail' : Detail) → HasFaultFrom text place rule' detail' at after → ComesFirst at rule place rule'
least_here text at after rule detail is place rule' detail' (here _ _ same faulty) =
    let other = piece-faulty _ rule' detail' after faulty in
    let fault = other.is in
    let same_rule : other.first ≡ rule = cc in
    inr (same, subst (λ (r : Rule). rule_number r ≤ rule_number rule') same_rule other.least)
least_here text at after rule detail is place rule' detail' (behind_gap _ len _ also on) = absurd (cc)
least_here text at after rule detail is place rule' detail' (behind_token _ len _ spelling also on) = absurd (cc)

nothing-faulty : {rule : Rule} {detail : Detail} → IsFaulty [] rule detail → ⊥
nothing-faulty {rule} {detail} faulty = some-faulty [] rule detail faulty refl

-- at the end there is no fault
faultless-end : (text : List ℕ) (at : ℕ) (after : Bool) → drop at text ≡ [] → (place : ℕ) (rule : Rule) (detail : Detail) → HasFaultFrom text place rule detail at after → ⊥
faultless-end text at after ended place rule detail (here _ _ same faulty) = nothing-faulty (subst (λ (rest : List ℕ). IsFaulty rest rule detail) ended faulty)
faultless-end text at after ended place rule detail (behind_gap _ len _ also on) = let none = piece-end text at after ended in cc
faultless-end text at after ended place rule detail (behind_token _ len _ spelling also on) = let none = piece-end text at after ended in cc

pub reads-fault : (text : List ℕ) (read : List SpelledToken) (at line : ℕ) (after : Bool) (rule : Rule) (detail : Detail) → ReadSoFar text read at after → at < length text → first_piece after (drop at text) ≡ Fault rule detail → line ≡ line_at text at → ReadsFault text (record { rule = rule; place = record { byte = at; line = line }; detail = detail })
reads-fault text read at line after rule detail so_far inside is on_line = record {
  fault = so_far.faults at rule detail (here at after refl (faulty-piece (drop at text) after rule detail (omega (arith, length-drop at text)) is));
  line = on_line;
  least = λ place rule' detail' has. least_here text at after rule detail is place rule' detail' (so_far.no_others place rule' detail' has);
  tokenless = λ tokens has.
      let parts = so_far.forced tokens has in
      no_tokens text at after rule detail parts.0 inside is parts.2;
}

pub reads-all : (text : List ℕ) (old names : List (List ℕ)) (tokens : List Token) (read : List SpelledToken) (at : ℕ) (after : Bool) → ReadSoFar text read at after → map (with_texts names) tokens ≡ map Some read → names ≡ with_names old read → drop at text ≡ [] → ReadsAll text old names tokens
reads-all text old names tokens read at after so_far texts table ended = record {
  spelled = read;
  texts = texts;
  table = table;
  all = subst (HasTokensFrom text 0 false) (append-nil read) (so_far.tokens [] (ends at after ended));
  faultless = λ place rule detail has. faultless-end text at after ended place rule detail (so_far.no_others place rule detail has);
}

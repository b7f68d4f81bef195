-- The first fault of single texts, and what is not the first.
use Rattle.std.proofs.Common.{◌≡◌, ℕ, ◌≤◌, inl, inr, false, [], ◌∷◌, refl, subst, arith}
use Rattle.std.specs.Prelude.{codes}
use Rattle.std.specs.Char.{encode_utf8}
use Rattle.std.specs.Str.{is_utf8, chars}
use Rattle.std.specs.Str.Lossy.{utf8_valid_len}
use Rattle.std.proofs.lemmas.Bool.{false≢true}
use Rattle.std.proofs.lemmas.Str.{is_utf8-from_IsUtf8}
use Rattle.merc_base.specs.Characters.{bang_code}
use Rattle.merc_base.specs.Refusal.{rule_number}
use Rattle.merc_base.specs.declared.refusal.Rule.{Rule}
use Rattle.merc_base.specs.declared.refusal.Rule.TheVariants.{BadToken, OutsideProfile}
use Rattle.merc_base.specs.declared.refusal.Construct.TheVariants.{Character}
use Rattle.merc_base.specs.declared.refusal.Detail.{Detail}
use Rattle.merc_base.specs.declared.refusal.Detail.TheVariants.{Plain, Word}
use Rattle.merc_tokens.specs.Faults.{HasFault, FirstFault, ComesFirst, IsFaulty}
use Rattle.merc_tokens.specs.Faults.HasFaultFrom.{here, behind_gap, behind_token}
use Rattle.merc_tokens.specs.Faults.IsFaulty.{character}
use Rattle.merc_tokens.proofs.PieceFaults.{piece-faulty}

bang-rule : (rule : Rule) (detail : Detail) → IsFaulty (codes "!") rule detail → rule_number OutsideProfile ≤ rule_number rule
bang-rule rule detail faulty =
    let most = piece-faulty (codes "!") rule detail false faulty in
    let same : most.first ≡ OutsideProfile = let is = most.is in cc in
    subst (λ (first : Rule). rule_number first ≤ rule_number rule) same most.least

-- no other fault of a `!` alone comes before this: the text is UTF-8, and no token stands before its byte 0
bang-least : (other : ℕ) (rule : Rule) (detail : Detail) → HasFault (codes "!") other rule detail → ComesFirst 0 OutsideProfile other rule
unfolding encode_utf8
bang-least other rule detail (inl (here _ _ same faulty)) = inr (same, bang-rule rule detail faulty)
bang-least other rule detail (inl (behind_gap _ len _ is on)) = absurd (cc)
bang-least other rule detail (inl (behind_token _ len _ spelling is on)) = absurd (cc)
bang-least other rule detail (inr ended) = absurd (ended.utf8 (codes "!", (refl, refl)))

pub bang-example : FirstFault (codes "!") OutsideProfile (record { byte = 0; line = 1 }) (Word Character)
bang-example = record { fault = inl (here 0 false refl (character bang_code [] refl)); line = refl; least = bang-least }

-- the place and the line are right, and the rule is not
pub bang_rule-counterexample : FirstFault (codes "!") BadToken (record { byte = 0; line = 1 }) Plain → ⊥
bang_rule-counterexample first =
    elim (bang-least 0 BadToken Plain first.fault) [ inl less ↦ omega (arith, less) | inr same ↦ omega (arith, same.1) ]

-- a `!` and a byte that is not UTF-8: this byte is a fault too
pub bang_byte-fault : HasFault (bang_code ∷ 255 ∷ []) 1 BadToken Plain
unfolding is_utf8 chars utf8_valid_len encode_utf8
bang_byte-fault = inr (record {
  utf8 = λ text. false≢true (is_utf8-from_IsUtf8 (bang_code ∷ 255 ∷ []) text);
  longest = refl;
  rule_is = refl;
  detail_is = refl;
})

-- but the `!` before it comes first
pub bang_byte-counterexample : FirstFault (bang_code ∷ 255 ∷ []) BadToken (record { byte = 1; line = 1 }) Plain → ⊥
bang_byte-counterexample first =
    elim (first.least 0 OutsideProfile (Word Character) (inl (here 0 false refl (character bang_code (255 ∷ []) refl)))) [ inl less ↦ omega (arith, less) | inr same ↦ omega (arith, same.0) ]

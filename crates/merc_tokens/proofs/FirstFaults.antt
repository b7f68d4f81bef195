-- The first fault of a text, from what was read and from whether it is UTF-8.
use Rattle.std.proofs.Common.{◌≡◌, ℕ, ◌<◌, ◌≤◌, inl, inr, false, List, refl, arith}
use Rattle.std.specs.Prelude.{nat_lt}
use Rattle.std.specs.Str.{IsUtf8}
use Rattle.std.specs.Str.Lossy.{utf8_valid_len}
use Rattle.std.proofs.lemmas.Bool.{cond_both, ltb-false, ltb-true}
use Rattle.std.proofs.Math.Nat.{eq-or-lt_of_le}
use Rattle.merc_base.specs.Refusal.{rule_number}
use Rattle.merc_base.specs.declared.refusal.Rule.{Rule}
use Rattle.merc_base.specs.declared.refusal.Rule.TheVariants.{BadToken, NoTerm, WrongForm, UnknownType, DeclaredTwice, Undeclared, UnknownName, TypeMismatch, MissingMode, NeverReady, BindsOuter, UnboundOutput, WrongCategory, ParallelCategory, OutsideProfile, LimitPassed}
use Rattle.merc_base.specs.declared.refusal.Detail.{Detail}
use Rattle.merc_base.specs.declared.refusal.Refusal.{Refusal}
use Rattle.merc_tokens.specs.declared.reading.Reading.{Reading}
use Rattle.merc_tokens.specs.declared.reading.Reading.TheVariants.{All, Faulty}
use Rattle.merc_tokens.specs.Faults.{HasFault, HasFaultFrom, ComesFirst, FirstFault, HasNoTokens}
use Rattle.merc_tokens.specs.Outcomes.{ReadsFault, ReadsRightly, bad_byte, earlier}

-- a refusal says the first fault of a text that has no tokens
abbrev pub IsRight : List ℕ → Refusal → Type 0
IsRight text refusal = FirstFault text refusal.rule refusal.place refusal.detail × HasNoTokens text

rule_number-le : (rule : Rule) → 1 ≤ rule_number rule
rule_number-le BadToken = omega arith
rule_number-le NoTerm = omega arith
rule_number-le WrongForm = omega arith
rule_number-le UnknownType = omega arith
rule_number-le DeclaredTwice = omega arith
rule_number-le Undeclared = omega arith
rule_number-le UnknownName = omega arith
rule_number-le TypeMismatch = omega arith
rule_number-le MissingMode = omega arith
rule_number-le NeverReady = omega arith
rule_number-le BindsOuter = omega arith
rule_number-le UnboundOutput = omega arith
rule_number-le WrongCategory = omega arith
rule_number-le ParallelCategory = omega arith
rule_number-le OutsideProfile = omega arith
rule_number-le LimitPassed = omega arith

-- rule 1 comes before whatever is not before it
bad_first : (at place : ℕ) (rule : Rule) → at ≤ place → ComesFirst at BadToken place rule
bad_first at place rule le =
    elim (eq-or-lt_of_le le) [ inl same ↦ inr (same, rule_number-le rule) | inr less ↦ inl less ]

within_utf8 : (text : List ℕ) (refusal : Refusal) → IsUtf8 text → ReadsFault text refusal → (other : ℕ) (rule : Rule) (detail : Detail) → HasFault text other rule detail → ComesFirst refusal.place.byte refusal.rule other rule
within_utf8 text refusal utf8 reads other rule detail (inl has) = reads.least other rule detail has
within_utf8 text refusal utf8 reads other rule detail (inr ended) = absurd (ended.utf8 utf8)

pub right-utf8 : (text : List ℕ) (refusal : Refusal) → IsUtf8 text → ReadsFault text refusal → IsRight text refusal
right-utf8 text refusal utf8 reads = (
  record { fault = inl reads.fault; line = reads.line; least = within_utf8 text refusal utf8 reads },
  λ tokens has. reads.tokenless tokens has.all,
)

module _ (text : List ℕ) (at : ℕ) (other_bytes : IsUtf8 text → ⊥) (longest : at ≡ utf8_valid_len text) where
  before_end : (refusal : Refusal) → ReadsFault text refusal → refusal.place.byte < at → (other : ℕ) (rule : Rule) (detail : Detail) → HasFault text other rule detail → ComesFirst refusal.place.byte refusal.rule other rule
  before_end refusal reads less other rule detail (inl has) = reads.least other rule detail has
  before_end refusal reads less other rule detail (inr ended) = inl (omega (arith, ended.longest))

  comes_le : (byte other : ℕ) (one rule : Rule) → at ≤ byte → ComesFirst byte one other rule → at ≤ other
  comes_le byte other one rule le (inl less) = omega arith
  comes_le byte other one rule le (inr same) = omega (arith, same.0)

  end_first : ((other : ℕ) (rule : Rule) (detail : Detail) → HasFaultFrom text other rule detail 0 false → at ≤ other) → (other : ℕ) (rule : Rule) (detail : Detail) → HasFault text other rule detail → ComesFirst at BadToken other rule
  end_first behind other rule detail (inl has) = bad_first at other rule (behind other rule detail has)
  end_first behind other rule detail (inr ended) = bad_first at other rule (omega (arith, ended.longest))

  end-right : ((other : ℕ) (rule : Rule) (detail : Detail) → HasFaultFrom text other rule detail 0 false → at ≤ other) → IsRight text (bad_byte text at)
  end-right behind = (
    record {
      fault = inr (record { utf8 = other_bytes; longest = longest; rule_is = refl; detail_is = refl });
      line = refl;
      least = end_first behind;
    },
    λ tokens has. other_bytes has.utf8,
  )

  pub right-other : (before after : List (List ℕ)) (reading : Reading) → ReadsRightly text before after reading → IsRight text (earlier text at reading)
  right-other before after (All tokens) reads = end-right (λ other rule detail has. absurd (reads.faultless other rule detail has))
  right-other before after (Faulty refusal) reads =
      cond_both (nat_lt refusal.place.byte at) refusal (bad_byte text at) (IsRight text)
      (λ less. (record { fault = inl reads.fault; line = reads.line; least = before_end refusal reads (ltb-true _ _ less) }, λ tokens has. other_bytes has.utf8))
      (λ most. end-right (λ other rule detail has. comes_le refusal.place.byte other refusal.rule rule (ltb-false _ _ most) (reads.least other rule detail has)))

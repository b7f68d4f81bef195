-- The reading with as many steps as serve, which is made of its own parts.
use Rattle.std.proofs.Common.{◌≡◌, ℕ, suc, ◌<◌, List, length, Option, Some, None, sym, ◌∙◌, arith}
use Rattle.merc_base.specs.declared.place.Span.{Span}
use Rattle.merc_tokens.specs.declared.token.Token.{Token}
use Rattle.merc_terms.specs.declared.frame.Bound.{Bound}
use Rattle.merc_terms.specs.declared.frame.Frame.{Frame}
use Rattle.merc_terms.specs.declared.built.Built.{Built}
use Rattle.merc_terms.specs.Reader.{Read, Reading, term_by, tail_by, filled_by, reading}
use Rattle.merc_terms.proofs.Steps.{AreAlike, IsWithin, term_by-alike, tail_by-alike, filled_by-alike, term-shorter, filled-none, term-steps, tail-steps, filled-steps}

-- how many steps serve for what goes on behind a part
abbrev steps_behind : Option Read → ℕ
steps_behind None = 0
steps_behind (Some read) = suc (length read.rest)

pub settled_term : Bound → Built → List Token → Option Read
settled_term bound built tokens = (reading (suc (length tokens))).term bound built tokens

pub settled_tail : Bound → Built → Span → ℕ → List Token → Option Read
settled_tail bound built span priority tokens = (reading (suc (length tokens))).tail bound built span priority tokens

pub settled_filled : Frame → Option Read → Option Read
settled_filled frame part = (reading (steps_behind part)).filled frame part

abbrev pub settled : Reading
settled = record { term = settled_term; tail = settled_tail; filled = settled_filled }

pub settled_term-is : (n : ℕ) (bound : Bound) (built : Built) (tokens : List Token) → length tokens < n → (reading n).term bound built tokens ≡ settled_term bound built tokens
unfolding settled_term
settled_term-is n bound built tokens enough = term-steps n (suc (length tokens)) bound built tokens enough (omega arith)

pub settled_tail-is : (n : ℕ) (bound : Bound) (built : Built) (span : Span) (priority : ℕ) (tokens : List Token) → length tokens < n
    → (reading n).tail bound built span priority tokens ≡ settled_tail bound built span priority tokens
unfolding settled_tail
settled_tail-is n bound built span priority tokens enough = tail-steps n (suc (length tokens)) bound built span priority tokens enough (omega arith)

pub settled_filled-is : (n : ℕ) (frame : Frame) (part : Option Read) → IsWithin n part → (reading n).filled frame part ≡ settled_filled frame part
unfolding settled_filled
settled_filled-is n frame None enough = filled-none n frame ∙ sym (filled-none 0 frame)
settled_filled-is n frame (Some read) enough = filled-steps n (suc (length read.rest)) frame read enough (omega arith)

reading-settled : (n : ℕ) → AreAlike n (reading n) settled
reading-settled n = record {
  term = λ bound built tokens enough. settled_term-is n bound built tokens enough;
  tail = λ bound built span priority tokens enough. settled_tail-is n bound built span priority tokens enough;
  filled = λ frame part enough. settled_filled-is n frame part enough;
}

pub settled_term-by : (bound : Bound) (built : Built) (tokens : List Token) → settled_term bound built tokens ≡ term_by settled bound built tokens
unfolding settled_term reading
settled_term-by bound built tokens =
    let n = length tokens in term_by-alike n (reading n) settled (reading-settled n) (term-shorter n) bound built tokens (omega arith)

pub settled_tail-by : (bound : Bound) (built : Built) (span : Span) (priority : ℕ) (tokens : List Token)
    → settled_tail bound built span priority tokens ≡ tail_by settled bound built span priority tokens
unfolding settled_tail reading
settled_tail-by bound built span priority tokens =
    let n = length tokens in tail_by-alike n (reading n) settled (reading-settled n) (term-shorter n) bound built span priority tokens (omega arith)

pub settled_filled-by : (frame : Frame) (read : Read) → settled_filled frame (Some read) ≡ filled_by settled frame (Some read)
unfolding settled_filled reading
settled_filled-by frame read =
    let n = length read.rest in
    filled_by-alike n (reading n) settled (reading-settled n) (term-shorter n) (term-shorter (suc n)) frame (Some read) (omega arith)

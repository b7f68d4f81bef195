-- Each move of the reader comes to the same in the end.
use Rattle.std.proofs.Common.{◌≡◌, ℕ, zero, suc, ◌+◌, ◌<◌, ◌≤◌, Bool, true, false, List, [], ◌∷◌, length, Option, Some, None, if◌then◌else◌, refl, sym, ap, ◌∙◌, arith}
use Rattle.merc_base.specs.declared.place.Span.{Span}
use Rattle.merc_tokens.specs.declared.token.Token.{Token}
use Rattle.merc_terms.specs.declared.built.Built.{Built}
use Rattle.merc_terms.specs.declared.frame.Bound.{Bound}
use Rattle.merc_terms.specs.declared.frame.Role.{Role}
use Rattle.merc_terms.specs.declared.frame.Frame.{Frame}
use Rattle.merc_terms.specs.declared.frame.Role.TheVariants.{RightOperand}
use Rattle.merc_terms.specs.declared.operators.Operator.{Operator}
use Rattle.merc_terms.specs.Operators.{last_most}
use Rattle.merc_terms.specs.declared.starting.Start.{Start}
use Rattle.merc_terms.specs.declared.moving.Move.{Move}
use Rattle.merc_terms.specs.declared.moving.Move.TheVariants.{Have as HaveMove, Open, Refused as RefusedMove}
use Rattle.merc_terms.specs.Reader.{Reading, Read, frame_of, term_by, begun_by, started_by, going_by, filled_by, closed_by, infix_at, operand_bound, reading, finished}
use Rattle.merc_terms.specs.Starting.{Started, start_at}
use Rattle.merc_terms.specs.Moves.{begun_in, filled_in, is_second, least_taken}
use Rattle.merc_terms.specs.Standing.{Suffice, Comes}

pub Suffice-less : (len' len : ℕ) (steps : List ℕ) (frames : List Frame) → len' ≤ len → Suffice len steps frames → Suffice len' steps frames
Suffice-less len' len [] [] h s = s
Suffice-less len' len [] (frame ∷ frames) h s = s
Suffice-less len' len (n ∷ steps) [] h s = s
Suffice-less len' len (n ∷ steps) (frame ∷ frames) h s = (omega (arith, s.0), Suffice-less len' len steps frames h s.1)

-- Open terms make nothing of nothing.
pub finished-none : (steps : List ℕ) (frames : List Frame) → finished steps frames None ≡ None
unfolding reading
finished-none [] [] = refl
finished-none (n ∷ steps) [] = refl
finished-none [] (frame ∷ frames) = refl
finished-none (zero ∷ steps) (frame ∷ frames) = finished-none steps frames
finished-none (suc n ∷ steps) (frame ∷ frames) = finished-none steps frames

-- Where a move leads, the same comes in the end.
abbrev pub Arrives : Move → Bound → Built → List Frame → List Token → Option Read → Type 0
Arrives (HaveMove span priority) bound built frames rest answer = Comes (λ n. (reading n).tail bound built span priority rest) frames (length rest) answer
Arrives (Open role inner) bound built frames rest answer = Comes (λ n. (reading n).term inner built rest) (frame_of role bound ∷ frames) (length rest) answer
Arrives RefusedMove bound built frames rest answer = answer ≡ None

-- a term begins with nothing that begins one
pub refused : (bound : Bound) (built : Built) (tokens : List Token) (frames : List Frame) (answer : Option Read) → start_at tokens ≡ None
    → Comes (λ n. (reading n).term bound built tokens) frames (length tokens) answer → answer ≡ None
unfolding reading
refused bound built tokens frames answer e comes = from comes.n comes.steps comes.enough comes.is
  where
    from : (n : ℕ) (steps : List ℕ) → length tokens < n → finished steps frames ((reading n).term bound built tokens) ≡ answer → answer ≡ None
    from zero steps h is = absurd (omega (arith, h))
    from (suc n) steps h is =
        sym is ∙ ap (λ (started : Started). finished steps frames (begun_by (reading n) bound built started)) e ∙ finished-none steps frames

-- a term begins with this
pub begun : (bound : Bound) (built built' : Built) (tokens rest : List Token) (start : Start) (to : Move) (frames : List Frame) (answer : Option Read) → start_at tokens ≡ Some (start, rest)
    → ((parts : Reading) → begun_in parts bound built' rest to ≡ started_by parts bound built start rest) → length rest < length tokens
    → Comes (λ n. (reading n).term bound built tokens) frames (length tokens) answer → Arrives to bound built' frames rest answer
unfolding reading
begun bound built built' tokens rest start to frames answer e same shorter comes = from comes.n comes.steps comes.enough comes.each comes.is
  where
    arrived : (n : ℕ) (steps : List ℕ) (to : Move) → length tokens < suc n → Suffice (length tokens) steps frames → finished steps frames (begun_in (reading n) bound built' rest to) ≡ answer
        → Arrives to bound built' frames rest answer
    arrived n steps (HaveMove span priority) h each is = record { n = n; steps = steps; enough = omega (arith, h); each = Suffice-less _ _ steps frames (omega arith) each; is = is }
    arrived n steps (Open role inner) h each is = record { n = n; steps = n ∷ steps; enough = omega (arith, h); each = (omega (arith, h), Suffice-less _ _ steps frames (omega arith) each); is = is }
    arrived n steps RefusedMove h each is = sym is ∙ finished-none steps frames

    from : (n : ℕ) (steps : List ℕ) → length tokens < n → Suffice (length tokens) steps frames → finished steps frames ((reading n).term bound built tokens) ≡ answer → Arrives to bound built' frames rest answer
    from zero steps h each is = absurd (omega (arith, h))
    from (suc n) steps h each is =
        arrived n steps to h each (ap (finished steps frames) (same (reading n)) ∙ ap (λ (started : Started). finished steps frames (begun_by (reading n) bound built started)) (sym e) ∙ is)

-- an open term whose part was read
pub filled : (frame : Frame) (read : Read) (built' : Built) (rest : List Token) (to : Move) (frames : List Frame) (answer : Option Read)
    → ((parts : Reading) → filled_in parts frame.bound built' rest to ≡ closed_by parts frame.role frame.bound read) → length rest + least_taken to ≤ length read.rest
    → Comes (λ n. Some read) (frame ∷ frames) (length read.rest) answer → Arrives to frame.bound built' frames rest answer
unfolding reading
filled frame read built' rest to frames answer same taken comes = from comes.steps comes.each comes.is
  where
    opened : (n : ℕ) (steps : List ℕ) (role : Role) (inner : Bound) (second : Bool) → length rest + (if second then 0 else 1) ≤ length read.rest → length read.rest < suc n → Suffice (length read.rest) steps frames
        → finished steps frames (if second then filled_by (reading n) (frame_of role frame.bound) (term_by (reading n) inner built' rest) else (reading n).filled (frame_of role frame.bound) ((reading n).term inner built' rest)) ≡ answer
        → Comes (λ n. (reading n).term inner built' rest) (frame_of role frame.bound ∷ frames) (length rest) answer
    opened n steps role inner true less h each is = record { n = suc n; steps = suc n ∷ steps; enough = omega arith; each = (omega arith, Suffice-less _ _ steps frames (omega arith) each); is = is }
    opened n steps role inner false less h each is = record { n = n; steps = n ∷ steps; enough = omega arith; each = (omega arith, Suffice-less _ _ steps frames (omega arith) each); is = is }

    arrived : (n : ℕ) (steps : List ℕ) (to : Move) → length rest + least_taken to ≤ length read.rest → length read.rest < suc n → Suffice (length read.rest) steps frames → finished steps frames (filled_in (reading n) frame.bound built' rest to) ≡ answer
        → Arrives to frame.bound built' frames rest answer
    arrived n steps (HaveMove span priority) less h each is = record { n = suc n; steps = steps; enough = omega arith; each = Suffice-less _ _ steps frames (omega arith) each; is = is }
    arrived n steps (Open role inner) less h each is = opened n steps role inner (is_second role) less h each is
    arrived n steps RefusedMove less h each is = sym is ∙ finished-none steps frames

    from : (steps : List ℕ) → Suffice (length read.rest) steps (frame ∷ frames) → finished steps (frame ∷ frames) (Some read) ≡ answer → Arrives to frame.bound built' frames rest answer
    from [] each is = absurd each
    from (zero ∷ steps) each is = absurd (omega (arith, each.0))
    from (suc n ∷ steps) each is = arrived n steps to taken each.0 each.1 (ap (finished steps frames) (same (reading n)) ∙ is)

-- nothing goes on behind a term
pub ended : (bound : Bound) (built : Built) (span : Span) (priority : ℕ) (tokens : List Token) (frames : List Frame) (answer : Option Read) → infix_at bound priority tokens ≡ None
    → Comes (λ n. (reading n).tail bound built span priority tokens) frames (length tokens) answer
    → Comes (λ n. Some (record { built = built; span = span; priority = priority; rest = tokens })) frames (length tokens) answer
unfolding reading
ended bound built span priority tokens frames answer e comes = from comes.n comes.steps comes.enough comes.each comes.is
  where
    from : (n : ℕ) (steps : List ℕ) → length tokens < n → Suffice (length tokens) steps frames → finished steps frames ((reading n).tail bound built span priority tokens) ≡ answer
        → Comes (λ n. Some (record { built = built; span = span; priority = priority; rest = tokens })) frames (length tokens) answer
    from zero steps h each is = absurd (omega (arith, h))
    from (suc n) steps h each is = record {
      n = suc n;
      steps = steps;
      enough = h;
      each = each;
      is = ap (λ (found : Option (Operator × List Token)). finished steps frames (going_by (reading n) bound built span priority tokens found)) (sym e) ∙ is;
    }

-- an infix operator goes on behind a term
pub gone_on : (bound : Bound) (built : Built) (span : Span) (priority : ℕ) (tokens rest : List Token) (operator : Operator) (frames : List Frame) (answer : Option Read) → infix_at bound priority tokens ≡ Some (operator, rest)
    → length rest < length tokens
    → Comes (λ n. (reading n).tail bound built span priority tokens) frames (length tokens) answer
    → Comes (λ n. (reading n).term (operand_bound (last_most operator) bound) built rest) (frame_of (RightOperand operator span) bound ∷ frames) (length rest) answer
unfolding reading
gone_on bound built span priority tokens rest operator frames answer e shorter comes = from comes.n comes.steps comes.enough comes.each comes.is
  where
    from : (n : ℕ) (steps : List ℕ) → length tokens < n → Suffice (length tokens) steps frames → finished steps frames ((reading n).tail bound built span priority tokens) ≡ answer
        → Comes (λ n. (reading n).term (operand_bound (last_most operator) bound) built rest) (frame_of (RightOperand operator span) bound ∷ frames) (length rest) answer
    from zero steps h each is = absurd (omega (arith, h))
    from (suc n) steps h each is = record {
      n = n;
      steps = n ∷ steps;
      enough = omega arith;
      each = (omega arith, Suffice-less _ _ steps frames (omega arith) each);
      is = ap (λ (found : Option (Operator × List Token)). finished steps frames (going_by (reading n) bound built span priority tokens found)) (sym e) ∙ is;
    }

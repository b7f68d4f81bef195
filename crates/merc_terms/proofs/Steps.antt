-- More steps than there are tokens change nothing.
use Rattle.std.proofs.Common.{◌≡◌, ℕ, zero, suc, ◌+◌, ◌<◌, ◌≤◌, Bool, true, false, List, [], ◌∷◌, length, nat_le, Option, Some, None, refl, sym, ap, ◌∙◌, arith}
use Rattle.std.specs.Bool.{if◌then◌else◌}
use Rattle.merc_base.specs.declared.place.Span.{Span}
use Rattle.merc_tokens.specs.declared.token.Token.{Token}
use Rattle.merc_terms.specs.declared.frame.Bound.{Bound}
use Rattle.merc_terms.specs.declared.frame.Role.{Role}
use Rattle.merc_terms.specs.declared.frame.Role.TheVariants.{Enclosed, Argument, Item, ListTail, Operand, FirstOperand, SecondOperand, RightOperand}
use Rattle.merc_terms.specs.declared.frame.Frame.{Frame}
use Rattle.merc_terms.specs.declared.frame.Delimiter.{Delimiter}
use Rattle.merc_terms.specs.declared.frame.Delimiter.TheVariants.{Comma as CommaMark, Bar as BarMark, Close as CloseMark, CloseList as CloseListMark}
use Rattle.merc_terms.specs.declared.operators.Operator.{Operator}
use Rattle.merc_terms.specs.declared.starting.Start.{Start}
use Rattle.merc_terms.specs.declared.starting.Start.TheVariants.{Variable as VariableStart, Integer as IntegerStart, Text as TextStart, Constant, Application as ApplicationStart, List as ListStart, Parenthesis, Prefix}
use Rattle.merc_terms.specs.Operators.{last_most}
use Rattle.merc_terms.specs.Reading.{joined, begins_with, is_infix_name}
use Rattle.merc_terms.specs.Starting.{Started, start_at}
use Rattle.merc_terms.specs.declared.built.Built.{Built}
use Rattle.merc_terms.specs.Reader.{Read, with_application, with_cells, with_list, with_enclosed, whole_bound, argument_bound, operand_bound, frame_of, prefix_role, prefix_bound, infix_at, Reading, started_by, begun_by, term_by, going_by, tail_by, enclosed_by, argument_by, item_by, list_tail_by, operated_by, second_by, closed_by, filled_by, reading}
use Rattle.merc_terms.proofs.Sound.{term-sound, WhereInfix, infix_at-is, WhereMark, delimiter_at-is}
use Rattle.merc_terms.proofs.Shorter.{Spells-shorter, IsLeft, start_at-left}

abbrev pub IsWithin : ℕ → Option Read → Type 0
IsWithin limit None = Unit {0}
IsWithin limit (Some read) = length read.rest < limit

-- two readings of parts agree on fewer tokens than this
pub record AreAlike (limit : ℕ) (one other : Reading) : Type 0 where
  pub term : (bound : Bound) (built : Built) (tokens : List Token) → length tokens < limit → one.term bound built tokens ≡ other.term bound built tokens
  pub tail : (bound : Bound) (built : Built) (span : Span) (priority : ℕ) (tokens : List Token) → length tokens < limit
      → one.tail bound built span priority tokens ≡ other.tail bound built span priority tokens
  pub filled : (frame : Frame) (part : Option Read) → IsWithin limit part → one.filled frame part ≡ other.filled frame part

abbrev pub IsShorter : (Bound → Built → List Token → Option Read) → Type 0
IsShorter term = (bound : Bound) (built : Built) (tokens : List Token) (read : Read) → term bound built tokens ≡ Some read → length read.rest < length tokens

is_within : (part : Option Read) (length' limit : ℕ) → length' ≤ limit → ((read : Read) → part ≡ Some read → length read.rest < length') → IsWithin limit part
is_within None length' limit below shorter = tt
is_within (Some read) length' limit below shorter = let less = shorter read refl in omega arith

-- an open term and its next part
filled-alike : (limit : ℕ) (one other : Reading) → AreAlike limit one other → IsShorter one.term → (frame : Frame) (bound : Bound) (built : Built) (tokens : List Token)
    → length tokens < limit → one.filled frame (one.term bound built tokens) ≡ other.filled frame (other.term bound built tokens)
filled-alike limit one other alike shorter frame bound built tokens short =
    alike.filled frame (one.term bound built tokens)
    (is_within (one.term bound built tokens) (length tokens) limit (omega arith) (λ read there. shorter bound built tokens read there))
    ∙ ap (other.filled frame) (alike.term bound built tokens short)

going_by-alike : (limit : ℕ) (one other : Reading) → AreAlike limit one other → IsShorter one.term → (bound : Bound) (built : Built) (span : Span) (priority : ℕ) (tokens : List Token)
    → length tokens < suc limit → (found : Option (Operator × List Token)) → WhereInfix bound priority tokens found
    → going_by one bound built span priority tokens found ≡ going_by other bound built span priority tokens found
going_by-alike limit one other alike shorter bound built span priority tokens short None going = refl
going_by-alike limit one other alike shorter bound built span priority tokens short (Some found) going =
    let less : length tokens ≡ suc (length found.1) = ap length going.2 in
    filled-alike limit one other alike shorter (frame_of (RightOperand found.0 span) bound) (operand_bound (last_most found.0) bound) built found.1 (omega arith)

pub tail_by-alike : (limit : ℕ) (one other : Reading) → AreAlike limit one other → IsShorter one.term → (bound : Bound) (built : Built) (span : Span) (priority : ℕ) (tokens : List Token)
    → length tokens < suc limit → tail_by one bound built span priority tokens ≡ tail_by other bound built span priority tokens
tail_by-alike limit one other alike shorter bound built span priority tokens short =
    going_by-alike limit one other alike shorter bound built span priority tokens short (infix_at bound priority tokens) (infix_at-is bound priority tokens)

-- a term begins

prefix_by-alike : (limit : ℕ) (one other : Reading) → AreAlike limit one other → IsShorter one.term → (bound : Bound) (built : Built) (operator : Operator) (span : Span) (rest : List Token)
    → length rest < limit → started_by one bound built (Prefix operator span) rest ≡ started_by other bound built (Prefix operator span) rest
prefix_by-alike limit one other alike shorter bound built operator span rest short = go (nat_le operator.priority bound.max)
  where
    go : (b : Bool) → (if b then one.filled (frame_of (prefix_role operator span) bound) (one.term (prefix_bound operator bound) built rest) else None)
        ≡ (if b then other.filled (frame_of (prefix_role operator span) bound) (other.term (prefix_bound operator bound) built rest) else None)
    go true = filled-alike limit one other alike shorter (frame_of (prefix_role operator span) bound) (prefix_bound operator bound) built rest short
    go false = refl

started_by-alike : (limit : ℕ) (one other : Reading) → AreAlike limit one other → IsShorter one.term → (bound : Bound) (built : Built) (start : Start) (rest : List Token)
    → length rest < limit → started_by one bound built start rest ≡ started_by other bound built start rest
started_by-alike limit one other alike shorter bound built (VariableStart name span) rest short = alike.tail bound _ span 0 rest short
started_by-alike limit one other alike shorter bound built (IntegerStart minus magnitude span) rest short = alike.tail bound _ span 0 rest short
started_by-alike limit one other alike shorter bound built (TextStart name span) rest short = alike.tail bound _ span 0 rest short
started_by-alike limit one other alike shorter bound built (Constant name qualifier span) rest short = alike.tail bound _ span 0 rest short
started_by-alike limit one other alike shorter bound built (ApplicationStart name qualifier span) rest short =
    filled-alike limit one other alike shorter (frame_of (Argument name qualifier span 1) bound) argument_bound built rest short
started_by-alike limit one other alike shorter bound built (ListStart span) rest short =
    filled-alike limit one other alike shorter (frame_of (Item span 1) bound) argument_bound built rest short
started_by-alike limit one other alike shorter bound built (Parenthesis span) rest short =
    filled-alike limit one other alike shorter (frame_of (Enclosed span) bound) whole_bound built rest short
started_by-alike limit one other alike shorter bound built (Prefix operator span) rest short =
    prefix_by-alike limit one other alike shorter bound built operator span rest short

begun_by-alike : (limit : ℕ) (one other : Reading) → AreAlike (suc limit) one other → IsShorter one.term → (bound : Bound) (built : Built) (started : Started)
    → IsLeft limit started → begun_by one bound built started ≡ begun_by other bound built started
begun_by-alike limit one other alike shorter bound built None left = refl
begun_by-alike limit one other alike shorter bound built (Some started) left =
    started_by-alike (suc limit) one other alike shorter bound built started.0 started.1 (omega arith)

pub term_by-alike : (limit : ℕ) (one other : Reading) → AreAlike limit one other → IsShorter one.term → (bound : Bound) (built : Built) (tokens : List Token)
    → length tokens < suc limit → term_by one bound built tokens ≡ term_by other bound built tokens
term_by-alike zero one other alike shorter bound built [] short = refl
term_by-alike zero one other alike shorter bound built (first ∷ rest) short = absurd (omega arith)
term_by-alike (suc limit) one other alike shorter bound built tokens short =
    begun_by-alike limit one other alike shorter bound built (start_at tokens) (start_at-left limit tokens (omega arith))

-- an open term takes its part

enclosed_by-alike : (limit : ℕ) (one other : Reading) → AreAlike limit one other → IsShorter one.term → (span : Span) (bound : Bound) (read : Read) → length read.rest < suc limit
    → (mark : Delimiter) (rest : List Token) → WhereMark read.rest mark rest → enclosed_by one span bound read mark rest ≡ enclosed_by other span bound read mark rest
enclosed_by-alike limit one other alike shorter span bound read short (CloseMark close) rest at =
    let less : length read.rest ≡ suc (length rest) = ap length at in
    tail_by-alike limit one other alike shorter bound (with_enclosed (joined span close) read.built) (joined span close) 0 rest (omega arith)
enclosed_by-alike limit one other alike shorter span bound read short mark rest at = refl

argument_by-alike : (limit : ℕ) (one other : Reading) → AreAlike limit one other → IsShorter one.term → (name : ℕ) (qualifier : Option ℕ) (span : Span) (count : ℕ) (bound : Bound)
    (read : Read) → length read.rest < suc limit → (mark : Delimiter) (rest : List Token) → WhereMark read.rest mark rest
    → argument_by one name qualifier span count bound read mark rest ≡ argument_by other name qualifier span count bound read mark rest
argument_by-alike limit one other alike shorter name qualifier span count bound read short (CloseMark close) rest at =
    let less : length read.rest ≡ suc (length rest) = ap length at in
    tail_by-alike limit one other alike shorter bound (with_application name qualifier count (joined span close) read.built) (joined span close) 0 rest (omega arith)
argument_by-alike limit one other alike shorter name qualifier span count bound read short CommaMark rest at =
    let less : length read.rest ≡ suc (length rest) = ap length at.1 in
    filled-alike limit one other alike shorter (frame_of (Argument name qualifier span (count + 1)) bound) argument_bound read.built rest (omega arith)
argument_by-alike limit one other alike shorter name qualifier span count bound read short mark rest at = refl

item_by-alike : (limit : ℕ) (one other : Reading) → AreAlike limit one other → IsShorter one.term → (span : Span) (count : ℕ) (bound : Bound)
    (read : Read) → length read.rest < suc limit → (mark : Delimiter) (rest : List Token) → WhereMark read.rest mark rest
    → item_by one span count bound read mark rest ≡ item_by other span count bound read mark rest
item_by-alike limit one other alike shorter span count bound read short (CloseListMark close) rest at =
    let less : length read.rest ≡ suc (length rest) = ap length at in
    tail_by-alike limit one other alike shorter bound (with_list count (joined span close) read.built) (joined span close) 0 rest (omega arith)
item_by-alike limit one other alike shorter span count bound read short CommaMark rest at =
    let less : length read.rest ≡ suc (length rest) = ap length at.1 in
    filled-alike limit one other alike shorter (frame_of (Item span (count + 1)) bound) argument_bound read.built rest (omega arith)
item_by-alike limit one other alike shorter span count bound read short BarMark rest at =
    let less : length read.rest ≡ suc (length rest) = ap length at.1 in
    filled-alike limit one other alike shorter (frame_of (ListTail span count) bound) argument_bound read.built rest (omega arith)
item_by-alike limit one other alike shorter span count bound read short mark rest at = refl

list_tail_by-alike : (limit : ℕ) (one other : Reading) → AreAlike limit one other → IsShorter one.term → (span : Span) (count : ℕ) (bound : Bound)
    (read : Read) → length read.rest < suc limit → (mark : Delimiter) (rest : List Token) → WhereMark read.rest mark rest
    → list_tail_by one span count bound read mark rest ≡ list_tail_by other span count bound read mark rest
list_tail_by-alike limit one other alike shorter span count bound read short (CloseListMark close) rest at =
    let less : length read.rest ≡ suc (length rest) = ap length at in
    tail_by-alike limit one other alike shorter bound (with_cells count (joined span close) read.built) (joined span close) 0 rest (omega arith)
list_tail_by-alike limit one other alike shorter span count bound read short mark rest at = refl

operated_by-alike : (limit : ℕ) (one other : Reading) → AreAlike limit one other → IsShorter one.term → (operator : Operator) (operands : ℕ) (from : Span) (bound : Bound) (read : Read)
    → length read.rest < suc limit → operated_by one operator operands from bound read ≡ operated_by other operator operands from bound read
operated_by-alike limit one other alike shorter operator operands from bound read short =
    tail_by-alike limit one other alike shorter bound (with_application operator.name None operands (joined from read.span) read.built) (joined from read.span) operator.priority read.rest short

second_by-alike : (limit : ℕ) (one other : Reading) → AreAlike limit one other → IsShorter one.term → (operator : Operator) (from : Span) (bound : Bound) (part : Option Read)
    → IsWithin (suc limit) part → second_by one operator from bound part ≡ second_by other operator from bound part
second_by-alike limit one other alike shorter operator from bound None short = refl
second_by-alike limit one other alike shorter operator from bound (Some read) short = operated_by-alike limit one other alike shorter operator 2 from bound read short

closed_by-alike : (limit : ℕ) (one other : Reading) → AreAlike limit one other → IsShorter one.term → IsShorter (term_by one) → (role : Role) (bound : Bound) (read : Read)
    → length read.rest < suc limit → closed_by one role bound read ≡ closed_by other role bound read
closed_by-alike limit one other alike shorter shorter' (Enclosed span) bound read short =
    enclosed_by-alike limit one other alike shorter span bound read short _ _ (delimiter_at-is read.rest)
closed_by-alike limit one other alike shorter shorter' (Argument name qualifier span count) bound read short =
    argument_by-alike limit one other alike shorter name qualifier span count bound read short _ _ (delimiter_at-is read.rest)
closed_by-alike limit one other alike shorter shorter' (Item span count) bound read short =
    item_by-alike limit one other alike shorter span count bound read short _ _ (delimiter_at-is read.rest)
closed_by-alike limit one other alike shorter shorter' (ListTail span count) bound read short =
    list_tail_by-alike limit one other alike shorter span count bound read short _ _ (delimiter_at-is read.rest)
closed_by-alike limit one other alike shorter shorter' (Operand operator span) bound read short =
    operated_by-alike limit one other alike shorter operator 1 span bound read short
closed_by-alike limit one other alike shorter shorter' (FirstOperand operator span) bound read short = go (begins_with is_infix_name read.rest)
  where
    go : (b : Bool) → (if b then None else second_by one operator span bound (term_by one (operand_bound (last_most operator) bound) read.built read.rest))
        ≡ (if b then None else second_by other operator span bound (term_by other (operand_bound (last_most operator) bound) read.built read.rest))
    go true = refl
    go false =
        second_by-alike limit one other alike shorter operator span bound (term_by one (operand_bound (last_most operator) bound) read.built read.rest)
        (is_within _ (length read.rest) (suc limit) (omega arith) (λ inner there. shorter' (operand_bound (last_most operator) bound) read.built read.rest inner there))
        ∙ ap (second_by other operator span bound) (term_by-alike limit one other alike shorter (operand_bound (last_most operator) bound) read.built read.rest short)
closed_by-alike limit one other alike shorter shorter' (SecondOperand operator span) bound read short =
    operated_by-alike limit one other alike shorter operator 2 span bound read short
closed_by-alike limit one other alike shorter shorter' (RightOperand operator left) bound read short =
    operated_by-alike limit one other alike shorter operator 2 left bound read short

pub filled_by-alike : (limit : ℕ) (one other : Reading) → AreAlike limit one other → IsShorter one.term → IsShorter (term_by one) → (frame : Frame) (part : Option Read)
    → IsWithin (suc limit) part → filled_by one frame part ≡ filled_by other frame part
filled_by-alike limit one other alike shorter shorter' frame None short = refl
filled_by-alike limit one other alike shorter shorter' frame (Some read) short = closed_by-alike limit one other alike shorter shorter' frame.role frame.bound read short

pub term-shorter : (n : ℕ) (bound : Bound) (built : Built) (tokens : List Token) (read : Read) → (reading n).term bound built tokens ≡ Some read → length read.rest < length tokens
term-shorter n bound built tokens read same = let is = term-sound n bound built tokens read same in Spells-shorter is.spelled

-- where no part was read, none of the whole is
pub filled-none : (n : ℕ) (frame : Frame) → (reading n).filled frame None ≡ None
unfolding reading
filled-none zero frame = refl
filled-none (suc n) frame = refl

steps-alike : (limit n m : ℕ) → limit ≤ n → limit ≤ m → AreAlike limit (reading n) (reading m)
unfolding reading
steps-alike zero n m below below' = record {
  term = λ bound built tokens short. absurd (omega arith);
  tail = λ bound built span priority tokens short. absurd (omega arith);
  filled = λ frame part short. none part frame short;
}
  where
    none : (part : Option Read) (frame : Frame) → IsWithin 0 part → (reading n).filled frame part ≡ (reading m).filled frame part
    none None frame short = filled-none n frame ∙ sym (filled-none m frame)
    none (Some read) frame short = absurd (omega arith)
steps-alike (suc limit) zero m below below' = absurd (omega arith)
steps-alike (suc limit) (suc n) zero below below' = absurd (omega arith)
steps-alike (suc limit) (suc n) (suc m) below below' =
    let alike = steps-alike limit n m (omega arith) (omega arith) in
    let shorter = term-shorter n in
    record {
      term = λ bound built tokens short. term_by-alike limit (reading n) (reading m) alike shorter bound built tokens short;
      tail = λ bound built span priority tokens short. tail_by-alike limit (reading n) (reading m) alike shorter bound built span priority tokens short;
      filled = λ frame part short. filled_by-alike limit (reading n) (reading m) alike shorter (term-shorter (suc n)) frame part short;
    }

-- any two bounds on the steps above the number of the tokens serve alike

pub term-steps : (n m : ℕ) (bound : Bound) (built : Built) (tokens : List Token) → length tokens < n → length tokens < m
    → (reading n).term bound built tokens ≡ (reading m).term bound built tokens
term-steps n m bound built tokens enough enough' = (steps-alike (suc (length tokens)) n m (omega arith) (omega arith)).term bound built tokens (omega arith)

pub tail-steps : (n m : ℕ) (bound : Bound) (built : Built) (span : Span) (priority : ℕ) (tokens : List Token) → length tokens < n → length tokens < m
    → (reading n).tail bound built span priority tokens ≡ (reading m).tail bound built span priority tokens
tail-steps n m bound built span priority tokens enough enough' =
    (steps-alike (suc (length tokens)) n m (omega arith) (omega arith)).tail bound built span priority tokens (omega arith)

pub filled-steps : (n m : ℕ) (frame : Frame) (read : Read) → length read.rest < n → length read.rest < m
    → (reading n).filled frame (Some read) ≡ (reading m).filled frame (Some read)
filled-steps n m frame read enough enough' = (steps-alike (suc (length read.rest)) n m (omega arith) (omega arith)).filled frame (Some read) (omega arith)

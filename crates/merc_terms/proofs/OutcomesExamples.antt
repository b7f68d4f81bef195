-- Examples of what the reader's functions answer, and of what stands between its moves.
use Rattle.std.proofs.Common.{◌≡◌, ℕ, zero, suc, ◌+◌, pos, negsuc, true, false, nat_lt, [], ◌∷◌, map, Some, None, refl, ap, ◌∙◌, arith}
use Rattle.std.specs.Bool.{if◌then◌else◌}
use Rattle.merc_base.specs.declared.refusal.Rule.TheVariants.{NoTerm}
use Rattle.merc_base.specs.declared.refusal.Detail.TheVariants.{Plain}
use Rattle.merc_base.specs.declared.refusal.LimitName.TheVariants.{Integer as IntegerLimit, Nesting as NestingLimit}
use Rattle.merc_base.specs.Names.{minus_name, nil_name}
use Rattle.merc_tokens.specs.declared.token.Token.{Token}
use Rattle.merc_tokens.specs.declared.token.TokenKind.TheVariants.{Stop, Comma}
use Rattle.merc_tree.specs.Term.{Term, Variable, Integer, Text, Application, none, more, no_span}
use Rattle.merc_tree.specs.Nesting.{greater, nesting}
use Rattle.merc_tree.proofs.PartLaws.{greater_max}
use Rattle.merc_terms.specs.declared.built.Built.{Built}
use Rattle.merc_terms.specs.declared.frame.Role.TheVariants.{Enclosed, Argument, Item, ListTail, Operand, FirstOperand, SecondOperand, RightOperand}
use Rattle.merc_terms.specs.declared.moving.Move.TheVariants.{Open}
use Rattle.merc_terms.specs.declared.operators.Fixity.TheVariants.{Yfx}
use Rattle.merc_terms.specs.declared.operators.Operator.{Operator}
use Rattle.merc_terms.specs.Reading.{token}
use Rattle.merc_terms.specs.Items.{stopped, nesting_limit, place_of}
use Rattle.merc_terms.specs.Reader.{clipped, fits, frame_of, is_great, whole_bound, argument_bound}
use Rattle.merc_terms.specs.Moves.{least_taken, pending, counted}
use Rattle.merc_terms.specs.Standing.{Suffice, pending_all}
use Rattle.merc_terms.specs.Outcomes.{TakesStop, IsAtEnd, passed_limit, SaysWrong}

-- a full stop is taken, a comma is not
takes_a_stop : TakesStop (token Stop no_span ∷ []) [] true
takes_a_stop = (no_span, refl)

takes_no_comma : TakesStop (token Comma no_span ∷ []) [] true → ⊥
takes_no_comma (stop, e) =
    let first : token Comma no_span ≡ token Stop stop = cc in let kind : Comma ≡ Stop = ap (λ (t : Token). t.kind) first in cc

-- a full stop may end a goal, two may not
ends_with_a_stop : IsAtEnd (token Stop no_span ∷ []) true
ends_with_a_stop = stopped no_span

ends_with_one : IsAtEnd (token Stop no_span ∷ token Stop no_span ∷ []) true → ⊥
ends_with_one ends = elim ends [ ]

-- the limit on integers comes first, and a text passes none
passes_integers : passed_limit true (Text nil_name no_span) ≡ Some IntegerLimit
passes_integers = refl

passes_none : passed_limit false (Text nil_name no_span) ≡ None
passes_none = refl

-- without a term, rule 2 is broken
no_term : (built : Built) → SaysWrong built false (Some (NoTerm, Plain))
no_term built = refl

no_term_is_wrong : (built : Built) → SaysWrong built false None → ⊥
no_term_is_wrong built e = cc

-- of `1(2, 3, (` two terms are built
two_are_built : pending_all (frame_of (Enclosed no_span) argument_bound ∷ frame_of (Argument nil_name None no_span 3) whole_bound ∷ []) ≡ 2
two_are_built = refl

-- a number for an open term must lie above the number of the tokens
suffices : Suffice 2 (3 ∷ []) (frame_of (Enclosed no_span) whole_bound ∷ [])
suffices = (omega arith, tt)

suffices_not : Suffice 3 (3 ∷ []) (frame_of (Enclosed no_span) whole_bound ∷ []) → ⊥
suffices_not h = omega (arith, h.0)

-- where a parenthesis opens, a token was taken
takes_one : least_taken (Open (Enclosed no_span) whole_bound) ≡ 1
takes_one = refl

-- the greatest integer, and the least, which is read behind a minus alone
literals_fit : fits false 9223372036854775807 ∷ fits false 9223372036854775808 ∷ fits true 9223372036854775808 ∷ fits true 9223372036854775809 ∷ [] ≡ true ∷ false ∷ true ∷ false ∷ []
literals_fit = refl

-- a name with an integer of this value as its second argument
abbrev holding : ℕ → Term
holding n = Application nil_name None (more (Integer (negsuc n) no_span) (more (Integer (pos n) no_span) none)) no_span

great_within : is_great (holding 9223372036854775808) ≡ true
great_within = refl

not_great_within : is_great (holding 9223372036854775807) ≡ false
not_great_within = refl

-- what does not fit stands as 0, and the least integer stays
clipped_within : clipped (Application nil_name None (more (Integer (negsuc 9223372036854775807) no_span) (more (Integer (pos 9223372036854775808) no_span) none)) no_span)
    ≡ Application nil_name None (more (Integer (negsuc 9223372036854775807) no_span) (more (Integer (pos 0) no_span) none)) no_span
clipped_within = refl

-- a term that nests so many times below its root
abbrev nested : ℕ → Term
nested zero = Variable nil_name no_span
nested (suc n) = Application nil_name None (more (nested n) none) no_span

one_more : (n : ℕ) → 1 + greater (suc n) 0 ≡ suc (suc n)
one_more n = ap (λ deep. 1 + deep) (greater_max (suc n) 0) ∙ omega arith

nesting-nested : (n : ℕ) → nesting (nested n) ≡ suc n
nesting-nested zero = refl
nesting-nested (suc n) = ap (λ deep. 1 + greater deep 0) (nesting-nested n) ∙ one_more n

nested_limit : (n : ℕ) → passed_limit false (nested n) ≡ (if nat_lt nesting_limit (suc n) then Some NestingLimit else None)
nested_limit n = ap (λ deep. if nat_lt nesting_limit deep then Some NestingLimit else None) (nesting-nested n)

-- 256 is deep enough, and 257 too deep
nesting_at_limit : passed_limit false (nested 255) ≡ None
nesting_at_limit = nested_limit 255

nesting_past_limit : passed_limit false (nested 256) ≡ Some NestingLimit
nesting_past_limit = nested_limit 256

-- what nests too deep and has too great an integer passes the limit on integers
integers_first : passed_limit true (nested 256) ≡ Some IntegerLimit
integers_first = refl

-- a fault of an item stands at its first token
item_place : place_of (record { kind = Stop; span = record { first = 3; past = 4; line = 2 } } ∷ record { kind = Comma; span = record { first = 5; past = 6; line = 3 } } ∷ []) ≡ record { byte = 3; line = 2 }
item_place = refl

abbrev minus : Operator
minus = record { name = minus_name; priority = 500; fixity = Yfx }

-- the third argument or item has two before it, a tail three items, and an operator's second operand the first
pending_each : map pending (Enclosed no_span ∷ Argument nil_name None no_span 3 ∷ Item no_span 3 ∷ ListTail no_span 3 ∷ Operand minus no_span ∷ FirstOperand minus no_span ∷ SecondOperand minus no_span ∷ RightOperand minus no_span ∷ [])
    ≡ 0 ∷ 2 ∷ 2 ∷ 3 ∷ 0 ∷ 0 ∷ 1 ∷ 1 ∷ []
pending_each = refl

counted_each : map counted (Enclosed no_span ∷ Argument nil_name None no_span 3 ∷ Item no_span 3 ∷ ListTail no_span 3 ∷ Operand minus no_span ∷ FirstOperand minus no_span ∷ SecondOperand minus no_span ∷ RightOperand minus no_span ∷ [])
    ≡ 0 ∷ 3 ∷ 3 ∷ 0 ∷ 0 ∷ 0 ∷ 0 ∷ 0 ∷ []
counted_each = refl

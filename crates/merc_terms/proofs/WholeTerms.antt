-- The whole term that tokens begin with is the one that they spell.
use Rattle.std.proofs.Common.{◌≡◌, ℕ, suc, ◌<◌, ◌≤◌, ℤ, pos, negsuc, Bool, true, false, not, ◌||◌, nat_lt, FitsSigned, List, [], ◌∷◌, length, Some, refl, sym, ap, ap₂, ◌∙◌, arith, lt-ltb, ltb-true}
use Rattle.std.specs.Int.{w64}
use Rattle.std.specs.Bool.{if◌then◌else◌}
use Rattle.merc_base.specs.declared.place.Span.{Span}
use Rattle.merc_terms.specs.Operators.{term_most}
use Rattle.merc_tokens.specs.Integers.{integer_limit}
use Rattle.merc_tokens.specs.declared.token.Token.{Token}
use Rattle.merc_tokens.specs.declared.token.TokenKind.TheVariants.{Stop}
use Rattle.merc_tree.specs.Term.{Term, Terms, Variable, Integer, Text, Application, none, more, span_of, HasWords, HaveWords}
use Rattle.merc_terms.specs.declared.frame.Bound.{Bound}
use Rattle.merc_terms.specs.Reading.{token, begins_with, Spells}
use Rattle.merc_terms.specs.declared.built.Built.{Built}
use Rattle.merc_terms.specs.Reader.{Read, clipped, clipped_all, clipped_integer, is_great, are_great, is_great_integer, pushed, whole_bound, reading, whole_term}
use Rattle.merc_terms.proofs.Sound.{term-sound}
use Rattle.merc_terms.proofs.Complete.{may_go_on, Spells-read}
use Rattle.merc_terms.proofs.Settled.{settled_term-is}
use Rattle.merc_terms.proofs.Steps.{term-shorter, term-steps}

-- a whole term that the tokens spell was read
pub record IsWhole (built : Built) (tokens : List Token) (read : Read) : Type 0 where
  pub term : Term
  pub built_is : read.built ≡ pushed term built
  pub span_is : read.span ≡ span_of term
  pub within : read.priority ≤ term_most
  pub spelled : Spells true term read.priority tokens read.rest

pub whole_sound : (built : Built) (tokens : List Token) (read : Read) → whole_term built tokens ≡ Some read → IsWhole built tokens read
whole_sound built tokens read same =
    let is = term-sound (suc (length tokens)) whole_bound built tokens read same in
    record { term = is.term; built_is = is.built_is; span_is = is.span_is; within = is.within; spelled = is.spelled }

-- the end, or a full stop
pub data IsEnd : List Token → Type 0 where
  nothing : IsEnd []
  full_stop : (stop : Span) (rest : List Token) → IsEnd (token Stop stop ∷ rest)

end_closes : (commas : Bool) (rest : List Token) → IsEnd rest → begins_with (may_go_on commas) rest ≡ false
end_closes commas rest nothing = refl
end_closes commas rest (full_stop stop others) = refl

pub whole_complete : (built : Built) (term : Term) (priority : ℕ) (tokens rest : List Token) → Spells true term priority tokens rest → priority ≤ term_most → IsEnd rest
    → whole_term built tokens ≡ Some (record { built = pushed term built; span = span_of term; priority = priority; rest = rest })
whole_complete built term priority tokens rest spelled within ends =
    settled_term-is (suc (length tokens)) whole_bound built tokens (omega arith)
    ∙ Spells-read true term priority tokens rest spelled whole_bound built refl within (end_closes true rest ends)

pub shorter : (built : Built) (tokens : List Token) (read : Read) → whole_term built tokens ≡ Some read → length read.rest < length tokens
shorter built tokens read same = term-shorter (suc (length tokens)) whole_bound built tokens read same

-- more steps change nothing
pub enough : (n : ℕ) (bound : Bound) (built : Built) (tokens : List Token) → length tokens < n
    → (reading n).term bound built tokens ≡ (reading (suc (length tokens))).term bound built tokens
enough n bound built tokens less = term-steps n (suc (length tokens)) bound built tokens less (omega arith)

-- the integers of a term fit exactly where it is not great, and then it is built as it is

small : (n : ℕ) → not (nat_lt n integer_limit) ≡ false → nat_lt n integer_limit ≡ true
small n fits = go (nat_lt n integer_limit) fits
  where
    go : (b : Bool) → not b ≡ false → b ≡ true
    go true is = refl
    go false is = cc

small_integer : (b : Bool) (value : ℤ) → b ≡ true → (if b then value else pos 0) ≡ value
small_integer true value is = refl
small_integer false value is = cc

integer_fits : (value : ℤ) → is_great_integer value ≡ false → FitsSigned w64 value × (clipped_integer value ≡ value)
integer_fits (pos n) fits =
    (record { sfits = ltb-true n integer_limit (small n fits) }, small_integer (nat_lt n integer_limit) (pos n) (small n fits))
integer_fits (negsuc n) fits =
    (record { sfits = ltb-true n integer_limit (small n fits) }, small_integer (nat_lt n integer_limit) (negsuc n) (small n fits))

neither : (a b : Bool) → (a || b) ≡ false → (a ≡ false) × (b ≡ false)
neither true b is = cc
neither false b is = (refl, is)

mutual
  pub great_fits : (term : Term) → is_great term ≡ false → HasWords term × (clipped term ≡ term)
  great_fits (Variable name span) fits = (tt, refl)
  great_fits (Integer value span) fits = let both = integer_fits value fits in (both.0, ap (λ (v : ℤ). Integer v span) both.1)
  great_fits (Text name span) fits = (tt, refl)
  great_fits (Application name qualifier arguments span) fits =
      let both = all_fit arguments fits in (both.0, ap (λ (t : Terms). Application name qualifier t span) both.1)

  all_fit : (terms : Terms) → are_great terms ≡ false → HaveWords terms × (clipped_all terms ≡ terms)
  all_fit none fits = (tt, refl)
  all_fit (more first rest) fits =
      let parts = neither (is_great first) (are_great rest) fits in
      let one = great_fits first parts.0 in
      let others = all_fit rest parts.1 in
      ((one.0, others.0), ap₂ more one.1 others.1)

words_fit : (value : ℤ) → FitsSigned w64 value → is_great_integer value ≡ false
words_fit (pos n) fits = ap not (lt-ltb n integer_limit fits.sfits)
words_fit (negsuc n) fits = ap not (lt-ltb n integer_limit fits.sfits)

mutual
  pub fits_great : (term : Term) → HasWords term → is_great term ≡ false
  fits_great (Variable name span) words = refl
  fits_great (Integer value span) words = words_fit value words
  fits_great (Text name span) words = refl
  fits_great (Application name qualifier arguments span) words = all_great arguments words

  all_great : (terms : Terms) → HaveWords terms → are_great terms ≡ false
  all_great none words = refl
  all_great (more first rest) words = ap₂ (λ (a b : Bool). a || b) (fits_great first words.0) (all_great rest words.1)

pub great_passes : (term : Term) → is_great term ≡ true → HasWords term → ⊥
great_passes term great words = let fits = fits_great term words in let same : true ≡ false = sym great ∙ fits in cc

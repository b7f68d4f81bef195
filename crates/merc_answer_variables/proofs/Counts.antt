-- A variable is hidden only where all its occurrences are, so that whether it is hidden in a goal follows from its sub-goals one by one.
use Rattle.std.proofs.Common.{◌≡◌, ℕ, ◌+◌, ◌<◌, Bool, true, false, cond, ◌==◌, ◌&&◌, ◌||◌, not, nat_lt, List, [], ◌∷◌, ◌++◌, refl, ap, sym, ◌∙◌, arith}
use Rattle.std.specs.List.{list_any}
use Rattle.std.proofs.lemmas.Bool.{eqb-true, ne_eqb, or_from}
use Rattle.std.proofs.lemmas.List.Sums.{sum_by-cons, sum_by-append}
use Rattle.merc_goals.specs.Written.{Written, WrittenGoals, Truth, Failure, Equal, Compared, Called, Conjunction, Parallel, Disjunction, Conditional, Negated, Quantified, WrongForm, OutsideProfile, no_goals, more_goals}
use Rattle.merc_scopes.specs.declared.occurrence.Occurrence.{Occurrence}
use Rattle.merc_value.specs.Text.{is_blank}
use Rattle.merc_scopes.specs.Scopes.{free, all_free, without}
use Rattle.merc_answer_variables.specs.AnswerVariables.{count_of, count_in, is_hidden, is_hidden_among}
use Rattle.merc_answer_variables.proofs.MapLaws.{flipped}

pub count-cons : (name : ℕ) (first : Occurrence) (rest : List Occurrence) → count_of name (first ∷ rest) ≡ cond (first.name == name) 1 0 + count_of name rest
count-cons name first rest = sum_by-cons (λ (one : Occurrence). cond (one.name == name) 1 0) first rest

pub count-append : (name : ℕ) (front back : List Occurrence) → count_of name (front ++ back) ≡ count_of name front + count_of name back
count-append name front back = sum_by-append (λ (one : Occurrence). cond (one.name == name) 1 0) front back

-- whether a name is in a list, asked either way
pub any-flipped : (name : ℕ) (names : List ℕ) → list_any (λ other. other == name) names ≡ list_any (λ other. name == other) names
any-flipped name [] = refl
any-flipped name (first ∷ rest) =
    ap (λ b. b || list_any (λ other. other == name) rest) (flipped first name) ∙ ap (λ b. (name == first) || b) (any-flipped name rest)

kept : (keep is : Bool) (first : Occurrence) (name : ℕ) (rest : List Occurrence) (whole : ℕ) → (first.name == name) ≡ is → (is ≡ true → keep ≡ true)
    → count_of name rest ≡ whole → count_of name (cond keep (first ∷ rest) rest) ≡ cond is 1 0 + whole
kept true is first name rest whole same has counted = count-cons name first rest ∙ ap (λ b. cond b 1 0 + count_of name rest) same ∙ ap (λ n. cond is 1 0 + n) counted
kept false true first name rest whole same has counted = absurd (let e = has refl in cc)
kept false false first name rest whole same has counted = counted ∙ (let e : whole ≡ 0 + whole = omega arith in e)

pub count-without : (variables : List ℕ) (name : ℕ) (found : List Occurrence) → list_any (λ other. other == name) variables ≡ false
    → count_of name (without variables found) ≡ count_of name found
count-without variables name [] free_of = refl
count-without variables name (first ∷ rest) free_of =
    kept (not (list_any (λ other. first.name == other) variables)) (first.name == name) first name (without variables rest) (count_of name rest) refl
    (λ is. ap not (ap (λ (n : ℕ). list_any (λ other. n == other) variables) (eqb-true first.name name is) ∙ sym (any-flipped name variables) ∙ free_of))
    (count-without variables name rest free_of)
    ∙ sym (count-cons name first rest)

-- a count larger than that of the occurrences in a goal

module _ (names : List (List ℕ)) where
  abbrev count_all : ℕ → WrittenGoals → ℕ
  count_all name goals = count_of name (all_free (is_blank names) goals)

  quantified_apart : (bound inside : Bool) → (bound ≡ false → inside ≡ false) → (not bound && inside) ≡ false
  quantified_apart true inside apart = refl
  quantified_apart false inside apart = apart refl

  and_no : (a b : Bool) → b ≡ false → (a && b) ≡ false
  and_no true b fails = fails
  and_no false b fails = refl

  mutual
    pub too_many : (name count : ℕ) (goal : Written) → count_in names name goal < count → is_hidden names name count goal ≡ false
    too_many name count (Truth span) less = refl
    too_many name count (Failure span) less = refl
    too_many name count (Equal at left right span) less = refl
    too_many name count (Compared at other left right span) less = refl
    too_many name count (Called at other qualifier arguments span) less = refl
    too_many name count (WrongForm span) less = refl
    too_many name count (OutsideProfile span) less = refl
    too_many name count (Conjunction goals span) less = all_too_many name count goals less
    too_many name count (Parallel goals span) less = all_too_many name count goals less
    too_many name count (Disjunction goals span) less = all_too_many name count goals less
    too_many name count (Negated goal span) less =
        or_from (count_in names name goal == count) (is_hidden names name count goal) (ne_eqb (count_in names name goal) count (λ same. omega (arith, same, less))) (too_many name count goal less)
    too_many name count (Quantified variables goal span) less =
        quantified_apart (list_any (λ other. other == name) variables) (is_hidden names name count goal)
        (λ apart. too_many name count goal (let e = count-without variables name (free (is_blank names) goal) apart in omega (arith, e, less)))
    too_many name count (Conditional condition then_part else_part span) less =
        let inner = count-append name (free (is_blank names) then_part) (free (is_blank names) else_part) in
        let outer = count-append name (free (is_blank names) condition) (free (is_blank names) then_part ++ free (is_blank names) else_part) in
        let both : (nat_lt 0 (count_in names name condition) && (count_in names name condition + count_in names name then_part == count)) ≡ false =
        and_no (nat_lt 0 (count_in names name condition)) (count_in names name condition + count_in names name then_part == count) (ne_eqb (count_in names name condition + count_in names name then_part) count (λ same. omega (arith, same, less, inner, outer))) in
        or_from _ _ (or_from _ _ (or_from _ _ both (too_many name count condition (omega (arith, less, inner, outer)))) (too_many name count then_part (omega (arith, less, inner, outer))))
        (too_many name count else_part (omega (arith, less, inner, outer)))

    pub all_too_many : (name count : ℕ) (goals : WrittenGoals) → count_all name goals < count → is_hidden_among names name count goals ≡ false
    all_too_many name count no_goals less = refl
    all_too_many name count (more_goals first rest) less =
        let sum = count-append name (free (is_blank names) first) (all_free (is_blank names) rest) in
        or_from _ _ (too_many name count first (omega (arith, less, sum))) (all_too_many name count rest (omega (arith, less, sum)))

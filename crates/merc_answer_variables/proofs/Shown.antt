-- A variable is shown exactly where it occurs and is not hidden.
use Rattle.std.proofs.Common.{◌≡◌, ℕ, zero, suc, ◌+◌, ◌<◌, Bool, true, false, ◌==◌, ◌&&◌, ◌||◌, not, nat_lt, List, ◌++◌, Option, Some, None, is_some, if◌then◌else◌, refl, ap, sym, ◌∙◌, arith}
use Rattle.std.specs.List.{list_any}
use Rattle.std.specs.Option.{option_or}
use Rattle.std.proofs.lemmas.Bool.{ltb-true, ltb-false, eq-eqb, ne_eqb}
use Rattle.merc_goals.specs.Written.{Written, WrittenGoals, Truth, Failure, Equal, Compared, Called, Conjunction, Parallel, Disjunction, Conditional, Negated, Quantified, WrongForm, OutsideProfile, no_goals, more_goals}
use Rattle.merc_scopes.specs.declared.occurrence.Occurrence.{Occurrence}
use Rattle.merc_value.specs.Text.{is_blank}
use Rattle.merc_scopes.specs.Scopes.{free, all_free}
use Rattle.merc_answer_variables.specs.AnswerVariables.{count_of, count_in, is_hidden, is_hidden_among}
use Rattle.merc_answer_variables.specs.Statuses.{Status, unseen, joined, decided, all_before, each_before, status_of, each_status}
use Rattle.merc_answer_variables.proofs.Counts.{count-append, count-without, too_many, all_too_many}
use Rattle.merc_answer_variables.proofs.Marks.{occurs, each_occurs}

and-true : (b : Bool) → b ≡ (b && true)
and-true true = refl
and-true false = refl

or-true : (b : Bool) → (b || true) ≡ true
or-true true = refl
or-true false = refl

some-or : (a b : Option ℕ) → is_some (option_or a b) ≡ (is_some a || is_some b)
some-or None b = refl
some-or (Some place) b = refl

only_first : (h : Bool) → ((not h || false) || false) ≡ not (h || false)
only_first true = refl
only_first false = refl

only_second : (h : Bool) → (not h || false) ≡ not h
only_second true = refl
only_second false = refl

beside_bools : (a b n ha hb hna hnb : Bool) → n ≡ (a || b) → (b ≡ true → hna ≡ false) → (a ≡ true → hnb ≡ false) → (b ≡ false → hna ≡ ha) → (a ≡ false → hnb ≡ hb)
    → (((a && not ha) || (b && not hb)) || (a && b)) ≡ (n && not (hna || hnb))
beside_bools true true n ha hb hna hnb some na nb sa sb =
    let ea = na refl in
    let eb = nb refl in
    or-true (not ha || not hb) ∙ (rw (some, ea, eb) refl)
beside_bools true false n ha hb hna hnb some na nb sa sb =
    let ea = sa refl in
    let eb = nb refl in
    rw (some, ea, eb) (only_first ha)
beside_bools false true n ha hb hna hnb some na nb sa sb =
    let ea = na refl in
    let eb = sb refl in
    rw (some, ea, eb) (only_second hb)
beside_bools false false n ha hb hna hnb some na nb sa sb = rw some refl

-- two goals beside each other
beside : (a b n : ℕ) (first second : Status) (ha hb : ℕ → Bool) → n ≡ a + b → is_some first.place ≡ nat_lt 0 a → is_some second.place ≡ nat_lt 0 b
    → ((m : ℕ) → a < m → ha m ≡ false) → ((m : ℕ) → b < m → hb m ≡ false)
    → first.shown ≡ (is_some first.place && not (ha a)) → second.shown ≡ (is_some second.place && not (hb b))
    → (joined first second).shown ≡ (is_some (joined first second).place && not (ha n || hb n))
beside a b n first second ha hb sum some_a some_b more_a more_b shown_a shown_b =
    ap (λ x. (x || second.shown) || (is_some first.place && is_some second.place)) shown_a
    ∙ ap (λ x. ((is_some first.place && not (ha a)) || x) || (is_some first.place && is_some second.place)) shown_b
    ∙ beside_bools (is_some first.place) (is_some second.place) (is_some (option_or first.place second.place)) (ha a) (hb b) (ha n) (hb n) (some-or first.place second.place)
    (λ t. more_a n (let less = ltb-true 0 b (sym some_b ∙ t) in omega (arith, less, sum)))
    (λ t. more_b n (let less = ltb-true 0 a (sym some_a ∙ t) in omega (arith, less, sum)))
    (λ t. ap ha (let less = ltb-false 0 b (sym some_b ∙ t) in omega (arith, less, sum)))
    (λ t. ap hb (let less = ltb-false 0 a (sym some_a ∙ t) in omega (arith, less, sum)))

nothing_more : (x : Bool) → ((x && true) || false) ≡ x
nothing_more true = refl
nothing_more false = refl

nothing_shown : (x : Bool) → ((x && false) || false) ≡ false
nothing_shown true = refl
nothing_shown false = refl

-- c, b and d: whether the condition, the then part and the else part have the variable; m is of the last two, and n of all three
decided_bools : (c b d n hb hd hnc hnb hnd same : Bool) → n ≡ (c || (b || d)) → (c ≡ false → hnb ≡ hb) → (c ≡ false → hnd ≡ hd) → (c ≡ true → hnb ≡ false) → (c ≡ true → hnd ≡ false)
    → ((b || d) ≡ true → hnc ≡ false) → (d ≡ false → same ≡ true) → (d ≡ true → same ≡ false)
    → (((((b || d) && not (hb || hd)) && not (c && (b || d))) || (c && d))) ≡ (n && not ((((c && same) || hnc) || hnb) || hnd))
decided_bools false true d n hb hd hnc hnb hnd same some sb sd nb nd nc match differ =
    let eb = sb refl in
    let ed = sd refl in
    let ec = nc refl in
    rw (some, eb, ed, ec) (nothing_more (not (hb || hd)))
decided_bools false false true n hb hd hnc hnb hnd same some sb sd nb nd nc match differ =
    let eb = sb refl in
    let ed = sd refl in
    let ec = nc refl in
    rw (some, eb, ed, ec) (nothing_more (not (hb || hd)))
decided_bools false false false n hb hd hnc hnb hnd same some sb sd nb nd nc match differ = rw some refl
decided_bools true true true n hb hd hnc hnb hnd same some sb sd nb nd nc match differ =
    let eb = nb refl in
    let ed = nd refl in
    let ec = nc refl in
    let es = differ refl in
    rw (some, eb, ed, ec, es) (or-true (not (hb || hd) && false))
decided_bools true false true n hb hd hnc hnb hnd same some sb sd nb nd nc match differ =
    let eb = nb refl in
    let ed = nd refl in
    let ec = nc refl in
    let es = differ refl in
    rw (some, eb, ed, ec, es) (or-true (not (hb || hd) && false))
decided_bools true true false n hb hd hnc hnb hnd same some sb sd nb nd nc match differ =
    let es = match refl in
    rw (some, es) (nothing_shown (not (hb || hd)))
decided_bools true false false n hb hd hnc hnb hnd same some sb sd nb nd nc match differ =
    let es = match refl in
    rw (some, es) refl

positive : (b d : ℕ) → (nat_lt 0 b || nat_lt 0 d) ≡ true → 0 < b + d
positive zero d is = let less = ltb-true 0 d is in omega (arith, less)
positive (suc b) d is = omega arith

decides : (c b d n : ℕ) (first second third : Status) (hc hb hd : ℕ → Bool) → n ≡ c + (b + d)
    → is_some first.place ≡ nat_lt 0 c → is_some second.place ≡ nat_lt 0 b → is_some third.place ≡ nat_lt 0 d
    → ((m : ℕ) → c < m → hc m ≡ false) → ((m : ℕ) → b < m → hb m ≡ false) → ((m : ℕ) → d < m → hd m ≡ false)
    → second.shown ≡ (is_some second.place && not (hb b)) → third.shown ≡ (is_some third.place && not (hd d))
    → (decided first second third).shown ≡ (is_some (decided first second third).place && not ((((nat_lt 0 c && (c + b == n)) || hc n) || hb n) || hd n))
decides c b d n first second third hc hb hd sum some_c some_b some_d more_c more_b more_d shown_b shown_d =
    ap (λ x. (x && not (is_some first.place && is_some (option_or second.place third.place))) || (is_some first.place && is_some third.place))
    (beside b d (b + d) second third hb hd refl some_b some_d more_b more_d shown_b shown_d)
    ∙ ap (λ x. ((x && not (hb (b + d) || hd (b + d))) && not (is_some first.place && x)) || (is_some first.place && is_some third.place)) (some-or second.place third.place)
    ∙ decided_bools (is_some first.place) (is_some second.place) (is_some third.place) (is_some (option_or first.place (option_or second.place third.place)))
    (hb (b + d)) (hd (b + d)) (hc n) (hb n) (hd n) (c + b == n)
    (some-or first.place (option_or second.place third.place) ∙ ap (λ x. is_some first.place || x) (some-or second.place third.place))
    (λ t. ap hb (let less = ltb-false 0 c (sym some_c ∙ t) in omega (arith, less, sum)))
    (λ t. ap hd (let less = ltb-false 0 c (sym some_c ∙ t) in omega (arith, less, sum)))
    (λ t. more_b n (let less = ltb-true 0 c (sym some_c ∙ t) in omega (arith, less, sum)))
    (λ t. more_d n (let less = ltb-true 0 c (sym some_c ∙ t) in omega (arith, less, sum)))
    (λ t. more_c n (let less = positive b d (ap (λ x. x || nat_lt 0 d) (sym some_b) ∙ ap (λ x. is_some second.place || x) (sym some_d) ∙ t) in omega (arith, less, sum)))
    (λ t. eq-eqb (c + b) n (let less = ltb-false 0 d (sym some_d ∙ t) in omega (arith, less, sum)))
    (λ t. ne_eqb (c + b) n (λ same. let less = ltb-true 0 d (sym some_d ∙ t) in omega (arith, less, sum, same)))
    ∙ ap (λ x. is_some (option_or first.place (option_or second.place third.place)) && not ((((x && (c + b == n)) || hc n) || hb n) || hd n)) some_c

quantified : (t : Bool) (status : Status) (hidden : ℕ → Bool) (n m : ℕ) → (t ≡ false → n ≡ m) → status.shown ≡ (is_some status.place && not (hidden m))
    → (if t then unseen else status).shown ≡ (is_some (if t then unseen else status).place && not (not t && hidden n))
quantified true status hidden n m same shown = refl
quantified false status hidden n m same shown = shown ∙ ap (λ k. is_some status.place && not (hidden k)) (sym (same refl))

negated : (some all hidden : Bool) → all ≡ true → false ≡ (some && not (all || hidden))
negated true all hidden is = rw is refl
negated false all hidden is = refl

module _ (names : List (List ℕ)) where
  mutual
    pub shown-free : (name : ℕ) (goal : Written) (behind : List Occurrence)
        → (status_of (is_blank names) name goal behind).shown ≡ (is_some (status_of (is_blank names) name goal behind).place && not (is_hidden names name (count_in names name goal) goal))
    shown-free name (Truth span) behind = refl
    shown-free name (Failure span) behind = refl
    shown-free name (WrongForm span) behind = refl
    shown-free name (OutsideProfile span) behind = refl
    shown-free name (Equal at left right span) behind = and-true (is_some (status_of (is_blank names) name (Equal at left right span) behind).place)
    shown-free name (Compared at other left right span) behind = and-true (is_some (status_of (is_blank names) name (Compared at other left right span) behind).place)
    shown-free name (Called at other qualifier arguments span) behind = and-true (is_some (status_of (is_blank names) name (Called at other qualifier arguments span) behind).place)
    shown-free name (Conjunction goals span) behind = shown-each name goals behind
    shown-free name (Parallel goals span) behind = shown-each name goals behind
    shown-free name (Disjunction goals span) behind = shown-each name goals behind
    shown-free name (Negated goal span) behind =
        negated (is_some (status_of (is_blank names) name goal behind).place) (count_in names name goal == count_in names name goal) (is_hidden names name (count_in names name goal) goal)
        (eq-eqb (count_in names name goal) (count_in names name goal) refl)
    shown-free name (Quantified variables goal span) behind =
        quantified (list_any (λ other. other == name) variables) (status_of (is_blank names) name goal behind) (λ (n : ℕ). is_hidden names name n goal)
        (count_in names name (Quantified variables goal span)) (count_in names name goal) (count-without variables name (free (is_blank names) goal)) (shown-free name goal behind)
    shown-free name (Conditional condition then_part else_part span) behind =
        decides (count_in names name condition) (count_in names name then_part) (count_in names name else_part) (count_in names name (Conditional condition then_part else_part span))
        (status_of (is_blank names) name condition (all_before (is_blank names) then_part (all_before (is_blank names) else_part behind)))
        (status_of (is_blank names) name then_part (all_before (is_blank names) else_part behind)) (status_of (is_blank names) name else_part behind)
        (λ (n : ℕ). is_hidden names name n condition) (λ (n : ℕ). is_hidden names name n then_part) (λ (n : ℕ). is_hidden names name n else_part)
        (count-append name (free (is_blank names) condition) (free (is_blank names) then_part ++ free (is_blank names) else_part)
        ∙ ap (λ (n : ℕ). count_in names name condition + n) (count-append name (free (is_blank names) then_part) (free (is_blank names) else_part)))
        (occurs (is_blank names) name condition (all_before (is_blank names) then_part (all_before (is_blank names) else_part behind)))
        (occurs (is_blank names) name then_part (all_before (is_blank names) else_part behind)) (occurs (is_blank names) name else_part behind)
        (λ n less. too_many names name n condition less) (λ n less. too_many names name n then_part less) (λ n less. too_many names name n else_part less)
        (shown-free name then_part (all_before (is_blank names) else_part behind)) (shown-free name else_part behind)

    shown-each : (name : ℕ) (goals : WrittenGoals) (behind : List Occurrence)
        → (each_status (is_blank names) name goals behind).shown
        ≡ (is_some (each_status (is_blank names) name goals behind).place && not (is_hidden_among names name (count_of name (all_free (is_blank names) goals)) goals))
    shown-each name no_goals behind = refl
    shown-each name (more_goals first rest) behind =
        beside (count_in names name first) (count_of name (all_free (is_blank names) rest)) (count_of name (all_free (is_blank names) (more_goals first rest)))
        (status_of (is_blank names) name first (each_before (is_blank names) rest behind)) (each_status (is_blank names) name rest behind)
        (λ (n : ℕ). is_hidden names name n first) (λ (n : ℕ). is_hidden_among names name n rest)
        (count-append name (free (is_blank names) first) (all_free (is_blank names) rest))
        (occurs (is_blank names) name first (each_before (is_blank names) rest behind)) (each_occurs (is_blank names) name rest behind)
        (λ n less. too_many names name n first less) (λ n less. all_too_many names name n rest less)
        (shown-free name first (each_before (is_blank names) rest behind)) (shown-each name rest behind)

-- The free variables of a goal with their places among all its variables.
use Rattle.std.proofs.Common.{◌≡◌, ℕ, ◌+◌, Bool, true, false, cond, ◌==◌, not, nat_lt, List, [], ◌∷◌, ◌++◌, Option, Some, None, is_some, map, length, if◌then◌else◌, refl, ap, sym, ◌∙◌, arith}
use Rattle.std.specs.List.{filter, list_any}
use Rattle.std.specs.Option.{option_or}
use Rattle.std.proofs.lemmas.Bool.{eqb-true, lt-ltb}
use Rattle.std.proofs.lemmas.List.{map-append}
use Rattle.merc_goals.specs.Written.{Written, WrittenGoals, Truth, Failure, Equal, Compared, Called, Conjunction, Parallel, Disjunction, Conditional, Negated, Quantified, WrongForm, OutsideProfile, no_goals, more_goals}
use Rattle.merc_scopes.specs.declared.occurrence.Occurrence.{Occurrence}
use Rattle.merc_scopes.specs.Scopes.{free, all_free, without}
use Rattle.merc_answer_variables.specs.AnswerVariables.{count_of}
use Rattle.merc_answer_variables.specs.Statuses.{Status, unseen, bound, all_before, each_before, status_of, each_status, place_among}
use Rattle.merc_answer_variables.proofs.Counts.{any-flipped, count-cons}

abbrev pub Mark : Type 0
Mark = ℕ × Occurrence

-- occurrences before others, each with its place
abbrev pub marked : List Occurrence → List Occurrence → List Mark
marked [] behind = []
marked (first ∷ rest) behind = (length (rest ++ behind), first) ∷ marked rest behind

-- where a name first stands
abbrev pub place_in : ℕ → List Mark → Option ℕ
place_in name [] = None
place_in name (first ∷ rest) = if first.1.name == name then Some first.0 else place_in name rest

abbrev pub others_than : List ℕ → List Mark → List Mark
others_than names marks = filter (λ one. not (list_any (λ name. one.1.name == name) names)) marks

abbrev pub found_in : List Mark → List Occurrence
found_in marks = map (λ one. one.1) marks

-- Marks are some of a list of occurrences, which goes on with others.
pub data Within (behind : List Occurrence) : List Mark → List Occurrence → Type 0 where
  done : Within behind [] behind
  skip : (one : Occurrence) (marks : List Mark) (all : List Occurrence) → Within behind marks all → Within behind marks (one ∷ all)
  take : (one : Occurrence) (marks : List Mark) (all : List Occurrence) → Within behind marks all → Within behind ((length all, one) ∷ marks) (one ∷ all)

within-marked : (found behind : List Occurrence) → Within behind (marked found behind) (found ++ behind)
within-marked [] behind = done
within-marked (first ∷ rest) behind = take first (marked rest behind) (rest ++ behind) (within-marked rest behind)

within-append : (middle behind : List Occurrence) (front back : List Mark) (all : List Occurrence) → Within middle front all → Within behind back middle → Within behind (front ++ back) all
within-append middle behind [] back all done inner = inner
within-append middle behind front back all (skip one marks rest outer) inner = skip one (marks ++ back) rest (within-append middle behind marks back rest outer inner)
within-append middle behind front back all (take one marks rest outer) inner = take one (marks ++ back) rest (within-append middle behind marks back rest outer inner)

within-kept : (keep : Bool) (behind : List Occurrence) (one : Occurrence) (marks : List Mark) (all : List Occurrence) → Within behind marks all
    → Within behind (cond keep ((length all, one) ∷ marks) marks) (one ∷ all)
within-kept true behind one marks all inner = take one marks all inner
within-kept false behind one marks all inner = skip one marks all inner

within-others : (names : List ℕ) (behind : List Occurrence) (marks : List Mark) (all : List Occurrence) → Within behind marks all → Within behind (others_than names marks) all
within-others names behind marks all done = done
within-others names behind marks all (skip one inside rest inner) = skip one (others_than names inside) rest (within-others names behind inside rest inner)
within-others names behind marks all (take one inside rest inner) =
    within-kept (not (list_any (λ name. one.name == name) names)) behind one (others_than names inside) rest (within-others names behind inside rest inner)

either : (is : Bool) (place : ℕ) (front back : Option ℕ) → (if is then Some place else option_or front back) ≡ option_or (if is then Some place else front) back
either true place front back = refl
either false place front back = refl

place-append : (name : ℕ) (front back : List Mark) → place_in name (front ++ back) ≡ option_or (place_in name front) (place_in name back)
place-append name [] back = refl
place-append name (first ∷ front) back =
    ap (λ o. if first.1.name == name then Some first.0 else o) (place-append name front back)
    ∙ either (first.1.name == name) first.0 (place_in name front) (place_in name back)

place-marked : (name : ℕ) (found behind : List Occurrence) → place_among name found behind ≡ place_in name (marked found behind)
place-marked name [] behind = refl
place-marked name (first ∷ rest) behind = ap (λ o. if first.name == name then Some (length (rest ++ behind)) else o) (place-marked name rest behind)

-- one mark more, which may be of the name that is asked for and may be kept
place-kept : (bound keep : Bool) (name : ℕ) (first : Mark) (rest : List Mark) (is : Bool) (place : Option ℕ) → (first.1.name == name) ≡ is → (is ≡ true → keep ≡ not bound)
    → place_in name rest ≡ (if bound then None else place)
    → place_in name (cond keep (first ∷ rest) rest) ≡ (if bound then None else if is then Some first.0 else place)
place-kept bound true name first rest false place same tied inner = ap (λ b. if b then Some first.0 else place_in name rest) same ∙ inner
place-kept bound false name first rest false place same tied inner = inner
place-kept true true name first rest true place same tied inner = absurd (let e = tied refl in cc)
place-kept true false name first rest true place same tied inner = inner
place-kept false true name first rest true place same tied inner = ap (λ b. if b then Some first.0 else place_in name rest) same
place-kept false false name first rest true place same tied inner = absurd (let e = tied refl in cc)

no_place : (is : Bool) (place : Option ℕ) → place ≡ None → place ≡ (if is then None else place)
no_place true place is_none = is_none
no_place false place is_none = refl

place-others : (names : List ℕ) (name : ℕ) (marks : List Mark) → place_in name (others_than names marks) ≡ (if list_any (λ other. other == name) names then None else place_in name marks)
place-others names name [] = no_place (list_any (λ other. other == name) names) None refl
place-others names name (first ∷ rest) =
    place-kept (list_any (λ other. other == name) names) (not (list_any (λ other. first.1.name == other) names)) name first (others_than names rest) (first.1.name == name) (place_in name rest) refl
    (λ is. ap not (ap (λ (n : ℕ). list_any (λ other. n == other) names) (eqb-true first.1.name name is) ∙ sym (any-flipped name names)))
    (place-others names name rest)

found-kept : (keep : Bool) (first : Mark) (rest : List Mark) → found_in (cond keep (first ∷ rest) rest) ≡ cond keep (first.1 ∷ found_in rest) (found_in rest)
found-kept true first rest = refl
found-kept false first rest = refl

found-others : (names : List ℕ) (marks : List Mark) → found_in (others_than names marks) ≡ without names (found_in marks)
found-others names [] = refl
found-others names (first ∷ rest) =
    found-kept (not (list_any (λ name. first.1.name == name) names)) first (others_than names rest)
    ∙ ap (λ l. cond (not (list_any (λ name. first.1.name == name) names)) (first.1 ∷ l) l) (found-others names rest)

found-marked : (found behind : List Occurrence) → found_in (marked found behind) ≡ found
found-marked [] behind = refl
found-marked (first ∷ rest) behind = ap (λ l. first ∷ l) (found-marked rest behind)

counted : (is : Bool) (place : ℕ) (rest : Option ℕ) (count : ℕ) → is_some rest ≡ nat_lt 0 count → is_some (if is then Some place else rest) ≡ nat_lt 0 (cond is 1 0 + count)
counted true place rest count inner = sym (lt-ltb 0 (1 + count) (omega arith))
counted false place rest count inner = inner ∙ ap (nat_lt 0) (let e : count ≡ 0 + count = omega arith in e)

pub place-counted : (name : ℕ) (marks : List Mark) → is_some (place_in name marks) ≡ nat_lt 0 (count_of name (found_in marks))
place-counted name [] = refl
place-counted name (first ∷ rest) =
    counted (first.1.name == name) first.0 (place_in name rest) (count_of name (found_in rest)) (place-counted name rest)
    ∙ ap (λ (n : ℕ). nat_lt 0 n) (sym (count-cons name first.1 (found_in rest)))

module _ (blank : ℕ → Bool) where
  abbrev mutual
    pub free_marks : Written → List Occurrence → List Mark
    free_marks (Conjunction goals span) behind = each_marks goals behind
    free_marks (Parallel goals span) behind = each_marks goals behind
    free_marks (Disjunction goals span) behind = each_marks goals behind
    free_marks (Conditional condition then_part else_part span) behind =
        free_marks condition (all_before blank then_part (all_before blank else_part behind)) ++ (free_marks then_part (all_before blank else_part behind) ++ free_marks else_part behind)
    free_marks (Negated goal span) behind = free_marks goal behind
    free_marks (Quantified variables goal span) behind = others_than variables (free_marks goal behind)
    free_marks other behind = marked (free blank other) behind

    pub each_marks : WrittenGoals → List Occurrence → List Mark
    each_marks no_goals behind = []
    each_marks (more_goals first rest) behind = free_marks first (each_before blank rest behind) ++ each_marks rest behind

  mutual
    pub within-free : (goal : Written) (behind : List Occurrence) → Within behind (free_marks goal behind) (all_before blank goal behind)
    within-free (Truth span) behind = within-marked [] behind
    within-free (Failure span) behind = within-marked [] behind
    within-free (WrongForm span) behind = within-marked [] behind
    within-free (OutsideProfile span) behind = within-marked [] behind
    within-free (Equal at left right span) behind = within-marked (free blank (Equal at left right span)) behind
    within-free (Compared at name left right span) behind = within-marked (free blank (Compared at name left right span)) behind
    within-free (Called at name qualifier arguments span) behind = within-marked (free blank (Called at name qualifier arguments span)) behind
    within-free (Conjunction goals span) behind = within-each goals behind
    within-free (Parallel goals span) behind = within-each goals behind
    within-free (Disjunction goals span) behind = within-each goals behind
    within-free (Negated goal span) behind = within-free goal behind
    within-free (Quantified variables goal span) behind = within-others variables behind (free_marks goal behind) (all_before blank goal behind) (within-free goal behind)
    within-free (Conditional condition then_part else_part span) behind =
        within-append (all_before blank then_part (all_before blank else_part behind)) behind (free_marks condition (all_before blank then_part (all_before blank else_part behind)))
        (free_marks then_part (all_before blank else_part behind) ++ free_marks else_part behind) (all_before blank condition (all_before blank then_part (all_before blank else_part behind)))
        (within-free condition (all_before blank then_part (all_before blank else_part behind)))
        (within-append (all_before blank else_part behind) behind (free_marks then_part (all_before blank else_part behind)) (free_marks else_part behind)
        (all_before blank then_part (all_before blank else_part behind)) (within-free then_part (all_before blank else_part behind)) (within-free else_part behind))

    within-each : (goals : WrittenGoals) (behind : List Occurrence) → Within behind (each_marks goals behind) (each_before blank goals behind)
    within-each no_goals behind = done
    within-each (more_goals first rest) behind =
        within-append (each_before blank rest behind) behind (free_marks first (each_before blank rest behind)) (each_marks rest behind) (all_before blank first (each_before blank rest behind))
        (within-free first (each_before blank rest behind)) (within-each rest behind)

  mutual
    pub found-free : (goal : Written) (behind : List Occurrence) → found_in (free_marks goal behind) ≡ free blank goal
    found-free (Truth span) behind = refl
    found-free (Failure span) behind = refl
    found-free (WrongForm span) behind = refl
    found-free (OutsideProfile span) behind = refl
    found-free (Equal at left right span) behind = found-marked (free blank (Equal at left right span)) behind
    found-free (Compared at name left right span) behind = found-marked (free blank (Compared at name left right span)) behind
    found-free (Called at name qualifier arguments span) behind = found-marked (free blank (Called at name qualifier arguments span)) behind
    found-free (Conjunction goals span) behind = found-each goals behind
    found-free (Parallel goals span) behind = found-each goals behind
    found-free (Disjunction goals span) behind = found-each goals behind
    found-free (Negated goal span) behind = found-free goal behind
    found-free (Quantified variables goal span) behind = found-others variables (free_marks goal behind) ∙ ap (without variables) (found-free goal behind)
    found-free (Conditional condition then_part else_part span) behind =
        map-append (λ (one : Mark). one.1) (free_marks condition (all_before blank then_part (all_before blank else_part behind)))
        (free_marks then_part (all_before blank else_part behind) ++ free_marks else_part behind)
        ∙ ap (λ l. l ++ found_in (free_marks then_part (all_before blank else_part behind) ++ free_marks else_part behind))
        (found-free condition (all_before blank then_part (all_before blank else_part behind)))
        ∙ ap (λ l. free blank condition ++ l) (map-append (λ (one : Mark). one.1) (free_marks then_part (all_before blank else_part behind)) (free_marks else_part behind))
        ∙ ap (λ l. free blank condition ++ (l ++ found_in (free_marks else_part behind))) (found-free then_part (all_before blank else_part behind))
        ∙ ap (λ l. free blank condition ++ (free blank then_part ++ l)) (found-free else_part behind)

    found-each : (goals : WrittenGoals) (behind : List Occurrence) → found_in (each_marks goals behind) ≡ all_free blank goals
    found-each no_goals behind = refl
    found-each (more_goals first rest) behind =
        map-append (λ (one : Mark). one.1) (free_marks first (each_before blank rest behind)) (each_marks rest behind)
        ∙ ap (λ l. l ++ found_in (each_marks rest behind)) (found-free first (each_before blank rest behind))
        ∙ ap (λ l. free blank first ++ l) (found-each rest behind)

  place-bound : (is : Bool) (status : Status) (place : Option ℕ) → status.place ≡ place → (if is then unseen else status).place ≡ (if is then None else place)
  place-bound true status place same = refl
  place-bound false status place same = same

  mutual
    pub place-free : (name : ℕ) (goal : Written) (behind : List Occurrence) → (status_of blank name goal behind).place ≡ place_in name (free_marks goal behind)
    place-free name (Truth span) behind = refl
    place-free name (Failure span) behind = refl
    place-free name (WrongForm span) behind = refl
    place-free name (OutsideProfile span) behind = refl
    place-free name (Equal at left right span) behind = place-marked name (free blank (Equal at left right span)) behind
    place-free name (Compared at other left right span) behind = place-marked name (free blank (Compared at other left right span)) behind
    place-free name (Called at other qualifier arguments span) behind = place-marked name (free blank (Called at other qualifier arguments span)) behind
    place-free name (Conjunction goals span) behind = place-each name goals behind
    place-free name (Parallel goals span) behind = place-each name goals behind
    place-free name (Disjunction goals span) behind = place-each name goals behind
    place-free name (Negated goal span) behind = place-free name goal behind
    place-free name (Quantified variables goal span) behind =
        place-bound (list_any (λ other. other == name) variables) (status_of blank name goal behind) (place_in name (free_marks goal behind)) (place-free name goal behind)
        ∙ sym (place-others variables name (free_marks goal behind))
    place-free name (Conditional condition then_part else_part span) behind =
        ap (λ o. option_or o (option_or (status_of blank name then_part (all_before blank else_part behind)).place (status_of blank name else_part behind).place))
        (place-free name condition (all_before blank then_part (all_before blank else_part behind)))
        ∙ ap (λ o. option_or (place_in name (free_marks condition (all_before blank then_part (all_before blank else_part behind)))) (option_or o (status_of blank name else_part behind).place))
        (place-free name then_part (all_before blank else_part behind))
        ∙ ap (λ o. option_or (place_in name (free_marks condition (all_before blank then_part (all_before blank else_part behind))))
        (option_or (place_in name (free_marks then_part (all_before blank else_part behind))) o)) (place-free name else_part behind)
        ∙ ap (λ o. option_or (place_in name (free_marks condition (all_before blank then_part (all_before blank else_part behind)))) o)
        (sym (place-append name (free_marks then_part (all_before blank else_part behind)) (free_marks else_part behind)))
        ∙ sym (place-append name (free_marks condition (all_before blank then_part (all_before blank else_part behind)))
        (free_marks then_part (all_before blank else_part behind) ++ free_marks else_part behind))

    place-each : (name : ℕ) (goals : WrittenGoals) (behind : List Occurrence) → (each_status blank name goals behind).place ≡ place_in name (each_marks goals behind)
    place-each name no_goals behind = refl
    place-each name (more_goals first rest) behind =
        ap (λ o. option_or o (each_status blank name rest behind).place) (place-free name first (each_before blank rest behind))
        ∙ ap (λ o. option_or (place_in name (free_marks first (each_before blank rest behind))) o) (place-each name rest behind)
        ∙ sym (place-append name (free_marks first (each_before blank rest behind)) (each_marks rest behind))

  -- A name has a place exactly where it occurs.
  pub occurs : (name : ℕ) (goal : Written) (behind : List Occurrence) → is_some (status_of blank name goal behind).place ≡ nat_lt 0 (count_of name (free blank goal))
  occurs name goal behind =
      ap (λ (o : Option ℕ). is_some o) (place-free name goal behind) ∙ place-counted name (free_marks goal behind) ∙ ap (λ (l : List Occurrence). nat_lt 0 (count_of name l)) (found-free goal behind)

  pub each_occurs : (name : ℕ) (goals : WrittenGoals) (behind : List Occurrence) → is_some (each_status blank name goals behind).place ≡ nat_lt 0 (count_of name (all_free blank goals))
  each_occurs name goals behind =
      ap (λ (o : Option ℕ). is_some o) (place-each name goals behind) ∙ place-counted name (each_marks goals behind) ∙ ap (λ (l : List Occurrence). nat_lt 0 (count_of name l)) (found-each goals behind)

-- Rights to signal that move into the conjuncts which bind their variables.
use Rattle.std.specs.Prelude.{◌≡◌, ◌<◌, ◌+◌, ◌==◌, ◌&&◌, ◌||◌, nat_le, ℕ, suc, Bool, true, false, List, [], ◌∷◌, ◌++◌, length, map, reverse, slice_index_or, take, refl, if◌then◌else◌}
use Rattle.std.specs.List.{flat_map}
use Rattle.std.proofs.Common.{◌∙◌, ap, sym, arith}
use Rattle.std.proofs.lemmas.Bool.{eqb-true}
use Rattle.std.proofs.lemmas.Bool.Decides.{nat_tests}
use Rattle.std.proofs.lemmas.List.{append-nil, append_assoc, map-append, reverse-append, take_more}
use Rattle.merc_graded_tree.specs.Variables.{among}
use Rattle.merc_rights.specs.Groups.{in_order, rights_in, all_rights, numbered, numbered_with, shares_in, by_variable, held_if, held_in, held_variables, has_some, AllFor, AreHeld, AreAt}
use Rattle.merc_rights.specs.Rights.{Right, right_to, is_sooner, with_rights}
use Rattle.merc_rights.specs.Rows.{row_of, numbers_from}
use Rattle.merc_rights.specs.declared.groups.Group.{Group}
use Rattle.merc_rights.specs.declared.groups.NumberedGroup.{NumberedGroup}
use Rattle.merc_rights.proofs.FlatLaws.{flat-append, flat-same, row-at, row-flat}
use Rattle.merc_rights.proofs.GroupLaws.{to_all, ordered, with_number, with_numbers}
use Rattle.merc_rights.proofs.Indexes.{row-append}

-- which variables have rights

some_with : (a : ℕ) (l : List ℕ) → has_some (with_number a l) ≡ true
some_with a [] = refl
some_with a (b ∷ l) = by (is_sooner a b)
  where
    by : (t : Bool) → has_some (if t then a ∷ b ∷ l else b ∷ with_number a l) ≡ true
    by true = refl
    by false = refl

some_withs : (r l : List ℕ) → has_some l ≡ true → has_some (with_numbers r l) ≡ true
some_withs [] l some = some
some_withs (a ∷ r) l some = some_withs r (with_number a l) (some_with a l)

some_ordered : (l : List ℕ) → has_some (with_numbers l []) ≡ has_some l
some_ordered [] = refl
some_ordered (a ∷ r) = some_withs r (a ∷ []) refl

same_back : (one other : ℕ) → (one == other) ≡ (other == one)
same_back one other = grind (arith, nat_tests)

or-false : (b : Bool) → (b || false) ≡ b
or-false true = refl
or-false false = refl

some_of : (variable other : ℕ) (l : List ℕ) (more : List (ℕ × Right))
    → has_some (row_of variable (by_variable (to_all other l) ++ more)) ≡ ((has_some l && (other == variable)) || has_some (row_of variable more))
some_of variable other [] more = refl
some_of variable other (a ∷ l) more = by (other == variable) (some_of variable other l more)
  where
    rest : List (ℕ × Right)
    rest = by_variable (to_all other l) ++ more

    none : (b c : Bool) → has_some (row_of variable rest) ≡ ((b && false) || c) → has_some (row_of variable rest) ≡ c
    none true c is = is
    none false c is = is

    by : (b : Bool) → has_some (row_of variable rest) ≡ ((has_some l && b) || has_some (row_of variable more))
        → has_some (if b then right_to a other ∷ row_of variable rest else row_of variable rest) ≡ (b || has_some (row_of variable more))
    by true is = refl
    by false is = none (has_some l) (has_some (row_of variable more)) is

held_first : (variable other : ℕ) (l rest : List ℕ) → among (held_if other l ++ rest) variable ≡ ((has_some l && (variable == other)) || among rest variable)
held_first variable other [] rest = refl
held_first variable other (a ∷ l) rest = refl

pub are_held : (groups : List Group) → AreHeld (held_variables groups) (by_variable (all_rights groups))
are_held [] variable = refl
are_held (first ∷ rest) variable =
    let other = first.variable in
    let l = first.conjuncts.items in
    let more = by_variable (all_rights rest) in
    held_first variable other l (held_variables rest)
    ∙ ap (λ b. (has_some l && (variable == other)) || b) (are_held rest variable)
    ∙ ap (λ b. (has_some l && b) || has_some (row_of variable more)) (same_back variable other)
    ∙ ap (λ b. (b && (other == variable)) || has_some (row_of variable more)) (sym (some_ordered l))
    ∙ sym (some_of variable other (with_numbers l []) more)
    ∙ ap (λ r. has_some (row_of variable (by_variable r ++ more))) (sym (ordered other l))
    ∙ ap (λ r. has_some (row_of variable r)) (sym (map-append (λ (right : Right). (right.variable, right)) (rights_in first) (all_rights rest)))

pub held_none : (variable : ℕ) (l : List ℕ) (n : ℕ) → n ≡ length l → (n == 0) ≡ true → held_if variable l ≡ []
held_none variable [] n size none = refl
held_none variable (a ∷ l) n size none = absurd (let e = eqb-true n 0 none in omega (arith, size, e))

pub held_some : (variable : ℕ) (l : List ℕ) (n : ℕ) → n ≡ length l → (n == 0) ≡ false → held_if variable l ≡ variable ∷ []
held_some variable [] n size some = absurd (let e = ap (λ k. k == 0) size in let f : (0 == 0) ≡ true = refl in cc)
held_some variable (a ∷ l) n size some = refl

pub held_more : (groups : List Group) (index : ℕ) (group : Group) (old new : List (ℕ × ℕ)) → group ≡ slice_index_or groups index group → index < length groups
    → old ≡ map (λ variable. (variable, 0)) (held_variables (take index groups)) → new ≡ old ++ map (λ variable. (variable, 0)) (held_in group)
    → new ≡ map (λ variable. (variable, 0)) (held_variables (take (index + 1) groups))
held_more groups index group old new is less same put =
    let before = held_variables (take index groups) in
    put ∙ ap (λ l. l ++ map (λ variable. (variable, 0)) (held_in group)) same ∙ sym (map-append (λ variable. (variable, 0)) before (held_in group))
    ∙ ap (map (λ variable. (variable, 0))) (ap (λ l. before ++ l) (sym (append-nil (held_in group))) ∙ sym (flat-append held_in (take index groups) (group ∷ []))
    ∙ ap held_variables (sym (take_more groups index group less ∙ ap (λ x. take index groups ++ x ∷ []) (sym is))))

-- those for a variable

pub all_own : (variable : ℕ) (signals : List Right) → AllFor variable (row_of variable (by_variable signals))
all_own variable [] = tt
all_own variable (first ∷ rest) = by (first.variable == variable) refl (all_own variable rest)
  where
    by : (b : Bool) → (first.variable == variable) ≡ b → AllFor variable (row_of variable (by_variable rest))
        → AllFor variable (if b then first ∷ row_of variable (by_variable rest) else row_of variable (by_variable rest))
    by true is more = (grind (arith, nat_tests, is), more)
    by false is more = more

-- the rights by the number of a place are those for its variable

abbrev variable_at : NumberedGroup → List ℕ
variable_at item = item.group.variable ∷ []

own_row : (variable : ℕ) (signals : List Right) → flat_map (λ right. if (right.variable == variable) || false then right ∷ [] else []) signals ≡ row_of variable (by_variable signals)
own_row variable [] = refl
own_row variable (first ∷ rest) = ap (λ l. (if (first.variable == variable) || false then first ∷ [] else []) ++ l) (own_row variable rest) ∙ by (first.variable == variable)
  where
    by : (b : Bool) → (if b || false then first ∷ [] else []) ++ row_of variable (by_variable rest) ≡ (if b then first ∷ row_of variable (by_variable rest) else row_of variable (by_variable rest))
    by true = refl
    by false = refl

one_place : (front : List NumberedGroup) (item : NumberedGroup) (back : List NumberedGroup) (right : Right)
    → row_of (length front) (shares_in (map variable_at (front ++ item ∷ back)) right) ≡ (if (right.variable == item.group.variable) || false then right ∷ [] else [])
one_place front item back right =
    let lists = λ (l : List NumberedGroup). map (λ (i : NumberedGroup). i.group.variable ∷ []) l in
    let such = λ (list : List ℕ). among list right.variable in
    let size : 0 + length (lists front) ≡ length front = length_mapped front in
    let low : nat_le 0 (length front) ≡ true = grind (arith, nat_tests) in
    ap (λ l. row_of (length front) (map (λ number. (number, right)) (numbers_from such 0 0 l))) (map-append (λ (i : NumberedGroup). i.group.variable ∷ []) front (item ∷ back))
    ∙ row-at (λ n. right) such 0 (length front) 0 (lists front) (item.group.variable ∷ []) (lists back) size
    ∙ ap (λ b. if b && such (item.group.variable ∷ []) then right ∷ [] else []) low
  where
    length_mapped : (l : List NumberedGroup) → 0 + length (map (λ (i : NumberedGroup). i.group.variable ∷ []) l) ≡ length l
    length_mapped [] = refl
    length_mapped (first ∷ rest) = let e = length_mapped rest in omega (arith, e)

pub are_at : (items : List NumberedGroup) (signals : List Right) (shares rows : List (ℕ × Right))
    → ((number : ℕ) → row_of number shares ≡ row_of number (flat_map (shares_in (map (λ item. item.group.variable ∷ []) items)) signals))
    → ((number : ℕ) → row_of number rows ≡ row_of number shares) → AreAt items signals rows
are_at items signals shares rows told same front item back are =
    let number = length front in
    let variable = item.group.variable in
    same number ∙ told number
    ∙ ap (λ l. row_of number (flat_map (shares_in (map variable_at l)) signals)) are
    ∙ row-flat number (shares_in (map variable_at (front ++ item ∷ back))) signals
    ∙ flat-same (λ right. row_of number (shares_in (map variable_at (front ++ item ∷ back)) right)) (λ right. if (right.variable == variable) || false then right ∷ [] else []) (one_place front item back) signals
    ∙ own_row variable signals

-- a group more has them

abbrev joined_one : List (ℕ × Right) → NumberedGroup → List (ℕ × Right)
joined_one moved item = map (λ right. (item.number, right)) (with_rights (row_of item.group.variable moved) (rights_in item.group))

pub group_more : (moved : List (ℕ × Right)) (old new : List NumberedGroup) (item : NumberedGroup) → new ≡ old ++ item ∷ []
    → numbered_with moved new ≡ numbered_with moved old ++ map (λ right. (item.number, right)) (with_rights (row_of item.group.variable moved) (rights_in item.group))
group_more moved old new item put =
    ap (numbered_with moved) put ∙ flat-append (joined_one moved) old (item ∷ []) ∙ ap (λ l. numbered_with moved old ++ l) (append-nil (joined_one moved item))

pub joined_more : (moved : List (ℕ × Right)) (old left : List NumberedGroup) (item : NumberedGroup) (before now : List NumberedGroup) (group : Group) (whole : List (ℕ × Right))
    → old ≡ left ++ item ∷ [] → rights_in group ≡ with_rights (row_of item.group.variable moved) (rights_in item.group)
    → now ≡ before ++ record { number = item.number; group = group } ∷ []
    → numbered_with moved old ++ numbered (reverse before) ≡ whole → numbered_with moved left ++ numbered (reverse now) ≡ whole
joined_more moved old left item before now group whole are is put same =
    let own = joined_one moved item in
    ap (λ l. numbered_with moved left ++ numbered l) (ap reverse put ∙ reverse-append before (record { number = item.number; group = group } ∷ []))
    ∙ ap (λ r. numbered_with moved left ++ (map (λ right. (item.number, right)) r ++ numbered (reverse before))) is
    ∙ sym (append_assoc (numbered_with moved left) own (numbered (reverse before)))
    ∙ ap (λ l. l ++ numbered (reverse before))
    (ap (λ l. numbered_with moved left ++ l) (sym (append-nil own)) ∙ sym (flat-append (joined_one moved) left (item ∷ [])) ∙ sym (ap (numbered_with moved) are))
    ∙ same

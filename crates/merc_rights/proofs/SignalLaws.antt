-- Rights to signal that groups have.
use Rattle.std.specs.Prelude.{◌≡◌, ◌<◌, ◌+◌, ◌==◌, ◌&&◌, not, nat_lt, nat_le, ℕ, suc, Bool, true, false, List, [], ◌∷◌, ◌++◌, length, map, take, slice_index_or, refl, if◌then◌else◌}
use Rattle.std.specs.List.{filter, flat_map}
use Rattle.std.specs.List.Sorted.{ties, IsStableByKey}
use Rattle.std.specs.Ordering.{nat_cmp, is_lt}
use Rattle.std.proofs.Common.{◌∙◌, ap, sym, arith}
use Rattle.std.proofs.lemmas.Bool.Decides.{nat_tests}
use Rattle.std.proofs.lemmas.List.{append-nil, append_assoc, flat_map_more, length-append, length-map, take_more}
use Rattle.merc_rights.specs.Groups.{in_order, rights_in, all_rights, groups_of, numbered, AllFor}
use Rattle.merc_rights.specs.Rights.{Right, right_to, is_sooner, with_right, with_rights}
use Rattle.merc_rights.specs.Rows.{row_of}
use Rattle.merc_rights.specs.declared.groups.Group.{Group}
use Rattle.merc_rights.specs.declared.groups.NumberedGroup.{NumberedGroup}
use Rattle.merc_rights.proofs.GroupLaws.{with_number, with_numbers, ordered}
use Rattle.merc_rights.proofs.Indexes.{row-append}

-- how many there are

length_with : (a : ℕ) (l : List ℕ) → length (with_number a l) ≡ suc (length l)
length_with a [] = refl
length_with a (b ∷ l) = by (is_sooner a b) (length_with a l)
  where
    by : (t : Bool) → length (with_number a l) ≡ suc (length l) → length (if t then a ∷ b ∷ l else b ∷ with_number a l) ≡ suc (suc (length l))
    by true more = refl
    by false more = ap suc more

length_withs : (r l : List ℕ) → length (with_numbers r l) ≡ length r + length l
length_withs [] l = omega arith
length_withs (a ∷ r) l = let e = length_withs r (with_number a l) in let f = length_with a l in omega (arith, e, f)

length_in : (variable : ℕ) (l : List ℕ) → length (in_order variable l) ≡ length l
length_in variable l =
    let e = ap length (ordered variable l) in
    let f : length (map (λ conjunct. right_to conjunct variable) (with_numbers l [])) ≡ length (with_numbers l []) = length-map (with_numbers l []) (λ conjunct. right_to conjunct variable) in
    let g = length_withs l [] in omega (arith, e, f, g)

pub count_more : (groups : List Group) (index : ℕ) (group : Group) (old own new : ℕ) → group ≡ slice_index_or groups index group → index < length groups → own ≡ length group.conjuncts.items
    → old ≡ length (all_rights (take index groups)) → new ≡ old + own → new ≡ length (all_rights (take (index + 1) groups))
count_more groups index group old own new is less size same put =
    let e = length_in group.variable group.conjuncts.items in
    let f = length-append (all_rights (take index groups)) (rights_in group) in
    let g = ap length (flat_map_more rights_in [] (take index groups) group) in
    let h = ap (λ l. length (all_rights l)) (take_more groups index group less ∙ ap (λ x. take index groups ++ x ∷ []) (sym is)) in
    omega (arith, size, same, put, e, f, g, h)

-- those of one group more

pub with_append : (one other rights : List Right) → with_rights (one ++ other) rights ≡ with_rights other (with_rights one rights)
with_append [] other rights = refl
with_append (first ∷ rest) other rights = with_append rest other (with_right first rights)

pub all_front : (variable : ℕ) (one other : List Right) → AllFor variable (one ++ other) → AllFor variable one
all_front variable [] other all = tt
all_front variable (first ∷ rest) other all = (all.0, all_front variable rest other all.1)

pub all_back : (variable : ℕ) (one other : List Right) → AllFor variable (one ++ other) → AllFor variable other
all_back variable [] other all = all
all_back variable (first ∷ rest) other all = all_back variable rest other all.1

-- rows of groups

row_same : (number key : ℕ) (rights : List Right) (b : Bool) → (key == number) ≡ b → row_of number (map (λ right. (key, right)) rights) ≡ (if b then rights else [])
row_same number key [] true is = refl
row_same number key [] false is = refl
row_same number key (first ∷ rest) true is =
    ap (λ b. if b then first ∷ row_of number (map (λ right. (key, right)) rest) else row_of number (map (λ right. (key, right)) rest)) is ∙ ap (λ l. first ∷ l) (row_same number key rest true is)
row_same number key (first ∷ rest) false is =
    ap (λ b. if b then first ∷ row_of number (map (λ right. (key, right)) rest) else row_of number (map (λ right. (key, right)) rest)) is ∙ row_same number key rest false is

pub row_keyed : (number key : ℕ) (rights : List Right) → row_of number (map (λ right. (key, right)) rights) ≡ (if key == number then rights else [])
row_keyed number key rights = row_same number key rights (key == number) refl

pub rows_numbered : (number : ℕ) (items : List NumberedGroup) → row_of number (numbered items) ≡ all_rights (groups_of number items)
rows_numbered number [] = refl
rows_numbered number (first ∷ rest) =
    row-append number (map (λ right. (first.number, right)) (rights_in first.group)) (numbered rest)
    ∙ ap (λ r. r ++ row_of number (numbered rest)) (row_keyed number first.number (rights_in first.group))
    ∙ ap (λ r. (if first.number == number then rights_in first.group else []) ++ r) (rows_numbered number rest) ∙ by (first.number == number)
  where
    by : (b : Bool) → (if b then rights_in first.group else []) ++ all_rights (groups_of number rest) ≡ all_rights (if b then first.group ∷ groups_of number rest else groups_of number rest)
    by true = refl
    by false = refl

module _ (p : NumberedGroup → Bool) (number : ℕ) (so : (item : NumberedGroup) → (item.number == number) ≡ true → p item ≡ true) where
  kept_step : (first : NumberedGroup) (rest : List NumberedGroup) (a b : Bool) → (b ≡ true → a ≡ true) → (first.number == number) ≡ b
      → groups_of number (if a then first ∷ rest else rest) ≡ (if b then first.group ∷ groups_of number rest else groups_of number rest)
  kept_step first rest true b goes is = ap (λ t. if t then first.group ∷ groups_of number rest else groups_of number rest) is
  kept_step first rest false true goes is = absurd (let e = goes refl in cc)
  kept_step first rest false false goes is = refl

  pub kept_row : (items : List NumberedGroup) → groups_of number (filter p items) ≡ groups_of number items
  kept_row [] = refl
  kept_row (first ∷ rest) =
      kept_step first (filter p rest) (p first) (first.number == number) (so first) refl
      ∙ ap (λ r. if first.number == number then first.group ∷ r else r) (kept_row rest)

pub row_step : (number : ℕ) (first : NumberedGroup) (rest : List NumberedGroup) (old new : List Group) → new ≡ old ++ (if first.number == number then first.group ∷ [] else [])
    → new ++ groups_of number rest ≡ old ++ groups_of number (first ∷ rest)
row_step number first rest old new put =
    ap (λ l. l ++ groups_of number rest) put ∙ append_assoc old (if first.number == number then first.group ∷ [] else []) (groups_of number rest) ∙ ap (λ l. old ++ l) (by (first.number == number))
  where
    by : (b : Bool) → (if b then first.group ∷ [] else []) ++ groups_of number rest ≡ (if b then first.group ∷ groups_of number rest else groups_of number rest)
    by true = refl
    by false = refl

-- a stable sort keeps rows

abbrev sooner : NumberedGroup → NumberedGroup → Bool
sooner one other = is_lt (nat_cmp one.number other.number)

tie_is : (one other : ℕ) → (not (is_lt (nat_cmp one other)) && not (is_lt (nat_cmp other one))) ≡ (other == one)
tie_is one other = grind (arith, nat_tests)

tied_row : (x : NumberedGroup) (items : List NumberedGroup) → map (λ item. item.group) (filter (ties sooner x) items) ≡ groups_of x.number items
tied_row x [] = refl
tied_row x (first ∷ rest) =
    ap (λ b. map (λ item. item.group) (if b then first ∷ filter (ties sooner x) rest else filter (ties sooner x) rest)) (tie_is x.number first.number) ∙ by (first.number == x.number) (tied_row x rest)
  where
    by : (b : Bool) → map (λ item. item.group) (filter (ties sooner x) rest) ≡ groups_of x.number rest
        → map (λ item. item.group) (if b then first ∷ filter (ties sooner x) rest else filter (ties sooner x) rest) ≡ (if b then first.group ∷ groups_of x.number rest else groups_of x.number rest)
    by true more = ap (λ l. first.group ∷ l) more
    by false more = more

with_one : (number : ℕ) (group : Group) (old new : List NumberedGroup) → IsStableByKey (λ item. item.number) nat_cmp old new → groups_of number new ≡ groups_of number old
with_one number group old new stable =
    let x : NumberedGroup = record { number = number; group = group } in
    sym (tied_row x new) ∙ ap (λ l. map (λ item. item.group) l) (stable x) ∙ tied_row x old

groups_stay : (old new : List NumberedGroup) → IsStableByKey (λ item. item.number) nat_cmp old new → (number : ℕ) → groups_of number new ≡ groups_of number old
groups_stay [] [] stable number = refl
groups_stay (first ∷ rest) new stable number = with_one number first.group (first ∷ rest) new stable
groups_stay [] (first ∷ rest) stable number = with_one number first.group [] (first ∷ rest) stable

pub rows_stay : (old new : List NumberedGroup) → IsStableByKey (λ item. item.number) nat_cmp old new → (number : ℕ) → row_of number (numbered new) ≡ row_of number (numbered old)
rows_stay old new stable number = rows_numbered number new ∙ ap all_rights (groups_stay old new stable number) ∙ sym (rows_numbered number old)

-- a row is taken, and those before it stay

pub row_taken : (number : ℕ) (items taken : List NumberedGroup) (signals : List Right) → taken ≡ filter (λ item. nat_le number item.number) items → signals ≡ all_rights (groups_of number taken)
    → signals ≡ row_of number (numbered items)
row_taken number items taken signals are is =
    is ∙ ap all_rights (ap (groups_of number) are ∙ kept_row (λ item. nat_le number item.number) number (λ item e. grind (arith, nat_tests, e)) items) ∙ sym (rows_numbered number items)

pub row_left : (number other : ℕ) (items left : List NumberedGroup) → other < number → left ≡ filter (λ item. nat_lt item.number number) items
    → row_of other (numbered left) ≡ row_of other (numbered items)
row_left number other items left less are =
    rows_numbered other left
    ∙ ap all_rights (ap (groups_of other) are ∙ kept_row (λ item. nat_lt item.number number) other (λ item e. grind (arith, nat_tests, e, less)) items)
    ∙ sym (rows_numbered other items)

pub none_left : {X : Type 0} (items : List X) → length items ≡ 0 → items ≡ []
none_left [] none = refl
none_left (first ∷ rest) none = absurd (omega (arith, none))

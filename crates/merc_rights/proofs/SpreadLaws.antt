-- Groups that are put for several numbers.
use Rattle.std.specs.Prelude.{◌≡◌, ◌≤◌, ◌<◌, ◌+◌, ◌==◌, ◌&&◌, ◌⊎◌, nat_le, ℕ, suc, Bool, true, false, List, [], ◌∷◌, ◌++◌, length, map, take, slice_index_or, refl, if◌then◌else◌}
use Rattle.std.specs.List.{filter, flat_map}
use Rattle.std.proofs.Common.{◌∙◌, ap, sym, arith, inl, inr}
use Rattle.std.proofs.lemmas.Bool.Decides.{nat_tests}
use Rattle.std.proofs.lemmas.List.{append-nil, append_assoc, take_more}
use Rattle.merc_graded_tree.specs.Nodes.{Node, outputs_of}
use Rattle.merc_graded_tree.specs.Variables.{among}
use Rattle.merc_rights.specs.Groups.{in_order, rights_in, all_rights, numbered, shares_in}
use Rattle.merc_rights.specs.Members.{signal_shares, binds_it}
use Rattle.merc_rights.specs.Rights.{Right, right_to}
use Rattle.merc_rights.specs.Rows.{row_of, numbers_from}
use Rattle.merc_rights.specs.declared.groups.Group.{Group}
use Rattle.merc_rights.specs.declared.groups.NumberedGroup.{NumberedGroup}
use Rattle.merc_rights.proofs.FlatLaws.{flat-append, flat-none, flat-same, row-flat}
use Rattle.merc_rights.proofs.GroupLaws.{to_all, ordered, with_numbers}
use Rattle.merc_rights.proofs.Indexes.{row-append}
use Rattle.merc_rights.proofs.SignalLaws.{row_keyed}

-- one group more

pub numbered_more : (old new : List NumberedGroup) (item : NumberedGroup) → new ≡ old ++ item ∷ [] → numbered new ≡ numbered old ++ map (λ right. (item.number, right)) (rights_in item.group)
numbered_more old new item put =
    let one = map (λ right. (item.number, right)) (rights_in item.group) in
    ap numbered put ∙ flat-append (λ (i : NumberedGroup). map (λ right. (i.number, right)) (rights_in i.group)) old (item ∷ []) ∙ ap (λ l. numbered old ++ l) (append-nil one)

abbrev at_each : List Right → List ℕ → List (ℕ × Right)
at_each rights numbers = flat_map (λ number. map (λ right. (number, right)) rights) numbers

pub copies_more : (numbers : List ℕ) (index number : ℕ) (group : List Right) (start : List (ℕ × Right)) (old new : List NumberedGroup) (copy : Group)
    → number ≡ slice_index_or numbers index number → index < length numbers → rights_in copy ≡ group → numbered old ≡ start ++ flat_map (λ n. map (λ right. (n, right)) group) (take index numbers)
    → new ≡ old ++ record { number = number; group = copy } ∷ [] → numbered new ≡ start ++ flat_map (λ n. map (λ right. (n, right)) group) (take (index + 1) numbers)
copies_more numbers index number group start old new copy is less copied same put =
    let one = map (λ (right : Right). (number, right)) group in
    numbered_more old new (record { number = number; group = copy }) put
    ∙ ap (λ l. numbered old ++ map (λ right. (number, right)) l) copied
    ∙ ap (λ l. l ++ one) same ∙ append_assoc start (at_each group (take index numbers)) one
    ∙ ap (λ l. start ++ l) (ap (λ l. at_each group (take index numbers) ++ l) (sym (append-nil one))
    ∙ sym (flat-append (λ n. map (λ (right : Right). (n, right)) group) (take index numbers) (number ∷ []))
    ∙ ap (at_each group) (sym (take_more numbers index number less ∙ ap (λ x. take index numbers ++ x ∷ []) (sym is))))

-- .. and itself for the last number
pub last_more : (front numbers : List ℕ) (number : ℕ) (group : Group) (start : List (ℕ × Right)) (old new : List NumberedGroup) → numbers ≡ front ++ number ∷ []
    → numbered old ≡ start ++ flat_map (λ n. map (λ right. (n, right)) (rights_in group)) front → new ≡ old ++ record { number = number; group = group } ∷ []
    → numbered new ≡ start ++ flat_map (λ n. map (λ right. (n, right)) (rights_in group)) numbers
last_more front numbers number group start old new are same put =
    let rights = rights_in group in
    let one = map (λ (right : Right). (number, right)) rights in
    numbered_more old new (record { number = number; group = group }) put
    ∙ ap (λ l. l ++ one) same ∙ append_assoc start (at_each rights front) one
    ∙ ap (λ l. start ++ l) (ap (λ l. at_each rights front ++ l) (sym (append-nil one)) ∙ sym (flat-append (λ n. map (λ (right : Right). (n, right)) rights) front (number ∷ [])) ∙ ap (at_each rights) (sym are))

-- which of the numbers is one

hits : ℕ → List ℕ → List ℕ
hits n l = filter (λ k. k == n) l

module _ {X : Type 0} (such : X → Bool) (n : ℕ) where
  no_hit : (number : ℕ) (items : List X) → n < number → filter (λ k. k == n) (numbers_from such 0 number items) ≡ []
  no_hit number [] less = refl
  no_hit number (first ∷ rest) less = by (nat_le 0 number && such first) (no_hit (suc number) rest (omega (arith, less)))
    where
      other : (number == n) ≡ false
      other = grind (arith, nat_tests, less)

      by : (b : Bool) → filter (λ k. k == n) (numbers_from such 0 (suc number) rest) ≡ []
          → filter (λ k. k == n) (if b then number ∷ numbers_from such 0 (suc number) rest else numbers_from such 0 (suc number) rest) ≡ []
      by true more = ap (λ t. if t then number ∷ filter (λ k. k == n) (numbers_from such 0 (suc number) rest) else filter (λ k. k == n) (numbers_from such 0 (suc number) rest)) other ∙ more
      by false more = more

  once : (number : ℕ) (items : List X) → (filter (λ k. k == n) (numbers_from such 0 number items) ≡ []) ⊎ (filter (λ k. k == n) (numbers_from such 0 number items) ≡ n ∷ [])
  once number [] = inl refl
  once number (first ∷ rest) = by (nat_le 0 number && such first) (number == n) refl (once (suc number) rest)
    where
      here : number ≡ n → filter (λ k. k == n) (number ∷ numbers_from such 0 (suc number) rest) ≡ n ∷ []
      here is =
          let e : (number == n) ≡ true = grind (arith, nat_tests, is) in
          ap (λ t. if t then number ∷ filter (λ k. k == n) (numbers_from such 0 (suc number) rest) else filter (λ k. k == n) (numbers_from such 0 (suc number) rest)) e
          ∙ ap (λ k. k ∷ filter (λ k. k == n) (numbers_from such 0 (suc number) rest)) is
          ∙ ap (λ l. n ∷ l) (no_hit (suc number) rest (omega (arith, is)))

      by : (b t : Bool) → (number == n) ≡ t
          → (filter (λ k. k == n) (numbers_from such 0 (suc number) rest) ≡ []) ⊎ (filter (λ k. k == n) (numbers_from such 0 (suc number) rest) ≡ n ∷ [])
          → (filter (λ k. k == n) (if b then number ∷ numbers_from such 0 (suc number) rest else numbers_from such 0 (suc number) rest) ≡ [])
          ⊎ (filter (λ k. k == n) (if b then number ∷ numbers_from such 0 (suc number) rest else numbers_from such 0 (suc number) rest) ≡ n ∷ [])
      by false t is more = more
      by true true is more = inr (here (grind (arith, nat_tests, is)))
      by true false is more =
          let e = ap (λ t. if t then number ∷ filter (λ k. k == n) (numbers_from such 0 (suc number) rest) else filter (λ k. k == n) (numbers_from such 0 (suc number) rest)) is in
          elim more as (λ _. (filter (λ k. k == n) (number ∷ numbers_from such 0 (suc number) rest) ≡ []) ⊎ (filter (λ k. k == n) (number ∷ numbers_from such 0 (suc number) rest) ≡ n ∷ [])) [
            | inl none ↦ inl (e ∙ none)
            | inr one ↦ inr (e ∙ one)
          ]

-- the row of a number has the group where the number is one of them

group_row : (n : ℕ) (rights : List Right) (numbers : List ℕ) → row_of n (at_each rights numbers) ≡ flat_map (λ k. rights) (filter (λ k. k == n) numbers)
group_row n rights [] = refl
group_row n rights (first ∷ rest) =
    row-append n (map (λ right. (first, right)) rights) (at_each rights rest)
    ∙ ap (λ r. r ++ row_of n (at_each rights rest)) (row_keyed n first rights)
    ∙ ap (λ r. (if first == n then rights else []) ++ r) (group_row n rights rest) ∙ by (first == n)
  where
    by : (b : Bool) → (if b then rights else []) ++ flat_map (λ k. rights) (filter (λ k. k == n) rest) ≡ flat_map (λ k. rights) (if b then first ∷ filter (λ k. k == n) rest else filter (λ k. k == n) rest)
    by true = refl
    by false = refl

right_row : (n : ℕ) (right : Right) (numbers : List ℕ) → row_of n (map (λ number. (number, right)) numbers) ≡ map (λ k. right) (filter (λ k. k == n) numbers)
right_row n right [] = refl
right_row n right (first ∷ rest) = ap (λ l. if first == n then right ∷ l else l) (right_row n right rest) ∙ by (first == n)
  where
    by : (b : Bool) → (if b then right ∷ map (λ k. right) (filter (λ k. k == n) rest) else map (λ k. right) (filter (λ k. k == n) rest))
        ≡ map (λ k. right) (if b then first ∷ filter (λ k. k == n) rest else filter (λ k. k == n) rest)
    by true = refl
    by false = refl

each_itself : {X : Type 0} (items : List X) → flat_map (λ x. x ∷ []) items ≡ items
each_itself [] = refl
each_itself (first ∷ rest) = ap (λ l. first ∷ l) (each_itself rest)

turned_rows : {X : Type 0} (such : X → Bool) (n : ℕ) (items : List X) (rights : List Right)
    → row_of n (at_each rights (numbers_from such 0 0 items)) ≡ row_of n (flat_map (λ right. map (λ number. (number, right)) (numbers_from such 0 0 items)) rights)
turned_rows such n items rights =
    let numbers = numbers_from such 0 0 items in
    let each = λ (l : List ℕ). flat_map (λ (right : Right). map (λ k. right) l) rights in
    group_row n rights numbers
    ∙ elim (once such n 0 items) as (λ _. flat_map (λ k. rights) (filter (λ k. k == n) numbers) ≡ each (filter (λ k. k == n) numbers)) [
      | inl none ↦ ap (flat_map (λ k. rights)) none ∙ sym (ap each none ∙ flat-none (λ (right : Right). []) (λ right. refl) rights)
      | inr one ↦ ap (flat_map (λ k. rights)) one ∙ append-nil rights ∙ sym (ap each one ∙ each_itself rights)
    ]
    ∙ sym (row-flat n (λ right. map (λ number. (number, right)) numbers) rights
    ∙ flat-same (λ right. row_of n (map (λ number. (number, right)) numbers)) (λ right. map (λ k. right) (filter (λ k. k == n) numbers)) (λ right. right_row n right numbers) rights)

shares_of_all : (lists : List (List ℕ)) (variable : ℕ) (conjuncts : List ℕ)
    → flat_map (λ right. map (λ number. (number, right)) (numbers_from (λ list. among list variable) 0 0 lists)) (to_all variable conjuncts) ≡ flat_map (shares_in lists) (to_all variable conjuncts)
shares_of_all lists variable [] = refl
shares_of_all lists variable (first ∷ rest) = ap (λ l. shares_in lists (right_to first variable) ++ l) (shares_of_all lists variable rest)

group_shares : (lists : List (List ℕ)) (n : ℕ) (group : Group)
    → row_of n (at_each (rights_in group) (numbers_from (λ list. among list group.variable) 0 0 lists)) ≡ row_of n (flat_map (shares_in lists) (rights_in group))
group_shares lists n group =
    let variable = group.variable in
    let numbers = numbers_from (λ list. among list variable) 0 0 lists in
    let are = ordered variable group.conjuncts.items in
    turned_rows (λ list. among list variable) n lists (rights_in group)
    ∙ ap (λ l. row_of n (flat_map (λ (right : Right). map (λ number. (number, right)) numbers) l)) are
    ∙ ap (row_of n) (shares_of_all lists variable (with_numbers group.conjuncts.items []))
    ∙ ap (λ l. row_of n (flat_map (shares_in lists) l)) (sym are)

-- a group more goes to all lists that hold its variable
pub spread_more : (lists : List (List ℕ)) (n : ℕ) (group : Group) (rest : List Group) (numbers : List ℕ) (old new : List NumberedGroup) (whole : List Right)
    → numbers ≡ numbers_from (λ list. among list group.variable) 0 0 lists → numbered new ≡ numbered old ++ flat_map (λ number. map (λ right. (number, right)) (rights_in group)) numbers
    → row_of n (numbered old) ++ row_of n (flat_map (shares_in lists) (all_rights (group ∷ rest))) ≡ row_of n (flat_map (shares_in lists) whole)
    → row_of n (numbered new) ++ row_of n (flat_map (shares_in lists) (all_rights rest)) ≡ row_of n (flat_map (shares_in lists) whole)
spread_more lists n group rest numbers old new whole are put same =
    let own = flat_map (shares_in lists) (rights_in group) in
    let more = flat_map (shares_in lists) (all_rights rest) in
    ap (λ l. row_of n l ++ row_of n more) put
    ∙ ap (λ l. l ++ row_of n more) (row-append n (numbered old) (at_each (rights_in group) numbers)
    ∙ ap (λ l. row_of n (numbered old) ++ l) (ap (λ k. row_of n (at_each (rights_in group) k)) are ∙ group_shares lists n group))
    ∙ append_assoc (row_of n (numbered old)) (row_of n own) (row_of n more)
    ∙ ap (λ l. row_of n (numbered old) ++ l) (sym (row-append n own more) ∙ ap (row_of n) (sym (flat-append (shares_in lists) (rights_in group) (all_rights rest))))
    ∙ same

-- .. which are the outputs of goals

numbers_mapped : (variable number : ℕ) (goals : List Node) → numbers_from (λ list. among list variable) 0 number (map outputs_of goals) ≡ numbers_from (binds_it variable) 0 number goals
numbers_mapped variable number [] = refl
numbers_mapped variable number (first ∷ rest) = ap (λ l. if nat_le 0 number && among (outputs_of first) variable then number ∷ l else l) (numbers_mapped variable (suc number) rest)

pub shares_bound : (goals : List Node) (signals : List Right) → flat_map (shares_in (map outputs_of goals)) signals ≡ flat_map (signal_shares goals) signals
shares_bound goals signals =
    flat-same (shares_in (map outputs_of goals)) (signal_shares goals) (λ right. ap (map (λ number. (number, right))) (numbers_mapped right.variable 0 goals)) signals

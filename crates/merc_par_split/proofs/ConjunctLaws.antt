-- What is found at an `&`, conjunct by conjunct.
use Rattle.std.specs.Prelude.{◌≡◌, ◌==◌, ◌≤◌, ◌<◌, ◌+◌, ◌&&◌, nat_le, not, ℕ, suc, Bool, true, false, List, [], ◌∷◌, ◌++◌, length, map, refl, if◌then◌else◌}
use Rattle.std.specs.List.{filter, flat_map}
use Rattle.std.proofs.Common.{◌∙◌, ap, sym, arith}
use Rattle.std.proofs.lemmas.Bool.Decides.{nat_tests}
use Rattle.std.proofs.lemmas.List.{append_assoc, append-nil, map-append}
use Rattle.merc_graded_tree.specs.Nodes.{Node, Nodes, nodes_of, outputs_of}
use Rattle.merc_graded_tree.specs.Variables.{among, in_node}
use Rattle.merc_rights.specs.Members.{uses_it, wait_shares, consumers_behind, waits_at}
use Rattle.merc_rights.specs.Waits.{rights_of, fresh, moves}
use Rattle.merc_rights.specs.Rights.{right_to, used_in, users}
use Rattle.merc_rights.specs.Rows.{row_of, numbers_from, each_from}
use Rattle.merc_par_split.specs.Sites.{consumers}
use Rattle.merc_rights.specs.declared.rights.Awaited.{Awaited}
use Rattle.merc_rights.proofs.FlatLaws.{row-flat, flat-same, flat-append, flat-none, row-at}
use Rattle.merc_rights.proofs.Indexes.{row-append}
use Rattle.merc_par_split.proofs.ShareLaws.{le-none, flat-those, flat-map-those}

-- what each item gives, in rows

pub row-each : {A X : Type 0} (number start : ℕ) (f : ℕ → A → List (ℕ × X)) (list : List A) → row_of number (each_from f start list) ≡ each_from (λ n a. row_of number (f n a)) start list
row-each number start f [] = refl
row-each number start f (first ∷ rest) = row-append number (f start first) (each_from f (suc start) rest) ∙ ap (λ r. row_of number (f start first) ++ r) (row-each number (suc start) f rest)

pub each-append : {A X : Type 0} (f : ℕ → A → List X) (start : ℕ) (one other : List A) → each_from f start (one ++ other) ≡ each_from f start one ++ each_from f (start + length one) other
each-append f start [] other = let e : start ≡ start + 0 = omega arith in ap (λ n. each_from f n other) e
each-append f start (first ∷ rest) other =
    let e : suc start + length rest ≡ start + suc (length rest) = omega arith in
    ap (λ r. f start first ++ r) (each-append f (suc start) rest other ∙ ap (λ n. each_from f (suc start) rest ++ each_from f n other) e)
    ∙ sym (append_assoc (f start first) (each_from f (suc start) rest) (each_from f (start + suc (length rest)) other))

pub each-before : {A X : Type 0} (f : ℕ → A → List X) (g : A → List X) (number : ℕ) (is : (n : ℕ) (a : A) → n < number → f n a ≡ g a) (start : ℕ) (list : List A)
    → start + length list ≤ number → each_from f start list ≡ flat_map g list
each-before f g number is start [] within = refl
each-before f g number is start (first ∷ rest) within =
    ap (λ r. r ++ each_from f (suc start) rest) (is start first (omega (arith, within))) ∙ ap (λ r. g first ++ r) (each-before f g number is (suc start) rest (omega (arith, within)))

pub each-behind : {A X : Type 0} (f : ℕ → A → List X) (number : ℕ) (is : (n : ℕ) (a : A) → number ≤ n → f n a ≡ []) (start : ℕ) (list : List A) → number ≤ start → each_from f start list ≡ []
each-behind f number is start [] past = refl
each-behind f number is start (first ∷ rest) past =
    ap (λ r. r ++ each_from f (suc start) rest) (is start first past) ∙ each-behind f number is (suc start) rest (omega (arith, past))

-- conjuncts that use a variable

pub users-from : (variable from number : ℕ) (goals : List Node) → from ≤ number → map suc (numbers_from (uses_it variable) from number goals) ≡ users (suc number) (nodes_of goals) variable
users-from variable from number [] least = refl
users-from variable from number (first ∷ rest) least =
    ap (λ b. map suc (if b && in_node first variable then number ∷ numbers_from (uses_it variable) from (suc number) rest else numbers_from (uses_it variable) from (suc number) rest)) low
    ∙ by (in_node first variable) (users-from variable from (suc number) rest (omega (arith, least)))
  where
    low : nat_le from number ≡ true
    low = grind (arith, nat_tests, least)

    by : (b : Bool) → map suc (numbers_from (uses_it variable) from (suc number) rest) ≡ users (suc (suc number)) (nodes_of rest) variable
        → map suc (if b then number ∷ numbers_from (uses_it variable) from (suc number) rest else numbers_from (uses_it variable) from (suc number) rest)
        ≡ (if b then suc number ∷ users (suc (suc number)) (nodes_of rest) variable else users (suc (suc number)) (nodes_of rest) variable)
    by true more = ap (λ l. suc number ∷ l) more
    by false more = more

past-front : (such : Node → Bool) (number start : ℕ) (front : List Node) (first : Node) (rest : List Node) → start + length front ≡ number
    → numbers_from such (suc number) start (front ++ first ∷ rest) ≡ numbers_from such (suc number) (suc number) rest
past-front such number start [] first rest is =
    let e : start ≡ number = omega (arith, is) in
    let past : nat_le (suc number) start ≡ false = grind (arith, nat_tests, e) in
    ap (λ b. if b && such first then start ∷ numbers_from such (suc number) (suc start) rest else numbers_from such (suc number) (suc start) rest) past
    ∙ ap (λ n. numbers_from such (suc number) (suc n) rest) e
past-front such number start (next ∷ front) first rest is =
    let less : start < suc number = omega (arith, is) in
    let past : nat_le (suc number) start ≡ false = grind (arith, nat_tests, less) in
    ap (λ b. if b && such next then start ∷ numbers_from such (suc number) (suc start) (front ++ first ∷ rest) else numbers_from such (suc number) (suc start) (front ++ first ∷ rest)) past
    ∙ past-front such number (suc start) front first rest (omega (arith, is))

-- A conjunct stands at a number among goals.
pub record Stands (goals front : List Node) (first : Node) (rest : List Node) (number : ℕ) : Type 0 where
  pub are : goals ≡ front ++ first ∷ rest
  pub place : length front ≡ number

pub consumers_same : (goals front : List Node) (first : Node) (rest : List Node) (number : ℕ) (outputs : List ℕ) (variable : ℕ) → Stands goals front first rest number
    → consumers_behind goals outputs number variable ≡ consumers (suc (suc number)) (nodes_of rest) outputs variable
consumers_same goals front first rest number outputs variable stands =
    let place = stands.place in
    ap (λ l. l ++ (if among outputs variable then 0 ∷ [] else []))
    (ap (λ g. map suc (numbers_from (uses_it variable) (suc number) 0 g)) stands.are
    ∙ ap (map suc) (past-front (uses_it variable) number 0 front first rest (omega (arith, place)))
    ∙ users-from variable (suc number) (suc number) rest (omega arith))

-- what a conjunct waits for

module _ (goals front : List Node) (first : Node) (rest : List Node) (number : ℕ) (stands : Stands goals front first rest number) where
  from-start : 0 + length front ≡ number
  from-start = let place = stands.place in omega (arith, place)

  row-users : {Y : Type 0} (f : ℕ → Y) (variable from : ℕ)
      → row_of number (map (λ n. (n, f n)) (numbers_from (uses_it variable) from 0 goals)) ≡ (if nat_le from number && in_node first variable then f number ∷ [] else [])
  row-users f variable from =
      ap (λ g. row_of number (map (λ n. (n, f n)) (numbers_from (uses_it variable) from 0 g))) stands.are ∙ row-at f (uses_it variable) from number 0 front first rest from-start

  abbrev own : ℕ → Awaited
  own variable = fresh (right_to (suc number) variable)

  wait-by : (producer : ℕ) (list : List ℕ) → row_of number (flat_map (waits_at goals producer) list) ≡ flat_map (λ variable. if nat_le (suc producer) number && in_node first variable then own variable ∷ [] else []) list
  wait-by producer list =
      row-flat number (waits_at goals producer) list
      ∙ flat-same (λ variable. row_of number (waits_at goals producer variable)) (λ variable. if nat_le (suc producer) number && in_node first variable then own variable ∷ [] else [])
      (λ variable. row-users (λ user. fresh (right_to (suc user) variable)) variable (suc producer)) list

  found-before : (producer : ℕ) (goal : Node) → producer < number
      → row_of number (flat_map (waits_at goals producer) (outputs_of goal)) ≡ map own (filter (in_node first) (outputs_of goal))
  found-before producer goal less =
      let e : nat_le (suc producer) number ≡ true = grind (arith, nat_tests, less) in
      wait-by producer (outputs_of goal)
      ∙ ap (λ b. flat_map (λ variable. if b && in_node first variable then own variable ∷ [] else []) (outputs_of goal)) e
      ∙ flat-map-those (in_node first) own (outputs_of goal)

  found-behind : (producer : ℕ) (goal : Node) → number ≤ producer → row_of number (flat_map (waits_at goals producer) (outputs_of goal)) ≡ []
  found-behind producer goal past =
      let e : nat_le (suc producer) number ≡ false = grind (arith, nat_tests, past) in
      wait-by producer (outputs_of goal)
      ∙ ap (λ b. flat_map (λ variable. if b && in_node first variable then own variable ∷ [] else []) (outputs_of goal)) e
      ∙ flat-none (λ variable. if false && in_node first variable then own variable ∷ [] else []) (λ variable. refl) (outputs_of goal)

  filter-append : (one other : List ℕ) → filter (in_node first) (one ++ other) ≡ filter (in_node first) one ++ filter (in_node first) other
  filter-append [] other = refl
  filter-append (next ∷ one) other = ap (λ l. if in_node first next then next ∷ l else l) (filter-append one other) ∙ by (in_node first next)
    where
      by : (b : Bool) → (if b then next ∷ (filter (in_node first) one ++ filter (in_node first) other) else filter (in_node first) one ++ filter (in_node first) other)
          ≡ (if b then next ∷ filter (in_node first) one else filter (in_node first) one) ++ filter (in_node first) other
      by true = refl
      by false = refl

  all-owns : (list : List Node) → flat_map (λ goal. map own (filter (in_node first) (outputs_of goal))) list ≡ map own (filter (in_node first) (flat_map outputs_of list))
  all-owns [] = refl
  all-owns (next ∷ list) =
      ap (λ r. map own (filter (in_node first) (outputs_of next)) ++ r) (all-owns list)
      ∙ sym (map-append own (filter (in_node first) (outputs_of next)) (filter (in_node first) (flat_map outputs_of list)))
      ∙ ap (map own) (sym (filter-append (outputs_of next) (flat_map outputs_of list)))

  own-rights : (list : List ℕ) → map own (filter (in_node first) list) ≡ map fresh (used_in first (map (right_to (suc number)) list))
  own-rights [] = refl
  own-rights (next ∷ list) = by (in_node first next) (own-rights list)
    where
      by : (b : Bool) → map own (filter (in_node first) list) ≡ map fresh (used_in first (map (right_to (suc number)) list))
          → map own (if b then next ∷ filter (in_node first) list else filter (in_node first) list)
          ≡ map fresh (if b then right_to (suc number) next ∷ used_in first (map (right_to (suc number)) list) else used_in first (map (right_to (suc number)) list))
      by true more = ap (λ l. own next ∷ l) more
      by false more = more

  pub found_waits : row_of number (each_from (λ n goal. flat_map (waits_at goals n) (outputs_of goal)) 0 goals)
      ≡ map fresh (used_in first (map (right_to (suc number)) (flat_map outputs_of front)))
  found_waits =
      let gives = λ (n : ℕ) (goal : Node). row_of number (flat_map (waits_at goals n) (outputs_of goal)) in
      row-each number 0 (λ n goal. flat_map (waits_at goals n) (outputs_of goal)) goals
      ∙ ap (λ g. each_from gives 0 g) stands.are
      ∙ each-append gives 0 front (first ∷ rest)
      ∙ ap (λ r. each_from gives 0 front ++ r) (let place = stands.place in each-behind gives number found-behind (0 + length front) (first ∷ rest) (omega (arith, place)))
      ∙ append-nil (each_from gives 0 front)
      ∙ (let place = stands.place in each-before gives (λ goal. map own (filter (in_node first) (outputs_of goal))) number found-before 0 front (omega (arith, place)))
      ∙ all-owns front ∙ own-rights (flat_map outputs_of front)

  -- .. of what moves in
  pub moved_waits : (inside : List Awaited) → row_of number (flat_map (wait_shares goals) inside) ≡ filter (λ wait. in_node first wait.right.variable) inside
  moved_waits inside =
      row-flat number (wait_shares goals) inside
      ∙ flat-same (λ wait. row_of number (wait_shares goals wait)) (λ wait. if in_node first wait.right.variable then wait ∷ [] else [])
      (λ wait. row-users (λ n. wait) wait.right.variable 0 ∙ ap (λ b. if b && in_node first wait.right.variable then wait ∷ [] else []) (le-none number)) inside
      ∙ flat-those (λ wait. in_node first wait.right.variable) inside

abbrev uses_first : Node → Awaited → Bool
uses_first first wait = in_node first wait.right.variable

-- a right that moves in is not used behind
is-fresh : (b : Bool) (wait : Awaited) → (not wait.later && b) ≡ true → fresh wait.right ≡ wait
is-fresh b wait is = by wait.later refl is
  where
    by : (later : Bool) → wait.later ≡ later → (not later && b) ≡ true → fresh wait.right ≡ wait
    by true e so = absurd cc
    by false e so = ap (λ l. record { right = wait.right; later = l }) (sym e)

pub moved_fresh : (goals : Nodes) (first : Node) (waits : List Awaited)
    → filter (λ wait. in_node first wait.right.variable) (filter (moves goals) waits) ≡ map fresh (used_in first (rights_of (filter (moves goals) waits)))
moved_fresh goals first [] = refl
moved_fresh goals first (wait ∷ rest) = by (moves goals wait) refl (moved_fresh goals first rest)
  where
    one : (b : Bool) → fresh wait.right ≡ wait → filter (uses_first first) (filter (moves goals) rest) ≡ map fresh (used_in first (rights_of (filter (moves goals) rest)))
        → (if b then wait ∷ filter (uses_first first) (filter (moves goals) rest) else filter (uses_first first) (filter (moves goals) rest))
        ≡ map fresh (if b then wait.right ∷ used_in first (rights_of (filter (moves goals) rest)) else used_in first (rights_of (filter (moves goals) rest)))
    one true same more = ap (λ w. w ∷ filter (uses_first first) (filter (moves goals) rest)) (sym same) ∙ ap (λ l. fresh wait.right ∷ l) more
    one false same more = more

    by : (b : Bool) → moves goals wait ≡ b → filter (uses_first first) (filter (moves goals) rest) ≡ map fresh (used_in first (rights_of (filter (moves goals) rest)))
        → filter (uses_first first) (if b then wait ∷ filter (moves goals) rest else filter (moves goals) rest)
        ≡ map fresh (used_in first (rights_of (if b then wait ∷ filter (moves goals) rest else filter (moves goals) rest)))
    by true e more = one (in_node first wait.right.variable) (is-fresh (length (users 1 goals wait.right.variable) == 1) wait e) more
    by false e more = more

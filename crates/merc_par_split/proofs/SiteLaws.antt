-- What is found at an `&` is its site, and what its conjuncts have.
use Rattle.std.specs.Prelude.{◌≡◌, ◌==◌, ◌≤◌, ◌<◌, ◌+◌, ◌||◌, ℕ, suc, Bool, true, false, List, [], ◌∷◌, ◌++◌, length, map, refl, if◌then◌else◌}
use Rattle.std.specs.List.{filter, flat_map}
use Rattle.std.proofs.Common.{◌∙◌, ap, sym, arith}
use Rattle.std.proofs.lemmas.Bool.Decides.{nat_tests}
use Rattle.std.proofs.lemmas.List.{append_assoc, append-nil, map-append, length-append}
use Rattle.merc_graded_tree.specs.Nodes.{Node, nodes_of, outputs_of}
use Rattle.merc_rights.specs.Members.{uses_it, wait_shares, consumers_behind, cells_at, signals_at, moves_if, moves_at, move_of}
use Rattle.merc_rights.specs.Waits.{rights_of}
use Rattle.merc_rights.specs.Rights.{Right, right_to, those, with_rights, users, signals_of}
use Rattle.merc_rights.specs.Rows.{row_of, numbers_from, each_from}
use Rattle.merc_par_split.specs.Sites.{count, consumers, cells_of, are_for, signal_moves, wait_moves}
use Rattle.merc_rights.specs.declared.rights.Awaited.{Awaited}
use Rattle.merc_par_split.proofs.ShareLaws.{flat-map-those}
use Rattle.merc_rights.proofs.FlatLaws.{row-flat, flat-same, flat-none}
use Rattle.merc_par_split.proofs.ConjunctLaws.{Stands, row-each, each-append, each-behind, users-from, consumers_same}

-- rights by their variables
rights_for : (variable : ℕ) (signals : List Right) → row_of variable (map (λ right. (right.variable, right)) signals) ≡ those (λ other. other == variable) signals
rights_for variable [] = refl
rights_for variable (first ∷ rest) = ap (λ l. if first.variable == variable then first ∷ l else l) (rights_for variable rest)

moves-first : (signals : List Right) (producer variable : ℕ)
    → moves_if (those (λ other. other == variable) signals) producer variable
    ≡ (if are_for signals variable then record { variable = variable; child = suc producer; signal = true } ∷ [] else [])
moves-first [] producer variable = refl
moves-first (first ∷ rest) producer variable = by (first.variable == variable) (moves-first rest producer variable)
  where
    by : (b : Bool)
        → moves_if (those (λ other. other == variable) rest) producer variable ≡ (if are_for rest variable then record { variable = variable; child = suc producer; signal = true } ∷ [] else [])
        → moves_if (if b then first ∷ those (λ other. other == variable) rest else those (λ other. other == variable) rest) producer variable
        ≡ (if b || are_for rest variable then record { variable = variable; child = suc producer; signal = true } ∷ [] else [])
    by true more = refl
    by false more = more

row-own : {X : Type 0} (number : ℕ) (list : List X) → row_of number (map (λ x. (number, x)) list) ≡ list
row-own number [] = refl
row-own number (first ∷ rest) =
    let e : (number == number) ≡ true = grind (arith, nat_tests) in
    ap (λ b. if b then first ∷ row_of number (map (λ x. (number, x)) rest) else row_of number (map (λ x. (number, x)) rest)) e ∙ ap (λ l. first ∷ l) (row-own number rest)

row-other : {X : Type 0} (number other : ℕ) (list : List X) → (other == number) ≡ false → row_of number (map (λ x. (other, x)) list) ≡ []
row-other number other [] is = refl
row-other number other (first ∷ rest) is =
    ap (λ b. if b then first ∷ row_of number (map (λ x. (other, x)) rest) else row_of number (map (λ x. (other, x)) rest)) is ∙ row-other number other rest is

each-none : {A X : Type 0} (f : ℕ → A → List X) (number : ℕ) (is : (n : ℕ) (a : A) → n < number → f n a ≡ []) (start : ℕ) (list : List A) → start + length list ≤ number → each_from f start list ≡ []
each-none f number is start [] within = refl
each-none f number is start (first ∷ rest) within =
    ap (λ r. r ++ each_from f (suc start) rest) (is start first (omega (arith, within))) ∙ each-none f number is (suc start) rest (omega (arith, within))

module _ (goals : List Node) (outputs : List ℕ) (moved : List (ℕ × Right)) (signals : List Right)
    (by_variable : (variable : ℕ) → row_of variable moved ≡ row_of variable (map (λ right. (right.variable, right)) signals)) where
  -- what a conjunct signals
  module _ (front : List Node) (first : Node) (rest : List Node) (number : ℕ) (stands : Stands goals front first rest number) where
    signals_by : (variable : ℕ) → row_of number (signals_at goals outputs moved number variable) ≡ signals_of (suc (suc number)) (nodes_of rest) outputs signals variable
    signals_by variable =
        row-own number (with_rights (row_of variable moved) (map (λ conjunct. right_to conjunct variable) (consumers_behind goals outputs number variable)))
        ∙ ap (λ m. with_rights m (map (λ conjunct. right_to conjunct variable) (consumers_behind goals outputs number variable))) (by_variable variable ∙ rights_for variable signals)
        ∙ ap (λ l. with_rights (those (λ other. other == variable) signals) (map (λ conjunct. right_to conjunct variable) l))
        (consumers_same goals front first rest number outputs variable stands)

    abbrev gives_signals : ℕ → Node → List Right
    gives_signals n goal = row_of number (flat_map (signals_at goals outputs moved n) (outputs_of goal))

    not-others : (n : ℕ) (goal : Node) → (n == number) ≡ false → gives_signals n goal ≡ []
    not-others n goal other =
        row-flat number (signals_at goals outputs moved n) (outputs_of goal)
        ∙ flat-none (λ variable. row_of number (signals_at goals outputs moved n variable))
        (λ variable. row-other number n (with_rights (row_of variable moved) (map (λ conjunct. right_to conjunct variable) (consumers_behind goals outputs n variable))) other) (outputs_of goal)

    pub found_signals : row_of number (each_from (λ n goal. flat_map (signals_at goals outputs moved n) (outputs_of goal)) 0 goals)
        ≡ flat_map (signals_of (suc (suc number)) (nodes_of rest) outputs signals) (outputs_of first)
    found_signals =
        let place = stands.place in
        let at : 0 + length front ≡ number = omega (arith, place) in
        row-each number 0 (λ n goal. flat_map (signals_at goals outputs moved n) (outputs_of goal)) goals
        ∙ ap (λ g. each_from gives_signals 0 g) stands.are
        ∙ each-append gives_signals 0 front (first ∷ rest)
        ∙ ap (λ r. r ++ each_from gives_signals (0 + length front) (first ∷ rest)) (each-none gives_signals number (λ n goal less. not-others n goal (grind (arith, nat_tests, less))) 0 front (omega (arith, place)))
        ∙ ap (λ n. each_from gives_signals n (first ∷ rest)) at
        ∙ ap (λ r. gives_signals number first ++ r) (each-behind gives_signals (suc number) (λ n goal past. not-others n goal (grind (arith, nat_tests, past))) (suc number) rest (omega arith))
        ∙ append-nil (gives_signals number first)
        ∙ row-flat number (signals_at goals outputs moved number) (outputs_of first)
        ∙ flat-same (λ variable. row_of number (signals_at goals outputs moved number variable)) (signals_of (suc (suc number)) (nodes_of rest) outputs signals) signals_by (outputs_of first)

  further : (front : List Node) (first : Node) (rest : List Node) → goals ≡ front ++ first ∷ rest → goals ≡ (front ++ first ∷ []) ++ rest
  further front first rest are = are ∙ sym (append_assoc front (first ∷ []) rest)

  longer : (front : List Node) (first : Node) (number : ℕ) → length front ≡ number → length (front ++ first ∷ []) ≡ suc number
  longer front first number place = let e = length-append front (first ∷ []) in omega (arith, e, place)

  pub found_cells : (front rest : List Node) (number : ℕ) → goals ≡ front ++ rest → length front ≡ number
      → each_from (λ n goal. flat_map (cells_at goals outputs n) (outputs_of goal)) number rest ≡ cells_of (suc number) outputs (nodes_of rest)
  found_cells front [] number are place = refl
  found_cells front (first ∷ rest) number are place =
      ap (λ r. r ++ each_from (λ n goal. flat_map (cells_at goals outputs n) (outputs_of goal)) (suc number) rest)
      (flat-same (cells_at goals outputs number)
      (λ variable. map (λ consumer. record { variable = variable; producer = suc number; consumer = consumer }) (consumers (suc (suc number)) (nodes_of rest) outputs variable))
      (λ variable. ap (map (λ consumer. record { variable = variable; producer = suc number; consumer = consumer }))
      (consumers_same goals front first rest number outputs variable (record { are = are; place = place }))) (outputs_of first))
      ∙ ap (λ r. flat_map (λ variable. map (λ consumer. record { variable = variable; producer = suc number; consumer = consumer }) (consumers (suc (suc number)) (nodes_of rest) outputs variable)) (outputs_of first) ++ r)
      (found_cells (front ++ first ∷ []) rest (suc number) (further front first rest are) (longer front first number place))

  pub found_moves : (rest : List Node) (number : ℕ)
      → each_from (λ n goal. flat_map (moves_at moved n) (outputs_of goal)) number rest ≡ signal_moves (are_for signals) (suc number) (nodes_of rest)
  found_moves [] number = refl
  found_moves (first ∷ rest) number =
      ap (λ r. r ++ each_from (λ n goal. flat_map (moves_at moved n) (outputs_of goal)) (suc number) rest)
      (flat-same (moves_at moved number) (λ variable. if are_for signals variable then record { variable = variable; child = suc number; signal = true } ∷ [] else [])
      (λ variable. ap (λ r. moves_if r number variable) (by_variable variable ∙ rights_for variable signals) ∙ moves-first signals number variable) (outputs_of first)
      ∙ flat-map-those (are_for signals) (λ variable. record { variable = variable; child = suc number; signal = true }) (outputs_of first))
      ∙ ap (λ r. map (λ variable. record { variable = variable; child = suc number; signal = true }) (filter (are_for signals) (outputs_of first)) ++ r) (found_moves rest (suc number))

-- rights to wait that move in
move-numbers : (wait : Awaited) (numbers : List ℕ)
    → map move_of (map (λ number. (number, wait)) numbers) ≡ map (λ conjunct. record { variable = wait.right.variable; child = conjunct; signal = false }) (map suc numbers)
move-numbers wait [] = refl
move-numbers wait (first ∷ rest) = ap (λ l. record { variable = wait.right.variable; child = suc first; signal = false } ∷ l) (move-numbers wait rest)

pub moved_moves : (goals : List Node) (inside : List Awaited) → map move_of (flat_map (wait_shares goals) inside) ≡ wait_moves (rights_of inside) (nodes_of goals)
moved_moves goals [] = refl
moved_moves goals (first ∷ rest) =
    map-append move_of (wait_shares goals first) (flat_map (wait_shares goals) rest)
    ∙ ap (λ r. r ++ map move_of (flat_map (wait_shares goals) rest))
    (move-numbers first (numbers_from (uses_it first.right.variable) 0 0 goals)
    ∙ ap (map (λ conjunct. record { variable = first.right.variable; child = conjunct; signal = false })) (users-from first.right.variable 0 0 goals (omega arith)))
    ∙ ap (λ r. map (λ conjunct. record { variable = first.right.variable; child = conjunct; signal = false }) (users 1 (nodes_of goals) first.right.variable) ++ r) (moved_moves goals rest)

pub count-nodes : (goals : List Node) → length goals ≡ count (nodes_of goals)
count-nodes [] = refl
count-nodes (first ∷ rest) = ap suc (count-nodes rest)

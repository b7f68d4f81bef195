-- Which rights go to the first of goals that are joined, and which to the goals behind it.
use Rattle.std.specs.Prelude.{◌≡◌, ◌==◌, ◌+◌, ◌&&◌, ◌||◌, nat_le, not, ℕ, suc, Bool, true, false, List, [], ◌∷◌, ◌++◌, length, map, Option, Some, None, refl, if◌then◌else◌}
use Rattle.std.specs.List.{filter, flat_map}
use Rattle.std.specs.Option.{is_some, option_map}
use Rattle.std.proofs.Common.{◌∙◌, ap, sym, arith}
use Rattle.std.proofs.lemmas.Bool.Decides.{nat_tests}
use Rattle.merc_graded_tree.specs.Nodes.{Node, Nodes, no_nodes, more_nodes, Arms, no_arms, more_arms, list_of, outputs_of}
use Rattle.merc_graded_tree.specs.Roots.{bodies_of}
use Rattle.merc_graded_tree.specs.Variables.{among, in_node, in_nodes}
use Rattle.merc_rights.specs.Members.{uses_it, binds_it, spared, turn_wait_at, turn_wait, turn_signal_at, turn_signal, wait_shares, signal_shares, pass_shares}
use Rattle.merc_par_split.specs.Outcomes.{turned, is_passed, outcome, in_turn, armed, alone}
use Rattle.merc_rights.specs.Waits.{rights_of, those_waits, others}
use Rattle.merc_rights.specs.Rights.{Right, bound_in, unbound_in, ahead_of}
use Rattle.merc_rights.specs.Rows.{row_of, next_from, numbers_from}
use Rattle.merc_par_split.specs.Tasks.{shares_of, shared}
use Rattle.merc_rights.specs.declared.rights.Awaited.{Awaited}
use Rattle.merc_rights.specs.declared.sites.SiteInfo.{SiteInfo}
use Rattle.merc_rights.proofs.Indexes.{row-append}

same-more : (one other : ℕ) → (suc one == suc other) ≡ (one == other)
same-more one other = by (one == other) refl
  where
    by : (b : Bool) → (one == other) ≡ b → (suc one == suc other) ≡ b
    by true e = let m : one ≡ other = grind (arith, nat_tests, e) in grind (arith, nat_tests, m)
    by false e = grind (arith, nat_tests, e)

past-none : (number : ℕ) → (suc number == 0) ≡ false
past-none number = grind (arith, nat_tests)

none-past : (number : ℕ) → (0 == suc number) ≡ false
none-past number = grind (arith, nat_tests)

le-more : (one other : ℕ) → nat_le (suc one) (suc other) ≡ nat_le one other
le-more one other = by (nat_le one other) refl
  where
    by : (b : Bool) → nat_le one other ≡ b → nat_le (suc one) (suc other) ≡ b
    by true e = grind (arith, nat_tests, e)
    by false e = grind (arith, nat_tests, e)

past-le : (number : ℕ) → nat_le (suc number) 0 ≡ false
past-le number = grind (arith, nat_tests)

pub le-none : (number : ℕ) → nat_le 0 number ≡ true
le-none number = grind (arith, nat_tests)

le-one : (number : ℕ) → nat_le 1 (suc number) ≡ true
le-one number = grind (arith, nat_tests)

-- items by numbers that are one more
abbrev pub up : {X : Type 0} → List (ℕ × X) → List (ℕ × X)
up [] = []
up (first ∷ rest) = (suc first.0, first.1) ∷ up rest

module _ {X : Type 0} where
  abbrev pub at_first : List X → List (ℕ × X)
  at_first list = map (λ x. (0, x)) list

  row-up-zero : (list : List (ℕ × X)) → row_of 0 (up list) ≡ []
  row-up-zero [] = refl
  row-up-zero (first ∷ rest) = ap (λ b. if b then first.1 ∷ row_of 0 (up rest) else row_of 0 (up rest)) (past-none first.0) ∙ row-up-zero rest

  row-up : (number : ℕ) (list : List (ℕ × X)) → row_of (suc number) (up list) ≡ row_of number list
  row-up number [] = refl
  row-up number (first ∷ rest) =
      ap (λ b. if b then first.1 ∷ row_of (suc number) (up rest) else row_of (suc number) (up rest)) (same-more first.0 number)
      ∙ ap (λ r. if first.0 == number then first.1 ∷ r else r) (row-up number rest)

  row-first : (list : List X) → row_of 0 (at_first list) ≡ list
  row-first [] = refl
  row-first (first ∷ rest) = ap (λ r. first ∷ r) (row-first rest)

  row-behind : (number : ℕ) (list : List X) → row_of (suc number) (at_first list) ≡ []
  row-behind number [] = refl
  row-behind number (first ∷ rest) = ap (λ b. if b then first ∷ row_of (suc number) (at_first rest) else row_of (suc number) (at_first rest)) (none-past number) ∙ row-behind number rest

  append-none : (list : List X) → list ++ [] ≡ list
  append-none [] = refl
  append-none (first ∷ rest) = ap (λ r. first ∷ r) (append-none rest)

  module _ {A : Type 0} (gives : A → List (ℕ × X)) (here : A → List X) (past : A → List (ℕ × X)) (is : (a : A) → gives a ≡ at_first (here a) ++ up (past a)) where
    pub rows-here : (list : List A) → row_of 0 (flat_map gives list) ≡ flat_map here list
    rows-here [] = refl
    rows-here (first ∷ rest) =
        row-append 0 (gives first) (flat_map gives rest)
        ∙ ap (λ g. row_of 0 g ++ row_of 0 (flat_map gives rest)) (is first)
        ∙ ap (λ r. r ++ row_of 0 (flat_map gives rest))
        (row-append 0 (at_first (here first)) (up (past first)) ∙ ap (λ r. r ++ row_of 0 (up (past first))) (row-first (here first))
        ∙ ap (λ r. here first ++ r) (row-up-zero (past first)) ∙ append-none (here first))
        ∙ ap (λ r. here first ++ r) (rows-here rest)

    pub rows-past : (number : ℕ) (list : List A) → row_of (suc number) (flat_map gives list) ≡ row_of number (flat_map past list)
    rows-past number [] = refl
    rows-past number (first ∷ rest) =
        row-append (suc number) (gives first) (flat_map gives rest)
        ∙ ap (λ g. row_of (suc number) g ++ row_of (suc number) (flat_map gives rest)) (is first)
        ∙ ap (λ r. r ++ row_of (suc number) (flat_map gives rest))
        (row-append (suc number) (at_first (here first)) (up (past first)) ∙ ap (λ r. r ++ row_of (suc number) (up (past first))) (row-behind number (here first)) ∙ row-up number (past first))
        ∙ ap (λ r. row_of number (past first) ++ r) (rows-past number rest)
        ∙ sym (row-append number (past first) (flat_map past rest))

-- lists of what passes a test
module _ {A : Type 0} (p : A → Bool) where
  pub flat-those : (list : List A) → flat_map (λ a. if p a then a ∷ [] else []) list ≡ filter p list
  flat-those [] = refl
  flat-those (first ∷ rest) = by (p first) ∙ ap (λ r. if p first then first ∷ r else r) (flat-those rest)
    where
      by : (b : Bool) → (if b then first ∷ [] else []) ++ flat_map (λ a. if p a then a ∷ [] else []) rest
          ≡ (if b then first ∷ flat_map (λ a. if p a then a ∷ [] else []) rest else flat_map (λ a. if p a then a ∷ [] else []) rest)
      by true = refl
      by false = refl

  pub flat-map-those : {X : Type 0} (f : A → X) (list : List A) → flat_map (λ a. if p a then f a ∷ [] else []) list ≡ map f (filter p list)
  flat-map-those f [] = refl
  flat-map-those f (first ∷ rest) = ap (λ r. (if p first then f first ∷ [] else []) ++ r) (flat-map-those f rest) ∙ by (p first)
    where
      by : (b : Bool) → (if b then f first ∷ [] else []) ++ map f (filter p rest) ≡ map f (if b then first ∷ filter p rest else filter p rest)
      by true = refl
      by false = refl

  pub flat-others : {X : Type 0} (f : A → List X) (list : List A) → flat_map (λ a. if p a then [] else f a) list ≡ flat_map f (filter (λ a. not (p a)) list)
  flat-others f [] = refl
  flat-others f (first ∷ rest) = ap (λ r. (if p first then [] else f first) ++ r) (flat-others f rest) ∙ by (p first)
    where
      by : (b : Bool) → (if b then [] else f first) ++ flat_map f (filter (λ a. not (p a)) rest)
          ≡ flat_map f (if not b then first ∷ filter (λ a. not (p a)) rest else filter (λ a. not (p a)) rest)
      by true = refl
      by false = refl

-- numbers that are one more
module _ {X : Type 0} (such : X → Bool) where
  pub next-up : (from number : ℕ) (items : List X) → next_from such (suc from) (suc number) items ≡ option_map suc (next_from such from number items)
  next-up from number [] = refl
  next-up from number (first ∷ rest) =
      ap (λ b. if b && such first then Some (suc number) else next_from such (suc from) (suc (suc number)) rest) (le-more from number)
      ∙ ap (λ o. if nat_le from number && such first then Some (suc number) else o) (next-up from (suc number) rest) ∙ by (nat_le from number && such first)
    where
      by : (b : Bool) → (if b then Some (suc number) else option_map suc (next_from such from (suc number) rest)) ≡ option_map suc (if b then Some number else next_from such from (suc number) rest)
      by true = refl
      by false = refl

  next-low : (number : ℕ) (items : List X) → next_from such 0 (suc number) items ≡ next_from such 1 (suc number) items
  next-low number [] = refl
  next-low number (first ∷ rest) =
      ap (λ b. if b && such first then Some (suc number) else next_from such 0 (suc (suc number)) rest) (le-none (suc number) ∙ sym (le-one number))
      ∙ ap (λ o. if nat_le 1 (suc number) && such first then Some (suc number) else o) (next-low (suc number) rest)

  pub next-first : (first : X) (rest : List X) → next_from such 0 0 (first ∷ rest) ≡ (if such first then Some 0 else option_map suc (next_from such 0 0 rest))
  next-first first rest = ap (λ o. if such first then Some 0 else o) (next-low 0 rest ∙ next-up 0 0 rest)

  numbers-up : (from number : ℕ) (items : List X) → numbers_from such (suc from) (suc number) items ≡ map suc (numbers_from such from number items)
  numbers-up from number [] = refl
  numbers-up from number (first ∷ rest) =
      ap (λ b. if b && such first then suc number ∷ numbers_from such (suc from) (suc (suc number)) rest else numbers_from such (suc from) (suc (suc number)) rest) (le-more from number)
      ∙ ap (λ l. if nat_le from number && such first then suc number ∷ l else l) (numbers-up from (suc number) rest) ∙ by (nat_le from number && such first)
    where
      by : (b : Bool) → (if b then suc number ∷ map suc (numbers_from such from (suc number) rest) else map suc (numbers_from such from (suc number) rest))
          ≡ map suc (if b then number ∷ numbers_from such from (suc number) rest else numbers_from such from (suc number) rest)
      by true = refl
      by false = refl

  numbers-low : (number : ℕ) (items : List X) → numbers_from such 0 (suc number) items ≡ numbers_from such 1 (suc number) items
  numbers-low number [] = refl
  numbers-low number (first ∷ rest) =
      ap (λ b. if b && such first then suc number ∷ numbers_from such 0 (suc (suc number)) rest else numbers_from such 0 (suc (suc number)) rest) (le-none (suc number) ∙ sym (le-one number))
      ∙ ap (λ l. if nat_le 1 (suc number) && such first then suc number ∷ l else l) (numbers-low (suc number) rest)

  module _ {Y : Type 0} (y : Y) where
    up-numbers : (numbers : List ℕ) → map (λ number. (number, y)) (map suc numbers) ≡ up (map (λ number. (number, y)) numbers)
    up-numbers [] = refl
    up-numbers (first ∷ rest) = ap (λ r. (suc first, y) ∷ r) (up-numbers rest)

    pub shares-first : (first : X) (rest : List X) → map (λ number. (number, y)) (numbers_from such 0 0 (first ∷ rest))
        ≡ at_first (if such first then y ∷ [] else []) ++ up (map (λ number. (number, y)) (numbers_from such 0 0 rest))
    shares-first first rest =
        ap (λ l. map (λ number. (number, y)) (if such first then 0 ∷ l else l)) (numbers-low 0 rest ∙ numbers-up 0 0 rest) ∙ by (such first)
      where
        by : (b : Bool) → map (λ number. (number, y)) (if b then 0 ∷ map suc (numbers_from such 0 0 rest) else map suc (numbers_from such 0 0 rest))
            ≡ at_first (if b then y ∷ [] else []) ++ up (map (λ number. (number, y)) (numbers_from such 0 0 rest))
        by true = ap (λ l. (0, y) ∷ l) (up-numbers (numbers_from such 0 0 rest))
        by false = up-numbers (numbers_from such 0 0 rest)

-- each construct's rights, by the first goal

pub wait-first : (first : Node) (rest : List Node) (wait : Awaited)
    → wait_shares (first ∷ rest) wait ≡ at_first (if in_node first wait.right.variable then wait ∷ [] else []) ++ up (wait_shares rest wait)
wait-first first rest wait = shares-first (uses_it wait.right.variable) wait first rest

pub signal-first : (first : Node) (rest : List Node) (right : Right)
    → signal_shares (first ∷ rest) right ≡ at_first (if among (outputs_of first) right.variable then right ∷ [] else []) ++ up (signal_shares rest right)
signal-first first rest right = shares-first (binds_it right.variable) right first rest

pub pass-first : (first : Node) (rest : List Node) (wait : Awaited)
    → pass_shares (first ∷ rest) wait ≡ at_first (if is_passed first wait then wait.right ∷ [] else []) ++ up (pass_shares rest wait)
pass-first first rest wait = by wait.later
  where
    v : ℕ
    v = wait.right.variable

    by : (b : Bool) → (if b then map (λ number. (number, wait.right)) (numbers_from (spared v) 0 0 (first ∷ rest)) else [])
        ≡ at_first (if b && not (in_node first v) then wait.right ∷ [] else []) ++ up (if b then map (λ number. (number, wait.right)) (numbers_from (spared v) 0 0 rest) else [])
    by true = shares-first (spared v) wait.right first rest
    by false = refl

some-up : (o : Option ℕ) → is_some (option_map suc o) ≡ is_some o
some-up None = refl
some-up (Some number) = refl

pub some-uses : (variable number : ℕ) (goals : Nodes) → is_some (next_from (uses_it variable) 0 number (list_of goals)) ≡ in_nodes goals variable
some-uses variable number no_nodes = refl
some-uses variable number (more_nodes first rest) =
    ap (λ b. is_some (if b && in_node first variable then Some number else next_from (uses_it variable) 0 (suc number) (list_of rest))) (le-none number)
    ∙ by (in_node first variable) (some-uses variable (suc number) rest)
  where
    by : (b : Bool) → is_some (next_from (uses_it variable) 0 (suc number) (list_of rest)) ≡ in_nodes rest variable
        → is_some (if b then Some number else next_from (uses_it variable) 0 (suc number) (list_of rest)) ≡ (b || in_nodes rest variable)
    by true more = refl
    by false more = more

or-is : (one other : Bool) → (if one then true else other) ≡ (one || other)
or-is true other = refl
or-is false other = refl

turn-first-at : (first : Node) (rest : Nodes) (wait : Awaited)
    → turn_wait_at (first ∷ list_of rest) wait (Some 0) ≡ at_first (turned rest wait ∷ [])
turn-first-at first rest wait =
    ap (λ b. (0, record { right = wait.right; later = if wait.later then true else b }) ∷ [])
    (ap is_some (next-up (uses_it wait.right.variable) 0 0 (list_of rest)) ∙ some-up (next_from (uses_it wait.right.variable) 0 0 (list_of rest)) ∙ some-uses wait.right.variable 0 rest)
    ∙ ap (λ b. (0, record { right = wait.right; later = b }) ∷ []) (or-is wait.later (in_nodes rest wait.right.variable))

turn-past-at : (first : Node) (rest : List Node) (wait : Awaited) (o : Option ℕ)
    → turn_wait_at (first ∷ rest) wait (option_map suc o) ≡ up (turn_wait_at rest wait o)
turn-past-at first rest wait None = refl
turn-past-at first rest wait (Some user) =
    ap (λ b. (suc user, record { right = wait.right; later = if wait.later then true else b }) ∷ [])
    (ap (λ b. is_some (if b && in_node first wait.right.variable then Some 0 else next_from (uses_it wait.right.variable) (suc (suc user)) 1 rest)) (past-le (suc user))
    ∙ ap is_some (next-up (uses_it wait.right.variable) (suc user) 0 rest) ∙ some-up (next_from (uses_it wait.right.variable) (suc user) 0 rest))

pub turn-first : (first : Node) (rest : Nodes) (wait : Awaited)
    → turn_wait (first ∷ list_of rest) wait
    ≡ at_first (if in_node first wait.right.variable then turned rest wait ∷ [] else []) ++ up (if in_node first wait.right.variable then [] else turn_wait (list_of rest) wait)
turn-first first rest wait = ap (λ o. turn_wait_at (first ∷ list_of rest) wait o) (next-first (uses_it wait.right.variable) first (list_of rest)) ∙ by (in_node first wait.right.variable)
  where
    by : (b : Bool) → turn_wait_at (first ∷ list_of rest) wait (if b then Some 0 else option_map suc (next_from (uses_it wait.right.variable) 0 0 (list_of rest)))
        ≡ at_first (if b then turned rest wait ∷ [] else []) ++ up (if b then [] else turn_wait (list_of rest) wait)
    by true = turn-first-at first rest wait
    by false = turn-past-at first (list_of rest) wait (next_from (uses_it wait.right.variable) 0 0 (list_of rest))

pub turn-signal-first : (first : Node) (rest : List Node) (right : Right)
    → turn_signal (first ∷ rest) right
    ≡ at_first (if among (outputs_of first) right.variable then right ∷ [] else []) ++ up (if among (outputs_of first) right.variable then [] else turn_signal rest right)
turn-signal-first first rest right = ap (λ o. turn_signal_at right o) (next-first (binds_it right.variable) first rest) ∙ by (among (outputs_of first) right.variable) (next_from (binds_it right.variable) 0 0 rest)
  where
    by : (b : Bool) (o : Option ℕ) → turn_signal_at right (if b then Some 0 else option_map suc o) ≡ at_first (if b then right ∷ [] else []) ++ up (if b then [] else turn_signal_at right o)
    by true o = refl
    by false None = refl
    by false (Some number) = refl

-- what comes of the goals

pub outcome-same : (site : ℕ) (waits waits' : List Awaited) (signals signals' : List Right) (goal : Node) → waits ≡ waits' → signals ≡ signals' → outcome site waits signals goal ≡ outcome site waits' signals' goal
outcome-same site waits waits' signals signals' goal same equal = ap (λ w. outcome site w signals goal) same ∙ ap (λ s. outcome site waits' s goal) equal

-- the first of the rows
row-here : {X : Type 0} (number : ℕ) (rows : List (ℕ × X)) (list : List X) → row_of (number + 0) rows ≡ list → row_of number rows ≡ list
row-here number rows list is = let e : number ≡ number + 0 = omega arith in ap (λ n. row_of n rows) e ∙ is

row-next : {X : Type 0} (number k : ℕ) (rows : List (ℕ × X)) (list : List X) → row_of (number + suc k) rows ≡ list → row_of (suc number + k) rows ≡ list
row-next number k rows list is = let e : suc number + k ≡ number + suc k = omega arith in ap (λ n. row_of n rows) e ∙ is

pub turns : (goals : Nodes) (number site : ℕ) (rows : List (ℕ × Awaited)) (signal_rows : List (ℕ × Right)) (waits : List Awaited) (signals : List Right)
    → ((k : ℕ) → row_of (number + k) rows ≡ row_of k (flat_map (turn_wait (list_of goals)) waits))
    → ((k : ℕ) → row_of (number + k) signal_rows ≡ row_of k (flat_map (turn_signal (list_of goals)) signals))
    → shared site (shares_of number (list_of goals) rows signal_rows []) ≡ (list_of (in_turn site waits signals goals).0, (in_turn site waits signals goals).1)
turns no_nodes number site rows signal_rows waits signals are equal = refl
turns (more_nodes first rest) number site rows signal_rows waits signals are equal =
    let uses = λ (wait : Awaited). in_node first wait.right.variable in
    let binds = λ (right : Right). among (outputs_of first) right.variable in
    let here = λ (wait : Awaited). if uses wait then turned rest wait ∷ [] else [] in
    let past = λ (wait : Awaited). if uses wait then [] else turn_wait (list_of rest) wait in
    let signal_here = λ (right : Right). if binds right then right ∷ [] else [] in
    let signal_past = λ (right : Right). if binds right then [] else turn_signal (list_of rest) right in
    let gives = turn_wait (first ∷ list_of rest) in
    let signal_gives = turn_signal (first ∷ list_of rest) in
    let one = outcome site (map (turned rest) (those_waits (in_node first) waits)) (bound_in first signals) first in
    ap (λ o. (o.0 ∷ (shared (site + length o.1) (shares_of (suc number) (list_of rest) rows signal_rows [])).0, o.1 ++ (shared (site + length o.1) (shares_of (suc number) (list_of rest) rows signal_rows [])).1))
    (outcome-same site (row_of number rows) (map (turned rest) (those_waits (in_node first) waits)) (row_of number signal_rows) (bound_in first signals) first
    (row-here number rows (map (turned rest) (those_waits (in_node first) waits)) (are 0 ∙ rows-here gives here past (λ a. turn-first first rest a) waits ∙ flat-map-those uses (turned rest) waits))
    (row-here number signal_rows (bound_in first signals) (equal 0 ∙ rows-here signal_gives signal_here signal_past (λ a. turn-signal-first first (list_of rest) a) signals ∙ flat-those binds signals)))
    ∙ ap (λ m. (one.0 ∷ m.0, one.1 ++ m.1))
    (turns rest (suc number) (site + length one.1) rows signal_rows (those_waits (others (in_node first)) waits) (unbound_in first signals)
    (λ k. row-next number k rows (row_of k (flat_map (turn_wait (list_of rest)) (those_waits (others (in_node first)) waits)))
    (are (suc k) ∙ rows-past gives here past (λ a. turn-first first rest a) k waits ∙ ap (λ l. row_of k l) (flat-others uses (turn_wait (list_of rest)) waits)))
    (λ k. row-next number k signal_rows (row_of k (flat_map (turn_signal (list_of rest)) (unbound_in first signals)))
    (equal (suc k) ∙ rows-past signal_gives signal_here signal_past (λ a. turn-signal-first first (list_of rest) a) k signals ∙ ap (λ l. row_of k l) (flat-others binds (turn_signal (list_of rest)) signals))))

-- goals of which one is chosen
abbrev pub chosen : ℕ → List Awaited → List Right → List Node → List Node × List SiteInfo
chosen site waits signals [] = ([], [])
chosen site waits signals (first ∷ rest) =
    let one = outcome site (those_waits (in_node first) waits) (bound_in first signals) first in
    let more = chosen (site + length one.1) waits signals rest in
    (ahead_of one.0 (rights_of (filter (is_passed first) waits)) ∷ more.0, one.1 ++ more.1)

pub choices : (goals : List Node) (number site : ℕ) (rows : List (ℕ × Awaited)) (signal_rows passed : List (ℕ × Right)) (waits : List Awaited) (signals : List Right)
    → ((k : ℕ) → row_of (number + k) rows ≡ row_of k (flat_map (wait_shares goals) waits))
    → ((k : ℕ) → row_of (number + k) signal_rows ≡ row_of k (flat_map (signal_shares goals) signals))
    → ((k : ℕ) → row_of (number + k) passed ≡ row_of k (flat_map (pass_shares goals) waits))
    → shared site (shares_of number goals rows signal_rows passed) ≡ chosen site waits signals goals
choices [] number site rows signal_rows passed waits signals are equal pass = refl
choices (first ∷ rest) number site rows signal_rows passed waits signals are equal pass =
    let uses = λ (wait : Awaited). in_node first wait.right.variable in
    let binds = λ (right : Right). among (outputs_of first) right.variable in
    let here = λ (wait : Awaited). if uses wait then wait ∷ [] else [] in
    let signal_here = λ (right : Right). if binds right then right ∷ [] else [] in
    let pass_here = λ (wait : Awaited). if is_passed first wait then wait.right ∷ [] else [] in
    let one = outcome site (those_waits (in_node first) waits) (bound_in first signals) first in
    let behind = rights_of (filter (is_passed first) waits) in
    let more = λ (n : ℕ). shared n (shares_of (suc number) rest rows signal_rows passed) in
    ap (λ o. (ahead_of o.0 (row_of number passed) ∷ (more (site + length o.1)).0, o.1 ++ (more (site + length o.1)).1))
    (outcome-same site (row_of number rows) (those_waits (in_node first) waits) (row_of number signal_rows) (bound_in first signals) first
    (row-here number rows (those_waits (in_node first) waits) (are 0 ∙ rows-here (wait_shares (first ∷ rest)) here (wait_shares rest) (λ a. wait-first first rest a) waits ∙ flat-those uses waits))
    (row-here number signal_rows (bound_in first signals)
    (equal 0 ∙ rows-here (signal_shares (first ∷ rest)) signal_here (signal_shares rest) (λ a. signal-first first rest a) signals ∙ flat-those binds signals)))
    ∙ ap (λ p. (ahead_of one.0 p ∷ (more (site + length one.1)).0, one.1 ++ (more (site + length one.1)).1))
    (row-here number passed behind
    (pass 0 ∙ rows-here (pass_shares (first ∷ rest)) pass_here (pass_shares rest) (λ a. pass-first first rest a) waits ∙ flat-map-those (is_passed first) (λ (wait : Awaited). wait.right) waits))
    ∙ ap (λ m. (ahead_of one.0 behind ∷ m.0, one.1 ++ m.1))
    (choices rest (suc number) (site + length one.1) rows signal_rows passed waits signals
    (λ k. row-next number k rows (row_of k (flat_map (wait_shares rest) waits)) (are (suc k) ∙ rows-past (wait_shares (first ∷ rest)) here (wait_shares rest) (λ a. wait-first first rest a) k waits))
    (λ k. row-next number k signal_rows (row_of k (flat_map (signal_shares rest) signals))
    (equal (suc k) ∙ rows-past (signal_shares (first ∷ rest)) signal_here (signal_shares rest) (λ a. signal-first first rest a) k signals))
    (λ k. row-next number k passed (row_of k (flat_map (pass_shares rest) waits)) (pass (suc k) ∙ rows-past (pass_shares (first ∷ rest)) pass_here (pass_shares rest) (λ a. pass-first first rest a) k waits)))

pub armed-bodies : (site : ℕ) (waits : List Awaited) (signals : List Right) (arms : Arms)
    → (bodies_of (armed site waits signals arms).0, (armed site waits signals arms).1) ≡ chosen site waits signals (bodies_of arms)
armed-bodies site waits signals no_arms = refl
armed-bodies site waits signals (more_arms symbol body rest) =
    let one = outcome site (those_waits (in_node body) waits) (bound_in body signals) body in
    ap (λ m. (ahead_of one.0 (rights_of (filter (is_passed body) waits)) ∷ m.0, one.1 ++ m.1)) (armed-bodies (site + length one.1) waits signals rest)

-- goals that have no rights
pub alones : (goals : Nodes) (number site : ℕ) → shared site (shares_of number (list_of goals) [] [] []) ≡ (list_of (alone site goals).0, (alone site goals).1)
alones no_nodes number site = refl
alones (more_nodes first rest) number site =
    let one = outcome site [] [] first in
    ap (λ m. (one.0 ∷ m.0, one.1 ++ m.1)) (alones rest (suc number) (site + length one.1))

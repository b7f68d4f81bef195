-- What is found at an `&`.
use Rattle.std.specs.Prelude.{◌≡◌, ◌≤◌, ◌<◌, ◌+◌, ◌==◌, ◌&&◌, nat_le, ℕ, suc, Bool, true, false, List, [], ◌∷◌, ◌++◌, length, map, take, slice_index_or, Option, Some, None, refl, if◌then◌else◌}
use Rattle.std.specs.List.{find, flat_map}
use Rattle.std.specs.Option.{is_some}
use Rattle.std.proofs.Common.{◌∙◌, ap, sym, subst, arith}
use Rattle.std.proofs.lemmas.Bool.Decides.{nat_tests}
use Rattle.std.proofs.lemmas.List.{append-nil, append_assoc, length-take-le, take_all, take_more}
use Rattle.merc_graded_tree.specs.Nodes.{Node, outputs_of}
use Rattle.merc_graded_tree.specs.Variables.{among}
use Rattle.merc_rights.specs.Groups.{in_order, numbered_with, has_some, AreHeld}
use Rattle.merc_rights.specs.Members.{uses_it, users_behind, consumers_behind, cells_at, waits_at, signals_at, moves_if, moves_at, move_of, Adds, AddsVariable, AddsVariables, FindsWith}
use Rattle.merc_rights.specs.Waits.{fresh}
use Rattle.merc_rights.specs.Rights.{Right, right_to, with_rights}
use Rattle.merc_rights.specs.Rows.{row_of, each_from, numbers_from, Tells}
use Rattle.merc_rights.specs.declared.conjuncts.Found.{Found}
use Rattle.merc_rights.specs.declared.groups.NumberedGroup.{NumberedGroup}
use Rattle.merc_rights.specs.declared.rights.Awaited.{Awaited}
use Rattle.merc_rights.specs.declared.sites.CellInfo.{CellInfo}
use Rattle.merc_rights.specs.declared.sites.Moved.{Moved}
use Rattle.merc_rights.proofs.GroupLaws.{NotSooner, Up, is_ordered}
use Rattle.merc_rights.proofs.JoinLaws.{group_more}
use Rattle.merc_rights.proofs.Indexes.{next_is, flat_more, map_more, each-push}

-- the numbers of those who wait are in order

abbrev last_if : Bool → List ℕ
last_if b = if b then 0 ∷ [] else []

module _ {X : Type 0} (such : X → Bool) (from : ℕ) (behind : Bool) where
  abbrev conjuncts_from : ℕ → List X → List ℕ
  conjuncts_from number items = map suc (numbers_from such from number items) ++ last_if behind

  end_not_sooner : (conjunct : ℕ) (b : Bool) → NotSooner conjunct (last_if b)
  end_not_sooner conjunct true = (refl, tt)
  end_not_sooner conjunct false = tt

  end_rises : (b : Bool) → Up (last_if b)
  end_rises true = (tt, tt)
  end_rises false = tt

  not_sooner_from : (conjunct number : ℕ) (items : List X) → conjunct ≤ number → NotSooner (suc conjunct) (conjuncts_from number items)
  not_sooner_from conjunct number [] less = end_not_sooner (suc conjunct) behind
  not_sooner_from conjunct number (first ∷ rest) less = by (nat_le from number && such first) (not_sooner_from conjunct (suc number) rest (omega (arith, less)))
    where
      by : (b : Bool) → NotSooner (suc conjunct) (conjuncts_from (suc number) rest)
          → NotSooner (suc conjunct) (map suc (if b then number ∷ numbers_from such from (suc number) rest else numbers_from such from (suc number) rest) ++ last_if behind)
      by true more = (grind (arith, nat_tests, less), more)
      by false more = more

  rise_from : (number : ℕ) (items : List X) → Up (conjuncts_from number items)
  rise_from number [] = end_rises behind
  rise_from number (first ∷ rest) = by (nat_le from number && such first) (rise_from (suc number) rest)
    where
      by : (b : Bool) → Up (conjuncts_from (suc number) rest)
          → Up (map suc (if b then number ∷ numbers_from such from (suc number) rest else numbers_from such from (suc number) rest) ++ last_if behind)
      by true more = (not_sooner_from number (suc number) rest (omega arith), more)
      by false more = more

consumers_ordered : (goals : List Node) (variable child : ℕ) (behind : Bool) (users consumers : List ℕ) → users ≡ numbers_from (uses_it variable) child 0 goals
    → consumers ≡ map suc users ++ (if behind then 0 ∷ [] else []) → in_order variable consumers ≡ map (λ conjunct. right_to conjunct variable) consumers
consumers_ordered goals variable child behind users consumers used are =
    let up : Up consumers = subst Up (sym (are ∙ ap (λ l. map suc l ++ (if behind then 0 ∷ [] else [])) used)) (rise_from (uses_it variable) child behind 0 goals) in
    sym (is_ordered variable consumers consumers up (λ n. refl))

-- whether a variable is among those that a set has

only_one : (b : Bool) → is_some {T = ℕ} (if b then Some 0 else None) ≡ b
only_one true = refl
only_one false = refl

pub is_told : (variable : ℕ) (pairs : List (ℕ × ℕ)) (list : List ℕ) (next : Option ℕ) (behind : Bool) → Tells pairs (list ∷ []) → next ≡ find (nat_le 0) (row_of variable pairs) → behind ≡ is_some next
    → behind ≡ among list variable
is_told variable pairs list next behind tells is some = some ∙ ap is_some (next_is variable 0 pairs (list ∷ []) next tells is) ∙ only_one (among list variable)

-- what the variables give

module _ (goals : List Node) (list : List ℕ) (producer variable child : ℕ) (behind : Bool) (users consumers : List ℕ) (next : child ≡ producer + 1)
    (used : users ≡ numbers_from (uses_it variable) child 0 goals) (are : consumers ≡ map suc users ++ (if behind then 0 ∷ [] else [])) (told : behind ≡ among list variable) where
  is_next : child ≡ suc producer
  is_next = omega (arith, next)

  users_are : users ≡ users_behind goals producer variable
  users_are = used ∙ ap (λ n. numbers_from (uses_it variable) n 0 goals) is_next

  consumers_are : consumers ≡ consumers_behind goals list producer variable
  consumers_are = are ∙ ap (λ l. map suc l ++ (if behind then 0 ∷ [] else [])) users_are ∙ ap (λ b. map suc (users_behind goals producer variable) ++ (if b then 0 ∷ [] else [])) told

  pub cells_put : (old new : List CellInfo) → new ≡ old ++ map (λ consumer. record { variable = variable; producer = child; consumer = consumer }) consumers → new ≡ old ++ cells_at goals list producer variable
  cells_put old new put =
      put ∙ ap (λ n. old ++ map (λ consumer. record { variable = variable; producer = n; consumer = consumer }) consumers) is_next
      ∙ ap (λ l. old ++ map (λ consumer. record { variable = variable; producer = suc producer; consumer = consumer }) l) consumers_are

  pub waits_put : (old new : List (ℕ × Awaited)) → new ≡ old ++ map (λ user. (user, fresh (right_to (suc user) variable))) users → new ≡ old ++ waits_at goals producer variable
  waits_put old new put = put ∙ ap (λ l. old ++ map (λ user. (user, fresh (right_to (suc user) variable))) l) users_are

  pub signals_put : (moved : List (ℕ × Right)) (old new : List NumberedGroup) (item : NumberedGroup) → new ≡ old ++ item ∷ [] → item.number ≡ producer → item.group.variable ≡ variable
      → item.group.conjuncts.items ≡ consumers → numbered_with moved new ≡ numbered_with moved old ++ signals_at goals list moved producer variable
  signals_put moved old new item put of for_it to =
      group_more moved old new item put
      ∙ ap (λ n. numbered_with moved old ++ map (λ right. (n, right)) (with_rights (row_of item.group.variable moved) (in_order item.group.variable item.group.conjuncts.items))) of
      ∙ ap (λ v. numbered_with moved old ++ map (λ right. (producer, right)) (with_rights (row_of v moved) (in_order v item.group.conjuncts.items))) for_it
      ∙ ap (λ l. numbered_with moved old ++ map (λ right. (producer, right)) (with_rights (row_of variable moved) (in_order variable l))) to
      ∙ ap (λ l. numbered_with moved old ++ map (λ right. (producer, right)) (with_rights (row_of variable moved) l))
      (consumers_ordered goals variable child behind users consumers used are ∙ ap (map (λ conjunct. right_to conjunct variable)) consumers_are)

  held_move : (moved : List Right) → (if has_some moved then record { variable = variable; child = child; signal = true } ∷ [] else []) ≡ moves_if moved producer variable
  held_move [] = refl
  held_move (first ∷ rest) = ap (λ n. record { variable = variable; child = n; signal = true } ∷ []) is_next

  pub moves_put : (moved : List (ℕ × Right)) (variables : List ℕ) (is_held : Bool) (old new : List Moved) → AreHeld variables moved → is_held ≡ among variables variable
      → new ≡ old ++ (if is_held then record { variable = variable; child = child; signal = true } ∷ [] else []) → new ≡ old ++ moves_at moved producer variable
  moves_put moved variables is_held old new held is put =
      put ∙ ap (λ b. old ++ (if b then record { variable = variable; child = child; signal = true } ∷ [] else [])) (is ∙ held variable) ∙ ap (λ l. old ++ l) (held_move (row_of variable moved))

-- one variable more of those that a conjunct binds, and all

module _ (goals : List Node) (list : List ℕ) (moved : List (ℕ × Right)) (producer : ℕ) (items : List ℕ) (index : ℕ) (start old : Found) where
  pub variable_more : (item : ℕ) (new : Found) → item ≡ slice_index_or items index item → index < length items → AddsVariables goals list moved producer (take index items) start old
      → AddsVariable goals list moved producer item old new → AddsVariables goals list moved producer (take (index + 1) items) start new
  variable_more item new is less so put = record {
    more_cells = flat_more (cells_at goals list producer) items index item start.cells.items old.cells.items new.cells.items is less so.more_cells put.more_cells;
    more_moves = flat_more (moves_at moved producer) items index item start.moves.items old.moves.items new.moves.items is less so.more_moves put.more_moves;
    more_waits = flat_more (waits_at goals producer) items index item start.waits.items old.waits.items new.waits.items is less so.more_waits put.more_waits;
    more_signals = flat_more (signals_at goals list moved producer) items index item (numbered_with moved start.signals.items) (numbered_with moved old.signals.items) (numbered_with moved new.signals.items) is less so.more_signals put.more_signals;
  }

  pub all_variables : (all : List ℕ) → items ≡ all → length items ≤ index → AddsVariables goals list moved producer (take index items) start old → AddsVariables goals list moved producer all start old
  all_variables all are least so = subst (λ l. AddsVariables goals list moved producer l start old) (take_all index items least ∙ are) so

-- one right more of those that move in, and all

one_more : {X : Type 0} (items : List X) (index : ℕ) (item : X) → item ≡ slice_index_or items index item → index < length items → take (index + 1) items ≡ take index items ++ item ∷ []
one_more items index item is less = take_more items index item less ∙ ap (λ x. take index items ++ x ∷ []) (sym is)

waits_more : {X : Type 0} (items : List X) (index : ℕ) (item : X) (start old new : List X) → item ≡ slice_index_or items index item → index < length items
    → old ≡ start ++ take index items → new ≡ old ++ item ∷ [] → new ≡ start ++ take (index + 1) items
waits_more items index item start old new is less so put =
    put ∙ ap (λ l. l ++ item ∷ []) so ∙ append_assoc start (take index items) (item ∷ []) ∙ ap (λ l. start ++ l) (sym (one_more items index item is less))

pub moved_more : (items : List (ℕ × Awaited)) (index : ℕ) (item : ℕ × Awaited) (start old new : Found) → item ≡ slice_index_or items index item → index < length items
    → Adds [] start old [] (map move_of (take index items)) (take index items) [] → Adds [] old new [] (move_of item ∷ []) (item ∷ []) []
    → Adds [] start new [] (map move_of (take (index + 1) items)) (take (index + 1) items) []
moved_more items index item start old new is less so put = record {
  more_cells = put.more_cells ∙ append-nil old.cells.items ∙ so.more_cells;
  more_moves = map_more move_of items index item start.moves.items old.moves.items new.moves.items is less so.more_moves put.more_moves;
  more_waits = waits_more items index item start.waits.items old.waits.items new.waits.items is less so.more_waits put.more_waits;
  more_signals = put.more_signals ∙ append-nil (numbered_with [] old.signals.items) ∙ so.more_signals;
}

pub all_moved : (items all : List (ℕ × Awaited)) (index : ℕ) (start old : Found) → items ≡ all → length items ≤ index → Adds [] start old [] (map move_of (take index items)) (take index items) []
    → Adds [] start old [] (map move_of all) all []
all_moved items all index start old are least so = subst (λ l. Adds [] start old [] (map move_of l) l []) (take_all index items least ∙ are) so

-- one conjunct more of those that bind variables, and all

some_of : {X : Type 0} (items : List X) → 0 < length items → X
some_of [] some = absurd (omega (arith, some))
some_of (first ∷ rest) some = first

each_more : {X Y : Type 0} (f : ℕ → X → List Y) (items : List X) (number : ℕ) (d : X) (old new : List Y) → number < length items → old ≡ each_from f 0 (take number items)
    → new ≡ old ++ f number (slice_index_or items number d) → new ≡ each_from f 0 (take (number + 1) items)
each_more f items number d old new less so put =
    let count : length (take number items) ≡ number = length-take-le number items (omega (arith, less)) in
    let e : number ≡ 0 + length (take number items) = omega (arith, count) in
    put ∙ ap (λ l. l ++ f number (slice_index_or items number d)) so
    ∙ ap (λ n. each_from f 0 (take number items) ++ f n (slice_index_or items number d)) e
    ∙ sym (each-push f 0 (take number items) (slice_index_or items number d))
    ∙ ap (each_from f 0) (sym (take_more items number d less))

module _ (goals : List Node) (list : List ℕ) (moved : List (ℕ × Right)) where
  abbrev all_cells : ℕ → Node → List CellInfo
  all_cells n goal = flat_map (cells_at goals list n) (outputs_of goal)

  abbrev all_moves : ℕ → Node → List Moved
  all_moves n goal = flat_map (moves_at moved n) (outputs_of goal)

  abbrev all_waits : ℕ → Node → List (ℕ × Awaited)
  all_waits n goal = flat_map (waits_at goals n) (outputs_of goal)

  abbrev all_signals : ℕ → Node → List (ℕ × Right)
  all_signals n goal = flat_map (signals_at goals list moved n) (outputs_of goal)

  pub record FoundUpTo (number : ℕ) (found : Found) : Type 0 where
    pub are_cells : found.cells.items ≡ each_from (λ n goal. flat_map (cells_at goals list n) (outputs_of goal)) 0 (take number goals)
    pub are_moves : found.moves.items ≡ each_from (λ n goal. flat_map (moves_at moved n) (outputs_of goal)) 0 (take number goals)
    pub are_waits : found.waits.items ≡ each_from (λ n goal. flat_map (waits_at goals n) (outputs_of goal)) 0 (take number goals)
    pub are_signals : numbered_with moved found.signals.items ≡ each_from (λ n goal. flat_map (signals_at goals list moved n) (outputs_of goal)) 0 (take number goals)

  pub producer_more : (number : ℕ) (old new : Found) → number < length goals → FoundUpTo number old
      → ((d : Node) → AddsVariables goals list moved number (outputs_of (slice_index_or goals number d)) old new) → FoundUpTo (number + 1) new
  producer_more number old new less so puts =
      let d = some_of goals (omega (arith, less)) in
      let put = puts d in record {
        are_cells = each_more all_cells goals number d old.cells.items new.cells.items less so.are_cells put.more_cells;
        are_moves = each_more all_moves goals number d old.moves.items new.moves.items less so.are_moves put.more_moves;
        are_waits = each_more all_waits goals number d old.waits.items new.waits.items less so.are_waits put.more_waits;
        are_signals = each_more all_signals goals number d (numbered_with moved old.signals.items) (numbered_with moved new.signals.items) less so.are_signals put.more_signals;
      }

  pub all_found : (number : ℕ) (found : Found) → length goals ≤ number → FoundUpTo number found → FindsWith goals list moved found
  all_found number found least so =
      let all = take_all number goals least in record {
        are_cells = so.are_cells ∙ ap (each_from all_cells 0) all;
        are_moves = so.are_moves ∙ ap (each_from all_moves 0) all;
        are_waits = so.are_waits ∙ ap (each_from all_waits 0) all;
        are_signals = so.are_signals ∙ ap (each_from all_signals 0) all;
      }

-- What is dealt out at a fork: own rights, those that move and those that stay, as a branch's course has them and as a board deals them.
use Rattle.std.proofs.Common.{◌≡◌, ℕ, suc, ◌⊎◌, inl, inr, Bool, true, false, not, if◌then◌else◌, List, [], ◌∷◌, ◌++◌, map, filter, flat_map, refl, ap, sym, subst, ◌∙◌, arith}
use Rattle.std.specs.Prelude.{Option, Some, None, ◌==◌, ◌&&◌, nat_eq}
use Rattle.merc_script.specs.declared.cells.Move.{Move}
use Rattle.merc_core.specs.Rights.{has, is_kind, moved, moved_to}
use Rattle.merc_core.specs.WellFormed.{AreDistinct}
use Rattle.merc_rights.specs.declared.sites.CellInfo.{CellInfo}
use Rattle.merc_rights.specs.declared.sites.Moved.{Moved}
use Rattle.merc_board.specs.declared.fork.SharedCell.{SharedCell}
use Rattle.merc_board.specs.declared.fork.Handover.{Handover}
use Rattle.merc_board.specs.Rights.{Due, Owed, Rights, own_waits, own_signals, child_for, goes_to, stays, waits_into, signals_into, waits_kept, signals_kept}
use Rattle.merc_plan.specs.Branch.{HeldWait, HeldSignal, Hold, NamedCell, Gift, gift_at, value_given, names}
use Rattle.merc_plan.specs.Hold.{named, own_waits as plan_waits, own_signals as plan_signals, child_for as plan_child, moves_if, moves_from, goes_to as plan_goes, waits_into as plan_waits_into, signals_into as plan_signals_into, stays as plan_stays, waits_kept as plan_waits_kept, signals_kept as plan_signals_kept}
use Rattle.merc_plan.proofs.Sets.{clash, rest_in, front_or, or_in, absent, in_left, in_right, in_either}
use Rattle.merc_plan.proofs.Givers.{named_low}
use Rattle.merc_plan.proofs.Judging.{makes, uses}
use Rattle.merc_branch_laws.specs.Dealing.{moves_of}
use Rattle.merc_branch_laws.proofs.Parts.{Part, part_filter, filter_part, has_part, distinct_part, pick_part, made_same}
use Rattle.merc_branch_laws.proofs.Finding.{due_cells, owed_cells, due_of, dues, owed_of, owing}

pub map_both : {A B : Type 0} (f : A → B) (xs ys : List A) → map f (xs ++ ys) ≡ map f xs ++ map f ys
map_both f [] ys = refl
map_both {A} {B} f (x ∷ xs) ys = ap (λ (l : List B). f x ∷ l) (map_both f xs ys)

picked_both : {A B : Type 0} (f : A → B) (test : A → Bool) (xs ys : List A) → map f (filter test (xs ++ ys)) ≡ map f (filter test xs) ++ map f (filter test ys)
picked_both f test [] ys = refl
picked_both {A} {B} f test (x ∷ xs) ys = on (test x) (picked_both f test xs ys)
  where
    on : (b : Bool) → map f (filter test (xs ++ ys)) ≡ map f (filter test xs) ++ map f (filter test ys)
        → map f (if b then x ∷ filter test (xs ++ ys) else filter test (xs ++ ys)) ≡ map f (if b then x ∷ filter test xs else filter test xs) ++ map f (filter test ys)
    on true e = ap (λ (l : List B). f x ∷ l) e
    on false e = e

-- Own rights, by names.

abbrev pub shared : List CellInfo → List SharedCell
shared infos = map (λ (one : CellInfo). record { variable = one.variable; producer = one.producer; consumer = one.consumer }) infos

abbrev pub names_from : ℕ → List CellInfo → List ℕ
names_from next infos = names (named next infos)

pub own_dues : (k : ℕ) (gifts : List Gift) (next : ℕ) (infos : List CellInfo) → dues (plan_waits k gifts (named next infos)) ≡ own_waits k (shared infos) (names_from next infos)
own_dues k gifts next [] = refl
own_dues k gifts next (info ∷ infos) = on (info.consumer == k) (own_dues k gifts (suc next) infos)
  where
    right : NamedCell → HeldWait
    right one = record { variable = one.variable; cell = one.cell; value = value_given (gift_at one.cell gifts) }

    this : NamedCell
    this = record { cell = next; variable = info.variable; producer = info.producer; consumer = info.consumer }

    others : List NamedCell
    others = filter (λ (one : NamedCell). one.consumer == k) (named (suc next) infos)

    on : (b : Bool) → dues (plan_waits k gifts (named (suc next) infos)) ≡ own_waits k (shared infos) (names_from (suc next) infos)
        → dues (map right (if b then this ∷ others else others))
        ≡ (if b then record { variable = info.variable; cell = next } ∷ own_waits k (shared infos) (names_from (suc next) infos) else own_waits k (shared infos) (names_from (suc next) infos))
    on true e = ap (λ (l : List Due). record { variable = info.variable; cell = next } ∷ l) e
    on false e = e

pub own_owed : (k next : ℕ) (infos : List CellInfo) → owing (plan_signals k (named next infos)) ≡ own_signals k (shared infos) (names_from next infos)
own_owed k next [] = refl
own_owed k next (info ∷ infos) = on (info.producer == k) (own_owed k (suc next) infos)
  where
    right : NamedCell → HeldSignal
    right one = record { variable = one.variable; conjunct = one.consumer; cell = one.cell }

    this : NamedCell
    this = record { cell = next; variable = info.variable; producer = info.producer; consumer = info.consumer }

    others : List NamedCell
    others = filter (λ (one : NamedCell). one.producer == k) (named (suc next) infos)

    on : (b : Bool) → owing (plan_signals k (named (suc next) infos)) ≡ own_signals k (shared infos) (names_from (suc next) infos)
        → owing (map right (if b then this ∷ others else others))
        ≡ (if b then record { variable = info.variable; consumer = info.consumer; cell = next } ∷ own_signals k (shared infos) (names_from (suc next) infos) else own_signals k (shared infos) (names_from (suc next) infos))
    on true e = ap (λ (l : List Owed). record { variable = info.variable; consumer = info.consumer; cell = next } ∷ l) e
    on false e = e

-- their cells are those of the conjunct
pub own_uses : (k next : ℕ) (infos : List CellInfo) → due_cells (own_waits k (shared infos) (names_from next infos)) ≡ uses k (named next infos)
own_uses k next [] = refl
own_uses k next (info ∷ infos) = on (info.consumer == k) (own_uses k (suc next) infos)
  where
    this : NamedCell
    this = record { cell = next; variable = info.variable; producer = info.producer; consumer = info.consumer }

    others : List NamedCell
    others = filter (λ (one : NamedCell). nat_eq one.consumer k) (named (suc next) infos)

    on : (b : Bool) → due_cells (own_waits k (shared infos) (names_from (suc next) infos)) ≡ uses k (named (suc next) infos)
        → due_cells (if b then record { variable = info.variable; cell = next } ∷ own_waits k (shared infos) (names_from (suc next) infos) else own_waits k (shared infos) (names_from (suc next) infos))
        ≡ names (if b then this ∷ others else others)
    on true e = ap (λ (l : List ℕ). next ∷ l) e
    on false e = e

pub own_makes : (k next : ℕ) (infos : List CellInfo) → owed_cells (own_signals k (shared infos) (names_from next infos)) ≡ makes k (named next infos)
own_makes k next [] = refl
own_makes k next (info ∷ infos) = on (info.producer == k) (own_makes k (suc next) infos)
  where
    this : NamedCell
    this = record { cell = next; variable = info.variable; producer = info.producer; consumer = info.consumer }

    others : List NamedCell
    others = filter (λ (one : NamedCell). nat_eq one.producer k) (named (suc next) infos)

    on : (b : Bool) → owed_cells (own_signals k (shared infos) (names_from (suc next) infos)) ≡ makes k (named (suc next) infos)
        → owed_cells (if b then record { variable = info.variable; consumer = info.consumer; cell = next } ∷ own_signals k (shared infos) (names_from (suc next) infos) else own_signals k (shared infos) (names_from (suc next) infos))
        ≡ names (if b then this ∷ others else others)
    on true e = ap (λ (l : List ℕ). next ∷ l) e
    on false e = e

-- names are distinct, from a number on and below another one
pub names_distinct : (next : ℕ) (infos : List CellInfo) → AreDistinct (names_from next infos)
names_distinct next [] = tt
names_distinct next (info ∷ infos) =
    (absent next (names_from (suc next) infos) (λ h. let l = named_low (suc next) infos next h in absurd (omega (arith, l))), names_distinct (suc next) infos)

pub used_named : (k c next : ℕ) (infos : List CellInfo) → has c (uses k (named next infos)) ≡ true → has c (names_from next infos) ≡ true
used_named k c next infos h =
    has_part (λ (one : NamedCell). one.cell) c (filter (λ (one : NamedCell). nat_eq one.consumer k) (named next infos)) (named next infos) (filter_part (λ (one : NamedCell). nat_eq one.consumer k) (named next infos)) h

pub made_named : (k c next : ℕ) (infos : List CellInfo) → has c (makes k (named next infos)) ≡ true → has c (names_from next infos) ≡ true
made_named k c next infos h =
    has_part (λ (one : NamedCell). one.cell) c (filter (λ (one : NamedCell). nat_eq one.producer k) (named next infos)) (named next infos) (filter_part (λ (one : NamedCell). nat_eq one.producer k) (named next infos)) h

pub uses_distinct : (k next : ℕ) (infos : List CellInfo) → AreDistinct (uses k (named next infos))
uses_distinct k next infos =
    distinct_part (λ (one : NamedCell). one.cell) (filter (λ (one : NamedCell). nat_eq one.consumer k) (named next infos)) (named next infos) (filter_part (λ (one : NamedCell). nat_eq one.consumer k) (named next infos)) (names_distinct next infos)

pub makes_distinct : (k next : ℕ) (infos : List CellInfo) → AreDistinct (makes k (named next infos))
makes_distinct k next infos =
    distinct_part (λ (one : NamedCell). one.cell) (filter (λ (one : NamedCell). nat_eq one.producer k) (named next infos)) (named next infos) (filter_part (λ (one : NamedCell). nat_eq one.producer k) (named next infos)) (names_distinct next infos)

-- Rights that move.

abbrev pub handed : List Moved → List Handover
handed moves = map (λ (one : Moved). record { variable = one.variable; child = one.child; signal = one.signal }) moves

pub child_same : (signal : Bool) (x : ℕ) (moves : List Moved) → child_for signal x (handed moves) ≡ plan_child signal x moves
child_same signal x [] = refl
child_same true x (move ∷ moves) = ap (λ (o : Option ℕ). if (move.variable == x) && move.signal then Some move.child else o) (child_same true x moves)
child_same false x (move ∷ moves) = ap (λ (o : Option ℕ). if (move.variable == x) && not move.signal then Some move.child else o) (child_same false x moves)

goes_same : (k : ℕ) (o : Option ℕ) → goes_to k o ≡ plan_goes k o
goes_same k None = refl
goes_same k (Some child) = refl

stays_same : (o : Option ℕ) → stays o ≡ plan_stays o
stays_same None = refl
stays_same (Some child) = refl

module _ (moves : List Moved) where
  pub into_dues : (k : ℕ) (ws : List HeldWait) → dues (plan_waits_into k moves ws) ≡ waits_into k (handed moves) (dues ws)
  into_dues k [] = refl
  into_dues k (w ∷ ws) =
      on (plan_goes k (plan_child false w.variable moves)) (into_dues k ws)
      ∙ ap (λ (b : Bool). if b then due_of w ∷ waits_into k (handed moves) (dues ws) else waits_into k (handed moves) (dues ws))
      (sym (goes_same k (plan_child false w.variable moves)) ∙ ap (goes_to k) (sym (child_same false w.variable moves)))
    where
      on : (b : Bool) → dues (plan_waits_into k moves ws) ≡ waits_into k (handed moves) (dues ws)
          → dues (if b then w ∷ plan_waits_into k moves ws else plan_waits_into k moves ws) ≡ (if b then due_of w ∷ waits_into k (handed moves) (dues ws) else waits_into k (handed moves) (dues ws))
      on true e = ap (λ (l : List Due). due_of w ∷ l) e
      on false e = e

  pub into_owed : (k : ℕ) (ss : List HeldSignal) → owing (plan_signals_into k moves ss) ≡ signals_into k (handed moves) (owing ss)
  into_owed k [] = refl
  into_owed k (w ∷ ws) =
      on (plan_goes k (plan_child true w.variable moves)) (into_owed k ws)
      ∙ ap (λ (b : Bool). if b then owed_of w ∷ signals_into k (handed moves) (owing ws) else signals_into k (handed moves) (owing ws))
      (sym (goes_same k (plan_child true w.variable moves)) ∙ ap (goes_to k) (sym (child_same true w.variable moves)))
    where
      on : (b : Bool) → owing (plan_signals_into k moves ws) ≡ signals_into k (handed moves) (owing ws)
          → owing (if b then w ∷ plan_signals_into k moves ws else plan_signals_into k moves ws) ≡ (if b then owed_of w ∷ signals_into k (handed moves) (owing ws) else signals_into k (handed moves) (owing ws))
      on true e = ap (λ (l : List Owed). owed_of w ∷ l) e
      on false e = e

  pub kept_dues : (ws : List HeldWait) → dues (plan_waits_kept moves ws) ≡ waits_kept (handed moves) (dues ws)
  kept_dues [] = refl
  kept_dues (w ∷ ws) =
      on (plan_stays (plan_child false w.variable moves)) (kept_dues ws)
      ∙ ap (λ (b : Bool). if b then due_of w ∷ waits_kept (handed moves) (dues ws) else waits_kept (handed moves) (dues ws))
      (sym (stays_same (plan_child false w.variable moves)) ∙ ap stays (sym (child_same false w.variable moves)))
    where
      on : (b : Bool) → dues (plan_waits_kept moves ws) ≡ waits_kept (handed moves) (dues ws)
          → dues (if b then w ∷ plan_waits_kept moves ws else plan_waits_kept moves ws) ≡ (if b then due_of w ∷ waits_kept (handed moves) (dues ws) else waits_kept (handed moves) (dues ws))
      on true e = ap (λ (l : List Due). due_of w ∷ l) e
      on false e = e

  pub kept_owed : (ss : List HeldSignal) → owing (plan_signals_kept moves ss) ≡ signals_kept (handed moves) (owing ss)
  kept_owed [] = refl
  kept_owed (w ∷ ws) =
      on (plan_stays (plan_child true w.variable moves)) (kept_owed ws)
      ∙ ap (λ (b : Bool). if b then owed_of w ∷ signals_kept (handed moves) (owing ws) else signals_kept (handed moves) (owing ws))
      (sym (stays_same (plan_child true w.variable moves)) ∙ ap stays (sym (child_same true w.variable moves)))
    where
      on : (b : Bool) → owing (plan_signals_kept moves ws) ≡ signals_kept (handed moves) (owing ws)
          → owing (if b then w ∷ plan_signals_kept moves ws else plan_signals_kept moves ws) ≡ (if b then owed_of w ∷ signals_kept (handed moves) (owing ws) else signals_kept (handed moves) (owing ws))
      on true e = ap (λ (l : List Owed). owed_of w ∷ l) e
      on false e = e

  wait_moves : (ws : List HeldWait) → flat_map (λ (right : HeldWait). moves_if false right.cell (plan_child false right.variable moves)) ws
      ≡ flat_map (λ (right : Due). moves_if false right.cell (child_for false right.variable (handed moves))) (dues ws)
  wait_moves [] = refl
  wait_moves (w ∷ ws) =
      ap (λ (l : List Move). moves_if false w.cell (plan_child false w.variable moves) ++ l) (wait_moves ws)
      ∙ ap (λ (o : Option ℕ). moves_if false w.cell o ++ flat_map (λ (right : Due). moves_if false right.cell (child_for false right.variable (handed moves))) (dues ws)) (sym (child_same false w.variable moves))

  signal_moves : (ss : List HeldSignal) → flat_map (λ (right : HeldSignal). moves_if true right.cell (plan_child true right.variable moves)) ss
      ≡ flat_map (λ (right : Owed). moves_if true right.cell (child_for true right.variable (handed moves))) (owing ss)
  signal_moves [] = refl
  signal_moves (w ∷ ws) =
      ap (λ (l : List Move). moves_if true w.cell (plan_child true w.variable moves) ++ l) (signal_moves ws)
      ∙ ap (λ (o : Option ℕ). moves_if true w.cell o ++ flat_map (λ (right : Owed). moves_if true right.cell (child_for true right.variable (handed moves))) (owing ws)) (sym (child_same true w.variable moves))

  -- a branch's rights, as a board has them
  pub moves_same : (hold : Hold) → moves_from moves hold ≡ moves_of (handed moves) (record { waits = dues hold.waits; signals = owing hold.signals })
  moves_same hold =
      ap (λ (l : List Move). l ++ flat_map (λ (right : HeldWait). moves_if false right.cell (plan_child false right.variable moves)) hold.waits) (signal_moves hold.signals)
      ∙ ap (λ (l : List Move). flat_map (λ (right : Owed). moves_if true right.cell (child_for true right.variable (handed moves))) (owing hold.signals) ++ l) (wait_moves hold.waits)

-- What handovers make of rights of one kind.
module _ {A : Type 0} (variable cell : A → ℕ) (kind : Bool) (moves : List Handover) where
  abbrev pub made : A → List Move
  made right = moves_if kind (cell right) (child_for kind (variable right) moves)

  abbrev pub moving : A → Bool
  moving right = not (stays (child_for kind (variable right) moves))

  abbrev pub entering : ℕ → A → Bool
  entering k right = goes_to k (child_for kind (variable right) moves)

  abbrev pub staying : A → Bool
  staying right = stays (child_for kind (variable right) moves)

  is_so : (c child : ℕ) → is_kind kind (record { cell = c; child = child; signal = kind }) ≡ true
  is_so c child = on kind
    where
      on : (b : Bool) → is_kind b (record { cell = c; child = child; signal = b }) ≡ true
      on true = refl
      on false = refl

  pub entered : (k c : ℕ) (xs : List A) → has c (moved_to k kind (flat_map made xs)) ≡ true → has c (map cell (filter (entering k) xs)) ≡ true
  entered k c [] h = h
  entered k c (x ∷ xs) h = on (child_for kind (variable x) moves) h (λ i. entered k c xs i)
    where
      on : (o : Option ℕ) → has c (moved_to k kind (moves_if kind (cell x) o ++ flat_map made xs)) ≡ true → (has c (moved_to k kind (flat_map made xs)) ≡ true → has c (map cell (filter (entering k) xs)) ≡ true)
          → has c (map cell (if goes_to k o then x ∷ filter (entering k) xs else filter (entering k) xs)) ≡ true
      on None h rec = rec h
      on (Some child) h rec = further (nat_eq child k) (is_kind kind (record { cell = cell x; child = child; signal = kind })) (is_so (cell x) child) h
        where
          rights : List Move
          rights = filter (λ (one : Move). nat_eq one.child k && is_kind kind one) (flat_map made xs)

          further : (b s : Bool) → s ≡ true → has c (map (λ (one : Move). one.cell) (if b && s then record { cell = cell x; child = child; signal = kind } ∷ rights else rights)) ≡ true
              → has c (map cell (if b then x ∷ filter (entering k) xs else filter (entering k) xs)) ≡ true
          further true true e h = last (front_or c (cell x) (moved_to k kind (flat_map made xs)) h)
            where
              last : (c ≡ cell x) ⊎ (has c (moved_to k kind (flat_map made xs)) ≡ true) → has c (cell x ∷ map cell (filter (entering k) xs)) ≡ true
              last (inl q) = or_in c (cell x) (map cell (filter (entering k) xs)) (inl q)
              last (inr q) = rest_in c (cell x) (map cell (filter (entering k) xs)) (rec q)
          further true false e h = absurd (cc (e))
          further false s e h = rec h

  pub moving_moved : (c : ℕ) (xs : List A) → has c (map cell (filter moving xs)) ≡ true → has c (moved kind (flat_map made xs)) ≡ true
  moving_moved c [] h = h
  moving_moved c (x ∷ xs) h = on (child_for kind (variable x) moves) h (λ i. moving_moved c xs i)
    where
      on : (o : Option ℕ) → has c (map cell (if not (stays o) then x ∷ filter moving xs else filter moving xs)) ≡ true → (has c (map cell (filter moving xs)) ≡ true → has c (moved kind (flat_map made xs)) ≡ true)
          → has c (moved kind (moves_if kind (cell x) o ++ flat_map made xs)) ≡ true
      on None h rec = rec h
      on (Some child) h rec = further (is_kind kind (record { cell = cell x; child = child; signal = kind })) (is_so (cell x) child)
        where
          rights : List Move
          rights = filter (is_kind kind) (flat_map made xs)

          further : (s : Bool) → s ≡ true → has c (map (λ (one : Move). one.cell) (if s then record { cell = cell x; child = child; signal = kind } ∷ rights else rights)) ≡ true
          further false e = absurd (cc (e))
          further true e = last (front_or c (cell x) (map cell (filter moving xs)) h)
            where
              last : (c ≡ cell x) ⊎ (has c (map cell (filter moving xs)) ≡ true) → has c (cell x ∷ moved kind (flat_map made xs)) ≡ true
              last (inl q) = or_in c (cell x) (moved kind (flat_map made xs)) (inl q)
              last (inr q) = rest_in c (cell x) (moved kind (flat_map made xs)) (rec q)

  -- one stays or moves
  pub stays_or_moves : (c : ℕ) (xs : List A) → has c (map cell xs) ≡ true → (has c (map cell (filter staying xs)) ≡ true) ⊎ (has c (map cell (filter moving xs)) ≡ true)
  stays_or_moves c [] h = inl h
  stays_or_moves c (x ∷ xs) h = on (staying x) (front_or c (cell x) (map cell xs) h) (λ i. stays_or_moves c xs i)
    where
      on : (b : Bool) → (c ≡ cell x) ⊎ (has c (map cell xs) ≡ true) → (has c (map cell xs) ≡ true → (has c (map cell (filter staying xs)) ≡ true) ⊎ (has c (map cell (filter moving xs)) ≡ true))
          → (has c (map cell (if b then x ∷ filter staying xs else filter staying xs)) ≡ true) ⊎ (has c (map cell (if not b then x ∷ filter moving xs else filter moving xs)) ≡ true)
      on true (inl e) rec = inl (or_in c (cell x) (map cell (filter staying xs)) (inl e))
      on false (inl e) rec = inr (or_in c (cell x) (map cell (filter moving xs)) (inl e))
      on b (inr i) rec = further b (rec i)
        where
          further : (b : Bool) → (has c (map cell (filter staying xs)) ≡ true) ⊎ (has c (map cell (filter moving xs)) ≡ true)
              → (has c (map cell (if b then x ∷ filter staying xs else filter staying xs)) ≡ true) ⊎ (has c (map cell (if not b then x ∷ filter moving xs else filter moving xs)) ≡ true)
          further true (inl q) = inl (rest_in c (cell x) (map cell (filter staying xs)) q)
          further true (inr q) = inr q
          further false (inl q) = inl q
          further false (inr q) = inr (rest_in c (cell x) (map cell (filter moving xs)) q)

  none_made : (x : A) → moving x ≡ false → made x ≡ []
  none_made x e = on (child_for kind (variable x) moves) e
    where
      on : (o : Option ℕ) → not (stays o) ≡ false → moves_if kind (cell x) o ≡ []
      on None e = refl
      on (Some child) e = absurd (cc (e))

  -- moves of the other kind are none of this one
  module _ {B : Type 0} (variable' cell' : B → ℕ) (other : Bool) (differs : (c child : ℕ) → is_kind kind (record { cell = c; child = child; signal = other }) ≡ false) where
    pub none_of : (k : ℕ) (ys : List B) → moved_to k kind (flat_map (λ (right : B). moves_if other (cell' right) (child_for other (variable' right) moves)) ys) ≡ []
    none_of k [] = refl
    none_of k (y ∷ ys) = on (child_for other (variable' y) moves) (none_of k ys)
      where
        rest : List Move
        rest = flat_map (λ (right : B). moves_if other (cell' right) (child_for other (variable' right) moves)) ys

        on : (o : Option ℕ) → moved_to k kind rest ≡ [] → moved_to k kind (moves_if other (cell' y) o ++ rest) ≡ []
        on None e = e
        on (Some child) e = further (nat_eq child k) (is_kind kind (record { cell = cell' y; child = child; signal = other })) (differs (cell' y) child)
          where
            these : List Move
            these = filter (λ (one : Move). nat_eq one.child k && is_kind kind one) rest

            further : (b s : Bool) → s ≡ false → map (λ (one : Move). one.cell) (if b && s then record { cell = cell' y; child = child; signal = other } ∷ these else these) ≡ []
            further true true q = absurd (cc (q))
            further true false q = e
            further false s q = e

not_signal : (c child : ℕ) → is_kind true (record { cell = c; child = child; signal = false }) ≡ false
not_signal c child = refl

not_wait : (c child : ℕ) → is_kind false (record { cell = c; child = child; signal = true }) ≡ false
not_wait c child = refl

-- .. and of both kinds
module _ (moves : List Handover) (rights : Rights) where
  abbrev signal_part : List Move
  signal_part = flat_map (λ (right : Owed). moves_if true right.cell (child_for true right.variable moves)) rights.signals

  abbrev wait_part : List Move
  wait_part = flat_map (λ (right : Due). moves_if false right.cell (child_for false right.variable moves)) rights.waits

  pub waits_enter : (k c : ℕ) → has c (moved_to k false (moves_of moves rights)) ≡ true → has c (due_cells (waits_into k moves rights.waits)) ≡ true
  waits_enter k c h =
      on (in_either c (moved_to k false signal_part) (moved_to k false wait_part)
      (subst (λ (l : List ℕ). has c l ≡ true) (picked_both (λ (one : Move). one.cell) (λ (one : Move). nat_eq one.child k && is_kind false one) signal_part wait_part) h))
    where
      nothing : has c [] ≡ true → has c (due_cells (waits_into k moves rights.waits)) ≡ true
      nothing h = absurd (cc (h))

      on : (has c (moved_to k false signal_part) ≡ true) ⊎ (has c (moved_to k false wait_part) ≡ true) → has c (due_cells (waits_into k moves rights.waits)) ≡ true
      on (inl i) =
          nothing (subst (λ (l : List ℕ). has c l ≡ true)
          (none_of (λ (one : Due). one.variable) (λ (one : Due). one.cell) false moves (λ (one : Owed). one.variable) (λ (one : Owed). one.cell) true not_wait k rights.signals) i)
      on (inr i) = entered (λ (one : Due). one.variable) (λ (one : Due). one.cell) false moves k c rights.waits i

  pub signals_enter : (k c : ℕ) → has c (moved_to k true (moves_of moves rights)) ≡ true → has c (owed_cells (signals_into k moves rights.signals)) ≡ true
  signals_enter k c h =
      on (in_either c (moved_to k true signal_part) (moved_to k true wait_part)
      (subst (λ (l : List ℕ). has c l ≡ true) (picked_both (λ (one : Move). one.cell) (λ (one : Move). nat_eq one.child k && is_kind true one) signal_part wait_part) h))
    where
      nothing : has c [] ≡ true → has c (owed_cells (signals_into k moves rights.signals)) ≡ true
      nothing h = absurd (cc (h))

      on : (has c (moved_to k true signal_part) ≡ true) ⊎ (has c (moved_to k true wait_part) ≡ true) → has c (owed_cells (signals_into k moves rights.signals)) ≡ true
      on (inl i) = entered (λ (one : Owed). one.variable) (λ (one : Owed). one.cell) true moves k c rights.signals i
      on (inr i) =
          nothing (subst (λ (l : List ℕ). has c l ≡ true)
          (none_of (λ (one : Owed). one.variable) (λ (one : Owed). one.cell) true moves (λ (one : Due). one.variable) (λ (one : Due). one.cell) false not_signal k rights.waits) i)

  pub moving_waits : (c : ℕ) → has c (due_cells (filter (moving (λ (one : Due). one.variable) (λ (one : Due). one.cell) false moves) rights.waits)) ≡ true → has c (moved false (moves_of moves rights)) ≡ true
  moving_waits c h =
      subst (λ (l : List ℕ). has c l ≡ true) (sym (picked_both (λ (one : Move). one.cell) (is_kind false) signal_part wait_part))
      (in_right c (moved false signal_part) (moved false wait_part) (moving_moved (λ (one : Due). one.variable) (λ (one : Due). one.cell) false moves c rights.waits h))

  pub moving_signals : (c : ℕ) → has c (owed_cells (filter (moving (λ (one : Owed). one.variable) (λ (one : Owed). one.cell) true moves) rights.signals)) ≡ true → has c (moved true (moves_of moves rights)) ≡ true
  moving_signals c h =
      subst (λ (l : List ℕ). has c l ≡ true) (sym (picked_both (λ (one : Move). one.cell) (is_kind true) signal_part wait_part))
      (in_left c (moved true signal_part) (moved true wait_part) (moving_moved (λ (one : Owed). one.variable) (λ (one : Owed). one.cell) true moves c rights.signals h))

-- Handing over what is left of the rights, where a fork's moves are of all that the branch held.
pub record HandsOver (handovers : List Handover) (moves : List Move) (left : Rights) : Type 0 where
  pub into_waits : (k c : ℕ) → has c (moved_to k false moves) ≡ true → has c (due_cells left.waits) ≡ true → has c (due_cells (waits_into k handovers left.waits)) ≡ true
  pub into_signals : (k c : ℕ) → has c (moved_to k true moves) ≡ true → has c (owed_cells left.signals) ≡ true → has c (owed_cells (signals_into k handovers left.signals)) ≡ true
  pub kept_waits : (c : ℕ) → has c (due_cells left.waits) ≡ true → has c (moved false moves) ≡ false → has c (due_cells (waits_kept handovers left.waits)) ≡ true
  pub kept_signals : (c : ℕ) → has c (owed_cells left.signals) ≡ true → has c (moved true moves) ≡ false → has c (owed_cells (signals_kept handovers left.signals)) ≡ true
  pub are_moves : ((c : ℕ) → has c (moved false moves) ≡ true → has c (due_cells left.waits) ≡ true) → ((c : ℕ) → has c (moved true moves) ≡ true → has c (owed_cells left.signals) ≡ true)
      → moves ≡ moves_of handovers left

module _ (handovers : List Handover) (whole left : Rights) (part_waits : Part Due left.waits whole.waits) (part_signals : Part Owed left.signals whole.signals)
    (wait_cells : AreDistinct (due_cells whole.waits)) (signal_cells : AreDistinct (owed_cells whole.signals)) where
  abbrev is_moving_wait : Due → Bool
  is_moving_wait = moving (λ (one : Due). one.variable) (λ (one : Due). one.cell) false handovers

  abbrev is_moving_signal : Owed → Bool
  is_moving_signal = moving (λ (one : Owed). one.variable) (λ (one : Owed). one.cell) true handovers

  wait_kept : (c : ℕ) → (has c (due_cells (waits_kept handovers left.waits)) ≡ true) ⊎ (has c (due_cells (filter is_moving_wait left.waits)) ≡ true) → has c (moved false (moves_of handovers whole)) ≡ false
      → has c (due_cells (waits_kept handovers left.waits)) ≡ true
  wait_kept c (inl i) e = i
  wait_kept c (inr i) e =
      clash (has c (moved false (moves_of handovers whole)))
      (moving_waits handovers whole c (has_part (λ (one : Due). one.cell) c (filter is_moving_wait left.waits) (filter is_moving_wait whole.waits) (part_filter is_moving_wait left.waits whole.waits part_waits) i)) e

  signal_kept : (c : ℕ) → (has c (owed_cells (signals_kept handovers left.signals)) ≡ true) ⊎ (has c (owed_cells (filter is_moving_signal left.signals)) ≡ true) → has c (moved true (moves_of handovers whole)) ≡ false
      → has c (owed_cells (signals_kept handovers left.signals)) ≡ true
  signal_kept c (inl i) e = i
  signal_kept c (inr i) e =
      clash (has c (moved true (moves_of handovers whole)))
      (moving_signals handovers whole c (has_part (λ (one : Owed). one.cell) c (filter is_moving_signal left.signals) (filter is_moving_signal whole.signals) (part_filter is_moving_signal left.signals whole.signals part_signals) i)) e

  pub part_hands : HandsOver handovers (moves_of handovers whole) left
  part_hands = record {
    into_waits = λ k c h i.
        pick_part (λ (one : Due). one.cell) (entering (λ (one : Due). one.variable) (λ (one : Due). one.cell) false handovers k) c left.waits whole.waits part_waits wait_cells
        (waits_enter handovers whole k c h) i;
    into_signals = λ k c h i.
        pick_part (λ (one : Owed). one.cell) (entering (λ (one : Owed). one.variable) (λ (one : Owed). one.cell) true handovers k) c left.signals whole.signals part_signals signal_cells
        (signals_enter handovers whole k c h) i;
    kept_waits = λ c h e. wait_kept c (stays_or_moves (λ (one : Due). one.variable) (λ (one : Due). one.cell) false handovers c left.waits h) e;
    kept_signals = λ c h e. signal_kept c (stays_or_moves (λ (one : Owed). one.variable) (λ (one : Owed). one.cell) true handovers c left.signals h) e;
    are_moves = λ ws ss. sym (same_waits ws ss);
  } where
    same_waits : ((c : ℕ) → has c (moved false (moves_of handovers whole)) ≡ true → has c (due_cells left.waits) ≡ true)
        → ((c : ℕ) → has c (moved true (moves_of handovers whole)) ≡ true → has c (owed_cells left.signals) ≡ true) → moves_of handovers left ≡ moves_of handovers whole
    same_waits ws ss =
        ap (λ (l : List Move). l ++ wait_part handovers left)
        (made_same (λ (one : Owed). one.cell) is_moving_signal (made (λ (one : Owed). one.variable) (λ (one : Owed). one.cell) true handovers)
        (none_made (λ (one : Owed). one.variable) (λ (one : Owed). one.cell) true handovers) left.signals whole.signals part_signals signal_cells (λ c h. ss c (moving_signals handovers whole c h)))
        ∙ ap (λ (l : List Move). signal_part handovers whole ++ l)
        (made_same (λ (one : Due). one.cell) is_moving_wait (made (λ (one : Due). one.variable) (λ (one : Due). one.cell) false handovers)
        (none_made (λ (one : Due). one.variable) (λ (one : Due). one.cell) false handovers) left.waits whole.waits part_waits wait_cells (λ c h. ws c (moving_waits handovers whole c h)))

-- Where there are no handovers, nothing moves.

all_stay : {A : Type 0} (xs : List A) → filter (λ (x : A). true) xs ≡ xs
all_stay [] = refl
all_stay {A} (x ∷ xs) = ap (λ (l : List A). x ∷ l) (all_stay xs)

pub none_hand : (left : Rights) → HandsOver [] [] left
none_hand left = record {
  into_waits = λ k c h i. absurd (cc (h));
  into_signals = λ k c h i. absurd (cc (h));
  kept_waits = λ c h e. subst (λ (l : List Due). has c (due_cells l) ≡ true) (sym (all_stay left.waits)) h;
  kept_signals = λ c h e. subst (λ (l : List Owed). has c (owed_cells l) ≡ true) (sym (all_stay left.signals)) h;
  are_moves = λ ws ss. sym (none left.waits left.signals);
} where
  none_waits : (ws : List Due) → flat_map (λ (right : Due). moves_if false right.cell (child_for false right.variable [])) ws ≡ []
  none_waits [] = refl
  none_waits (w ∷ ws) = none_waits ws

  none : (ws : List Due) (ss : List Owed) → moves_of [] (record { waits = ws; signals = ss }) ≡ []
  none ws [] = none_waits ws
  none ws (s ∷ ss) = none ws ss

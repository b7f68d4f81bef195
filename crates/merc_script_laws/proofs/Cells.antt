-- The cells of a fork by name, and the rights that move into its conjuncts.
use Rattle.std.proofs.Common.{◌≡◌, ◌⊎◌, inl, inr, ℕ, suc, ◌+◌, ◌≤◌, ◌<◌, Bool, true, false, not, ◌==◌, ◌&&◌, if◌then◌else◌, nat_eq, List, [], ◌∷◌, ◌++◌, length, map, filter, flat_map, Option, Some, None, refl, ap, sym, subst, ◌∙◌, arith}
use Rattle.merc_graded_tree.specs.Nodes.{Node, Nodes}
use Rattle.merc_script.specs.declared.cells.Move.{Move}
use Rattle.merc_core.specs.Rights.{has, cells_moved, is_kind, moved, moved_to}
use Rattle.merc_core.specs.WellFormed.{AreDistinct}
use Rattle.merc_rights.specs.declared.sites.CellInfo.{CellInfo}
use Rattle.merc_rights.specs.declared.sites.Moved.{Moved}
use Rattle.merc_rights.specs.declared.sites.SiteInfo.{SiteInfo}
use Rattle.merc_plan.specs.Branch.{HeldWait, HeldSignal, Hold, NamedCell, names, Gift, gift_at, value_given}
use Rattle.merc_plan.specs.Hold.{wait_for, named, own_waits, own_signals, child_for, moves_if, moves_from, goes_to, waits_into, signals_into, stays, fork_of, conjunct_hold}
use Rattle.merc_plan.proofs.Judging.{makes, uses, signals_to, waits_to}
use Rattle.merc_plan.proofs.Sets.{clash, absent, same_number, is_same, and_both, both_and, not_true, true_not}
use Rattle.merc_script_laws.proofs.Members.{Member, numbered, number_in, map_both, map_twice, filter_both}

-- Cells by name.

-- a cell by name stands for one of the site
pub record OfInfo (next : ℕ) (infos : List CellInfo) (one : NamedCell) : Type 0 where
  pub info : CellInfo
  pub there : Member info infos
  pub variable : one.variable ≡ info.variable
  pub producer : one.producer ≡ info.producer
  pub consumer : one.consumer ≡ info.consumer
  pub low : next ≤ one.cell
  pub high : one.cell < next + length infos

pub of_info : (next : ℕ) (infos : List CellInfo) (one : NamedCell) → Member one (named next infos) → OfInfo next infos one
of_info next [] one h = absurd h
of_info next (info ∷ infos) one (inl e) = record {
  info = info;
  there = inl refl;
  variable = ap (λ (z : NamedCell). z.variable) e;
  producer = ap (λ (z : NamedCell). z.producer) e;
  consumer = ap (λ (z : NamedCell). z.consumer) e;
  low = let q = ap (λ (z : NamedCell). z.cell) e in omega (arith, q);
  high = let q = ap (λ (z : NamedCell). z.cell) e in omega (arith, q);
}
of_info next (info ∷ infos) one (inr h) =
    let r = of_info (suc next) infos one h in
    record {
      info = r.info;
      there = inr r.there;
      variable = r.variable;
      producer = r.producer;
      consumer = r.consumer;
      low = let q = r.low in omega (arith, q);
      high = let q = r.high in omega (arith, q);
    }

-- and each of the site has a name
pub record NameOf (next : ℕ) (infos : List CellInfo) (info : CellInfo) : Type 0 where
  pub one : NamedCell
  pub there : Member one (named next infos)
  pub variable : one.variable ≡ info.variable
  pub producer : one.producer ≡ info.producer
  pub consumer : one.consumer ≡ info.consumer

pub name_of : (next : ℕ) (infos : List CellInfo) (info : CellInfo) → Member info infos → NameOf next infos info
name_of next [] info h = absurd h
name_of next (first ∷ infos) info (inl e) = record {
  one = record { cell = next; variable = first.variable; producer = first.producer; consumer = first.consumer };
  there = inl refl;
  variable = ap (λ (z : CellInfo). z.variable) (sym e);
  producer = ap (λ (z : CellInfo). z.producer) (sym e);
  consumer = ap (λ (z : CellInfo). z.consumer) (sym e);
}
name_of next (first ∷ infos) info (inr h) =
    let r = name_of (suc next) infos info h in
    record { one = r.one; there = inr r.there; variable = r.variable; producer = r.producer; consumer = r.consumer }

pub names_distinct : (next : ℕ) (infos : List CellInfo) → AreDistinct (names (named next infos))
names_distinct next [] = tt
names_distinct next (info ∷ infos) = (
  absent next (names (named (suc next) infos)) (λ h.
      let r = numbered (λ (z : NamedCell). z.cell) next (named (suc next) infos) h in
      let l = (of_info (suc next) infos r.0 r.1.0).low in
      let e = r.1.1 in
      absurd (omega (arith, e, l))),
  names_distinct (suc next) infos,
)

pub name_low : (next : ℕ) (infos : List CellInfo) (c : ℕ) → has c (names (named next infos)) ≡ true → next ≤ c
name_low next infos c h =
    let r = numbered (λ (z : NamedCell). z.cell) c (named next infos) h in
    let l = (of_info next infos r.0 r.1.0).low in
    let e = r.1.1 in
    omega (arith, e, l)

pub name_apart : (next : ℕ) (infos : List CellInfo) (c : ℕ) → c < next → has c (names (named next infos)) ≡ false
name_apart next infos c l = absent c (names (named next infos)) (λ h. let k = name_low next infos c h in absurd (omega (arith, k, l)))

-- a test by variable, producer and consumer passes the same of both
same_case : (f : ℕ → ℕ → ℕ → Bool) (b : Bool) (next : ℕ) (info : CellInfo) (infos : List CellInfo)
    → map (λ (z : NamedCell). z.variable) (filter (λ (z : NamedCell). f z.variable z.producer z.consumer) (named (suc next) infos)) ≡ map (λ (z : CellInfo). z.variable) (filter (λ (z : CellInfo). f z.variable z.producer z.consumer) infos)
    → map (λ (z : NamedCell). z.variable) (if b then record { cell = next; variable = info.variable; producer = info.producer; consumer = info.consumer } ∷ filter (λ (z : NamedCell). f z.variable z.producer z.consumer) (named (suc next) infos) else filter (λ (z : NamedCell). f z.variable z.producer z.consumer) (named (suc next) infos))
    ≡ map (λ (z : CellInfo). z.variable) (if b then info ∷ filter (λ (z : CellInfo). f z.variable z.producer z.consumer) infos else filter (λ (z : CellInfo). f z.variable z.producer z.consumer) infos)
same_case f true next info infos h = ap (λ l. info.variable ∷ l) h
same_case f false next info infos h = h

pub same_variables : (f : ℕ → ℕ → ℕ → Bool) (next : ℕ) (infos : List CellInfo)
    → map (λ (z : NamedCell). z.variable) (filter (λ (z : NamedCell). f z.variable z.producer z.consumer) (named next infos)) ≡ map (λ (z : CellInfo). z.variable) (filter (λ (z : CellInfo). f z.variable z.producer z.consumer) infos)
same_variables f next [] = refl
same_variables f next (info ∷ infos) = same_case f (f info.variable info.producer info.consumer) next info infos (same_variables f (suc next) infos)

-- Rights to own cells.

pub own_wait_cells : (k : ℕ) (given : List Gift) (cells : List NamedCell) → map (λ (right : HeldWait). right.cell) (own_waits k given cells) ≡ uses k cells
own_wait_cells k given cells = map_twice (λ (right : HeldWait). right.cell) (λ (one : NamedCell). record { variable = one.variable; cell = one.cell; value = value_given (gift_at one.cell given) }) (filter (λ (one : NamedCell). one.consumer == k) cells)

pub own_wait_variables : (k : ℕ) (given : List Gift) (cells : List NamedCell) → map (λ (right : HeldWait). right.variable) (own_waits k given cells) ≡ map (λ (one : NamedCell). one.variable) (filter (λ (one : NamedCell). one.consumer == k) cells)
own_wait_variables k given cells = map_twice (λ (right : HeldWait). right.variable) (λ (one : NamedCell). record { variable = one.variable; cell = one.cell; value = value_given (gift_at one.cell given) }) (filter (λ (one : NamedCell). one.consumer == k) cells)

pub own_signal_cells : (k : ℕ) (cells : List NamedCell) → map (λ (right : HeldSignal). right.cell) (own_signals k cells) ≡ makes k cells
own_signal_cells k cells = map_twice (λ (right : HeldSignal). right.cell) (λ (one : NamedCell). record { variable = one.variable; conjunct = one.consumer; cell = one.cell }) (filter (λ (one : NamedCell). one.producer == k) cells)

-- Moves.

-- whether a right moves
abbrev pub goes : Option ℕ → Bool
goes to = not (stays to)

taken_case : {A : Type 0} (cell : A → ℕ) (r : A) (b : Bool) (cs : List ℕ) (rest : List A) → cs ≡ map cell rest → (if b then cell r ∷ [] else []) ++ cs ≡ map cell (if b then r ∷ rest else rest)
taken_case cell r true cs rest h = ap (λ l. cell r ∷ l) h
taken_case cell r false cs rest h = h

moves_taken : {A : Type 0} (signal : Bool) (test : Move → Bool) (cell : A → ℕ) (to : A → Option ℕ) (keep : A → Bool)
    → ((r : A) → cells_moved (filter test (moves_if signal (cell r) (to r))) ≡ (if keep r then cell r ∷ [] else [])) → (rs : List A)
    → cells_moved (filter test (flat_map (λ r. moves_if signal (cell r) (to r)) rs)) ≡ map cell (filter keep rs)
moves_taken signal test cell to keep h [] = refl
moves_taken signal test cell to keep h (r ∷ rs) =
    ap cells_moved (filter_both test (moves_if signal (cell r) (to r)) (flat_map (λ r. moves_if signal (cell r) (to r)) rs))
    ∙ map_both (λ (one : Move). one.cell) (filter test (moves_if signal (cell r) (to r))) (filter test (flat_map (λ r. moves_if signal (cell r) (to r)) rs))
    ∙ ap (λ l. l ++ cells_moved (filter test (flat_map (λ r. moves_if signal (cell r) (to r)) rs))) (h r)
    ∙ taken_case cell r (keep r) (cells_moved (filter test (flat_map (λ r. moves_if signal (cell r) (to r)) rs))) (filter keep rs) (moves_taken signal test cell to keep h rs)

pub kept_none : {A : Type 0} (rs : List A) → filter (λ r. false) rs ≡ []
kept_none [] = refl
kept_none (r ∷ rs) = kept_none rs

pub nothing_more : {A : Type 0} (xs : List A) → xs ++ [] ≡ xs
nothing_more [] = refl
nothing_more (x ∷ xs) = ap (λ l. x ∷ l) (nothing_more xs)

is_true_kind : (c : ℕ) (o : Option ℕ) → cells_moved (filter (is_kind true) (moves_if true c o)) ≡ (if goes o then c ∷ [] else [])
is_true_kind c None = refl
is_true_kind c (Some k) = refl

is_false_kind : (c : ℕ) (o : Option ℕ) → cells_moved (filter (is_kind false) (moves_if false c o)) ≡ (if goes o then c ∷ [] else [])
is_false_kind c None = refl
is_false_kind c (Some k) = refl

not_true_kind : (c : ℕ) (o : Option ℕ) → cells_moved (filter (is_kind true) (moves_if false c o)) ≡ []
not_true_kind c None = refl
not_true_kind c (Some k) = refl

not_false_kind : (c : ℕ) (o : Option ℕ) → cells_moved (filter (is_kind false) (moves_if true c o)) ≡ []
not_false_kind c None = refl
not_false_kind c (Some k) = refl

child_case : (signal : Bool) (c j : ℕ) (b : Bool) → cells_moved (if (b && true) then record { cell = c; child = j; signal = signal } ∷ [] else []) ≡ (if b then c ∷ [] else [])
child_case signal c j true = refl
child_case signal c j false = refl

other_case : (signal : Bool) (c j : ℕ) (b : Bool) → cells_moved (if (b && false) then record { cell = c; child = j; signal = signal } ∷ [] else []) ≡ []
other_case signal c j true = refl
other_case signal c j false = refl

into_true : (k c : ℕ) (o : Option ℕ) → cells_moved (filter (λ one. nat_eq one.child k && is_kind true one) (moves_if true c o)) ≡ (if goes_to k o then c ∷ [] else [])
into_true k c None = refl
into_true k c (Some j) = child_case true c j (nat_eq j k)

into_false : (k c : ℕ) (o : Option ℕ) → cells_moved (filter (λ one. nat_eq one.child k && is_kind false one) (moves_if false c o)) ≡ (if goes_to k o then c ∷ [] else [])
into_false k c None = refl
into_false k c (Some j) = child_case false c j (nat_eq j k)

not_into_true : (k c : ℕ) (o : Option ℕ) → cells_moved (filter (λ one. nat_eq one.child k && is_kind true one) (moves_if false c o)) ≡ []
not_into_true k c None = refl
not_into_true k c (Some j) = other_case false c j (nat_eq j k)

not_into_false : (k c : ℕ) (o : Option ℕ) → cells_moved (filter (λ one. nat_eq one.child k && is_kind false one) (moves_if true c o)) ≡ []
not_into_false k c None = refl
not_into_false k c (Some j) = other_case true c j (nat_eq j k)

module _ (moves : List Moved) (hold : Hold) where
  abbrev first_moves : List Move
  first_moves = flat_map (λ (right : HeldSignal). moves_if true right.cell (child_for true right.variable moves)) hold.signals

  abbrev last_moves : List Move
  last_moves = flat_map (λ (right : HeldWait). moves_if false right.cell (child_for false right.variable moves)) hold.waits

  both_moves : (test : Move → Bool) → cells_moved (filter test (moves_from moves hold)) ≡ cells_moved (filter test first_moves) ++ cells_moved (filter test last_moves)
  both_moves test = ap cells_moved (filter_both test first_moves last_moves) ∙ map_both (λ (one : Move). one.cell) (filter test first_moves) (filter test last_moves)

  no_first : (test : Move → Bool) → ((c : ℕ) (o : Option ℕ) → cells_moved (filter test (moves_if true c o)) ≡ []) → cells_moved (filter test first_moves) ≡ []
  no_first test h =
      moves_taken true test (λ (right : HeldSignal). right.cell) (λ (right : HeldSignal). child_for true right.variable moves) (λ (right : HeldSignal). false) (λ r. h r.cell (child_for true r.variable moves)) hold.signals
      ∙ ap (map (λ (right : HeldSignal). right.cell)) (kept_none hold.signals)

  no_last : (test : Move → Bool) → ((c : ℕ) (o : Option ℕ) → cells_moved (filter test (moves_if false c o)) ≡ []) → cells_moved (filter test last_moves) ≡ []
  no_last test h =
      moves_taken false test (λ (right : HeldWait). right.cell) (λ (right : HeldWait). child_for false right.variable moves) (λ (right : HeldWait). false) (λ r. h r.cell (child_for false r.variable moves)) hold.waits
      ∙ ap (map (λ (right : HeldWait). right.cell)) (kept_none hold.waits)

  signals_taken : (test : Move → Bool) (keep : Option ℕ → Bool) → ((c : ℕ) (o : Option ℕ) → cells_moved (filter test (moves_if true c o)) ≡ (if keep o then c ∷ [] else []))
      → ((c : ℕ) (o : Option ℕ) → cells_moved (filter test (moves_if false c o)) ≡ [])
      → cells_moved (filter test (moves_from moves hold)) ≡ map (λ (right : HeldSignal). right.cell) (filter (λ (right : HeldSignal). keep (child_for true right.variable moves)) hold.signals)
  signals_taken test keep h n =
      both_moves test ∙ ap (λ l. cells_moved (filter test first_moves) ++ l) (no_last test n) ∙ nothing_more (cells_moved (filter test first_moves))
      ∙ moves_taken true test (λ (right : HeldSignal). right.cell) (λ (right : HeldSignal). child_for true right.variable moves) (λ (right : HeldSignal). keep (child_for true right.variable moves))
      (λ r. h r.cell (child_for true r.variable moves)) hold.signals

  waits_taken : (test : Move → Bool) (keep : Option ℕ → Bool) → ((c : ℕ) (o : Option ℕ) → cells_moved (filter test (moves_if false c o)) ≡ (if keep o then c ∷ [] else []))
      → ((c : ℕ) (o : Option ℕ) → cells_moved (filter test (moves_if true c o)) ≡ [])
      → cells_moved (filter test (moves_from moves hold)) ≡ map (λ (right : HeldWait). right.cell) (filter (λ (right : HeldWait). keep (child_for false right.variable moves)) hold.waits)
  waits_taken test keep h n =
      both_moves test ∙ ap (λ l. l ++ cells_moved (filter test last_moves)) (no_first test n)
      ∙ moves_taken false test (λ (right : HeldWait). right.cell) (λ (right : HeldWait). child_for false right.variable moves) (λ (right : HeldWait). keep (child_for false right.variable moves))
      (λ r. h r.cell (child_for false r.variable moves)) hold.waits

  pub signals_moved : moved true (moves_from moves hold) ≡ map (λ (right : HeldSignal). right.cell) (filter (λ (right : HeldSignal). goes (child_for true right.variable moves)) hold.signals)
  signals_moved = signals_taken (is_kind true) goes is_true_kind not_true_kind

  pub waits_moved : moved false (moves_from moves hold) ≡ map (λ (right : HeldWait). right.cell) (filter (λ (right : HeldWait). goes (child_for false right.variable moves)) hold.waits)
  waits_moved = waits_taken (is_kind false) goes is_false_kind not_false_kind

  pub signals_moved_to : (k : ℕ) → moved_to k true (moves_from moves hold) ≡ map (λ (right : HeldSignal). right.cell) (signals_into k moves hold.signals)
  signals_moved_to k = signals_taken (λ one. nat_eq one.child k && is_kind true one) (goes_to k) (into_true k) (not_into_true k)

  pub waits_moved_to : (k : ℕ) → moved_to k false (moves_from moves hold) ≡ map (λ (right : HeldWait). right.cell) (waits_into k moves hold.waits)
  waits_moved_to k = waits_taken (λ one. nat_eq one.child k && is_kind false one) (goes_to k) (into_false k) (not_into_false k)

-- What a conjunct may signal and wait for are the cells of its rights.
module _ (info : SiteInfo) (goals : Nodes) (k : ℕ) (goal : Node) (hold : Hold) (given : List Gift) where
  pub rights_signal : signals_to k (fork_of info goals hold) ≡ map (λ (right : HeldSignal). right.cell) (conjunct_hold info k goal hold given).signals
  rights_signal =
      ap (λ l. makes k (named hold.next info.cells) ++ l) (signals_moved_to info.moves hold k)
      ∙ ap (λ l. l ++ map (λ (right : HeldSignal). right.cell) (signals_into k info.moves hold.signals)) (sym (own_signal_cells k (named hold.next info.cells)))
      ∙ sym (map_both (λ (right : HeldSignal). right.cell) (own_signals k (named hold.next info.cells)) (signals_into k info.moves hold.signals))

  pub rights_wait : waits_to k (fork_of info goals hold) ≡ map (λ (right : HeldWait). right.cell) (conjunct_hold info k goal hold given).waits
  rights_wait =
      ap (λ l. uses k (named hold.next info.cells) ++ l) (waits_moved_to info.moves hold k)
      ∙ ap (λ l. l ++ map (λ (right : HeldWait). right.cell) (waits_into k info.moves hold.waits)) (sym (own_wait_cells k given (named hold.next info.cells)))
      ∙ sym (map_both (λ (right : HeldWait). right.cell) (own_waits k given (named hold.next info.cells)) (waits_into k info.moves hold.waits))

-- Where a right moves.

goes_case : (k j : ℕ) → goes_to k (Some j) ≡ true → Some j ≡ Some k
goes_case k j h = ap (λ z. Some z) (same_number j k h)

pub goes_there : (k : ℕ) (o : Option ℕ) → goes_to k o ≡ true → o ≡ Some k
goes_there k None h = absurd (cc)
goes_there k (Some j) h = goes_case k j h

pub there_goes : (k : ℕ) (o : Option ℕ) → o ≡ Some k → goes_to k o ≡ true
there_goes k o e = subst (λ z. goes_to k z ≡ true) (sym e) (is_same k)

pub goes_some : (o : Option ℕ) → goes o ≡ true → (k : ℕ) × (o ≡ Some k)
goes_some None h = absurd (cc)
goes_some (Some k) h = (k, refl)

-- the move of a right
pub record MoveOf (signal : Bool) (x k : ℕ) (moves : List Moved) : Type 0 where
  pub move : Moved
  pub there : Member move moves
  pub variable : move.variable ≡ x
  pub child : move.child ≡ k
  pub kind : move.signal ≡ signal

same_child : (j k : ℕ) → Some j ≡ Some k → j ≡ k
same_child j k h = cc

true_case : (x k : ℕ) (m : Moved) (moves : List Moved) (b : Bool) → ((m.variable == x) && m.signal) ≡ b → (if b then Some m.child else child_for true x moves) ≡ Some k → (child_for true x moves ≡ Some k → MoveOf true x k moves)
    → MoveOf true x k (m ∷ moves)
true_case x k m moves true e h rec =
    let t = and_both (m.variable == x) m.signal e in
    record { move = m; there = inl refl; variable = same_number m.variable x t.0; child = same_child m.child k h; kind = t.1 }
true_case x k m moves false e h rec = let r = rec h in record { move = r.move; there = inr r.there; variable = r.variable; child = r.child; kind = r.kind }

pub signal_move : (x k : ℕ) (moves : List Moved) → child_for true x moves ≡ Some k → MoveOf true x k moves
signal_move x k [] h = absurd (cc)
signal_move x k (m ∷ moves) h = true_case x k m moves ((m.variable == x) && m.signal) refl h (λ q. signal_move x k moves q)

false_case : (x k : ℕ) (m : Moved) (moves : List Moved) (b : Bool) → ((m.variable == x) && not m.signal) ≡ b → (if b then Some m.child else child_for false x moves) ≡ Some k → (child_for false x moves ≡ Some k → MoveOf false x k moves)
    → MoveOf false x k (m ∷ moves)
false_case x k m moves true e h rec =
    let t = and_both (m.variable == x) (not m.signal) e in
    record { move = m; there = inl refl; variable = same_number m.variable x t.0; child = same_child m.child k h; kind = not_true m.signal t.1 }
false_case x k m moves false e h rec = let r = rec h in record { move = r.move; there = inr r.there; variable = r.variable; child = r.child; kind = r.kind }

pub wait_move : (x k : ℕ) (moves : List Moved) → child_for false x moves ≡ Some k → MoveOf false x k moves
wait_move x k [] h = absurd (cc)
wait_move x k (m ∷ moves) h = false_case x k m moves ((m.variable == x) && not m.signal) refl h (λ q. wait_move x k moves q)

-- and a move is found
found_true : (x : ℕ) (m n : Moved) (moves : List Moved) (b : Bool) → ((m.variable == x) && m.signal) ≡ b → (n ≡ m) ⊎ Member n moves → n.variable ≡ x → n.signal ≡ true
    → (Member n moves → (k : ℕ) × (child_for true x moves ≡ Some k)) → (k : ℕ) × ((if b then Some m.child else child_for true x moves) ≡ Some k)
found_true x m n moves true e h v s rec = (m.child, refl)
found_true x m n moves false e (inl q) v s rec =
    clash ((m.variable == x) && m.signal) (both_and (m.variable == x) m.signal (subst (λ z. (z == x) ≡ true) (sym v ∙ ap (λ (z : Moved). z.variable) q) (is_same x)) (ap (λ (z : Moved). z.signal) (sym q) ∙ s)) e
found_true x m n moves false e (inr q) v s rec = rec q

pub signal_goes : (x : ℕ) (n : Moved) (moves : List Moved) → Member n moves → n.variable ≡ x → n.signal ≡ true → (k : ℕ) × (child_for true x moves ≡ Some k)
signal_goes x n [] h v s = absurd h
signal_goes x n (m ∷ moves) h v s = found_true x m n moves ((m.variable == x) && m.signal) refl h v s (λ q. signal_goes x n moves q v s)

found_false : (x : ℕ) (m n : Moved) (moves : List Moved) (b : Bool) → ((m.variable == x) && not m.signal) ≡ b → (n ≡ m) ⊎ Member n moves → n.variable ≡ x → n.signal ≡ false
    → (Member n moves → (k : ℕ) × (child_for false x moves ≡ Some k)) → (k : ℕ) × ((if b then Some m.child else child_for false x moves) ≡ Some k)
found_false x m n moves true e h v s rec = (m.child, refl)
found_false x m n moves false e (inl q) v s rec =
    clash ((m.variable == x) && not m.signal) (both_and (m.variable == x) (not m.signal) (subst (λ z. (z == x) ≡ true) (sym v ∙ ap (λ (z : Moved). z.variable) q) (is_same x)) (true_not m.signal (ap (λ (z : Moved). z.signal) (sym q) ∙ s))) e
found_false x m n moves false e (inr q) v s rec = rec q

pub wait_goes : (x : ℕ) (n : Moved) (moves : List Moved) → Member n moves → n.variable ≡ x → n.signal ≡ false → (k : ℕ) × (child_for false x moves ≡ Some k)
wait_goes x n [] h v s = absurd h
wait_goes x n (m ∷ moves) h v s = found_false x m n moves ((m.variable == x) && not m.signal) refl h v s (λ q. wait_goes x n moves q v s)

-- Rights to wait by variable.

found_case : (x : ℕ) (r first : HeldWait) (ws : List HeldWait) (b : Bool) → (first.variable == x) ≡ b → (if b then Some first else wait_for x ws) ≡ Some r → (wait_for x ws ≡ Some r → Member r ws × (r.variable ≡ x)) → Member r (first ∷ ws) × (r.variable ≡ x)
found_case x r first ws true e h rec = let q = same_right h in (inl (sym q), subst (λ (z : HeldWait). z.variable ≡ x) q (same_number first.variable x e)) where
  same_right : Some first ≡ Some r → first ≡ r
  same_right p = cc
found_case x r first ws false e h rec = let q = rec h in (inr q.0, q.1)

pub wait_found : (x : ℕ) (r : HeldWait) (ws : List HeldWait) → wait_for x ws ≡ Some r → Member r ws × (r.variable ≡ x)
wait_found x r [] h = absurd (cc)
wait_found x r (first ∷ ws) h = found_case x r first ws (first.variable == x) refl h (λ q. wait_found x r ws q)

finds_case : (x : ℕ) (r first : HeldWait) (ws : List HeldWait) (b : Bool) → (first.variable == x) ≡ b → has first.variable (map (λ (z : HeldWait). z.variable) ws) ≡ false → (r ≡ first) ⊎ Member r ws → r.variable ≡ x
    → (Member r ws → wait_for x ws ≡ Some r) → (if b then Some first else wait_for x ws) ≡ Some r
finds_case x r first ws true e d (inl q) v rec = ap (λ z. Some z) (sym q)
finds_case x r first ws true e d (inr q) v rec = clash (has first.variable (map (λ (z : HeldWait). z.variable) ws)) (number_in (λ (z : HeldWait). z.variable) r first.variable ws q (v ∙ sym (same_number first.variable x e))) d
finds_case x r first ws false e d (inl q) v rec = clash (first.variable == x) (subst (λ z. (z == x) ≡ true) (sym v ∙ ap (λ (z : HeldWait). z.variable) q) (is_same x)) e
finds_case x r first ws false e d (inr q) v rec = rec q

pub finds_wait : (x : ℕ) (r : HeldWait) (ws : List HeldWait) → AreDistinct (map (λ (z : HeldWait). z.variable) ws) → Member r ws → r.variable ≡ x → wait_for x ws ≡ Some r
finds_wait x r [] d h v = absurd h
finds_wait x r (first ∷ ws) d h v = finds_case x r first ws (first.variable == x) refl d.0 h v (λ q. finds_wait x r ws d.1 q v)

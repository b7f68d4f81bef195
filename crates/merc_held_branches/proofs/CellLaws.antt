-- The rights to a fork's own cells, one cell after the other.
use Rattle.std.proofs.Common.{◌≡◌, ◌≢◌, ◌<◌, ◌≤◌, inl, ℕ, zero, suc, ◌+◌, ◌*◌, ◌-◌, eq-eqb, ne_eqb, List, [], ◌∷◌, ◌++◌, length, take, get_or, min, refl, sym, ap, ◌∙◌, subst, arith}
use Rattle.std.specs.Prelude.{if◌then◌else◌, ◌==◌}
use Rattle.std.specs.declared.boxed.Box.{Box}
use Rattle.std.specs.declared.alloc.Global.{Global}
use Rattle.std.proofs.lemmas.List.{take_all, take_more, length-take}
use mathlib.Core.Logic.{dite}
use native.Mathlib.Decide.{ℕ_discrete}
use Rattle.atomic_table.specs.Seated.{TableId}
use Rattle.merc_board.specs.declared.branch.Branch.{Branch}
use Rattle.merc_board.specs.declared.fork.SharedCell.{SharedCell}
use Rattle.merc_board.specs.Rights.{Due, Owed, Rights, own_waits, own_signals}
use Rattle.merc_held_branches.specs.declared.branch.Hold.{Hold}
use Rattle.merc_held_branches.specs.Beds.{cell_name, cell_named, IsNamed}
use Rattle.merc_held_branches.specs.Kids.{AreFor, with_wait, with_signal}
use Rattle.merc_held_branches.specs.Sharing.{number_at, own_rights}
use Rattle.merc_held_branches.proofs.Handing.{one_more_over, are_same}
use Rattle.merc_held_branches.proofs.Giving.{gives_none}

abbrev pub due : SharedCell → ℕ → Due
due one cell = record { variable = one.variable; cell = cell }

abbrev pub owed : SharedCell → ℕ → Owed
owed one cell = record { variable = one.variable; consumer = one.consumer; cell = cell }

abbrev both : List Due → List Owed → Rights
both waits signals = record { waits = waits; signals = signals }

-- one cell more
own_waits_more : (child : ℕ) (before : List SharedCell) (cells : List ℕ) (one : SharedCell) (cell : ℕ) → length before ≡ length cells
    → own_waits child (before ++ one ∷ []) (cells ++ cell ∷ []) ≡ (if one.consumer == child then own_waits child before cells ++ due one cell ∷ [] else own_waits child before cells)
own_waits_more child [] [] one cell same = refl
own_waits_more child [] (c ∷ cs) one cell same = absurd (omega (arith, same))
own_waits_more child (o ∷ os) [] one cell same = absurd (omega (arith, same))
own_waits_more child (o ∷ os) (c ∷ cs) one cell same =
    one_more_over (o.consumer == child) (one.consumer == child) (due o c) (due one cell) (own_waits child os cs) (own_waits child (os ++ one ∷ []) (cs ++ cell ∷ [])) (own_waits_more child os cs one cell (omega (arith, same)))

own_signals_more : (child : ℕ) (before : List SharedCell) (cells : List ℕ) (one : SharedCell) (cell : ℕ) → length before ≡ length cells
    → own_signals child (before ++ one ∷ []) (cells ++ cell ∷ []) ≡ (if one.producer == child then own_signals child before cells ++ owed one cell ∷ [] else own_signals child before cells)
own_signals_more child [] [] one cell same = refl
own_signals_more child [] (c ∷ cs) one cell same = absurd (omega (arith, same))
own_signals_more child (o ∷ os) [] one cell same = absurd (omega (arith, same))
own_signals_more child (o ∷ os) (c ∷ cs) one cell same =
    one_more_over (o.producer == child) (one.producer == child) (owed o c) (owed one cell) (own_signals child os cs) (own_signals child (os ++ one ∷ []) (cs ++ cell ∷ [])) (own_signals_more child os cs one cell (omega (arith, same)))

-- a right more for one child, told of each
more_wait : (has : ℕ → Rights) (child : ℕ) (right : Due) (number : ℕ) (waits : List Due) → waits ≡ (if child == number then (has number).waits ++ right ∷ [] else (has number).waits)
    → with_wait child right has number ≡ both waits (has number).signals
more_wait has child right number waits is = dite (ℕ_discrete number child)
    (λ same. ap (λ b. if b then both ((has child).waits ++ right ∷ []) (has child).signals else has number) (eq-eqb number child same)
    ∙ ap (λ n. both ((has n).waits ++ right ∷ []) (has n).signals) (sym same)
    ∙ ap (λ l. both l (has number).signals) (sym (is ∙ ap (λ b. if b then (has number).waits ++ right ∷ [] else (has number).waits) (eq-eqb child number (sym same)))))
    (λ differs. ap (λ b. if b then both ((has child).waits ++ right ∷ []) (has child).signals else has number) (ne_eqb number child differs)
    ∙ ap (λ l. both l (has number).signals) (sym (is ∙ ap (λ b. if b then (has number).waits ++ right ∷ [] else (has number).waits) (ne_eqb child number (λ e. differs (sym e))))))

more_signal : (has : ℕ → Rights) (child : ℕ) (right : Owed) (number : ℕ) (signals : List Owed) → signals ≡ (if child == number then (has number).signals ++ right ∷ [] else (has number).signals)
    → with_signal child right has number ≡ both (has number).waits signals
more_signal has child right number signals is = dite (ℕ_discrete number child)
    (λ same. ap (λ b. if b then both (has child).waits ((has child).signals ++ right ∷ []) else has number) (eq-eqb number child same)
    ∙ ap (λ n. both (has n).waits ((has n).signals ++ right ∷ [])) (sym same)
    ∙ ap (λ l. both (has number).waits l) (sym (is ∙ ap (λ b. if b then (has number).signals ++ right ∷ [] else (has number).signals) (eq-eqb child number (sym same)))))
    (λ differs. ap (λ b. if b then both (has child).waits ((has child).signals ++ right ∷ []) else has number) (ne_eqb number child differs)
    ∙ ap (λ l. both (has number).waits l) (sym (is ∙ ap (λ b. if b then (has number).signals ++ right ∷ [] else (has number).signals) (ne_eqb child number (λ e. differs (sym e))))))

-- the right to signal the cell was given, the one to wait for it not yet
abbrev pub half_given : List SharedCell → List ℕ → SharedCell → ℕ → ℕ → Rights
half_given before cells one cell number = both (own_waits number before cells) (own_signals number (before ++ one ∷ []) (cells ++ cell ∷ []))

module _ {L : Type 0} (table : TableId) (room : ℕ) (loads : List L) (before : List SharedCell) (cells : List ℕ) (one : SharedCell) (cell : ℕ) (same : length before ≡ length cells) (kids : List (Box (Branch L (Hold L)) Global)) where
  pub signal_given : (signalled : ℕ) → signalled ≡ cell → AreFor table room loads (with_signal one.producer (owed one signalled) (own_rights before cells)) kids → AreFor table room loads (half_given before cells one cell) kids
  signal_given signalled is are = are_same table room loads (with_signal one.producer (owed one signalled) (own_rights before cells)) (half_given before cells one cell) kids
      (λ number. more_signal (own_rights before cells) one.producer (owed one signalled) number (own_signals number (before ++ one ∷ []) (cells ++ cell ∷ []))
      (own_signals_more number before cells one cell same ∙ ap (λ n. if one.producer == number then own_signals number before cells ++ owed one n ∷ [] else own_signals number before cells) (sym is))) are

  pub wait_given : AreFor table room loads (with_wait one.consumer (due one cell) (half_given before cells one cell)) kids → AreFor table room loads (own_rights (before ++ one ∷ []) (cells ++ cell ∷ [])) kids
  wait_given are = are_same table room loads (with_wait one.consumer (due one cell) (half_given before cells one cell)) (own_rights (before ++ one ∷ []) (cells ++ cell ∷ [])) kids
      (λ number. more_wait (half_given before cells one cell) one.consumer (due one cell) number (own_waits number (before ++ one ∷ []) (cells ++ cell ∷ [])) (own_waits_more number before cells one cell same)) are

  -- where the parent waits, no child is given the right
  pub parent_given : one.consumer ≡ 0 → AreFor table (room + 1) loads (half_given before cells one cell) kids → AreFor table room loads (own_rights (before ++ one ∷ []) (cells ++ cell ∷ [])) kids
  parent_given is are = let half = half_given before cells one cell in
      wait_given (subst (λ (n : ℕ). AreFor table room loads (with_wait n (due one cell) half) kids) (sym is) (gives_none table room loads half (both ((half 0).waits ++ due one cell ∷ []) (half 0).signals) 0 kids (inl refl) are))

-- the parent's rights behind the fork
module _ (before : List SharedCell) (cells : List ℕ) (one : SharedCell) (cell : ℕ) (same : length before ≡ length cells) where
  pub parent_waits : one.consumer ≡ 0 → own_waits 0 (before ++ one ∷ []) (cells ++ cell ∷ []) ≡ own_waits 0 before cells ++ due one cell ∷ []
  parent_waits is = own_waits_more 0 before cells one cell same ∙ ap (λ b. if b then own_waits 0 before cells ++ due one cell ∷ [] else own_waits 0 before cells) (eq-eqb one.consumer 0 is)

  pub parent_waits_not : one.consumer ≢ 0 → own_waits 0 (before ++ one ∷ []) (cells ++ cell ∷ []) ≡ own_waits 0 before cells
  parent_waits_not is = own_waits_more 0 before cells one cell same ∙ ap (λ b. if b then own_waits 0 before cells ++ due one cell ∷ [] else own_waits 0 before cells) (ne_eqb one.consumer 0 is)

-- a name of the cell at a place, of this yard
pub named_so : (table from : TableId) (cell : ℕ) (name : List ℕ) → name ≡ cell_name from cell → from ≡ table → IsNamed table name
named_so table from cell name is yard = is ∙ ap (λ t. cell_name t cell) yard ∙ ap (λ n. cell_name table (cell_named n)) (sym is)

pub number_of : (from : TableId) (cell : ℕ) (name : List ℕ) → name ≡ cell_name from cell → cell_named name ≡ cell
number_of from cell name is = ap cell_named is

-- the first cells, and one more
number_is : (cells : List ℕ) (place : ℕ) → get_or cells place 0 ≡ number_at cells place
number_is [] place = refl
number_is (c ∷ cs) zero = refl
number_is (c ∷ cs) (suc place) = number_is cs place

pub first_numbers : (cells : List ℕ) (place : ℕ) → place < length cells → take (place + 1) cells ≡ take place cells ++ number_at cells place ∷ []
first_numbers cells place near = take_more cells place 0 near ∙ ap (λ n. take place cells ++ n ∷ []) (number_is cells place)

pub first_shared : (shared : List SharedCell) (place : ℕ) (one : SharedCell) → place < length shared → one ≡ get_or shared place one → take (place + 1) shared ≡ take place shared ++ one ∷ []
first_shared shared place one near is = take_more shared place one near ∙ ap (λ x. take place shared ++ x ∷ []) (sym is)

pub as_many : {A B : Type 0} (place : ℕ) (l : List A) (m : List B) → length l ≡ length m → length (take place l) ≡ length (take place m)
as_many place l m same = length-take place l ∙ ap (λ n. min place n) same ∙ sym (length-take place m)

module _ (shared : List SharedCell) (cells : List ℕ) (count : length cells ≡ length shared) (place : ℕ) (near : place < length shared) (one : SharedCell) (at : one ≡ get_or shared place one) (cell : ℕ) (is : cell ≡ number_at cells place) where
  first_cells : take place cells ++ cell ∷ [] ≡ take (place + 1) cells
  first_cells = ap (λ n. take place cells ++ n ∷ []) is ∙ sym (first_numbers cells place (omega (arith, near, count)))

  pub shared_more : {L : Type 0} (table : TableId) (room : ℕ) (loads : List L) (kids : List (Box (Branch L (Hold L)) Global)) → AreFor table room loads (own_rights (take place shared ++ one ∷ []) (take place cells ++ cell ∷ [])) kids
      → AreFor table room loads (own_rights (take (place + 1) shared) (take (place + 1) cells)) kids
  shared_more table room loads kids are = subst (λ (x : List SharedCell × List ℕ). AreFor table room loads (own_rights x.0 x.1) kids) (λ i. (sym (first_shared shared place one near at) i, first_cells i)) are

  pub waits_more : own_waits 0 (take place shared ++ one ∷ []) (take place cells ++ cell ∷ []) ≡ own_waits 0 (take (place + 1) shared) (take (place + 1) cells)
  waits_more = λ i. own_waits 0 (sym (first_shared shared place one near at) i) (first_cells i)

-- one cell less is to be shared
pub one_less : {L : Type 0} (table : TableId) (room place all : ℕ) (loads : List L) (has : ℕ → Rights) (kids : List (Box (Branch L (Hold L)) Global)) → place < all
    → AreFor table (2 * (all - place) + room) loads has kids → AreFor table ((2 * (all - (place + 1)) + room) + 1 + 1) loads has kids
one_less table room place all loads has kids near are = subst (λ (n : ℕ). AreFor table n loads has kids) (omega (arith, near)) are

-- .. and none is left
pub all_shared : {L : Type 0} (table : TableId) (room place : ℕ) (loads : List L) (shared : List SharedCell) (cells : List ℕ) (kids : List (Box (Branch L (Hold L)) Global)) → length cells ≡ length shared → length shared ≤ place
    → AreFor table (2 * (length shared - place) + room) loads (own_rights (take place shared) (take place cells)) kids → AreFor table room loads (own_rights shared cells) kids
all_shared table room place loads shared cells kids count far are =
    let none : 2 * (length shared - place) + room ≡ room = omega (arith, far) in let s = take_all place shared far in let n = take_all place cells (omega (arith, count, far)) in
    subst (λ (x : ℕ × (List SharedCell × List ℕ)). AreFor table x.0 loads (own_rights x.1.0 x.1.1) kids) (λ i. (none i, (s i, n i))) are

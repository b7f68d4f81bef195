-- Cells are spoiled, and outcomes stored.
use Rattle.std.proofs.Common.{◌≡◌, ℕ, zero, suc, ◌+◌, ◌^◌, ◌≤◌, ◌<◌, inl, inr, Bool, true, false, List, [], ◌∷◌, ◌++◌, Some, None, refl, ap, sym, ◌∙◌, subst, arith, length, length-append, take, drop}
use mathlib.Core.Path.{fun_ext}
use Rattle.std.proofs.lemmas.Bool.Decides.{nat_tests}
use Rattle.std.specs.Prelude.{Option, filter, map, if◌then◌else◌, nat_eq}
use Rattle.merc_script.specs.declared.outcome.Outcome.{Outcome}
use Rattle.merc_script.specs.declared.outcome.Outcome.TheVariants.{Starved}
use Rattle.merc_script.specs.declared.items.Item.{Item}
use Rattle.merc_core.specs.declared.branch.Branch.{Branch as CoreBranch}
use Rattle.merc_core.specs.declared.cell.Cell.{Cell}
use Rattle.merc_core.specs.World.{Branch}
use Rattle.merc_core.specs.Events.{ended, wake}
use Rattle.merc_core.specs.Queues.{waiting_of, starved, spoiled, spoil_at, cells_after, list_after, first_stored, stored_from}
use Rattle.merc_core.specs.Roomy.{IsRoomy}
use Rattle.merc_core.specs.Mirror.{Key, Row, Waiting, stands_in, Shows}
use Rattle.merc_core.proofs.Pool.{each_way}
use Rattle.merc_core.proofs.PoolShows.{nat-self, show-length, stands-apart}
use Rattle.merc_core.proofs.PoolMoves.{woken_queues, wake-shows}
use Rattle.merc_core.proofs.Waking.{filters-apart, length-wake}

pub starved-shows : (items : List Item) (c : CoreBranch) (b : Branch) → Shows items c b → Shows items (starved c) (ended Starved b)
starved-shows items c b one = record { join = one.join; child = one.child; at = one.at; steps = one.steps; signals = one.signals; left = refl; within = one.within; few = one.few }

pub roomy-room : (cells : ℕ → Option Cell) (list : List CoreBranch) → IsRoomy cells list → (cell : ℕ) → length list + length (waiting_of (cells cell)) < 2 ^ 63
roomy-room cells list roomy cell =
    let a = show-length roomy.items (roomy.queues (Row roomy.worker)) (filter (stands_in (Row roomy.worker)) roomy.pool) (roomy.shows.each (Row roomy.worker)) in
    let b = show-length roomy.items (roomy.queues (Waiting cell)) (filter (stands_in (Waiting cell)) roomy.pool) (roomy.shows.each (Waiting cell)) in
    let c = filters-apart (stands_in (Row roomy.worker)) (stands_in (Waiting cell)) (λ x is. stands-apart (Row roomy.worker) (Waiting cell) x is refl) roomy.pool in
    let d = ap length roomy.row in let e = ap length (roomy.waits cell) in let f = roomy.few in omega arith

spoiled-none : (o : Option Cell) → waiting_of (spoiled o) ≡ []
spoiled-none None = refl
spoiled-none (Some cell) = refl

pub spoiled-waits : (cells : ℕ → Option Cell) (queues : Key → List CoreBranch) (v cell : ℕ) → ((c : ℕ) → queues (Waiting c) ≡ waiting_of (cells c))
    → (other : ℕ) → woken_queues cell v starved queues (Waiting other) ≡ waiting_of (spoil_at cell cells other)
spoiled-waits cells queues v cell waits other =
    elim (each_way (nat_eq cell other)) [
      | inl same ↦
          ap (λ t. if t then [] else queues (Waiting other)) same
          ∙ sym (ap (λ t. waiting_of (if t then spoiled (cells cell) else cells other)) same ∙ spoiled-none (cells cell))
      | inr apart ↦
          ap (λ t. if t then [] else queues (Waiting other)) apart ∙ waits other
          ∙ sym (ap (λ t. waiting_of (if t then spoiled (cells cell) else cells other)) apart)
    ]

pub spoiled-row : (cells : ℕ → Option Cell) (queues : Key → List CoreBranch) (v cell : ℕ) (list : List CoreBranch) → queues (Row v) ≡ list → queues (Waiting cell) ≡ waiting_of (cells cell)
    → woken_queues cell v starved queues (Row v) ≡ list ++ map starved (waiting_of (cells cell))
spoiled-row cells queues v cell list row waits =
    ap (λ t. if t then queues (Row v) ++ map starved (queues (Waiting cell)) else queues (Row v)) (nat-self v)
    ∙ ap (λ l. l ++ map starved (queues (Waiting cell))) row ∙ ap (λ l. list ++ map starved l) waits

pub roomy-spoil : (cells : ℕ → Option Cell) (list : List CoreBranch) → IsRoomy cells list → (cell : ℕ) → IsRoomy (spoil_at cell cells) (list ++ map starved (waiting_of (cells cell)))
roomy-spoil cells list roomy cell = record {
  items = roomy.items;
  queues = woken_queues cell roomy.worker starved roomy.queues;
  holds = roomy.holds;
  pool = wake cell roomy.worker (ended Starved) roomy.pool;
  worker = roomy.worker;
  shows = wake-shows roomy.items roomy.queues roomy.holds roomy.pool roomy.shows cell roomy.worker starved (ended Starved) (starved-shows roomy.items);
  waits = spoiled-waits cells roomy.queues roomy.worker cell roomy.waits;
  row = spoiled-row cells roomy.queues roomy.worker cell list roomy.row (roomy.waits cell);
  few = let a = length-wake cell roomy.worker (ended Starved) roomy.pool in let b = roomy.few in omega arith;
}

-- one step of the loop
pub record Poisoned (left : List ℕ) (cells : ℕ → Option Cell) (list : List CoreBranch) (whole : ℕ → Option Cell) (all : List CoreBranch) : Type 0 where
  pub cells_same : cells_after left cells ≡ whole
  pub list_same : list_after left cells list ≡ all
  pub roomy : IsRoomy cells list

pub poisons : (signals left : List ℕ) (cell : ℕ) (cells cells' : ℕ → Option Cell) (list list' : List CoreBranch) (whole : ℕ → Option Cell) (all : List CoreBranch)
    → signals ≡ (cell ∷ []) ++ left → cells_after signals cells ≡ whole → list_after signals cells list ≡ all → IsRoomy cells list
    → ((other : ℕ) → cells' other ≡ spoil_at cell cells other) → list' ≡ list ++ map starved (waiting_of (cells cell)) → Poisoned left cells' list' whole all
poisons signals left cell cells cells' list list' whole all is same lists roomy spoils added =
    let e : cells' ≡ spoil_at cell cells = fun_ext spoils in
    record {
      cells_same = ap (cells_after left) e ∙ ap (λ l. cells_after l cells) (sym is) ∙ same;
      list_same = ap (λ (f : ℕ → Option Cell). list_after left f list') e ∙ ap (list_after left (spoil_at cell cells)) added ∙ ap (λ l. list_after l cells list) (sym is) ∙ lists;
      roomy = subst (λ (f : ℕ → Option Cell). IsRoomy f list') (sym e) (subst (IsRoomy (spoil_at cell cells)) (sym added) (roomy-spoil cells list roomy cell));
    }

-- Storing

differs : (a b : ℕ) → (a ≡ b → ⊥) → nat_eq a b ≡ false
differs a b apart = grind (arith, nat_tests)

pub stored-before : (number child : ℕ) (o : Outcome) (xs : List (Option Outcome)) → child < number → stored_from number child o xs ≡ xs
stored-before number child o [] before = refl
stored-before number child o (x ∷ xs) before =
    ap (λ (t : Bool). (if t then first_stored x o else x) ∷ stored_from (suc number) child o xs) (differs child number (λ e. absurd (omega (arith, e, before))))
    ∙ ap (λ l. x ∷ l) (stored-before (suc number) child o xs (omega (arith, before)))

pub stored-behind : (number child : ℕ) (o : Outcome) (xs : List (Option Outcome)) → number + length xs ≤ child → stored_from number child o xs ≡ xs
stored-behind number child o [] behind = refl
stored-behind number child o (x ∷ xs) behind =
    ap (λ (t : Bool). (if t then first_stored x o else x) ∷ stored_from (suc number) child o xs) (differs child number (λ e. absurd (omega (arith, e, behind))))
    ∙ ap (λ l. x ∷ l) (stored-behind (suc number) child o xs (omega (arith, behind)))

pub stored-there : (number n : ℕ) (o : Outcome) (xs back : List (Option Outcome)) → n < length xs
    → ((first : Option Outcome) (rest : List (Option Outcome)) → drop n xs ≡ first ∷ rest → back ≡ first_stored first o ∷ rest) → take n xs ++ back ≡ stored_from number (number + n) o xs
stored-there number n o [] back in_range stores = absurd (omega arith)
stored-there number zero o (x ∷ xs) back in_range stores =
    stores x xs refl
    ∙ sym (ap (λ (t : Bool). (if t then first_stored x o else x) ∷ stored_from (suc number) (number + 0) o xs) (let e : nat_eq (number + 0) number ≡ true = grind (arith, nat_tests) in e)
    ∙ ap (λ l. first_stored x o ∷ l) (stored-before (suc number) (number + 0) o xs (omega arith)))
stored-there number (suc n) o (x ∷ xs) back in_range stores =
    let e : suc number + n ≡ number + suc n = omega arith in
    ap (λ l. x ∷ l) (stored-there (suc number) n o xs back (omega (arith, in_range)) stores ∙ ap (λ k. stored_from (suc number) k o xs) e)
    ∙ sym (ap (λ (t : Bool). (if t then first_stored x o else x) ∷ stored_from (suc number) (number + suc n) o xs) (differs (number + suc n) number (λ h. absurd (omega (arith, h)))))

length-stored : (number child : ℕ) (o : Outcome) (xs : List (Option Outcome)) → length (stored_from number child o xs) ≡ length xs
length-stored number child o [] = refl
length-stored number child o (x ∷ xs) = ap suc (length-stored (suc number) child o xs)

pub stored-room : (n : ℕ) (o : Outcome) (xs back : List (Option Outcome)) → n < length xs
    → ((first : Option Outcome) (rest : List (Option Outcome)) → drop n xs ≡ first ∷ rest → back ≡ first_stored first o ∷ rest) → length (take n xs) + length back ≡ length xs
stored-room n o xs back in_range stores =
    let a = length-append (take n xs) back in let b = ap length (stored-there 1 n o xs back in_range stores) in let c = length-stored 1 (1 + n) o xs in omega arith

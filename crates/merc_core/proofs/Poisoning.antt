-- The lists of the core show the pool still, where cells are poisoned one after the other.
use Rattle.std.proofs.Common.{◌≡◌, ℕ, suc, ◌+◌, ◌≤◌, ◌⊎◌, inl, inr, Bool, true, false, List, [], ◌∷◌, ◌++◌, Some, None, refl, ap, sym, ◌∙◌, subst, arith, length}
use Rattle.std.specs.Prelude.{Option, map, if◌then◌else◌, nat_eq, ◌||◌, ◌&&◌, IsSome}
use Rattle.std.proofs.lemmas.Bool.Decides.{nat_tests}
use Rattle.std.specs.List.{AllByRecursion}
use Rattle.merc_script.specs.declared.outcome.Outcome.{Outcome}
use Rattle.merc_script.specs.declared.outcome.Outcome.TheVariants.{Starved}
use Rattle.merc_script.specs.declared.items.Item.{Item}
use Rattle.merc_script.specs.Script.{Children, NoChild, Child, Cell as ScriptCell, Move}
use Rattle.merc_core.specs.declared.branch.Branch.{Branch as CoreBranch}
use Rattle.merc_core.specs.declared.cell.Cell.{Cell}
use Rattle.merc_core.specs.World.{Branch, Holds, Spot, spot, Stored, stored_at}
use Rattle.merc_core.specs.Rights.{has, has_in}
use Rattle.merc_core.specs.Events.{ended, wake, poison, hold, hold_one, awaits}
use Rattle.merc_core.specs.Given.{IsSettled, AreLeft}
use Rattle.merc_core.specs.Queues.{meeting_at, waiting_of, starved, spoiled, spoil_at, cells_after, list_after, first_stored, stored_from}
use Rattle.merc_core.specs.Mirror.{Key, Hand, Row, Waiting, Parent, ShowsPool, ShowsCell, stored_for, FewIf, made, still_made}
use Rattle.merc_core.proofs.Pool.{each_way}
use Rattle.merc_core.proofs.Givings.{left-has}
use Rattle.merc_core.proofs.PoolMoves.{woken_queues, wake-shows}
use Rattle.merc_core.proofs.Waking.{still-wake, length-wake, has-in-added}
use Rattle.merc_core.proofs.Spoiling.{starved-shows, spoiled-waits, spoiled-row}

abbrev pub after_queues : List ℕ → ℕ → (Key → List CoreBranch) → Key → List CoreBranch
after_queues [] v queues = queues
after_queues (cell ∷ cells) v queues = after_queues cells v (woken_queues cell v starved queues)

pub poison-shows : (items : List Item) (signals : List ℕ) (v : ℕ) (queues : Key → List CoreBranch) (holds : ℕ → Option ℕ) (pool : List Spot) → ShowsPool items queues holds pool
    → ShowsPool items (after_queues signals v queues) holds (poison signals v pool)
poison-shows items [] v queues holds pool shows = shows
poison-shows items (cell ∷ cells) v queues holds pool shows =
    poison-shows items cells v (woken_queues cell v starved queues) holds (wake cell v (ended Starved) pool)
    (wake-shows items queues holds pool shows cell v starved (ended Starved) (starved-shows items))

pub after-hand : (signals : List ℕ) (v u : ℕ) (queues : Key → List CoreBranch) → after_queues signals v queues (Hand u) ≡ queues (Hand u)
after-hand [] v u queues = refl
after-hand (cell ∷ cells) v u queues = after-hand cells v u (woken_queues cell v starved queues)

pub after-parent : (signals : List ℕ) (v j : ℕ) (queues : Key → List CoreBranch) → after_queues signals v queues (Parent j) ≡ queues (Parent j)
after-parent [] v j queues = refl
after-parent (cell ∷ cells) v j queues = after-parent cells v j (woken_queues cell v starved queues)

pub after-other : (signals : List ℕ) (v u : ℕ) (queues : Key → List CoreBranch) → nat_eq v u ≡ false → after_queues signals v queues (Row u) ≡ queues (Row u)
after-other [] v u queues apart = refl
after-other (cell ∷ cells) v u queues apart =
    after-other cells v u (woken_queues cell v starved queues) apart ∙ ap (λ t. if t then queues (Row v) ++ map starved (queues (Waiting cell)) else queues (Row u)) apart

pub after-row : (signals : List ℕ) (v : ℕ) (queues : Key → List CoreBranch) (cells : ℕ → Option Cell) → ((c : ℕ) → queues (Waiting c) ≡ waiting_of (cells c)) → (list : List CoreBranch) → queues (Row v) ≡ list
    → after_queues signals v queues (Row v) ≡ list_after signals cells list
after-row [] v queues cells waits list row = row
after-row (cell ∷ rest) v queues cells waits list row =
    after-row rest v (woken_queues cell v starved queues) (spoil_at cell cells) (spoiled-waits cells queues v cell waits) (list ++ map starved (waiting_of (cells cell))) (spoiled-row cells queues v cell list row (waits cell))

pub after-cell : (signals : List ℕ) (v : ℕ) (queues : Key → List CoreBranch) (cells : ℕ → Option Cell) → ((c : ℕ) → queues (Waiting c) ≡ waiting_of (cells c)) → (other : ℕ)
    → after_queues signals v queues (Waiting other) ≡ waiting_of (cells_after signals cells other)
after-cell [] v queues cells waits other = waits other
after-cell (cell ∷ rest) v queues cells waits other = after-cell rest v (woken_queues cell v starved queues) (spoil_at cell cells) (spoiled-waits cells queues v cell waits) other

-- what is known of cells

abbrev Flags : Bool → Bool → Option Cell → Type 0
Flags full poisoned None = Unit {0}
Flags full poisoned (Some one) = (one.is_full ≡ full) × (one.is_poisoned ≡ poisoned)

spoiled-flags : (full poisoned : Bool) (o : Option Cell) → Flags full poisoned o → Flags full true (spoiled o)
spoiled-flags full poisoned None flags = tt
spoiled-flags full poisoned (Some one) flags = (flags.0, refl)

or-assoc : (a b c : Bool) → (a || b) || c ≡ a || (b || c)
or-assoc true b c = refl
or-assoc false b c = refl

or-yes : (a : Bool) → a || true ≡ true
or-yes true = refl
or-yes false = refl

or-nothing : (a : Bool) → a || false ≡ a
or-nothing true = refl
or-nothing false = refl

flags-after : (signals : List ℕ) (cells : ℕ → Option Cell) (other : ℕ) (full poisoned : Bool) → Flags full poisoned (cells other) → Flags full (poisoned || has other signals) (cells_after signals cells other)
flags-after [] cells other full poisoned flags = subst (λ t. Flags full t (cells other)) (sym (or-nothing poisoned)) flags
flags-after (cell ∷ rest) cells other full poisoned flags =
    subst (λ t. Flags full t (cells_after rest (spoil_at cell cells) other)) (or-assoc poisoned (nat_eq cell other) (has other rest))
    (flags-after rest (spoil_at cell cells) other full (poisoned || nat_eq cell other)
    (elim (each_way (nat_eq cell other)) [
      | inl same ↦
          subst (λ t. Flags full (poisoned || t) (if t then spoiled (cells cell) else cells other)) (sym same)
          (subst (λ t. Flags full t (spoiled (cells cell))) (sym (or-yes poisoned)) (spoiled-flags full poisoned (cells cell) (subst (λ n. Flags full poisoned (cells n)) (sym (same-cell cell other same)) flags)))
      | inr apart ↦
          subst (λ t. Flags full (poisoned || t) (if t then spoiled (cells cell) else cells other)) (sym apart) (subst (λ t. Flags full t (cells other)) (sym (or-nothing poisoned)) flags)
    ]))
  where
    same-cell : (a b : ℕ) → nat_eq a b ≡ true → a ≡ b
    same-cell a b test = grind (arith, nat_tests)

-- the flags of a cell, and what a branch finds there
record Meets (cell : ℕ) (full : List ℕ) (poisoned : List (List ℕ)) (o : Option Cell) : Type 0 where
  is_full : Bool
  is_poisoned : Bool
  flags : Flags is_full is_poisoned o
  meets : meeting_at is_full is_poisoned ≡ meeting_at (has cell full) (has_in cell poisoned)

shows-meets : (cell : ℕ) (full : List ℕ) (poisoned : List (List ℕ)) (o : Option Cell) → ShowsCell cell full poisoned o → Meets cell full poisoned o
shows-meets cell full poisoned None shows = record { is_full = has cell full; is_poisoned = has_in cell poisoned; flags = tt; meets = refl }
shows-meets cell full poisoned (Some one) shows = record { is_full = one.is_full; is_poisoned = one.is_poisoned; flags = (refl, refl); meets = shows }

meets-show : (cell : ℕ) (full : List ℕ) (poisoned : List (List ℕ)) (a b : Bool) (o : Option Cell) → Flags a b o → meeting_at a b ≡ meeting_at (has cell full) (has_in cell poisoned) → ShowsCell cell full poisoned o
meets-show cell full poisoned a b None flags meets = tt
meets-show cell full poisoned a b (Some one) flags meets = ap (λ t. meeting_at t one.is_poisoned) flags.0 ∙ ap (meeting_at a) flags.1 ∙ meets

-- what is found where more is poisoned, if it is the same that is poisoned or the cell is settled
meeting-more : (a b c d x y : Bool) → meeting_at a b ≡ meeting_at c d → ((c ≡ true) ⊎ (d ≡ true)) ⊎ (x ≡ y) → meeting_at a (b || x) ≡ meeting_at c (d || y)
meeting-more true b true d x y same way = refl
meeting-more true b false true x y same way = absurd (cc)
meeting-more true b false false x y same way = absurd (cc)
meeting-more false true true d x y same way = absurd (cc)
meeting-more false false true d x y same way = absurd (cc)
meeting-more false true false true x y same way = refl
meeting-more false true false false x y same way = absurd (cc)
meeting-more false false false true x y same way = absurd (cc)
meeting-more false false false false x y same (inl (inl full)) = absurd (cc)
meeting-more false false false false x y same (inl (inr poisoned)) = absurd (cc)
meeting-more false false false false x y same (inr is) = ap (meeting_at false) is

pub poisoned-shows : (full : List ℕ) (poisoned : List (List ℕ)) {had some : List ℕ} → AreLeft (IsSettled full poisoned) had some → (cells : ℕ → Option Cell) (cell : ℕ) → ShowsCell cell full poisoned (cells cell)
    → ShowsCell cell full (poisoned ++ (some ∷ [])) (cells_after had cells cell)
poisoned-shows full poisoned {had} {some} lies cells cell shows =
    let m = shows-meets cell full poisoned (cells cell) shows in
    meets-show cell full (poisoned ++ (some ∷ [])) m.is_full (m.is_poisoned || has cell had) (cells_after had cells cell) (flags-after had cells cell m.is_full m.is_poisoned m.flags)
    (meeting-more m.is_full m.is_poisoned (has cell full) (has_in cell poisoned) (has cell had) (has cell some) m.meets (left-has (IsSettled full poisoned) lies cell)
    ∙ ap (meeting_at (has cell full)) (sym (has-in-added cell poisoned some ∙ ap (λ t. has_in cell poisoned || t) (or-nothing (has cell some)))))

spoiled-some : (o : Option Cell) → IsSome o → IsSome (spoiled o)
spoiled-some (Some one) some = refl
spoiled-some None some = absurd (cc)

either-some : (b : Bool) (o p : Option Cell) → IsSome o → (b ≡ true → IsSome p) → IsSome (if b then p else o)
either-some true o p some other = other refl
either-some false o p some other = some

pub some-after : (signals : List ℕ) (cells : ℕ → Option Cell) (other : ℕ) → IsSome (cells other) → IsSome (cells_after signals cells other)
some-after [] cells other some = some
some-after (cell ∷ rest) cells other some =
    some-after rest (spoil_at cell cells) other
    (either-some (nat_eq cell other) (cells other) (spoiled (cells cell)) some (λ same. spoiled-some (cells cell) (subst (λ n. IsSome (cells n)) (sym (same-cell cell other same)) some)))
  where
    same-cell : (a b : ℕ) → nat_eq a b ≡ true → a ≡ b
    same-cell a b test = grind (arith, nat_tests)

-- room

pub still-poison : (each : ℕ → List ScriptCell → List Move → ℕ) (signals : List ℕ) (v : ℕ) (xs : List Spot) → still_made each (poison signals v xs) ≤ still_made each xs
still-poison each [] v xs = omega arith
still-poison each (cell ∷ rest) v xs =
    let a = still-poison each rest v (wake cell v (ended Starved) xs) in let b = still-wake each cell v (ended Starved) (λ c. omega arith) xs in omega arith

pub length-poison : (signals : List ℕ) (v : ℕ) (xs : List Spot) → length (poison signals v xs) ≤ length xs
length-poison [] v xs = omega arith
length-poison (cell ∷ rest) v xs = let a = length-poison rest v (wake cell v (ended Starved) xs) in let b = length-wake cell v (ended Starved) xs in omega arith

held-rest : (v join : ℕ) (x : Spot) → (hold_one v join x).branch ≡ x.branch
held-rest v join x = elim (each_way (awaits join x)) [
  | inl is ↦ either (awaits join x)
  | inr is ↦ either (awaits join x)
]
  where
    either : (b : Bool) → (if b then spot (Holds v join) x.branch else x).branch ≡ x.branch
    either true = refl
    either false = refl

pub still-hold : (each : ℕ → List ScriptCell → List Move → ℕ) (v join : ℕ) (xs : List Spot) → still_made each (hold v join xs) ≡ still_made each xs
still-hold each v join [] = refl
still-hold each v join (x ∷ xs) =
    ap (λ (b : Branch). made each b.rest + still_made each (hold v join xs)) (held-rest v join x) ∙ ap (λ n. made each x.branch.rest + n) (still-hold each v join xs)

pub length-hold : (v join : ℕ) (xs : List Spot) → length (hold v join xs) ≡ length xs
length-hold v join [] = refl
length-hold v join (x ∷ xs) = ap suc (length-hold v join xs)

-- what is stored

stored-more : (stored : List Stored) (new : Stored) (join child : ℕ) → (nat_eq new.join join ≡ false) ⊎ (nat_eq new.child child ≡ false) → stored_at join child (stored ++ (new ∷ [])) ≡ stored_at join child stored
stored-more [] new join child apart = elim apart [
  | inl one ↦ ap (λ t. if (t && nat_eq new.child child) then Some new.outcome else None) one
  | inr one ↦ ap (λ t. if (nat_eq new.join join && t) then Some new.outcome else None) one ∙ ap (λ t. if t then Some new.outcome else None) (and-no (nat_eq new.join join))
]
  where
    and-no : (b : Bool) → b && false ≡ false
    and-no true = refl
    and-no false = refl
stored-more (first ∷ rest) new join child apart = ap (λ o. if (nat_eq first.join join && nat_eq first.child child) then Some first.outcome else o) (stored-more rest new join child apart)

stored-now : (stored : List Stored) (new : Stored) (join child : ℕ) → nat_eq new.join join ≡ true → nat_eq new.child child ≡ true
    → stored_at join child (stored ++ (new ∷ [])) ≡ first_stored (stored_at join child stored) new.outcome
stored-now [] new join child one other =
    ap (λ t. if (t && nat_eq new.child child) then Some new.outcome else None) one ∙ ap (λ t. if t then Some new.outcome else None) other
stored-now (first ∷ rest) new join child one other = step (nat_eq first.join join && nat_eq first.child child) (stored_at join child rest) (stored_at join child (rest ++ (new ∷ []))) (stored-now rest new join child one other)
  where
    step : (b : Bool) (o p : Option Outcome) → p ≡ first_stored o new.outcome → (if b then Some first.outcome else p) ≡ first_stored (if b then Some first.outcome else o) new.outcome
    step true o p is = refl
    step false o p is = is

-- what is stored for another join stays
pub stored-apart : (stored : List Stored) (new : Stored) (join from : ℕ) (all : Children) → nat_eq new.join join ≡ false → stored_for (stored ++ (new ∷ [])) join from all ≡ stored_for stored join from all
stored-apart stored new join from NoChild apart = refl
stored-apart stored new join from (Child first more) apart =
    ap (λ o. o ∷ stored_for (stored ++ (new ∷ [])) join (suc from) more) (stored-more stored new join from (inl apart)) ∙ ap (λ l. stored_at join from stored ∷ l) (stored-apart stored new join (suc from) more apart)

pub stored-here : (stored : List Stored) (new : Stored) (join from : ℕ) (all : Children) → nat_eq new.join join ≡ true
    → stored_for (stored ++ (new ∷ [])) join from all ≡ stored_from from new.child new.outcome (stored_for stored join from all)
stored-here stored new join from NoChild one = refl
stored-here stored new join from (Child first more) one =
    ap (λ l. stored_at join from (stored ++ (new ∷ [])) ∷ l) (stored-here stored new join (suc from) more one)
    ∙ ap (λ o. o ∷ stored_from (suc from) new.child new.outcome (stored_for stored join (suc from) more))
    (elim (each_way (nat_eq new.child from)) [
      | inl other ↦ stored-now stored new join from one other ∙ sym (ap (λ t. if t then first_stored (stored_at join from stored) new.outcome else stored_at join from stored) other)
      | inr other ↦ stored-more stored new join from (inr other) ∙ sym (ap (λ t. if t then first_stored (stored_at join from stored) new.outcome else stored_at join from stored) other)
    ])

few-first : (first : Option Outcome) (o : Outcome) (b : Bool) → FewIf first → FewIf (Some o) → FewIf (if b then first_stored first o else first)
few-first None o true few new = new
few-first (Some before) o true few new = few
few-first first o false few new = few

pub few-stored : (from child : ℕ) (o : Outcome) (xs : List (Option Outcome)) → AllByRecursion FewIf xs → FewIf (Some o) → AllByRecursion FewIf (stored_from from child o xs)
few-stored from child o [] few new = tt
few-stored from child o (x ∷ xs) few new = (few-first x o (nat_eq child from) few.0 new, few-stored (suc from) child o xs few.1 new)

-- The rule of a join: one word that counts the children to come, a slot for each child's outcome and a last one for the parent, and seats that stand for children. And what each step tells.
use Rattle.std.specs.Prelude.{◌≡◌, ◌≢◌, ◌⊎◌, ℕ, zero, suc, ◌+◌, ◌-◌, ◌<◌, ◌≤◌, Bool, true, false, ◌==◌, if◌then◌else◌, List, [], ◌∷◌, ◌++◌, map, replicate, sum_by}
use mathlib.Core.Option.{Option, none, some}
use lib.ListN.{get_elem?}
use Rattle.atomic_table.specs.Table.{State, Me, rest}
use Rattle.atomic_table.specs.Seated.{TableId}
use Rattle.merc_script.specs.declared.outcome.Outcome.{Outcome}
use Rattle.merc_join.specs.declared.stub.Slot.{Slot}
use Rattle.merc_join.specs.declared.stub.Slot.TheVariants.{Empty, Ended, Parent}
use Rattle.merc_join.specs.declared.stub.Stage.{Stage}
use Rattle.merc_join.specs.declared.stub.Stage.TheVariants.{Making, Bringing, Waiting, Holding, Stopped, Last, Over}
use Rattle.merc_join.specs.declared.stub.Stub.{Stub}

abbrev pub most_children : ℕ
most_children = 64

-- What became of the slot for a child's outcome: nothing lies there, or the child's seat has it, or the outcome lies there
pub data Progress : Type 0 where
  Missing : Progress
  Carried : Progress
  Here : (outcome : Outcome) → Progress

-- one child: the seat that stands for it, and its slot
pub record Mark : Type 0 where
  pub seat : ℕ
  pub progress : Progress

abbrev pub mark : ℕ → Progress → Mark
mark seat progress = record { seat = seat; progress = progress }

-- how much of the count is the child's
abbrev pub due : Progress → ℕ
due Missing = 1
due Carried = 1
due (Here outcome) = 0

-- how many children are still to come
abbrev pub to_come : List Mark → ℕ
to_come marks = sum_by (λ m. due m.progress) marks

-- how far the seat of such a child has come
pub data Agree : Stage → Progress → Type 0 where
  waiting : Agree Waiting Missing
  holding : Agree Holding Carried
  stopped : (outcome : Outcome) → Agree Stopped (Here outcome)

-- a seat has counted its child
abbrev pub has_stopped : Stage → Bool
has_stopped Making = false
has_stopped Bringing = false
has_stopped Waiting = false
has_stopped Holding = false
has_stopped Stopped = true
has_stopped Last = true
has_stopped Over = true

-- and no other child was still to come
abbrev pub is_last : Stage → Bool
is_last Making = false
is_last Bringing = false
is_last Waiting = false
is_last Holding = false
is_last Stopped = false
is_last Last = true
is_last Over = true

-- a seat of a table that has a join's word
abbrev pub IsSeated : TableId → TableId → Type 0
IsSeated seat table = (seat ≡ table) × (table.words ≡ 1)

module _ {P : Type 0} where
  abbrev pub stub : P → ℕ → ℕ → Stage → Slot P → ℕ → Stub P
  stub parent child many stage put taken = record { parent = parent; child = child; many = many; stage = stage; put = put; taken = taken }

  -- the view of the first seat, before the parent is there
  abbrev pub first_stub : P → ℕ → Stub P
  first_stub parent children = stub parent 0 children Making Empty 0

  -- a seat for these children that has done nothing
  abbrev pub begun : P → ℕ → ℕ → Stub P
  begun parent child many = stub parent child many Waiting Empty 0

  -- what is left of a seat when its first child gets a seat of its own, and that seat
  abbrev pub after_split : Stub P → Stub P
  after_split v = begun v.parent (v.child + 1) (v.many - 1)

  abbrev pub split_off : Stub P → Stub P
  split_off v = begun v.parent v.child 1

  -- the seat stands for this child
  abbrev pub Covers : Stub P → ℕ → Type 0
  Covers v child = (v.child ≤ child) × (child < v.child + v.many)

  abbrev pub slot_at : Progress → Option (Slot P)
  slot_at Missing = some Empty
  slot_at Carried = none
  slot_at (Here outcome) = some (Ended outcome)

  -- the slots of these children
  abbrev pub slots_of : List Mark → List (Option (Slot P))
  slots_of marks = map (λ m. slot_at m.progress) marks

  -- the slots of these outcomes, when some from the front on were taken out
  abbrev pub left_of : ℕ → List Outcome → List (Option (Slot P))
  left_of taken [] = []
  left_of zero (outcome ∷ more) = some (Ended outcome) ∷ left_of zero more
  left_of (suc taken) (outcome ∷ more) = none ∷ left_of taken more

  -- a seat that stands for a child has come as far as the child's slot, and stands for more than one child only while it waits
  pub record Fits (about : P) (marks : List Mark) (seat : ℕ) (v : Stub P) : Type 0 where
    pub parent : v.parent ≡ about
    pub some_child : 0 < v.many
    pub alone : (v.stage ≡ Waiting) ⊎ (v.many ≡ 1)
    pub marked : (child : ℕ) → Covers v child → (m : Mark) × (get_elem? marks child ≡ some m) × (m.seat ≡ seat) × Agree v.stage m.progress

  -- a seat has put the outcome that is its child's
  abbrev pub Own : List Outcome → Stub P → Type 0
  Own outcomes v = (outcome : Outcome) × (v.put ≡ Ended outcome) × (get_elem? outcomes v.child ≡ some outcome)

module _ {P : Type 0} (ends : P → ℕ → Outcome → Type 0) (parent : P) where
  -- a child's seat, and how the child ended
  pub record Stands (seats : List (Stub P)) (child : ℕ) (m : Mark) : Type 0 where
    pub seat : Stub P
    pub at : get_elem? seats m.seat ≡ some seat
    pub covers : Covers seat child
    pub end : (outcome : Outcome) → m.progress ≡ Here outcome → ends parent child outcome

  -- some child is still to come
  pub record Running (marks : List Mark) (seats : List (Stub P)) : Type 0 where
    pub some_missing : 0 < to_come marks
    pub each : (j : ℕ) (v : Stub P) → get_elem? seats j ≡ some v → Fits parent marks j v
    pub owned : (child : ℕ) (m : Mark) → get_elem? marks child ≡ some m → Stands seats child m

  -- all children have ended: one seat is at this stage and has taken so many outcomes, and the others have stopped
  pub record Ending (outcomes : List Outcome) (last : ℕ) (stage : Stage) (taken : ℕ) (seats : List (Stub P)) : Type 0 where
    pub end : (child : ℕ) (outcome : Outcome) → get_elem? outcomes child ≡ some outcome → ends parent child outcome
    pub each : (j : ℕ) (v : Stub P) → get_elem? seats j ≡ some v
        → (v.parent ≡ parent) × (((j ≡ last) × (v.stage ≡ stage) × (v.taken ≡ taken) × Own outcomes v) ⊎ ((j ≢ last) × (v.stage ≡ Stopped)))
    pub there : (v : Stub P) × (get_elem? seats last ≡ some v)

  -- The word, the slots at home, and the seats: before the parent is there, while it is brought, while children are to come, while the last seat takes the outcomes, and when it has taken the parent
  pub data Reached : List ℕ → List (Option (Slot P)) → List (Stub P) → Type 0 where
    making : (children : ℕ) → 0 < children → Reached (children ∷ []) (replicate children (some Empty) ++ some Empty ∷ []) (first_stub parent children ∷ [])
    bringing : (children : ℕ) → 0 < children → Reached (children ∷ []) (replicate children (some Empty) ++ none ∷ []) (stub parent 0 children Bringing Empty 0 ∷ [])
    running : (marks : List Mark) (seats : List (Stub P)) → Running marks seats → Reached (to_come marks ∷ []) (slots_of marks ++ some (Parent parent) ∷ []) seats
    ending : (outcomes : List Outcome) (last taken : ℕ) (seats : List (Stub P)) → Ending outcomes last Last taken seats → Reached (0 ∷ []) (left_of taken outcomes ++ some (Parent parent) ∷ []) seats
    over : (outcomes : List Outcome) (last taken : ℕ) (seats : List (Stub P)) → Ending outcomes last Over taken seats → Reached (0 ∷ []) (left_of taken outcomes ++ none ∷ []) seats

  abbrev pub Kept : State (Slot P) (Stub P) → Type 0
  Kept s = Reached s.words s.homes s.views

module _ {P : Type 0} where
  -- a seat that has done nothing and stands for this child alone
  abbrev pub IsBegun : ℕ → Me (Slot P) (Stub P) → Type 0
  IsBegun child m = m ≡ (begun m.0.parent child 1, [])

  -- what the slot taken last holds
  abbrev pub last : List (ℕ × Slot P) → Slot P
  last [] = Empty
  last (x ∷ xs) = x.1

  abbrev pub TookPlace : Me (Slot P) (Stub P) → Me (Slot P) (Stub P) → Type 0
  TookPlace m n = (n.0 ≡ stub m.0.parent m.0.child m.0.many Bringing Empty 0) × (n.1 ≡ (m.0.many, Empty) ∷ m.1)

  abbrev pub Brought : Me (Slot P) (Stub P) → Me (Slot P) (Stub P) → Type 0
  Brought m n = (n.0 ≡ begun m.0.parent m.0.child m.0.many) × (n.1 ≡ rest m.1)

  abbrev pub Grabbed : Me (Slot P) (Stub P) → Me (Slot P) (Stub P) → Type 0
  Grabbed m n = (n.0 ≡ stub m.0.parent m.0.child 1 Holding Empty 0) × (n.1 ≡ (m.0.child, Empty) ∷ m.1)

  -- the last is told by the number that it found
  abbrev pub Counted : Me (Slot P) (Stub P) → ℕ → Me (Slot P) (Stub P) → Type 0
  Counted m found n = (n.0 ≡ stub m.0.parent m.0.child 1 (if found == 1 then Last else Stopped) (last m.1) 0) × (n.1 ≡ rest m.1)

  -- the outcome of the next child, which is the one that the seat put if the child is its own
  abbrev pub GotOutcome : (P → ℕ → Outcome → Type 0) → Me (Slot P) (Stub P) → Me (Slot P) (Stub P) → Type 0
  GotOutcome ends m n = (n.0 ≡ stub m.0.parent m.0.child m.0.many Last m.0.put (m.0.taken + 1))
      × ((outcome : Outcome) × (n.1 ≡ (m.0.taken, Ended outcome) ∷ m.1) × ends m.0.parent m.0.taken outcome × (m.0.taken ≡ m.0.child → m.0.put ≡ Ended outcome))

  abbrev pub GotParent : Me (Slot P) (Stub P) → Me (Slot P) (Stub P) → Type 0
  GotParent m n = (n.0 ≡ stub m.0.parent m.0.child m.0.many Over m.0.put m.0.taken) × (n.1 ≡ (m.0.taken, Parent m.0.parent) ∷ m.1)

  -- one seat at most is the last; where one is, all have counted their children; and where all have, one is the last
  pub record OneIsLast (seats : List (Stub P)) : Type 0 where
    pub once : (j k : ℕ) (v w : Stub P) → get_elem? seats j ≡ some v → get_elem? seats k ≡ some w → is_last v.stage ≡ true → is_last w.stage ≡ true → j ≡ k
    pub behind : (j k : ℕ) (v w : Stub P) → get_elem? seats j ≡ some v → get_elem? seats k ≡ some w → is_last v.stage ≡ true → has_stopped w.stage ≡ true
    pub surely : ((j : ℕ) (v : Stub P) → get_elem? seats j ≡ some v → has_stopped v.stage ≡ true) → (j : ℕ) × (v : Stub P) × (get_elem? seats j ≡ some v) × (is_last v.stage ≡ true)

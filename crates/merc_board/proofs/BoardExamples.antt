-- What the definitions of a board say.
use Rattle.std.proofs.Common.{◌≡◌, ℕ, suc, Bool, true, false, List, [], ◌∷◌, inl, inr, refl, sym, ap, ◌∙◌, arith}
use Rattle.std.specs.Prelude.{Option, Some, None}
use Rattle.merc_value.specs.Block.{BlockData}
use Rattle.merc_script.specs.declared.outcome.Outcome.TheVariants.{Ok as Fine, Raise, Limit, Starved, NoMemory}
use Rattle.merc_script.specs.Script.{Script, Ends, TickThen, WaitThen, SignalThen, ForkThen, Child, NoChild}
use Rattle.merc_script.specs.Places.{Place, left_of}
use Rattle.merc_board.specs.declared.fork.SharedCell.{SharedCell}
use Rattle.merc_board.specs.declared.fork.Handover.{Handover}
use Rattle.merc_board.specs.declared.branch.Woken.TheVariants.{No, Value, Starved as WokenStarved}
use Rattle.merc_board.specs.declared.branch.Pace.TheVariants.{On, Over}
use Rattle.merc_board.specs.declared.branch.Resumed.TheVariants.{Outcome as JoinedTo}
use Rattle.merc_board.specs.Rights.{Due, Owed, Rights, wait_for, signal_for, child_rights, parent_rights}
use Rattle.merc_board.specs.Going.{start, next, child_place, Ticked}
use Rattle.merc_board.specs.Boarding.{IsGiven, IsFound, MayEnd, at_end, lost, starves, IsJoined, MayReport, MayGoOn, IsCut}

abbrev due : ℕ → ℕ → Due
due variable cell = record { variable = variable; cell = cell }

abbrev owed : ℕ → ℕ → ℕ → Owed
owed variable consumer cell = record { variable = variable; consumer = consumer; cell = cell }

-- the first of two rights to wait for one variable
pub waits-first : wait_for 4 (due 3 7 ∷ due 4 8 ∷ due 4 9 ∷ []) ≡ Some (8, due 3 7 ∷ due 4 9 ∷ [])
waits-first = refl

pub waits-none : wait_for 5 (due 3 7 ∷ due 4 8 ∷ []) ≡ None
waits-none = refl

-- the signal for the child that comes sooner, the parent last, and of two for one child the first
pub signals-sooner : signal_for 4 (owed 4 0 7 ∷ owed 4 3 8 ∷ owed 4 2 9 ∷ owed 4 2 10 ∷ []) ≡ Some (owed 4 2 9, owed 4 0 7 ∷ owed 4 3 8 ∷ owed 4 2 10 ∷ [])
signals-sooner = refl

-- A fork of two children. The first signals variable 4 for the second and for the parent, through cells 7 and 8; the parent's rights under 5 move into the second.
abbrev shared : List SharedCell
shared = record { variable = 4; producer = 1; consumer = 2 } ∷ record { variable = 4; producer = 1; consumer = 0 } ∷ []

abbrev given : List Handover
given = record { variable = 5; child = 2; signal = true } ∷ []

abbrev had : Rights
had = record { waits = due 5 1 ∷ []; signals = owed 5 0 2 ∷ owed 6 0 3 ∷ [] }

pub first-child : child_rights shared given (7 ∷ 8 ∷ []) had 1 ≡ record { waits = []; signals = owed 4 2 7 ∷ owed 4 0 8 ∷ [] }
first-child = refl

pub second-child : child_rights shared given (7 ∷ 8 ∷ []) had 2 ≡ record { waits = due 4 7 ∷ []; signals = owed 5 0 2 ∷ [] }
second-child = refl

-- the right to wait under 5 does not move, and the parent has no right more to signal under it
pub parent-behind : parent_rights shared given (7 ∷ 8 ∷ []) had ≡ record { waits = due 4 8 ∷ due 5 1 ∷ []; signals = owed 6 0 3 ∷ [] }
parent-behind = refl

-- a root that makes two Ticks, forks two children and waits for cell 7
abbrev root : Script
root = TickThen (TickThen (ForkThen 10 [] [] (Child (Ends (Fine 1)) (Child (Ends (Raise 3 2)) NoChild)) (WaitThen 7 (Ends (Fine 5)))))

abbrev at : ℕ → Place
at passed = record { root = root; name = []; passed = passed }

pub ticked-two : Ticked (start root) 2 (at 2)
ticked-two = record { same_root = refl; same_name = refl; passed = refl; rest = ForkThen 10 [] [] (Child (Ends (Fine 1)) (Child (Ends (Raise 3 2)) NoChild)) (WaitThen 7 (Ends (Fine 5))); before = refl; after = refl }

-- a fork is no Tick
pub ticked-fork : Ticked (at 2) 1 (at 3) → ⊥
ticked-fork ticked = absurd (let fork = ticked.before in cc (fork))

pub child-begins : left_of (child_place (at 2) 2) ≡ Some (Ends (Raise 3 2))
child-begins = refl

-- a branch whose own script is left as at one place, where its load stands too
abbrev is_at : ℕ → Place → Type 0
is_at passed place = place ≡ at passed

abbrev no_block : BlockData
no_block = record { cells = []; roots = [] }

abbrev shows : ℕ → BlockData → Type 0
shows cell value = (cell ≡ 7) × (value ≡ no_block)

-- it stands where it is its own, or waited, and is given its cell's value
pub found-standing : IsFound (is_at 2) (is_at 2) (is_at 3) shows ⊥ No
found-standing = (at 2, refl, refl)

pub found-given : IsFound (is_at 4) (is_at 2) (is_at 3) shows ⊥ (Value no_block)
found-given = record { at = at 3; cell = 7; rest = Ends (Fine 5); left = refl; owned = refl; waiting = refl; shown = (refl, refl) }

-- at a fork no value is given
pub found-forking : IsFound (is_at 3) (is_at 2) (is_at 2) shows ⊥ (Value no_block) → ⊥
found-forking told = absurd (let here = told.waiting in let left = told.left in let fork : left_of (at 2) ≡ Some (WaitThen told.cell told.rest) = ap left_of (sym here) ∙ left in cc (fork))

-- at its script's end a branch may end so, and anywhere for want of memory
pub ends-there : MayEnd (is_at 4) (is_at 4) (Unit {0}) ⊥ (Fine 5)
ends-there = at_end (at 4) (Fine 5) refl refl refl

pub ends-lost : MayEnd (is_at 2) (is_at 2) (Unit {0}) ⊥ NoMemory
ends-lost = lost tt

-- but not as Starved, if it did not starve, and not with another end
pub ends-starved : MayEnd (is_at 2) (is_at 2) (Unit {0}) ⊥ Starved → ⊥
ends-starved (at_end place _ own left _) = absurd (let fork : left_of (at 2) ≡ Some (Ends Starved) = ap left_of (sym own) ∙ left in cc (fork))
ends-starved (starves starved) = starved

pub ends-otherwise : MayEnd (is_at 4) (is_at 4) (Unit {0}) ⊥ Limit → ⊥
ends-otherwise (at_end place _ own left _) = absurd (let end : left_of (at 4) ≡ Some (Ends Limit) = ap left_of (sym own) ∙ left in cc (end))

-- the children of the fork are joined to the exception, or memory was refused
pub joined-truly : IsJoined (is_at 3) ⊥ ⊥ (at 2) 10 (Child (Ends (Fine 1)) (Child (Ends (Raise 3 2)) NoChild)) (Raise 3 3)
joined-truly = (refl, refl)

pub joined-otherwise : IsJoined (is_at 3) ⊥ ⊥ (at 2) 10 (Child (Ends (Fine 1)) (Child (Ends (Raise 3 2)) NoChild)) (Fine 3) → ⊥
joined-otherwise joined = absurd (let fine = joined.0 in cc (fine))

-- 255 steps of a branch may be reported where the seat may run, of the root any number, and 256 of another not
pub reports-slice : MayReport (Unit {0}) false 300 255
reports-slice = record { within = omega arith; allowed = inr (inr (omega arith, tt)) }

pub reports-root : MayReport ⊥ true 300 300
reports-root = record { within = omega arith; allowed = inl refl }

pub reports-more : MayReport (Unit {0}) false 300 256 → ⊥
reports-more report = absurd (elim report.allowed as (λ _. ⊥) [ inl root ↦ (cc (root)) | inr rest ↦ (elim rest as (λ _. ⊥) [ inl none ↦ omega (arith, none) | inr few ↦ (let short = few.0 in omega (arith, short)) ]) ])

-- a branch that is cut has starved
pub goes-on : MayGoOn (Unit {0}) false On × IsCut ⊥ On
goes-on = (tt, tt)

pub cut-short : IsCut ⊥ Over → ⊥
cut-short cut = cut

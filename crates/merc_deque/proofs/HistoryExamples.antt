-- What the definitions of a deque's history say.
use Rattle.std.proofs.Common.{◌≡◌, ◌≤◌, ℕ, length, List, [], ◌∷◌, refl, arith}
use Rattle.merc_deque.specs.declared.moves.Kind.TheVariants.{Pushed, Popped, Stole}
use Rattle.merc_deque.specs.declared.moves.Move.{Move}
use Rattle.merc_deque.proofs.Keeping.{lost_none}
use Rattle.merc_deque.specs.History.{move, known, newcomer, moves_of, Leaves, none, pushes, pops, steals, Made, Emptied, HeldFew, NothingIsLost}

-- of three sparks the thief takes the first, and the worker the last
pub leaves-middle : Leaves {T = ℕ} (move 0 Pushed 7 ∷ move 0 Pushed 8 ∷ move 0 Pushed 9 ∷ move 1 Stole 7 ∷ move 0 Popped 9 ∷ []) (8 ∷ [])
leaves-middle = pops (move 0 Pushed 7 ∷ move 0 Pushed 8 ∷ move 0 Pushed 9 ∷ move 1 Stole 7 ∷ []) (8 ∷ []) 0 9
    (steals (move 0 Pushed 7 ∷ move 0 Pushed 8 ∷ move 0 Pushed 9 ∷ []) (8 ∷ 9 ∷ []) 1 7
    (pushes (move 0 Pushed 7 ∷ move 0 Pushed 8 ∷ []) (7 ∷ 8 ∷ []) 0 9 (pushes (move 0 Pushed 7 ∷ []) (7 ∷ []) 0 8 (pushes [] [] 0 7 none))))

-- the thief's own move
pub moves_of-thief : moves_of {T = ℕ} 1 (move 0 Pushed 7 ∷ move 1 Stole 7 ∷ []) ≡ move 1 Stole 7 ∷ []
moves_of-thief = refl

-- one push and two takes leave nothing that can lie in a deque
pub leaves-doubled : (sparks : List ℕ) → Leaves (move 0 Pushed 7 ∷ move 0 Popped 7 ∷ move 1 Stole 7 ∷ []) sparks → ⊥
leaves-doubled sparks after = absurd (let weights = lost_none _ sparks after (λ _. 1) in omega arith)

-- one push by the worker, whose pass has number 0
abbrev pushed : List (Move ℕ)
pushed = move 0 Pushed 7 ∷ []

pub leaves-pushed : Leaves pushed (7 ∷ [])
leaves-pushed = pushes [] [] 0 7 none

-- a pop takes the spark that lies there, and is one more of the worker's moves
pub made-pop : Made Popped (known pushed pushed) 7 (known (move 0 Pushed 7 ∷ move 0 Popped 7 ∷ []) (move 0 Pushed 7 ∷ move 0 Popped 7 ∷ []))
made-pop = (0, pushed, [], ([], refl), leaves-pushed, refl, refl, refl)

-- a thief's steal goes on from a history of which it had seen nothing
pub made-steal : Made {T = ℕ} Stole newcomer 7 (known (move 0 Pushed 7 ∷ move 1 Stole 7 ∷ []) (move 1 Stole 7 ∷ []))
made-steal = (1, pushed, [], (pushed, refl), leaves-pushed, refl, refl, refl)

-- What is pushed may be gone at once: a deque may be empty that the worker has not seen so, and it may hold few.
abbrev stolen : List (Move ℕ)
stolen = move 0 Pushed 7 ∷ move 1 Stole 7 ∷ []

pub leaves-stolen : Leaves stolen []
leaves-stolen = steals pushed [] 1 7 leaves-pushed

pub emptied-stolen : Emptied (known pushed pushed)
emptied-stolen = (0, stolen, ((move 1 Stole 7 ∷ [], refl), refl), leaves-stolen)

pub held-stolen : HeldFew (known pushed pushed)
held-stolen = (0, stolen, [], ((move 1 Stole 7 ∷ [], refl), refl), leaves-stolen, omega arith)

-- a spark that was pushed and neither taken nor left is lost
pub lost-pushed : NothingIsLost pushed [] → ⊥
lost-pushed kept = absurd (let weights = kept (λ _. 1) in omega arith)

-- .. and one that was taken and never pushed came from nowhere
pub lost-taken : NothingIsLost {T = ℕ} (move 1 Stole 7 ∷ []) [] → ⊥
lost-taken kept = absurd (let weights = kept (λ _. 1) in omega arith)

-- two sparks that lie in a deque are not few
abbrev two_pushed : List (Move ℕ)
two_pushed = move 0 Pushed 7 ∷ move 0 Pushed 8 ∷ []

pub leaves-two : Leaves two_pushed (7 ∷ 8 ∷ [])
leaves-two = pushes pushed (7 ∷ []) 0 8 leaves-pushed

pub few-two : (sparks : List ℕ) → Leaves two_pushed sparks → length sparks ≤ 1 → ⊥
few-two [] after few = absurd (let weights = lost_none _ [] after (λ _. 1) in omega arith)
few-two (one ∷ []) after few = absurd (let weights = lost_none _ (one ∷ []) after (λ _. 1) in omega arith)
few-two (one ∷ other ∷ rest) after few = absurd (omega arith)

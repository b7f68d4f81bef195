-- The one history of a deque, which exists in the proofs alone: what each pass has seen of it, and what each call adds.
use Rattle.std.specs.Prelude.{◌≡◌, ℕ, ◌+◌, ◌≤◌, Bool, true, false, ◌==◌, if◌then◌else◌, List, [], ◌∷◌, ◌++◌, length, filter, sum_by}
use mathlib.Core.Option.{some}
use lib.ListN.{get_elem?}
use Rattle.merc_deque.specs.declared.moves.Kind.{Kind}
use Rattle.merc_deque.specs.declared.moves.Kind.TheVariants.{Pushed, Popped, Stole}
use Rattle.merc_deque.specs.declared.moves.Move.{Move}
use Rattle.merc_deque.specs.declared.moves.Known.{Known}

-- how many pushes a new deque takes at least
abbrev pub first_capacity : ℕ
first_capacity = 64

module _ {T : Type 0} where
  abbrev pub move : ℕ → Kind → T → Move T
  move by kind spark = record { by = by; kind = kind; spark = spark }

  abbrev pub known : List (Move T) → List (Move T) → Known T
  known seen mine = record { seen = seen; mine = mine }

  -- the view of a pass that has seen nothing and done nothing
  abbrev pub newcomer : Known T
  newcomer = known [] []

  abbrev pub is_by : ℕ → Move T → Bool
  is_by pass m = m.by == pass

  -- the moves of a history that one pass made
  abbrev pub moves_of : ℕ → List (Move T) → List (Move T)
  moves_of pass log = filter (is_by pass) log

  -- the history begins with what was seen
  abbrev pub Begins : List (Move T) → List (Move T) → Type 0
  Begins log seen = (more : List (Move T)) × (log ≡ seen ++ more)

-- After these moves these sparks lie in the deque, front first: a push adds at the back, a pop takes there, and a steal takes at the front
pub data Leaves {T : Type 0} : List (Move T) → List T → Type 0 where
  none : Leaves [] []
  pushes : (log : List (Move T)) (sparks : List T) (by : ℕ) (spark : T) → Leaves log sparks → Leaves (log ++ move by Pushed spark ∷ []) (sparks ++ spark ∷ [])
  pops : (log : List (Move T)) (sparks : List T) (by : ℕ) (spark : T) → Leaves log (sparks ++ spark ∷ []) → Leaves (log ++ move by Popped spark ∷ []) sparks
  steals : (log : List (Move T)) (sparks : List T) (by : ℕ) (spark : T) → Leaves log (spark ∷ sparks) → Leaves (log ++ move by Stole spark ∷ []) sparks

module _ {T : Type 0} where
  -- a pass has seen the beginning of the history, and its own moves are all that the history has of it
  abbrev pub Fits : List (Move T) → ℕ → Known T → Type 0
  Fits log pass view = Begins log view.seen × (moves_of pass log ≡ view.mine)

  -- There is one history, which leaves the sparks in the deque, and has the moves of the passes and no others
  abbrev pub Kept : List T → List (Known T) → Type 0
  Kept sparks views = (log : List (Move T)) × Leaves log sparks × ((pass : ℕ) (view : Known T) → get_elem? views pass ≡ some view → Fits log pass view)
      × ((pass : ℕ) → length views ≤ pass → moves_of pass log ≡ [])

  -- what lay in the deque before the move
  abbrev pub before_move : Kind → List T → T → List T
  before_move Pushed sparks spark = sparks
  before_move Popped sparks spark = sparks ++ spark ∷ []
  before_move Stole sparks spark = spark ∷ sparks

  -- One move was made with this spark: some history that goes on from what was seen left the spark where the move takes it. The move was added to it, and is one more of the caller's
  abbrev pub Made : Kind → Known T → T → Known T → Type 0
  Made kind old spark new = (pass : ℕ) × (log : List (Move T)) × (sparks : List T) × Begins log old.seen × Leaves log (before_move kind sparks spark)
      × (new.seen ≡ log ++ move pass kind spark ∷ []) × (new.mine ≡ old.mine ++ move pass kind spark ∷ []) × (moves_of pass new.seen ≡ new.mine)

  abbrev pub Told : Kind → Known T → List T → Known T → Type 0
  Told kind old [] new = ⊥
  Told kind old (spark ∷ more) new = Made kind old spark new

  -- some history that goes on from what was seen, with no further move of this pass, left no spark
  abbrev pub Emptied : Known T → Type 0
  Emptied view = (pass : ℕ) × (log : List (Move T)) × Fits log pass view × Leaves log []

  -- .. left one spark at most
  abbrev pub HeldFew : Known T → Type 0
  HeldFew view = (pass : ℕ) × (log : List (Move T)) × (sparks : List T) × Fits log pass view × Leaves log sparks × (length sparks ≤ 1)

abbrev pub is_push : Kind → Bool
is_push Pushed = true
is_push Popped = false
is_push Stole = false

abbrev pub is_take : Kind → Bool
is_take Pushed = false
is_take Popped = true
is_take Stole = true

module _ {T : Type 0} where
  abbrev pub weight : (Kind → Bool) → (T → ℕ) → Move T → ℕ
  weight counts h m = if counts m.kind then h m.spark else 0

  -- what was pushed weighs as much as what was taken and what lies in the deque
  abbrev pub NothingIsLost : List (Move T) → List T → Type 0
  NothingIsLost log sparks = (h : T → ℕ) → sum_by (weight is_push h) log ≡ sum_by (weight is_take h) log + sum_by h sparks

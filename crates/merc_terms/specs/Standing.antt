-- What stands between the moves of the reader.
use Rattle.std.specs.Prelude.{◌≡◌, ℕ, ◌+◌, ◌*◌, ◌≤◌, ◌<◌, Bool, true, false, List, [], ◌∷◌, length, Option, Some, None}
use Rattle.merc_base.specs.declared.place.Span.{Span}
use Rattle.merc_terms.specs.declared.frame.Frame.{Frame}
use Rattle.merc_terms.specs.declared.moving.Progress.{Progress}
use Rattle.merc_terms.specs.declared.reading.Reader.{Reader}
use Rattle.merc_terms.specs.declared.reading.State.{State}
use Rattle.merc_terms.specs.declared.reading.State.TheVariants.{Need, Have, Whole, Refused}
use Rattle.merc_terms.specs.declared.frame.Bound.{Bound}
use Rattle.merc_terms.specs.declared.moving.Move.{Move}
use Rattle.merc_terms.specs.declared.moving.Move.TheVariants.{Have as HaveMove, Open, Refused as RefusedMove}
use Rattle.merc_terms.specs.Reader.{Read, frame_of, reading, finished, whole_term}
use Rattle.merc_terms.specs.Moves.{pending, counted, read_of}

abbrev pub pending_all : List Frame → ℕ
pending_all [] = 0
pending_all (frame ∷ frames) = pending frame.role + pending_all frames

abbrev pub counted_all : List Frame → ℕ
counted_all [] = 0
counted_all (frame ∷ frames) = counted frame.role + counted_all frames

-- how many terms were read and are not yet a part of an open one
abbrev pub held : State → ℕ
held Need = 0
held (Have span priority) = 1
held Whole = 0
held Refused = 0

-- The parts of open terms are built, and the tokens that are left are not too many to be counted.
pub record Stands (state : State) (reader : Reader) : Type 0 where
  pub built : pending_all reader.frames + held state ≤ length reader.progress.built.terms
  pub few : counted_all reader.frames + length reader.progress.rest.now < 18446744073709551616

-- a number above this length for each open term
abbrev pub Suffice : ℕ → List ℕ → List Frame → Type 0
Suffice len [] [] = Unit {0}
Suffice len [] (frame ∷ frames) = ⊥
Suffice len (n ∷ steps) [] = ⊥
Suffice len (n ∷ steps) (frame ∷ frames) = (len < n) × Suffice len steps frames

-- With some bound on steps that suffices for so many tokens, a term and what the open terms make of it come to this.
pub record Comes (term : ℕ → Option Read) (frames : List Frame) (len : ℕ) (answer : Option Read) : Type 0 where
  pub n : ℕ
  pub steps : List ℕ
  pub enough : len < n
  pub each : Suffice len steps frames
  pub is : finished steps frames (term n) ≡ answer

-- the reader comes to this in the end
abbrev pub Leads : State → Reader → Option Read → Type 0
Leads Need reader answer = Comes (λ n. (reading n).term reader.bound reader.progress.built reader.progress.rest.now) reader.frames (length reader.progress.rest.now) answer
Leads (Have span priority) reader answer =
    Comes (λ n. (reading n).tail reader.bound reader.progress.built span priority reader.progress.rest.now) reader.frames (length reader.progress.rest.now) answer
Leads Whole reader answer = (span : Span) × (priority : ℕ) × (answer ≡ Some (read_of reader.progress span priority))
Leads Refused reader answer = answer ≡ None

-- how much is left to do
abbrev pub work : State → Reader → ℕ
work Need reader = 2 * length reader.progress.rest.now + length reader.frames + 1
work (Have span priority) reader = 2 * length reader.progress.rest.now + length reader.frames + 2
work Whole reader = 0
work Refused reader = 0

-- one move: it comes to the same in the end, and less is left to do
pub record Steps (state : State) (reader : Reader) (state' : State) (reader' : Reader) : Type 0 where
  pub stands : Stands state' reader'
  pub leads : (answer : Option Read) → Leads state reader answer → Leads state' reader' answer
  pub falls : work state' reader' < work state reader

-- whether the tokens begin with a whole term, and what was read then
abbrev pub ReadsTerm : Progress → Progress → Bool → Type 0
ReadsTerm old new true = (span : Span) × (priority : ℕ) × (whole_term old.built old.rest.now ≡ Some (read_of new span priority))
ReadsTerm old new false = whole_term old.built old.rest.now ≡ None

-- a move leads to this state, and opens the term that it opens
abbrev pub Entered : Move → Bound → Reader → State → Reader → Type 0
Entered (HaveMove span priority) bound old state new = (state ≡ Have span priority) × (new ≡ record old { bound = bound })
Entered (Open role inner) bound old state new = (state ≡ Need) × (new ≡ record old { bound = inner; frames = frame_of role bound ∷ old.frames })
Entered RefusedMove bound old state new = (state ≡ Refused) × (new ≡ old)

-- What writing lines to a sink answers.
use Rattle.std.specs.Prelude.{◌≡◌, ℕ, ◌<◌, ◌≤◌, List, [], ◌∷◌, ◌++◌, length, drop, Result, Ok, Err, OnOk, OnErr}
use Rattle.std.specs.List.{flat_map}
use Rattle.merc_base.specs.Outside.{SinkState, appended}
use Rattle.merc_transfer.specs.declared.writing.WriteFault.{WriteFault}
use Rattle.merc_transfer.specs.declared.writing.Cut.{Cut}
use Rattle.merc_transfer.specs.declared.writing.Cut.TheVariants.{Unwritten, NoMemory}

-- a text of several lines
abbrev pub text_of : List (List ℕ) → List ℕ
text_of lines = flat_map (λ line. line) lines

-- Lines are given to a sink in these pieces, up to what is left of their text: each line as one piece, and the rest of it again where less was taken.
pub data Gives : List (List ℕ) → List (List ℕ) → List ℕ → Type 0 where
  stops : (lines : List (List ℕ)) → Gives lines [] (text_of lines)
  piece : (line : List ℕ) (lines pieces : List (List ℕ)) (left : List ℕ) (count : ℕ) → 1 ≤ count → count ≤ length line → Gives (drop count line ∷ lines) pieces left → Gives (line ∷ lines) (line ∷ pieces) left
  next : (lines pieces : List (List ℕ)) (left : List ℕ) → Gives lines pieces left → Gives ([] ∷ lines) pieces left

-- The text of these lines was written up to what is left of it, and nothing else, in such pieces.
pub record Puts (lines : List (List ℕ)) (left : List ℕ) (old new : SinkState) : Type 0 where
  pub front : List ℕ
  pub whole : front ++ left ≡ text_of lines
  pub written : new.written ≡ appended old.written front
  pub pieces : List (List ℕ)
  pub gives : Gives lines pieces left
  pub given : new.given ≡ appended old.given pieces

-- all lines were written, and no write failed
pub record PutsAll (lines : List (List ℕ)) (old new : SinkState) : Type 0 where
  pub puts : Puts lines [] old new
  pub faults : new.faults ≡ old.faults

-- a front of their text was written
pub record PutsFront (lines : List (List ℕ)) (old new : SinkState) : Type 0 where
  pub left : List ℕ
  pub puts : Puts lines left old new

-- All lines were written without a fault; or a write failed behind a front of their text. With nothing to write there is no fault.
pub record PutsLines (lines : List (List ℕ)) (old new : SinkState) (result : Result (Unit {0}) WriteFault) : Type 0 where
  pub ok : OnOk result (PutsAll lines old new)
  pub err : OnErr result (PutsFront lines old new × (old.faults < new.faults))
  pub some : OnErr result (0 < length (text_of lines))

-- A front of the text was written, and then a write failed, or memory was refused.
abbrev pub Cuts : List (List ℕ) → SinkState → SinkState → Cut → Type 0
Cuts lines old new Unwritten = PutsFront lines old new × (old.faults < new.faults)
Cuts lines old new NoMemory = PutsFront lines old new × (new.faults ≡ old.faults)

-- all lines were written without a fault, or a front of their text
abbrev pub Writes : {T : Type 0} → List (List ℕ) → SinkState → SinkState → Result T Cut → Type 0
Writes lines old new (Ok result) = PutsAll lines old new
Writes lines old new (Err cut) = Cuts lines old new cut

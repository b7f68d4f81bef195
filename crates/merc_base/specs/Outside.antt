-- What the calls of the outside answer: a shelf of files, a sink for bytes, and taps for events.
-- Where a thing tells its content (`Some`), the answers are exact; where it tells nothing (`None`), only the
-- count of its faults speaks.
use Rattle.std.specs.Prelude.{◌≡◌, ℕ, ◌+◌, ◌<◌, ◌≤◌, Bool, true, false, List, [], ◌∷◌, ◌++◌, length, take, drop, Option, Some, None, IfSome, if◌then◌else◌}
use Rattle.std.specs.Str.{bytes_eq}
use Rattle.merc_base.specs.declared.outside.Fetched.{Fetched}
use Rattle.merc_base.specs.declared.outside.Fetched.TheVariants.{Got, End, Absent, Failed as FetchFailed, NoMemory as FetchNoMemory}
use Rattle.merc_base.specs.declared.outside.Wrote.{Wrote}
use Rattle.merc_base.specs.declared.outside.Wrote.TheVariants.{Took, Failed as WriteFailed}
use Rattle.merc_base.specs.declared.outside.TapEvent.{TapEvent}
use Rattle.merc_base.specs.declared.outside.TapAnswer.{TapAnswer}
use Rattle.merc_base.specs.declared.outside.TapAnswer.TheVariants.{Keep, Done, Failed as TapFailed, NoMemory as TapNoMemory}

-- the most bytes of one piece of a file
unfoldable pub piece_limit : ℕ
piece_limit = 65536

-- the files of a shelf that tells them: names with contents; of one name twice the first counts
abbrev pub Files : Type 0
Files = List (List ℕ × List ℕ)

-- the content of the file of this name, if there is one
abbrev pub file_named : List ℕ → Files → Option (List ℕ)
file_named name [] = None
file_named name (file ∷ files) = if bytes_eq name file.0 then Some file.1 else file_named name files

-- a piece has 1 to 65,536 bytes
abbrev pub IsPiece : Fetched → List ℕ → Type 0
IsPiece (Got n) bytes = (1 ≤ n) × (n ≤ 65536) × (length bytes ≡ n)
IsPiece End bytes = Unit {0}
IsPiece Absent bytes = Unit {0}
IsPiece FetchFailed bytes = Unit {0}
IsPiece FetchNoMemory bytes = Unit {0}

-- this answer is right for a file, `None` for one that is not there, from this place on
abbrev pub FetchesFrom : Option (List ℕ) → ℕ → Fetched → List ℕ → Type 0
FetchesFrom (Some file) at (Got n) bytes = (at + n ≤ length file) × (bytes ≡ take n (drop at file))
FetchesFrom (Some file) at End bytes = length file ≤ at
FetchesFrom (Some file) at Absent bytes = ⊥
FetchesFrom (Some file) at FetchFailed bytes = Unit {0}
FetchesFrom (Some file) at FetchNoMemory bytes = Unit {0}
FetchesFrom None at (Got n) bytes = ⊥
FetchesFrom None at End bytes = ⊥
FetchesFrom None at Absent bytes = Unit {0}
FetchesFrom None at FetchFailed bytes = Unit {0}
FetchesFrom None at FetchNoMemory bytes = Unit {0}

-- the count of faults rises in a failed call, and where a shelf that tells nothing says that a file is absent
abbrev pub CountsFetch : Option Files → Fetched → ℕ → ℕ → Type 0
CountsFetch told (Got n) before now = now ≡ before
CountsFetch told End before now = now ≡ before
CountsFetch (Some files) Absent before now = now ≡ before
CountsFetch None Absent before now = before < now
CountsFetch told FetchFailed before now = before < now
CountsFetch told FetchNoMemory before now = now ≡ before

-- what one fetch answers, and leaves in the buffer
pub record AnswersFetch (told : Option Files) (name : List ℕ) (at before now : ℕ) (answer : Fetched) (bytes : List ℕ) : Type 0 where
  pub piece : IsPiece answer bytes
  pub content : IfSome told (λ files. FetchesFrom (file_named name files) at answer bytes)
  pub count : CountsFetch told answer before now

-- What is told of a sink: the bytes that it took, and each piece of which it took any, as it was given. How often writing has failed is always told.
pub record SinkState : Type 0 where
  pub written : Option (List ℕ)
  pub given : Option (List (List ℕ))
  pub faults : ℕ

-- a list that is told with these behind it; one that is not told stays so
abbrev pub appended : {T : Type 0} → Option (List T) → List T → Option (List T)
appended None more = None
appended (Some old) more = Some (old ++ more)

-- of a piece that is not empty at least one byte is taken; a failed write takes nothing and raises the count
abbrev pub AnswersWrite : List ℕ → SinkState → SinkState → Wrote → Type 0
AnswersWrite piece old new (Took n) =
    (n ≤ length piece) × (0 < length piece → 1 ≤ n) × (new.written ≡ appended old.written (take n piece)) × (new.given ≡ appended old.given (piece ∷ [])) × (new.faults ≡ old.faults)
AnswersWrite piece old new WriteFailed = (new.written ≡ old.written) × (new.given ≡ old.given) × (old.faults < new.faults)

-- what a tap has seen after this event, if it tells that
abbrev pub seen_after : Option (List TapEvent) → TapEvent → Option (List TapEvent)
seen_after None event = None
seen_after (Some events) event = Some (events ++ event ∷ [])

-- how many events a tap has seen after one more, if it tells that
abbrev pub count_after : Option ℕ → Option ℕ
count_after None = None
count_after (Some n) = Some (n + 1)

-- the event is appended save where memory was refused; the tap is over exactly where the answer is not Keep;
-- the count of faults rises exactly at Failed
abbrev pub AnswersTake : TapEvent → Option (List TapEvent) → Option (List TapEvent) → Option ℕ → Option ℕ → Bool → ℕ → ℕ → TapAnswer → Type 0
AnswersTake event old new seen_old seen_new over before now Keep = (new ≡ seen_after old event) × (seen_new ≡ count_after seen_old) × (over ≡ false) × (now ≡ before)
AnswersTake event old new seen_old seen_new over before now Done = (new ≡ seen_after old event) × (seen_new ≡ count_after seen_old) × (over ≡ true) × (now ≡ before)
AnswersTake event old new seen_old seen_new over before now TapFailed = (new ≡ seen_after old event) × (seen_new ≡ count_after seen_old) × (over ≡ true) × (before < now)
AnswersTake event old new seen_old seen_new over before now TapNoMemory = (new ≡ old) × (seen_new ≡ seen_old) × (over ≡ true) × (now ≡ before)

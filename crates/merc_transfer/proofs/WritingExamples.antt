-- Worked examples of writing whole lines: what holds, and what does not.
use Rattle.std.specs.Prelude.{◌≡◌, ◌<◌, ◌≤◌, ◌++◌, ℕ, List, [], ◌∷◌, Some, None, Ok, Err, codes, refl, length}
use Rattle.std.specs.List.{AllByRecursion}
use Rattle.std.proofs.Common.{arith, ap, sym, slice_index}
use Rattle.std.proofs.lemmas.List.{append-nil, drop_all}
use Rattle.merc_base.specs.Outside.{SinkState, appended}
use Rattle.merc_transfer.specs.Writing.{Gives, Puts, PutsAll, PutsFront, PutsLines, Cuts, Writes, text_of}
use Rattle.merc_transfer.specs.Writing.Gives.{stops, piece, next}
use Rattle.merc_transfer.specs.declared.writing.Cut.TheVariants.{Unwritten, NoMemory}
use Rattle.merc_transfer.specs.declared.writing.WriteFault.{WriteFault}

differ : (m n : ℕ) → m < n → m ≡ n → ⊥
differ m n less same = omega arith

-- a sink that tells bytes and pieces, and how often writing has failed
abbrev pub told : List ℕ → List (List ℕ) → ℕ → SinkState
told bytes pieces faults = record { written = Some bytes; given = Some pieces; faults = faults }

-- one that tells neither
abbrev pub untold : ℕ → SinkState
untold faults = record { written = None; given = None; faults = faults }

abbrev two_lines : List (List ℕ)
two_lines = codes "X = 5\n" ∷ codes "solutions 1\n" ∷ []

pub text_of-example : text_of two_lines ≡ codes "X = 5\nsolutions 1\n"
text_of-example = refl

pub text_of-counterexample : text_of (codes "X = 5" ∷ codes "true" ∷ []) ≡ codes "X = 5\ntrue" → ⊥
text_of-counterexample same = cc

-- ---- pieces

-- lines that are not empty, each of which is one piece
gives_whole : (lines : List (List ℕ)) → AllByRecursion (λ line. 1 ≤ length line) lines → Gives lines lines []
gives_whole [] some = stops []
gives_whole (line ∷ lines) some =
    piece line lines lines [] (length line) some.0 (omega arith) (rw (drop_all (length line) line (omega arith)) (next lines lines [] (gives_whole lines some.1)))

pub Gives-lines : Gives two_lines two_lines []
Gives-lines = gives_whole two_lines (omega arith, (omega arith, tt))

-- of one line four bytes were taken, and the rest is given again
pub Gives-again : Gives (codes "X = 5\n" ∷ []) (codes "X = 5\n" ∷ codes "5\n" ∷ []) []
Gives-again = piece (codes "X = 5\n") [] (codes "5\n" ∷ []) [] 4 (omega arith) (omega arith) (gives_whole (codes "5\n" ∷ []) (omega arith, tt))

-- the rest is left
pub Gives-front : Gives (codes "X = 5\n" ∷ codes "true\n" ∷ []) (codes "X = 5\n" ∷ []) (codes "5\ntrue\n")
Gives-front = piece (codes "X = 5\n") (codes "true\n" ∷ []) [] (codes "5\ntrue\n") 4 (omega arith) (omega arith) (stops (codes "5\n" ∷ codes "true\n" ∷ []))

-- a line is given byte by byte, in pieces that are not the whole of what is left
first_is : (line : List ℕ) (lines pieces : List (List ℕ)) (given : List ℕ) (left : List ℕ) → 0 < length line → Gives (line ∷ lines) (given ∷ pieces) left → given ≡ line
first_is line lines pieces given left some (piece _ _ _ _ count one within rest) = refl
first_is _ lines pieces given left some (next _ _ _ rest) = absurd (omega (arith, some))

pub Gives-bytes : Gives (codes "X\n" ∷ []) (codes "X" ∷ codes "\n" ∷ []) [] → ⊥
Gives-bytes gives = let first : ◌≡◌ {A = List ℕ} (codes "X") (codes "X\n") = first_is (codes "X\n") [] (codes "\n" ∷ []) (codes "X") [] (omega arith) gives in cc

-- two lines are given as one piece
pub Gives-joined : Gives two_lines (codes "X = 5\nsolutions 1\n" ∷ []) [] → ⊥
Gives-joined gives = let first : ◌≡◌ {A = List ℕ} (codes "X = 5\nsolutions 1\n") (codes "X = 5\n") = first_is (codes "X = 5\n") (codes "solutions 1\n" ∷ []) [] _ [] (omega arith) gives in cc

-- nothing is given, and nothing is left of a line
none_given : (lines : List (List ℕ)) (left : List ℕ) → Gives lines [] left → left ≡ text_of lines
none_given _ _ (stops lines) = refl
none_given _ _ (next lines _ left rest) = none_given lines left rest

pub Gives-nothing : Gives (codes "X\n" ∷ []) [] [] → ⊥
Gives-nothing gives = let same : ◌≡◌ {A = List ℕ} [] (codes "X\n") = none_given (codes "X\n" ∷ []) [] gives in cc

-- ---- what was written

-- behind what the sink held before, up to the end of its first line's fourth byte
solu : Gives (codes "solutions 1\n" ∷ []) (codes "solutions 1\n" ∷ []) (codes "tions 1\n")
solu = piece (codes "solutions 1\n") [] [] (codes "tions 1\n") 4 (omega arith) (omega arith) (stops (codes "tions 1\n" ∷ []))

pub Puts-example : Puts (codes "solutions 1\n" ∷ []) (codes "tions 1\n") (told (codes "X = 5\n") (codes "X = 5\n" ∷ []) 3) (told (codes "X = 5\nsolu") two_lines 3)
Puts-example = record { front = codes "solu"; whole = refl; written = refl; pieces = codes "solutions 1\n" ∷ []; gives = solu; given = refl }

-- a part was written twice
pub Puts-counterexample : Puts (codes "solutions 1\n" ∷ []) (codes "tions 1\n") (told [] [] 3) (told (codes "solusolu") (codes "solutions 1\n" ∷ []) 3) → ⊥
Puts-counterexample puts =
    let written : Some (codes "solusolu") ≡ Some puts.front = puts.written in
    let front : puts.front ≡ codes "solusolu" = cc in
    let whole : puts.front ++ codes "tions 1\n" ≡ codes "solutions 1\n" = puts.whole in
    let twice : ◌≡◌ {A = List ℕ} (codes "solusolutions 1\n") (codes "solutions 1\n") = rw front at whole in
    differ 115 116 (omega arith) (ap (λ (text : List ℕ). slice_index text 4) twice)

-- all bytes were written, and byte by byte
pub Puts-bytes : Puts (codes "X\n" ∷ []) [] (told [] [] 3) (told (codes "X\n") (codes "X" ∷ codes "\n" ∷ []) 3) → ⊥
Puts-bytes puts =
    let given : Some (codes "X" ∷ codes "\n" ∷ []) ≡ Some puts.pieces = puts.given in
    let same : puts.pieces ≡ codes "X" ∷ codes "\n" ∷ [] = cc in
    let gives : Gives (codes "X\n" ∷ []) puts.pieces [] = puts.gives in
    Gives-bytes (rw same at gives)

-- the sink tells nothing
pub Puts-untold : Puts (codes "solutions 1\n" ∷ []) (codes "tions 1\n") (untold 3) (untold 3)
Puts-untold = record { front = codes "solu"; whole = refl; written = refl; pieces = codes "solutions 1\n" ∷ []; gives = solu; given = refl }

-- A sink took each line whole.
pub puts_whole : (lines : List (List ℕ)) (old : SinkState) → AllByRecursion (λ line. 1 ≤ length line) lines
    → PutsAll lines old (record { written = appended old.written (text_of lines); given = appended old.given lines; faults = old.faults })
puts_whole lines old some = record {
  puts = record { front = text_of lines; whole = append-nil (text_of lines); written = refl; pieces = lines; gives = gives_whole lines some; given = refl };
  faults = refl;
}

pub PutsAll-example : PutsAll two_lines (told [] [] 3) (told (codes "X = 5\nsolutions 1\n") two_lines 3)
PutsAll-example = puts_whole two_lines (told [] [] 3) (omega arith, (omega arith, tt))

-- a write failed
pub PutsAll-counterexample : PutsAll two_lines (told [] [] 3) (told (codes "X = 5\nsolutions 1\n") two_lines 4) → ⊥
PutsAll-counterexample all = differ 3 4 (omega arith) (sym all.faults)

cut_short : (faults : ℕ) → PutsFront (codes "solutions 1\n" ∷ []) (told [] [] 3) (told (codes "solu") (codes "solutions 1\n" ∷ []) faults)
cut_short faults = record { left = codes "tions 1\n"; puts = record { front = codes "solu"; whole = refl; written = refl; pieces = codes "solutions 1\n" ∷ []; gives = solu; given = refl } }

pub PutsFront-example : PutsFront (codes "solutions 1\n" ∷ []) (told [] [] 3) (told (codes "solu") (codes "solutions 1\n" ∷ []) 4)
PutsFront-example = cut_short 4

pub PutsFront-nothing : PutsFront (codes "solutions 1\n" ∷ []) (told (codes "X = 5\n") [] 3) (told (codes "X = 5\n") [] 3)
PutsFront-nothing = record {
  left = codes "solutions 1\n";
  puts = record { front = []; whole = refl; written = refl; pieces = []; gives = stops (codes "solutions 1\n" ∷ []); given = refl };
}

-- what was written is no front of the line
pub PutsFront-counterexample : PutsFront (codes "true\n" ∷ []) (told [] [] 3) (told (codes "false") (codes "true\n" ∷ []) 4) → ⊥
PutsFront-counterexample cut =
    let written : Some (codes "false") ≡ Some cut.puts.front = cut.puts.written in
    let front : cut.puts.front ≡ codes "false" = cc in
    let whole : cut.puts.front ++ cut.left ≡ codes "true\n" = cut.puts.whole in
    let other : codes "false" ++ cut.left ≡ codes "true\n" = rw front at whole in
    differ 102 116 (omega arith) (ap (λ (text : List ℕ). slice_index text 0) other)

pub PutsLines-example : PutsLines two_lines (told [] [] 3) (told (codes "X = 5\nsolutions 1\n") two_lines 3) (Ok tt)
PutsLines-example = record { ok = PutsAll-example; err = tt; some = tt }

-- without a fault a part was left
pub PutsLines-counterexample : PutsLines (codes "true\n" ∷ []) (told [] [] 3) (told (codes "true") (codes "true\n" ∷ []) 3) (Ok tt) → ⊥
PutsLines-counterexample puts =
    let written : Some (codes "true") ≡ Some puts.ok.puts.front = puts.ok.puts.written in
    let front : puts.ok.puts.front ≡ codes "true" = cc in
    let whole : puts.ok.puts.front ++ [] ≡ codes "true\n" = puts.ok.puts.whole in
    let same : ◌≡◌ {A = List ℕ} (codes "true") (codes "true\n") = rw front at whole in
    cc

pub PutsLines-fault : (fault : WriteFault) → PutsLines (codes "solutions 1\n" ∷ []) (told [] [] 3) (told (codes "solu") (codes "solutions 1\n" ∷ []) 4) (Err fault)
PutsLines-fault fault = record { ok = tt; err = (cut_short 4, omega arith); some = omega arith }

-- a fault that is not counted
pub PutsLines-uncounted : (fault : WriteFault) → PutsLines (codes "solutions 1\n" ∷ []) (told [] [] 3) (told (codes "solu") (codes "solutions 1\n" ∷ []) 3) (Err fault) → ⊥
PutsLines-uncounted fault puts = let counted : 3 < 3 = puts.err.1 in omega arith

-- a fault with nothing to write
pub PutsLines-nothing : (fault : WriteFault) → PutsLines [] (told [] [] 3) (told [] [] 4) (Err fault) → ⊥
PutsLines-nothing fault puts = let something : 0 < 0 = puts.some in omega arith

-- ---- what is left where writing breaks off

-- a write failed
pub Cuts-unwritten : Cuts (codes "solutions 1\n" ∷ []) (told [] [] 3) (told (codes "solu") (codes "solutions 1\n" ∷ []) 4) Unwritten
Cuts-unwritten = (cut_short 4, omega arith)

pub Cuts-uncounted : Cuts (codes "solutions 1\n" ∷ []) (told [] [] 3) (told (codes "solu") (codes "solutions 1\n" ∷ []) 3) Unwritten → ⊥
Cuts-uncounted cuts = let counted : 3 < 3 = cuts.1 in omega arith

-- memory was refused, and no write failed
pub Cuts-no_memory : Cuts (codes "solutions 1\n" ∷ []) (told [] [] 3) (told (codes "solu") (codes "solutions 1\n" ∷ []) 3) NoMemory
Cuts-no_memory = (cut_short 3, refl)

pub Cuts-counted : Cuts (codes "solutions 1\n" ∷ []) (told [] [] 3) (told (codes "solu") (codes "solutions 1\n" ∷ []) 4) NoMemory → ⊥
Cuts-counted cuts = differ 3 4 (omega arith) (sym cuts.1)

pub Writes-example : Writes {T = ℕ} two_lines (told [] [] 3) (told (codes "X = 5\nsolutions 1\n") two_lines 3) (Ok 0)
Writes-example = PutsAll-example

pub Writes-cut : Writes {T = ℕ} (codes "solutions 1\n" ∷ []) (told [] [] 3) (told (codes "solu") (codes "solutions 1\n" ∷ []) 4) (Err Unwritten)
Writes-cut = Cuts-unwritten

-- a part was left, and nothing says so
pub Writes-counterexample : Writes {T = ℕ} (codes "true\n" ∷ []) (told [] [] 3) (told (codes "true") (codes "true\n" ∷ []) 3) (Ok 0) → ⊥
Writes-counterexample writes = PutsLines-counterexample (record { ok = writes; err = tt; some = tt })

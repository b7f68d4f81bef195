-- Lines given to a sink, piece by piece.
use Rattle.std.proofs.Common.{◌≡◌, ◌+◌, suc, add-one, get_or, drop-cons, ◌<◌, ◌≤◌, ◌-◌, ◌∙◌, ap, sym, refl, subst, List, [], ◌∷◌, ◌++◌, ℕ, length, take, drop, append_assoc, arith, length-append}
use Rattle.std.specs.Prelude.{◌==◌, false, Option, Some, None, Err}
use Rattle.std.proofs.Math.Seq.{take-suc}
use Rattle.std.proofs.lemmas.List.{take-append-drop, take_rest, append-nil}
use Rattle.std.proofs.lemmas.Grind.{flat_map-append}
use Rattle.std.proofs.lemmas.Bool.Decides.{nat_tests}
use Rattle.merc_base.specs.Outside.{SinkState, appended, AnswersWrite}
use Rattle.merc_base.specs.declared.outside.Wrote.TheVariants.{Took}
use Rattle.merc_transfer.specs.Writing.{Gives, Puts, PutsAll, PutsFront, PutsLines, Cuts, text_of}
use Rattle.merc_transfer.specs.Writing.Gives.{stops, piece, next}
use Rattle.merc_transfer.specs.declared.writing.WriteFault.{WriteFault}
use Rattle.merc_transfer.specs.declared.writing.Cut.{Cut}
use Rattle.merc_transfer.specs.declared.writing.Cut.TheVariants.{Unwritten, NoMemory}

pub appended-append : {T : Type 0} (old : Option (List T)) (front more : List T) → appended (appended old front) more ≡ appended old (front ++ more)
appended-append None front more = refl
appended-append (Some old) front more = ap (λ items. Some items) (append_assoc old front more)

pub appended-empty : {T : Type 0} (old : Option (List T)) → appended old [] ≡ old
appended-empty None = refl
appended-empty (Some old) = ap (λ items. Some items) (append-nil old)

-- what is appended twice
appended-twice : {T : Type 0} (old mid new : Option (List T)) (front more : List T) → mid ≡ appended old front → new ≡ appended mid more → new ≡ appended old (front ++ more)
appended-twice {T} old mid new front more first second = second ∙ ap (λ (held : Option (List T)). appended held more) first ∙ appended-append old front more

text_of-append : (lines behind : List (List ℕ)) → text_of (lines ++ behind) ≡ text_of lines ++ text_of behind
text_of-append lines behind = flat_map-append (λ line. line) lines behind

-- ---- pieces

-- lines that have no text are passed over
gives-behind_nothing : (lines behind pieces : List (List ℕ)) (left : List ℕ) → text_of lines ≡ [] → Gives behind pieces left → Gives (lines ++ behind) pieces left
gives-behind_nothing [] behind pieces left none gives = gives
gives-behind_nothing ([] ∷ lines) behind pieces left none gives = next (lines ++ behind) pieces left (gives-behind_nothing lines behind pieces left none gives)
gives-behind_nothing ((byte ∷ bytes) ∷ lines) behind pieces left none gives = cc

-- the pieces of lines that are given whole, and those of lines behind them
gives-then : (lines behind pieces pieces' : List (List ℕ)) (left left' : List ℕ) → Gives lines pieces left → left ≡ [] → Gives behind pieces' left' → Gives (lines ++ behind) (pieces ++ pieces') left'
gives-then _ behind _ pieces' _ left' (stops lines) none gives = gives-behind_nothing lines behind pieces' left' none gives
gives-then _ behind _ pieces' _ left' (piece line lines pieces left count some within rest) none gives =
    piece line (lines ++ behind) (pieces ++ pieces') left' count some within (gives-then (drop count line ∷ lines) behind pieces pieces' left left' rest none gives)
gives-then _ behind _ pieces' _ left' (next lines pieces left rest) none gives = next (lines ++ behind) (pieces ++ pieces') left' (gives-then lines behind pieces pieces' left left' rest none gives)

-- of lines behind them nothing is given
gives-before : (lines behind pieces : List (List ℕ)) (left : List ℕ) → Gives lines pieces left → Gives (lines ++ behind) pieces (left ++ text_of behind)
gives-before _ behind _ _ (stops lines) = subst (λ (left : List ℕ). Gives (lines ++ behind) [] left) (text_of-append lines behind) (stops (lines ++ behind))
gives-before _ behind _ _ (piece line lines pieces left count some within rest) =
    piece line (lines ++ behind) pieces (left ++ text_of behind) count some within (gives-before (drop count line ∷ lines) behind pieces left rest)
gives-before _ behind _ _ (next lines pieces left rest) = next (lines ++ behind) pieces (left ++ text_of behind) (gives-before lines behind pieces left rest)

-- a line as one piece
gives-piece : (line : List ℕ) (count : ℕ) → 1 ≤ count → count ≤ length line → Gives (line ∷ []) (line ∷ []) (drop count line)
gives-piece line count some within =
    piece line [] [] (drop count line) count some within (subst (λ (left : List ℕ). Gives (drop count line ∷ []) [] left) (append-nil (drop count line)) (stops (drop count line ∷ [])))

gives-nothing : (pieces : List (List ℕ)) (left : List ℕ) → Gives [] pieces left → left ≡ []
gives-nothing _ _ (stops _) = refl

-- the rest of a line again
gives-rest : (line : List ℕ) (pieces : List (List ℕ)) (left : List ℕ) (count : ℕ) → 1 ≤ count → count ≤ length left → Gives (line ∷ []) pieces left → Gives (line ∷ []) (pieces ++ left ∷ []) (drop count left)
gives-rest line _ _ count some within (stops _) =
    let same = append-nil line in
    subst (λ (left : List ℕ). Gives (line ∷ []) (left ∷ []) (drop count left)) (sym same)
    (gives-piece line count some (subst (λ (left : List ℕ). count ≤ length left) same within))
gives-rest line _ _ count some within (piece _ _ pieces left count' some' within' rest) =
    piece line [] (pieces ++ left ∷ []) (drop count left) count' some' within' (gives-rest (drop count' line) pieces left count some within rest)
gives-rest _ _ _ count some within (next _ pieces left rest) =
    absurd (let none = ap (λ (bytes : List ℕ). length bytes) (gives-nothing pieces left rest) in omega (arith, none, some, within))

-- ---- what was written so far

pub puts-begins : (line : List ℕ) (old : SinkState) → Puts (line ∷ []) line old old
puts-begins line old = record {
  front = [];
  whole = sym (append-nil line);
  written = sym (appended-empty old.written);
  pieces = [];
  gives = subst (λ (left : List ℕ). Gives (line ∷ []) [] left) (append-nil line) (stops (line ∷ []));
  given = sym (appended-empty old.given);
}

-- the rest was given, and so many bytes of it taken
pub puts-rest : (line left : List ℕ) (old mid new : SinkState) (count : ℕ) → Puts (line ∷ []) left old mid → 0 < length left → AnswersWrite left mid new (Took count)
    → Puts (line ∷ []) (take (length left - count) (drop count left)) old new
puts-rest line left old mid new count puts some wrote = rw (take_rest left count) (record {
  front = puts.front ++ take count left;
  whole = append_assoc puts.front (take count left) (drop count left) ∙ ap (λ (bytes : List ℕ). puts.front ++ bytes) (take-append-drop count left) ∙ puts.whole;
  written = appended-twice old.written mid.written new.written puts.front (take count left) puts.written wrote.2;
  pieces = puts.pieces ++ left ∷ [];
  gives = gives-rest line puts.pieces left count (wrote.1 some) wrote.0 puts.gives;
  given = appended-twice old.given mid.given new.given puts.pieces (left ∷ []) puts.given wrote.3;
})

pub not_empty : (bytes : List ℕ) → false ≡ length bytes == 0 → 0 < length bytes
not_empty bytes is = grind (arith, nat_tests, is)

-- there was something to write where something is left
pub puts-some : (line left : List ℕ) (old new : SinkState) → Puts (line ∷ []) left old new → 0 < length left → 0 < length (text_of (line ∷ []))
puts-some line left old new puts some = rw (← puts.whole) (omega (arith, some, length-append puts.front left))

-- ---- lines behind lines

pub puts_all-none : (old : SinkState) → PutsAll [] old old
puts_all-none old = record {
  puts = record { front = []; whole = refl; written = sym (appended-empty old.written); pieces = []; gives = stops []; given = sym (appended-empty old.given) };
  faults = refl;
}

-- a front of lines behind lines that were written
puts-behind : (lines behind : List (List ℕ)) (left : List ℕ) (old mid new : SinkState) → PutsAll lines old mid → Puts behind left mid new → Puts (lines ++ behind) left old new
puts-behind lines behind left old mid new all puts = record {
  front = all.puts.front ++ puts.front;
  whole =
      append_assoc all.puts.front puts.front left ∙ ap (λ (bytes : List ℕ). all.puts.front ++ bytes) puts.whole
      ∙ ap (λ (bytes : List ℕ). bytes ++ text_of behind) (sym (append-nil all.puts.front) ∙ all.puts.whole) ∙ sym (text_of-append lines behind);
  written = appended-twice old.written mid.written new.written all.puts.front puts.front all.puts.written puts.written;
  pieces = all.puts.pieces ++ puts.pieces;
  gives = gives-then lines behind all.puts.pieces puts.pieces [] left all.puts.gives refl puts.gives;
  given = appended-twice old.given mid.given new.given all.puts.pieces puts.pieces all.puts.given puts.given;
}

pub puts_all-behind : (lines behind : List (List ℕ)) (old mid new : SinkState) → PutsAll lines old mid → PutsAll behind mid new → PutsAll (lines ++ behind) old new
puts_all-behind lines behind old mid new all more = record { puts = puts-behind lines behind [] old mid new all more.puts; faults = more.faults ∙ all.faults }

pub puts_front-behind : (lines behind : List (List ℕ)) (old mid new : SinkState) → PutsAll lines old mid → PutsFront behind mid new → PutsFront (lines ++ behind) old new
puts_front-behind lines behind old mid new all more = record { left = more.left; puts = puts-behind lines behind more.left old mid new all more.puts }

-- a front of lines is one of these lines with others behind them
pub puts_front-before : (lines behind : List (List ℕ)) (old new : SinkState) → PutsFront lines old new → PutsFront (lines ++ behind) old new
puts_front-before lines behind old new more = record {
  left = more.left ++ text_of behind;
  puts = record {
    front = more.puts.front;
    whole =
        sym (append_assoc more.puts.front more.left (text_of behind))
        ∙ ap (λ (bytes : List ℕ). bytes ++ text_of behind) more.puts.whole ∙ sym (text_of-append lines behind);
    written = more.puts.written;
    pieces = more.puts.pieces;
    gives = gives-before lines behind more.puts.pieces more.left more.puts.gives;
    given = more.puts.given;
  };
}

pub puts_front-all : (lines : List (List ℕ)) (old new : SinkState) → PutsAll lines old new → PutsFront lines old new
puts_front-all lines old new all = record { left = []; puts = all.puts }

-- nothing was written
pub puts_front-none : (lines : List (List ℕ)) (old : SinkState) → PutsFront lines old old
puts_front-none lines old = puts_front-before [] lines old old (puts_front-all [] old old (puts_all-none old))

-- writing is cut in lines that stand behind some that are written and before others
pub cuts-within : (lines middle behind : List (List ℕ)) (old mid new : SinkState) (cut : Cut) → PutsAll lines old mid → Cuts middle mid new cut → Cuts (lines ++ (middle ++ behind)) old new cut
cuts-within lines middle behind old mid new Unwritten all cuts =
    (puts_front-behind lines (middle ++ behind) old mid new all (puts_front-before middle behind mid new cuts.0), subst (λ (n : ℕ). n < new.faults) all.faults cuts.1)
cuts-within lines middle behind old mid new NoMemory all cuts =
    (puts_front-behind lines (middle ++ behind) old mid new all (puts_front-before middle behind mid new cuts.0), cuts.1 ∙ all.faults)

-- one line more
pub puts_all-next : (lines : List (List ℕ)) (k : ℕ) (line : List ℕ) (old mid new : SinkState) → k < length lines → line ≡ get_or lines k line
    → PutsAll (take k lines) old mid → PutsAll (line ∷ []) mid new → PutsAll (take (k + 1) lines) old new
puts_all-next lines k line old mid new below same all more =
    subst (λ (some : List (List ℕ)). PutsAll some old new) (ap (λ (one : List ℕ). take k lines ++ one ∷ []) same ∙ sym (take-suc lines k line below) ∙ ap (λ (n : ℕ). take n lines) (sym (add-one k)))
    (puts_all-behind (take k lines) (line ∷ []) old mid new all more)

-- the lines before one, that line, and those behind it
lines_parts : (lines : List (List ℕ)) (k : ℕ) (line : List ℕ) → k < length lines → line ≡ get_or lines k line → take k lines ++ ((line ∷ []) ++ drop (suc k) lines) ≡ lines
lines_parts lines k line below same =
    ap (λ (rest : List (List ℕ)). take k lines ++ rest) (ap (λ (one : List ℕ). one ∷ drop (suc k) lines) same ∙ sym (drop-cons lines k line below)) ∙ take-append-drop k lines

-- a write failed in one line
pub puts_lines-fault : (lines : List (List ℕ)) (k : ℕ) (line : List ℕ) (old mid new : SinkState) (fault : WriteFault) → k < length lines → line ≡ get_or lines k line
    → PutsAll (take k lines) old mid → PutsLines (line ∷ []) mid new (Err fault) → PutsLines lines old new (Err fault)
puts_lines-fault lines k line old mid new fault below same all puts =
    let cut = cuts-within (take k lines) (line ∷ []) (drop (suc k) lines) old mid new Unwritten all puts.err in
    let some : 0 < length (text_of (take k lines ++ ((line ∷ []) ++ drop (suc k) lines))) =
    rw (text_of-append (take k lines) ((line ∷ []) ++ drop (suc k) lines), text_of-append (line ∷ []) (drop (suc k) lines))
    (omega (arith, puts.some, length-append (text_of (take k lines)) (text_of (line ∷ []) ++ text_of (drop (suc k) lines)), length-append (text_of (line ∷ [])) (text_of (drop (suc k) lines)))) in
    subst (λ (whole : List (List ℕ)). PutsLines whole old new (Err fault)) (lines_parts lines k line below same) (record { ok = tt; err = cut; some = some })

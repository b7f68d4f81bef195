-- Worked examples of procedures with their entries.
use Rattle.std.specs.Prelude.{◌≡◌, ◌+◌, ℕ, Bool, true, false, List, [], ◌∷◌, ◌++◌, length, Some, None, refl}
use Rattle.std.proofs.Common.{ap, arith}
use Rattle.merc_tree.specs.declared.declarations.Arg.{Arg}
use Rattle.merc_tree.specs.declared.declarations.Arg.TheVariants.{Input, Output}
use Rattle.merc_code.specs.declared.instruction.Instruction.TheVariants.{Fail, Jump, Return}
use Rattle.merc_code.specs.Steps.{Code, Codes}
use Rattle.merc_layout.specs.Entries.{AreAdded, HasEntry, codes_of, entries_of, entry_behind, known_at, length_of}
use Rattle.merc_layout.specs.declared.entries.Known.{Known}
use Rattle.merc_layout.specs.declared.entries.Piece.{Piece}
use Rattle.merc_layout.specs.declared.entries.Entry.{Entry}

-- code of one predicate with two modes, of one with none, and of one with one, in frames of so many variables and slots

abbrev pub first_code : Code
first_code = Jump 0 ∷ Return ∷ []

abbrev pub with_frame : ℕ → ℕ → List ℕ → Code → Piece
with_frame variables slots outputs code = record { frame = record { size = record { variables = variables; slots = slots }; outputs = Some outputs }; code = code; is_clean = false }

abbrev pub first : Piece
first = with_frame 1 2 [] first_code

abbrev pub second : Piece
second = with_frame 1 1 (0 ∷ []) (Fail ∷ [])

abbrev pub third : Piece
third = record (with_frame 0 0 [] (Return ∷ [])) { is_clean = true }

abbrev pub pieces : List Piece
pieces = first ∷ second ∷ third ∷ []

length_of-example : length_of pieces ≡ 4
length_of-example = refl

-- The third piece stands behind three instructions.
entry_behind-example : entry_behind (first ∷ second ∷ []) third ≡ record { place = 3; size = 0; is_clean = true }
entry_behind-example = refl

pub has_entry-example : HasEntry pieces second (record { place = 2; size = 1; is_clean = false })
has_entry-example = record { before = first ∷ []; behind = third ∷ []; whole = refl; entry_is = refl }

first_is : (before behind : List Piece) (one other : Piece) → pieces ≡ one ∷ before ++ other ∷ behind → first ≡ one
first_is before behind one other whole = cc

-- No piece begins among the instructions of the first.
place_not : (before behind : List Piece) (piece : Piece) → pieces ≡ before ++ piece ∷ behind → 1 ≡ length_of before → ⊥
place_not [] behind piece whole e = absurd (omega (arith, e))
place_not (one ∷ before) behind piece whole e =
    let long : 2 ≡ length one.code = ap (λ (piece : Piece). length piece.code) (first_is before behind one piece whole) in
    absurd (omega (arith, e, long))

has_entry-not : (piece : Piece) (size : ℕ) → HasEntry pieces piece (record { place = 1; size = size; is_clean = false }) → ⊥
has_entry-not piece size has = place_not has.before has.behind piece has.whole (ap (λ (entry : Entry). entry.place) has.entry_is)

-- Its frames have one slot more than they have variables.
size_not : (place : ℕ) → HasEntry pieces first (record { place = place; size = 1; is_clean = false }) → ⊥
size_not place has = let e : 1 ≡ 2 = ap (λ (entry : Entry). entry.size) has.entry_is in absurd (omega (arith, e))

-- what is known of the procedures

abbrev pub known : ℕ → ℕ → Bool → List Arg → Known
known place size is_clean places = record { entry = record { place = place; size = size; is_clean = is_clean }; places = places }

abbrev pub table : List (List Known)
table = (known 0 2 false (Input ∷ []) ∷ known 2 1 false (Output ∷ []) ∷ []) ∷ [] ∷ (known 3 0 true [] ∷ []) ∷ []

entries_of-example : entries_of table (record { predicate = 2; mode = 0 }) ≡ record { place = 3; size = 0; is_clean = true }
entries_of-example = refl

known_at-absent : known_at table (record { predicate = 1; mode = 0 }) ≡ None
known_at-absent = refl

codes_of-example : Codes.procedures (codes_of table) (record { predicate = 0; mode = 1 }) ≡ Some (record { places = Output ∷ []; code = [] })
codes_of-example = refl

-- pieces behind others

are_added-example : AreAdded (first ∷ []) pieces
are_added-example = record { added = second ∷ third ∷ []; whole = refl }

are_added-not : AreAdded (second ∷ []) pieces → ⊥
are_added-not a = exchanged (same first second (second ∷ third ∷ []) a.added a.whole)
  where
    same : (one other : Piece) (ones others : List Piece) → one ∷ ones ≡ other ∷ others → one ≡ other
    same one other ones others e = cc

    exchanged : first ≡ second → ⊥
    exchanged e = let long : 2 ≡ 1 = ap (λ (piece : Piece). length piece.code) e in absurd (omega (arith, long))

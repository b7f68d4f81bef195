-- Worked examples of what is known of conjuncts.
use Rattle.std.specs.Prelude.{◌≡◌, ◌<◌, ℕ, false, List, [], ◌∷◌, ◌++◌, Some, None, refl}
use Rattle.std.proofs.Common.{ap, arith}
use Rattle.std.proofs.lemmas.List.Elements.{All-from_recursion}
use Rattle.merc_code.specs.declared.instruction.Instruction.TheVariants.{Close}
use Rattle.merc_code.specs.Steps.{Codes, ConjunctCode}
use Rattle.merc_code.specs.ProgramCode.{codes_in}
use Rattle.merc_layout.specs.EntriesExamples.{first}
use Rattle.merc_layout.specs.Frames.{FitsInstruction}
use Rattle.merc_layout.specs.FramesExamples.{fits, lends}
use Rattle.merc_layout.specs.KnownConjuncts.{AreKnownConjuncts, IsConjunctPiece, IsKnownConjunct, conjunct_at}
use Rattle.merc_layout.specs.declared.conjuncts.KnownConjunct.{KnownConjunct}
use Rattle.merc_layout.specs.declared.entries.Entry.{Entry}
use Rattle.merc_layout.specs.declared.entries.Piece.{Piece}

-- One conjunct is forked, at the second site, and its code stands behind two other instructions.

abbrev conjunct : ConjunctCode
conjunct = record { used = 0 ∷ 2 ∷ []; code = Close ∷ [] }

abbrev conjuncts : List (List ConjunctCode)
conjuncts = [] ∷ (conjunct ∷ []) ∷ []

abbrev codes : Codes
codes = codes_in (record { procedures = []; conjuncts = conjuncts; query = [] })

abbrev of_size : ℕ → Piece
of_size variables = record { frame = record { size = record { variables = variables; slots = variables }; outputs = None }; code = Close ∷ []; is_clean = false }

abbrev of_entry : ℕ → KnownConjunct
of_entry place = record { entry = record { place = place; size = 3; is_clean = false }; used = 0 ∷ 2 ∷ [] }

abbrev table : List (List KnownConjunct)
table = [] ∷ (of_entry 2 ∷ []) ∷ []

conjunct_at-example : conjunct_at table 1 0 ≡ Some (of_entry 2)
conjunct_at-example = refl

conjunct_at-absent : conjunct_at table 0 0 ≡ None
conjunct_at-absent = refl

conjunct_at-no_site : conjunct_at table 2 0 ≡ None
conjunct_at-no_site = refl

is_conjunct_piece-example : IsConjunctPiece codes.conjuncts conjunct (of_size 3)
is_conjunct_piece-example = record {
  arity = 3;
  used_are_there = All-from_recursion (λ (variable : ℕ). variable < 3) (0 ∷ 2 ∷ []) (omega arith, (omega arith, tt));
  code_is = record {
    outputs_are = refl;
    code_is = refl;
    has_room = record {
      room = omega arith;
      arguments = omega arith;
      fits = All-from_recursion (FitsInstruction 3 3) (Close ∷ []) (fits 3 3 Close tt tt tt tt, tt);
      lends = lends codes.conjuncts 3 (Close ∷ []) (tt, tt);
    };
  };
}

-- Its frames have no room for what it uses.
is_conjunct_piece-not : IsConjunctPiece codes.conjuncts conjunct (of_size 2) → ⊥
is_conjunct_piece-not is = let h : 2 < is.arity = is.used_are_there 1 0 (omega arith) in absurd (omega (arith, h, is.code_is.has_room.arguments))

is_known_conjunct-example : IsKnownConjunct codes (first ∷ of_size 3 ∷ []) (of_entry 2) conjunct
is_known_conjunct-example = record {
  piece = of_size 3;
  has_entry = record { before = first ∷ []; behind = []; whole = refl; entry_is = refl };
  code_is = is_conjunct_piece-example;
  used_are = refl;
}

are_known_conjuncts-example : AreKnownConjuncts codes (first ∷ of_size 3 ∷ []) table conjuncts
are_known_conjuncts-example = (tt, ((is_known_conjunct-example, tt), tt))

-- There is a site that is not known.
are_known_conjuncts-not : AreKnownConjuncts codes (first ∷ of_size 3 ∷ []) ([] ∷ []) conjuncts → ⊥
are_known_conjuncts-not are = absurd are.1

-- Its piece has frames of another size.
is_known_conjunct-not : IsKnownConjunct codes (of_size 4 ∷ []) (of_entry 0) conjunct → ⊥
is_known_conjunct-not is = other is.has_entry.before is.has_entry.behind is.piece is.has_entry.whole (ap (λ (entry : Entry). entry.size) is.has_entry.entry_is)
  where
    same : (piece : Piece) (behind : List Piece) → of_size 4 ∷ [] ≡ piece ∷ behind → of_size 4 ≡ piece
    same piece behind e = cc

    none : (piece : Piece) (before behind : List Piece) → [] ≡ before ++ piece ∷ behind → ⊥
    none piece [] behind e = absurd cc
    none piece (one ∷ before) behind e = absurd cc

    rest : (one : Piece) (others : List Piece) → of_size 4 ∷ [] ≡ one ∷ others → [] ≡ others
    rest one others e = cc

    other : (before behind : List Piece) (piece : Piece) → of_size 4 ∷ [] ≡ before ++ piece ∷ behind → 3 ≡ piece.frame.size.slots → ⊥
    other [] behind piece whole size = let e : 4 ≡ piece.frame.size.slots = ap (λ (piece : Piece). piece.frame.size.slots) (same piece behind whole) in absurd (omega (arith, size, e))
    other (one ∷ before) behind piece whole size = none piece before behind (rest one (before ++ piece ∷ behind) whole)

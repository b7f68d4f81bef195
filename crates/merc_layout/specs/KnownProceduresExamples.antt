-- Worked examples of what is known of procedures.
use Rattle.std.specs.Prelude.{◌≡◌, ℕ, true, false, List, [], ◌∷◌, Some, refl}
use Rattle.std.proofs.Common.{ap, arith}
use Rattle.std.proofs.lemmas.List.Elements.{All-from_recursion}
use Rattle.merc_tree.specs.declared.declarations.Arg.{Arg}
use Rattle.merc_tree.specs.declared.declarations.Arg.TheVariants.{Input, Output}
use Rattle.merc_code.specs.declared.instruction.Instruction.TheVariants.{Fail, Jump, Return}
use Rattle.merc_code.specs.Steps.{Code, Codes, ProcedureCode}
use Rattle.merc_code.specs.ProgramCode.{codes_in}
use Rattle.merc_live.specs.Reads.{MayReadVariable, MayReadMark, here, later, there}
use Rattle.merc_layout.specs.Frames.{FitsInstruction}
use Rattle.merc_layout.specs.FramesExamples.{fits, lends}
use Rattle.merc_layout.specs.EntriesExamples.{first, first_code, has_entry-example, known, pieces, second, table, third}
use Rattle.merc_layout.specs.KnownProcedures.{AreKnown, IsKnown, TellAllClean, TellsClean}
use Rattle.merc_layout.specs.declared.entries.Entry.{Entry}

-- one predicate with two modes, one with none, and one with one

abbrev with_code : List Arg → Code → ProcedureCode
with_code places code = record { places = places; code = code }

abbrev procedures : List (List ProcedureCode)
procedures = (with_code (Input ∷ []) first_code ∷ with_code (Output ∷ []) (Fail ∷ []) ∷ []) ∷ [] ∷ (with_code [] (Return ∷ []) ∷ []) ∷ []

abbrev known_codes : Codes
known_codes = codes_in (record { procedures = procedures; conjuncts = []; query = [] })

-- the third one's code looks at nothing
third_clean : TellsClean known_codes true (with_code [] (Return ∷ []))
third_clean is = record {
  variables = λ variable reads. absurd (no_variable variable reads);
  marks = no_mark;
}
  where
    no_variable : (variable : ℕ) → MayReadVariable known_codes (Some []) variable (Return ∷ []) → ⊥
    no_variable variable (here _ _ r) = absurd cc
    no_variable variable (later _ _ on g h) = absurd cc
    no_variable variable (there _ _ skipped s h) = absurd cc

    no_mark : (mark : ℕ) → MayReadMark mark (Return ∷ []) → ⊥
    no_mark mark (here _ _ r) = absurd cc
    no_mark mark (later _ _ on g h) = absurd cc
    no_mark mark (there _ _ skipped s h) = absurd cc

tell_all_clean-example : TellAllClean known_codes ((false ∷ false ∷ []) ∷ [] ∷ (true ∷ []) ∷ []) procedures
tell_all_clean-example = (((λ is. absurd cc), ((λ is. absurd cc), tt)), (tt, ((third_clean, tt), tt)))

-- Its output is not given.
tells_clean-not : TellsClean known_codes true (with_code (Output ∷ []) (Return ∷ [])) → ⊥
tells_clean-not tells = let e : false ≡ true = (tells refl).variables 0 (here _ _ refl) in absurd cc

-- what is known of them

first_known : IsKnown known_codes pieces (known 0 2 false (Input ∷ [])) (with_code (Input ∷ []) first_code)
first_known = record {
  piece = first;
  has_entry = record { before = []; behind = second ∷ third ∷ []; whole = refl; entry_is = refl };
  code_is = record {
    outputs_are = refl;
    code_is = refl;
    has_room = record {
      room = omega arith;
      arguments = omega arith;
      fits = All-from_recursion (FitsInstruction 1 2) first_code (fits 1 2 (Jump 0) tt tt tt tt, (fits 1 2 Return tt tt tt tt, tt));
      lends = lends known_codes.conjuncts 1 first_code (tt, (tt, tt));
    };
  };
  places_are = refl;
  clean = λ is. absurd cc;
}

second_known : IsKnown known_codes pieces (known 2 1 false (Output ∷ [])) (with_code (Output ∷ []) (Fail ∷ []))
second_known = record {
  piece = second;
  has_entry = has_entry-example;
  code_is = record {
    outputs_are = refl;
    code_is = refl;
    has_room = record {
      room = omega arith;
      arguments = omega arith;
      fits = All-from_recursion (FitsInstruction 1 1) (Fail ∷ []) (fits 1 1 Fail tt tt tt tt, tt);
      lends = lends known_codes.conjuncts 1 (Fail ∷ []) (tt, tt);
    };
  };
  places_are = refl;
  clean = λ is. absurd cc;
}

third_known : IsKnown known_codes pieces (known 3 0 true []) (with_code [] (Return ∷ []))
third_known = record {
  piece = third;
  has_entry = record { before = first ∷ second ∷ []; behind = []; whole = refl; entry_is = refl };
  code_is = record {
    outputs_are = refl;
    code_is = refl;
    has_room = record {
      room = omega arith;
      arguments = omega arith;
      fits = All-from_recursion (FitsInstruction 0 0) (Return ∷ []) (fits 0 0 Return tt tt tt tt, tt);
      lends = lends known_codes.conjuncts 0 (Return ∷ []) (tt, tt);
    };
  };
  places_are = refl;
  clean = third_clean;
}

are_known-example : AreKnown known_codes pieces table procedures
are_known-example = ((first_known, (second_known, tt)), (tt, ((third_known, tt), tt)))

-- There is a predicate that is not known.
are_known-not : AreKnown known_codes pieces ((known 0 2 false (Input ∷ []) ∷ known 2 1 false (Output ∷ []) ∷ []) ∷ [] ∷ []) procedures → ⊥
are_known-not are = absurd are.1.1

-- The frames of its piece have no room for its argument.
is_known-not : IsKnown known_codes pieces (known 3 0 true (Input ∷ [])) (with_code (Input ∷ []) (Return ∷ [])) → ⊥
is_known-not is =
    let size : 0 ≡ is.piece.frame.size.slots = ap (λ (entry : Entry). entry.size) is.has_entry.entry_is in
    absurd (omega (arith, size, is.code_is.has_room.room, is.code_is.has_room.arguments))

-- A program is placed: where its procedures, its conjuncts and the goal that is asked are to begin.
use Rattle.std.specs.Prelude.{◌≡◌, List, [], ◌∷◌, ◌++◌, None}
use Rattle.merc_code.specs.ProgramCode.{ProgramCode, codes_in}
use Rattle.merc_layout.specs.Entries.{IsPiece, entry_behind}
use Rattle.merc_layout.specs.KnownConjuncts.{AreKnownConjuncts}
use Rattle.merc_layout.specs.KnownProcedures.{AreKnown, TellAllClean}
use Rattle.merc_layout.specs.Sizes.{TellsLent}
use Rattle.merc_layout.specs.declared.entries.Piece.{Piece}
use Rattle.merc_load.specs.declared.loading.Placed.{Placed}
use Rattle.merc_load.specs.declared.loading.Told.{Told}

-- What is told of a program is so: above which variables its conjuncts use none, and which procedures start clean.
pub record IsTold (code : ProgramCode) (told : Told) : Type 0 where
  pub lent : TellsLent told.lent (codes_in code).conjuncts
  pub clean : TellAllClean (codes_in code) told.are_clean code.procedures

-- The goal that is asked is the last piece, at its entry, and what is known of the procedures and of the conjuncts is so: they are the pieces before it.
pub record ArePlaced (code : ProgramCode) (placed : Placed) : Type 0 where
  pub made : List Piece
  pub last : Piece
  pub whole : placed.pieces ≡ made ++ last ∷ []
  pub known : AreKnown (codes_in code) made placed.table code.procedures
  pub forked : AreKnownConjuncts (codes_in code) made placed.conjuncts code.conjuncts
  pub goal : IsPiece (codes_in code).conjuncts None 0 code.query last
  pub query_is : placed.query ≡ entry_behind made last

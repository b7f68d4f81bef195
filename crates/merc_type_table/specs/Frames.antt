-- Types whose arguments are numbered one by one, the last one first.
use Rattle.std.specs.Prelude.{◌≡◌, ℕ, ◌+◌, ◌<◌, true, ◌⊎◌, List, [], ◌∷◌, length}
use Rattle.merc_tree.specs.Types.{TypeExpr, TypeExprs, TypeVariable, IntType, TextType, TypeApplication, no_types, more_types}
use Rattle.merc_type_table.specs.declared.numbering.Frame.{Frame}
use Rattle.merc_type_table.specs.declared.numbering.TypeNumbering.{TypeNumbering}
use Rattle.merc_type_table.specs.Table.{is_application, type_at, types_made, with_first}
use Rattle.merc_type_table.specs.Numbering.{Extends, IsNumbering}

-- a type's name over arguments, with more before them
abbrev pub with_all : List TypeExpr → TypeExpr → TypeExpr
with_all [] rest = rest
with_all (first ∷ others) rest = with_first first (with_all others rest)

-- what becomes of a frame
abbrev pub completed : List TypeExpr → Frame → TypeExpr
completed types frame = with_all frame.arguments (type_at types frame.number)

-- a type is an argument of what the next frame becomes, and so on
abbrev pub finished : List TypeExpr → List Frame → TypeExpr → TypeExpr
finished types [] type = type
finished types (frame ∷ frames) type = finished types frames (with_all frame.arguments (with_first type (type_at types frame.number)))

-- what has arguments is a type's name
pub record IsFrame (types : List TypeExpr) (frame : Frame) : Type 0 where
  pub here : frame.number < length types
  pub named : (frame.arguments ≡ []) ⊎ (is_application (type_at types frame.number) ≡ true)

-- what waits for an argument is a type's name
abbrev pub AreWaiting : List TypeExpr → List Frame → Type 0
AreWaiting types [] = Unit {0}
AreWaiting types (frame ∷ frames) =
    (frame.number < length types) × (is_application (type_at types frame.number) ≡ true) × AreWaiting types frames

-- how much there is to number
abbrev mutual
  pub type_work : TypeExpr → ℕ
  type_work (TypeVariable name) = 2
  type_work IntType = 2
  type_work TextType = 2
  type_work (TypeApplication name arguments) = 2 + types_work arguments

  pub types_work : TypeExprs → ℕ
  types_work no_types = 0
  types_work (more_types first rest) = type_work first + types_work rest

abbrev pub list_work : List TypeExpr → ℕ
list_work [] = 0
list_work (first ∷ rest) = type_work first + list_work rest

abbrev pub frames_work : List Frame → ℕ
frames_work [] = 0
frames_work (frame ∷ frames) = list_work frame.arguments + 1 + frames_work frames

-- a type's frame before its arguments are numbered
pub record Begins (old new : TypeNumbering) (frame : Frame) (type : TypeExpr) : Type 0 where
  pub sound : IsNumbering new
  pub extends : Extends (types_made old.nodes.items) (types_made new.nodes.items)
  pub is_frame : IsFrame (types_made new.nodes.items) frame
  pub completes : completed (types_made new.nodes.items) frame ≡ type
  pub less : list_work frame.arguments + 2 ≡ type_work type

-- Types whose arguments are numbered one by one, by example, over the numbering of `NumberingExamples`.
use Rattle.std.proofs.Common.{◌≡◌, ℕ, ◌<◌, true, false, inl, inr, List, [], ◌∷◌, map, length, refl, sym, ap, subst, arith}
use Rattle.merc_tree.specs.Types.{TypeExpr, IntType, TextType, TypeApplication, no_types, more_types}
use Rattle.merc_type_table.specs.declared.node.TypeNode.{TypeNode}
use Rattle.merc_type_table.specs.declared.node.TypeNode.TheVariants.{Variable, Int, Text, Name}
use Rattle.merc_type_table.specs.declared.numbering.Frame.{Frame}
use Rattle.merc_type_table.specs.declared.numbering.TypeNumbering.{TypeNumbering}
use Rattle.merc_type_table.specs.Table.{types_made}
use Rattle.merc_type_table.specs.Frames.{with_all, completed, finished, IsFrame, AreWaiting, type_work, types_work, list_work, frames_work, Begins}
use Rattle.merc_type_table.proofs.Made.{extends_none}
use Rattle.merc_type_table.proofs.TableExamples.{a, bare, over, over_two, types}
use Rattle.merc_type_table.proofs.NumberingExamples.{IsExample, IsBeforeExample, IsNumbering-yes, IsNumbering-two_texts, grown, lost}

abbrev frame : ℕ → List TypeExpr → Frame
frame number arguments = record { number = number; arguments = arguments }

abbrev over_three : TypeExpr → TypeExpr → TypeExpr → TypeExpr
over_three first second third = TypeApplication 7 (more_types first (more_types second (more_types third no_types)))

-- arguments keep their order, and stand before those that are there
with_all-order : with_all (IntType ∷ TextType ∷ []) (over a) ≡ over_three IntType TextType a
with_all-order = refl

with_all-none : with_all [] (over a) ≡ over a
with_all-none = refl

completed-order : completed types (frame 4 (IntType ∷ TextType ∷ [])) ≡ over_three IntType TextType a
completed-order = refl

completed-alone : completed types (frame 1 []) ≡ TextType
completed-alone = refl

-- a type stands behind a frame's other arguments, and what comes of it behind those of the next frame
finished-order : finished types (frame 3 (IntType ∷ []) ∷ frame 3 (a ∷ []) ∷ []) TextType ≡ over_two a (over_two IntType TextType)
finished-order = refl

finished-none : finished types [] TextType ≡ TextType
finished-none = refl

-- only a type's name has arguments, and a frame's number is that of a type
IsFrame-name : IsFrame types (frame 3 (TextType ∷ a ∷ []))
IsFrame-name = let less : 3 < 6 = omega arith in record { here = less; named = inr refl }

IsFrame-alone : IsFrame types (frame 1 [])
IsFrame-alone = let less : 1 < 6 = omega arith in record { here = less; named = inl refl }

IsFrame-string : IsFrame types (frame 1 (IntType ∷ [])) → ⊥
IsFrame-string is = elim is.named [
  | inl none ↦ let wrong : ◌≡◌ {A = List TypeExpr} (IntType ∷ []) [] = none in cc
  | inr app ↦ let wrong : false ≡ true = app in cc
]

IsFrame-past : IsFrame types (frame 6 []) → ⊥
IsFrame-past is = let less : 6 < 6 = is.here in omega arith

-- all that wait for an argument are names
AreWaiting-names : AreWaiting types (frame 4 [] ∷ frame 3 (IntType ∷ []) ∷ [])
AreWaiting-names = let one : 4 < 6 = omega arith in let other : 3 < 6 = omega arith in (one, refl, (other, refl, tt))

AreWaiting-variable : AreWaiting types (frame 2 [] ∷ frame 3 [] ∷ []) → ⊥
AreWaiting-variable waiting = let wrong : false ≡ true = waiting.1 in cc

AreWaiting-later : AreWaiting types (frame 3 [] ∷ frame 1 [] ∷ []) → ⊥
AreWaiting-later waiting = let wrong : false ≡ true = waiting.2.1 in cc

-- 2 for each part of a type, and 1 for each frame
type_work-each : map type_work (IntType ∷ TextType ∷ a ∷ bare ∷ over a ∷ over_two TextType a ∷ over (over a) ∷ []) ≡ 2 ∷ 2 ∷ 2 ∷ 2 ∷ 4 ∷ 6 ∷ 6 ∷ []
type_work-each = refl

types_work-each : map types_work (no_types ∷ more_types TextType (more_types (over a) no_types) ∷ []) ≡ 0 ∷ 6 ∷ []
types_work-each = refl

list_work-each : map list_work ([] ∷ (TextType ∷ over a ∷ []) ∷ []) ≡ 0 ∷ 6 ∷ []
list_work-each = refl

frames_work-two : frames_work (frame 3 (TextType ∷ over a ∷ []) ∷ frame 4 [] ∷ []) ≡ 8
frames_work-two = refl

-- `7(string, A)` begins with the name alone, and `string` with itself
Begins-name : (old new : TypeNumbering) → IsBeforeExample old → IsExample new → Begins old new (frame 3 (TextType ∷ a ∷ [])) (over_two TextType a)
Begins-name old new was is = record {
  sound = IsNumbering-yes new is;
  extends = grown old new was is;
  is_frame = subst (λ (l : List TypeNode). IsFrame (types_made l) (frame 3 (TextType ∷ a ∷ []))) (sym is.items) IsFrame-name;
  completes = ap (λ (l : List TypeNode). completed (types_made l) (frame 3 (TextType ∷ a ∷ []))) is.items;
  less = refl;
}

Begins-alone : (numbering : TypeNumbering) → IsExample numbering → Begins numbering numbering (frame 1 []) TextType
Begins-alone numbering is = record {
  sound = IsNumbering-yes numbering is;
  extends = extends_none (types_made numbering.nodes.items);
  is_frame = subst (λ (l : List TypeNode). IsFrame (types_made l) (frame 1 [])) (sym is.items) IsFrame-alone;
  completes = ap (λ (l : List TypeNode). completed (types_made l) (frame 1 [])) is.items;
  less = refl;
}

-- `string` was added although it is there; `7` has the number that A had
Begins-twice : (old new : TypeNumbering) → new.nodes.items ≡ Int ∷ Text ∷ Text ∷ [] → Begins old new (frame 2 []) TextType → ⊥
Begins-twice old new are begins = IsNumbering-two_texts new are begins.sound

Begins-lost : (old new : TypeNumbering) → old.nodes.items ≡ Int ∷ Text ∷ Variable 8 ∷ [] → new.nodes.items ≡ Int ∷ Text ∷ Name 7 ∷ [] → Begins old new (frame 2 (a ∷ [])) (over a) → ⊥
Begins-lost old new was are begins = lost old new was are begins.extends

-- no type has the number; the arguments stand the other way round; `7(A)` is there with its argument, so that nothing is left to number
Begins-past : (old new : TypeNumbering) → IsExample new → Begins old new (frame 6 []) IntType → ⊥
Begins-past old new is begins =
    let less : 6 < 6 = subst (λ (l : List TypeNode). 6 < length (types_made l)) is.items begins.is_frame.here in omega arith

Begins-exchanged : (old new : TypeNumbering) → IsExample new → Begins old new (frame 3 (a ∷ TextType ∷ [])) (over_two TextType a) → ⊥
Begins-exchanged old new is begins =
    let same : over_two a TextType ≡ over_two TextType a =
    subst (λ (l : List TypeNode). completed (types_made l) (frame 3 (a ∷ TextType ∷ [])) ≡ over_two TextType a) is.items begins.completes in
    let wrong : a ≡ TextType = cc in cc

Begins-done : (old new : TypeNumbering) → Begins old new (frame 4 []) (over a) → ⊥
Begins-done old new begins = let wrong : ◌≡◌ {A = ℕ} 2 4 = begins.less in omega arith

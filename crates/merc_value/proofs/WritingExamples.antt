-- What the definitions of Writing say while `f([], [|])` is written.
use Rattle.std.proofs.Common.{◌≡◌, List, ℕ, pos, [], ◌∷◌, ◌++◌, ap, sym, arith, codes, get_or, refl}
use Rattle.merc_base.specs.Names.{cons_name, nil_name}
use Rattle.merc_base.specs.Characters.{close_list_code, open_list_code}
use Rattle.merc_value.specs.Value.{Int, Con, none, more}
use Rattle.merc_value.specs.Block.{CellData, cell_values}
use Rattle.merc_value.specs.Writing.{HasShape, todo_text, pending, piece_text, AppendsFront}
use Rattle.merc_value.specs.declared.word.Word.TheVariants.{Int as IntWord, Atom as AtomWord}
use Rattle.merc_value.specs.declared.shape.Shape.TheVariants.{Nil, Pair, Applied}
use Rattle.merc_value.specs.declared.writing.Todo.TheVariants.{Whole, Tail, Arguments, Others, Close}
use Rattle.merc_value.specs.declared.writing.Piece.TheVariants.{Symbol}

abbrev f_name : ℕ
f_name = 0

abbrev names : List (List ℕ)
names = codes "f" ∷ codes "[]" ∷ codes "[|]" ∷ []

abbrev cells : List CellData
cells = record { symbol = f_name; arguments = AtomWord nil_name ∷ AtomWord cons_name ∷ [] } ∷ []

-- the last entry is written first
pub pending-example : pending names cells (Close ∷ Others 0 1 ∷ Whole (AtomWord nil_name) ∷ []) ≡ codes "[], '[|]')]"
pending-example = refl

pub pending-counterexample : pending names cells (Close ∷ Whole (AtomWord nil_name) ∷ []) ≡ codes "][]" → ⊥
pending-counterexample same = let first : open_list_code ≡ close_list_code = ap (λ (t : List ℕ). get_or t 0 0) same in omega (arith, first)

-- the end of a list
pub todo_text-example : todo_text names cells (Tail (AtomWord nil_name)) ≡ codes "]"
todo_text-example = refl

-- all arguments, and those from the second on
pub todo_text-arguments : todo_text names cells (Arguments 0) ≡ codes "([], '[|]')"
todo_text-arguments = refl

pub todo_text-others : todo_text names cells (Others 0 1) ≡ codes ", '[|]')"
todo_text-others = refl

pub piece_text-example : piece_text names (Symbol cons_name) ≡ codes "'[|]'"
piece_text-example = refl

pub HasShape-applied : HasShape cells (Con f_name (more (Con nil_name none) (more (Con cons_name none) none))) (Applied f_name 0)
unfolding cell_values
HasShape-applied = (refl, refl, refl)

-- the head of a list stands before its tail
pub HasShape-pair : HasShape cells (Con cons_name (more (Int (pos 7)) (more (Con nil_name none) none))) (Pair (IntWord (pos 7)) (AtomWord nil_name))
HasShape-pair = refl

pub HasShape-turned : HasShape cells (Con cons_name (more (Int (pos 7)) (more (Con nil_name none) none))) (Pair (AtomWord nil_name) (IntWord (pos 7))) → ⊥
HasShape-turned same = cc

pub HasShape-counterexample : HasShape cells (Con cons_name none) Nil → ⊥
HasShape-counterexample same = cc

pub AppendsFront-example : AppendsFront (codes "[1]") (codes "X = ") (codes "X = [")
AppendsFront-example = record { front = codes "["; rest = codes "1]"; whole = refl; appended = refl }

-- what was there before is lost
pub AppendsFront-counterexample : AppendsFront (codes "[1]") (codes "X = ") (codes "[") → ⊥
AppendsFront-counterexample appends = let first : 91 ≡ 88 = ap (λ (t : List ℕ). get_or t 0 0) appends.appended in omega (arith, first)

-- a part that is no front
pub AppendsFront-behind : AppendsFront (codes "[1]") [] (codes "1]") → ⊥
AppendsFront-behind appends =
    let front : appends.front ≡ codes "1]" = sym appends.appended in
    let whole : appends.front ++ appends.rest ≡ codes "[1]" = appends.whole in
    let behind : codes "1]" ++ appends.rest ≡ codes "[1]" = rw front at whole in
    let first : 49 ≡ 91 = ap (λ (t : List ℕ). get_or t 0 0) behind in omega (arith, first)

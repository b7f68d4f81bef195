-- What the definitions of Text say of some values.
use Rattle.std.specs.Prelude.{◌≡◌, ℕ, pos, negsuc, true, false, List, [], ◌∷◌, codes, refl}
use Rattle.std.specs.Fmt.{digits}
use Rattle.merc_base.specs.Names.{cons_name, nil_name}
use Rattle.merc_value.specs.Value.{Value, Int, Text, Con, none, more}
use Rattle.merc_value.specs.Text.{is_blank, word_operators, is_plain, name_text, value_text}

-- a table of names, and the number of each
abbrev pub some_names : List (List ℕ)
some_names =
    codes "f" ∷ codes "[]" ∷ codes "[|]" ∷ codes "red_1" ∷ codes "it's\n" ∷ codes "say \"a\\b\"\t" ∷ []

abbrev f_name : ℕ
f_name = 0

abbrev red_name : ℕ
red_name = 3

abbrev its_name : ℕ
its_name = 4

abbrev say_name : ℕ
say_name = 5

abbrev unknown_name : ℕ
unknown_name = 6

-- the list of the head and the tail
abbrev pub pair : Value → Value → Value
pair head tail = Con cons_name (more head (more tail none))

abbrev pub nil : Value
nil = Con nil_name none

abbrev one : Value
one = Int (pos 1)

abbrev two : Value
two = Int (pos 2)

pub value_text-int : value_text some_names (Int (negsuc 41)) ≡ codes "-42"
unfolding digits
value_text-int = refl

-- texts: a quote stands for itself, and each other escape is written
pub value_text-text : value_text some_names (Text say_name) ≡ codes "\"say \\\"a\\\\b\\\"\\t\""
value_text-text = refl

pub value_text-line : value_text some_names (Text its_name) ≡ codes "\"it's\\n\""
value_text-line = refl

-- names within quotes: a double quote stands for itself
pub value_text-escaped : value_text some_names (Con its_name none) ≡ codes "'it\\'s\\n'"
value_text-escaped = refl

pub value_text-said : value_text some_names (Con say_name none) ≡ codes "'say \"a\\\\b\"\\t'"
value_text-said = refl

pub value_text-nil : value_text some_names nil ≡ codes "[]"
value_text-nil = refl

pub value_text-list : value_text some_names (pair one (pair two nil)) ≡ codes "[1, 2]"
unfolding digits
value_text-list = refl

-- lists that do not end with the empty list

pub value_text-open : value_text some_names (pair one (pair two (Text f_name))) ≡ codes "[1, 2 | \"f\"]"
unfolding digits
value_text-open = refl

pub value_text-open_integer : value_text some_names (pair nil two) ≡ codes "[[] | 2]"
unfolding digits
value_text-open_integer = refl

pub value_text-open_applied : value_text some_names (pair one (Con f_name (more two none))) ≡ codes "[1 | f(2)]"
unfolding word_operators digits
value_text-open_applied = refl

pub value_text-open_atom : value_text some_names (pair one (Con red_name none)) ≡ codes "[1 | red_1]"
unfolding word_operators digits
value_text-open_atom = refl

-- an item that is a list, behind the first
pub value_text-nested : value_text some_names (pair one (pair (pair two nil) (pair nil nil))) ≡ codes "[1, [2], []]"
unfolding digits
value_text-nested = refl

pub value_text-atom : value_text some_names (Con red_name none) ≡ codes "red_1"
unfolding word_operators
value_text-atom = refl

pub value_text-applied : value_text some_names (Con f_name (more nil (more two (more (pair one nil) none)))) ≡ codes "f([], 2, [1])"
unfolding word_operators digits
value_text-applied = refl

-- the lists' names with other numbers of arguments

pub value_text-nil_applied : value_text some_names (Con nil_name (more one none)) ≡ codes "'[]'(1)"
unfolding digits
value_text-nil_applied = refl

pub value_text-cons_applied : value_text some_names (Con cons_name (more one none)) ≡ codes "'[|]'(1)"
unfolding digits
value_text-cons_applied = refl

pub value_text-cons_of_three : value_text some_names (Con cons_name (more one (more two (more nil none)))) ≡ codes "'[|]'(1, 2, [])"
unfolding digits
value_text-cons_of_three = refl

pub value_text-cons_alone : value_text some_names (Con cons_name none) ≡ codes "'[|]'"
value_text-cons_alone = refl

-- a name that the table does not hold
pub value_text-unknown : value_text some_names (Con unknown_name none) ≡ codes "''"
value_text-unknown = refl

-- which names need no quotes

pub is_plain-example : is_plain (codes "aZ_09z") ≡ true
unfolding word_operators
is_plain-example = refl

-- an upper-case letter or a `_` begins a variable
pub name_text-upper : name_text (codes "Red") ≡ codes "'Red'"
name_text-upper = refl

pub name_text-underscore : name_text (codes "_red") ≡ codes "'_red'"
name_text-underscore = refl

pub name_text-digit : name_text (codes "1st") ≡ codes "'1st'"
name_text-digit = refl

pub name_text-graphic : name_text (codes "{}") ≡ codes "'{}'"
name_text-graphic = refl

pub name_text-blank : name_text (codes "a b") ≡ codes "'a b'"
name_text-blank = refl

-- operators, though they are spelled like plain names
pub name_text-operator : name_text (codes "mode") ≡ codes "'mode'"
unfolding word_operators
name_text-operator = refl

pub is_plain-counterexample : is_plain (codes "rem") ≡ true → ⊥
unfolding word_operators
is_plain-counterexample same = cc

pub is_blank-example : is_blank (codes "f" ∷ codes "_" ∷ []) 1 ≡ true
is_blank-example = refl

-- a name that begins so is another one
pub is_blank-longer : is_blank (codes "_f" ∷ []) 0 ≡ false
is_blank-longer = refl

pub is_blank-unknown : is_blank some_names unknown_name ≡ false
is_blank-unknown = refl

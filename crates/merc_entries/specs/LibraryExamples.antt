-- The units and their lines, one by one.
use Rattle.std.specs.Prelude.{◌≡◌, ℕ, List, refl, [], ◌∷◌, ◌++◌, Option, Some, None, map, length, slice_get, codes}
use Rattle.merc_entries.specs.Library.{line_feed, lines, list_lines, units, unit_text}

pub lines-example : lines (codes "a." ∷ codes "b." ∷ []) ≡ codes "a." ++ line_feed ∷ codes "b." ++ line_feed ∷ []
lines-example = refl

-- the last line has a line feed too
pub lines-counterexample : lines (codes "a." ∷ codes "b." ∷ []) ≡ codes "a." ++ line_feed ∷ codes "b." → ⊥
lines-counterexample wrong = cc

-- The names of the units

pub units-names : map (λ unit. unit.0) units ≡ codes "int" ∷ codes "string" ∷ codes "require" ∷ codes "bool" ∷ codes "maybe" ∷ codes "list" ∷ []
unfolding units
units-names = refl

-- built in: a text without a byte

pub unit_text-int : unit_text (codes "int") ≡ Some []
unfolding units
unit_text-int = refl

pub unit_text-string : unit_text (codes "string") ≡ Some []
unfolding units
unit_text-string = refl

pub unit_text-require : unit_text (codes "require") ≡ Some []
unfolding units
unit_text-require = refl

pub unit_text-int-none : unit_text (codes "int") ≡ None → ⊥
unfolding units
unit_text-int-none wrong = cc

pub unit_text-bool : unit_text (codes "bool") ≡ Some (codes ":- type bool ---> no ; yes." ++ line_feed ∷ [])
unfolding units
unit_text-bool = refl

pub unit_text-maybe : unit_text (codes "maybe") ≡ Some (codes ":- type maybe(T) ---> no ; yes(T)." ++ line_feed ∷ [])
unfolding units
unit_text-maybe = refl

pub unit_text-list : unit_text (codes "list") ≡ Some (lines list_lines)
unfolding units
unit_text-list = refl

-- a front of a unit's name is no unit's name
pub unit_text-unknown : unit_text (codes "may") ≡ None
unfolding units
unit_text-unknown = refl

-- nor is a name that begins with that of a unit
pub unit_text-longer : unit_text (codes "lists") ≡ None
unfolding units
unit_text-longer = refl

-- The lines of `list`, counted from 1

abbrev line_of_list : ℕ → Option (List ℕ)
line_of_list number = slice_get ([] ∷ list_lines) number

pub list_lines-count : length list_lines ≡ 19
list_lines-count = refl

pub list-type : line_of_list 1 ≡ Some (codes ":- type list(T) ---> [] ; [T | list(T)].")
list-type = refl

pub list-append : line_of_list 2 ≡ Some (codes ":- pred append(list(T), list(T), list(T)).")
list-append = refl

pub list-append-in : line_of_list 3 ≡ Some (codes ":- mode append(in, in, out) is det.")
list-append-in = refl

pub list-append-out : line_of_list 4 ≡ Some (codes ":- mode append(out, out, in) is multi.")
list-append-out = refl

pub list-append-nil : line_of_list 5 ≡ Some (codes "append([], Ys, Ys).")
list-append-nil = refl

pub list-append-cons : line_of_list 6 ≡ Some (codes "append([X | Xs], Ys, [X | Zs]) :- append(Xs, Ys, Zs).")
list-append-cons = refl

pub list-member : line_of_list 7 ≡ Some (codes ":- pred member(T, list(T)).")
list-member = refl

pub list-member-in : line_of_list 8 ≡ Some (codes ":- mode member(in, in) is semidet.")
list-member-in = refl

pub list-member-out : line_of_list 9 ≡ Some (codes ":- mode member(out, in) is nondet.")
list-member-out = refl

pub list-member-first : line_of_list 10 ≡ Some (codes "member(X, [X | _]).")
list-member-first = refl

pub list-member-later : line_of_list 11 ≡ Some (codes "member(X, [_ | Xs]) :- member(X, Xs).")
list-member-later = refl

pub list-length : line_of_list 12 ≡ Some (codes ":- pred length(list(T)::in, int::out) is det.")
list-length = refl

pub list-length-nil : line_of_list 13 ≡ Some (codes "length([], 0).")
list-length-nil = refl

pub list-length-cons : line_of_list 14 ≡ Some (codes "length([_ | Xs], N) :- length(Xs, M), N = M + 1.")
list-length-cons = refl

pub list-reverse : line_of_list 15 ≡ Some (codes ":- pred reverse(list(T)::in, list(T)::out) is det.")
list-reverse = refl

pub list-reverse-clause : line_of_list 16 ≡ Some (codes "reverse(Xs, Ys) :- list_reverse_onto(Xs, [], Ys).")
list-reverse-clause = refl

pub list-list_reverse_onto : line_of_list 17 ≡ Some (codes ":- pred list_reverse_onto(list(T)::in, list(T)::in, list(T)::out) is det.")
list-list_reverse_onto = refl

pub list-list_reverse_onto-nil : line_of_list 18 ≡ Some (codes "list_reverse_onto([], A, A).")
list-list_reverse_onto-nil = refl

pub list-list_reverse_onto-cons : line_of_list 19 ≡ Some (codes "list_reverse_onto([X | Xs], A, Ys) :- list_reverse_onto(Xs, [X | A], Ys).")
list-list_reverse_onto-cons = refl

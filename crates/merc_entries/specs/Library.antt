-- The library units: the names that a module may import, each with the text of its declarations and clauses.
use Rattle.std.specs.Prelude.{ℕ, List, [], ◌∷◌, ◌++◌, Option, find, codes}
use Rattle.std.specs.Option.{option_map}
use Rattle.std.specs.Str.{bytes_eq}

-- these lines, each with a line feed behind it

abbrev pub line_feed : ℕ
line_feed = 10

abbrev pub lines : List (List ℕ) → List ℕ
lines [] = []
lines (line ∷ rest) = line ++ line_feed ∷ lines rest

-- the declarations and clauses of the unit `list`
abbrev pub list_lines : List (List ℕ)
list_lines =
    codes ":- type list(T) ---> [] ; [T | list(T)]." ∷
    codes ":- pred append(list(T), list(T), list(T))." ∷
    codes ":- mode append(in, in, out) is det." ∷
    codes ":- mode append(out, out, in) is multi." ∷
    codes "append([], Ys, Ys)." ∷
    codes "append([X | Xs], Ys, [X | Zs]) :- append(Xs, Ys, Zs)." ∷
    codes ":- pred member(T, list(T))." ∷
    codes ":- mode member(in, in) is semidet." ∷
    codes ":- mode member(out, in) is nondet." ∷
    codes "member(X, [X | _])." ∷
    codes "member(X, [_ | Xs]) :- member(X, Xs)." ∷
    codes ":- pred length(list(T)::in, int::out) is det." ∷
    codes "length([], 0)." ∷
    codes "length([_ | Xs], N) :- length(Xs, M), N = M + 1." ∷
    codes ":- pred reverse(list(T)::in, list(T)::out) is det." ∷
    codes "reverse(Xs, Ys) :- list_reverse_onto(Xs, [], Ys)." ∷
    codes ":- pred list_reverse_onto(list(T)::in, list(T)::in, list(T)::out) is det." ∷
    codes "list_reverse_onto([], A, A)." ∷
    codes "list_reverse_onto([X | Xs], A, Ys) :- list_reverse_onto(Xs, [X | A], Ys)." ∷
    []

-- each unit with its text; the items of a unit whose text is empty are built in
unfoldable pub units : List (List ℕ × List ℕ)
units =
    (codes "int", []) ∷
    (codes "string", []) ∷
    (codes "require", []) ∷
    (codes "bool", lines (codes ":- type bool ---> no ; yes." ∷ [])) ∷
    (codes "maybe", lines (codes ":- type maybe(T) ---> no ; yes(T)." ∷ [])) ∷
    (codes "list", lines list_lines) ∷
    []

-- the text of the unit of this name
abbrev pub unit_text : List ℕ → Option (List ℕ)
unit_text name = option_map (λ unit. unit.1) (find (λ unit. bytes_eq name unit.0) units)

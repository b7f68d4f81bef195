-- Which rights move into the one goal that uses their variable.
use Rattle.std.specs.Prelude.{◌≡◌, ◌≢◌, ◌⊎◌, ◌<◌, ◌+◌, ◌==◌, ◌&&◌, not, nat_le, ℕ, suc, Bool, true, false, List, [], ◌∷◌, ◌++◌, length, map, take, slice_index_or, Option, Some, None, refl, if◌then◌else◌}
use Rattle.std.specs.List.{filter}
use Rattle.std.specs.Option.{is_some}
use Rattle.std.proofs.Common.{◌∙◌, ap, sym, inl, inr, le-leb, arith}
use Rattle.std.proofs.lemmas.List.{append-nil, map-append, take_more}
use Rattle.std.proofs.lemmas.Bool.Decides.{eqb_tells}
use Rattle.merc_graded_tree.specs.Nodes.{Node, nodes_of}
use Rattle.merc_graded_tree.specs.Variables.{in_node}
use Rattle.merc_rights.specs.Members.{uses_it}
use Rattle.merc_rights.specs.Waits.{moves, rights_of}
use Rattle.merc_rights.specs.Rights.{Right, users}
use Rattle.merc_rights.specs.Rows.{next_from, numbers_from}
use Rattle.merc_rights.specs.declared.rights.Awaited.{Awaited}
use Rattle.merc_rights.proofs.Indexes.{walks, walked}

from_none : (number : ℕ) → nat_le 0 number ≡ true
from_none number = le-leb 0 number (omega arith)

pub users_are : (number : ℕ) (goals : List Node) (variable : ℕ) → users (suc number) (nodes_of goals) variable ≡ map suc (numbers_from (uses_it variable) 0 number goals)
users_are number [] variable = refl
users_are number (first ∷ rest) variable =
    by (in_node first variable) (users_are (suc number) rest variable)
    ∙ sym (ap (λ b. map suc (if b && in_node first variable then number ∷ numbers_from (uses_it variable) 0 (suc number) rest else numbers_from (uses_it variable) 0 (suc number) rest)) (from_none number))
  where
    by : (b : Bool) → users (suc (suc number)) (nodes_of rest) variable ≡ map suc (numbers_from (uses_it variable) 0 (suc number) rest)
        → (if b then suc number ∷ users (suc (suc number)) (nodes_of rest) variable else users (suc (suc number)) (nodes_of rest) variable)
        ≡ map suc (if b then number ∷ numbers_from (uses_it variable) 0 (suc number) rest else numbers_from (uses_it variable) 0 (suc number) rest)
    by true same = ap (λ l. suc number ∷ l) same
    by false same = same

and_false : (b : Bool) → (b && false) ≡ false
and_false true = refl
and_false false = refl

two : (count : ℕ) → false ≡ (suc (suc count) == 1)
two count = by (eqb_tells (suc (suc count)) 1)
  where
    by : (((suc (suc count) == 1) ≡ true) × (suc (suc count) ≡ 1)) ⊎ (((suc (suc count) == 1) ≡ false) × (suc (suc count) ≢ 1)) → false ≡ (suc (suc count) == 1)
    by (inl told) = absurd (omega (arith, told.1))
    by (inr told) = sym told.0

-- whether none is behind the first
alone : (such : Node → Bool) (goals : List Node) (user : ℕ) (next : Option ℕ) → next ≡ next_from such (suc user) 0 goals
    → not (is_some next) ≡ (length (map suc (user ∷ numbers_from such (suc user) 0 goals)) == 1)
alone such goals user None is = ap (λ l. length (map suc (user ∷ l)) == 1) (sym (walked such (suc user) 0 goals is))
alone such goals user (Some other) is =
    two (length (map suc (numbers_from such (suc other) 0 goals))) ∙ ap (λ l. length (map suc (user ∷ l)) == 1) (sym ((walks such (suc user) 0 goals other is).rest))

pub moves_some : (goals : List Node) (wait : Awaited) (user : ℕ) → Some user ≡ next_from (uses_it wait.right.variable) 0 0 goals
    → (not wait.later && not (is_some (next_from (uses_it wait.right.variable) (suc user) 0 goals))) ≡ moves (nodes_of goals) wait
moves_some goals wait user found =
    let such = uses_it wait.right.variable in
    ap (λ b. not wait.later && b) (alone such goals user (next_from such (suc user) 0 goals) refl
    ∙ ap (λ l. length (map suc l) == 1) (sym ((walks such 0 0 goals user found).rest))
    ∙ ap (λ l. length l == 1) (sym (users_are 0 goals wait.right.variable)))

pub moves_none : (goals : List Node) (wait : Awaited) → None ≡ next_from (uses_it wait.right.variable) 0 0 goals → false ≡ moves (nodes_of goals) wait
moves_none goals wait none =
    let such = uses_it wait.right.variable in
    sym (ap (λ l. not wait.later && (length l == 1)) (users_are 0 goals wait.right.variable ∙ ap (map suc) (walked such 0 0 goals none)) ∙ and_false (not wait.later))

-- a right goes to its part

filter_push : (p : Awaited → Bool) (waits : List Awaited) (last : Awaited) → filter p (waits ++ last ∷ []) ≡ filter p waits ++ filter p (last ∷ [])
filter_push p [] last = refl
filter_push p (first ∷ rest) last = by (p first) (filter_push p rest last)
  where
    by : (b : Bool) → filter p (rest ++ last ∷ []) ≡ filter p rest ++ filter p (last ∷ [])
        → (if b then first ∷ filter p (rest ++ last ∷ []) else filter p (rest ++ last ∷ [])) ≡ (if b then first ∷ filter p rest else filter p rest) ++ filter p (last ∷ [])
    by true same = ap (λ l. first ∷ l) same
    by false same = same

stays_if : (b : Bool) (waits : List Awaited) (last : Awaited) → rights_of waits ++ (if b then last.right ∷ [] else []) ≡ rights_of (waits ++ (if b then last ∷ [] else []))
stays_if true waits last = sym (map-append (λ (w : Awaited). w.right) waits (last ∷ []))
stays_if false waits last = append-nil (rights_of waits) ∙ ap rights_of (sym (append-nil waits))

unless : (b : Bool) (waits : List Awaited) (last : Awaited) → waits ++ (if b then [] else last ∷ []) ≡ waits ++ (if not b then last ∷ [] else [])
unless true waits last = refl
unless false waits last = refl

pub parted_more : (p q : Awaited → Bool) (waits : List Awaited) (index : ℕ) (wait : Awaited) (b : Bool) (before before' : List Right) (inside inside' : List Awaited)
    → wait ≡ slice_index_or waits index wait → index < length waits → p wait ≡ b → q wait ≡ not b
    → before ≡ rights_of (filter p (take index waits)) → inside ≡ filter q (take index waits)
    → before' ≡ before ++ (if b then wait.right ∷ [] else []) → inside' ≡ inside ++ (if b then [] else wait ∷ [])
    → (before' ≡ rights_of (filter p (take (index + 1) waits))) × (inside' ≡ filter q (take (index + 1) waits))
parted_more p q waits index wait b before before' inside inside' is less chosen other old old' new new' =
    let done = take index waits in
    let more : done ++ wait ∷ [] ≡ take (index + 1) waits = sym (take_more waits index wait less ∙ ap (λ x. done ++ x ∷ []) (sym is)) in (
      new ∙ ap (λ l. l ++ (if b then wait.right ∷ [] else [])) old ∙ stays_if b (filter p done) wait
          ∙ ap (λ c. rights_of (filter p done ++ (if c then wait ∷ [] else []))) (sym chosen)
          ∙ ap rights_of (sym (filter_push p done wait) ∙ ap (filter p) more),
      new' ∙ ap (λ l. l ++ (if b then [] else wait ∷ [])) old' ∙ unless b (filter q done) wait
          ∙ ap (λ c. filter q done ++ (if c then wait ∷ [] else [])) (sym other)
          ∙ sym (filter_push q done wait) ∙ ap (filter q) more,
    )

some_if : (b : Bool) → is_some {T = ℕ} (if b then Some 0 else None) ≡ b
some_if true = refl
some_if false = refl

pub used_alone : (goal : Node) (goals : List Node) (variable : ℕ) → goals ≡ goal ∷ [] → is_some (next_from (uses_it variable) 0 0 goals) ≡ in_node goal variable
used_alone goal goals variable are = ap (λ l. is_some (next_from (uses_it variable) 0 0 l)) are ∙ some_if (in_node goal variable)

pub not_not : (b : Bool) → b ≡ not (not b)
not_not true = refl
not_not false = refl

-- a test that passes, and one that does not
pub both_of : (a b : Bool) → a ≡ true → b ≡ (a && b)
both_of a b is = sym (ap (λ c. c && b) is)

pub first_not : (a b : Bool) → a ≡ false → a ≡ (a && b)
first_not a b is = is ∙ sym (ap (λ c. c && b) is)

-- The variables of terms are those of their first term's root, and those of its arguments and the other terms.
use Rattle.std.proofs.Common.{◌≡◌, ℕ, ◌+◌, Bool, List, [], ◌∷◌, ◌++◌, reverse, refl, ap, sym, ◌∙◌, arith}
use Rattle.std.proofs.lemmas.List.{append_assoc, reverse-append, reverse-reverse}
use Rattle.merc_tree.specs.Term.{Term, Terms, Variable, Integer, Text, Application, none, more, list_of, terms_of}
use Rattle.merc_tree.specs.Shape.{arguments_of}
use Rattle.merc_goals.specs.Written.{parts, parts_of}
use Rattle.merc_scopes.specs.declared.occurrence.Occurrence.{Occurrence}
use Rattle.merc_scopes.specs.Scopes.{occurrences, occurrences_of}
use Rattle.merc_answer_variables.specs.Reading.{own_occurrence, listed}

-- the numbers that terms have
abbrev pub all_parts : List Term → ℕ
all_parts terms = parts_of (terms_of terms)

listed-at : (blank : ℕ → Bool) (at other : ℕ) (terms : List Term) → at ≡ other → listed blank at terms ≡ listed blank other terms
listed-at blank at other terms same = ap (λ n. listed blank n terms) same

listed-arguments : (blank : ℕ → Bool) (at : ℕ) (arguments : Terms) (rest : List Term)
    → listed blank at (list_of arguments ++ rest) ≡ occurrences_of blank at arguments ++ listed blank (at + parts_of arguments) rest
listed-arguments blank at none rest = listed-at blank at (at + 0) rest (omega arith)
listed-arguments blank at (more first others) rest =
    ap (λ l. occurrences blank at first ++ l) (listed-arguments blank (at + parts first) others rest)
    ∙ ap (λ l. occurrences blank at first ++ (occurrences_of blank (at + parts first) others ++ l)) (listed-at blank (at + parts first + parts_of others) (at + (parts first + parts_of others)) rest (omega arith))
    ∙ sym (append_assoc (occurrences blank at first) (occurrences_of blank (at + parts first) others) (listed blank (at + (parts first + parts_of others)) rest))

listed-root : (blank : ℕ → Bool) (at : ℕ) (term : Term) (rest : List Term)
    → own_occurrence blank at term ++ listed blank (at + 2) (arguments_of term ++ rest) ≡ listed blank at (term ∷ rest)
listed-root blank at (Variable name span) rest = refl
listed-root blank at (Integer value span) rest = refl
listed-root blank at (Text name span) rest = refl
listed-root blank at (Application name qualifier arguments span) rest =
    listed-arguments blank (at + 2) arguments rest
    ∙ ap (λ l. occurrences_of blank (at + 2) arguments ++ l) (listed-at blank (at + 2 + parts_of arguments) (at + (2 + parts_of arguments)) rest (omega arith))

parts-arguments : (arguments : Terms) (rest : List Term) → all_parts (list_of arguments ++ rest) ≡ parts_of arguments + all_parts rest
parts-arguments none rest = omega arith
parts-arguments (more first others) rest = omega (arith, parts-arguments others rest)

root_parts : (term : Term) (rest : List Term) → all_parts (term ∷ rest) ≡ 2 + all_parts (arguments_of term ++ rest)
root_parts (Variable name span) rest = omega arith
root_parts (Integer value span) rest = omega arith
root_parts (Text name span) rest = omega arith
root_parts (Application name qualifier arguments span) rest = omega (arith, parts-arguments arguments rest)

popped_reversed : (terms popped : List Term) (term : Term) → terms ≡ popped ++ term ∷ [] → reverse terms ≡ term ∷ reverse popped
popped_reversed terms popped term popping = ap reverse popping ∙ reverse-append popped (term ∷ [])

pushed_reversed : (popped pushed arguments : List Term) → pushed ≡ popped ++ reverse arguments → reverse pushed ≡ arguments ++ reverse popped
pushed_reversed popped pushed arguments pushing =
    ap reverse pushing ∙ reverse-append popped (reverse arguments) ∙ ap (λ l. l ++ reverse popped) (reverse-reverse arguments)

pub term_step : (blank : ℕ → Bool) (at : ℕ) (terms popped pushed : List Term) (term : Term) (found longer whole : List Occurrence)
    → terms ≡ popped ++ term ∷ [] → pushed ≡ popped ++ reverse (arguments_of term) → longer ≡ found ++ own_occurrence blank at term
    → found ++ listed blank at (reverse terms) ≡ whole → longer ++ listed blank (at + 2) (reverse pushed) ≡ whole
term_step blank at terms popped pushed term found longer whole popping pushing finding is =
    ap (λ l. l ++ listed blank (at + 2) (reverse pushed)) finding
    ∙ append_assoc found (own_occurrence blank at term) (listed blank (at + 2) (reverse pushed))
    ∙ ap (λ l. found ++ (own_occurrence blank at term ++ listed blank (at + 2) l)) (pushed_reversed popped pushed (arguments_of term) pushing)
    ∙ ap (λ l. found ++ l) (listed-root blank at term (reverse popped))
    ∙ ap (λ l. found ++ listed blank at l) (sym (popped_reversed terms popped term popping))
    ∙ is

pub term_parts : (terms popped pushed : List Term) (term : Term) → terms ≡ popped ++ term ∷ [] → pushed ≡ popped ++ reverse (arguments_of term)
    → all_parts (reverse terms) ≡ 2 + all_parts (reverse pushed)
term_parts terms popped pushed term popping pushing =
    let root = root_parts term (reverse popped) in
    let left = ap all_parts (pushed_reversed popped pushed (arguments_of term) pushing) in
    let right = ap all_parts (popped_reversed terms popped term popping) in
    omega (arith, root, left, right)

pub listed-terms : (blank : ℕ → Bool) (at : ℕ) (terms : List Term) → listed blank at terms ≡ occurrences_of blank at (terms_of terms)
listed-terms blank at [] = refl
listed-terms blank at (first ∷ rest) = ap (λ l. occurrences blank at first ++ l) (listed-terms blank (at + parts first) rest)

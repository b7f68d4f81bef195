-- Terms are walked with a stack.
use Rattle.std.proofs.Common.{◌≡◌, ℕ, ◌+◌, ◌<◌, Bool, List, [], ◌∷◌, ◌++◌, Option, reverse, if◌then◌else◌, refl, ap, sym, ◌∙◌, arith}
use Rattle.std.specs.Option.{option_or}
use Rattle.std.proofs.lemmas.List.{append_assoc, append-nil, reverse-append}
use Rattle.merc_tree.specs.Term.{Term, Variable, Integer, Text, Application, terms_of}
use Rattle.merc_tree.specs.TermCode.{terms_of-list_of}
use Rattle.merc_tree.specs.Shape.{shape_of, arguments_of}
use Rattle.merc_tree.specs.declared.term.Shape.{Shape}
use Rattle.merc_tree.specs.declared.term.Shape.TheVariants.{Variable as VariableShape}
use Rattle.merc_goals.specs.Written.{parts, parts_of}
use Rattle.merc_goals.specs.Numbers.{NumberedTerm}
use Rattle.merc_scopes.specs.declared.occurrence.Occurrence.{Occurrence}
use Rattle.merc_scopes.specs.Scopes.{at_of, occurrence, occurrences, occurrences_of}
use Rattle.merc_goals.specs.Numbers.{numbered_from}
use Rattle.merc_scopes.specs.Walking.{stacked}
use Rattle.merc_scopes.proofs.PlaceLaws.{at_of-append, option_or-assoc}

-- how many numbers the parts of terms have
abbrev pub parts_all : List NumberedTerm → ℕ
parts_all [] = 0
parts_all (numbered ∷ rest) = parts numbered.term + parts_all rest

parts_some : (term : Term) → 0 < parts term
parts_some (Variable name span) = omega arith
parts_some (Integer value span) = omega arith
parts_some (Text text span) = omega arith
parts_some (Application name qualifier arguments span) = omega arith

parts_all-append : (front back : List NumberedTerm) → parts_all (front ++ back) ≡ parts_all front + parts_all back
parts_all-append [] back = omega arith
parts_all-append (first ∷ rest) back = omega (arith, parts_all-append rest back)

pub parts-arguments : (term : Term) → parts term ≡ 2 + parts_of (terms_of (arguments_of term))
parts-arguments (Variable name span) = omega arith
parts-arguments (Integer value span) = omega arith
parts-arguments (Text text span) = omega arith
parts-arguments (Application name qualifier arguments span) = ap (λ l. 2 + parts_of l) (sym (terms_of-list_of arguments))

-- the arguments of a term are pushed, the last of them first

pub parts_of-push : (terms : List Term) (last : Term) → parts_of (terms_of (terms ++ last ∷ [])) ≡ parts_of (terms_of terms) + parts last
parts_of-push [] last = omega arith
parts_of-push (first ∷ rest) last = omega (arith, parts_of-push rest last)

numbered_from-push : (at : ℕ) (terms : List Term) (last : Term)
    → numbered_from at (terms ++ last ∷ []) ≡ numbered_from at terms ++ record { term = last; at = at + parts_of (terms_of terms) } ∷ []
numbered_from-push at [] last =
    let number : ℕ → List NumberedTerm = λ n. record { term = last; at = n } ∷ [] in
    ap number (let e : at ≡ at + 0 = omega arith in e)
numbered_from-push at (first ∷ rest) last =
    let number : ℕ → List NumberedTerm = λ n. record { term = first; at = at } ∷ (numbered_from (at + parts first) rest ++ record { term = last; at = n } ∷ []) in
    ap (λ l. record { term = first; at = at } ∷ l) (numbered_from-push (at + parts first) rest last)
    ∙ ap number (let e : at + parts first + parts_of (terms_of rest) ≡ at + (parts first + parts_of (terms_of rest)) = omega arith in e)

-- one argument more is pushed
pub push_step : (at past : ℕ) (old rest : List Term) (last : Term) (stack pushed whole : List NumberedTerm) → old ≡ rest ++ last ∷ [] → past ≡ at + parts_of (terms_of rest)
    → pushed ≡ stack ++ record { term = last; at = past } ∷ [] → stack ++ reverse (numbered_from at old) ≡ whole → pushed ++ reverse (numbered_from at rest) ≡ whole
push_step at past old rest last stack pushed whole taken number pushing before =
    let number_of : ℕ → NumberedTerm = λ n. record { term = last; at = n } in
    ap (λ l. l ++ reverse (numbered_from at rest)) pushing
    ∙ append_assoc stack (number_of past ∷ []) (reverse (numbered_from at rest))
    ∙ ap (λ n. stack ++ (number_of n ∷ [] ++ reverse (numbered_from at rest))) number
    ∙ ap (λ l. stack ++ l) (sym (reverse-append (numbered_from at rest) (number_of (at + parts_of (terms_of rest)) ∷ [])))
    ∙ ap (λ l. stack ++ reverse l) (sym (numbered_from-push at rest last) ∙ ap (numbered_from at) (sym taken))
    ∙ before

-- the variables of what lies on a stack

pub stacked-append : (blank : ℕ → Bool) (front back : List NumberedTerm) → stacked blank (front ++ back) ≡ stacked blank back ++ stacked blank front
stacked-append blank [] back = sym (append-nil (stacked blank back))
stacked-append blank (first ∷ rest) back =
    ap (λ l. l ++ occurrences blank first.at first.term) (stacked-append blank rest back) ∙ append_assoc (stacked blank back) (stacked blank rest) (occurrences blank first.at first.term)

pub stacked-arguments : (blank : ℕ → Bool) (at : ℕ) (terms : List Term) → stacked blank (reverse (numbered_from at terms)) ≡ occurrences_of blank at (terms_of terms)
stacked-arguments blank at [] = refl
stacked-arguments blank at (first ∷ rest) =
    let number : NumberedTerm = record { term = first; at = at } in
    ap (stacked blank) (reverse-append (number ∷ []) (numbered_from (at + parts first) rest))
    ∙ stacked-append blank (reverse (numbered_from (at + parts first) rest)) (number ∷ [])
    ∙ ap (λ l. occurrences blank at first ++ l) (stacked-arguments blank (at + parts first) rest)

pub parts_all-arguments : (at : ℕ) (terms : List Term) → parts_all (reverse (numbered_from at terms)) ≡ parts_of (terms_of terms)
parts_all-arguments at [] = refl
parts_all-arguments at (first ∷ rest) =
    let number : NumberedTerm = record { term = first; at = at } in
    ap parts_all (reverse-append (number ∷ []) (numbered_from (at + parts first) rest))
    ∙ omega (arith, parts_all-append (reverse (numbered_from (at + parts first) rest)) (number ∷ []), parts_all-arguments (at + parts first) rest)

-- a variable is taken off the stack, and its arguments are put there in place of another term

stacked-pop : (blank : ℕ → Bool) (old popped : List NumberedTerm) (numbered : NumberedTerm) → old ≡ popped ++ numbered ∷ []
    → stacked blank old ≡ occurrences blank numbered.at numbered.term ++ stacked blank popped
stacked-pop blank old popped numbered popping = ap (stacked blank) popping ∙ stacked-append blank popped (numbered ∷ [])

pub popped_less : (old popped : List NumberedTerm) (numbered : NumberedTerm) → old ≡ popped ++ numbered ∷ [] → parts_all popped < parts_all old
popped_less old popped numbered popping = omega (arith, ap parts_all popping, parts_all-append popped (numbered ∷ []), parts_some numbered.term)

pub pushed_less : (old popped pushed : List NumberedTerm) (numbered : NumberedTerm) → old ≡ popped ++ numbered ∷ []
    → pushed ≡ popped ++ reverse (numbered_from (numbered.at + 2) (arguments_of numbered.term)) → parts_all pushed < parts_all old
pushed_less old popped pushed numbered popping pushing =
    let arguments = reverse (numbered_from (numbered.at + 2) (arguments_of numbered.term)) in
    omega (
      arith,
      ap parts_all popping,
      ap parts_all pushing,
      parts_all-append popped (numbered ∷ []),
      parts_all-append popped arguments,
      parts_all-arguments (numbered.at + 2) (arguments_of numbered.term),
      parts-arguments numbered.term,
    )

occurrences-variable : (blank : ℕ → Bool) (at : ℕ) (term : Term) (name : ℕ) → VariableShape name ≡ shape_of term
    → occurrences blank at term ≡ (if blank name then [] else occurrence name at ∷ [])
occurrences-variable blank at (Variable other span) name is = let same : other ≡ name = cc in ap (λ n. if blank n then [] else occurrence n at ∷ []) same
occurrences-variable blank at (Integer value span) name is = cc
occurrences-variable blank at (Text text span) name is = cc
occurrences-variable blank at (Application other qualifier arguments span) name is = cc

-- a variable joins those that were found
pub variable_step : (blank : ℕ → Bool) (old popped : List NumberedTerm) (numbered : NumberedTerm) (name : ℕ) → old ≡ popped ++ numbered ∷ [] → VariableShape name ≡ shape_of numbered.term
    → (other : ℕ) (before after whole : Option ℕ) → after ≡ option_or before (at_of other (if blank name then [] else occurrence name numbered.at ∷ []))
    → option_or before (at_of other (stacked blank old)) ≡ whole → option_or after (at_of other (stacked blank popped)) ≡ whole
variable_step blank old popped numbered name popping is other before after whole added so_far =
    let here : List Occurrence = if blank name then [] else occurrence name numbered.at ∷ [] in
    ap (λ (o : Option ℕ). option_or o (at_of other (stacked blank popped))) added
    ∙ option_or-assoc before (at_of other here) (at_of other (stacked blank popped))
    ∙ ap (option_or before) (
    sym (at_of-append other here (stacked blank popped))
    ∙ ap (λ l. at_of other (l ++ stacked blank popped)) (sym (occurrences-variable blank numbered.at numbered.term name is))
    ∙ ap (at_of other) (sym (stacked-pop blank old popped numbered popping))
    )
    ∙ so_far

-- a term that is no variable gives way to its arguments

occurrences-other : (blank : ℕ → Bool) (at : ℕ) (term : Term) (shape : Shape) → shape ≡ shape_of term → ((name : ℕ) → shape ≡ VariableShape name → ⊥)
    → occurrences blank at term ≡ occurrences_of blank (at + 2) (terms_of (arguments_of term))
occurrences-other blank at (Variable name span) shape is other = absurd (other name is)
occurrences-other blank at (Integer value span) shape is other = refl
occurrences-other blank at (Text text span) shape is other = refl
occurrences-other blank at (Application name qualifier arguments span) shape is other = ap (occurrences_of blank (at + 2)) (sym (terms_of-list_of arguments))

pub arguments_step : (blank : ℕ → Bool) (old popped pushed : List NumberedTerm) (numbered : NumberedTerm) (shape : Shape) → old ≡ popped ++ numbered ∷ []
    → shape ≡ shape_of numbered.term → ((name : ℕ) → shape ≡ VariableShape name → ⊥) → pushed ≡ popped ++ reverse (numbered_from (numbered.at + 2) (arguments_of numbered.term))
    → (other : ℕ) (before whole : Option ℕ) → option_or before (at_of other (stacked blank old)) ≡ whole → option_or before (at_of other (stacked blank pushed)) ≡ whole
arguments_step blank old popped pushed numbered shape popping is not_variable pushing other before whole so_far =
    let arguments = numbered_from (numbered.at + 2) (arguments_of numbered.term) in
    ap (λ l. option_or before (at_of other l)) (
    ap (stacked blank) pushing
    ∙ stacked-append blank popped (reverse arguments)
    ∙ ap (λ l. l ++ stacked blank popped) (
    stacked-arguments blank (numbered.at + 2) (arguments_of numbered.term) ∙ sym (occurrences-other blank numbered.at numbered.term shape is not_variable)
    )
    ∙ sym (stacked-pop blank old popped numbered popping)
    )
    ∙ so_far

-- A chain is taken apart link by link.
use Rattle.std.proofs.Common.{◌≡◌, ℕ, ◌+◌, ◌<◌, ◌==◌, ◌&&◌, Bool, true, false, List, [], ◌∷◌, ◌++◌, length, Option, Some, None, if◌then◌else◌, refl, ap, sym, subst, ◌∙◌, arith}
use Rattle.std.proofs.lemmas.List.{append_assoc, append-nil}
use Rattle.merc_tree.specs.Term.{Term, Terms, Variable, Integer, Text, Application, none, more}
use Rattle.merc_operands.specs.Members.{chain, link_of, stacked}

-- how many nodes a term has, and terms have
abbrev mutual
  pub size : Term → ℕ
  size (Variable name span) = 1
  size (Integer value span) = 1
  size (Text text span) = 1
  size (Application name qualifier arguments span) = 1 + size_all arguments

  pub size_all : Terms → ℕ
  size_all none = 0
  size_all (more first rest) = size first + size_all rest

abbrev pub stack_size : List Term → ℕ
stack_size [] = 0
stack_size (term ∷ rest) = size term + stack_size rest

pub stack_size-push : (stack : List Term) (term : Term) → stack_size (stack ++ term ∷ []) ≡ stack_size stack + size term
stack_size-push [] term = omega arith
stack_size-push (first ∷ rest) term = omega (arith, stack_size-push rest term)

pub stacked-push : (operator : ℕ) (stack : List Term) (term : Term) → stacked operator (stack ++ term ∷ []) ≡ chain operator term ++ stacked operator stack
stacked-push operator [] term = sym (append-nil (chain operator term))
stacked-push operator (first ∷ rest) term =
    ap (λ l. l ++ chain operator first) (stacked-push operator rest term)
    ∙ append_assoc (chain operator term) (stacked operator rest) (chain operator first)

abbrev pub members_by : ℕ → Term → Option (Term × Term) → List Term
members_by operator term None = term ∷ []
members_by operator term (Some (first, second)) = chain operator first ++ chain operator second

two_links : (test : Bool) (operator : ℕ) (term first second : Term)
    → (if test && true then chain operator first ++ (chain operator second ++ []) else term ∷ []) ≡ members_by operator term (if test then Some (first, second) else None)
two_links true operator term first second = ap (λ l. chain operator first ++ l) (append-nil (chain operator second))
two_links false operator term first second = refl

no_links : (test : Bool) (others only : List Term) → (if test && false then others else only) ≡ only
no_links true others only = refl
no_links false others only = refl

pub chain-by : (operator : ℕ) (term : Term) → chain operator term ≡ members_by operator term (link_of operator term)
chain-by operator (Variable name span) = refl
chain-by operator (Integer value span) = refl
chain-by operator (Text text span) = refl
chain-by operator (Application name None none span) = no_links (name == operator) _ _
chain-by operator (Application name None (more only none) span) = no_links (name == operator) _ _
chain-by operator (Application name None (more first (more second none)) span) = two_links (name == operator) operator (Application name None (more first (more second none)) span) first second
chain-by operator (Application name None (more first (more second (more third rest))) span) = no_links (name == operator) _ _
chain-by operator (Application name (Some qualifier) arguments span) = refl

abbrev IsLess : ℕ → Option (Term × Term) → Type 0
IsLess limit None = Unit {0}
IsLess limit (Some (first, second)) = size first + size second < limit

less_if : (test : Bool) (limit : ℕ) (first second : Term) → size first + size second < limit → IsLess limit (if test then Some (first, second) else None)
less_if true limit first second less = less
less_if false limit first second less = tt

link_less : (operator : ℕ) (term : Term) → IsLess (size term) (link_of operator term)
link_less operator (Variable name span) = tt
link_less operator (Integer value span) = tt
link_less operator (Text text span) = tt
link_less operator (Application name None none span) = tt
link_less operator (Application name None (more only none) span) = tt
link_less operator (Application name None (more first (more second none)) span) =
    less_if (name == operator) (size (Application name None (more first (more second none)) span)) first second (omega arith)
link_less operator (Application name None (more first (more second (more third rest))) span) = tt
link_less operator (Application name (Some qualifier) arguments span) = tt

pub link_smaller : (operator : ℕ) (term : Term) (link : Term × Term) → Some link ≡ link_of operator term → size link.0 + size link.1 < size term
link_smaller operator term link is = let P : Option (Term × Term) → Type 0 = λ o. IsLess (size term) o in subst P (sym is) (link_less operator term)

-- one step: a link gives way to its two sides, and a member joins those before it

module _ (operator : ℕ) (members old popped : List Term) (term : Term) (popping : old ≡ popped ++ term ∷ []) where
  pub link_step : (once twice : List Term) (first second : Term) → once ≡ popped ++ second ∷ [] → twice ≡ once ++ first ∷ []
      → Some (first, second) ≡ link_of operator term → (whole : List Term) → members ++ stacked operator old ≡ whole → members ++ stacked operator twice ≡ whole
  link_step once twice first second one two is whole before =
      ap (λ l. members ++ l) (
      ap (stacked operator) (two ∙ ap (λ l. l ++ first ∷ []) one)
      ∙ stacked-push operator (popped ++ second ∷ []) first
      ∙ ap (λ l. chain operator first ++ l) (stacked-push operator popped second)
      ∙ sym (append_assoc (chain operator first) (chain operator second) (stacked operator popped))
      ∙ ap (λ l. l ++ stacked operator popped) (ap (members_by operator term) is ∙ sym (chain-by operator term))
      ∙ sym (stacked-push operator popped term)
      ∙ ap (stacked operator) (sym popping)
      )
      ∙ before

  pub link_size : (once twice : List Term) (first second : Term) → once ≡ popped ++ second ∷ [] → twice ≡ once ++ first ∷ []
      → Some (first, second) ≡ link_of operator term → stack_size twice < stack_size old
  link_size once twice first second one two is =
      omega (
        arith,
        ap stack_size two,
        ap stack_size one,
        ap stack_size popping,
        stack_size-push once first,
        stack_size-push popped second,
        stack_size-push popped term,
        link_smaller operator term (first, second) is,
      )

  pub member_step : (more_members : List Term) → more_members ≡ members ++ term ∷ [] → None ≡ link_of operator term
      → (whole : List Term) → members ++ stacked operator old ≡ whole → more_members ++ stacked operator popped ≡ whole
  member_step more_members pushing is whole before =
      ap (λ l. l ++ stacked operator popped) pushing
      ∙ append_assoc members (term ∷ []) (stacked operator popped)
      ∙ ap (λ l. members ++ l) (
      ap (λ l. l ++ stacked operator popped) (ap (members_by operator term) is ∙ sym (chain-by operator term))
      ∙ sym (stacked-push operator popped term)
      ∙ ap (stacked operator) (sym popping)
      )
      ∙ before

size_some : (term : Term) → 0 < size term
size_some (Variable name span) = omega arith
size_some (Integer value span) = omega arith
size_some (Text text span) = omega arith
size_some (Application name qualifier arguments span) = omega arith

pub none_left : (stack : List Term) → length stack ≡ 0 → stack ≡ []
none_left [] is = refl
none_left (first ∷ rest) is = absurd (omega (arith, is))

pub member_size : (old popped : List Term) (term : Term) → old ≡ popped ++ term ∷ [] → stack_size popped < stack_size old
member_size old popped term popping = omega (arith, ap stack_size popping, stack_size-push popped term, size_some term)

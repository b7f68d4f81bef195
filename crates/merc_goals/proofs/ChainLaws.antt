-- A chain is taken apart link by link, with a stack.
use Rattle.std.proofs.Common.{◌≡◌, ℕ, ◌+◌, ◌≤◌, ◌<◌, ◌==◌, Bool, true, false, List, [], ◌∷◌, ◌++◌, length, Option, Some, None, if◌then◌else◌, refl, ap, sym, subst, ◌∙◌, arith}
use Rattle.std.proofs.lemmas.List.{append_assoc, append-nil}
use Rattle.merc_base.specs.Names.{if_name, then_name}
use Rattle.merc_base.specs.declared.place.Span.{Span}
use Rattle.merc_tree.specs.Term.{Term, Variable, Integer, Text, Application, none, more}
use Rattle.merc_goals.specs.Written.{parts}
use Rattle.merc_goals.specs.Roles.{role_of}
use Rattle.merc_goals.specs.Numbers.{left_of}
use Rattle.merc_goals.specs.Links.{sides_of, sides, condition_sides, is_joined, link_of, chain}
use Rattle.merc_goals.specs.Numbers.{NumberedTerm}
use Rattle.merc_goals.specs.declared.links.Both.{Both}
use Rattle.merc_goals.specs.declared.roles.ChainKind.{ChainKind}

-- the members of the chains on a stack, those of the last of them first
abbrev pub stacked : ChainKind → List NumberedTerm → List NumberedTerm
stacked kind [] = []
stacked kind (numbered ∷ rest) = stacked kind rest ++ chain kind numbered.at numbered.term

-- how many numbers the parts of terms have
abbrev pub parts_all : List NumberedTerm → ℕ
parts_all [] = 0
parts_all (numbered ∷ rest) = parts numbered.term + parts_all rest

pub parts_some : (term : Term) → 0 < parts term
parts_some (Variable name span) = omega arith
parts_some (Integer value span) = omega arith
parts_some (Text text span) = omega arith
parts_some (Application name qualifier arguments span) = omega arith

pub parts_all-append : (front back : List NumberedTerm) → parts_all (front ++ back) ≡ parts_all front + parts_all back
parts_all-append [] back = omega arith
parts_all-append (first ∷ rest) back = omega (arith, parts_all-append rest back)

pub stacked-push : (kind : ChainKind) (stack : List NumberedTerm) (numbered : NumberedTerm)
    → stacked kind (stack ++ numbered ∷ []) ≡ chain kind numbered.at numbered.term ++ stacked kind stack
stacked-push kind [] numbered = sym (append-nil (chain kind numbered.at numbered.term))
stacked-push kind (first ∷ rest) numbered =
    ap (λ l. l ++ chain kind first.at first.term) (stacked-push kind rest numbered)
    ∙ append_assoc (chain kind numbered.at numbered.term) (stacked kind rest) (chain kind first.at first.term)

abbrev pub members_by : ChainKind → NumberedTerm → Option Both → List NumberedTerm
members_by kind numbered None = numbered ∷ []
members_by kind numbered (Some both) = chain kind both.left.at both.left.term ++ chain kind both.right.at both.right.term

two_links : (test : Bool) (kind : ChainKind) (numbered : NumberedTerm) (both : Both)
    → (if test then chain kind both.left.at both.left.term ++ chain kind both.right.at both.right.term else numbered ∷ []) ≡ members_by kind numbered (if test then Some both else None)
two_links true kind numbered both = refl
two_links false kind numbered both = refl

chain-by_term : (kind : ChainKind) (at : ℕ) (term : Term)
    → chain kind at term ≡ members_by kind (record { term = term; at = at }) (link_of kind (record { term = term; at = at }))
chain-by_term kind at (Variable name span) = refl
chain-by_term kind at (Integer value span) = refl
chain-by_term kind at (Text text span) = refl
chain-by_term kind at (Application name None none span) = refl
chain-by_term kind at (Application name None (more only none) span) = refl
chain-by_term kind at (Application name None (more left (more right none)) span) =
    two_links (is_joined kind (role_of name) left) kind (record { term = Application name None (more left (more right none)) span; at = at }) (sides_of at left right)
chain-by_term kind at (Application name None (more first (more second (more third rest))) span) = refl
chain-by_term kind at (Application name (Some qualifier) arguments span) = refl

pub chain-by : (kind : ChainKind) (numbered : NumberedTerm) → chain kind numbered.at numbered.term ≡ members_by kind numbered (link_of kind numbered)
chain-by kind numbered = chain-by_term kind numbered.at numbered.term

-- both sides of an operator are smaller than the whole

abbrev pub AreLess : ℕ → Option Both → Type 0
AreLess limit None = Unit {0}
AreLess limit (Some both) = parts both.left.term + parts both.right.term < limit

less_if : (test : Bool) (limit : ℕ) (both : Both) → parts both.left.term + parts both.right.term < limit → AreLess limit (if test then Some both else None)
less_if true limit both less = less
less_if false limit both less = tt

pub less_more : (limit larger : ℕ) (found : Option Both) → limit ≤ larger → AreLess limit found → AreLess larger found
less_more limit larger None most less = tt
less_more limit larger (Some both) most less = omega arith

less_or : (test : Bool) (limit : ℕ) (found : Option Both) → AreLess limit found → AreLess limit (if test then found else None)
less_or true limit found less = less
less_or false limit found less = tt

link_less : (kind : ChainKind) (at : ℕ) (term : Term) → AreLess (parts term) (link_of kind (record { term = term; at = at }))
link_less kind at (Variable name span) = tt
link_less kind at (Integer value span) = tt
link_less kind at (Text text span) = tt
link_less kind at (Application name None none span) = tt
link_less kind at (Application name None (more only none) span) = tt
link_less kind at (Application name None (more left (more right none)) span) =
    less_if (is_joined kind (role_of name) left) (parts (Application name None (more left (more right none)) span)) (sides_of at left right) (omega arith)
link_less kind at (Application name None (more first (more second (more third rest))) span) = tt
link_less kind at (Application name (Some qualifier) arguments span) = tt

pub link_smaller : (kind : ChainKind) (numbered : NumberedTerm) (both : Both) → Some both ≡ link_of kind numbered → parts both.left.term + parts both.right.term < parts numbered.term
link_smaller kind numbered both is =
    let P : Option Both → Type 0 = λ o. AreLess (parts numbered.term) o in subst P (sym is) (link_less kind numbered.at numbered.term)

pub sides_less : (operator at : ℕ) (term : Term) → AreLess (parts term) (sides operator (record { term = term; at = at }))
sides_less operator at (Variable name span) = tt
sides_less operator at (Integer value span) = tt
sides_less operator at (Text text span) = tt
sides_less operator at (Application name None none span) = tt
sides_less operator at (Application name None (more only none) span) = tt
sides_less operator at (Application name None (more left (more right none)) span) =
    less_if (name == operator) (parts (Application name None (more left (more right none)) span)) (sides_of at left right) (omega arith)
sides_less operator at (Application name None (more first (more second (more third rest))) span) = tt
sides_less operator at (Application name (Some qualifier) arguments span) = tt

pub condition_less : (at : ℕ) (term : Term) → AreLess (parts term) (condition_sides (record { term = term; at = at }))
condition_less at (Variable name span) = tt
condition_less at (Integer value span) = tt
condition_less at (Text text span) = tt
condition_less at (Application name None none span) = tt
condition_less at (Application name None (more only none) span) =
    less_or (name == if_name) (parts (Application name None (more only none) span)) (sides then_name (left_of at only))
    (less_more (parts only) (parts (Application name None (more only none) span)) (sides then_name (left_of at only)) (omega arith) (sides_less then_name (at + 2) only))
condition_less at (Application name None (more left (more right none)) span) = tt
condition_less at (Application name None (more first (more second (more third rest))) span) = tt
condition_less at (Application name (Some qualifier) arguments span) = tt

-- one step: a link gives way to its two sides, and a member joins those before it

module _ (kind : ChainKind) (members old popped : List NumberedTerm) (numbered : NumberedTerm) (popping : old ≡ popped ++ numbered ∷ []) where
  pub link_step : (once twice : List NumberedTerm) (both : Both) → once ≡ popped ++ both.right ∷ [] → twice ≡ once ++ both.left ∷ []
      → Some both ≡ link_of kind numbered → (whole : List NumberedTerm) → members ++ stacked kind old ≡ whole → members ++ stacked kind twice ≡ whole
  link_step once twice both one two is whole before =
      ap (λ l. members ++ l) (
      ap (stacked kind) (two ∙ ap (λ l. l ++ both.left ∷ []) one)
      ∙ stacked-push kind (popped ++ both.right ∷ []) both.left
      ∙ ap (λ l. chain kind both.left.at both.left.term ++ l) (stacked-push kind popped both.right)
      ∙ sym (append_assoc (chain kind both.left.at both.left.term) (chain kind both.right.at both.right.term) (stacked kind popped))
      ∙ ap (λ l. l ++ stacked kind popped) (ap (members_by kind numbered) is ∙ sym (chain-by kind numbered))
      ∙ sym (stacked-push kind popped numbered)
      ∙ ap (stacked kind) (sym popping)
      )
      ∙ before

  pub link_size : (once twice : List NumberedTerm) (both : Both) → once ≡ popped ++ both.right ∷ [] → twice ≡ once ++ both.left ∷ []
      → Some both ≡ link_of kind numbered → parts_all twice < parts_all old
  link_size once twice both one two is =
      omega (
        arith,
        ap parts_all two,
        ap parts_all one,
        ap parts_all popping,
        parts_all-append once (both.left ∷ []),
        parts_all-append popped (both.right ∷ []),
        parts_all-append popped (numbered ∷ []),
        link_smaller kind numbered both is,
      )

  pub member_step : (more_members : List NumberedTerm) → more_members ≡ members ++ numbered ∷ [] → None ≡ link_of kind numbered
      → (whole : List NumberedTerm) → members ++ stacked kind old ≡ whole → more_members ++ stacked kind popped ≡ whole
  member_step more_members pushing is whole before =
      ap (λ l. l ++ stacked kind popped) pushing
      ∙ append_assoc members (numbered ∷ []) (stacked kind popped)
      ∙ ap (λ l. members ++ l) (
      ap (λ l. l ++ stacked kind popped) (ap (members_by kind numbered) is ∙ sym (chain-by kind numbered))
      ∙ sym (stacked-push kind popped numbered)
      ∙ ap (stacked kind) (sym popping)
      )
      ∙ before

pub none_left : (stack : List NumberedTerm) → length stack ≡ 0 → stack ≡ []
none_left [] is = refl
none_left (first ∷ rest) is = absurd (omega (arith, is))

pub member_size : (old popped : List NumberedTerm) (numbered : NumberedTerm) → old ≡ popped ++ numbered ∷ [] → parts_all popped < parts_all old
member_size old popped numbered popping = omega (arith, ap parts_all popping, parts_all-append popped (numbered ∷ []), parts_some numbered.term)

-- the members of a chain have no more parts than the whole

at_most_if : (test : Bool) (limit : ℕ) (front back : List NumberedTerm) → parts_all front ≤ limit → parts_all back ≤ limit → parts_all (if test then front else back) ≤ limit
at_most_if true limit front back a b = a
at_most_if false limit front back a b = b

pub chain_at_most : (kind : ChainKind) (at : ℕ) (term : Term) → parts_all (chain kind at term) ≤ parts term
chain_at_most kind at (Variable name span) = omega arith
chain_at_most kind at (Integer value span) = omega arith
chain_at_most kind at (Text text span) = omega arith
chain_at_most kind at (Application name None none span) = omega arith
chain_at_most kind at (Application name None (more only none) span) = omega arith
chain_at_most kind at (Application name None (more left (more right none)) span) =
    at_most_if (is_joined kind (role_of name) left) (parts (Application name None (more left (more right none)) span)) _ _
    (omega (
      arith,
      parts_all-append (chain kind (at + 2) left) (chain kind (at + 2 + parts left) right),
      chain_at_most kind (at + 2) left,
      chain_at_most kind (at + 2 + parts left) right,
    ))
    (omega arith)
chain_at_most kind at (Application name None (more first (more second (more third rest))) span) = omega arith
chain_at_most kind at (Application name (Some qualifier) arguments span) = omega arith

-- the members of a chain of two or more have fewer
pub joined_less : (kind : ChainKind) (at name : ℕ) (left right : Term) (span : Span) → is_joined kind (role_of name) left ≡ true
    → parts_all (chain kind at (Application name None (more left (more right none)) span)) < parts (Application name None (more left (more right none)) span)
joined_less kind at name left right span is =
    rw is (omega (
      arith,
      parts_all-append (chain kind (at + 2) left) (chain kind (at + 2 + parts left) right),
      chain_at_most kind (at + 2) left,
      chain_at_most kind (at + 2 + parts left) right,
    ))

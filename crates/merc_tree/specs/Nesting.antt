-- How deep a term is nested.
use Rattle.std.specs.Prelude.{ℕ, ◌+◌, Bool, true, false, ◌==◌, ◌&&◌, nat_le, [], ◌∷◌, Some, None, if◌then◌else◌}
use Rattle.std.specs.List.{list_any}
use Rattle.merc_base.specs.Names.{ampersand_name, comma_name, cons_name, else_name, semicolon_name}
use Rattle.merc_tree.specs.Term.{Term, Terms, Variable, Integer, Text, Application, none, more}

-- the names whose chains to the right count once: `,` `;` `&` `else` and `[|]`, which builds lists
abbrev pub is_chain : ℕ → Bool
is_chain name = list_any (λ other. name == other) (comma_name ∷ semicolon_name ∷ ampersand_name ∷ else_name ∷ cons_name ∷ [])

-- whether there are two arguments
abbrev pub are_two : Terms → Bool
are_two none = false
are_two (more only none) = false
are_two (more first (more second none)) = true
are_two (more first (more second (more third rest))) = false

-- whether a term is a chain of this name: an application of it to two arguments, without a qualifier
abbrev pub goes_on : ℕ → Term → Bool
goes_on chain (Application name None arguments span) = is_chain name && (name == chain) && are_two arguments
goes_on chain (Application name (Some qualifier) arguments span) = false
goes_on chain (Variable name span) = false
goes_on chain (Integer value span) = false
goes_on chain (Text name span) = false

abbrev pub greater : ℕ → ℕ → ℕ
greater a b = if nat_le a b then b else a

-- A variable, a literal and a plain name have 1, an application 1 more than its deepest argument. The second of two
-- arguments that goes on the chain counts no further.
abbrev mutual
  pub nesting : Term → ℕ
  nesting (Variable name span) = 1
  nesting (Integer value span) = 1
  nesting (Text name span) = 1
  nesting (Application name None arguments span) = if is_chain name && are_two arguments then chain_nesting name arguments else 1 + deepest arguments
  nesting (Application name (Some qualifier) arguments span) = 1 + deepest arguments

  -- the nesting of the deepest of these, 0 where there is none
  pub deepest : Terms → ℕ
  deepest none = 0
  deepest (more first rest) = greater (nesting first) (deepest rest)

  -- the nesting of a chain with these two arguments
  pub chain_nesting : ℕ → Terms → ℕ
  chain_nesting name none = 1
  chain_nesting name (more first rest) = greater (1 + nesting first) (end_nesting name rest)

  -- what the chain's second argument counts
  pub end_nesting : ℕ → Terms → ℕ
  end_nesting name none = 1
  end_nesting name (more last rest) = if goes_on name last then nesting last else 1 + nesting last

-- The limits on a term do not look at its spans.
use Rattle.std.proofs.Common.{◌≡◌, ℕ, ◌+◌, ◌≤◌, ◌==◌, ◌&&◌, Some, None, cond, refl, ap, sym, ◌∙◌, subst}
use Rattle.merc_tree.specs.Term.{Term, Terms, Variable, Integer, Text, Application, none, more, bare, bare_all, HasWords, HaveWords}
use Rattle.merc_tree.specs.Nesting.{nesting, deepest, chain_nesting, end_nesting, greater, goes_on, are_two, is_chain}
use Rattle.merc_terms.specs.Items.{IsAllowed}

two_bare : (arguments : Terms) → are_two (bare_all arguments) ≡ are_two arguments
two_bare none = refl
two_bare (more only none) = refl
two_bare (more first (more second none)) = refl
two_bare (more first (more second (more third rest))) = refl

goes_on_bare : (name : ℕ) (term : Term) → goes_on name (bare term) ≡ goes_on name term
goes_on_bare name (Variable other span) = refl
goes_on_bare name (Integer value span) = refl
goes_on_bare name (Text other span) = refl
goes_on_bare name (Application other None arguments span) = ap (λ b. is_chain other && (other == name) && b) (two_bare arguments)
goes_on_bare name (Application other (Some qualifier) arguments span) = refl

mutual
  nesting_bare : (term : Term) → nesting (bare term) ≡ nesting term
  nesting_bare (Variable name span) = refl
  nesting_bare (Integer value span) = refl
  nesting_bare (Text name span) = refl
  nesting_bare (Application name None arguments span) =
      ap (λ b. cond (is_chain name && b) (chain_nesting name (bare_all arguments)) (1 + deepest (bare_all arguments))) (two_bare arguments)
      ∙ ap (λ n. cond (is_chain name && are_two arguments) n (1 + deepest (bare_all arguments))) (chain_bare name arguments)
      ∙ ap (λ n. cond (is_chain name && are_two arguments) (chain_nesting name arguments) (1 + n)) (deepest_bare arguments)
  nesting_bare (Application name (Some qualifier) arguments span) = ap (λ n. 1 + n) (deepest_bare arguments)

  deepest_bare : (terms : Terms) → deepest (bare_all terms) ≡ deepest terms
  deepest_bare none = refl
  deepest_bare (more first rest) = ap (λ n. greater n (deepest (bare_all rest))) (nesting_bare first) ∙ ap (λ n. greater (nesting first) n) (deepest_bare rest)

  chain_bare : (name : ℕ) (terms : Terms) → chain_nesting name (bare_all terms) ≡ chain_nesting name terms
  chain_bare name none = refl
  chain_bare name (more first rest) = ap (λ n. greater (1 + n) (end_nesting name (bare_all rest))) (nesting_bare first) ∙ ap (λ n. greater (1 + nesting first) n) (end_bare name rest)

  end_bare : (name : ℕ) (terms : Terms) → end_nesting name (bare_all terms) ≡ end_nesting name terms
  end_bare name none = refl
  end_bare name (more last rest) =
      ap (λ b. cond b (nesting (bare last)) (1 + nesting (bare last))) (goes_on_bare name last)
      ∙ ap (λ n. cond (goes_on name last) n (1 + n)) (nesting_bare last)

mutual
  words_bare : (term : Term) → HasWords term → HasWords (bare term)
  words_bare (Variable name span) words = tt
  words_bare (Integer value span) words = words
  words_bare (Text name span) words = tt
  words_bare (Application name qualifier arguments span) words = all_words_bare arguments words

  all_words_bare : (terms : Terms) → HaveWords terms → HaveWords (bare_all terms)
  all_words_bare none words = tt
  all_words_bare (more first rest) words = (words_bare first words.0, all_words_bare rest words.1)

mutual
  words_back : (term : Term) → HasWords (bare term) → HasWords term
  words_back (Variable name span) words = tt
  words_back (Integer value span) words = words
  words_back (Text name span) words = tt
  words_back (Application name qualifier arguments span) words = all_words_back arguments words

  all_words_back : (terms : Terms) → HaveWords (bare_all terms) → HaveWords terms
  all_words_back none words = tt
  all_words_back (more first rest) words = (words_back first words.0, all_words_back rest words.1)

-- a term that is the same but for its spans keeps the limits too
pub allowed_same : (term other : Term) → bare term ≡ bare other → IsAllowed term → IsAllowed other
allowed_same term other same allowed = record {
  words = words_back other (subst HasWords same (words_bare term allowed.words));
  nested = subst (λ n. n ≤ 256) (sym (nesting_bare term) ∙ ap nesting same ∙ nesting_bare other) allowed.nested;
}

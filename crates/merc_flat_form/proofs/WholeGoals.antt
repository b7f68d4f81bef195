-- Goals and clauses as one goal each.
use Rattle.std.proofs.Common.{◌≡◌, ℕ, ◌+◌, Bool, List, [], ◌∷◌, ◌++◌, length, Option, Some, None, refl, ap, ◌∙◌}
use Rattle.std.proofs.lemmas.List.{append_assoc}
use Rattle.merc_base.specs.declared.place.Span.{Span}
use Rattle.merc_tree.specs.Term.{Term}
use Rattle.merc_goals.specs.Written.{Written, parts, written, written_span}
use Rattle.merc_goal_tree.specs.Nodes.{Node}
use Rattle.merc_goal_tree.specs.declared.goal.SimpleGoal.{SimpleGoal}
use Rattle.merc_name_resolution.specs.declared.callee.Callee.{Callee}
use Rattle.merc_scopes.specs.declared.occurrence.Occurrence.{Occurrence}
use Rattle.merc_scopes.specs.Scopes.{at_of}
use Rattle.merc_flat_form.specs.Levels.{or_else, scope_of, shown}
use Rattle.merc_flat_form.specs.FlatForm.{argument_terms, body_goals, flat, head_goals, head_scope, one_goal, simple}
use Rattle.merc_flat_form.specs.Frames.{closed}
use Rattle.merc_flat_form.specs.declared.frames.Closing.TheVariants.{Join}
use Rattle.merc_flat_form.proofs.FrameLaws.{closed_behind}
use Rattle.merc_flat_form.proofs.FlatLaws.{or_else-none, flat-same}
use Rattle.merc_flat_form.proofs.ScopeLaws.{head_goals-same}

-- one level alone
pub alone : (scope : List Occurrence) (levels entered none : List (List Occurrence)) → none ≡ [] → entered ≡ [] ∷ none
    → ((name : ℕ) → shown name levels ≡ or_else (at_of name scope) (shown name entered)) → (name : ℕ) → at_of name (scope_of levels) ≡ at_of name scope
alone scope levels entered none empty begun names name =
    names name ∙ ap (λ l. or_else (at_of name scope) (shown name l)) (begun ∙ ap (λ l. [] ∷ l) empty) ∙ or_else-none (at_of name scope)

pub made_one : (span given : Span) (start : ℕ) (nodes inner later made : List Node) → made ≡ closed Join given start later → given ≡ span → start ≡ length nodes
    → later ≡ nodes ++ inner → made ≡ nodes ++ one_goal span inner ∷ []
made_one span given start nodes inner later made is same count put =
    is ∙ ap (λ s. closed Join s start later) same ∙ ap (λ n. closed Join span n later) count ∙ ap (closed Join span (length nodes)) put ∙ closed_behind Join span nodes inner tt

module _ (blank : ℕ → Bool) (callee : ℕ → Option ℕ → ℕ → Callee) where
  pub whole_goal : (goal : Written) (scope : List Occurrence) (levels : List (List Occurrence)) (nodes made : List Node)
      → ((name : ℕ) → at_of name (scope_of levels) ≡ at_of name scope) → made ≡ nodes ++ one_goal (written_span goal) (flat blank callee (scope_of levels) goal) ∷ []
      → made ≡ nodes ++ one_goal (written_span goal) (flat blank callee scope goal) ∷ []
  whole_goal goal scope levels nodes made same put =
      put ∙ ap (λ l. nodes ++ one_goal (written_span goal) l ∷ []) (flat-same blank callee (scope_of levels) scope same goal)

  -- the goals of a head
  pub head_put : (at : ℕ) (head given : Term) (span : Span) (scope : List Occurrence) (levels : List (List Occurrence)) (nodes later : List Node) (items : List SimpleGoal)
      → given ≡ head → scope ≡ head_scope blank 0 (at + 2) (argument_terms given) → ((name : ℕ) → at_of name (scope_of levels) ≡ at_of name scope)
      → items ≡ head_goals blank (scope_of levels) 0 (at + 2) (argument_terms given) → later ≡ nodes ++ simple span items
      → later ≡ nodes ++ simple span (head_goals blank (head_scope blank 0 (at + 2) (argument_terms head)) 0 (at + 2) (argument_terms head))
  head_put at head given span scope levels nodes later items is brought same are put =
      put
      ∙ ap (λ l. nodes ++ simple span l)
      (are ∙ head_goals-same blank (scope_of levels) scope same 0 (at + 2) (argument_terms given)
      ∙ ap (λ l. head_goals blank l 0 (at + 2) (argument_terms given)) brought
      ∙ ap (λ h. head_goals blank (head_scope blank 0 (at + 2) (argument_terms h)) 0 (at + 2) (argument_terms h)) is)

  body_goals-same : (a b : List Occurrence) → ((name : ℕ) → at_of name a ≡ at_of name b) → (at : ℕ) (found : Option Term)
      → body_goals blank callee a at found ≡ body_goals blank callee b at found
  body_goals-same a b same at None = refl
  body_goals-same a b same at (Some body) = flat-same blank callee a b same (written at body)

  -- the goals of a body behind others
  pub body_put : (at : ℕ) (head given : Term) (found : Option Term) (scope : List Occurrence) (levels : List (List Occurrence)) (nodes inner middle later : List Node)
      → given ≡ head → scope ≡ head_scope blank 0 (at + 2) (argument_terms given) → ((name : ℕ) → at_of name (scope_of levels) ≡ at_of name scope)
      → middle ≡ nodes ++ inner → later ≡ middle ++ body_goals blank callee (scope_of levels) (at + parts head) found
      → later ≡ nodes ++ (inner ++ body_goals blank callee (head_scope blank 0 (at + 2) (argument_terms head)) (at + parts head) found)
  body_put at head given found scope levels nodes inner middle later is brought same before put =
      put
      ∙ ap (λ l. l ++ body_goals blank callee (scope_of levels) (at + parts head) found) before
      ∙ append_assoc nodes inner (body_goals blank callee (scope_of levels) (at + parts head) found)
      ∙ ap (λ l. nodes ++ (inner ++ l))
      (body_goals-same (scope_of levels) scope same (at + parts head) found
      ∙ ap (λ l. body_goals blank callee l (at + parts head) found) brought
      ∙ ap (λ h. body_goals blank callee (head_scope blank 0 (at + 2) (argument_terms h)) (at + parts head) found) is)

-- Parts of a goal that stand in it before.
use Rattle.std.specs.Prelude.{◌≡◌, ℕ, ◌<◌, Bool, true, false, List, [], ◌∷◌, Some, slice_get}
use Rattle.std.proofs.Common.{refl, arith}
use Rattle.merc_base.specs.declared.place.Span.{Span}
use Rattle.merc_tree.specs.Term.{no_span}
use Rattle.merc_goal_tree.specs.declared.entries.Root.{Root}
use Rattle.merc_goal_tree.specs.declared.entries.Root.TheVariants.{Simple}
use Rattle.merc_goal_tree.specs.declared.goal.SimpleGoal.TheVariants.{Call}

-- two are the same where an answer is yes; another answer says nothing
abbrev pub IsEqualIf : {A : Type 0} → Bool → A → A → Type 0
IsEqualIf true one other = one ≡ other
IsEqualIf false one other = Unit {0}

-- a part stands before an index
pub record IsRepeated (parts : List (Root × Span)) (index : ℕ) (part : Root) : Type 0 where
  pub earlier : ℕ
  pub before : earlier < index
  pub span : Span
  pub here : slice_get parts earlier ≡ Some (part, span)

-- the same where an answer is yes
abbrev pub IsRepeatedIf : Bool → List (Root × Span) → ℕ → Root → Type 0
IsRepeatedIf true parts index part = IsRepeated parts index part
IsRepeatedIf false parts index part = Unit {0}

-- `p(X), p(X)`
IsRepeated-yes : IsRepeated ((Simple (Call 0 (4 ∷ [])), no_span) ∷ (Simple (Call 0 (4 ∷ [])), no_span) ∷ []) 1 (Simple (Call 0 (4 ∷ [])))
IsRepeated-yes = record { earlier = 0; before = omega arith; span = no_span; here = refl }

-- nothing stands before the first part
IsRepeated-first : IsRepeated ((Simple (Call 0 (4 ∷ [])), no_span) ∷ []) 0 (Simple (Call 0 (4 ∷ []))) → ⊥
IsRepeated-first repeated = let before = repeated.before in omega arith

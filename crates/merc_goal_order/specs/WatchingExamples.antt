-- Variables that are watched, of `X = Y` and of `true`.
use Rattle.std.specs.Prelude.{◌≡◌, ◌==◌, ◌⊎◌, ℕ, zero, suc, true, false, List, [], ◌∷◌, drop, refl}
use Rattle.std.proofs.Common.{arith, subst, inl, inr}
use Rattle.merc_goal_tree.specs.Nodes.{Node}
use Rattle.merc_order.specs.Bound.{nothing}
use Rattle.merc_order.specs.Procedures.{modes_of}
use Rattle.merc_goal_facts.specs.Facts.{AreFactsOf}
use Rattle.merc_goal_facts.specs.declared.facts.Facts.{Facts}
use Rattle.merc_goal_order.specs.GoalsExamples.{no_modes, in_body, truth, unready, true_facts}
use Rattle.merc_goal_order.specs.Watching.{none_bound, is_shut, all_but, IsWatch, watched_at, AreWatches, some_binds, AreFree, LiesIn, TellsWatch, KeepsWatch, KeepsWatches, KeepsWatchAt}

none_of_two : none_bound (1 ∷ 2 ∷ []) nothing ≡ true
none_of_two = refl

one_of_two : none_bound (1 ∷ 2 ∷ []) (λ variable. variable == 2) ≡ false
one_of_two = refl

shut : is_shut (1 ∷ 2 ∷ []) nothing ≡ true
shut = refl

-- nothing is known of a goal that is not watched
not_watched : is_shut [] nothing ≡ false
not_watched = refl

all_others : all_but (1 ∷ []) 2 ≡ true
all_others = refl

not_itself : all_but (1 ∷ []) 1 ≡ false
not_itself = refl

-- `X = Y` waits for one of its variables, not for both

watch : IsWatch in_body no_modes unready (1 ∷ 2 ∷ [])
watch = refl

no_watch : IsWatch in_body no_modes unready (1 ∷ []) → ⊥
no_watch wrong = let no : true ≡ false = wrong in cc

second : watched_at ([] ∷ (1 ∷ []) ∷ []) 1 ≡ 1 ∷ []
second = refl

past_last : watched_at ([] ∷ (1 ∷ []) ∷ []) 2 ≡ []
past_last = refl

no_item : (index : ℕ) (goal : Node) (rest : List Node) → drop index [] ≡ goal ∷ rest → ⊥
no_item zero goal rest there = cc
no_item (suc index) goal rest there = cc

first_is : (one other : Node) (rest : List Node) → one ∷ [] ≡ other ∷ rest → one ≡ other
first_is one other rest there = cc

watches : AreWatches in_body no_modes (unready ∷ []) ((1 ∷ 2 ∷ []) ∷ [])
watches zero goal rest there = subst (λ g. IsWatch in_body no_modes g (1 ∷ 2 ∷ [])) (first_is unready goal rest there) watch
watches (suc index) goal rest there = absurd (no_item index goal rest there)

no_watches : AreWatches in_body no_modes (unready ∷ []) ((1 ∷ []) ∷ []) → ⊥
no_watches wrong = no_watch (wrong 0 unready [] refl)

abbrev binds_first : Facts
binds_first = record { reached = true; binds = 1 ∷ []; owed = []; owed_by_condition = []; needs = []; occurrences = 1 }

some_does : some_binds (true_facts ∷ binds_first ∷ []) 1 ≡ true
some_does = refl

none_does : some_binds (true_facts ∷ binds_first ∷ []) 2 ≡ false
none_does = refl

free : AreFree (true_facts ∷ []) nothing []
free variable there = cc

not_all_free : AreFree (binds_first ∷ []) nothing [] → ⊥
not_all_free wrong = let no : false ≡ true = wrong 1 refl in cc

lies : LiesIn (record { low = 1; high = 2 }) (7 ∷ 8 ∷ [])
lies = (omega arith, omega arith)

past_end : LiesIn (record { low = 1; high = 3 }) (7 ∷ 8 ∷ []) → ⊥
past_end (from, to) = omega (arith, to)

tells_nothing : TellsWatch [] truth (true_facts ∷ []) [] nothing []
tells_nothing total known all_free = tt

abbrev known : AreFactsOf in_body (modes_of []) truth true_facts
known = record { reached_is = refl; binds_are = λ variable. refl; owed_are = λ bound. refl; owed_by_condition_are = λ bound. refl; needed = λ bound ready. refl; occurrences_are = refl }

-- `true` waits for nothing
tells_wrong : TellsWatch [] truth (true_facts ∷ []) [] nothing (1 ∷ []) → ⊥
tells_wrong wrong = let no : true ≡ false = wrong in_body (known, tt) free in cc

keeps : KeepsWatch [] unready [] 0 ((1 ∷ []) ∷ []) ((1 ∷ []) ∷ [])
keeps other = inl refl

keeps_not : KeepsWatch [] unready [] 1 ((1 ∷ []) ∷ []) ((2 ∷ []) ∷ []) → ⊥
keeps_not wrong = by (wrong 0)
  where
    by : {A : Type 0} → (◌≡◌ {A = List ℕ} (2 ∷ []) (1 ∷ [])) ⊎ ((◌≡◌ {A = ℕ} 0 1) × A) → ⊥
    by (inl same) = cc
    by (inr (same, told)) = omega (arith, same)

keeps_all : KeepsWatches [] (unready ∷ []) [] ((1 ∷ []) ∷ []) ((1 ∷ []) ∷ [])
keeps_all total all_known were = were

none_watched : AreWatches in_body (modes_of []) (truth ∷ []) ([] ∷ [])
none_watched zero goal rest there = tt
none_watched (suc index) goal rest there = absurd (no_item index goal rest there)

keeps_none : KeepsWatches [] (truth ∷ []) (true_facts ∷ []) ([] ∷ []) ((1 ∷ []) ∷ []) → ⊥
keeps_none wrong = let no : true ≡ false = wrong in_body (known, tt) none_watched 0 truth [] refl in cc

keeps_at : KeepsWatchAt [] unready [] 0 0 ((1 ∷ []) ∷ []) ((1 ∷ []) ∷ [])
keeps_at goals rest there at total all_known were = were

keeps_none_at : KeepsWatchAt [] truth (true_facts ∷ []) 0 0 ([] ∷ []) ((1 ∷ []) ∷ []) → ⊥
keeps_none_at wrong = keeps_none (wrong (truth ∷ []) [] refl (omega arith, refl))

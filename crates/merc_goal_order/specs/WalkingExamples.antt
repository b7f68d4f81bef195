-- What becomes of `true` in a body, and of `X = Y` where neither is bound.
use Rattle.std.specs.Prelude.{List, [], ◌∷◌, Ok, Err, refl}
use Rattle.merc_base.specs.declared.refusal.Fault.TheVariants.{Refused}
use Rattle.merc_order.specs.Procedures.{modes_of}
use Rattle.merc_goal_facts.specs.Facts.{AreFactsOf}
use Rattle.merc_goal_facts.specs.declared.facts.Facts.{Facts}
use Rattle.merc_goal_order.specs.GoalsExamples.{body, in_body, truth, unready, true_facts, no_stretch}
use Rattle.merc_goal_order.specs.Walking.{Orders}
use Rattle.merc_goal_order.specs.WalksExamples.{never, done, clean, one}

ordered : Orders [] truth (true_facts ∷ []) body 0 [] clean one (Ok tt)
ordered total known stretch = (done, refl, record { nodes = refl; fresh = refl; seen = refl })

known : AreFactsOf in_body (modes_of []) truth true_facts
known = record { reached_is = refl; binds_are = λ variable. refl; owed_are = λ bound. refl; owed_by_condition_are = λ bound. refl; needed = λ bound ready. refl; occurrences_are = refl }

not_written : Orders [] truth (true_facts ∷ []) body 0 [] clean clean (Ok tt) → ⊥
not_written orders = let wrong = (orders in_body (known, tt) no_stretch).2.nodes in cc

without_fault : Orders [] truth (true_facts ∷ []) body 0 [] clean clean (Err (Refused never)) → ⊥
without_fault orders = let wrong = orders in_body (known, tt) no_stretch in cc

told : (facts : List Facts) → Orders [] unready facts body 0 [] clean clean (Err (Refused never))
told facts total are_known stretch = refl

-- Worked examples of the steps of a script.
use Rattle.std.specs.Prelude.{◌≡◌, [], refl}
use Rattle.std.proofs.Common.{arith}
use Rattle.merc_script.specs.declared.outcome.Outcome.TheVariants.{Ok as Fine, Limit}
use Rattle.merc_script.specs.Script.{Script, Ends, TickThen, ForkThen, NoChild, Child}
use Rattle.merc_plan.specs.Counting.{gained, Accounts}

-- one step, then two conjuncts with one step each, then a step
abbrev counted : Script
counted = TickThen (ForkThen 4 [] [] (Child (TickThen (Ends (Fine 1))) (Child (TickThen (Ends (Fine 1))) NoChild)) (TickThen (Ends (Fine 4))))

-- .. of which the conjuncts pass the limit, so that their steps do not count
abbrev passed : Script
passed = TickThen (ForkThen 1 [] [] (Child (TickThen (Ends (Fine 1))) (Child (TickThen (Ends (Fine 1))) NoChild)) (Ends Limit))

gained-example : gained counted ≡ 4
gained-example = refl

gained-passed : gained passed ≡ 1
gained-passed = refl

gained-not : gained counted ≡ 2 → ⊥
gained-not own_alone = cc

accounts-example : Accounts 5 0 counted
accounts-example = (omega arith, λ number e. cc)

accounts-passed : Accounts 2 0 passed
accounts-passed = (omega arith, λ number e. absurd cc)

-- the number of its end is another
accounts-not : Accounts 5 1 counted → ⊥
accounts-not accounts = let e = accounts.1 4 refl in cc

-- it has too many steps
passes-not : Accounts 3 0 counted → ⊥
passes-not accounts = absurd (omega (arith, accounts.0))

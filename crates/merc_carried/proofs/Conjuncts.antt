-- The conjuncts of a fork, each at its own script, and the outcome to which they join.
use Rattle.std.proofs.Common.{◌≡◌, ℕ, zero, suc, ◌+◌, ◌≤◌, Bool, true, false, if◌then◌else◌, List, [], ◌∷◌, Option, Some, None, refl, ap, sym, ◌∙◌, subst, arith}
use Rattle.std.specs.Prelude.{nat_le}
use Rattle.std.proofs.lemmas.Bool.Decides.{nat_tests}
use Rattle.merc_value.specs.Value.{Value}
use Rattle.merc_meaning.specs.Trace.{Run, RunEnd}
use Rattle.merc_script.specs.declared.outcome.Outcome.{Outcome}
use Rattle.merc_script.specs.declared.outcome.Outcome.TheVariants.{Ok as Fine, Raise, Limit, Starved, NoMemory}
use Rattle.merc_script.specs.Script.{Script, Children, NoChild, Child, Cell}
use Rattle.merc_script.specs.Places.{child_at}
use Rattle.merc_script.specs.Joining.{walk, lacks_memory, joined}
use Rattle.merc_course.specs.Course.{RunCourse, Courses, no_courses, more_courses}
use Rattle.merc_rights.specs.declared.sites.SiteInfo.{SiteInfo}
use Rattle.merc_board.specs.Rights.{Rights}
use Rattle.merc_carried.specs.Sharing.{rights_of_child}
use Rattle.merc_carried.specs.KeepsTo.{KeepsTo, AllKeepTo, keep_none, keep_more}

-- the course of a conjunct, by its number from 0
abbrev pub course_of : Courses RunEnd → ℕ → Option RunCourse
course_of no_courses number = None
course_of (more_courses first rest) zero = Some first
course_of (more_courses first rest) (suc number) = course_of rest number

none_more : (number : ℕ) → number + zero ≡ number
none_more number = omega arith

suc_plus : (number more : ℕ) → suc number + more ≡ number + suc more
suc_plus number more = omega arith

same_course : {one other : RunCourse} → Some one ≡ Some other → one ≡ other
same_course e = cc

module _ (sites : List SiteInfo) (values : ℕ → Option Value) (info : SiteInfo) (cells : List Cell) (rights : Rights) (left : ℕ) where
  -- one of them, with its script
  pub record KeepsChild (child place : ℕ) (course : RunCourse) (children : Children) : Type 0 where
    pub script : Script
    pub run : Run
    pub there : child_at (suc place) children ≡ Some script
    pub keeps : KeepsTo sites values (rights_of_child info cells rights child) left 0 run course script

  pub child_keeps : (number place : ℕ) (forked : Courses RunEnd) (children : Children) (course : RunCourse) → AllKeepTo sites values info cells rights left number forked children
      → course_of forked place ≡ Some course → KeepsChild (number + place) place course children
  child_keeps number place _ _ course (keep_none _ _ _ _ _) is = absurd cc
  child_keeps number zero _ _ course (keep_more _ _ _ _ _ run first courses script others keeps all) is = record {
    script = script;
    run = run;
    there = refl;
    keeps = subst (λ n. KeepsTo sites values (rights_of_child info cells rights n) left 0 run course script) (sym (none_more number))
        (subst (λ c. KeepsTo sites values (rights_of_child info cells rights number) left 0 run c script) (same_course is) keeps);
  }
  child_keeps number (suc place) _ _ course (keep_more _ _ _ _ _ run first courses script others keeps all) is =
      let there = child_keeps (suc number) place courses others course all is in
      record {
        script = there.script;
        run = there.run;
        there = there.there;
        keeps = subst (λ n. KeepsTo sites values (rights_of_child info cells rights n) left 0 there.run course there.script) (suc_plus number place) there.keeps;
      }

-- The steps of a joined outcome are within the limit.

abbrev pub steps_of : Outcome → ℕ
steps_of (Fine steps) = steps
steps_of (Raise text steps) = steps
steps_of Limit = zero
steps_of Starved = zero
steps_of NoMemory = zero

within_case : (limit sum : ℕ) (outcome : Outcome) (b : Bool) → nat_le sum limit ≡ b → (sum ≤ limit → steps_of outcome ≤ limit) → steps_of (if b then outcome else Limit) ≤ limit
within_case limit sum outcome true is step = step (grind (arith, nat_tests, is))
within_case limit sum outcome false is step = omega arith

walk_within : (limit sum : ℕ) (outcomes : List Outcome) → sum ≤ limit → steps_of (walk limit sum outcomes) ≤ limit
walk_within limit sum [] less = less
walk_within limit sum (Fine steps ∷ others) less =
    within_case limit (sum + steps) (walk limit (sum + steps) others) (nat_le (sum + steps) limit) refl (λ more. walk_within limit (sum + steps) others more)
walk_within limit sum (Raise text steps ∷ others) less = within_case limit (sum + steps) (Raise text (sum + steps)) (nat_le (sum + steps) limit) refl (λ more. more)
walk_within limit sum (Limit ∷ others) less = omega arith
walk_within limit sum (Starved ∷ others) less = omega arith
walk_within limit sum (NoMemory ∷ others) less = omega arith

memory_case : (limit : ℕ) (b : Bool) (outcome : Outcome) → steps_of outcome ≤ limit → steps_of (if b then NoMemory else outcome) ≤ limit
memory_case limit true outcome less = omega arith
memory_case limit false outcome less = less

pub joined_within : (limit : ℕ) (outcomes : List Outcome) → steps_of (joined limit outcomes) ≤ limit
joined_within limit outcomes = memory_case limit (lacks_memory outcomes) (walk limit 0 outcomes) (walk_within limit 0 outcomes (omega arith))

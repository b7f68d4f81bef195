-- What one step gives to a branch of which the rights find its cells.
use Rattle.std.proofs.Common.{◌≡◌, refl, ap, sym, ◌∙◌, subst, ℕ, zero, suc, ◌+◌, ◌-◌, arith, List, Option, Some, None}
use Rattle.merc_value.specs.Value.{Value}
use Rattle.merc_meaning.specs.Trace.{RunEnd}
use Rattle.merc_script.specs.declared.outcome.Outcome.{Outcome}
use Rattle.merc_script.specs.declared.outcome.Outcome.TheVariants.{Ok as Fine, Raise, Limit, Starved}
use Rattle.merc_script.specs.Script.{Script, Ends, Children, Cell}
use Rattle.merc_script.specs.Places.{child_at}
use Rattle.merc_course.specs.Course.{RunCourse, Courses, Given, Joined}
use Rattle.merc_rights.specs.declared.sites.SiteInfo.{SiteInfo}
use Rattle.merc_plan.specs.Stands.{done as stands_done, raised as stands_raised, limited as stands_limited, ticks as stands_ticks, answers as stands_answers, waits as stands_waits, starves as stands_starves, hands as stands_hands, goes_on as stands_on, ends_there as stands_there, StandAll, stand_none, stand_more}
use Rattle.merc_board.specs.Rights.{Rights}
use Rattle.merc_carried.specs.Sharing.{rights_of_child, rights_behind}
use Rattle.merc_carried.specs.KeepsTo.{with_waits, with_signals}
use Rattle.merc_branch_laws.specs.Dealing.{Deals, done, raised, limited, ticks, answers, waits, starves, hands, goes_on, ends_there, DealAll, deal_none, deal_more}
use Rattle.merc_branch_laws.specs.Facing.{course_at, EndsAreFaced, TicksAreFaced, AnswersAreFaced, WaitsAreFaced, SignalsAreFaced, ForksAreFaced, ChildrenAreFaced}
use Rattle.merc_branch_laws.specs.BranchLaws.{DealsStand}

some_same : {A : Type 0} (a b : A) → Some a ≡ Some b → a ≡ b
some_same a b e = cc

fine_same : (m n : ℕ) → Fine m ≡ Fine n → m ≡ n
fine_same m n e = cc

pub ends_faced : EndsAreFaced
ends_faced sites values rights left made end script (done _ _ _) = (Fine made, refl, refl)
ends_faced sites values rights left made end script (raised _ _ _ text) = (Raise text made, refl, refl)
ends_faced sites values rights left made end script (limited _ _ _) = (Limit, refl, refl)

pub ticks_faced : TicksAreFaced
ticks_faced sites values rights left made course script (ticks _ less _ _ rest deals) = record { less = less; rest = rest; one_left = refl; is = refl; behind = deals }

pub answers_faced : AnswersAreFaced
answers_faced sites values rights left made env course script (answers _ _ _ _ _ _ deals) = deals

pub waits_faced : WaitsAreFaced
waits_faced sites values rights left made variable forked next script (waits _ _ _ _ cell others value _ _ rest found is deals) = record {
  cell = cell;
  others = others;
  rest = rest;
  is = refl;
  found = found;
  given = λ other e. subst (λ (v : Value). Deals sites values (with_waits others rights) left made (next (Given v)) rest) (some_same value other (sym is ∙ e)) deals;
  starved = λ e. absurd (none (sym is ∙ e));
} where
  none : {v : Value} → Some v ≡ None → ⊥
  none e = cc
waits_faced sites values rights left made variable forked next script (starves _ _ _ _ cell others _ _ found is) = record {
  cell = cell;
  others = others;
  rest = Ends Starved;
  is = refl;
  found = found;
  given = λ other e. absurd (none other (sym is ∙ e));
  starved = λ e. refl;
} where
  none : (v : Value) → None ≡ Some v → ⊥
  none v e = cc

pub signals_faced : SignalsAreFaced
signals_faced sites values rights left made variable value forked next script (hands _ _ _ _ owed others _ _ _ rest found is deals) =
    record { owed = owed; others = others; rest = rest; is = refl; found = found; handed = is; behind = deals }

pub forks_faced : ForksAreFaced
forks_faced sites values rights left made site forked next script (goes_on _ _ _ steps _ info cells moves _ _ children rest planned fork are_moves dealt fine deals) = record {
  cells = cells;
  moves = moves;
  children = children;
  rest = rest;
  is = refl;
  info = info;
  planned = planned;
  fork = fork;
  are_moves = are_moves;
  dealt = dealt;
  joins = λ other e.
      subst (λ (n : ℕ). Deals sites values (rights_behind info cells rights) (left - n) (made + n) (next (Joined n)) rest) (fine_same steps other (sym fine ∙ e)) deals;
  fails = λ none. absurd (none steps fine);
}
forks_faced sites values rights left made site forked next script (ends_there _ _ _ _ info cells moves _ _ children end planned fork are_moves dealt none end_is) = record {
  cells = cells;
  moves = moves;
  children = children;
  rest = Ends end;
  is = refl;
  info = info;
  planned = planned;
  fork = fork;
  are_moves = are_moves;
  dealt = dealt;
  joins = λ steps e. absurd (none steps e);
  fails = λ n. ap (λ (o : Outcome). Ends o) end_is;
}

module _ (sites : List SiteInfo) (values : ℕ → Option Value) (info : SiteInfo) (cells : List Cell) (rights : Rights) (left : ℕ) where
  abbrev Begins : ℕ → RunCourse → Option Script → Type 0
  Begins child course found = (script : Script) × (found ≡ Some script) × Deals sites values (rights_of_child info cells rights child) left 0 course script

  child_faced : (child : ℕ) (forked : Courses RunEnd) (children : Children) → DealAll sites values info cells rights left child forked children
      → (number : ℕ) (course : RunCourse) → course_at number forked ≡ Some course → Begins (child + number) course (child_at (suc number) children)
  child_faced child forked children (deal_none _ _ _ _ _) number course e = absurd (cc (e))
  child_faced child forked children (deal_more _ _ _ _ _ one further first others deals more) zero course e = (
    first,
    refl,
    subst (λ (c : RunCourse). Deals sites values (rights_of_child info cells rights (child + 0)) left 0 c first) (some_same one course e)
        (subst (λ (k : ℕ). Deals sites values (rights_of_child info cells rights k) left 0 one first) (none_more child) deals),
  )
    where
      none_more : (n : ℕ) → n ≡ n + 0
      none_more n = omega arith
  child_faced child forked children (deal_more _ _ _ _ _ one further first others deals more) (suc number) course e =
      subst (λ (k : ℕ). Begins k course (child_at (suc number) others)) (one_more child number) (child_faced (suc child) further others more number course e)
    where
      one_more : (m n : ℕ) → suc m + n ≡ m + suc n
      one_more m n = omega arith

pub children_faced : ChildrenAreFaced
children_faced sites values info cells rights left forked children dealt number course e =
    subst (λ (k : ℕ). Begins sites values info cells rights left k course (child_at (suc number) children)) (after_one number)
    (child_faced sites values info cells rights left 1 forked children dealt number course e)
  where
    after_one : (n : ℕ) → 1 + n ≡ suc n
    after_one n = omega arith

-- it stands at the script

mutual
  pub deals-stand : DealsStand
  deals-stand sites values rights left made course script (done _ _ _) = stands_done made
  deals-stand sites values rights left made course script (raised _ _ _ text) = stands_raised text made
  deals-stand sites values rights left made course script (limited _ _ _) = stands_limited
  deals-stand sites values rights left made course script (ticks _ less _ one rest deals) = stands_ticks one rest (deals-stand sites values rights less (suc made) one rest deals)
  deals-stand sites values rights left made course script (answers _ _ _ env one _ deals) = stands_answers env one script (deals-stand sites values rights left made one script deals)
  deals-stand sites values rights left made course script (waits _ _ _ variable cell others value forked next rest found is deals) =
      stands_waits variable cell value forked next rest is (deals-stand sites values (with_waits others rights) left made (next (Given value)) rest deals)
  deals-stand sites values rights left made course script (starves _ _ _ variable cell others forked next found is) = stands_starves variable cell forked next is
  deals-stand sites values rights left made course script (hands _ _ _ variable owed others value forked next rest found is deals) =
      stands_hands variable owed.cell value forked next rest is (deals-stand sites values (with_signals others rights) left made _ rest deals)
  deals-stand sites values rights left made course script (goes_on _ _ _ steps site info cells moves forked next children rest planned fork are_moves dealt fine deals) =
      stands_on site left steps cells moves forked next children rest fine (all-stand sites values info cells rights left 1 forked children dealt)
      (deals-stand sites values (rights_behind info cells rights) _ _ (next (Joined steps)) rest deals)
  deals-stand sites values rights left made course script (ends_there _ _ _ site info cells moves forked next children end planned fork are_moves dealt none end_is) =
      stands_there site left cells moves forked next children end none (all-stand sites values info cells rights left 1 forked children dealt)

  all-stand : (sites : List SiteInfo) (values : ℕ → Option Value) (info : SiteInfo) (cells : List Cell) (rights : Rights) (left child : ℕ) (forked : Courses RunEnd) (children : Children)
      → DealAll sites values info cells rights left child forked children → StandAll values forked children
  all-stand sites values info cells rights left child forked children (deal_none _ _ _ _ _) = stand_none
  all-stand sites values info cells rights left child forked children (deal_more _ _ _ _ _ one further first others deals more) =
      stand_more one further first others (deals-stand sites values (rights_of_child info cells rights child) left 0 one first deals)
      (all-stand sites values info cells rights left (suc child) further others more)

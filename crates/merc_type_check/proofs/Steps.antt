-- Steps one after the other.
use Rattle.std.proofs.Common.{◌≡◌, ℕ, ◌<◌, ◌≤◌, Bool, true, false, cond, eqb, Option, Some, None, List, [], ◌∷◌, length, refl, sym, ap, subst, ◌∙◌, arith}
use Rattle.std.specs.Option.{IfSome}
use Rattle.std.specs.Ordering.{nat_cmp}
use Rattle.std.specs.BTreeMap.{get}
use Rattle.std.proofs.lemmas.Bool.Decides.{nat_tests}
use Rattle.merc_tree.specs.Types.{TypeExpr, replaced}
use Rattle.merc_type_table.specs.Table.{type_at}
use Rattle.merc_type_graph.specs.Changes.{AllWithin}
use Rattle.merc_type_check.specs.declared.checker.Checker.{Checker}
use Rattle.merc_type_check.specs.declared.checker.UsedType.{UsedType}
use Rattle.merc_type_check.specs.Progress.{begun, compare_variables, used_type, Types, Instances, Fits, Holds, IsFresh, IsSound, Keeps, Knows, Step, Takes, Nothing, Stands, AllStand, GoalTakes, Waits}

pub steps : (first second third : Checker) (One Other : Types → Instances → Type 0) → Step first second One → Step second third Other
    → Step first third (λ types instance. One types instance × Other types instance)
steps first second third One Other one other = record {
  sound = other.sound;
  longer = let a = one.longer in let b = other.longer in omega arith;
  same_table = other.same_table ∙ one.same_table;
  same_part = other.same_part ∙ one.same_part;
  same_mode = other.same_mode ∙ one.same_mode;
  back = λ places types instance fits.
      let middle = other.back places types instance fits in
      let start = one.back places types instance middle.0 in
      (start.0, (start.1, middle.1));
  forth = λ places types instance fits asked.
      let middle = one.forth places types instance fits asked.0 in
      other.forth middle.0 types instance middle.1 asked.1;
}

-- a step where as much is asked
pub step_as : (old new : Checker) (One Other : Types → Instances → Type 0) → ((types : Types) (instance : Instances) → One types instance → Other types instance)
    → ((types : Types) (instance : Instances) → Other types instance → One types instance) → Step old new One → Step old new Other
step_as old new One Other to from step = record {
  sound = step.sound;
  longer = step.longer;
  same_table = step.same_table;
  same_part = step.same_part;
  same_mode = step.same_mode;
  back = λ places types instance fits. let before = step.back places types instance fits in (before.0, to types instance before.1);
  forth = λ places types instance fits asked. step.forth places types instance fits (from types instance asked);
}

pub takes_as : (done : Bool) (old new : Checker) (One Other : Types → Instances → Type 0) → ((types : Types) (instance : Instances) → One types instance → Other types instance)
    → ((types : Types) (instance : Instances) → Other types instance → One types instance) → Takes done old new One → Takes done old new Other
takes_as true old new One Other to from step = step_as old new One Other to from step
takes_as false old new One Other to from refuses = λ places types instance fits asked. refuses places types instance fits (from types instance asked)

-- the same where it is only said of types that fit
pub takes_where : (done : Bool) (old new : Checker) (One Other : Types → Instances → Type 0)
    → ((places types : Types) (instance : Instances) → Fits old places types instance → One types instance → Other types instance)
    → ((places types : Types) (instance : Instances) → Fits old places types instance → Other types instance → One types instance)
    → Takes done old new One → Takes done old new Other
takes_where true old new One Other to from step = record {
  sound = step.sound;
  longer = step.longer;
  same_table = step.same_table;
  same_part = step.same_part;
  same_mode = step.same_mode;
  back = λ places types instance fits. let before = step.back places types instance fits in (before.0, to places types instance before.0 before.1);
  forth = λ places types instance fits asked. step.forth places types instance fits (from places types instance fits asked);
}
takes_where false old new One Other to from refuses = λ places types instance fits asked. refuses places types instance fits (from places types instance fits asked)

pub step_takes : (done : Bool) (first second third : Checker) (One Other : Types → Instances → Type 0) → Step first second One → Takes done second third Other
    → Takes done first third (λ types instance. One types instance × Other types instance)
step_takes true first second third One Other one other = steps first second third One Other one other
step_takes false first second third One Other one refuses = λ places types instance fits asked.
    let middle = one.forth places types instance fits asked.0 in
    refuses middle.0 types instance middle.1 asked.1

-- where the first of them asks nothing
pub grow_takes : (done : Bool) (first second third : Checker) (Asked : Types → Instances → Type 0) → Step first second Nothing → Takes done second third Asked
    → Takes done first third Asked
grow_takes done first second third Asked grows takes =
    takes_as done first third (λ types instance. Nothing types instance × Asked types instance) Asked
    (λ types instance both. both.1) (λ types instance asked. (tt, asked)) (step_takes done first second third Nothing Asked grows takes)

pub grow_grow : (first second third : Checker) → Step first second Nothing → Step second third Nothing → Step first third Nothing
grow_grow first second third one other =
    step_as first third (λ types instance. Nothing types instance × Nothing types instance) Nothing
    (λ types instance both. tt) (λ types instance asked. (tt, tt)) (steps first second third Nothing Nothing one other)

pub grow_nothing : (old : Checker) → IsSound old → Step old old Nothing
grow_nothing old sound = record {
  sound = sound;
  longer = omega arith;
  same_table = refl;
  same_part = refl;
  same_mode = refl;
  back = λ places types instance fits. (fits, tt);
  forth = λ places types instance fits asked. (places, fits);
}

-- what stands at a place stays there
pub stands_on : (old new : Checker) (Asked : Types → Instances → Type 0) (place : ℕ) (Meant : Types → Instances → TypeExpr) → Step old new Asked
    → Stands old place Meant → Stands new place Meant
stands_on old new Asked place Meant step stands = record {
  there = let a = stands.there in let b = step.longer in omega arith;
  meant = λ places types instance fits. stands.meant places types instance (step.back places types instance fits).0;
}

pub within_more : (listed : List ℕ) (count more : ℕ) → count ≤ more → AllWithin count listed → AllWithin more listed
within_more [] count more less within = tt
within_more (first ∷ rest) count more less within = (let a = within.0 in omega arith, within_more rest count more less within.1)

pub all_stand_on : (old new : Checker) (Asked : Types → Instances → Type 0) (listed : List ℕ) (Meant : Types → Instances → List TypeExpr) → Step old new Asked
    → AllStand old listed Meant → AllStand new listed Meant
all_stand_on old new Asked listed Meant step stand = record {
  there = within_more listed (length old.graph.entries) (length new.graph.entries) step.longer stand.there;
  meant = λ places types instance fits. stand.meant places types instance (step.back places types instance fits).0;
}

-- where nothing is asked after it
pub takes_grow : (first second third : Checker) (Asked : Types → Instances → Type 0) → Step first second Asked → Step second third Nothing → Step first third Asked
takes_grow first second third Asked step grows =
    step_as first third (λ types instance. Asked types instance × Nothing types instance) Asked
    (λ types instance both. both.0) (λ types instance asked. (asked, tt)) (steps first second third Asked Nothing step grows)

pub keeps_on : (first second third : Checker) → Keeps first second → Keeps second third → Keeps first third
keeps_on first second third one other = (other.0 ∙ one.0, other.1 ∙ one.1)

-- Without a look at what type variables stand for.

pub plain_goal_takes : (done : Bool) (old new : Checker) (Asked : Types → Type 0) → Takes done old new (λ types instance. Asked types) → GoalTakes done old new Asked
plain_goal_takes true old new Asked step = record {
  sound = step.sound;
  same_table = step.same_table;
  same_part = step.same_part;
  same_mode = step.same_mode;
  back = λ places types holds.
      let before = step.back places types holds.instance holds.fits in
      (record { instance = holds.instance; fits = before.0 }, before.1);
  forth = λ places types holds asked.
      let after = step.forth places types holds.instance holds.fits asked in
      (after.0, record { instance = holds.instance; fits = after.1 });
}
plain_goal_takes false old new Asked refuses = λ places types holds asked. refuses places types holds.instance holds.fits asked

pub eqb-same : (n : ℕ) → eqb n n ≡ true
eqb-same n = grind (arith, nat_tests)

pub eqb-less : (m n : ℕ) → m < n → eqb m n ≡ false
eqb-less m n less = grind (arith, nat_tests)

-- what type variables stand for in a part may be anything where the part used no declaration yet
chosen : Instances → ℕ → Types → Instances
chosen instance part own = λ user. cond (eqb user part) own (instance user)

chosen_here : (instance : Instances) (part : ℕ) (own : Types) → chosen instance part own part ≡ own
unfolding chosen
chosen_here instance part own = ap (λ b. cond b own (instance part)) (eqb-same part)

chosen_before : (instance : Instances) (part : ℕ) (own : Types) (user : ℕ) → user < part → chosen instance part own user ≡ instance user
unfolding chosen
chosen_before instance part own user less = ap (λ b. cond b own (instance user)) (eqb-less user part less)

place_before : (o : Option ℕ) (places : Types) (instance : Instances) (part user name : ℕ) (own : Types) → IfSome o (λ place. user < part)
    → IfSome o (λ place. places place ≡ instance user name) → IfSome o (λ place. places place ≡ chosen instance part own user name)
place_before None places instance part user name own before agrees = tt
place_before (Some place) places instance part user name own before agrees =
    agrees ∙ sym (ap (λ (t : Types). t name) (chosen_before instance part own user before))

type_before : (o : Option UsedType) (table : List TypeExpr) (type : TypeExpr) (instance : Instances) (part : ℕ) (own : Types) → IfSome o (λ used. used.user < part)
    → IfSome o (λ used. type ≡ used_type table instance used) → IfSome o (λ used. type ≡ used_type table (chosen instance part own) used)
type_before None table type instance part own before agrees = tt
type_before (Some used) table type instance part own before agrees =
    agrees ∙ sym (ap (λ (t : Types). replaced t (type_at table used.number)) (chosen_before instance part own used.user before))

fits_chosen : (checker : Checker) (places types : Types) (instance : Instances) (own : Types) → IsFresh checker → Fits checker places types instance
    → Fits checker places types (chosen instance checker.part own)
fits_chosen checker places types instance own fresh fits = record {
  solved = fits.solved;
  variables = fits.variables;
  waiting = λ number.
      type_before (get nat_cmp checker.waiting number) checker.graph.table (types number) instance checker.part own (fresh.waiting number) (fits.waiting number);
  instances = λ variable.
      place_before (get compare_variables checker.instances variable) places instance checker.part variable.user variable.name own
      (fresh.instances variable) (fits.instances variable);
}

pub fresh_takes : (done : Bool) (old new : Checker) (One : Types → Types → Type 0) (Other : Types → Type 0) → IsFresh old
    → ((types own : Types) → One types own → Other types) → ((types : Types) → Other types → (own : Types) × One types own)
    → Takes done old new (λ types instance. One types (instance old.part)) → GoalTakes done old new Other
fresh_takes true old new One Other fresh to from step = record {
  sound = step.sound;
  same_table = step.same_table;
  same_part = step.same_part;
  same_mode = step.same_mode;
  back = λ places types holds.
      let before = step.back places types holds.instance holds.fits in
      (record { instance = holds.instance; fits = before.0 }, to types (holds.instance old.part) before.1);
  forth = λ places types holds asked.
      let own = from types asked in
      let instance : Instances = chosen holds.instance old.part own.0 in
      let after = step.forth places types instance (fits_chosen old places types holds.instance own.0 fresh holds.fits)
      (subst (One types) (sym (chosen_here holds.instance old.part own.0)) own.1) in
      (after.0, record { instance = instance; fits = after.1 });
}
fresh_takes false old new One Other fresh to from refuses = λ places types holds asked.
    let own = from types asked in
    refuses places types (chosen holds.instance old.part own.0) (fits_chosen old places types holds.instance own.0 fresh holds.fits)
    (subst (One types) (sym (chosen_here holds.instance old.part own.0)) own.1)

-- the same where another part tells what type variables stand for
pub told_takes : (done : Bool) (old new : Checker) (user : ℕ) (One : Types → Types → Type 0) (Other : Types → Type 0)
    → ((places types : Types) (instance : Instances) → Fits old places types instance → (own : Types) → One types own → One types (instance user))
    → ((types own : Types) → One types own → Other types) → ((types : Types) → Other types → (own : Types) × One types own)
    → Takes done old new (λ types instance. One types (instance user)) → GoalTakes done old new Other
told_takes true old new user One Other told to from step = record {
  sound = step.sound;
  same_table = step.same_table;
  same_part = step.same_part;
  same_mode = step.same_mode;
  back = λ places types holds.
      let before = step.back places types holds.instance holds.fits in
      (record { instance = holds.instance; fits = before.0 }, to types (holds.instance user) before.1);
  forth = λ places types holds asked.
      let own = from types asked in
      let after = step.forth places types holds.instance holds.fits (told places types holds.instance holds.fits own.0 own.1) in
      (after.0, record { instance = holds.instance; fits = after.1 });
}
told_takes false old new user One Other told to from refuses = λ places types holds asked.
    let own = from types asked in
    refuses places types holds.instance holds.fits (told places types holds.instance holds.fits own.0 own.1)

-- a part is begun with
before_more : (o : Option ℕ) (count user last next : ℕ) → last < next → IfSome o (λ place. (place < count) × (user ≤ last)) → IfSome o (λ place. user < next)
before_more None count user last next less met = tt
before_more (Some place) count user last next less met = let within = met.1 in omega arith

waits_more : (o : Option UsedType) (old new : Checker) (number : ℕ) → old.part < new.part → IfSome o (Waits old number) → IfSome o (λ used. used.user < new.part)
waits_more None old new number less waits = tt
waits_more (Some used) old new number less waits = let within = waits.1 in omega arith

pub begun_fresh : (old : Checker) (number : ℕ) → old.part < number → IsSound old → IsFresh (begun old number)
begun_fresh old number less sound = record {
  instances = λ variable.
      before_more (get compare_variables old.instances variable) (length old.graph.entries) variable.user old.part number less (sound.instances variable);
  waiting = λ variable. waits_more (get nat_cmp old.waiting variable) old (begun old number) variable less (sound.waiting variable);
}

met_on : (o : Option ℕ) (count user last next : ℕ) → last < next → IfSome o (λ place. (place < count) × (user ≤ last)) → IfSome o (λ place. (place < count) × (user ≤ next))
met_on None count user last next less met = tt
met_on (Some place) count user last next less met = let within = met.1 in (met.0, omega arith)

waits_on : (o : Option UsedType) (old : Checker) (next number : ℕ) → old.part < next → IfSome o (Waits old number) → IfSome o (Waits (begun old next) number)
waits_on None old next number less waits = tt
waits_on (Some used) old next number less waits = let within = waits.1 in (waits.0, omega arith, waits.2)

begun_holds : (old : Checker) (number : ℕ) (places types : Types) → Holds (begun old number) places types → Holds old places types
begun_holds old number places types holds = record {
  instance = holds.instance;
  fits = record {
    solved = holds.fits.solved;
    variables = holds.fits.variables;
    waiting = holds.fits.waiting;
    instances = holds.fits.instances;
  };
}

holds_begun : (old : Checker) (number : ℕ) (places types : Types) → Holds old places types → Holds (begun old number) places types
holds_begun old number places types holds = record {
  instance = holds.instance;
  fits = record {
    solved = holds.fits.solved;
    variables = holds.fits.variables;
    waiting = holds.fits.waiting;
    instances = holds.fits.instances;
  };
}

pub knows_begun : (old : Checker) (number : ℕ) (Asked : Types → Type 0) → old.part < number → Knows old Asked → Knows (begun old number) Asked
knows_begun old number Asked less knows = record {
  sound = record {
    local = knows.sound.local;
    variables = knows.sound.variables;
    waiting = λ variable. waits_on (get nat_cmp old.waiting variable) old number variable less (knows.sound.waiting variable);
    none_waits = knows.sound.none_waits;
    instances = λ variable.
        met_on (get compare_variables old.instances variable) (length old.graph.entries) variable.user old.part number less (knows.sound.instances variable);
    matchings = knows.sound.matchings;
    table = knows.sound.table;
    listed = knows.sound.listed;
  };
  back = λ places types holds. knows.back places types (begun_holds old number places types holds);
  forth = λ types asked. let before = knows.forth types asked in (before.0, holds_begun old number before.0 types before.1);
}

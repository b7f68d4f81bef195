-- The split trees of a program's procedures have the sites of the plan.
use Rattle.std.proofs.Common.{◌≡◌, ℕ, zero, suc, ◌+◌, List, [], ◌∷◌, ◌++◌, length, drop, Option, Some, slice_get, refl, ap, sym, ◌∙◌, subst, arith}
use Rattle.merc_tree.specs.declared.declarations.ModeDecl.{ModeDecl}
use Rattle.merc_tree.specs.declared.declarations.PredDecl.{PredDecl}
use Rattle.merc_graded_tree.specs.declared.basic.Procedure.{Procedure}
use Rattle.merc_graded_tree.specs.Nodes.{Node}
use Rattle.merc_meaning.specs.Runs.{ProcedureBody}
use Rattle.merc_meaning.specs.Programs.{body_of, body_of_mode, program_with}
use Rattle.merc_program_laws.proofs.Values.{none_not, same_some}
use Rattle.merc_rights.specs.declared.sites.SiteInfo.{SiteInfo}
use Rattle.merc_par_split.specs.Forks.{forks}
use Rattle.merc_par_split.specs.Split.{nothing, split, all_split}
use Rattle.merc_par_split.specs.Sites.{sites, all_sites}
use Rattle.merc_par_split.proofs.PlannedCounts.{planned_count, sites_append}
use Rattle.merc_script_laws.specs.ScriptLaws.{split_plan, split_program}
use Rattle.merc_script_laws.proofs.Bonds.{Planned}

get_left : {A : Type 0} (xs ys : List A) (n : ℕ) (x : A) → slice_get xs n ≡ Some x → slice_get (xs ++ ys) n ≡ Some x
get_left [] ys n x e = absurd (none_not e)
get_left (y ∷ xs) ys zero x e = e
get_left (y ∷ xs) ys (suc n) x e = get_left xs ys n x e

one_more : (m n : ℕ) → suc m + n ≡ suc (m + n)
one_more m n = omega (arith)

get_right : {A : Type 0} (xs ys : List A) (n : ℕ) → slice_get (xs ++ ys) (length xs + n) ≡ slice_get ys n
get_right [] ys n = ap (slice_get ys) (omega (arith))
get_right (y ∷ xs) ys n = ap (slice_get (y ∷ (xs ++ ys))) (one_more (length xs) n) ∙ get_right xs ys n

-- These sites stand in a list from here on.
abbrev StandAt : List SiteInfo → ℕ → List SiteInfo → Type 0
StandAt all at some = (number : ℕ) (info : SiteInfo) → slice_get some number ≡ Some info → slice_get all (at + number) ≡ Some info

stand_first : (first rest : List SiteInfo) → StandAt (first ++ rest) 0 first
stand_first first rest number info e = ap (slice_get (first ++ rest)) (omega (arith)) ∙ get_left first rest number info e

stand_behind : (first rest some : List SiteInfo) (width at : ℕ) → length first ≡ width → StandAt rest at some → StandAt (first ++ rest) (width + at) some
stand_behind first rest some width at w h number info e =
    ap (slice_get (first ++ rest)) (omega (arith, w)) ∙ get_right first rest (at + number) ∙ h number info e

-- a place of the program of the split trees, of which the first has its sites from this number on
record IsSplitBody (trees : List Node) (site : ℕ) (place : Option ProcedureBody) (body : ProcedureBody) : Type 0 where
  behind : ℕ
  there : place ≡ Some (record { places = body.places; body = split (site + behind) body.body })
  stand : StandAt (all_sites trees) behind (sites body.body)

in_modes : (modes : List ModeDecl) (trees : List Node) (site number : ℕ) (body : ProcedureBody) → body_of_mode modes trees number ≡ Some body → IsSplitBody trees site (body_of_mode modes (all_split site trees) number) body
in_modes [] trees site number body e = absurd (none_not e)
in_modes (mode ∷ modes) [] site number body e = absurd (none_not e)
in_modes (mode ∷ modes) (tree ∷ trees) site zero body e =
    subst (λ (b : ProcedureBody). IsSplitBody (tree ∷ trees) site (Some (record { places = mode.args; body = split site tree })) b) (same_some e)
    (record {
      behind = 0;
      there = ap (λ (n : ℕ). Some (record { places = mode.args; body = split n tree })) (omega (arith));
      stand = stand_first (sites tree) (all_sites trees);
    })
in_modes (mode ∷ modes) (tree ∷ trees) site (suc number) body e =
    let rest = in_modes modes trees (site + forks tree) number body e in
    record {
      behind = forks tree + rest.behind;
      there = rest.there ∙ ap (λ (n : ℕ). Some (record { places = body.places; body = split n body.body })) (omega (arith));
      stand = stand_behind (sites tree) (all_sites trees) (sites body.body) (forks tree) rest.behind (planned_count tree nothing [] []) rest.stand;
    }

-- behind some of the trees
record IsBehind (trees : List Node) (site many : ℕ) : Type 0 where
  behind : ℕ
  same : drop many (all_split site trees) ≡ all_split (site + behind) (drop many trees)
  stand : StandAt (all_sites trees) behind (all_sites (drop many trees))

are_behind : (many : ℕ) (trees : List Node) (site : ℕ) → IsBehind trees site many
are_behind zero trees site = record { behind = 0; same = ap (λ (n : ℕ). all_split n trees) (omega (arith)); stand = λ number info e. ap (slice_get (all_sites trees)) (omega (arith)) ∙ e }
are_behind (suc many) [] site = record { behind = 0; same = refl; stand = λ number info e. absurd (none_not e) }
are_behind (suc many) (tree ∷ trees) site =
    let rest = are_behind many trees (site + forks tree) in
    record {
      behind = forks tree + rest.behind;
      same = rest.same ∙ ap (λ (n : ℕ). all_split n (drop many trees)) (omega (arith));
      stand = stand_behind (sites tree) (all_sites trees) (all_sites (drop many trees)) (forks tree) rest.behind (planned_count tree nothing [] []) rest.stand;
    }

stand_in : (all some few : List SiteInfo) (at behind : ℕ) → StandAt all at some → StandAt some behind few → StandAt all (at + behind) few
stand_in all some few at behind h k number info e = ap (slice_get all) (omega (arith)) ∙ h (behind + number) info (k number info e)

in_predicates : (predicates : List PredDecl) (trees : List Node) (site predicate number : ℕ) (body : ProcedureBody) → body_of predicates trees predicate number ≡ Some body
    → IsSplitBody trees site (body_of predicates (all_split site trees) predicate number) body
in_predicates [] trees site predicate number body e = absurd (none_not e)
in_predicates (declared ∷ rest) trees site zero number body e = in_modes declared.modes trees site number body e
in_predicates (declared ∷ rest) trees site (suc predicate) number body e =
    let many = length declared.modes in
    let some = are_behind many trees site in
    let found = in_predicates rest (drop many trees) (site + some.behind) predicate number body e in
    record {
      behind = some.behind + found.behind;
      there = ap (λ (l : List Node). body_of rest l predicate number) some.same ∙ found.there ∙ ap (λ (n : ℕ). Some (record { places = body.places; body = split n body.body })) (omega (arith));
      stand = stand_in (all_sites trees) (all_sites (drop many trees)) (sites body.body) some.behind found.behind some.stand found.stand;
    }

-- a procedure of the split program, whose sites the plan has
pub record HasSplitBody (predicates : List PredDecl) (trees : List Node) (goal : Node) (procedure : Procedure) (body : ProcedureBody) : Type 0 where
  pub site : ℕ
  pub there : split_program predicates trees procedure ≡ Some (record { places = body.places; body = split site body.body })
  pub planned : Planned (split_plan trees goal) site (sites body.body)

pub split_body : (predicates : List PredDecl) (trees : List Node) (goal : Node) (procedure : Procedure) (body : ProcedureBody) → program_with predicates trees procedure ≡ Some body → HasSplitBody predicates trees goal procedure body
split_body predicates trees goal procedure body e =
    let found = in_predicates predicates trees 0 procedure.predicate procedure.mode body e in
    record {
      site = found.behind;
      there = found.there ∙ ap (λ (n : ℕ). Some (record { places = body.places; body = split n body.body })) (omega (arith));
      planned = λ number info h.
          subst (λ (all : List SiteInfo). slice_get all (found.behind + number) ≡ Some info) (sym (sites_append trees (goal ∷ [])))
          (get_left (all_sites trees) (all_sites (goal ∷ [])) (found.behind + number) info (found.stand number info h));
    }

pub goal_planned : (trees : List Node) (goal : Node) → Planned (split_plan trees goal) (length (all_sites trees)) (sites goal)
goal_planned trees goal number info h =
    subst (λ (all : List SiteInfo). slice_get all (length (all_sites trees) + number) ≡ Some info) (sym (sites_append trees (goal ∷ [])))
    (get_right (all_sites trees) (all_sites (goal ∷ [])) number ∙ get_left (sites goal) [] number info h)

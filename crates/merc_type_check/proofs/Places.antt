-- Places added to what is known.
use Rattle.std.proofs.Common.{◌≡◌, ℕ, ◌+◌, ◌<◌, ◌≤◌, Bool, true, false, cond, Option, Some, None, Result, Ok, Err, IfOk, OnOk, List, [], ◌∷◌, length, map, eqb, refl, sym, ap, subst, ◌∙◌, arith}
use Rattle.std.specs.Option.{IfSome}
use Rattle.std.specs.Ordering.{nat_cmp, is_eq}
use Rattle.std.specs.BTreeMap.{BTreeMap, get}
use Rattle.merc_base.specs.declared.memory.NoMemory.{NoMemory}
use Rattle.merc_tree.specs.Types.{TypeExpr, TypeApplication, types_of, replaced}
use Rattle.merc_type_table.specs.Table.{type_at}
use Rattle.merc_type_graph.specs.Solutions.{Entry, Graph, Unknown, WholeEntry, Applied, Link, Agrees, Solves}
use Rattle.merc_type_graph.specs.Changes.{AllWithin, Adds, MakesEqual, MakesWhole}
use Rattle.merc_type_check.specs.declared.checker.Checker.{Checker}
use Rattle.merc_type_check.specs.declared.checker.UsedType.{UsedType}
use Rattle.merc_type_matching.specs.declared.used.UsedVariable.{UsedVariable}
use Rattle.merc_type_matching.specs.declared.matchings.Matchings.{Matchings}
use Rattle.merc_type_matching.specs.Kept.{AreKept}
use Rattle.merc_type_check.specs.Progress.{compare_variables, used_type, Types, Instances, AgreesWith, AgreesIn, Fits, AreMet, AreThere, AgreeBelow, IsLocal, IsNewIf, IsSound, Keeps, Nothing, Offers, Stands, AllStand, Step, Takes, Places, Waits}
use Rattle.merc_type_matching.proofs.Maps.{Changes, all_before, all_changed, changed_here, number-equal, number-same}
use Rattle.merc_type_check.proofs.Keys.{variable-equal, variable-same}
use Rattle.merc_type_check.proofs.Steps.{grow_nothing, eqb-less, eqb-same}

-- types with another one at a place
put : Types → ℕ → TypeExpr → Types
put places at type = λ place. cond (eqb place at) type (places place)

put_here : (places : Types) (at : ℕ) (type : TypeExpr) → put places at type at ≡ type
unfolding put
put_here places at type = ap (λ b. cond b type (places at)) (eqb-same at)

put_below : (places : Types) (at : ℕ) (type : TypeExpr) → AgreeBelow at places (put places at type)
unfolding put
put_below places at type = λ place less. sym (ap (λ b. cond b type (places place)) (eqb-less place at less))

-- entries whose places are there
abbrev EntryIsWithin : ℕ → Entry → Type 0
EntryIsWithin count (Applied name arguments) = AllWithin count arguments
EntryIsWithin count (Link place) = ⊥
EntryIsWithin count entry = Unit {0}

map_alike : (count : ℕ) (one other : Types) → AgreeBelow count one other → (listed : List ℕ) → AllWithin count listed → map one listed ≡ map other listed
map_alike count one other alike [] within = refl
map_alike count one other alike (first ∷ rest) within =
    let a : one first ≡ other first = alike first within.0 in
    let b : map one rest ≡ map other rest = map_alike count one other alike rest within.1 in cc

agrees_alike : (count : ℕ) (entry : Entry) (one other : Types) → AgreeBelow count one other → one count ≡ other count → EntryIsWithin count entry
    → Agrees one count entry → Agrees other count entry
agrees_alike count Unknown one other alike here within agrees = tt
agrees_alike count (WholeEntry whole) one other alike here within agrees = sym here ∙ agrees
agrees_alike count (Applied name arguments) one other alike here within agrees =
    let same = map_alike count one other alike arguments within in
    sym here ∙ agrees ∙ ap (λ (l : List TypeExpr). TypeApplication name (types_of l)) same
agrees_alike count (Link place) one other alike here within agrees = absurd within

local_more : (old new : List Entry) (entry : Entry) → IsLocal old → Adds old new entry → length new ≡ length old + 1 → EntryIsWithin (length old) entry → IsLocal new
local_more old new entry local adds count within = λ one other alike solves.
    let both = (adds one).0 solves in
    let below : AgreeBelow (length old) one other = λ place less. alike place (omega arith) in
    (adds other).1 (local one other below both.0, agrees_alike (length old) entry one other below (alike (length old) (omega arith)) within both.1)

there_alike : (o : Option ℕ) (count : ℕ) (one other : Types) (type : TypeExpr) → AgreeBelow count one other → IfSome o (λ place. place < count)
    → IfSome o (λ place. one place ≡ type) → IfSome o (λ place. other place ≡ type)
there_alike None count one other type alike there agrees = agrees
there_alike (Some place) count one other type alike there agrees = sym (alike place there) ∙ agrees

there_more : (o : Option ℕ) (count more : ℕ) → count ≤ more → IfSome o (λ place. place < count) → IfSome o (λ place. place < more)
there_more None count more less there = there
there_more (Some place) count more less there = omega arith

agrees_with_alike : (found : BTreeMap ℕ ℕ) (count : ℕ) (one other types : Types) → AgreeBelow count one other → AreThere found count
    → AgreesWith found one types → AgreesWith found other types
agrees_with_alike found count one other types alike there agrees =
    λ number. there_alike (get nat_cmp found number) count one other (types number) alike (there number) (agrees number)

-- the same of type variables
agrees_in_alike : (found : BTreeMap UsedVariable ℕ) (count part : ℕ) (one other : Types) (instance : Instances) → AgreeBelow count one other → AreMet found count part
    → AgreesIn found one instance → AgreesIn found other instance
agrees_in_alike found count part one other instance alike met agrees = λ variable.
    at (get compare_variables found variable) (instance variable.user variable.name) variable.user (met variable) (agrees variable)
  where
    at : (o : Option ℕ) (type : TypeExpr) (user : ℕ) → IfSome o (λ place. (place < count) × (user ≤ part)) → IfSome o (λ place. one place ≡ type) → IfSome o (λ place. other place ≡ type)
    at None type user there same = tt
    at (Some place) type user there same = sym (alike place there.0) ∙ same

met_more : (o : Option ℕ) (count more user part : ℕ) → count ≤ more → IfSome o (λ place. (place < count) × (user ≤ part)) → IfSome o (λ place. (place < more) × (user ≤ part))
met_more None count more user part less met = tt
met_more (Some place) count more user part less met = let there = met.0 in (omega arith, met.1)

-- what fits goes on to fit with other types at places that are not there
fits_alike : (old : Checker) (one other types : Types) (instance : Instances) → IsSound old → AgreeBelow (length old.graph.entries) one other → Fits old one types instance
    → Fits old other types instance
fits_alike old one other types instance sound alike fits = record {
  solved = sound.local one other alike fits.solved;
  variables = agrees_with_alike old.variables (length old.graph.entries) one other types alike sound.variables fits.variables;
  waiting = fits.waiting;
  instances = agrees_in_alike old.instances (length old.graph.entries) old.part one other instance alike sound.instances fits.instances;
}

-- The graph grows, or its equations do.

types_kept : (o : Option UsedType) (one other : List TypeExpr) (type : TypeExpr) (instance : Instances) → one ≡ other → IfSome o (λ used. type ≡ used_type one instance used)
    → IfSome o (λ used. type ≡ used_type other instance used)
types_kept o one other type instance same agrees = subst (λ (t : List TypeExpr). IfSome o (λ used. type ≡ used_type t instance used)) same agrees

waits_kept : (o : Option UsedType) (old : Checker) (graph : Graph) (number : ℕ) → graph.table ≡ old.graph.table → IfSome o (Waits old number)
    → IfSome o (Waits (record old { graph = graph }) number)
waits_kept None old graph number kept waits = tt
waits_kept (Some used) old graph number kept waits = (subst (λ (t : List TypeExpr). used.number < length t) (sym kept) waits.0, waits.1, waits.2)

sound_more : (old : Checker) (graph : Graph) → IsSound old → IsLocal graph.entries → graph.table ≡ old.graph.table → length old.graph.entries ≤ length graph.entries
    → IsSound (record old { graph = graph })
sound_more old graph sound local kept longer = record {
  local = local;
  variables = λ number. there_more (get nat_cmp old.variables number) (length old.graph.entries) (length graph.entries) longer (sound.variables number);
  waiting = λ number. waits_kept (get nat_cmp old.waiting number) old graph number kept (sound.waiting number);
  none_waits = sound.none_waits;
  instances = λ variable.
      met_more (get compare_variables old.instances variable) (length old.graph.entries) (length graph.entries) variable.user old.part longer (sound.instances variable);
  matchings = subst (λ (t : List TypeExpr). AreKept t old.matchings) (sym kept) sound.matchings;
  table = sound.table ∙ sym kept;
  listed = sound.listed ∙ sym kept;
}

fits_more : (old : Checker) (graph : Graph) (places types : Types) (instance : Instances) → graph.table ≡ old.graph.table → Solves graph.entries places
    → Fits old places types instance → Fits (record old { graph = graph }) places types instance
fits_more old graph places types instance kept solved fits = record {
  solved = solved;
  variables = fits.variables;
  waiting = λ number. types_kept (get nat_cmp old.waiting number) old.graph.table graph.table (types number) instance (sym kept) (fits.waiting number);
  instances = fits.instances;
}

fits_less : (old : Checker) (graph : Graph) (places types : Types) (instance : Instances) → graph.table ≡ old.graph.table → Solves old.graph.entries places
    → Fits (record old { graph = graph }) places types instance → Fits old places types instance
fits_less old graph places types instance kept solved fits = record {
  solved = solved;
  variables = fits.variables;
  waiting = λ number. types_kept (get nat_cmp old.waiting number) graph.table old.graph.table (types number) instance kept (fits.waiting number);
  instances = fits.instances;
}

-- one more place, of which no number is told
pub placed : (old : Checker) (graph : Graph) (place : ℕ) (entry : Entry) (Meant : Types → Instances → TypeExpr) → IsSound old → graph.table ≡ old.graph.table → place ≡ length old.graph.entries
    → length graph.entries ≡ length old.graph.entries + 1 → Adds old.graph.entries graph.entries entry → EntryIsWithin (length old.graph.entries) entry
    → ((places types : Types) (instance : Instances) → Fits old places types instance → Agrees places (length old.graph.entries) entry → places (length old.graph.entries) ≡ Meant types instance)
    → ((places types : Types) (instance : Instances) → Fits old places types instance → places (length old.graph.entries) ≡ Meant types instance → Agrees places (length old.graph.entries) entry)
    → Places old (record old { graph = graph }) place Meant
placed old graph place entry Meant sound kept at count adds within shows fills = record {
  grows = record {
    sound = sound_more old graph sound (local_more old.graph.entries graph.entries entry sound.local adds count within) kept (omega arith);
    longer = omega arith;
    same_table = kept;
    same_part = refl;
    same_mode = refl;
    back = λ places types instance fits. (fits_less old graph places types instance kept ((adds places).0 fits.solved).0 fits, tt);
    forth = λ places types instance fits asked.
        let others : Types = put places (length old.graph.entries) (Meant types instance) in
        let still : Fits old others types instance =
        fits_alike old places others types instance sound (put_below places (length old.graph.entries) (Meant types instance)) fits in (
          others,
          fits_more old graph others types instance kept
              ((adds others).1 (still.solved, fills others types instance still (put_here places (length old.graph.entries) (Meant types instance)))) still,
        );
  };
  stands = record {
    there = omega arith;
    meant = λ places types instance fits.
        ap places at
        ∙ shows places types instance (fits_less old graph places types instance kept ((adds places).0 fits.solved).0 fits) ((adds places).0 fits.solved).1;
  };
}

abbrev pub MapUpdates : BTreeMap ℕ ℕ → BTreeMap ℕ ℕ → ℕ → ℕ → Type 0
MapUpdates found more number place = Changes nat_cmp found more number (Some place)

-- what holds of the old numbers' places, and of the new one's, holds of all
pub all_more : (Q : ℕ → ℕ → Type 0) (found more : BTreeMap ℕ ℕ) (number place : ℕ) → MapUpdates found more number place
    → ((other : ℕ) → IfSome (get nat_cmp found other) (Q other)) → Q number place → (other : ℕ) → IfSome (get nat_cmp more other) (Q other)
all_more Q found more number place updates all one = all_changed nat_cmp number-equal Q found more number (Some place) updates one all

-- the place of a variable that was met before
pub variable_known : (old : Checker) (number place : ℕ) → IsSound old → get nat_cmp old.variables number ≡ Some place
    → Places old old place (λ types instance. types number)
variable_known old number place sound known = record {
  grows = grow_nothing old sound;
  stands = record {
    there = subst (λ (o : Option ℕ). IfSome o (λ p. p < length old.graph.entries)) known (sound.variables number);
    meant = λ places types instance fits. subst (λ (o : Option ℕ). IfSome o (λ p. places p ≡ types number)) known (fits.variables number);
  };
}

-- a new variable waits
pub waited : (old : Checker) (more : BTreeMap ℕ UsedType) (number : ℕ) (used : UsedType) → IsSound old → IsNewIf true old number → used.number < length old.graph.table
    → used.user ≤ old.part → Changes nat_cmp old.waiting more number (Some used)
    → Step old (record old { waiting = more }) (λ types instance. types number ≡ replaced (instance used.user) (type_at old.graph.table used.number))
waited old more number used sound new there begun updates = record {
  sound = record {
    local = sound.local;
    variables = sound.variables;
    waiting = all_changed nat_cmp number-equal (Waits old) old.waiting more number (Some used) updates (there, begun, new.1) sound.waiting;
    none_waits = λ never. absurd (mode new.0 never);
    instances = sound.instances;
    matchings = sound.matchings;
    table = sound.table;
    listed = sound.listed;
  };
  longer = omega arith;
  same_table = refl;
  same_part = refl;
  same_mode = refl;
  back = λ places types instance fits. (
    record {
      solved = fits.solved;
      variables = fits.variables;
      waiting = all_before nat_cmp number-equal (λ n u. types n ≡ used_type old.graph.table instance u) old.waiting more number (Some used) None updates new.2 tt fits.waiting;
      instances = fits.instances;
    },
    subst (λ (o : Option UsedType). IfSome o (λ u. types number ≡ used_type old.graph.table instance u))
        (changed_here nat_cmp old.waiting more number (Some used) (number-same number) updates) (fits.waiting number),
  );
  forth = λ places types instance fits asked. (
    places,
    record {
      solved = fits.solved;
      variables = fits.variables;
      waiting = all_changed nat_cmp number-equal (λ n u. types n ≡ used_type old.graph.table instance u) old.waiting more number (Some used) updates asked fits.waiting;
      instances = fits.instances;
    },
  );
}
  where
    mode : {b : Bool} → b ≡ true → b ≡ false → ⊥
    mode may never = cc

-- pairs of type variables are kept, or given back
pub matchings_changed : (old : Checker) (new : Matchings) → IsSound old → AreKept old.graph.table new → Step old (record old { matchings = new }) Nothing
matchings_changed old new sound kept = record {
  sound = record {
    local = sound.local;
    variables = sound.variables;
    waiting = sound.waiting;
    none_waits = sound.none_waits;
    instances = sound.instances;
    matchings = kept;
    table = sound.table;
    listed = sound.listed;
  };
  longer = omega arith;
  same_table = refl;
  same_part = refl;
  same_mode = refl;
  back = λ places types instance fits. (
    record { solved = fits.solved; variables = fits.variables; waiting = fits.waiting; instances = fits.instances },
    tt,
  );
  forth = λ places types instance fits asked. (
    places,
    record { solved = fits.solved; variables = fits.variables; waiting = fits.waiting; instances = fits.instances },
  );
}

-- A variable that waits gets its place.

-- it waits no longer
pub without_sound : (old : Checker) (less : BTreeMap ℕ UsedType) (number : ℕ) → IsSound old → Changes nat_cmp old.waiting less number None → IsSound (record old { waiting = less })
without_sound old less number sound changes = record {
  local = sound.local;
  variables = sound.variables;
  waiting = all_changed nat_cmp number-equal (Waits old) old.waiting less number None changes tt sound.waiting;
  none_waits = λ never other.
      none (get nat_cmp less other) (all_changed nat_cmp number-equal (λ n u. ⊥) old.waiting less number None changes tt (λ n. empty (get nat_cmp old.waiting n) (sound.none_waits never n)) other);
  instances = sound.instances;
  matchings = sound.matchings;
  table = sound.table;
  listed = sound.listed;
}
  where
    empty : (o : Option UsedType) → o ≡ None → IfSome o (λ u. ⊥)
    empty None e = tt
    empty (Some used) e = absurd (cc)

    none : (o : Option UsedType) → IfSome o (λ u. ⊥) → o ≡ None
    none None e = refl
    none (Some used) e = absurd e

pub waits_there : (old : Checker) (number : ℕ) (used : UsedType) → IsSound old → get nat_cmp old.waiting number ≡ Some used → Waits old number used
waits_there old number used sound is = subst (λ (o : Option UsedType). IfSome o (Waits old number)) is (sound.waiting number)

offers_waited : (old new : Checker) (less : BTreeMap ℕ UsedType) (number place : ℕ) (used : UsedType) → IsSound old → get nat_cmp old.variables number ≡ None
    → get nat_cmp old.waiting number ≡ Some used → Changes nat_cmp old.waiting less number None → Keeps (record old { waiting = less }) new
    → Places (record old { waiting = less }) new place (λ types instance. replaced (instance used.user) (type_at old.graph.table used.number))
    → Offers old new number place
offers_waited old new less number place used sound absent is changes keeps placed_is = record {
  sound = placed_is.grows.sound;
  longer = placed_is.grows.longer;
  same_table = placed_is.grows.same_table;
  same_part = placed_is.grows.same_part;
  same_mode = placed_is.grows.same_mode;
  there = placed_is.stands.there;
  no_place = ap (λ (m : BTreeMap ℕ ℕ). get nat_cmp m number) keeps.0 ∙ absent;
  no_wait = ap (λ (m : BTreeMap ℕ UsedType). get nat_cmp m number) keeps.1 ∙ changed_here nat_cmp old.waiting less number None (number-same number) changes;
  back = λ places types instance fits same.
      let before = (placed_is.grows.back places types instance fits).0 in
      record {
        solved = before.solved;
        variables = before.variables;
        waiting = all_before nat_cmp number-equal (λ n u. types n ≡ used_type old.graph.table instance u) old.waiting less number None (Some used) changes is
            (sym same ∙ placed_is.stands.meant places types instance fits) before.waiting;
        instances = before.instances;
      };
  forth = λ places types instance fits.
      let had : types number ≡ used_type old.graph.table instance used =
      subst (λ (o : Option UsedType). IfSome o (λ u. types number ≡ used_type old.graph.table instance u)) is (fits.waiting number) in
      let without : Fits (record old { waiting = less }) places types instance = record {
        solved = fits.solved;
        variables = fits.variables;
        waiting = all_changed nat_cmp number-equal (λ n u. types n ≡ used_type old.graph.table instance u) old.waiting less number None changes tt fits.waiting;
        instances = fits.instances;
      } in
      let after = placed_is.grows.forth places types instance without tt in
      (after.0, after.1, placed_is.stands.meant after.0 types instance after.1 ∙ sym had);
}

pub offers_built : (result : Result ℕ NoMemory) (old new : Checker) (less : BTreeMap ℕ UsedType) (number : ℕ) (used : UsedType) → IsSound old → get nat_cmp old.variables number ≡ None
    → get nat_cmp old.waiting number ≡ Some used → Changes nat_cmp old.waiting less number None
    → IfOk result (λ place. Places (record old { waiting = less }) new place (λ types instance. replaced (instance used.user) (type_at old.graph.table used.number)))
    → OnOk result (Keeps (record old { waiting = less }) new) → IfOk result (λ place. Offers old new number place)
offers_built (Ok place) old new less number used sound absent is changes placed_is keeps = offers_waited old new less number place used sound absent is changes keeps placed_is
offers_built (Err fault) old new less number used sound absent is changes placed_is keeps = tt

-- a place of which nothing is known, for a variable that does not wait
pub offers_unknown : (old : Checker) (less : BTreeMap ℕ UsedType) (graph : Graph) (number place : ℕ) → IsSound old → get nat_cmp old.variables number ≡ None
    → get nat_cmp old.waiting number ≡ None → Changes nat_cmp old.waiting less number None → graph.table ≡ old.graph.table → place ≡ length old.graph.entries
    → length graph.entries ≡ length old.graph.entries + 1 → Adds old.graph.entries graph.entries Unknown → Offers old (record old { graph = graph; waiting = less }) number place
offers_unknown old less graph number place sound absent none changes kept at count adds =
    let middle : Checker = record old { waiting = less } in
    let middle_sound : IsSound middle = without_sound old less number sound changes in
    let to_middle : (places types : Types) (instance : Instances) → Fits old places types instance → Fits middle places types instance =
    λ places types instance fits. record {
      solved = fits.solved;
      variables = fits.variables;
      waiting = all_changed nat_cmp number-equal (λ n u. types n ≡ used_type old.graph.table instance u) old.waiting less number None changes tt fits.waiting;
      instances = fits.instances;
    } in
    record {
      sound = sound_more middle graph middle_sound (local_more old.graph.entries graph.entries Unknown sound.local adds count tt) kept (omega arith);
      longer = omega arith;
      same_table = kept;
      same_part = refl;
      same_mode = refl;
      there = omega arith;
      no_place = absent;
      no_wait = changed_here nat_cmp old.waiting less number None (number-same number) changes;
      back = λ places types instance fits same.
          let before = fits_less middle graph places types instance kept ((adds places).0 fits.solved).0 fits in
          record {
            solved = before.solved;
            variables = before.variables;
            waiting = all_before nat_cmp number-equal (λ n u. types n ≡ used_type old.graph.table instance u) old.waiting less number None None changes none tt before.waiting;
            instances = before.instances;
          };
      forth = λ places types instance fits.
          let others : Types = put places (length old.graph.entries) (types number) in
          let still : Fits middle others types instance =
          fits_alike middle places others types instance middle_sound (put_below places (length old.graph.entries) (types number)) (to_middle places types instance fits) in (
            others,
            fits_more middle graph others types instance kept ((adds others).1 (still.solved, tt)) still,
            ap others at ∙ put_here places (length old.graph.entries) (types number),
          );
    }

-- a variable is given the place that was offered
waits_apart : (o : Option UsedType) (old : Checker) (found : BTreeMap ℕ ℕ) (number place other : ℕ) → Changes nat_cmp old.variables found number (Some place)
    → (number ≡ other → o ≡ None) → IfSome o (Waits old other) → IfSome o (Waits (record old { variables = found }) other)
waits_apart None old found number place other updates apart waits = tt
waits_apart (Some used) old found number place other updates apart waits = (waits.0, waits.1, by (is_eq (nat_cmp number other)) refl)
  where
    by : (b : Bool) → is_eq (nat_cmp number other) ≡ b → get nat_cmp found other ≡ None
    by true e = let none : Some used ≡ None = apart (number-equal number other e) in absurd (cc)
    by false e = updates other ∙ ap (λ (b : Bool). cond b (Some place) (get nat_cmp old.variables other)) e ∙ waits.2

pub variable_given : (old new : Checker) (found : BTreeMap ℕ ℕ) (number place : ℕ) → Offers old new number place → MapUpdates new.variables found number place
    → Places old (record new { variables = found }) place (λ types instance. types number)
variable_given old new found number place offers updates =
    let before : (places types : Types) (instance : Instances) → Fits (record new { variables = found }) places types instance → Fits new places types instance =
    λ places types instance fits. record {
      solved = fits.solved;
      variables = all_before nat_cmp number-equal (λ n p. places p ≡ types n) new.variables found number (Some place) None updates offers.no_place tt fits.variables;
      waiting = fits.waiting;
      instances = fits.instances;
    } in
    let here : (places types : Types) (instance : Instances) → Fits (record new { variables = found }) places types instance → places place ≡ types number =
    λ places types instance fits.
    subst (λ (o : Option ℕ). IfSome o (λ p. places p ≡ types number))
    (changed_here nat_cmp new.variables found number (Some place) (number-same number) updates) (fits.variables number) in
    record {
      grows = record {
        sound = record {
          local = offers.sound.local;
          variables = all_more (λ n p. p < length new.graph.entries) new.variables found number place updates offers.sound.variables offers.there;
          waiting = λ other. waits_apart (get nat_cmp new.waiting other) new found number place other updates
              (λ same. ap (get nat_cmp new.waiting) (sym same) ∙ offers.no_wait) (offers.sound.waiting other);
          none_waits = offers.sound.none_waits;
          instances = offers.sound.instances;
          matchings = offers.sound.matchings;
          table = offers.sound.table;
          listed = offers.sound.listed;
        };
        longer = offers.longer;
        same_table = offers.same_table;
        same_part = offers.same_part;
        same_mode = offers.same_mode;
        back = λ places types instance fits. (offers.back places types instance (before places types instance fits) (here places types instance fits), tt);
        forth = λ places types instance fits asked.
            let after = offers.forth places types instance fits in (
              after.0,
              record {
                solved = after.1.solved;
                variables = all_more (λ n p. after.0 p ≡ types n) new.variables found number place updates after.1.variables after.2;
                waiting = after.1.waiting;
                instances = after.1.instances;
              },
            );
      };
      stands = record { there = offers.there; meant = here };
    }

-- the place of what a type variable stands for, which was met before
pub type_variable_known : (old : Checker) (user name place : ℕ) → IsSound old → get compare_variables old.instances (record { user = user; name = name }) ≡ Some place
    → Places old old place (λ types instance. instance user name)
type_variable_known old user name place sound known =
    let variable : UsedVariable = record { user = user; name = name } in
    record {
      grows = grow_nothing old sound;
      stands = record {
        there = (subst (λ (o : Option ℕ). IfSome o (λ p. (p < length old.graph.entries) × (user ≤ old.part))) known (sound.instances variable)).0;
        meant = λ places types instance fits. subst (λ (o : Option ℕ). IfSome o (λ p. places p ≡ instance user name)) known (fits.instances variable);
      };
    }

-- the place of what a new type variable stands for
pub type_variable_placed : (old : Checker) (graph : Graph) (found : BTreeMap UsedVariable ℕ) (user name place : ℕ) → IsSound old → user ≤ old.part → graph.table ≡ old.graph.table
    → place ≡ length old.graph.entries → length graph.entries ≡ length old.graph.entries + 1 → Adds old.graph.entries graph.entries Unknown
    → get compare_variables old.instances (record { user = user; name = name }) ≡ None
    → Changes compare_variables old.instances found (record { user = user; name = name }) (Some place)
    → Places old (record old { graph = graph; instances = found }) place (λ types instance. instance user name)
type_variable_placed old graph found user name place sound begun kept at count adds absent updates =
    let variable : UsedVariable = record { user = user; name = name } in
    let grown : IsSound (record old { graph = graph }) =
    sound_more old graph sound (local_more old.graph.entries graph.entries Unknown sound.local adds count tt) kept (omega arith) in
    record {
      grows = record {
        sound = record {
          local = grown.local;
          variables = grown.variables;
          waiting = grown.waiting;
          none_waits = grown.none_waits;
          instances = all_changed compare_variables variable-equal (λ v p. (p < length graph.entries) × (v.user ≤ old.part)) old.instances found variable (Some place) updates
              (omega arith, begun) grown.instances;
          matchings = grown.matchings;
          table = grown.table;
          listed = grown.listed;
        };
        longer = omega arith;
        same_table = kept;
        same_part = refl;
        same_mode = refl;
        back = λ places types instance fits.
            let before = fits_less old graph places types instance kept ((adds places).0 fits.solved).0 (record {
              solved = fits.solved;
              variables = fits.variables;
              waiting = fits.waiting;
              instances = all_before compare_variables variable-equal (λ v p. places p ≡ instance v.user v.name) old.instances found variable (Some place) None updates absent tt
                  fits.instances;
            }) in
            (before, tt);
        forth = λ places types instance fits asked.
            let others : Types = put places (length old.graph.entries) (instance user name) in
            let still : Fits old others types instance =
            fits_alike old places others types instance sound (put_below places (length old.graph.entries) (instance user name)) fits in
            let set : others (length old.graph.entries) ≡ instance user name = put_here places (length old.graph.entries) (instance user name) in
            let more : Fits (record old { graph = graph }) others types instance = fits_more old graph others types instance kept ((adds others).1 (still.solved, tt)) still in (
              others,
              record {
                solved = more.solved;
                variables = more.variables;
                waiting = more.waiting;
                instances = all_changed compare_variables variable-equal (λ v p. others p ≡ instance v.user v.name) old.instances found variable (Some place) updates
                    (ap others at ∙ set) more.instances;
              },
            );
      };
      stands = record {
        there = omega arith;
        meant = λ places types instance fits.
            subst (λ (o : Option ℕ). IfSome o (λ p. places p ≡ instance user name))
            (changed_here compare_variables old.instances found variable (Some place) (variable-same variable) updates) (fits.instances variable);
      };
    }

-- a type variable that was not met stands for the type at a place
pub type_variable_given : (old : Checker) (found : BTreeMap UsedVariable ℕ) (user name place : ℕ) (Meant : Types → Instances → TypeExpr) → IsSound old → user ≤ old.part
    → get compare_variables old.instances (record { user = user; name = name }) ≡ None
    → Changes compare_variables old.instances found (record { user = user; name = name }) (Some place) → Stands old place Meant
    → Step old (record old { instances = found }) (λ types instance. Meant types instance ≡ instance user name)
type_variable_given old found user name place Meant sound begun absent updates stands =
    let variable : UsedVariable = record { user = user; name = name } in
    let before : (places types : Types) (instance : Instances) → Fits (record old { instances = found }) places types instance → Fits old places types instance =
    λ places types instance fits. record {
      solved = fits.solved;
      variables = fits.variables;
      waiting = fits.waiting;
      instances = all_before compare_variables variable-equal (λ v p. places p ≡ instance v.user v.name) old.instances found variable (Some place) None updates absent tt
          fits.instances;
    } in
    record {
      sound = record {
        local = sound.local;
        variables = sound.variables;
        waiting = sound.waiting;
        none_waits = sound.none_waits;
        instances = all_changed compare_variables variable-equal (λ v p. (p < length old.graph.entries) × (v.user ≤ old.part)) old.instances found variable (Some place) updates
            (stands.there, begun) sound.instances;
        matchings = sound.matchings;
        table = sound.table;
        listed = sound.listed;
      };
      longer = omega arith;
      same_table = refl;
      same_part = refl;
      same_mode = refl;
      back = λ places types instance fits.
          let here : places place ≡ instance user name =
          subst (λ (o : Option ℕ). IfSome o (λ p. places p ≡ instance user name))
          (changed_here compare_variables old.instances found variable (Some place) (variable-same variable) updates) (fits.instances variable) in
          (before places types instance fits, sym (stands.meant places types instance (before places types instance fits)) ∙ here);
      forth = λ places types instance fits asked. (
        places,
        record {
          solved = fits.solved;
          variables = fits.variables;
          waiting = fits.waiting;
          instances = all_changed compare_variables variable-equal (λ v p. places p ≡ instance v.user v.name) old.instances found variable (Some place) updates
              (stands.meant places types instance fits ∙ asked) fits.instances;
        },
      );
    }

-- a place of a type's name over the types at other places
pub applied_placed : (old : Checker) (graph : Graph) (place name : ℕ) (arguments : List ℕ) → IsSound old → graph.table ≡ old.graph.table → place ≡ length old.graph.entries
    → length graph.entries ≡ length old.graph.entries + 1 → Adds old.graph.entries graph.entries (Applied name arguments) → AllWithin (length old.graph.entries) arguments
    → (Meant : Types → Instances → List TypeExpr) → AllStand old arguments Meant
    → Places old (record old { graph = graph }) place (λ types instance. TypeApplication name (types_of (Meant types instance)))
applied_placed old graph place name arguments sound kept at count adds within Meant stand =
    placed old graph place (Applied name arguments) (λ types instance. TypeApplication name (types_of (Meant types instance))) sound kept at count adds within
    (λ places types instance fits agrees. agrees ∙ ap (λ (l : List TypeExpr). TypeApplication name (types_of l)) (stand.meant places types instance fits))
    (λ places types instance fits same. same ∙ ap (λ (l : List TypeExpr). TypeApplication name (types_of l)) (sym (stand.meant places types instance fits)))

-- places made equal
pub made_equal : (done : Bool) (old : Checker) (graph : Graph) (one other : ℕ) → IsSound old → graph.table ≡ old.graph.table → one < length old.graph.entries → other < length old.graph.entries
    → MakesEqual done old.graph.entries graph.entries one other → (One Other : Types → Instances → TypeExpr) → Stands old one One → Stands old other Other
    → Takes done old (record old { graph = graph }) (λ types instance. One types instance ≡ Other types instance)
made_equal true old graph one other sound kept one_there other_there makes One Other stands_one stands_other =
    let same : length graph.entries ≡ length old.graph.entries = makes.0 in
    let back : (places types : Types) (instance : Instances) → Fits (record old { graph = graph }) places types instance → Fits old places types instance =
    λ places types instance fits. fits_less old graph places types instance kept ((makes.1 places).0 fits.solved).0 fits in
    let local : IsLocal graph.entries = λ first second alike solves.
    let below : AgreeBelow (length old.graph.entries) first second = λ place less. alike place (omega arith) in
    let both = (makes.1 first).0 solves in
    (makes.1 second).1 (sound.local first second below both.0, sym (below one one_there) ∙ both.1 ∙ below other other_there) in
    record {
      sound = sound_more old graph sound local kept (omega arith);
      longer = omega arith;
      same_table = kept;
      same_part = refl;
      same_mode = refl;
      back = λ places types instance fits.
          let before = back places types instance fits in
          (before, sym (stands_one.meant places types instance before) ∙ ((makes.1 places).0 fits.solved).1 ∙ stands_other.meant places types instance before);
      forth = λ places types instance fits asked. (
        places,
        fits_more old graph places types instance kept
            ((makes.1 places).1 (fits.solved, stands_one.meant places types instance fits ∙ asked ∙ sym (stands_other.meant places types instance fits))) fits,
      );
    }
made_equal false old graph one other sound kept one_there other_there makes One Other stands_one stands_other = λ places types instance fits asked.
    makes places fits.solved (stands_one.meant places types instance fits ∙ asked ∙ sym (stands_other.meant places types instance fits))

-- a place given a type
pub made_whole : (done : Bool) (old : Checker) (graph : Graph) (one : ℕ) (whole : TypeExpr) → IsSound old → graph.table ≡ old.graph.table → one < length old.graph.entries
    → MakesWhole done old.graph.entries graph.entries one whole → (One : Types → Instances → TypeExpr) → Stands old one One
    → Takes done old (record old { graph = graph }) (λ types instance. One types instance ≡ whole)
made_whole true old graph one whole sound kept one_there makes One stands_one =
    let same : length graph.entries ≡ length old.graph.entries = makes.0 in
    let back : (places types : Types) (instance : Instances) → Fits (record old { graph = graph }) places types instance → Fits old places types instance =
    λ places types instance fits. fits_less old graph places types instance kept ((makes.1 places).0 fits.solved).0 fits in
    let local : IsLocal graph.entries = λ first second alike solves.
    let below : AgreeBelow (length old.graph.entries) first second = λ place less. alike place (omega arith) in
    let both = (makes.1 first).0 solves in
    (makes.1 second).1 (sound.local first second below both.0, sym (below one one_there) ∙ both.1) in
    record {
      sound = sound_more old graph sound local kept (omega arith);
      longer = omega arith;
      same_table = kept;
      same_part = refl;
      same_mode = refl;
      back = λ places types instance fits.
          let before = back places types instance fits in
          (before, sym (stands_one.meant places types instance before) ∙ ((makes.1 places).0 fits.solved).1);
      forth = λ places types instance fits asked. (
        places,
        fits_more old graph places types instance kept ((makes.1 places).1 (fits.solved, stands_one.meant places types instance fits ∙ asked)) fits,
      );
    }
made_whole false old graph one whole sound kept one_there makes One stands_one = λ places types instance fits asked.
    makes places fits.solved (stands_one.meant places types instance fits ∙ asked)

-- the same of a call's whole answer
pub whole_added : (old : Checker) (graph : Graph) (result : Result ℕ NoMemory) (whole : TypeExpr) → IsSound old → graph.table ≡ old.graph.table
    → IfOk result (λ place. place ≡ length old.graph.entries) → OnOk result (length graph.entries ≡ length old.graph.entries + 1)
    → OnOk result (Adds old.graph.entries graph.entries (WholeEntry whole))
    → IfOk result (λ place. Places old (record old { graph = graph }) place (λ types instance. whole))
whole_added old graph (Ok place) whole sound kept at count adds =
    placed old graph place (WholeEntry whole) (λ types instance. whole) sound kept at count adds tt (λ places types instance fits agrees. agrees) (λ places types instance fits same. same)
whole_added old graph (Err fault) whole sound kept at count adds = tt

pub applied_added : (old : Checker) (graph : Graph) (result : Result ℕ NoMemory) (name : ℕ) (arguments : List ℕ) → IsSound old → graph.table ≡ old.graph.table
    → AllWithin (length old.graph.entries) arguments → IfOk result (λ place. place ≡ length old.graph.entries)
    → OnOk result (length graph.entries ≡ length old.graph.entries + 1) → OnOk result (Adds old.graph.entries graph.entries (Applied name arguments))
    → IfOk result (λ place. (Meant : Types → Instances → List TypeExpr) → AllStand old arguments Meant
    → Places old (record old { graph = graph }) place (λ types instance. TypeApplication name (types_of (Meant types instance))))
applied_added old graph (Ok place) name arguments sound kept within at count adds = applied_placed old graph place name arguments sound kept at count adds within
applied_added old graph (Err fault) name arguments sound kept within at count adds = tt

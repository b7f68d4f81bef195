-- Declared types as equations.
use Rattle.std.proofs.Common.{◌≡◌, ℕ, ◌<◌, true, false, Option, Some, None, List, [], ◌∷◌, ◌++◌, length, map, refl, sym, ap, subst, ◌∙◌, arith}
use Rattle.std.specs.Option.{IfSome}
use Rattle.std.specs.Ordering.{nat_cmp}
use Rattle.std.specs.BTreeMap.{BTreeMap, IsEmpty, get}
use Rattle.std.proofs.lemmas.List.{map-append}
use Rattle.merc_tree.specs.Types.{TypeExpr, TypeVariable, IntType, TextType, TypeApplication, no_types, more_types, types_of, replaced, replaced_all}
use Rattle.merc_type_table.specs.declared.node.TypeNode.{TypeNode}
use Rattle.merc_type_table.specs.declared.node.TypeNode.TheVariants.{Variable, Int, Text, Name, With}
use Rattle.merc_type_table.specs.Table.{type_at, with_first, is_application, is_closed, made, IsComplete}
use Rattle.merc_type_table.specs.Frames.{with_all}
use Rattle.merc_type_graph.specs.Changes.{AllWithin}
use Rattle.merc_type_matching.specs.Weights.{type_weight}
use Rattle.merc_type_matching.proofs.Parts.{replaced_closed, some_weight, split_weight}
use Rattle.merc_type_check.specs.declared.building.Frame.{Frame}
use Rattle.merc_type_check.specs.declared.checker.Checker.{Checker}
use Rattle.merc_type_check.specs.Building.{instance_at, instances_of, AreBuilt, Finds, Finishes, IsFilled, HasMore, AreWaiting, IsSplit, IsUnderWay, frames_weight}
use Rattle.merc_type_check.specs.Progress.{Types, Instances, Step, Nothing, Stands, AllStand, Places}
use Rattle.merc_type_check.proofs.Steps.{stands_on, all_stand_on, grow_grow}
use Rattle.merc_type_check.proofs.Places.{MapUpdates, all_more}

replaced_all-types_of : (instance : Types) (types : List TypeExpr) → replaced_all instance (types_of types) ≡ types_of (map (replaced instance) types)
replaced_all-types_of instance [] = refl
replaced_all-types_of instance (first ∷ rest) = ap (more_types (replaced instance first)) (replaced_all-types_of instance rest)

within-append : (listed more : List ℕ) (count : ℕ) → AllWithin count listed → AllWithin count more → AllWithin count (listed ++ more)
within-append [] more count one other = other
within-append (first ∷ rest) more count one other = (one.0, within-append rest more count one.1 other)

-- one more place behind others
pub stand_push : (checker : Checker) (listed : List ℕ) (place : ℕ) (Meant : Types → Instances → List TypeExpr) (One : Types → Instances → TypeExpr)
    → AllStand checker listed Meant → Stands checker place One → AllStand checker (listed ++ place ∷ []) (λ types instance. Meant types instance ++ One types instance ∷ [])
stand_push checker listed place Meant One stand one = record {
  there = within-append listed (place ∷ []) (length checker.graph.entries) stand.there (one.there, tt);
  meant = λ places types instance fits.
      map-append places listed (place ∷ []) ∙ ap (λ (l : List TypeExpr). l ++ places place ∷ []) (stand.meant places types instance fits)
      ∙ ap (λ (t : TypeExpr). Meant types instance ++ t ∷ []) (one.meant places types instance fits);
}

-- what stands there, in other words
pub stand_as : (checker : Checker) (listed : List ℕ) (Meant Other : Types → Instances → List TypeExpr) → ((types : Types) (instance : Instances) → Meant types instance ≡ Other types instance)
    → AllStand checker listed Meant → AllStand checker listed Other
stand_as checker listed Meant Other same stand = record {
  there = stand.there;
  meant = λ places types instance fits. stand.meant places types instance fits ∙ same types instance;
}

stands_as : (checker : Checker) (place : ℕ) (Meant Other : Types → Instances → TypeExpr) → ((types : Types) (instance : Instances) → Meant types instance ≡ Other types instance)
    → Stands checker place Meant → Stands checker place Other
stands_as checker place Meant Other same stands = record {
  there = stands.there;
  meant = λ places types instance fits. stands.meant places types instance fits ∙ same types instance;
}

-- arguments put before others one by one
with_all-push : (arguments : List TypeExpr) (first rest : TypeExpr) → with_all (arguments ++ first ∷ []) rest ≡ with_all arguments (with_first first rest)
with_all-push [] first rest = refl
with_all-push (one ∷ others) first rest = ap (with_first one) (with_all-push others first rest)

with_all-name : (name : ℕ) (arguments : List TypeExpr) → with_all arguments (TypeApplication name no_types) ≡ TypeApplication name (types_of arguments)
with_all-name name [] = refl
with_all-name name (first ∷ rest) = ap (with_first first) (with_all-name name rest)

-- what is left to build grows less
pub less_found : (table : List TypeExpr) (frame top : Frame) (below : List Frame) (first rest : ℕ) → IsSplit table frame.rest first rest → top.rest ≡ rest
    → frames_weight table top below < frames_weight table frame below
less_found table frame top below first rest split rest_is =
    let a = ap type_weight split.is ∙ split_weight (type_at table first) (type_at table rest) split.complete in
    let b = ap (λ (n : ℕ). type_weight (type_at table n)) rest_is in
    omega arith

pub less_argument : (table : List TypeExpr) (frame waits top : Frame) (below : List Frame) (first rest : ℕ) → IsSplit table frame.rest first rest → waits.rest ≡ rest
    → top.rest ≡ first → frames_weight table top (waits ∷ below) < frames_weight table frame below
less_argument table frame waits top below first rest split rest_is first_is =
    let a = ap type_weight split.is ∙ split_weight (type_at table first) (type_at table rest) split.complete in
    let b = ap (λ (n : ℕ). type_weight (type_at table n)) rest_is in
    let c = ap (λ (n : ℕ). type_weight (type_at table n)) first_is in
    omega arith

pub less_finished : (table : List TypeExpr) (top frame next : Frame) (below : List Frame) (place : ℕ) → HasMore frame next place
    → frames_weight table next below < frames_weight table top (frame ∷ below)
less_finished table top frame next below place has =
    let some = some_weight (type_at table top.rest) in
    let b = ap (λ (n : ℕ). type_weight (type_at table n)) has.same_rest in
    omega arith

-- Given is the number of the part of the goal that uses the declaration.
module _ (user : ℕ) where
  filled_push : (checker : Checker) (places : List ℕ) (place : ℕ) (first rest whole : TypeExpr) → IsFilled user checker places (with_first first rest) whole
      → Stands checker place (λ types instance. replaced (instance user) first) → IsFilled user checker (places ++ place ∷ []) rest whole
  filled_push checker places place first rest whole filled stands = record {
    arguments = filled.arguments ++ first ∷ [];
    stand = stand_as checker (places ++ place ∷ []) (λ types instance. instances_of user filled.arguments types instance ++ replaced (instance user) first ∷ [])
        (instances_of user (filled.arguments ++ first ∷ [])) (λ types instance. sym (map-append (replaced (instance user)) filled.arguments (first ∷ [])))
        (stand_push checker places place (instances_of user filled.arguments) (λ types instance. replaced (instance user) first) filled.stand stands);
    is = with_all-push filled.arguments first rest ∙ filled.is;
  }

  filled_on : (old new : Checker) (places : List ℕ) (rest whole : TypeExpr) → Step old new Nothing → IsFilled user old places rest whole → IsFilled user new places rest whole
  filled_on old new places rest whole step filled = record {
    arguments = filled.arguments;
    stand = all_stand_on old new Nothing places (instances_of user filled.arguments) step filled.stand;
    is = filled.is;
  }

  filled_none : (checker : Checker) (type : TypeExpr) → IsFilled user checker [] type type
  filled_none checker type = record {
    arguments = [];
    stand = record { there = tt; meant = λ places types instance fits. refl };
    is = refl;
  }

  -- the places that are built stay
  built_on : (table : List TypeExpr) (old new : Checker) (built : BTreeMap ℕ ℕ) → Step old new Nothing → AreBuilt user table old built → AreBuilt user table new built
  built_on table old new built step all = λ number. at (get nat_cmp built number) (instance_at user table number) (all number)
    where
      at : (o : Option ℕ) (Meant : Types → Instances → TypeExpr) → IfSome o (λ place. Stands old place Meant) → IfSome o (λ place. Stands new place Meant)
      at None Meant none = none
      at (Some place) Meant stands = stands_on old new Nothing place Meant step stands

  waiting_on : (table : List TypeExpr) (old new : Checker) (type whole : TypeExpr) (frames : List Frame) → Step old new Nothing
      → AreWaiting user table old type frames whole → AreWaiting user table new type frames whole
  waiting_on table old new type whole [] step waiting = waiting
  waiting_on table old new type whole (frame ∷ frames) step waiting = (
    waiting.0,
    waiting.1,
    filled_on old new frame.places.items (with_first type (type_at table frame.rest)) (type_at table frame.number) step waiting.2,
    waiting_on table old new (type_at table frame.number) whole frames step waiting.3,
  )

  pub none_built : (table : List TypeExpr) (checker : Checker) (built : BTreeMap ℕ ℕ) → IsEmpty built → AreBuilt user table checker built
  none_built table checker built none = λ number. rw (none) tt

  -- a part that was built before
  pub found_built : (old : Checker) (built : BTreeMap ℕ ℕ) (number place : ℕ) → Step old old Nothing → AreBuilt user old.graph.table old built → get nat_cmp built number ≡ Some place
      → Finds user old old built number (Some place)
  found_built old built number place same all known = record {
    grows = same;
    parts = all;
    stands = subst (λ (o : Option ℕ). IfSome o (λ p. Stands old p (instance_at user old.graph.table number))) known (all number);
  }

  -- a part without type variables
  pub found_closed : (old new : Checker) (built more : BTreeMap ℕ ℕ) (number place : ℕ) → AreBuilt user old.graph.table old built → is_closed (type_at old.graph.table number) ≡ true
      → Places old new place (λ types instance. type_at old.graph.table number) → MapUpdates built more number place → Finds user old new more number (Some place)
  found_closed old new built more number place all closed placed updates =
      let table : List TypeExpr = old.graph.table in
      let stands : Stands new place (instance_at user table number) =
      stands_as new place (λ types instance. type_at table number) (instance_at user table number) (λ types instance. sym (replaced_closed (instance user) (type_at table number) closed))
      placed.stands in
      record {
        grows = placed.grows;
        parts = all_more (λ n p. Stands new p (instance_at user table n)) built more number place updates (built_on table old new built placed.grows all) stands;
        stands = stands;
      }

  -- a type variable
  pub found_variable : (old new : Checker) (built more : BTreeMap ℕ ℕ) (number place name : ℕ) → AreBuilt user old.graph.table old built
      → type_at old.graph.table number ≡ TypeVariable name → Places old new place (λ types instance. instance user name) → MapUpdates built more number place
      → Finds user old new more number (Some place)
  found_variable old new built more number place name all is placed updates =
      let table : List TypeExpr = old.graph.table in
      let stands : Stands new place (instance_at user table number) =
      stands_as new place (λ types instance. instance user name) (instance_at user table number) (λ types instance. ap (replaced (instance user)) (sym is)) placed.stands in
      record {
        grows = placed.grows;
        parts = all_more (λ n p. Stands new p (instance_at user table n)) built more number place updates (built_on table old new built placed.grows all) stands;
        stands = stands;
      }

  with_application : (first rest : TypeExpr) → is_application rest ≡ true → is_application (with_first first rest) ≡ true
  with_application first (TypeVariable name) e = absurd (cc)
  with_application first IntType e = absurd (cc)
  with_application first TextType e = absurd (cc)
  with_application first (TypeApplication name arguments) e = refl

  -- another part has arguments
  pub found_none : (old : Checker) (built : BTreeMap ℕ ℕ) (number : ℕ) (node : TypeNode) → Step old old Nothing → AreBuilt user old.graph.table old built
      → type_at old.graph.table number ≡ made old.graph.table node → IsComplete old.graph.table node → is_closed (type_at old.graph.table number) ≡ false
      → ((name : ℕ) → node ≡ Variable name → ⊥) → Finds user old old built number None
  found_none old built number node same all is complete left apart = record {
    grows = same;
    parts = all;
    stands = ap is_application is ∙ by node complete (sym (ap is_closed is) ∙ left) apart;
  }
    where
      by : (n : TypeNode) → IsComplete old.graph.table n → is_closed (made old.graph.table n) ≡ false → ((name : ℕ) → n ≡ Variable name → ⊥)
          → is_application (made old.graph.table n) ≡ true
      by (Variable name) full shut other = absurd (other name refl)
      by Int full shut other = absurd (cc)
      by Text full shut other = absurd (cc)
      by (Name name) full shut other = refl
      by (With first rest) full shut other = with_application (type_at old.graph.table first) (type_at old.graph.table rest) full

  -- a type whose arguments have places
  pub finished : (old new : Checker) (built more : BTreeMap ℕ ℕ) (frame : Frame) (listed : List ℕ) (name place : ℕ) → listed ≡ frame.places.items → AreBuilt user old.graph.table old built
      → IsFilled user old frame.places.items (TypeApplication name no_types) (type_at old.graph.table frame.number)
      → ((Meant : Types → Instances → List TypeExpr) → AllStand old listed Meant → Places old new place (λ types instance. TypeApplication name (types_of (Meant types instance))))
      → MapUpdates built more frame.number place → Finishes user old new more frame.number place
  finished old new built more frame listed name place listed_is all filled applied updates =
      let table : List TypeExpr = old.graph.table in
      let placed = applied (instances_of user filled.arguments) (subst (λ (l : List ℕ). AllStand old l (instances_of user filled.arguments)) (sym listed_is) filled.stand) in
      let stands : Stands new place (instance_at user table frame.number) =
      stands_as new place (λ types instance. TypeApplication name (types_of (instances_of user filled.arguments types instance))) (instance_at user table frame.number)
      (λ types instance. ap (TypeApplication name) (sym (replaced_all-types_of (instance user) filled.arguments))
      ∙ ap (replaced (instance user)) (sym (with_all-name name filled.arguments) ∙ filled.is)) placed.stands in
      record {
        grows = placed.grows;
        parts = all_more (λ n p. Stands new p (instance_at user table n)) built more frame.number place updates (built_on table old new built placed.grows all) stands;
        stands = stands;
      }

  -- the first frame
  pub under_way_first : (start now : Checker) (built : BTreeMap ℕ ℕ) (top : Frame) (number : ℕ) → number < length start.graph.table → Finds user start now built number None
      → top.number ≡ number → top.rest ≡ number → top.places.items ≡ [] → IsUnderWay user start now built top [] (type_at start.graph.table number)
  under_way_first start now built top number here finds number_is rest_is none =
      let table : List TypeExpr = start.graph.table in
      let rest : type_at table top.rest ≡ type_at table number = ap (type_at table) rest_is in
      record {
        grows = finds.grows;
        parts = finds.parts;
        here = omega arith;
        named = ap is_application rest ∙ finds.stands;
        filled = subst (λ (l : List ℕ). IsFilled user now l (type_at table top.rest) (type_at table top.number)) (sym none)
            (subst (λ (t : TypeExpr). IsFilled user now [] (type_at table top.rest) t) (ap (type_at table) (rest_is ∙ sym number_is)) (filled_none now (type_at table top.rest)));
        waiting = ap (type_at table) number_is;
      }

  -- what is known of the declared types where a step begins, at the start
  split_at : (start old : Checker) (number first rest : ℕ) → old.graph.table ≡ start.graph.table → IsSplit old.graph.table number first rest → IsSplit start.graph.table number first rest
  split_at start old number first rest same split = subst (λ (t : List TypeExpr). IsSplit t number first rest) same split

  -- an argument has its place
  pub under_way_found : (start old new : Checker) (built more : BTreeMap ℕ ℕ) (frame top : Frame) (below : List Frame) (first rest place : ℕ) (whole : TypeExpr)
      → IsSplit old.graph.table frame.rest first rest → Finds user old new more first (Some place) → top.number ≡ frame.number → top.rest ≡ rest
      → top.places.items ≡ frame.places.items ++ place ∷ [] → IsUnderWay user start old built frame below whole → IsUnderWay user start new more top below whole
  under_way_found start old new built more frame top below first rest place whole split_old finds number_is rest_is places_are is =
      let table : List TypeExpr = start.graph.table in
      let same : old.graph.table ≡ table = is.grows.same_table in
      let split : IsSplit table frame.rest first rest = split_at start old frame.rest first rest same split_old in
      let stands : Stands new place (λ types instance. replaced (instance user) (type_at table first)) =
      subst (λ (t : List TypeExpr). Stands new place (λ types instance. replaced (instance user) (type_at t first))) same finds.stands in
      let before : IsFilled user new frame.places.items (with_first (type_at table first) (type_at table rest)) (type_at table frame.number) =
      subst (λ (t : TypeExpr). IsFilled user new frame.places.items t (type_at table frame.number)) split.is
      (filled_on old new frame.places.items (type_at table frame.rest) (type_at table frame.number) finds.grows is.filled) in
      record {
        grows = grow_grow start old new is.grows finds.grows;
        parts = subst (λ (t : List TypeExpr). AreBuilt user t new more) same finds.parts;
        here = let less = split.rest_there in omega arith;
        named = ap (λ (n : ℕ). is_application (type_at table n)) rest_is ∙ split.complete;
        filled = rw (number_is, rest_is, places_are)
            (filled_push new frame.places.items place (type_at table first) (type_at table rest) (type_at table frame.number) before stands);
        waiting = subst (λ (n : ℕ). AreWaiting user table new (type_at table n) below whole) (sym number_is)
            (waiting_on table old new (type_at table frame.number) whole below finds.grows is.waiting);
      }

  -- an argument has to be built
  pub under_way_argument : (start old new : Checker) (built more : BTreeMap ℕ ℕ) (frame waits top : Frame) (below : List Frame) (first rest : ℕ) (whole : TypeExpr)
      → IsSplit old.graph.table frame.rest first rest → Finds user old new more first None → waits.number ≡ frame.number → waits.rest ≡ rest
      → waits.places.items ≡ frame.places.items → top.number ≡ first → top.rest ≡ first → top.places.items ≡ []
      → IsUnderWay user start old built frame below whole → IsUnderWay user start new more top (waits ∷ below) whole
  under_way_argument start old new built more frame waits top below first rest whole split_old finds number_is rest_is places_are first_is all_is none is =
      let table : List TypeExpr = start.graph.table in
      let same : old.graph.table ≡ table = is.grows.same_table in
      let split : IsSplit table frame.rest first rest = split_at start old frame.rest first rest same split_old in
      let before : IsFilled user new frame.places.items (with_first (type_at table first) (type_at table rest)) (type_at table frame.number) =
      subst (λ (t : TypeExpr). IsFilled user new frame.places.items t (type_at table frame.number)) split.is
      (filled_on old new frame.places.items (type_at table frame.rest) (type_at table frame.number) finds.grows is.filled) in
      let at_first : type_at table top.number ≡ type_at table first = ap (type_at table) first_is in
      record {
        grows = grow_grow start old new is.grows finds.grows;
        parts = subst (λ (t : List TypeExpr). AreBuilt user t new more) same finds.parts;
        here = let less = split.first_there in omega arith;
        named = ap (λ (n : ℕ). is_application (type_at table n)) all_is ∙ ap (λ (t : List TypeExpr). is_application (type_at t first)) (sym same) ∙ finds.stands;
        filled = subst (λ (l : List ℕ). IsFilled user new l (type_at table top.rest) (type_at table top.number)) (sym none)
            (subst (λ (t : TypeExpr). IsFilled user new [] (type_at table top.rest) t) (ap (type_at table) (all_is ∙ sym first_is)) (filled_none new (type_at table top.rest)));
        waiting = (
          (let less = split.rest_there in omega arith),
          ap (λ (n : ℕ). is_application (type_at table n)) rest_is ∙ split.complete,
          rw (number_is, rest_is, places_are, first_is) before,
          subst (λ (n : ℕ). AreWaiting user table new (type_at table n) below whole) (sym number_is)
              (waiting_on table old new (type_at table frame.number) whole below finds.grows is.waiting),
        );
      }

  -- a type is finished, and the frame below goes on
  pub under_way_finished : (start old new : Checker) (built more : BTreeMap ℕ ℕ) (top frame next : Frame) (below : List Frame) (place : ℕ) (whole : TypeExpr)
      → Finishes user old new more top.number place → HasMore frame next place → IsUnderWay user start old built top (frame ∷ below) whole → IsUnderWay user start new more next below whole
  under_way_finished start old new built more top frame next below place whole finishes has is =
      let table : List TypeExpr = start.graph.table in
      let same : old.graph.table ≡ table = is.grows.same_table in
      let stands : Stands new place (λ types instance. replaced (instance user) (type_at table top.number)) =
      subst (λ (t : List TypeExpr). Stands new place (instance_at user t top.number)) same finishes.stands in
      let before : IsFilled user new frame.places.items (with_first (type_at table top.number) (type_at table frame.rest)) (type_at table frame.number) =
      filled_on old new frame.places.items (with_first (type_at table top.number) (type_at table frame.rest)) (type_at table frame.number) finishes.grows is.waiting.2 in
      record {
        grows = grow_grow start old new is.grows finishes.grows;
        parts = subst (λ (t : List TypeExpr). AreBuilt user t new more) same finishes.parts;
        here = let less = is.waiting.0 in let e = has.same_rest in omega arith;
        named = ap (λ (n : ℕ). is_application (type_at table n)) has.same_rest ∙ is.waiting.1;
        filled = rw (has.same_number, has.same_rest, has.more_places)
            (filled_push new frame.places.items place (type_at table top.number) (type_at table frame.rest) (type_at table frame.number) before stands);
        waiting = subst (λ (n : ℕ). AreWaiting user table new (type_at table n) below whole) (sym has.same_number)
            (waiting_on table old new (type_at table frame.number) whole below finishes.grows is.waiting.3);
      }

  -- all is finished
  pub under_way_last : (start old new : Checker) (built more : BTreeMap ℕ ℕ) (top : Frame) (below : List Frame) (place : ℕ) (whole : TypeExpr)
      → below ≡ [] → Finishes user old new more top.number place → IsUnderWay user start old built top below whole → Places start new place (λ types instance. replaced (instance user) whole)
  under_way_last start old new built more top below place whole none finishes is =
      let table : List TypeExpr = start.graph.table in
      let same : old.graph.table ≡ table = is.grows.same_table in
      let whole_is : type_at table top.number ≡ whole = subst (λ (l : List Frame). AreWaiting user table old (type_at table top.number) l whole) none is.waiting in
      record {
        grows = grow_grow start old new is.grows finishes.grows;
        stands = stands_as new place (instance_at user table top.number) (λ types instance. replaced (instance user) whole) (λ types instance. ap (replaced (instance user)) whole_is)
            (subst (λ (t : List TypeExpr). Stands new place (instance_at user t top.number)) same finishes.stands);
      }

  -- what a step begins with, where so much is under way
  pub begun_there : (start old : Checker) (built : BTreeMap ℕ ℕ) (top : Frame) (below : List Frame) (whole : TypeExpr) → IsUnderWay user start old built top below whole
      → top.rest < length old.graph.table
  begun_there start old built top below whole is = subst (λ (t : List TypeExpr). top.rest < length t) (sym is.grows.same_table) is.here

  pub begun_parts : (start old : Checker) (built : BTreeMap ℕ ℕ) (top : Frame) (below : List Frame) (whole : TypeExpr) → IsUnderWay user start old built top below whole
      → AreBuilt user old.graph.table old built
  begun_parts start old built top below whole is = subst (λ (t : List TypeExpr). AreBuilt user t old built) (sym is.grows.same_table) is.parts

  pub begun_named : (start old : Checker) (built : BTreeMap ℕ ℕ) (top : Frame) (below : List Frame) (whole : TypeExpr) → IsUnderWay user start old built top below whole
      → is_application (type_at old.graph.table top.rest) ≡ true
  begun_named start old built top below whole is = ap (λ (t : List TypeExpr). is_application (type_at t top.rest)) is.grows.same_table ∙ is.named

  pub begun_split : (start old : Checker) (built : BTreeMap ℕ ℕ) (top : Frame) (below : List Frame) (whole : TypeExpr) (first rest : ℕ) → IsUnderWay user start old built top below whole
      → type_at old.graph.table top.rest ≡ with_first (type_at old.graph.table first) (type_at old.graph.table rest) → (first < top.rest) × (rest < top.rest)
      → is_application (type_at old.graph.table rest) ≡ true → IsSplit old.graph.table top.rest first rest
  begun_split start old built top below whole first rest is made_is before complete =
      let there = begun_there start old built top below whole is in
      record {
        first_there = let less = before.0 in omega arith;
        rest_there = let less = before.1 in omega arith;
        complete = complete;
        is = made_is;
      }

  pub begun_filled : (start old : Checker) (built : BTreeMap ℕ ℕ) (top : Frame) (below : List Frame) (whole : TypeExpr) (name : ℕ) → IsUnderWay user start old built top below whole
      → type_at old.graph.table top.rest ≡ TypeApplication name no_types → IsFilled user old top.places.items (TypeApplication name no_types) (type_at old.graph.table top.number)
  begun_filled start old built top below whole name is made_is =
      let same : old.graph.table ≡ start.graph.table = is.grows.same_table in
      subst (λ (t : TypeExpr). IsFilled user old top.places.items t (type_at old.graph.table top.number)) made_is
      (subst (λ (t : List TypeExpr). IsFilled user old top.places.items (type_at t top.rest) (type_at t top.number)) (sym same) is.filled)

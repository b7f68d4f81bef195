-- What those of a conjunction's goals bind that went is bound, and the others are listed.
use Rattle.std.specs.Prelude.{◌≡◌, ◌==◌, ◌+◌, ◌&&◌, ◌||◌, ℕ, suc, Bool, true, false, List, [], ◌∷◌, ◌++◌, length, refl, if◌then◌else◌}
use Rattle.std.specs.List.{slice_index_or}
use Rattle.std.proofs.Common.{◌∙◌, ap, sym, subst, arith, eqb-true}
use Rattle.std.proofs.lemmas.List.{length-append, append_assoc, append-nil, get_or_at}
use mathlib.Core.Path.{fun_ext}
use Rattle.merc_tree.specs.declared.declarations.ModeDecl.{ModeDecl}
use Rattle.merc_goal_tree.specs.Nodes.{Node, Nodes, no_nodes, more_nodes}
use Rattle.merc_goal_tree.specs.Parts.{parts_of}
use Rattle.merc_order.specs.Bound.{Bound, with, among}
use Rattle.merc_order.specs.Marks.{Marked}
use Rattle.merc_order.specs.Order.{binds}
use Rattle.merc_goal_facts.specs.Facts.{AreKnown, subgoals, all_subgoals, AreFactsOf}
use Rattle.merc_goal_facts.specs.Bounds.{behind, all_behind}
use Rattle.merc_goal_facts.specs.declared.facts.Facts.{Facts}
use Rattle.merc_readiness.specs.Asking.{flags_of, Fits, more}
use Rattle.merc_readiness.specs.Sweeps.{Extends, AreKnownFrom, marked_bind, BindsFrom, ListsBefore, AreLeft, listed_if_left}
use Rattle.merc_readiness.specs.declared.waiting.Waiting.{Waiting}
use Rattle.merc_goal_facts.proofs.Bounds.{or_assoc, or_false, among-append}
use Rattle.merc_readiness.proofs.Marking.{known_split, known_goal, known_length, marks_length, subgoals_length, own_mark}
use Rattle.merc_readiness.proofs.Listed.{lists_first, lists_on, lists_last}

-- binding is putting behind

pub extends_same : (old : List ℕ) → Extends old old
extends_same old = ([], sym (append-nil old))

pub extends_on : (old now new : List ℕ) → Extends old now → Extends now new → Extends old new
extends_on old now new (one, e) (other, f) = (one ++ other, f ∙ ap (λ l. l ++ other) e ∙ append_assoc old one other)

behind_if : (bound : List ℕ) (variable : ℕ) (is_there : Bool) → Extends bound (if is_there then bound else bound ++ variable ∷ [])
behind_if bound variable true = extends_same bound
behind_if bound variable false = (variable ∷ [], refl)

pub extends_all : (bound more : List ℕ) → Extends bound (all_behind bound more)
extends_all bound [] = extends_same bound
extends_all bound (first ∷ rest) = extends_on bound (behind bound first) (all_behind (behind bound first) rest) (behind_if bound first (among bound first)) (extends_all (behind bound first) rest)

among_if : (bound : List ℕ) (variable other : ℕ) (is_there : Bool) → among bound variable ≡ is_there → (same : Bool) → (other == variable) ≡ same
    → among (if is_there then bound else bound ++ variable ∷ []) other ≡ (among bound other || same)
among_if bound variable other true there true same = subst (λ v. among bound v ≡ (among bound v || true)) (sym (eqb-true other variable same)) (there ∙ ap (λ b. b || true) (sym there))
among_if bound variable other true there false same = sym (or_false (among bound other))
among_if bound variable other false there b same = among-append bound (variable ∷ []) other ∙ ap (λ x. among bound other || x) (or_false (other == variable) ∙ same)

pub among_all : (bound more : List ℕ) (other : ℕ) → among (all_behind bound more) other ≡ (among bound other || among more other)
among_all bound [] other = sym (or_false (among bound other))
among_all bound (first ∷ rest) other =
    among_all (behind bound first) rest other
    ∙ ap (λ b. b || among rest other) (among_if bound first other (among bound first) refl (other == first) refl)
    ∙ or_assoc (among bound other) (other == first) (among rest other)

module _ (total : ℕ → ℕ) (modes : ℕ → List ModeDecl) where
  -- the facts of the next goal, among those of all
  pub record NextKnown (goal : Node) (rest : Nodes) (facts : List Facts) (at : ℕ) : Type 0 where
    pub front : List Facts
    pub inner : List Facts
    pub own : Facts
    pub back : List Facts
    pub at_is : length front ≡ at
    pub facts_are : facts ≡ front ++ ((inner ++ own ∷ []) ++ back)
    pub goal_known : AreKnown total modes (subgoals goal) (inner ++ own ∷ [])
    pub goal_length : length (inner ++ own ∷ []) ≡ length (parts_of goal)
    pub own_known : AreFactsOf total modes goal own
    pub others_known : AreKnownFrom total modes (all_subgoals rest) facts (at + length (parts_of goal))

  pub next_known : (goal : Node) (rest : Nodes) (facts : List Facts) (at : ℕ) → AreKnownFrom total modes (all_subgoals (more_nodes goal rest)) facts at → NextKnown goal rest facts at
  next_known goal rest facts at k =
      let cut = known_split total modes (subgoals goal) (all_subgoals rest) k.back k.known in
      let g = known_goal total modes goal cut.front cut.first_known in
      let long : length cut.front ≡ length (parts_of goal) = known_length total modes (subgoals goal) cut.front cut.first_known ∙ subgoals_length goal in
      record {
        front = k.front;
        inner = g.inner;
        own = g.own;
        back = cut.back;
        at_is = k.at_is;
        facts_are = k.facts_are ∙ ap (λ l. k.front ++ l) (cut.facts_are ∙ ap (λ l. l ++ cut.back) g.facts_are);
        goal_known = subst (λ l. AreKnown total modes (subgoals goal) l) g.facts_are cut.first_known;
        goal_length = ap length (sym g.facts_are) ∙ long;
        own_known = g.own_known;
        others_known = record {
          front = k.front ++ cut.front;
          back = cut.back;
          at_is = length-append k.front cut.front ∙ ap (λ n. n + length cut.front) k.at_is ∙ ap (λ n. at + n) long;
          facts_are = k.facts_are ∙ ap (λ l. k.front ++ l) cut.facts_are ∙ sym (append_assoc k.front cut.front cut.back);
          known = cut.rest_known;
        };
      }

  -- the goal's own facts, by their index
  pub own_facts : (goal : Node) (rest : Nodes) (facts : List Facts) (at index : ℕ) (default : Facts) (k : NextKnown goal rest facts at) → suc index ≡ at + length (parts_of goal)
      → slice_index_or facts index default ≡ k.own
  own_facts goal rest facts at index default k h =
      ap (λ l. slice_index_or l index default) (k.facts_are ∙ ap (λ l. k.front ++ l) (append_assoc k.inner (k.own ∷ []) k.back) ∙ sym (append_assoc k.front k.inner (k.own ∷ k.back)))
      ∙ get_or_at (k.front ++ k.inner) k.own k.back default index
      (let one = length-append k.front k.inner in let two = length-append k.inner (k.own ∷ []) in let three = k.at_is in let four = k.goal_length in omega arith)

  -- What is bound behind what the goal binds.
  pub bound_behind : (goal : Node) (own : Facts) (old : List ℕ) → AreFactsOf total modes goal own → among (all_behind old own.binds) ≡ with (among old) (binds total modes goal)
  bound_behind goal own old known = fun_ext (λ variable. among_all old own.binds variable ∙ ap (λ b. among old variable || b) (known.binds_are variable))

  one_more : (goal : Node) (rest : Nodes) (facts : List Facts) (flags : List Bool) (at : ℕ) (now target : Bound) (whole : Marked) (index : ℕ) (listed : List Waiting) (own : ℕ) (mark : Bool)
      (front : List Bool) (marked : Marked) → Fits (more_nodes goal rest) marked → length front ≡ at → flags ≡ front ++ flags_of marked
      → AreKnownFrom total modes (all_subgoals (more_nodes goal rest)) facts at
      → ((variable : ℕ) → target variable ≡ (now variable || marked_bind total modes (more_nodes goal rest) marked variable)) → ListsBefore whole index marked listed
      → slice_index_or flags own false ≡ mark → suc own ≡ at + length (parts_of goal)
      → BindsFrom total modes rest facts flags (at + length (parts_of goal)) (λ variable. now variable || (mark && binds total modes goal variable)) target whole (suc index)
      (listed_if_left mark (record { index = index; at = at }) listed)
  one_more goal rest facts flags at now target whole index listed own mark front marked (more g r gone inner others f o) at_is flags_are known target_is lists mark_is own_is =
      let k = next_known goal rest facts at known in
      let long : length (flags_of inner ++ gone ∷ []) ≡ length (parts_of goal) = marks_length goal inner gone f in
      let shape : flags ≡ front ++ ((flags_of inner ++ gone ∷ []) ++ flags_of others) = flags_are ∙ ap (λ l. front ++ l) (sym (append_assoc (flags_of inner) (gone ∷ []) (flags_of others))) in
      let place : length front + length (flags_of inner) ≡ own = let one = length-append (flags_of inner) (gone ∷ []) in omega arith in
      let same : gone ≡ mark = sym (own_mark front (flags_of inner) gone (flags_of others) own false place) ∙ ap (λ l. slice_index_or l own false) (sym shape) ∙ mark_is in
      record {
        front = front ++ (flags_of inner ++ gone ∷ []);
        marked = others;
        at_is = length-append front (flags_of inner ++ gone ∷ []) ∙ ap (λ n. n + length (flags_of inner ++ gone ∷ [])) at_is ∙ ap (λ n. at + n) long;
        flags_are = shape ∙ sym (append_assoc front (flags_of inner ++ gone ∷ []) (flags_of others));
        fits = o;
        known = k.others_known;
        target_is = λ variable. target_is variable
            ∙ sym (or_assoc (now variable) (gone && binds total modes goal variable) (marked_bind total modes rest others variable))
            ∙ ap (λ b. (now variable || (b && binds total modes goal variable)) || marked_bind total modes rest others variable) same;
        lists = subst (λ b. ListsBefore whole (suc index) others (listed_if_left b (record { index = index; at = at }) listed)) same (lists_on whole inner others gone index at listed lists);
      }

  -- the next goal is not marked
  pub binds_over : (goal : Node) (rest : Nodes) (facts : List Facts) (flags : List Bool) (at own : ℕ) (now target : Bound) (whole : Marked) (index : ℕ) (listed : List Waiting)
      → BindsFrom total modes (more_nodes goal rest) facts flags at now target whole index listed → slice_index_or flags own false ≡ false → suc own ≡ at + length (parts_of goal)
      → BindsFrom total modes rest facts flags (at + length (parts_of goal)) now target whole (suc index) (listed ++ record { index = index; at = at } ∷ [])
  binds_over goal rest facts flags at own now target whole index listed b mark own_is =
      subst (λ set. BindsFrom total modes rest facts flags (at + length (parts_of goal)) set target whole (suc index) (listed ++ record { index = index; at = at } ∷ []))
      (fun_ext (λ variable. or_false (now variable)))
      (one_more goal rest facts flags at now target whole index listed own false b.front b.marked b.fits b.at_is b.flags_are b.known b.target_is b.lists mark own_is)

  -- The next goal is marked, and what it binds is bound.
  pub binds_on : (goal : Node) (rest : Nodes) (facts : List Facts) (flags : List Bool) (at own : ℕ) (old : List ℕ) (target : Bound) (whole : Marked) (index : ℕ) (listed : List Waiting) (found : Facts)
      → BindsFrom total modes (more_nodes goal rest) facts flags at (among old) target whole index listed → slice_index_or flags own false ≡ true → suc own ≡ at + length (parts_of goal)
      → found ≡ slice_index_or facts own found
      → BindsFrom total modes rest facts flags (at + length (parts_of goal)) (among (all_behind old found.binds)) target whole (suc index) listed
  binds_on goal rest facts flags at own old target whole index listed found b mark own_is found_is =
      let k = next_known goal rest facts at b.known in
      let same : found ≡ k.own = found_is ∙ own_facts goal rest facts at own found k own_is in
      let set : among (all_behind old found.binds) ≡ with (among old) (binds total modes goal) = ap (λ (f : Facts). among (all_behind old f.binds)) same ∙ bound_behind goal k.own old k.own_known in
      subst (λ s. BindsFrom total modes rest facts flags (at + length (parts_of goal)) s target whole (suc index) listed) (sym set)
      (one_more goal rest facts flags at (among old) target whole index listed own true b.front b.marked b.fits b.at_is b.flags_are b.known b.target_is b.lists mark own_is)

  -- none is left
  all_bound : (now target : Bound) (marked : Marked) → Fits no_nodes marked → ((variable : ℕ) → target variable ≡ (now variable || marked_bind total modes no_nodes marked variable)) → now ≡ target
  all_bound now target marked fits target_is = fun_ext (λ variable. sym (target_is variable ∙ or_false (now variable)))

  pub bound_at_last : (facts : List Facts) (flags : List Bool) (at : ℕ) (now target : Bound) (whole : Marked) (index : ℕ) (listed : List Waiting)
      → BindsFrom total modes no_nodes facts flags at now target whole index listed → (now ≡ target) × AreLeft whole listed
  bound_at_last facts flags at now target whole index listed b = (all_bound now target b.marked b.fits b.target_is, lists_last whole b.marked index listed b.fits b.lists)

  pub bound_at_first : (goals : Nodes) (facts : List Facts) (marked : Marked) (flags : List Bool) (now : Bound) → Fits goals marked → flags ≡ flags_of marked
      → AreKnown total modes (all_subgoals goals) facts → BindsFrom total modes goals facts flags 0 now (with now (marked_bind total modes goals marked)) marked 0 []
  bound_at_first goals facts marked flags now fits same known = record {
    front = [];
    marked = marked;
    at_is = refl;
    flags_are = same;
    fits = fits;
    known = record { front = []; back = facts; at_is = refl; facts_are = refl; known = known };
    target_is = λ variable. refl;
    lists = lists_first marked;
  }

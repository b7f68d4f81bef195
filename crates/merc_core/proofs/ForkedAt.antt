-- A branch forks.
use Rattle.std.proofs.Common.{◌≡◌, ℕ, zero, suc, ◌+◌, inl, inr, List, [], ◌∷◌, ◌++◌, Some, None, refl, ap, sym, ◌∙◌, subst, arith, length, length-append, append_assoc}
use Rattle.std.proofs.lemmas.List.{append-nil}
use Rattle.std.specs.Prelude.{Option, slice_get, if◌then◌else◌}
use Rattle.merc_script.specs.declared.outcome.Outcome.{Outcome}
use Rattle.merc_script.specs.declared.items.Item.{Item}
use Rattle.merc_script.specs.Script.{Script, Children, NoChild, Child, Cell, Move, count, size, sizes}
use Rattle.merc_script.specs.Items.{items_of, items_in, script_of}
use Rattle.merc_core.specs.declared.branch.Branch.{Branch as CoreBranch}
use Rattle.merc_core.specs.World.{Branch, Listed, Spot, spot, Stored, stored_at}
use Rattle.merc_core.specs.Events.{spawned, listed_backwards}
use Rattle.merc_core.specs.Standing.{StandsAt, StandAt}
use Rattle.merc_core.specs.Forking.{past_script, past_scripts, place_or, newborn, born_from, not_stored}
use Rattle.merc_core.specs.Rights.{signals_at}
use Rattle.merc_core.specs.Given.{given}
use Rattle.merc_core.specs.Mirror.{Key, Row, same_key, Shows, ShowsPool, IsCourse, stored_for, still_made, made, made_in}
use Rattle.merc_core.proofs.Pool.{each_way}
use Rattle.merc_core.proofs.PoolShows.{key-listed, with_queue, queue-same, same-queues, put}
use Rattle.merc_core.proofs.Rooms.{still-append}
use Rattle.merc_core.proofs.Simple.{stands-within}
use Rattle.merc_core.proofs.StandingLaws.{length-items_of, behind_items}
use Rattle.merc_core.proofs.ForkParts.{born-before}

-- Lists that grow together

pub grown-together : {A B : Type 0} (Fact : ℕ → Option A → Option B → Type 0) (xs : List A) (ys : List B) (x : A) (y : B) → length xs ≡ length ys
    → ((n : ℕ) → Fact n (slice_get xs n) (slice_get ys n)) → Fact (length ys) (Some x) (Some y) → (n : ℕ) → Fact n (slice_get (xs ++ (x ∷ [])) n) (slice_get (ys ++ (y ∷ [])) n)
grown-together Fact [] [] x y long all last zero = last
grown-together Fact [] [] x y long all last (suc n) = all (suc n)
grown-together Fact (a ∷ xs) (b ∷ ys) x y long all last zero = all zero
grown-together Fact (a ∷ xs) (b ∷ ys) x y long all last (suc n) = grown-together (λ m. Fact (suc m)) xs ys x y (omega (arith, long)) (λ m. all (suc m)) last n
grown-together Fact [] (b ∷ ys) x y long all last n = absurd (omega (arith, long))
grown-together Fact (a ∷ xs) [] x y long all last n = absurd (omega (arith, long))

-- Nothing is stored for a join that is still to come

not_stored-before : (n : ℕ) (before : List (Option Outcome)) → not_stored n (None ∷ before) ≡ None ∷ not_stored n before
not_stored-before zero before = refl
not_stored-before (suc n) before = not_stored-before n (None ∷ before)

module _ (stored : List Stored) (join : ℕ) (none : (child : ℕ) → stored_at join child stored ≡ None) where
  pub none-stored : (child : ℕ) (children : Children) → not_stored (count children) [] ≡ stored_for stored join child children
  none-stored child NoChild = refl
  none-stored child (Child first more) =
      not_stored-before (count more) [] ∙ ap (λ l. None ∷ l) (none-stored (suc child) more) ∙ ap (λ o. o ∷ stored_for stored join (suc child) more) (sym (none child))

-- What the children still make

back-made : (each : ℕ → List Cell → List Move → ℕ) (v : ℕ) (b : Branch) (bs : List Branch) → still_made each (listed_backwards v (b ∷ bs)) ≡ made each b.rest + still_made each (listed_backwards v bs)
back-made each v b bs = let a = still-append each (listed_backwards v bs) (spot (Listed v) b ∷ []) in omega (arith, a)

back-length : (v : ℕ) (b : Branch) (bs : List Branch) → length (listed_backwards v (b ∷ bs)) ≡ suc (length (listed_backwards v bs))
back-length v b bs = let a = length-append (listed_backwards v bs) (spot (Listed v) b ∷ []) in omega (arith, a)

pub still-listed : (each : ℕ → List Cell → List Move → ℕ) (v join : ℕ) (b : Branch) (cells : List Cell) (moves : List Move) (child at : ℕ) (children : Children)
    → still_made each (listed_backwards v (spawned join b cells moves child at children)) ≡ made_in each children
still-listed each v join b cells moves child at NoChild = refl
still-listed each v join b cells moves child at (Child first more) =
    back-made each v _ (spawned join b cells moves (suc child) (at + size first) more) ∙ ap (λ n. made each first + n) (still-listed each v join b cells moves (suc child) (at + size first) more)

pub length-listed : (v join : ℕ) (b : Branch) (cells : List Cell) (moves : List Move) (child at : ℕ) (children : Children)
    → length (listed_backwards v (spawned join b cells moves child at children)) ≡ count children
length-listed v join b cells moves child at NoChild = refl
length-listed v join b cells moves child at (Child first more) =
    back-length v _ (spawned join b cells moves (suc child) (at + size first) more) ∙ ap suc (length-listed v join b cells moves (suc child) (at + size first) more)

-- Where children stand

pub first-stands : (items : List Item) (place : ℕ) (first : Script) (more : Children) → StandAt items place (Child first more) → StandsAt items place first
first-stands items place first more at = (items_in more ++ at.0, at.1 ∙ append_assoc (items_of first) (items_in more) at.0)

pub more-stand : (items : List Item) (place : ℕ) (first : Script) (more : Children) → StandAt items place (Child first more) → StandAt items (place + size first) more
more-stand items place first more at =
    (at.0, behind_items items (items_of first) (items_in more ++ at.0) place (size first) (length-items_of first) (at.1 ∙ append_assoc (items_of first) (items_in more) at.0))

module _ (items : List Item) (past : List ℕ) (root : Script) (course : IsCourse items past root) where
  pub past-is : (place : ℕ) (script : Script) → StandsAt items place script → past_script past place ≡ place + size script
  past-is place script stands = ap (place_or place) (course.past_each place script stands)

  pub past-all : (place : ℕ) (children : Children) → StandAt items place children → past_scripts past place (count children) ≡ place + sizes children
  past-all place NoChild at = let e : place ≡ place + 0 = omega arith in e
  past-all place (Child first more) at =
      let p = past-is place first (first-stands items place first more at) in
      let e : place + size first + sizes more ≡ place + (size first + sizes more) = omega arith in
      ap (λ n. past_scripts past n (count more)) p ∙ past-all (place + size first) more (more-stand items place first more at) ∙ e

  module _ (v join : ℕ) (b : Branch) (cells : List Cell) (moves : List Move) (gives : (child : ℕ) → given (script_of items) (b.name ++ ((b.passed, child) ∷ [])) ≡ signals_at child cells moves) (holds : ℕ → Option ℕ) where
    pub shows-newborn : (child place : ℕ) (first : Script) → StandsAt items place first
        → Shows items (newborn join child place (signals_at child cells moves)) (record {
          join = join;
          child = child;
          name = b.name ++ ((b.passed, child) ∷ []);
          passed = 0;
          at = place;
          steps = 0;
          signals = signals_at child cells moves;
          waits = Rattle.merc_core.specs.Rights.waits_at child cells moves;
          rest = first;
        })
    shows-newborn child place first stands = record {
      join = refl;
      child = refl;
      at = refl;
      steps = refl;
      signals = sym (gives child);
      left = stands;
      within = stands-within items place first stands;
      few = omega arith;
    }

    -- children behind the list of a worker, the last of them first
    pub put-children : (queues : Key → List CoreBranch) (pool : List Spot) → ShowsPool items queues holds pool → (child place : ℕ) (children : Children) → StandAt items place children
        → ShowsPool items (with_queue (Row v) (queues (Row v) ++ born_from past join cells moves child place (count children) []) queues) holds (pool ++ listed_backwards v (spawned join b cells moves child place children))
    put-children queues pool shows child place NoChild at =
        subst (λ (p : List Spot). ShowsPool items (with_queue (Row v) (queues (Row v) ++ []) queues) holds p) (sym (append-nil pool))
        (same-queues items _ _ _ _ _ (λ key. elim (each_way (same_key (Row v) key)) [
          | inl same ↦ (let e : Row v ≡ key = Rattle.merc_core.proofs.PoolShows.same-key-is (Row v) key same in
              ap queues (sym e) ∙ sym (append-nil (queues (Row v))) ∙ sym (ap (λ t. if t then queues (Row v) ++ [] else queues key) same))
          | inr apart ↦ sym (ap (λ t. if t then queues (Row v) ++ [] else queues key) apart)
        ]) (λ u. refl) shows)
    put-children queues pool shows child place (Child first more) at =
        let stands = first-stands items place first more at in
        let one = newborn join child place (signals_at child cells moves) in
        let born : List CoreBranch = born_from past join cells moves (suc child) (place + size first) (count more) [] in
        let before = listed_backwards v (spawned join b cells moves (suc child) (place + size first) more) in
        let mid = put-children queues pool shows (suc child) (place + size first) more (more-stand items place first more at) in
        let new = put items (with_queue (Row v) (queues (Row v) ++ born) queues) holds (pool ++ before) mid (Row v) (Listed v) one _ (key-listed v) (shows-newborn child place first stands) tt
        (λ single. absurd single) (λ u e. absurd (cc)) in
        let all : born_from past join cells moves child place (count (Child first more)) [] ≡ born ++ (one ∷ []) =
        ap (λ p. born_from past join cells moves (suc child) p (count more) (one ∷ [])) (past-is place first stands) ∙ born-before past join cells moves (suc child) (place + size first) (count more) (one ∷ []) in
        subst (λ (p : List Spot). ShowsPool items (with_queue (Row v) (queues (Row v) ++ born_from past join cells moves child place (count (Child first more)) []) queues) holds p) (append_assoc pool before (_ ∷ []))
        (same-queues items _ _ _ _ _ (λ key. elim (each_way (same_key (Row v) key)) [
          | inl same ↦
              ap (λ t. if t then with_queue (Row v) (queues (Row v) ++ born) queues (Row v) ++ (one ∷ []) else with_queue (Row v) (queues (Row v) ++ born) queues key) same
              ∙ ap (λ l. l ++ (one ∷ [])) (queue-same (Row v) (queues (Row v) ++ born) queues) ∙ append_assoc (queues (Row v)) born (one ∷ []) ∙ ap (λ l. queues (Row v) ++ l) (sym all)
              ∙ sym (ap (λ t. if t then queues (Row v) ++ born_from past join cells moves child place (count (Child first more)) [] else queues key) same)
          | inr apart ↦
              ap (λ t. if t then with_queue (Row v) (queues (Row v) ++ born) queues (Row v) ++ (one ∷ []) else with_queue (Row v) (queues (Row v) ++ born) queues key) apart
              ∙ ap (λ t. if t then queues (Row v) ++ born else queues key) apart
              ∙ sym (ap (λ t. if t then queues (Row v) ++ born_from past join cells moves child place (count (Child first more)) [] else queues key) apart)
        ]) (λ u. refl) new)

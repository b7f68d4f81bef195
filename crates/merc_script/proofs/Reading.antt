-- Items that are counted as scripts are those of the scripts that they stand for.
use Rattle.std.proofs.Common.{◌≡◌, ℕ, zero, suc, ◌+◌, ◌-◌, ◌≤◌, ◌<◌, Bool, true, false, List, [], ◌∷◌, ◌++◌, length, take, drop, get_or, refl, ap, sym, ◌∙◌, ◌⊎◌, arith}
use Rattle.std.specs.Prelude.{Option, Some, None, nat_lt, nat_eq, if◌then◌else◌}
use Rattle.std.proofs.lemmas.Bool.Decides.{nat_tests}
use Rattle.std.proofs.lemmas.List.{append_assoc, append-nil, length-append}
use Rattle.merc_script.specs.declared.items.Item.{Item}
use Rattle.merc_script.specs.declared.items.Fork.{Fork as ForkData}
use Rattle.merc_script.specs.declared.items.Item.TheVariants.{Tick, Wait, Signal, Fork, End}
use Rattle.merc_script.specs.Script.{Script, Ends, TickThen, WaitThen, SignalThen, ForkThen, Children, NoChild, Child, count}
use Rattle.merc_script.specs.Items.{items_of, items_in, children_of, first_of, opened, scripts_in, IsScript}
use Rattle.merc_script.specs.Counting.{unless_none, opened_count, count_opened, count_in}

abbrev pub all_items : List Script → List Item
all_items [] = []
all_items (first ∷ rest) = items_of first ++ all_items rest

all_items-append : (front back : List Script) → all_items (front ++ back) ≡ all_items front ++ all_items back
all_items-append [] back = refl
all_items-append (first ∷ rest) back = ap (λ l. items_of first ++ l) (all_items-append rest back) ∙ sym (append_assoc (items_of first) (all_items rest) (all_items back))

items_in-children_of : (scripts : List Script) → items_in (children_of scripts) ≡ all_items scripts
items_in-children_of [] = refl
items_in-children_of (first ∷ rest) = ap (λ l. items_of first ++ l) (items_in-children_of rest)

count-children_of : (scripts : List Script) → count (children_of scripts) ≡ length scripts
count-children_of [] = refl
count-children_of (first ∷ rest) = ap suc (count-children_of rest)

-- A list with more than so many has these, one more, and the rest.
pub record Cut (n : ℕ) (scripts : List Script) : Type 0 where
  pub front : List Script
  pub next : Script
  pub back : List Script
  pub whole : scripts ≡ front ++ next ∷ back
  pub long : length front ≡ n
  pub is_front : take n scripts ≡ front
  pub is_back : drop n scripts ≡ next ∷ back

cut_at : (n : ℕ) (scripts : List Script) → n < length scripts → Cut n scripts
cut_at n [] more = absurd (omega arith)
cut_at zero (first ∷ rest) more = record { front = []; next = first; back = rest; whole = refl; long = refl; is_front = refl; is_back = refl }
cut_at (suc n) (first ∷ rest) more =
    let c : Cut n rest = cut_at n rest (omega arith) in
    record { front = first ∷ c.front; next = c.next; back = c.back; whole = ap (λ l. first ∷ l) c.whole; long = ap suc c.long; is_front = ap (λ l. first ∷ l) c.is_front; is_back = c.is_back }

pub record IsRead (items : List Item) (scripts : List Script) (n : ℕ) : Type 0 where
  pub whole : all_items scripts ≡ items
  pub many : length scripts ≡ n

chosen : (b : Bool) (x : Option ℕ) (n : ℕ) → (if b then x else None) ≡ Some n → (b ≡ true) × (x ≡ Some n)
chosen true x n same = (refl, same)
chosen false x n same = absurd (cc)

chosen_not : (b : Bool) (x : Option ℕ) (n : ℕ) → (if b then None else x) ≡ Some n → (b ≡ false) × (x ≡ Some n)
chosen_not true x n same = absurd (cc)
chosen_not false x n same = (refl, same)

less : (a b : ℕ) → nat_lt a b ≡ true → a < b
less a b test = grind (arith, nat_tests)

not_none : (m n : ℕ) → unless_none m ≡ Some n → m ≡ n
not_none m n same = let e = (chosen_not (nat_eq m 0) (Some m) n same).1 in cc (e)

some_there : (m n : ℕ) → unless_none m ≡ Some n → 0 < m
some_there m n same = let e : nat_eq m 0 ≡ false = (chosen_not (nat_eq m 0) (Some m) n same).0 in grind (arith, nat_tests)

before_one : (item : Item) (items : List Item) (scripts : List Script) (m n : ℕ) → IsRead items scripts m → unless_none m ≡ Some n
    → ((first : Script) (rest : List Script) → all_items (opened item (first ∷ rest)) ≡ item ∷ all_items (first ∷ rest))
    → ((first : Script) (rest : List Script) → length (opened item (first ∷ rest)) ≡ suc (length rest))
    → IsRead (item ∷ items) (opened item scripts) n
before_one item items [] m n read some put long = absurd (omega (arith, some_there m n some, read.many))
before_one item items (first ∷ rest) m n read some put long = record {
  whole = put first rest ∙ ap (λ l. item ∷ l) read.whole;
  many = long first rest ∙ read.many ∙ not_none m n some;
}

before_fork : (fork : ForkData) (items : List Item) (scripts : List Script) (m n : ℕ) → IsRead items scripts m → fork.children < m → n ≡ m - fork.children
    → IsRead (Fork fork ∷ items) (opened (Fork fork) scripts) n
before_fork fork items scripts m n read more same =
    let c : Cut fork.children scripts = cut_at fork.children scripts (omega (arith, read.many)) in
    let back : opened (Fork fork) scripts ≡ ForkThen fork.limit fork.cells fork.moves (children_of c.front) c.next ∷ c.back =
    ap (λ l. ForkThen fork.limit fork.cells fork.moves (children_of l) (first_of (drop fork.children scripts)) ∷ drop 1 (drop fork.children scripts)) c.is_front
    ∙ ap (λ l. ForkThen fork.limit fork.cells fork.moves (children_of c.front) (first_of l) ∷ drop 1 l) c.is_back in
    let counted : count (children_of c.front) ≡ fork.children = count-children_of c.front ∙ c.long in
    let tail : (items_in (children_of c.front) ++ items_of c.next) ++ all_items c.back ≡ items =
    append_assoc (items_in (children_of c.front)) (items_of c.next) (all_items c.back)
    ∙ ap (λ l. l ++ (items_of c.next ++ all_items c.back)) (items_in-children_of c.front)
    ∙ sym (all_items-append c.front (c.next ∷ c.back)) ∙ ap all_items (sym c.whole) ∙ read.whole in
    record {
      whole = ap all_items back ∙ ap (λ k. Fork (record { limit = fork.limit; children = k; cells = fork.cells; moves = fork.moves })
          ∷ ((items_in (children_of c.front) ++ items_of c.next) ++ all_items c.back)) counted ∙ ap (λ l. Fork fork ∷ l) tail;
      many = ap length back ∙ (let e : length scripts ≡ length c.front + suc (length c.back) = ap length c.whole ∙ length-append c.front (c.next ∷ c.back) in
          omega (arith, e, c.long, read.many, same));
    }

read_more : (item : Item) (items : List Item) (m n : ℕ) → IsRead items (scripts_in items) m → opened_count item m ≡ Some n
    → IsRead (item ∷ items) (opened item (scripts_in items)) n
read_more (End end) items m n read some = record { whole = ap (λ l. End end ∷ l) read.whole; many = ap suc read.many ∙ (let e : m + 1 ≡ n = cc in omega (arith, e)) }
read_more Tick items m n read some = before_one Tick items (scripts_in items) m n read some (λ first rest. refl) (λ first rest. refl)
read_more (Wait cell) items m n read some = before_one (Wait cell) items (scripts_in items) m n read some (λ first rest. refl) (λ first rest. refl)
read_more (Signal cell) items m n read some = before_one (Signal cell) items (scripts_in items) m n read some (λ first rest. refl) (λ first rest. refl)
read_more (Fork fork) items m n read some =
    let e = chosen (nat_lt fork.children m) (Some (m - fork.children)) n some in
    before_fork fork items (scripts_in items) m n read (less fork.children m e.0) (cc (e.1))

read_opened : (item : Item) (items : List Item) (o : Option ℕ) (n : ℕ) → ((m : ℕ) → o ≡ Some m → IsRead items (scripts_in items) m)
    → count_opened item o ≡ Some n → IsRead (item ∷ items) (opened item (scripts_in items)) n
read_opened item items None n read some = absurd (cc)
read_opened item items (Some m) n read some = read_more item items m n (read m refl) some

pub is_read : (items : List Item) (n : ℕ) → count_in items ≡ Some n → IsRead items (scripts_in items) n
is_read [] n some = record { whole = refl; many = cc }
is_read (item ∷ items) n some = read_opened item items (count_in items) n (λ m same. is_read items m same) some

one_script : (items : List Item) (scripts : List Script) → IsRead items scripts 1 → items_of (first_of scripts) ≡ items
one_script items [] read = absurd (cc (read.many))
one_script items (first ∷ []) read = sym (append-nil (items_of first)) ∙ read.whole
one_script items (first ∷ next ∷ rest) read = absurd (cc (read.many))

-- items that are counted as one script are one
pub is_script : (items : List Item) → count_in items ≡ Some 1 → IsScript items
is_script items one = one_script items (scripts_in items) (is_read items 1 one)

-- the items of a script count as one more
lesser : (a b : ℕ) → nat_lt a (a + suc b) ≡ true
lesser a b = grind (arith, nat_tests)

unless_suc : (n : ℕ) → unless_none (suc n) ≡ Some (suc n)
unless_suc n = let e : nat_eq (suc n) 0 ≡ false = grind (arith, nat_tests) in ap (λ b. if b then None else Some (suc n)) e

fork_counted : (a b : ℕ) → (if nat_lt a (a + suc b) then Some ((a + suc b) - a) else None) ≡ Some (suc b)
fork_counted a b =
    ap (λ t. if t then Some ((a + suc b) - a) else None) (lesser a b)
    ∙ (let e : (a + suc b) - a ≡ suc b = omega arith in ap (λ k. Some k) e)

mutual
  pub counted : (script : Script) (behind : List Item) (n : ℕ) → count_in behind ≡ Some n → count_in (items_of script ++ behind) ≡ Some (suc n)
  counted (Ends end) behind n same = ap (count_opened (End end)) same ∙ (let e : n + 1 ≡ suc n = omega arith in ap (λ k. Some k) e)
  counted (TickThen rest) behind n same = ap (count_opened Tick) (counted rest behind n same) ∙ unless_suc n
  counted (WaitThen cell rest) behind n same = ap (count_opened (Wait cell)) (counted rest behind n same) ∙ unless_suc n
  counted (SignalThen cell rest) behind n same = ap (count_opened (Signal cell)) (counted rest behind n same) ∙ unless_suc n
  counted (ForkThen limit cells moves children rest) behind n same =
      let fork = Fork (record { limit = limit; children = count children; cells = cells; moves = moves }) in
      ap (λ l. count_opened fork (count_in l)) (append_assoc (items_in children) (items_of rest) behind)
      ∙ ap (count_opened fork) (all_counted children (items_of rest ++ behind) (suc n) (counted rest behind n same))
      ∙ fork_counted (count children) n

  pub all_counted : (children : Children) (behind : List Item) (n : ℕ) → count_in behind ≡ Some n → count_in (items_in children ++ behind) ≡ Some (count children + n)
  all_counted NoChild behind n same = same ∙ (let e : n ≡ 0 + n = omega arith in ap (λ k. Some k) e)
  all_counted (Child first others) behind n same =
      ap count_in (append_assoc (items_of first) (items_in others) behind)
      ∙ counted first (items_in others ++ behind) (count others + n) (all_counted others behind n same)
      ∙ (let e : suc (count others + n) ≡ suc (count others) + n = omega arith in ap (λ k. Some k) e)

pub one_counted : (script : Script) (items : List Item) → items_of script ≡ items → count_in items ≡ Some 1
one_counted script items same = ap count_in (sym same ∙ sym (append-nil (items_of script))) ∙ counted script [] 0 refl

-- where the back is not scripts, the whole is not
pub none_counted : (front back : List Item) → count_in back ≡ None → count_in (front ++ back) ≡ None
none_counted [] back none = none
none_counted (item ∷ front) back none = ap (count_opened item) (none_counted front back none)

-- a list is its front and its last
pub front_and_last : (n : ℕ) (items : List Item) (item : Item) → length items ≡ suc n → item ≡ get_or items n item → take n items ++ item ∷ [] ≡ items
front_and_last n [] item long same = absurd (omega (arith, long))
front_and_last zero (first ∷ []) item long same = ap (λ i. i ∷ []) same
front_and_last zero (first ∷ next ∷ rest) item long same = absurd (omega (arith, long))
front_and_last (suc n) (first ∷ rest) item long same = ap (λ l. first ∷ l) (front_and_last n rest item (omega (arith, long)) same)

-- where an item cannot be read before the scripts behind it, the whole is not scripts
pub none_read : (n : ℕ) (rest read items : List Item) (item : Item) (count : ℕ) → length rest ≡ suc n → item ≡ get_or rest n item → rest ++ read ≡ items
    → count_in read ≡ Some count → None ≡ opened_count item count → None ≡ count_in items
none_read n rest read items item count long same whole some none =
    let back : count_in (item ∷ read) ≡ None = ap (count_opened item) some ∙ sym none in
    let e : take n rest ++ item ∷ read ≡ items = sym (append_assoc (take n rest) (item ∷ []) read) ∙ ap (λ l. l ++ read) (front_and_last n rest item long same) ∙ whole in
    sym (ap count_in (sym e) ∙ none_counted (take n rest) (item ∷ read) back)

-- A conjunct has as many rights to signal a variable as it signals it.
use Rattle.std.proofs.Common.{◌≡◌, ◌⊎◌, inl, inr, ℕ, suc, ◌+◌, ◌<◌, Bool, true, false, ◌==◌, ◌&&◌, if◌then◌else◌, List, [], ◌∷◌, ◌++◌, length, map, filter, flat_map, Option, Some, None, refl, ap, sym, subst, ◌∙◌, arith}
use Rattle.merc_graded_tree.specs.Nodes.{Node, Nodes, no_nodes, more_nodes, outputs_of}
use Rattle.merc_core.specs.Rights.{has}
use Rattle.merc_core.specs.WellFormed.{AreDistinct}
use Rattle.merc_rights.specs.declared.sites.CellInfo.{CellInfo}
use Rattle.merc_rights.specs.declared.sites.Moved.{Moved}
use Rattle.merc_rights.specs.declared.sites.SiteInfo.{SiteInfo}
use Rattle.merc_rights.specs.Rights.{Right, right_to, those, is_sooner, with_right, with_rights, signals_of}
use Rattle.merc_par_split.specs.Sites.{consumers, cells_of, are_for}
use Rattle.merc_plan.specs.Branch.{HeldSignal, Hold, NamedCell, Gift}
use Rattle.merc_plan.specs.Hold.{named, own_signals, child_for, goes_to, signals_into, conjunct_hold}
use Rattle.merc_plan.proofs.Sets.{clash, tell, same_number, is_same}
use Rattle.merc_script_laws.proofs.Bonds.{signs, rights_for}
use Rattle.merc_script_laws.proofs.Members.{Member, passing, made_from, joined_from, member_has, filter_both, filter_none, filter_all, filter_joined_one, length_both, length_map}
use Rattle.merc_script_laws.proofs.Cells.{same_variables}
use Rattle.merc_script_laws.proofs.Sites.{cell_for, cells_for}
use Rattle.merc_script_laws.proofs.SiteMoves.{right_of}

not_equal : (x y : ℕ) → (x ≡ y → ⊥) → (x == y) ≡ false
not_equal x y n = on (tell (x == y)) where
  on : ((x == y) ≡ true) ⊎ ((x == y) ≡ false) → (x == y) ≡ false
  on (inl e) = absurd (n (same_number x y e))
  on (inr e) = e

-- Rights in their order.

head_case : (x : ℕ) (b : Bool) (r : Right) (rs ss : List Right) → length (rights_for x rs) ≡ length (rights_for x ss) → length (if b then r ∷ rights_for x rs else rights_for x rs) ≡ length (if b then r ∷ rights_for x ss else rights_for x ss)
head_case x true r rs ss h = ap suc h
head_case x false r rs ss h = h

swap_case : (x : ℕ) (a b : Bool) (r q : Right) (rs : List Right)
    → length (if b then q ∷ (if a then r ∷ rights_for x rs else rights_for x rs) else (if a then r ∷ rights_for x rs else rights_for x rs))
    ≡ length (if a then r ∷ (if b then q ∷ rights_for x rs else rights_for x rs) else (if b then q ∷ rights_for x rs else rights_for x rs))
swap_case x true true r q rs = refl
swap_case x true false r q rs = refl
swap_case x false true r q rs = refl
swap_case x false false r q rs = refl

place_case : (x : ℕ) (b : Bool) (r q : Right) (rs : List Right) → length (rights_for x (with_right r rs)) ≡ length (rights_for x (r ∷ rs))
    → length (rights_for x (if b then r ∷ q ∷ rs else q ∷ with_right r rs)) ≡ length (rights_for x (r ∷ q ∷ rs))
place_case x true r q rs h = refl
place_case x false r q rs h = head_case x (q.variable == x) q (with_right r rs) (r ∷ rs) h ∙ swap_case x (r.variable == x) (q.variable == x) r q rs

pub one_more : (x : ℕ) (r : Right) (rs : List Right) → length (rights_for x (with_right r rs)) ≡ length (rights_for x (r ∷ rs))
one_more x r [] = refl
one_more x r (q ∷ rs) = place_case x (is_sooner r.conjunct q.conjunct) r q rs (one_more x r rs)

sum_case : (x : ℕ) (b : Bool) (r : Right) (rs ss : List Right) → length (rights_for x rs) + length (if b then r ∷ rights_for x ss else rights_for x ss) ≡ length (if b then r ∷ rights_for x rs else rights_for x rs) + length (rights_for x ss)
sum_case x true r rs ss = omega (arith)
sum_case x false r rs ss = refl

pub both_counted : (x : ℕ) (rs ss : List Right) → length (rights_for x (with_rights rs ss)) ≡ length (rights_for x rs) + length (rights_for x ss)
both_counted x [] ss = omega (arith)
both_counted x (r ∷ rs) ss = both_counted x rs (with_right r ss) ∙ ap (λ n. length (rights_for x rs) + n) (one_more x r ss) ∙ sum_case x (r.variable == x) r rs ss

-- members
placed_case : (b : Bool) (a r q : Right) (rs : List Right) → Member a (if b then r ∷ q ∷ rs else q ∷ with_right r rs) → (Member a (with_right r rs) → (a ≡ r) ⊎ Member a rs) → (a ≡ r) ⊎ Member a (q ∷ rs)
placed_case true a r q rs (inl e) rec = inl e
placed_case true a r q rs (inr h) rec = inr h
placed_case false a r q rs (inl e) rec = inr (inl e)
placed_case false a r q rs (inr h) rec = on (rec h) where
  on : (a ≡ r) ⊎ Member a rs → (a ≡ r) ⊎ Member a (q ∷ rs)
  on (inl e) = inl e
  on (inr k) = inr (inr k)

placed_member : (a r : Right) (rs : List Right) → Member a (with_right r rs) → (a ≡ r) ⊎ Member a rs
placed_member a r [] (inl e) = inl e
placed_member a r [] (inr h) = absurd h
placed_member a r (q ∷ rs) h = placed_case (is_sooner r.conjunct q.conjunct) a r q rs h (λ k. placed_member a r rs k)

pub placed_members : (a : Right) (rs ss : List Right) → Member a (with_rights rs ss) → Member a rs ⊎ Member a ss
placed_members a [] ss h = inr h
placed_members a (r ∷ rs) ss h = on (placed_members a rs (with_right r ss) h) where
  on : Member a rs ⊎ Member a (with_right r ss) → Member a (r ∷ rs) ⊎ Member a ss
  on (inl k) = inl (inr k)
  on (inr k) = front (placed_member a r ss k) where
    front : (a ≡ r) ⊎ Member a ss → Member a (r ∷ rs) ⊎ Member a ss
    front (inl e) = inl (inl e)
    front (inr m) = inr m

-- The rights to signal a variable that a conjunct binds.

pub signal_variable : (next : ℕ) (rest : Nodes) (outputs : List ℕ) (moved : List Right) (x : ℕ) (r : Right) → Member r (signals_of next rest outputs moved x) → r.variable ≡ x
signal_variable next rest outputs moved x r h =
    on (placed_members r (those (λ other. other == x) moved) (map (λ conjunct. right_to conjunct x) (consumers next rest outputs x)) h) where
      on : Member r (those (λ other. other == x) moved) ⊎ Member r (map (λ conjunct. right_to conjunct x) (consumers next rest outputs x)) → r.variable ≡ x
      on (inl k) = same_number r.variable x (passing (λ (right : Right). right.variable == x) r moved k).1
      on (inr k) = let q = made_from (λ conjunct. right_to conjunct x) r (consumers next rest outputs x) k in ap (λ (z : Right). z.variable) q.1.1

abbrev pub all_signals : ℕ → Nodes → List ℕ → List Right → Node → List Right
all_signals next rest outputs moved n = flat_map (signals_of next rest outputs moved) (outputs_of n)

pub signals_within : (next : ℕ) (rest : Nodes) (outputs : List ℕ) (moved : List Right) (n : Node) (x : ℕ) → are_for (all_signals next rest outputs moved n) x ≡ true → has x (outputs_of n) ≡ true
signals_within next rest outputs moved n x h =
    let r = right_of (all_signals next rest outputs moved n) x h in
    let q = joined_from (signals_of next rest outputs moved) r.0 (outputs_of n) r.1.0 in
    subst (λ z. has z (outputs_of n) ≡ true) (sym (signal_variable next rest outputs moved q.0 r.0 q.1.1) ∙ r.1.1) (member_has q.0 (outputs_of n) q.1.0)

own_rights : (x : ℕ) (cs : List ℕ) → length (rights_for x (map (λ conjunct. right_to conjunct x) cs)) ≡ length cs
own_rights x cs =
    ap length (filter_all (λ (right : Right). right.variable == x) (map (λ conjunct. right_to conjunct x) cs)
    (λ r m. let q = made_from (λ conjunct. right_to conjunct x) r cs m in subst (λ z. (z == x) ≡ true) (ap (λ (z : Right). z.variable) (sym q.1.1)) (is_same x)))
    ∙ length_map (λ conjunct. right_to conjunct x) cs

pub signals_counted : (next : ℕ) (rest : Nodes) (outputs : List ℕ) (moved : List Right) (n : Node) (x : ℕ) → AreDistinct (outputs_of n) → has x (outputs_of n) ≡ true
    → length (rights_for x (all_signals next rest outputs moved n)) ≡ length (rights_for x moved) + length (consumers next rest outputs x)
signals_counted next rest outputs moved n x d h =
    ap length (filter_joined_one (λ (right : Right). right.variable == x) (signals_of next rest outputs moved) x (outputs_of n) d h
    (λ y e. filter_none (λ (right : Right). right.variable == x) (signals_of next rest outputs moved y) (λ r m. not_equal r.variable x (λ q. e (sym q ∙ signal_variable next rest outputs moved y r m)))))
    ∙ both_counted x (those (λ other. other == x) moved) (map (λ conjunct. right_to conjunct x) (consumers next rest outputs x))
    ∙ ap (λ m. m + length (rights_for x (map (λ conjunct. right_to conjunct x) (consumers next rest outputs x))))
    (ap length (filter_all (λ (right : Right). right.variable == x) (rights_for x moved) (λ r m. (passing (λ (right : Right). right.variable == x) r moved m).1)))
    ∙ ap (λ m. length (rights_for x moved) + m) (own_rights x (consumers next rest outputs x))

-- Own cells that a conjunct has for a variable.

abbrev pub owned : ℕ → ℕ → List CellInfo → ℕ
owned k x infos = length (filter (λ (z : CellInfo). (z.producer == k) && (z.variable == x)) infos)

not_both : (a b : Bool) → b ≡ false → (a && b) ≡ false
not_both true b h = h
not_both false b h = refl

not_first : (a b : Bool) → a ≡ false → (a && b) ≡ false
not_first true b h = absurd (cc)
not_first false b h = refl

are_both : (a b : Bool) → a ≡ true → b ≡ true → (a && b) ≡ true
are_both true b h k = k
are_both false b h k = absurd (cc)

later_cells : (at j x : ℕ) (outputs : List ℕ) (n : Node) (ns : Nodes) → (at == j) ≡ false → filter (λ (z : CellInfo). (z.producer == j) && (z.variable == x)) (flat_map (cells_for at outputs ns) (outputs_of n)) ≡ []
later_cells at j x outputs n ns e = filter_none (λ (z : CellInfo). (z.producer == j) && (z.variable == x)) (flat_map (cells_for at outputs ns) (outputs_of n)) (λ z m.
    let r = joined_from (cells_for at outputs ns) z (outputs_of n) m in
    let q = made_from (λ consumer. cell_for r.0 at consumer) z (consumers (suc at) ns outputs r.0) r.1.1 in
    not_first (z.producer == j) (z.variable == x) (ap (λ (c : CellInfo). c.producer == j) q.1.1 ∙ e))

pub owned_later : (at j x : ℕ) (outputs : List ℕ) (n : Node) (ns : Nodes) → at < j → owned j x (cells_of at outputs (more_nodes n ns)) ≡ owned j x (cells_of (suc at) outputs ns)
owned_later at j x outputs n ns l =
    ap length (filter_both (λ (z : CellInfo). (z.producer == j) && (z.variable == x)) (flat_map (cells_for at outputs ns) (outputs_of n)) (cells_of (suc at) outputs ns))
    ∙ ap (λ (f : List CellInfo). length (f ++ filter (λ (z : CellInfo). (z.producer == j) && (z.variable == x)) (cells_of (suc at) outputs ns)))
    (later_cells at j x outputs n ns (not_equal at j (λ e. absurd (omega (arith, e, l)))))

own_cells : (at x : ℕ) (outputs : List ℕ) (ns : Nodes) → length (filter (λ (z : CellInfo). (z.producer == at) && (z.variable == x)) (cells_for at outputs ns x)) ≡ length (consumers (suc at) ns outputs x)
own_cells at x outputs ns =
    ap length (filter_all (λ (z : CellInfo). (z.producer == at) && (z.variable == x)) (cells_for at outputs ns x) (λ z m.
    let q = made_from (λ consumer. cell_for x at consumer) z (consumers (suc at) ns outputs x) m in
    are_both (z.producer == at) (z.variable == x) (subst (λ (c : CellInfo). (c.producer == at) ≡ true) (sym q.1.1) (is_same at)) (subst (λ (c : CellInfo). (c.variable == x) ≡ true) (sym q.1.1) (is_same x))))
    ∙ length_map (λ consumer. cell_for x at consumer) (consumers (suc at) ns outputs x)

none_behind : (at x : ℕ) (outputs : List ℕ) (ns : Nodes) (next : ℕ) → at < next → filter (λ (z : CellInfo). (z.producer == at) && (z.variable == x)) (cells_of next outputs ns) ≡ []
none_behind at x outputs no_nodes next l = refl
none_behind at x outputs (more_nodes n ns) next l =
    filter_both (λ (z : CellInfo). (z.producer == at) && (z.variable == x)) (flat_map (cells_for next outputs ns) (outputs_of n)) (cells_of (suc next) outputs ns)
    ∙ ap (λ (f : List CellInfo). f ++ filter (λ (z : CellInfo). (z.producer == at) && (z.variable == x)) (cells_of (suc next) outputs ns))
    (later_cells next at x outputs n ns (not_equal next at (λ e. absurd (omega (arith, e, l)))))
    ∙ none_behind at x outputs ns (suc next) (omega (arith, l))

nothing_behind : (xs : List CellInfo) → xs ++ [] ≡ xs
nothing_behind [] = refl
nothing_behind (x ∷ xs) = ap (λ l. x ∷ l) (nothing_behind xs)

pub owned_here : (at x : ℕ) (outputs : List ℕ) (n : Node) (ns : Nodes) → AreDistinct (outputs_of n) → has x (outputs_of n) ≡ true → owned at x (cells_of at outputs (more_nodes n ns)) ≡ length (consumers (suc at) ns outputs x)
owned_here at x outputs n ns d h =
    ap length (filter_both (λ (z : CellInfo). (z.producer == at) && (z.variable == x)) (flat_map (cells_for at outputs ns) (outputs_of n)) (cells_of (suc at) outputs ns)
    ∙ ap (λ (f : List CellInfo). filter (λ (z : CellInfo). (z.producer == at) && (z.variable == x)) (flat_map (cells_for at outputs ns) (outputs_of n)) ++ f) (none_behind at x outputs ns (suc at) (omega (arith)))
    ∙ nothing_behind (filter (λ (z : CellInfo). (z.producer == at) && (z.variable == x)) (flat_map (cells_for at outputs ns) (outputs_of n)))
    ∙ filter_joined_one (λ (z : CellInfo). (z.producer == at) && (z.variable == x)) (cells_for at outputs ns) x (outputs_of n) d h (λ y e.
    filter_none (λ (z : CellInfo). (z.producer == at) && (z.variable == x)) (cells_for at outputs ns y) (λ z m.
    let q = made_from (λ consumer. cell_for y at consumer) z (consumers (suc at) ns outputs y) m in
    not_both (z.producer == at) (z.variable == x) (ap (λ (c : CellInfo). c.variable == x) q.1.1 ∙ not_equal y x (λ p. e (sym p))))))
    ∙ own_cells at x outputs ns

-- The rights of a conjunct to signal a variable.

passed_case : {A : Type 0} (p q : A → Bool) (x : A) (xs : List A) (a b : Bool) → q x ≡ a → p x ≡ b → filter p (filter q xs) ≡ filter (λ z. q z && p z) xs
    → filter p (if a then x ∷ filter q xs else filter q xs) ≡ (if (a && b) then x ∷ filter (λ z. q z && p z) xs else filter (λ z. q z && p z) xs)
passed_case p q x xs true true e f h = ap (λ (b : Bool). if b then x ∷ filter p (filter q xs) else filter p (filter q xs)) f ∙ ap (λ l. x ∷ l) h
passed_case p q x xs true false e f h = ap (λ (b : Bool). if b then x ∷ filter p (filter q xs) else filter p (filter q xs)) f ∙ h
passed_case p q x xs false b e f h = h

pub filter_twice : {A : Type 0} (p q : A → Bool) (xs : List A) → filter p (filter q xs) ≡ filter (λ z. q z && p z) xs
filter_twice p q [] = refl
filter_twice p q (x ∷ xs) = passed_case p q x xs (q x) (p x) refl refl (filter_twice p q xs)

map_case : {A B : Type 0} (p : B → Bool) (f : A → B) (x : A) (xs : List A) (b : Bool) → filter p (map f xs) ≡ map f (filter (λ z. p (f z)) xs)
    → (if b then f x ∷ filter p (map f xs) else filter p (map f xs)) ≡ map f (if b then x ∷ filter (λ z. p (f z)) xs else filter (λ z. p (f z)) xs)
map_case p f x xs true h = ap (λ l. f x ∷ l) h
map_case p f x xs false h = h

pub filter_map : {A B : Type 0} (p : B → Bool) (f : A → B) (xs : List A) → filter p (map f xs) ≡ map f (filter (λ z. p (f z)) xs)
filter_map p f [] = refl
filter_map p f (x ∷ xs) = map_case p f x xs (p (f x)) (filter_map p f xs)

abbrev signal_of : NamedCell → HeldSignal
signal_of one = record { variable = one.variable; conjunct = one.consumer; cell = one.cell }

own_counted : (k x next : ℕ) (infos : List CellInfo) → length (filter (λ (right : HeldSignal). right.variable == x) (own_signals k (named next infos))) ≡ owned k x infos
own_counted k x next infos =
    ap length (filter_map (λ (right : HeldSignal). right.variable == x) signal_of (filter (λ (one : NamedCell). one.producer == k) (named next infos)))
    ∙ length_map signal_of (filter (λ (one : NamedCell). one.variable == x) (filter (λ (one : NamedCell). one.producer == k) (named next infos)))
    ∙ ap length (filter_twice (λ (one : NamedCell). one.variable == x) (λ (one : NamedCell). one.producer == k) (named next infos))
    ∙ sym (length_map (λ (one : NamedCell). one.variable) (filter (λ (one : NamedCell). (one.producer == k) && (one.variable == x)) (named next infos)))
    ∙ ap length (same_variables (λ v p c. (p == k) && (v == x)) next infos)
    ∙ length_map (λ (z : CellInfo). z.variable) (filter (λ (z : CellInfo). (z.producer == k) && (z.variable == x)) infos)

into_counted : (k x : ℕ) (moves : List Moved) (signals : List HeldSignal) → child_for true x moves ≡ Some k
    → filter (λ (right : HeldSignal). right.variable == x) (signals_into k moves signals) ≡ filter (λ (right : HeldSignal). right.variable == x) signals
into_counted k x moves [] e = refl
into_counted k x moves (r ∷ signals) e = on (tell (r.variable == x)) (into_counted k x moves signals e) where
  rest : List HeldSignal
  rest = signals_into k moves signals

  p : HeldSignal → Bool
  p right = right.variable == x

  case_in : (a b : Bool) → a ≡ true → b ≡ true → filter p rest ≡ filter p signals → (if a then r ∷ filter p signals else filter p signals) ≡ (if b then r ∷ filter p rest else filter p rest)
  case_in true true h i q = ap (λ l. r ∷ l) (sym q)
  case_in true false h i q = absurd (cc)
  case_in false b h i q = absurd (cc)

  keeps : (a : Bool) → a ≡ true → filter p rest ≡ filter p signals → (r.variable == x) ≡ true → filter p (if a then r ∷ rest else rest) ≡ filter p (r ∷ signals)
  keeps true h q i = sym (case_in (r.variable == x) (r.variable == x) i i q)
  keeps false h q i = absurd (cc)

  drops : (a b : Bool) → b ≡ false → filter p rest ≡ filter p signals → (b ≡ (r.variable == x)) → filter p (if a then r ∷ rest else rest) ≡ (if b then r ∷ filter p signals else filter p signals)
  drops true true h q i = absurd (cc)
  drops true false h q i = ap (λ (b : Bool). if b then r ∷ filter p rest else filter p rest) (sym i) ∙ q
  drops false true h q i = absurd (cc)
  drops false false h q i = q

  on : ((r.variable == x) ≡ true) ⊎ ((r.variable == x) ≡ false) → filter p rest ≡ filter p signals → filter p (signals_into k moves (r ∷ signals)) ≡ filter p (r ∷ signals)
  on (inl h) q = keeps (goes_to k (child_for true r.variable moves)) (subst (λ z. goes_to k (child_for true z moves) ≡ true) (sym (same_number r.variable x h)) (subst (λ z. goes_to k z ≡ true) (sym e) (is_same k))) q h
  on (inr h) q = drops (goes_to k (child_for true r.variable moves)) (r.variable == x) h q refl

not_goes : (k : ℕ) (o : Option ℕ) → o ≡ None → goes_to k o ≡ false
not_goes k o e = ap (goes_to k) e

none_into : (k x : ℕ) (moves : List Moved) (signals : List HeldSignal) → child_for true x moves ≡ None → filter (λ (right : HeldSignal). right.variable == x) (signals_into k moves signals) ≡ []
none_into k x moves signals e =
    filter_none (λ (right : HeldSignal). right.variable == x) (signals_into k moves signals) (λ r m.
    not_equal r.variable x (λ q. clash (goes_to k (child_for true r.variable moves)) (passing (λ (right : HeldSignal). goes_to k (child_for true right.variable moves)) r signals m).1
    (not_goes k (child_for true r.variable moves) (subst (λ z. child_for true z moves ≡ None) (sym q) e))))

module _ (info : SiteInfo) (k : ℕ) (goal : Node) (hold : Hold) (given : List Gift) (x : ℕ) where
  signs_parts : length (signs x (conjunct_hold info k goal hold given)) ≡ owned k x info.cells + length (filter (λ (right : HeldSignal). right.variable == x) (signals_into k info.moves hold.signals))
  signs_parts =
      length_map (λ (right : HeldSignal). right.cell) (filter (λ (right : HeldSignal). right.variable == x) (own_signals k (named hold.next info.cells) ++ signals_into k info.moves hold.signals))
      ∙ ap length (filter_both (λ (right : HeldSignal). right.variable == x) (own_signals k (named hold.next info.cells)) (signals_into k info.moves hold.signals))
      ∙ length_both (filter (λ (right : HeldSignal). right.variable == x) (own_signals k (named hold.next info.cells))) (filter (λ (right : HeldSignal). right.variable == x) (signals_into k info.moves hold.signals))
      ∙ ap (λ m. m + length (filter (λ (right : HeldSignal). right.variable == x) (signals_into k info.moves hold.signals))) (own_counted k x hold.next info.cells)

  pub signs_moved : child_for true x info.moves ≡ Some k → length (signs x (conjunct_hold info k goal hold given)) ≡ owned k x info.cells + length (signs x hold)
  signs_moved e =
      signs_parts
      ∙ ap (λ (l : List HeldSignal). owned k x info.cells + length l) (into_counted k x info.moves hold.signals e)
      ∙ ap (λ m. owned k x info.cells + m) (sym (length_map (λ (right : HeldSignal). right.cell) (filter (λ (right : HeldSignal). right.variable == x) hold.signals)))

  pub signs_own : child_for true x info.moves ≡ None → length (signs x (conjunct_hold info k goal hold given)) ≡ owned k x info.cells + 0
  signs_own e = signs_parts ∙ ap (λ (l : List HeldSignal). owned k x info.cells + length l) (none_into k x info.moves hold.signals e)

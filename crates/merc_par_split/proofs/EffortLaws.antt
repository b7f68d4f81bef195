-- Tasks that are left have enough goals, give less to do, and lie where they say.
use Rattle.std.specs.Prelude.{◌≡◌, ◌≤◌, ◌+◌, ◌-◌, ◌*◌, ℕ, zero, suc, List, [], ◌∷◌, ◌++◌, length, refl}
use Rattle.std.proofs.Common.{◌∙◌, ap, sym, subst, arith}
use Rattle.std.proofs.lemmas.List.{append_assoc, length-append}
use Rattle.merc_graded_tree.specs.declared.entries.Label.{Label}
use Rattle.merc_graded_tree.specs.declared.entries.Root.{Root}
use Rattle.merc_graded_tree.specs.Nodes.{Node, node, goal_of, Nodes, no_nodes, more_nodes, Arms, no_arms, more_arms, list_of}
use Rattle.merc_graded_tree.specs.Roots.{arity_of, bodies_of, label_of}
use Rattle.merc_graded_tree.specs.Labels.{labels_of, inner_labels, joined_labels, arm_labels, all_labels}
use Rattle.merc_rights.specs.Rights.{Right}
use Rattle.merc_rights.specs.Rows.{row_of}
use Rattle.merc_par_split.specs.Tasks.{HaveEnough, effort, total, AllLie, Share, shares_of, wraps, passing, member_tasks, closed, framed}
use Rattle.merc_rights.specs.Places.{Lies}
use Rattle.merc_rights.specs.declared.rights.Awaited.{Awaited}
use Rattle.merc_par_split.specs.declared.tasks.Task.{Task}

-- from so many goals tasks lead to so many
abbrev pub Goes : ℕ → List Task → ℕ → Type 0
Goes count tasks then = (rest : List Task) → HaveEnough then rest → HaveEnough count (tasks ++ rest)

pub goes-append : (count middle then : ℕ) (one other : List Task) → Goes count one middle → Goes middle other then → Goes count (one ++ other) then
goes-append count middle then one other first second rest enough =
    subst (λ l. HaveEnough count l) (sym (append_assoc one other rest)) (first (other ++ rest) (second rest enough))

pub wraps_go : (whole : Node) (before others : ℕ) → Goes (suc (before + others)) (wraps others whole) (suc before)
wraps_go whole before zero rest enough = let e : suc before ≡ suc (before + 0) = omega arith in subst (λ n. HaveEnough n rest) e enough
wraps_go whole before (suc others) rest enough =
    let e : suc before ≡ suc (suc (before + suc others) - suc (suc others)) = omega arith in
    (omega arith, subst (λ n. HaveEnough n rest) e enough)

pub passing_go : (whole : Node) (before : ℕ) (rights : List Right) → Goes (suc before) (passing whole rights) (suc before)
passing_go whole before [] rest enough = enough
passing_go whole before (first ∷ rights) rest enough =
    let e : suc (before + suc (length rights)) ≡ suc before + length (first ∷ rights) = omega arith in
    subst (λ n. HaveEnough n (wraps (suc (length rights)) whole ++ rest)) e (wraps_go whole before (suc (length rights)) rest enough)

pub members_go : (start before : ℕ) (shares : List Share) → Goes before (member_tasks start shares) (before + length shares)
members_go start before [] rest enough = let e : before + 0 ≡ before = omega arith in subst (λ n. HaveEnough n rest) e enough
members_go start before (first ∷ shares) rest enough =
    let e : before + suc (length shares) ≡ suc before + length shares = omega arith in
    let later = start + length (labels_of first.goal) in
    goes-append (suc before) (suc before) (suc before + length shares) (passing first.goal first.passed) (member_tasks later shares)
    (passing_go first.goal before first.passed) (members_go later (suc before) shares) rest (subst (λ n. HaveEnough n rest) e enough)

pub framed_go : (whole : Node) (root : Root) (before : List Right) (inner : List Task) (behind : Task) (count here : ℕ)
    → Goes (here + length before) inner (here + length before + arity_of root)
    → ((n : ℕ) (rest : List Task) → HaveEnough (n + count) rest → HaveEnough n (behind ∷ rest))
    → Goes here (framed whole root before inner behind count) (suc here)
framed_go whole root before inner behind count here goes puts rest enough =
    let b = length before in
    let e : suc (here + (b + count)) ≡ suc (here + b + arity_of root - arity_of root) + count = omega arith in
    subst (λ l. HaveEnough (here + b) l) (sym (append_assoc inner (closed whole root b behind count) rest))
    (goes (closed whole root b behind count ++ rest) (
      omega arith,
      puts (suc (here + b + arity_of root - arity_of root)) (wraps (b + count) whole ++ rest)
          (subst (λ n. HaveEnough n (wraps (b + count) whole ++ rest)) e (wraps_go whole here (b + count) rest enough)),
    ))

pub total-append : (one other : List Task) → total (one ++ other) ≡ total one + total other
total-append [] other = omega arith
total-append (first ∷ rest) other = let e = total-append rest other in omega (arith, e)

pub wraps-effort : (whole : Node) (others : ℕ) → total (wraps others whole) ≤ 1
wraps-effort whole zero = omega arith
wraps-effort whole (suc others) = omega arith

passing-effort : (whole : Node) (rights : List Right) → total (passing whole rights) ≤ 2
passing-effort whole [] = omega arith
passing-effort whole (first ∷ rights) = let e = wraps-effort whole (suc (length rights)) in omega (arith, e)

pub labels-count : (goal : Node) → length (labels_of goal) ≡ suc (length (inner_labels (goal_of goal)))
labels-count (node goal outputs category span) = let e = length-append (inner_labels goal) (label_of (node goal outputs category span) ∷ []) in omega (arith, e)

pub members-effort : (start number : ℕ) (goals : List Node) (waits : List (ℕ × Awaited)) (signals passed : List (ℕ × Right))
    → total (member_tasks start (shares_of number goals waits signals passed)) ≤ 16 * length (all_labels goals)
members-effort start number [] waits signals passed = omega arith
members-effort start number (first ∷ rest) waits signals passed =
    let later = start + length (labels_of first) in
    let more = members-effort later (suc number) rest waits signals passed in
    let pass = passing-effort first (row_of number passed) in
    let sum = total-append (passing first (row_of number passed)) (member_tasks later (shares_of (suc number) rest waits signals passed)) in
    let parts = length-append (labels_of first) (all_labels rest) in
    let own = labels-count first in
    omega (arith, more, pass, sum, parts, own)

pub framed-effort : (whole : Node) (root : Root) (before : List Right) (inner : List Task) (behind : Task) (count : ℕ) → effort behind ≡ 1
    → total (framed whole root before inner behind count) ≤ 4 + total inner
framed-effort whole root before inner behind count one =
    let sum = total-append inner (closed whole root (length before) behind count) in
    let wrap = wraps-effort whole (length before + count) in
    omega (arith, sum, wrap, one)

-- where parts lie

pub lies-front : (all : List Label) (first : ℕ) (one other : List Label) → Lies all first (one ++ other) → Lies all first one
lies-front all first one other lies = record {
  front = lies.front;
  back = other ++ lies.back;
  are = lies.are ∙ ap (λ l. lies.front ++ l) (append_assoc one other lies.back);
  count = lies.count;
}

pub lies-back : (all : List Label) (first : ℕ) (one other : List Label) → Lies all first (one ++ other) → Lies all (first + length one) other
lies-back all first one other lies = record {
  front = lies.front ++ one;
  back = lies.back;
  are = lies.are ∙ ap (λ l. lies.front ++ l) (append_assoc one other lies.back) ∙ sym (append_assoc lies.front one (other ++ lies.back));
  count = length-append lies.front one ∙ ap (λ n. n + length one) lies.count;
}

pub lies-inner : (all : List Label) (first : ℕ) (goal : Node) → Lies all first (labels_of goal) → Lies all first (inner_labels (goal_of goal))
lies-inner all first (node goal outputs category span) lies = lies-front all first (inner_labels goal) (label_of (node goal outputs category span) ∷ []) lies

pub joined-all : (goals : Nodes) → joined_labels goals ≡ all_labels (list_of goals)
joined-all no_nodes = refl
joined-all (more_nodes first rest) = ap (λ l. labels_of first ++ l) (joined-all rest)

pub armed-all : (arms : Arms) → arm_labels arms ≡ all_labels (bodies_of arms)
armed-all no_arms = refl
armed-all (more_arms symbol body rest) = ap (λ l. labels_of body ++ l) (armed-all rest)

-- tasks that lie where they say whatever comes behind them
abbrev pub Lie : Node → List Task → Type 0
Lie whole tasks = (rest : List Task) → AllLie whole rest → AllLie whole (tasks ++ rest)

pub lie-append : (whole : Node) (one other : List Task) → Lie whole one → Lie whole other → Lie whole (one ++ other)
lie-append whole one other first second rest lie = subst (λ l. AllLie whole l) (sym (append_assoc one other rest)) (first (other ++ rest) (second rest lie))

pub wraps-lie : (whole goal : Node) (others : ℕ) → Lie whole (wraps others goal)
wraps-lie whole goal zero rest lie = lie
wraps-lie whole goal (suc others) rest lie = (tt, lie)

passing-lie : (whole goal : Node) (rights : List Right) → Lie whole (passing goal rights)
passing-lie whole goal [] rest lie = lie
passing-lie whole goal (first ∷ rights) rest lie = (tt, wraps-lie whole goal (suc (length rights)) rest lie)

pub members-lie : (whole : Node) (start number : ℕ) (goals : List Node) (waits : List (ℕ × Awaited)) (signals passed : List (ℕ × Right))
    → Lies (labels_of whole) start (all_labels goals) → Lie whole (member_tasks start (shares_of number goals waits signals passed))
members-lie whole start number [] waits signals passed lies rest lie = lie
members-lie whole start number (first ∷ goals) waits signals passed lies rest lie =
    let later = start + length (labels_of first) in (
      lies-front (labels_of whole) start (labels_of first) (all_labels goals) lies,
      lie-append whole (passing first (row_of number passed)) (member_tasks later (shares_of (suc number) goals waits signals passed)) (passing-lie whole first (row_of number passed))
          (members-lie whole later (suc number) goals waits signals passed (lies-back (labels_of whole) start (labels_of first) (all_labels goals) lies)) rest lie,
    )

pub framed-lie : (whole goal : Node) (root : Root) (before : List Right) (inner : List Task) (behind : Task) (count : ℕ)
    → Lie whole inner → ((rest : List Task) → AllLie whole rest → AllLie whole (behind ∷ rest)) → Lie whole (framed goal root before inner behind count)
framed-lie whole goal root before inner behind count inside puts rest lie = (
  tt,
  lie-append whole inner (closed goal root (length before) behind count) inside
      (λ more so. (tt, puts (wraps (length before + count) goal ++ more) (wraps-lie whole goal (length before + count) more so))) rest lie,
)

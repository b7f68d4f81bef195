-- The label takes the last goals' starts away, and its size counts their entries and itself.
use Rattle.std.proofs.Common.{◌≡◌, ℕ, ◌≤◌, ◌-◌, ◌+◌, [], ◌∷◌, ◌++◌, length, vec_len, take, get_or, ap, ◌∙◌, arith}
use Rattle.merc_graded_tree.specs.declared.entries.Label.{Label}
use Rattle.merc_graded_tree.specs.Roots.{arity_of, last_joined}
use Rattle.merc_graded_tree.specs.Entries.{nodes_from}
use Rattle.merc_graded_tree.proofs.EntryLaws.{length-starts_from, start_within, behind}
use Rattle.merc_graded_tree.proofs.nodes.Nodes.put.Goals as goal

pub overflow_sub-kept : goal.overflow_sub-kept
overflow_sub-kept c =
    omega (arith, c.requires, ap length c.self.view_is, ap length c.self.invariant.1, length-starts_from 0 (nodes_from c.self.inside.entries.items), c.self.inside.starts.ok.0)

counted : (count starts goals arity arity_of : ℕ) → count ≡ starts → starts ≡ goals → arity ≡ arity_of → count - arity ≡ goals - arity_of
counted count starts goals arity arity_of e f g = cc

pub overflow_sub-size : goal.overflow_sub-size
overflow_sub-size c =
    let entries = c.self.inside.entries.items in
    let goals = nodes_from entries in
    let starts = c.self.inside.starts.items in
    let kept = c.len.result - c.arity.result in
    let start : c.start_of-start.result ≡ get_or starts kept (length entries) = cc c.self.inside.entries.ok.0 in
    let count : length starts ≡ length goals = ap length c.self.invariant.1 ∙ length-starts_from 0 goals in
    let within : kept ≤ length goals = omega (arith, c.self.inside.starts.ok.0) in
    omega (arith, c.self.inside.entries.ok.0, start_within goals entries starts c.self.invariant.0 c.self.invariant.1 kept within)

pub invariant_of-self-2 : goal.invariant_of-self-2
invariant_of-self-2 c =
    let entries = c.self.inside.entries.items in
    let goals = nodes_from entries in
    let starts = c.self.inside.starts.items in
    let kept = c.len.result - c.arity.result in
    let label : Label = c.args.label in
    let enough : arity_of label.root ≤ length goals = omega (arith, c.requires, ap length c.self.view_is) in
    let count : vec_len c.self.inside.starts ≡ length goals = c.self.inside.starts.ok.0 ∙ ap length c.self.invariant.1 ∙ length-starts_from 0 goals in
    let kept_is : kept ≡ length goals - arity_of label.root = counted _ _ _ _ _ c.len.ensures count c.arity.ensures in
    let start : c.start_of-start.result ≡ get_or starts kept (length entries) = cc c.self.inside.entries.ok.0 in
    let size : c.len-3.result - c.start_of-start.result + 1 ≡ length entries - get_or starts kept (length entries) + 1 = cc c.self.inside.entries.ok.0 in
    let made = behind goals entries starts c.self.invariant.0 c.self.invariant.1 label enough kept kept_is c.put_entry.new.entries.items c.put_entry.new.starts.items
    (c.in_ok-put_entry.ensures.entries ∙ ap (λ n. entries ++ record { label = label; size = n } ∷ []) size)
    (c.in_ok-put_entry.ensures.starts ∙ ap (λ n. take kept starts ++ n ∷ []) start) in
    (made.are_nodes, made.starts_are)

pub returns-clause-ok : goal.returns-clause-ok
returns-clause-ok c =
    let entries = c.self.inside.entries.items in
    let goals = nodes_from entries in
    let starts = c.self.inside.starts.items in
    let kept = c.len.result - c.arity.result in
    let label : Label = c.args.label in
    let enough : arity_of label.root ≤ length goals = omega (arith, c.requires, ap length c.self.view_is) in
    let count : vec_len c.self.inside.starts ≡ length goals = c.self.inside.starts.ok.0 ∙ ap length c.self.invariant.1 ∙ length-starts_from 0 goals in
    let kept_is : kept ≡ length goals - arity_of label.root = counted _ _ _ _ _ c.len.ensures count c.arity.ensures in
    let start : c.start_of-start.result ≡ get_or starts kept (length entries) = cc c.self.inside.entries.ok.0 in
    let size : c.len-3.result - c.start_of-start.result + 1 ≡ length entries - get_or starts kept (length entries) + 1 = cc c.self.inside.entries.ok.0 in
    let made = behind goals entries starts c.self.invariant.0 c.self.invariant.1 label enough kept kept_is c.put_entry.new.entries.items c.put_entry.new.starts.items
    (c.in_ok-put_entry.ensures.entries ∙ ap (λ n. entries ++ record { label = label; size = n } ∷ []) size)
    (c.in_ok-put_entry.ensures.starts ∙ ap (λ n. take kept starts ++ n ∷ []) start) in
    made.nodes ∙ ap (last_joined label) c.self.view_is

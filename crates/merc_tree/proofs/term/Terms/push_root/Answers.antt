-- The root takes the last terms' starts away, and its size counts their nodes and itself.
use Rattle.std.proofs.Common.{◌≡◌, ℕ, ◌≤◌, ◌-◌, ◌+◌, [], ◌∷◌, ◌++◌, length, vec_len, take, get_or, ap, sym, ◌∙◌, arith}
use Rattle.merc_tree.specs.Nodes.{built, all_nodes, starts_from, with_root, arity_of}
use Rattle.merc_tree.proofs.NodeLaws.{length-starts_from, start_within, nodes_behind, starts_behind, built_from, AreTerms_from}
use Rattle.merc_tree.proofs.term.Terms.push_root.Goals as goal

pub overflow_sub-kept : goal.overflow_sub-kept
overflow_sub-kept c =
    omega (arith, c.requires, ap length c.self.view_is, ap length c.self.invariant.1, length-starts_from 0 (built c.self.inside.nodes.items []), c.self.inside.starts.ok.0)

counted : (count starts terms arity arity_of : ℕ) → count ≡ starts → starts ≡ terms → arity ≡ arity_of → count - arity ≡ terms - arity_of
counted count starts terms arity arity_of e f g = cc

pub overflow_sub-size : goal.overflow_sub-size
overflow_sub-size c =
    let nodes = c.self.inside.nodes.items in
    let terms = built nodes [] in
    let starts = c.self.inside.starts.items in
    let kept = c.len.result - c.arity.result in
    let start : c.start_of-start.result ≡ get_or starts kept (length nodes) = cc c.self.inside.nodes.ok.0 in
    let count : length starts ≡ length terms = ap length c.self.invariant.1 ∙ length-starts_from 0 terms in
    let within : kept ≤ length terms = omega (arith, c.self.inside.starts.ok.0) in
    omega (arith, c.self.inside.nodes.ok.0, start_within terms nodes starts c.self.invariant.0 c.self.invariant.1 kept within)

kept_is : (c : goal.After-unwrap) → c.len.result - c.arity.result ≡ length (built c.self.inside.nodes.items []) - arity_of c.args.shape
kept_is c =
    let count : vec_len c.self.inside.starts ≡ length (built c.self.inside.nodes.items []) = c.self.inside.starts.ok.0 ∙ ap length c.self.invariant.1 ∙ length-starts_from 0 (built c.self.inside.nodes.items []) in
    counted _ _ _ _ _ c.len.ensures count c.arity.ensures

enough : (c : goal.After-unwrap) → arity_of c.args.shape ≤ length (built c.self.inside.nodes.items [])
enough c = omega (arith, c.requires, ap length c.self.view_is)

nodes_are : (c : goal.After-unwrap) → c.push.new.self.items ≡ all_nodes (with_root c.args.shape c.args.span (built c.self.inside.nodes.items []))
nodes_are c =
    let nodes = c.self.inside.nodes.items in
    let start : c.start_of-start.result ≡ get_or c.self.inside.starts.items (c.len.result - c.arity.result) (length nodes) = cc c.self.inside.nodes.ok.0 in
    let size : c.len-3.result - c.start_of-start.result + 1 ≡ length nodes - get_or c.self.inside.starts.items (c.len.result - c.arity.result) (length nodes) + 1 = cc c.self.inside.nodes.ok.0 in
    c.in_ok-push.ensures.items
    ∙ ap (λ n. nodes ++ record { shape = c.args.shape; span = c.args.span; size = n } ∷ []) size
    ∙ nodes_behind (built nodes []) nodes c.self.inside.starts.items c.self.invariant.0 c.self.invariant.1 c.args.shape c.args.span (enough c) (c.len.result - c.arity.result) (kept_is c)

starts_are : (c : goal.After-unwrap) → c.push-2.new.self.items ≡ starts_from 0 (with_root c.args.shape c.args.span (built c.self.inside.nodes.items []))
starts_are c =
    let nodes = c.self.inside.nodes.items in
    let kept = c.len.result - c.arity.result in
    let start : c.start_of-start.result ≡ get_or c.self.inside.starts.items kept (length nodes) = cc c.self.inside.nodes.ok.0 in
    (rw c.unwrap.ensures at c.push-2.ensures.items)
    ∙ ap (λ s. s ++ c.start_of-start.result ∷ []) (c.truncate.ensures.items ∙ ap (take kept) c.reserve.ensures.items)
    ∙ ap (λ n. take kept c.self.inside.starts.items ++ n ∷ []) start
    ∙ starts_behind (built nodes []) nodes c.self.inside.starts.items c.self.invariant.0 c.self.invariant.1 c.args.shape c.args.span (enough c) kept (kept_is c)

pub invariant_of-self-2 : goal.invariant_of-self-2
invariant_of-self-2 c =
    let terms = with_root c.args.shape c.args.span (built c.self.inside.nodes.items []) in
    (AreTerms_from c.push.new.self.items terms (nodes_are c), starts_are c ∙ ap (starts_from 0) (sym (built_from c.push.new.self.items terms (nodes_are c))))

pub returns-clause-ok : goal.returns-clause-ok
returns-clause-ok c =
    let terms = with_root c.args.shape c.args.span (built c.self.inside.nodes.items []) in
    built_from c.push.new.self.items terms (nodes_are c) ∙ ap (with_root c.args.shape c.args.span) c.self.view_is

-- How long the slices are that are passed on, and lists of goals of which some became one.
use Rattle.std.specs.Prelude.{◌≡◌, ◌≤◌, ◌+◌, ◌-◌, ℕ, Bool, false, List, length, take, drop, replicate}
use Rattle.std.specs.List.{slice_range}
use Rattle.std.proofs.Common.{◌∙◌, ap, arith}
use Rattle.std.proofs.lemmas.List.{length-append, length-drop, length-replicate, length-take-le}
use Rattle.std.proofs.lemmas.Slice.{between-put_mid}
use borrow.Rule.Slice.PartMut.{put_mid}
use Rattle.merc_base.specs.declared.place.Span.{Span}
use Rattle.merc_graded_tree.specs.Nodes.{Node}
use Rattle.merc_graded_tree.specs.declared.entries.Root.{Root}
use Rattle.merc_graded_tree.specs.Roots.{arity_of, joined}

pub part_length : {X : Type 0} (items : List X) (at count size : ℕ) → at + count ≤ length items → count ≡ size → length (slice_range items at (at + count)) ≡ size
part_length items at count size room is = length-take-le (at + count - at) (drop at items) (omega (arith, room, length-drop at items)) ∙ omega (arith, is)

-- marks that were all set to false
pub cleared_length : (flags new : List Bool) (at count size : ℕ) → at + count ≤ length flags → count ≡ size → new ≡ replicate (length (slice_range flags at (at + count))) false
    → length (slice_range (put_mid at (at + count - at) flags new) at (at + count)) ≡ size
cleared_length flags new at count size room is blank =
    let there : length new ≡ size = ap length blank ∙ length-replicate (length (slice_range flags at (at + count))) false ∙ part_length flags at count size room is in
    ap length (between-put_mid at (at + count - at) flags new (at + count) (omega (arith, room)) (omega (arith, there, is))) ∙ there

pub joined_length : (root : Root) (outputs : List ℕ) (span : Span) (old new : List Node) → arity_of root ≤ length old → new ≡ joined root outputs span old → length new + arity_of root ≡ length old + 1
joined_length root outputs span old new room is =
    let before = length old - arity_of root in
    let short : length (take before old) ≡ before = length-take-le before old (omega arith) in
    let long : length new ≡ length (take before old) + 1 = ap length is ∙ length-append (take before old) _ in
    omega (arith, room, short, long)

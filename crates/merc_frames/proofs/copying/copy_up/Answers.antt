use Rattle.std.proofs.Common.{◌≡◌, ◌+◌, ◌++◌, ℕ, List, length, drop, sym, ap, ◌∙◌, rules}
use Rattle.std.proofs.lemmas.List.{drop-drop, drop_at, places, with_items_is}
use Rattle.merc_frames.specs.declared.slot.Slot.{Slot}
use Rattle.merc_frames.proofs.copying.copy_up.Goals as goal

-- behind two parts, the first of which is so long, stands what stands behind the second
behind : (low high : List Slot) (to size : ℕ) → length low ≡ to → drop (to + size) (low ++ high) ≡ drop size high
behind low high to size long = sym (drop-drop size to (low ++ high)) ∙ ap (drop size) (drop_at low high to long)

pub returns-clause-above : goal.returns-clause-above
returns-clause-above c =
    let low = c.split_at_mut-low.result.0.now in
    let high = c.split_at_mut-low.result.1.now in
    let copy = c.copy_from_slice.new.self in
    let left = drop c.args.size high in
    let whole : c.args.slots.now.items ≡ low ++ high = search rules in
    let under : length low ≡ c.args.to = search rules in
    let long : length copy ≡ c.args.size = search rules in
    let items = with_items_is c.args.slots.now (low ++ (copy ++ left)) (search (rules, places)) in
    ap (drop (c.args.to + c.args.size)) whole ∙ behind low high c.args.to c.args.size under
    ∙ sym (ap (drop (c.args.to + c.args.size)) items ∙ behind low (copy ++ left) c.args.to c.args.size under ∙ drop_at copy left c.args.size long)

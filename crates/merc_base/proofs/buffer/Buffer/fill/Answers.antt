use Rattle.std.proofs.Common.{◌≡◌, ℕ, List, ◌++◌, take, drop, min, length, refl, ap, sym, ◌∙◌, arith, length-take}
use Rattle.std.proofs.lemmas.List.{take_min, take_all, drop_all, append-nil}
use Rattle.merc_base.specs.Outside.{piece_limit}
use Rattle.merc_base.proofs.buffer.Buffer.fill.Goals as goal

-- A front is named by the limit as well as by its length.
front_is : (n limit : ℕ) (xs room : List ℕ) → take (length (take n xs)) room ≡ take n xs → n ≡ min (length xs) limit → take n room ≡ take limit xs
front_is n limit xs room put is_length =
    let long : length (take n xs) ≡ n = omega (arith, length-take n xs) in
    let swapped : n ≡ min limit (length xs) = omega arith in
    ap (λ (k : ℕ). take k room) (sym long) ∙ put ∙ ap (λ (k : ℕ). take k xs) swapped ∙ take_min limit xs

-- What was written over a whole list is the list.
written_over : (n : ℕ) (old new : List ℕ) → n ≡ length old → length new ≡ length old → take n (new ++ drop (length new) old) ≡ new
written_over n old new count same =
    ap (λ (rest : List ℕ). take n (new ++ rest)) (drop_all (length new) old (omega arith))
    ∙ ap (λ (all : List ℕ). take n all) (append-nil new) ∙ take_all n new (omega arith)

piece_limit_is : 65536 ≡ piece_limit
unfolding piece_limit
piece_limit_is = refl

pub returns-clause-kept : goal.returns-clause-kept
returns-clause-kept c =
    let whole = written_over c.self.inside.room.len c.self.inside.room.items c.put_front.new.room c.self.inside.room.ok.0
    (omega (arith, c.put_front.ensures.room, ap length c.deref_mut.ensures.value)) in
    front_is _ piece_limit _ _
    (ap (λ (room : List ℕ). take (length (take c.min-count.result c.args.bytes.now)) room) whole ∙ c.put_front.ensures.front)
    (c.min-count.ensures ∙ ap (λ (k : ℕ). min (length c.args.bytes.now) k) piece_limit_is)

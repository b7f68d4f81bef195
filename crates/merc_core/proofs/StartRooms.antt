-- What a script's Forks make, counted over its items.
use Rattle.std.proofs.Common.{◌≡◌, ℕ, suc, ◌+◌, ◌≤◌, List, [], ◌∷◌, ◌++◌, refl, ap, arith, drop}
use Rattle.merc_script.specs.declared.items.Item.{Item}
use Rattle.merc_script.specs.Script.{Script, Ends, TickThen, WaitThen, SignalThen, ForkThen, Children, NoChild, Child, Cell, Move, count, size, sizes}
use Rattle.merc_script.specs.Items.{items_of, items_in}
use Rattle.merc_core.specs.Mirror.{made, made_in, branches_made}
use Rattle.merc_core.specs.Starting.{made_at, made_among}

module _ (each : ℕ → List Cell → List Move → ℕ) where
  among-append : (xs ys : List Item) → made_among each (xs ++ ys) ≡ made_among each xs + made_among each ys
  among-append [] ys = omega arith
  among-append (x ∷ xs) ys = let e = among-append xs ys in omega (arith, e)

  -- the items of a script make what the script makes
  mutual
    pub among-script : (script : Script) → made_among each (items_of script) ≡ made each script
    among-script (Ends end) = omega arith
    among-script (TickThen rest) = let e = among-script rest in omega (arith, e)
    among-script (WaitThen cell rest) = let e = among-script rest in omega (arith, e)
    among-script (SignalThen cell rest) = let e = among-script rest in omega (arith, e)
    among-script (ForkThen limit cells moves children rest) =
        let a = among-append (items_in children) (items_of rest) in let b = among-children children in let e = among-script rest in omega (arith, a, b, e)

    among-children : (children : Children) → made_among each (items_in children) ≡ made_in each children
    among-children NoChild = refl
    among-children (Child first others) =
        let a = among-append (items_of first) (items_in others) in let b = among-script first in let e = among-children others in omega (arith, a, b, e)

  -- one item more is counted
  pub among-more : (items : List Item) (place : ℕ) (item : Item) (sum whole : ℕ) → drop place items ≡ item ∷ drop (suc place) items
      → sum + made_among each (drop place items) ≡ whole → sum + made_at each item + made_among each (drop (suc place) items) ≡ whole
  among-more items place item sum whole is same = let e = ap (made_among each) is in omega (arith, e, same)

-- each child has an end of its own, and so has the root
mutual
  pub branches-few : (script : Script) → 1 + made branches_made script ≤ size script
  branches-few (Ends end) = omega arith
  branches-few (TickThen rest) = let e = branches-few rest in omega (arith, e)
  branches-few (WaitThen cell rest) = let e = branches-few rest in omega (arith, e)
  branches-few (SignalThen cell rest) = let e = branches-few rest in omega (arith, e)
  branches-few (ForkThen limit cells moves children rest) = let a = branches-in-few children in let e = branches-few rest in omega (arith, a, e)

  branches-in-few : (children : Children) → count children + made_in branches_made children ≤ sizes children
  branches-in-few NoChild = omega arith
  branches-in-few (Child first others) = let a = branches-few first in let e = branches-in-few others in omega (arith, a, e)

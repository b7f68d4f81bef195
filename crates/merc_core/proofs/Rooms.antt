-- Room for what Forks still make.
use Rattle.std.proofs.Common.{◌≡◌, ℕ, suc, ◌+◌, ◌≤◌, List, [], ◌∷◌, ◌++◌, refl, ap, arith, length, length-append}
use Rattle.merc_script.specs.Script.{Cell, Move}
use Rattle.merc_core.specs.World.{Spot}
use Rattle.merc_core.specs.Mirror.{Parts, made, still_made, branches_made, rights_made, joins_made, HasRoom}
use Rattle.merc_core.proofs.Measure.{total}
use Rattle.merc_core.proofs.Pool.{Takes, here, there}

module _ (each : ℕ → List Cell → List Move → ℕ) where
  pub still-is : (pool : List Spot) → still_made each pool ≡ total (λ x. made each x.branch.rest) pool
  still-is [] = refl
  still-is (x ∷ xs) = ap (λ n. made each x.branch.rest + n) (still-is xs)

  pub still-takes : {pool : List Spot} {x : Spot} {others : List Spot} → Takes pool x others → still_made each pool ≡ made each x.branch.rest + still_made each others
  still-takes (here x xs) = refl
  still-takes (there x y xs ys takes) = let e = still-takes takes in omega arith

  pub still-append : (xs ys : List Spot) → still_made each (xs ++ ys) ≡ still_made each xs + still_made each ys
  still-append [] ys = omega arith
  still-append (x ∷ xs) ys = let e = still-append xs ys in omega arith

  -- one is taken out and put back, and makes no more
  pub still-back : {pool : List Spot} {x : Spot} {others : List Spot} → Takes pool x others → (y : Spot) → made each y.branch.rest ≤ made each x.branch.rest
      → still_made each (others ++ (y ∷ [])) ≤ still_made each pool
  still-back {pool} {x} {others} takes y less = let e = still-takes takes in let k = still-append others (y ∷ []) in omega arith

pub takes-length : {pool : List Spot} {x : Spot} {others : List Spot} → Takes pool x others → length pool ≡ suc (length others)
takes-length (here x xs) = refl
takes-length (there x y xs ys takes) = ap suc (takes-length takes)

-- one is taken out and put back, and makes no more
pub room-back : (parts : Parts) (joins : ℕ) {pool : List Spot} {x : Spot} {others : List Spot} → Takes pool x others → (y : Spot)
    → ((each : ℕ → List Cell → List Move → ℕ) → made each y.branch.rest ≤ made each x.branch.rest) → HasRoom parts pool joins → HasRoom parts (others ++ (y ∷ [])) joins
room-back parts joins {pool} {x} {others} takes y less room = record {
  branches = let k = still-back branches_made takes y (less branches_made) in let r = room.branches in omega arith;
  outcomes = let k = still-back branches_made takes y (less branches_made) in let r = room.outcomes in omega arith;
  rights = let k = still-back rights_made takes y (less rights_made) in let r = room.rights in omega arith;
  joins = let k = still-back joins_made takes y (less joins_made) in let r = room.joins in omega arith;
  crowd = let a = takes-length takes in let b = length-append others (y ∷ []) in let r = room.crowd in omega arith;
  many = room.many;
}

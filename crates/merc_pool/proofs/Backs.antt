-- The root told, with its worker.
use Rattle.std.proofs.Common.{◌≡◌, ℕ, Some, None, sym, subst}
use Rattle.merc_board.specs.declared.board.Board as Board
use Rattle.merc_pool.specs.declared.engine.Engine as Engine
use Rattle.merc_pool.specs.declared.load.Asked as Asked
use Rattle.merc_pool.specs.declared.load.Carried.{Carried}
use Rattle.merc_pool.specs.declared.shared.Slot.{Slot}
use Rattle.merc_pool.specs.declared.next.Next.{Next}
use Rattle.merc_pool.specs.declared.next.Next.TheVariants.{Answer, Done, Raised, LimitPassed, NoMemory}
use Rattle.merc_pool.specs.Sessions.{IsHome, IsToldHome}
use Rattle.merc_pool.specs.Telling.{given_after, last_of}

module _ {M N B H S W G C : Type 0} (m : Engine.Ghosts M) (n : Asked.Ghosts N) (b : Board.Ghosts B (Carried M N) H S W G C) where
  pub told_home : {P : Type 0} (board : B) (given after : ℕ) (next : Next) (slot : Slot (Carried M N) H S P) → after ≡ given_after given next → IsToldHome m n b board given next slot
      → last_of next ≡ None → IsHome m n b board after (Some slot)
  told_home board given after (Answer block) slot is home none = subst (λ (k : ℕ). IsHome m n b board k (Some slot)) (sym is) home
  told_home board given after Done slot is home none = absurd cc
  told_home board given after (Raised text) slot is home none = absurd cc
  told_home board given after LimitPassed slot is home none = absurd cc
  told_home board given after NoMemory slot is home none = absurd cc

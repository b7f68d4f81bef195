-- Workers with nothing in hand, and workers that have left their work.
use Rattle.std.proofs.Common.{◌≡◌, ℕ, Bool, true, false, List, [], ◌++◌, ◌∷◌, Some, slice_get, refl, sym, subst}
use Rattle.merc_board.specs.declared.board.Board as Board
use Rattle.merc_pool.specs.declared.engine.Engine as Engine
use Rattle.merc_pool.specs.declared.load.Asked as Asked
use Rattle.merc_pool.specs.declared.load.Carried.{Carried}
use Rattle.merc_pool.specs.declared.hand.Hand.{Hand}
use Rattle.merc_pool.specs.declared.hand.Hand.TheVariants.{Empty, Runs, Given, Ends, Came}
use Rattle.merc_pool.specs.declared.shared.Slot.{Slot}
use Rattle.merc_pool.specs.declared.shared.Worker.{Worker}
use Rattle.merc_pool.specs.Hands.{HandIs, IsAllowed, IsAtWork}
use Rattle.merc_pool.specs.Sessions.{BackHand, IsBack, IsCame}
use Rattle.merc_pool.specs.Working.{AllAtWork, AllDone, DoneHand, DoneWith, IsDone, WorksWith}
use Rattle.merc_pool.proofs.Lists.{all_and_one, at_get, get_same, none_get, without_one}
use Rattle.merc_pool.proofs.Workers.{is_done, works_with}

module _ {M N B H S W G C : Type 0} (m : Engine.Ghosts M) (n : Asked.Ghosts N) (b : Board.Ghosts B (Carried M N) H S W G C) where
  not_allowed : (worker : Worker S) → worker.may_run ≡ false → IsAllowed m n b worker
  not_allowed worker none = λ may. absurd cc

  empty_is : (board : B) (seat : S) (hand : Hand (Carried M N) H) → hand ≡ Empty → b.free board seat → HandIs m n b board seat hand
  empty_is board seat Empty is free = free
  empty_is board seat (Runs branch) is free = absurd cc
  empty_is board seat (Given branch value) is free = absurd cc
  empty_is board seat (Ends branch outcome) is free = absurd cc
  empty_is board seat (Came branch stop) is free = absurd cc

  pub idle : (board : B) (seat : S) (worker : Worker S) (hand : Hand (Carried M N) H) → worker.seat ≡ seat → worker.may_run ≡ false → hand ≡ Empty → b.free board seat
      → IsAtWork m n b board worker hand
  idle board seat worker hand same none empty free = (empty_is board worker.seat hand empty (subst (λ s. b.free board s) (sym same) free), not_allowed worker none)

  done_holds : (board : B) (seat : S) (hand : Hand (Carried M N) H) → DoneHand m n b board seat hand → HandIs m n b board seat hand
  done_holds board seat Empty done = done
  done_holds board seat (Runs branch) done = absurd done
  done_holds board seat (Given branch value) done = absurd done
  done_holds board seat (Ends branch outcome) done = absurd done
  done_holds board seat (Came branch stop) done = done

  done_back : (board : B) (seat : S) (hand : Hand (Carried M N) H) → IsCame hand → DoneHand m n b board seat hand → BackHand m n b board seat hand
  done_back board seat Empty came done = absurd came
  done_back board seat (Runs branch) came done = absurd came
  done_back board seat (Given branch value) came done = absurd came
  done_back board seat (Ends branch outcome) came done = absurd came
  done_back board seat (Came branch stop) came done = done

  hand_at_work : (board : B) (worker : Worker S) (hand : Hand (Carried M N) H) → IsDone m n b board worker hand → IsAtWork m n b board worker hand
  hand_at_work board worker hand done = (done_holds board worker.seat hand done.0, done.1)

  pub done_at_work : {P : Type 0} (board : B) (slot : Slot (Carried M N) H S P) → DoneWith m n b board slot.worker slot.hand → WorksWith m n b board slot.worker slot.hand
  done_at_work board slot done =
      works_with m n b board slot.worker slot.hand (hand_at_work board slot.worker slot.hand (is_done m n b board slot.worker slot.hand done))

  hand_back : (board : B) (worker : Worker S) (hand : Hand (Carried M N) H) → IsCame hand → IsDone m n b board worker hand
      → BackHand m n b board worker.seat hand × IsAllowed m n b worker
  hand_back board worker hand came done = (done_back board worker.seat hand came done.0, done.1)

  pub is_back_done : {P : Type 0} (board : B) (slot : Slot (Carried M N) H S P) → IsCame slot.hand → DoneWith m n b board slot.worker slot.hand → IsBack m n b board slot
  is_back_done board slot came done = hand_back board slot.worker slot.hand came (is_done m n b board slot.worker slot.hand done)

  pub none_at_work : {P : Type 0} (board : B) → AllAtWork {P = P} m n b board []
  none_at_work board i slot at = none_get i slot at

  pub one_at_work : {P : Type 0} (board : B) (slots : List (Slot (Carried M N) H S P)) (slot : Slot (Carried M N) H S P) → AllAtWork m n b board slots
      → IsAtWork m n b board slot.worker slot.hand → AllAtWork m n b board (slots ++ slot ∷ [])
  one_at_work {P} board slots slot all one =
      all_and_one (λ (s : Slot (Carried M N) H S P). WorksWith m n b board s.worker s.hand) slots slot all (works_with m n b board slot.worker slot.hand one)

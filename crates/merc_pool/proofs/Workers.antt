-- Workers with what they have in hand.
use Rattle.std.proofs.Common.{◌≡◌}
use Rattle.merc_board.specs.declared.board.Board as Board
use Rattle.merc_pool.specs.declared.engine.Engine as Engine
use Rattle.merc_pool.specs.declared.load.Asked as Asked
use Rattle.merc_pool.specs.declared.load.Carried.{Carried}
use Rattle.merc_pool.specs.declared.hand.Hand.{Hand}
use Rattle.merc_pool.specs.declared.hand.Hand.TheVariants.{Empty, Runs, Given, Ends, Came}
use Rattle.merc_pool.specs.declared.shared.Worker.{Worker}
use Rattle.merc_pool.specs.Hands.{IsAtWork}
use Rattle.merc_pool.specs.Working.{DoneWith, IsDone, WorksWith}

module _ {M N B H S W G C : Type 0} (m : Engine.Ghosts M) (n : Asked.Ghosts N) (b : Board.Ghosts B (Carried M N) H S W G C) (board : B) (worker : Worker S) where
  pub at_work : (hand : Hand (Carried M N) H) → WorksWith m n b board worker hand → IsAtWork m n b board worker hand
  at_work Empty works = works
  at_work (Runs branch) works = works
  at_work (Given branch value) works = works
  at_work (Ends branch outcome) works = works
  at_work (Came branch stop) works = works

  pub works_with : (hand : Hand (Carried M N) H) → IsAtWork m n b board worker hand → WorksWith m n b board worker hand
  works_with Empty works = works
  works_with (Runs branch) works = works
  works_with (Given branch value) works = works
  works_with (Ends branch outcome) works = works
  works_with (Came branch stop) works = works

  pub done_with : (hand : Hand (Carried M N) H) → IsDone m n b board worker hand → DoneWith m n b board worker hand
  done_with Empty done = done
  done_with (Runs branch) done = done
  done_with (Given branch value) done = done
  done_with (Ends branch outcome) done = done
  done_with (Came branch stop) done = done

  pub is_done : (hand : Hand (Carried M N) H) → DoneWith m n b board worker hand → IsDone m n b board worker hand
  is_done Empty done = done
  is_done (Runs branch) done = done
  is_done (Given branch value) done = done
  is_done (Ends branch outcome) done = done
  is_done (Came branch stop) done = done

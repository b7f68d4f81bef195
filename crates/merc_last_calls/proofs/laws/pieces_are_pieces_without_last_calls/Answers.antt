use Rattle.merc_last_calls.proofs.laws.pieces_are_pieces_without_last_calls.Goals as goal
use Rattle.merc_last_calls.proofs.Pieces.{goes, answers, asks, stops}

abbrev pub returns-clause-goes : goal.returns-clause-goes
returns-clause-goes c codes count lean last state g m = goes codes count lean last g state m

abbrev pub returns-clause-answers : goal.returns-clause-answers
returns-clause-answers c = answers

abbrev pub returns-clause-asks : goal.returns-clause-asks
returns-clause-asks c = asks

abbrev pub returns-clause-stops : goal.returns-clause-stops
returns-clause-stops c = stops

use Rattle.std.proofs.Common.{refl, lit<, [], ◌∷◌}
use Rattle.std.specs.Fmt.{digits}
use Rattle.board.specs.declared.moves.Move.TheVariants.{U}
use Rattle.drawings.specs.declared.pictures.Caption.TheVariants.{Start, Step, Goal}
use Rattle.drawings.specs.Pictures.{picture}
use Rattle.drawings.specs.Worked.{one_up}
use Rattle.drawings.proofs.laws.oblong_texts_are_these.Goals as goal

pub returns : goal.returns
unfolding digits
returns c = record {
  plan = λ s.
      let goal_board = (one_up s).goal in
      let steps = picture (Step 1 U) goal_board ∷ [] in
      (picture Start (one_up s).start ∷ picture (Step 1 U) goal_board ∷ picture Goal goal_board ∷ [], (steps, (goal_board, 4, [], record { cell = 0; towards = (lit< tt, refl, refl); after = refl; cost = refl }, refl, refl), refl), refl);
  numbers = (refl, refl, refl);
}

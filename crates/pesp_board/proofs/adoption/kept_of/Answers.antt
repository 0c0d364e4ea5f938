use Rattle.pesp_board.proofs.adoption.kept_of.Goals as goal

pub returns-clause-grown : goal.returns-clause-grown
returns-clause-grown c = record {
  parts = c.in_ok-parts.parts.items;
  lines = c.in_ok-parts.ensures.lines;
  shape = c.in_ok-parts.ensures.shape;
  valued = c.in_ok-parts.ensures.valued;
  count = c.in_ok-parts.ensures.pairs;
  planted = c.in_ok-tree.ensures.planted;
  whole = c.in_ok-tree.ensures.whole;
}

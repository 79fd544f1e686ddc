use Rattle.test_trees.proofs.step.foster.Goals as goal

pub returns : goal.returns
returns g c = rw (c.set_fostering.ensures) (record {
  forest = c.requires.forest;
  elements = c.requires.elements;
  distinct = c.requires.distinct;
  ordered = c.requires.ordered;
  templates = c.requires.templates;
  listed = c.requires.listed;
  few = c.requires.few;
  counted = c.requires.counted;
})

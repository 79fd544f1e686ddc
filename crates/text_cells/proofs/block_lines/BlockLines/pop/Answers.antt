use Rattle.text_cells.proofs.BlockLemmas.{content_popped, none_popped, joined_left, joined_popped}
use Rattle.text_cells.proofs.block_lines.BlockLines.pop.Goals as goal

pub returns-clause-count : goal.returns-clause-count
returns-clause-count g c =
    content_popped c.args.self.now.parts.items c.args.self.now.lines c.pop.new.self
    c.pop.result c.pop.ensures.lines

pub returns-clause-none : goal.returns-clause-none
returns-clause-none g c = λ none.
    none_popped g.T.EqualCopy.seen c.args.self.now.parts.items c.args.self.now.lines
    (c.pop.ensures.none none)

pub returns-clause-joined : goal.returns-clause-joined
returns-clause-joined g c = λ joined. (
  joined.0,
  joined_left g.T.EqualCopy.seen c.args.self.now.lines c.pop.new.self c.pop.result
      c.pop.ensures.lines joined.1,
)

pub returns-clause-taken : goal.returns-clause-taken
returns-clause-taken g c = λ joined.
    joined_popped g.T.EqualCopy.seen c.args.self.now.lines c.pop.new.self c.pop.result
    c.pop.ensures.lines joined.1

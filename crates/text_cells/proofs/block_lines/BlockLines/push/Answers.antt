use Rattle.std.specs.Prelude.{[], ◌∷◌}
use Rattle.text_cells.proofs.BlockLemmas.{content_on_ok}
use Rattle.text_cells.proofs.block_lines.BlockLines.push.Goals as goal

pub returns-clause-count : goal.returns-clause-count
returns-clause-count g c =
    content_on_ok c.args.self.now.parts.items c.args.self.now.lines (c.args.line ∷ [])
    c.push.new.self c.push.result c.push.ensures

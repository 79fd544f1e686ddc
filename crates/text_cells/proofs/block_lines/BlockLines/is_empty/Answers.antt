use Rattle.std.proofs.Common.{◌≡◌, length, ◌<◌, arith}
use Rattle.std.specs.Prelude.{map}
use Rattle.text_cells.specs.Texts.{laid_line_of}
use Rattle.std.proofs.lemmas.Bool.Decides.{nat_tests}
use Rattle.text_cells.proofs.BlockLemmas.{none_is, some_are}
use Rattle.text_cells.proofs.block_lines.BlockLines.is_empty.Goals as goal

pub returns : goal.returns
returns g c =
    let self = c.args.self.now in
    let none : length self.parts.items ≡ 0 =
    grind (arith, nat_tests, c.is_empty.ensures, c.if-not-is_empty.false, self.parts.ok.0) in
    none_is g.T.EqualCopy.seen self.parts.items self.lines c.is_empty-2.result none c.is_empty-2.ensures

pub returns-then-not-is_empty : goal.returns-then-not-is_empty
returns-then-not-is_empty g c =
    let self = c.args.self.now in
    let seen = g.T.EqualCopy.seen in
    let some : 0 < length self.parts.items =
    grind (arith, nat_tests, c.is_empty.ensures, c.if-not-is_empty.true, self.parts.ok.0) in
    some_are seen self.parts.items (map (laid_line_of seen) self.lines) some

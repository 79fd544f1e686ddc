use Rattle.std.proofs.Common.{◌≡◌, take, map}
use Rattle.text_lines.proofs.equal_copy.EqualCopy.copies.Given as goal

abbrev pub invariant-loop-tag : goal.invariant-loop-tag
invariant-loop-tag g l = map g.Self.EqualCopy.seen l.copies.items ≡ map g.Self.EqualCopy.seen (take l.tag-index l.tags)

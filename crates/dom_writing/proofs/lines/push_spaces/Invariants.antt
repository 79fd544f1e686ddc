use Rattle.std.proofs.Common.{◌≡◌, ◌+◌, ◌*◌, ◌/◌, ◌++◌, replicate}
use Rattle.dom_writing.proofs.lines.push_spaces.Given as goal

abbrev pub invariant-eights : goal.invariant-eights
invariant-eights l = l.lines ≡ l.fn.lines ++ replicate (l.counter * 8) 0x20

abbrev pub invariant-spaces : goal.invariant-spaces
invariant-spaces l = l.lines ≡ l.fn.lines ++ replicate (l.fn.count / 8 * 8 + l.counter) 0x20

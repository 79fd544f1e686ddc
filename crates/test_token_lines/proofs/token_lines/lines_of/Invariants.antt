use Rattle.std.proofs.Common.{◌≡◌, drop, flat_map}
use Rattle.test_token_lines.specs.TokenLines.{lines_of, lines_with, parts_of}
use Rattle.test_token_lines.proofs.token_lines.lines_of.Given as goal

abbrev pub invariant-loop-token : goal.invariant-loop-token
invariant-loop-token l =
    lines_with l.lines (flat_map parts_of (drop l.token-index l.tokens)) ≡ lines_of l.tokens

use Rattle.std.proofs.Common.{ℕ, ◌<◌, ◌≤◌, get_or}
use Rattle.text_lines.proofs.tagged_string.has_only_printable_ascii.Given as goal

abbrev pub invariant-loop-byte : goal.invariant-loop-byte
invariant-loop-byte l = (k : ℕ) → k < l.byte-index → (0x20 ≤ get_or l.byte-items k 0) × (get_or l.byte-items k 0 ≤ 0x7E)

use Rattle.std.proofs.Common.{◌-◌, ◌≤◌, length, drop, string_bytes}
use Rattle.page_decoding.proofs.DecoderReads.{HasRead}
use Rattle.page_decoding.proofs.decoder.read.Given as goal

abbrev pub invariant-loop-run : goal.invariant-loop-run
invariant-loop-run l =
    (l.taken ≤ length l.bytes) × HasRead (string_bytes l.initial.text) l.bytes (string_bytes l.text)
    (drop l.taken l.bytes)

abbrev pub decreases-loop-run : goal.decreases-loop-run
decreases-loop-run l = length l.bytes - l.taken

use Rattle.std.proofs.Common.{◌≡◌, ◌-◌, chars, drop, length, string_bytes, take}
use Rattle.test_fields.proofs.pieces.halves.Given as goal

abbrev pub invariant-loop-c : goal.invariant-loop-c
invariant-loop-c l =
    let read = take (length l.yielded) (chars l.text) in
    record {
      left : l.left ≡ l.count - length l.yielded;
      front : chars (string_bytes l.front) ≡ take l.count read;
      back : chars (string_bytes l.back) ≡ drop l.count read;
    }

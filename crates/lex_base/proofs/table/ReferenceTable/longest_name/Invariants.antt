use Rattle.std.proofs.Common.{◌≡◌, ◌≤◌, length, take, drop, chars, IsUtf8}
use Rattle.lex_base.proofs.LongestNames.{Longest}
use Rattle.lex_base.proofs.table.ReferenceTable.longest_name.Given as goal

-- what was read is a text, and the longest name in it is known
abbrev pub invariant-loop-c : goal.invariant-loop-c
invariant-loop-c l = record {
  fits : l.length ≤ length l.text;
  left : l.c-iterator.rest.now ≡ drop l.length l.text;
  read : IsUtf8 (take l.length l.text);
  found : Longest l.self (chars (take l.length l.text)) l.longest;
  can_next : (goal.iterator-loop-c).can_next l.c-iterator;
  is_finite : (goal.iterator-loop-c).is_finite l.c-iterator;
}

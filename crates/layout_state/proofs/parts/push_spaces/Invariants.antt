use Rattle.std.proofs.Common.{◌≡◌, ◌++◌, chars, string_bytes}
use Rattle.layout_state.specs.Items.{spaces}
use Rattle.layout_state.proofs.parts.push_spaces.Given as goal

abbrev pub invariant-spaces : goal.invariant-spaces
invariant-spaces l = chars (string_bytes l.text) ≡ chars (string_bytes l.fn.text) ++ spaces l._space

use Rattle.std.proofs.Common.{◌≡◌, true, chars, length}
use denote.Text.{Utf8}
use denote.Shadow.{shadow}
use Rattle.text_pieces.specs.Modes.{is_preserved}
use Rattle.text_wrapping.specs.Blocks.{text_of, took_all, AreJoinedLines}
use Rattle.text_wrapping.proofs.text_block.TextBlock.take_lines.Given as goal

abbrev pub invariant-loop-line : goal.invariant-loop-line
invariant-loop-line g l =
    let seen = g.T.EqualCopy.seen in
    record {
      text : shadow (Utf8 l.rest);
      mode : is_preserved l.fn.self.mode ≡ true → is_preserved l.self.mode ≡ true;
      same : is_preserved l.fn.self.mode ≡ true
          → took_all (seen l.main_tag) (seen l.wrap_tag) (chars l.rest) (text_of seen l.self)
          ≡ took_all (seen l.main_tag) (seen l.wrap_tag) (chars l.text) (text_of seen l.fn.self);
      joined : AreJoinedLines seen l.fn.self → AreJoinedLines seen l.self;
    }

abbrev pub decreases-loop-line : goal.decreases-loop-line
decreases-loop-line g l = length l.rest

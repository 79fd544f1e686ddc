use Rattle.std.proofs.Common.{chars, string_bytes}
use Rattle.std.proofs.lemmas.Str.{IsUtf8-string_bytes}
use Rattle.std.proofs.lemmas.Iterator.{YieldsList-from_chars}
use Rattle.std.proofs.lemmas.Iterator.Consumers.{YieldsList-turn, YieldsList-end}
use Rattle.text_preserved.specs.Preserved.{put_space}
use Rattle.text_preserved.specs.Rows.{laying_of}
use Rattle.text_preserved.proofs.RowLemmas.{next_letter, all_letters}
use Rattle.text_preserved.proofs.laying.Rows.put_tail_string.Goals as goal

pub loop-c-preserved : goal.loop-c-preserved
loop-c-preserved g c =
    let seen = g.T.EqualCopy.seen in
    let s = string_bytes c.args.string.now.s in
    let t = YieldsList-turn (YieldsList-from_chars s (IsUtf8-string_bytes c.args.string.now.s) cc) c.loop-c.yielded _
    c.loop-c.yielded_by _ _ c.in-Some.c c.in-Some.is c.next.ensures.steps in
    record {
      laid = next_letter (put_space c.args.width) (chars s) c.loop-c.yielded c.in-Some.c c.in-Some.c
          (seen c.args.string.now.tag) t (laying_of seen c.args.self.now) (laying_of seen c.loop-c.self)
          (laying_of seen c.put_tail_char.new.self) c.loop-c.invariant.laid c.in_ok-put_tail_char.ensures.laid;
      joined = λ h. c.put_tail_char.ensures.joined (c.loop-c.invariant.joined h);
    }

pub returns-clause-laid : goal.returns-clause-laid
returns-clause-laid g c =
    let seen = g.T.EqualCopy.seen in
    let s = string_bytes c.args.string.now.s in
    let t = YieldsList-end (YieldsList-from_chars s (IsUtf8-string_bytes c.args.string.now.s) cc) c.loop-c.yielded _
    c.loop-c.yielded_by _ _ c.in-None.is c.next.ensures.steps in
    all_letters (put_space c.args.width) (chars s) c.loop-c.yielded (seen c.args.string.now.tag) t.1
    (laying_of seen c.args.self.now) (laying_of seen c.loop-c.self) c.loop-c.invariant.laid

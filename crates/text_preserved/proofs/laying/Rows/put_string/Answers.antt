use Rattle.std.proofs.Common.{refl, sym, ap, ◌∙◌, chars}
use Rattle.std.proofs.lemmas.Str.{chars-nil, chars_past_char}
use Rattle.text_lines.specs.Tagged.{tagged}
use Rattle.text_preserved.specs.Preserved.{put_all}
use Rattle.text_preserved.specs.Rows.{laying_of}
use Rattle.text_preserved.proofs.laying.Rows.put_string.Goals as goal

pub loop-c-preserved : goal.loop-c-preserved
loop-c-preserved g c =
    let seen = g.T.EqualCopy.seen in
    let tag = seen c.args.string.now.tag in
    record {
      text = c.in_ok-rest.ensures.text;
      laid = c.in_ok-rest.ensures.laid
          ∙ ap (λ r. put_all c.args.width r (tagged (chars c.in-Some.after.now) tag)) c.in_ok-put.ensures.laid
          ∙ ap (λ cs. put_all c.args.width (laying_of seen c.loop-c.self) (tagged cs tag))
          (sym (chars_past_char c.loop-c.rest.now c.in-Some.after.now c.in-Some.c c.loop-c.invariant.text
          c.in-Some.ensures.first)) ∙ c.loop-c.invariant.laid;
      joined = λ h. c.put_front.ensures.joined (c.put.ensures.joined (c.loop-c.invariant.joined h));
    }

pub returns-clause-laid : goal.returns-clause-laid
returns-clause-laid g c =
    let seen = g.T.EqualCopy.seen in
    sym (ap (λ cs. put_all c.args.width (laying_of seen c.loop-c.self) (tagged cs (seen c.args.string.now.tag)))
    (ap chars (c.in_default.ensures.none refl) ∙ chars-nil)) ∙ c.loop-c.invariant.laid

use Rattle.std.proofs.Common.{refl, sym, ap, ◌∙◌, chars}
use Rattle.std.proofs.lemmas.Str.{chars-nil, chars_past_char}
use Rattle.text_preserved.specs.Fronts.{all_lettered}
use Rattle.text_preserved.specs.SourceLines.{pass_of}
use Rattle.text_preserved.proofs.source_line.SourceLine.add_text.Goals as goal

pub loop-c-preserved : goal.loop-c-preserved
loop-c-preserved g c =
    let seen = g.T.EqualCopy.seen in
    let main = seen c.args.main_tag.now in
    let further = seen c.args.wrap_tag.now in
    record {
      text = c.in_ok-rest-2.ensures.text;
      pass = c.in_ok-rest-2.ensures.pass
          ∙ ap (all_lettered (chars c.in-Some.after.now) main further) c.in_ok-add_letter.ensures.pass
          ∙ ap (λ cs. all_lettered cs main further (pass_of seen c.loop-c.self))
          (sym (chars_past_char c.loop-c.rest.now c.in-Some.after.now c.in-Some.c c.loop-c.invariant.text
          c.in-Some.ensures.first)) ∙ c.loop-c.invariant.pass;
      rows = c.add_front-in-Some.ensures.rows ∙ c.add_letter.ensures.rows ∙ c.loop-c.invariant.rows;
    }

pub returns-clause-pass : goal.returns-clause-pass
returns-clause-pass g c =
    let seen = g.T.EqualCopy.seen in
    sym (ap (λ cs. all_lettered cs (seen c.args.main_tag.now) (seen c.args.wrap_tag.now) (pass_of seen c.loop-c.self))
    (ap chars (c.in_default.ensures.none refl) ∙ chars-nil)) ∙ c.loop-c.invariant.pass

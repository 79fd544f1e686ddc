use Rattle.std.proofs.Common.{chars, ap, ◌∙◌}
use Rattle.std.proofs.lemmas.Iterator.{YieldsList-from_chars}
use Rattle.std.proofs.lemmas.Iterator.Consumers.{YieldsList-turn, YieldsList-end}
use Rattle.text_lines.specs.Tagged.{character}
use Rattle.text_footnotes.specs.Cuts.{cut_of, placed_spaced, placed_within}
use Rattle.text_footnotes.proofs.CutLemmas.{next_letter, all_letters}
use Rattle.text_footnotes.proofs.cutting.CutLines.push_characters.Goals as goal

pub loop-c-preserved : goal.loop-c-preserved
loop-c-preserved g c =
    let seen = g.T.EqualCopy.seen in
    let text = c.args.text.now in
    let tag = seen c.args.tag.now in
    let t = YieldsList-turn (YieldsList-from_chars text c.utf8.text cc) c.loop-c.yielded _
    c.loop-c.yielded_by _ _ c.in-Some.c c.in-Some.is c.next.ensures.steps in
    record {
      placed = next_letter (placed_spaced c.args.width) (chars text) c.loop-c.yielded c.in-Some.c c.in-Some.c tag t
          (cut_of seen c.args.self.now) (cut_of seen c.loop-c.self) (cut_of seen c.push_character.new.self)
          c.loop-c.invariant.placed (c.in_ok-push_character.ensures.placed
          ∙ ap (λ n. placed_within c.args.width (cut_of seen c.loop-c.self) (character n tag)) c.spaced.ensures);
      joined = λ h. c.push_character.ensures.joined (c.loop-c.invariant.joined h);
    }

pub returns-clause-placed : goal.returns-clause-placed
returns-clause-placed g c =
    let seen = g.T.EqualCopy.seen in
    let text = c.args.text.now in
    let t = YieldsList-end (YieldsList-from_chars text c.utf8.text cc) c.loop-c.yielded _
    c.loop-c.yielded_by _ _ c.in-None.is c.next.ensures.steps in
    all_letters (placed_spaced c.args.width) (chars text) c.loop-c.yielded (seen c.args.tag.now) t.1
    (cut_of seen c.args.self.now) (cut_of seen c.loop-c.self) c.loop-c.invariant.placed

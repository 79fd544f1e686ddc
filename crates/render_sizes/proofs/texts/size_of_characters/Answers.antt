use Rattle.std.proofs.Common.{chars}
use Rattle.std.proofs.lemmas.Iterator.{YieldsList-from_chars}
use Rattle.std.proofs.lemmas.Iterator.Consumers.{YieldsList-turn, YieldsList-end}
use Rattle.render_sizes.proofs.SizeLemmas.{next_size, stays_capped, whole_size}
use Rattle.render_sizes.proofs.texts.size_of_characters.Goals as goal

pub loop-c-preserved : goal.loop-c-preserved
loop-c-preserved c =
    let text = c.args.text.now in
    let t = YieldsList-turn (YieldsList-from_chars text c.utf8.text cc) c.loop-c.yielded _
    c.loop-c.yielded_by _ _ c.in-Some.c c.in-Some.is c.next.ensures.steps in
    record {
      same = next_size (chars text) c.loop-c.yielded c.in-Some.c c.in-Some.c c.added.result c.loop-c.columns
          c.saturating_add-columns.result _ c.loop-c.gap c.is_whitespace-is_space.result t
          c.is_whitespace-is_space.ensures c.added.ensures c.saturating_add-columns.ensures c.loop-c.invariant.same;
      fits = stays_capped c.loop-c.columns c.added.result c.saturating_add-columns.result
          c.saturating_add-columns.ensures;
    }

pub returns : goal.returns
returns c =
    let text = c.args.text.now in
    let t = YieldsList-end (YieldsList-from_chars text c.utf8.text cc) c.loop-c.yielded _
    c.loop-c.yielded_by _ _ c.in-None.is c.next.ensures.steps in
    whole_size (chars text) c.loop-c.yielded c.loop-c.columns _ c.loop-c.gap t.1 c.loop-c.invariant.fits
    c.loop-c.invariant.same

use Rattle.std.proofs.Common.{◌∙◌, ap, chars, fold, refl}
use Rattle.rules_table.specs.Actions.{act, keep_pending}
use Rattle.rules_actions.specs.Parsed.{parsed}
use Rattle.rules_table.specs.State.{State}
use Rattle.rules_steps.proofs.TextLemmas.{as_dropped, as_in_body, as_inserted, as_kept, flag_emitted, flag_kept}
use Rattle.rules_steps.proofs.TextLemmas.{flag_reconstructed, flag_said}
use Rattle.rules_steps.proofs.text.say_as.Goals as goal

pub returns-in-Dropped-clause-seen : goal.returns-in-Dropped-clause-seen
returns-in-Dropped-clause-seen g c =
    let tree = g.S.TreeSink in
    let cs = c.args.run in
    let page = c.args.page.now in
    let old : State = parsed tree.view page.kept page.tree.held page.tree.sink in
    as_dropped c.runs_of_text.ensures c.args.class cs old c.in-Dropped.is c.requires.calm c.requires.mode
    c.requires.all

pub returns-in-Inserted-clause-seen : goal.returns-in-Inserted-clause-seen
returns-in-Inserted-clause-seen g c =
    let tree = g.S.TreeSink in
    let cs = c.args.run in
    let page = c.args.page.now in
    let old : State = parsed tree.view page.kept page.tree.held page.tree.sink in
    let made = c.say.new.self in
    let new : State = parsed tree.view made.kept made.tree.held made.tree.sink in
    as_inserted c.runs_of_text.ensures c.args.class cs cs old new c.in-Inserted.is
    c.requires.calm c.requires.mode
    c.requires.all refl c.in_ok-say-in-Inserted.ensures.seen

pub returns-in-Inserted-clause-calm : goal.returns-in-Inserted-clause-calm
returns-in-Inserted-clause-calm g c =
    let tree = g.S.TreeSink in
    let cs = c.args.run in
    let page = c.args.page.now in
    let old : State = parsed tree.view page.kept page.tree.held page.tree.sink in
    let made = c.say.new.self in
    let new : State = parsed tree.view made.kept made.tree.held made.tree.sink in
    record {
      ready = c.in_ok-say-in-Inserted.ensures.ready;
      flag = flag_said c.args.run old new c.in_ok-say-in-Inserted.ensures.seen
          c.requires.calm.flag;
    }

pub returns-in-InBody-clause-seen : goal.returns-in-InBody-clause-seen
returns-in-InBody-clause-seen g c =
    let tree = g.S.TreeSink in
    let cs = c.args.run in
    let page = c.args.page.now in
    let old : State = parsed tree.view page.kept page.tree.held page.tree.sink in
    let kept = c.reconstruct.new.self in
    let between : State = parsed tree.view kept.kept kept.tree.held kept.tree.sink in
    let made = c.say_emitted.new.page in
    let new : State = parsed tree.view made.kept made.tree.held made.tree.sink in
    as_in_body c.runs_of_text.ensures c.args.class cs old between new c.in-InBody.is c.requires.calm c.requires.mode
    c.requires.all c.requires.some
    c.in_ok-reconstruct-in-InBody.ensures.seen c.in_ok-say_emitted-in-InBody.ensures.seen

pub returns-in-InBody-clause-calm : goal.returns-in-InBody-clause-calm
returns-in-InBody-clause-calm g c =
    let tree = g.S.TreeSink in
    let cs = c.args.run in
    let page = c.args.page.now in
    let old : State = parsed tree.view page.kept page.tree.held page.tree.sink in
    let kept = c.reconstruct.new.self in
    let between : State = parsed tree.view kept.kept kept.tree.held kept.tree.sink in
    let made = c.say_emitted.new.page in
    let new : State = parsed tree.view made.kept made.tree.held made.tree.sink in
    record {
      ready = c.in_ok-say_emitted-in-InBody.ensures.ready;
      flag = flag_emitted cs between new c.in_ok-say_emitted-in-InBody.ensures.seen
          (flag_reconstructed old between c.in_ok-reconstruct-in-InBody.ensures.seen c.requires.calm.flag);
    }

pub returns-in-Kept-clause-seen : goal.returns-in-Kept-clause-seen
returns-in-Kept-clause-seen g c =
    let tree = g.S.TreeSink in
    let cs = c.args.run in
    let page = c.args.page.now in
    let old : State = parsed tree.view page.kept page.tree.held page.tree.sink in
    let made = c.keep_pending.new.self in
    let new : State = parsed tree.view made.kept made.tree.held made.tree.sink in
    as_kept c.runs_of_text.ensures c.args.class cs old new c.in-Kept.is c.requires.calm c.requires.mode
    c.requires.all
    (c.in_ok-keep_pending-in-Kept.ensures.seen ∙ ap (fold (λ s k. act (keep_pending k) s) old) c.as_str.ensures)

pub returns-in-Kept-clause-calm : goal.returns-in-Kept-clause-calm
returns-in-Kept-clause-calm g c =
    let tree = g.S.TreeSink in
    let cs = c.args.run in
    let page = c.args.page.now in
    let old : State = parsed tree.view page.kept page.tree.held page.tree.sink in
    let made = c.keep_pending.new.self in
    let new : State = parsed tree.view made.kept made.tree.held made.tree.sink in
    record {
      ready = c.in_ok-keep_pending-in-Kept.ensures.ready;
      flag = flag_kept (chars c.as_str.result.now) old new c.in_ok-keep_pending-in-Kept.ensures.seen
          c.requires.calm.flag;
    }

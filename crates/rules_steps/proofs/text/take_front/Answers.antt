use Rattle.std.proofs.Common.{chars, ap, ◌∙◌}
use Rattle.rules_actions.specs.Parsed.{parsed}
use Rattle.rules_table.specs.State.{State}
use Rattle.rules_steps.specs.Runs.{is_alike}
use Rattle.rules_table_laws.specs.TextRuns.{emitted, took}
use Rattle.rules_steps.proofs.TextLemmas.{as_foreign, after_less, front_all, none_left, none_less, took_front}
use Rattle.rules_steps.proofs.text.take_front.Goals as goal

pub returns-then-not-takes_text_here-clause-seen : goal.returns-then-not-takes_text_here-clause-seen
returns-then-not-takes_text_here-clause-seen g c =
    let tree = g.S.TreeSink in
    let cs = chars c.args.text.now in
    let page = c.args.page.now in
    let old : State = parsed tree.view page.kept page.tree.held page.tree.sink in
    let made = c.say_emitted.new.page in
    let new : State = parsed tree.view made.kept made.tree.held made.tree.sink in
    none_left cs old new (as_foreign c.runs_of_text.ensures cs old new c.takes_text_here.result c.requires.calm
    c.takes_text_here.ensures.text c.if-not-takes_text_here.true
    (c.in_ok-say_emitted.ensures.seen ∙ ap (λ l. emitted l old) c.in_ok-from_str.ensures))

pub returns-then-not-takes_text_here-clause-less : goal.returns-then-not-takes_text_here-clause-less
returns-then-not-takes_text_here-clause-less g c =
    none_less (is_alike c.args.is_space) (chars c.args.text.now) c.requires.first

pub returns-then-is_same_class-clause-seen : goal.returns-then-is_same_class-clause-seen
returns-then-is_same_class-clause-seen g c =
    let tree = g.S.TreeSink in
    let cs = chars c.args.text.now in
    let page = c.args.page.now in
    let old : State = parsed tree.view page.kept page.tree.held page.tree.sink in
    let made = c.say_as.new.page in
    let new : State = parsed tree.view made.kept made.tree.held made.tree.sink in
    none_left cs old new (c.in_ok-say_as.ensures.seen ∙ ap (λ l. took l old) c.in_ok-from_str-2.ensures)

pub returns-then-is_same_class-clause-less : goal.returns-then-is_same_class-clause-less
returns-then-is_same_class-clause-less g c =
    none_less (is_alike c.args.is_space) (chars c.args.text.now) c.requires.first

pub say_as-requires-2-clause-all : goal.say_as-requires-2-clause-all
say_as-requires-2-clause-all g c =
    let tree = g.S.TreeSink in
    let cs = chars c.args.text.now in
    let page = c.args.page.now in
    let old : State = parsed tree.view page.kept page.tree.held page.tree.sink in
    front_all c.text_class-class.result c.args.is_space cs c.in_ok-from_str-3.field-0 old
    (c.in_ok-from_str-3.ensures ∙ c.split_alike.ensures.front) c.text_class-class.ensures

pub returns-clause-seen : goal.returns-clause-seen
returns-clause-seen g c =
    let tree = g.S.TreeSink in
    let cs = chars c.args.text.now in
    let page = c.args.page.now in
    let old : State = parsed tree.view page.kept page.tree.held page.tree.sink in
    let made = c.say_as-2.new.page in
    let new : State = parsed tree.view made.kept made.tree.held made.tree.sink in
    took_front (is_alike c.args.is_space) cs c.in_ok-from_str-3.field-0 (chars c.split_alike.result.1.now) old
    new (c.in_ok-from_str-3.ensures ∙ c.split_alike.ensures.front) c.split_alike.ensures.rest
    c.in_ok-say_as-2.ensures.seen

pub returns-clause-less : goal.returns-clause-less
returns-clause-less g c =
    after_less (is_alike c.args.is_space) (chars c.args.text.now) (chars c.split_alike.result.1.now)
    c.split_alike.ensures.rest c.requires.first

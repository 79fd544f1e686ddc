use Rattle.std.proofs.Common.{◌++◌, ap, ◌∙◌, chars, string_bytes}
use Rattle.std.proofs.lemmas.Iterator.{YieldsList-from_chars}
use Rattle.std.proofs.lemmas.Iterator.Consumers.{YieldsList-turn, YieldsList-end}
use Rattle.test_fields.specs.Escapes.{field_of}
use Rattle.test_fields.proofs.TurnLemmas.{all_taken, next_escaped}
use Rattle.test_fields.proofs.escapes.push_escaped.Goals as goal

pub loop-c-preserved : goal.loop-c-preserved
loop-c-preserved c =
    let text = c.args.text.now in
    let turn = YieldsList-turn (YieldsList-from_chars text c.utf8.text cc) c.loop-c.yielded _
    c.loop-c.yielded_by _ _ c.in-Some.c c.in-Some.is c.next.ensures.steps in
    next_escaped (chars text) c.loop-c.yielded c.in-Some.c turn (chars (string_bytes c.args.line.now))
    (chars (string_bytes c.loop-c.line)) (chars (string_bytes c.push_character.new.line)) c.loop-c.invariant
    c.in_ok-push_character.ensures

pub returns : goal.returns
returns c =
    let text = c.args.text.now in
    let end = YieldsList-end (YieldsList-from_chars text c.utf8.text cc) c.loop-c.yielded _
    c.loop-c.yielded_by _ _ c.in-None.is c.next.ensures.steps in
    c.loop-c.invariant
    ∙ ap (λ cs. chars (string_bytes c.args.line.now) ++ field_of cs) (all_taken (chars text) c.loop-c.yielded end.1)

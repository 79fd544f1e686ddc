use Rattle.std.proofs.Common.{chars, string_bytes, ap, ◌∙◌}
use Rattle.std.proofs.lemmas.Str.{chars-nil}
use Rattle.std.proofs.lemmas.Iterator.{YieldsList-from_chars}
use Rattle.std.proofs.lemmas.Iterator.Consumers.{YieldsList-turn, YieldsList-end}
use Rattle.block_trait.specs.Renderers.{struck_character}
use Rattle.block_trait.proofs.StrikingLemmas.{next_flat, all_flat}
use Rattle.block_trait.proofs.striking.strike_all.Goals as goal

pub loop-c-init : goal.loop-c-init
loop-c-init c = ap chars c.new-struck.ensures.bytes ∙ chars-nil

pub loop-c-preserved : goal.loop-c-preserved
loop-c-preserved c =
    let text = c.args.text.now in
    let t = YieldsList-turn (YieldsList-from_chars text c.utf8.text cc) c.loop-c.yielded _
    c.loop-c.yielded_by _ _ c.in-Some.c c.in-Some.is c.next.ensures.steps in
    next_flat (struck_character c.args.count) (chars text) c.loop-c.yielded c.in-Some.c c.in-Some.c
    (chars (string_bytes c.loop-c.struck)) (chars (string_bytes c.push_struck.new.struck)) t
    c.loop-c.invariant c.in_ok-push_struck.ensures

pub returns : goal.returns
returns c =
    let text = c.args.text.now in
    let t = YieldsList-end (YieldsList-from_chars text c.utf8.text cc) c.loop-c.yielded _
    c.loop-c.yielded_by _ _ c.in-None.is c.next.ensures.steps in
    all_flat (struck_character c.args.count) (chars text) c.loop-c.yielded (chars (string_bytes c.loop-c.struck)) t.1
    c.loop-c.invariant

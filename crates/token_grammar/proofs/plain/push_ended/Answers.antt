use Rattle.std.proofs.Common.{sym, ◌∙◌, refl}
use Rattle.std.specs.Str.{chars}
use Rattle.std.proofs.lemmas.Str.{IsUtf8-string_bytes}
use Rattle.token_grammar.proofs.PageTextLemmas.{pushed, ended_other, ended_return}
use Rattle.token_grammar.proofs.plain.push_ended.Goals as goal

pub returns-then-c-ne13 : goal.returns-then-c-ne13
returns-then-c-ne13 c =
    pushed c.push.result _ _ _ c.args.c _ (IsUtf8-string_bytes c.args.page.now) c.ranges.c.0 c.push.ensures.bytes
    (ended_other _ (chars c.args.rest.now) c.if-c-ne13.true)

pub returns : goal.returns
returns c =
    pushed c.push-2.result _ _ _ 10 _ (IsUtf8-string_bytes c.args.page.now) refl c.push-2.ensures.bytes
    (ended_return _ (chars c.args.rest.now) c.if-c-ne13.false
    (sym c.begins_with_line_feed.ensures ∙ c.if-begins_with_line_feed.false))

use Rattle.std.proofs.Common.{◌≡◌, Bor, List, ℕ, chars, string_bytes, sym, ap, ◌∙◌}
use Rattle.std.proofs.lemmas.Str.{IsUtf8-string_bytes}
use Rattle.test_token_sinks.proofs.PageLemmas.{said_on, shown_of, shown-without, shown-by_rule, shown-other}
use Rattle.test_token_sinks.proofs.preformatted_text.PreformattedText.say.Goals as goal
use Rattle.test_token_sinks.proofs.preformatted_text.PreformattedText.say.Goals.{else-self, else-self-via-else-self}
use Rattle.test_token_sinks.proofs.preformatted_text.PreformattedText.say.Goals.{else-self-via-then-self+else-first-eq10}
use Rattle.test_token_sinks.proofs.preformatted_text.PreformattedText.say.Goals.{then-self+then-first-eq10}

pub returns : goal.returns
returns c =
    let first = c.in-Some.first in
    let rest = chars c.in-Some.rest.now in
    let skips = c.self.inside.skips_line_feed in
    let whole = c.in-Some.ensures.value in
    let shown : chars c.if-self.shown.now ≡ shown_of skips first rest = elim c.if-self.branch [
      | then-self+then-first-eq10 w ↦ ap (λ (text : Bor (List ℕ)). chars text.now) w.shown-is ∙
          shown-without skips first rest w.if-self.true w.if-first-eq10.true
      | else-self w ↦ ap (λ (text : Bor (List ℕ)). chars text.now) w.shown-is ∙ (whole ∙ elim w.else-self.branch [
        | else-self-via-then-self+else-first-eq10 v ↦ shown-other skips first rest v.if-first-eq10.false
        | else-self-via-else-self v ↦ shown-by_rule skips first rest v.if-self.false
      ])
    ] in
    said_on c.push_str.result c.args.self.now _ skips first rest c.args.text
    (string_bytes c.self.inside.text) c.if-self.shown.now (string_bytes c.push_str.new.self)
    c.self.view_is (sym c.as_str-text.ensures ∙ whole)
    (IsUtf8-string_bytes c.self.inside.text) c.push_str.ensures.bytes shown

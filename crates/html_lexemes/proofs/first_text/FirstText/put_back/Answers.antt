use Rattle.std.proofs.Common.{◌≡◌, ◌-◌, ◌++◌, sym, ap, ◌∙◌, take, drop, chars, string_bytes, length}
use Rattle.std.proofs.lemmas.Str.{IsUtf8-string_bytes, IsCharBoundary-start, chars-append}
use Rattle.html_lexemes.proofs.QueueLemmas.{put_back, string_length}
use Rattle.html_lexemes.proofs.first_text.FirstText.put_back.Goals as goal

pub invariant_of-self : goal.invariant_of-self
invariant_of-self c = IsCharBoundary-start (string_bytes c.args.text) (IsUtf8-string_bytes c.args.text)

pub invariant_of-self-2 : goal.invariant_of-self-2
invariant_of-self-2 c =
    IsCharBoundary-start (string_bytes c.replace_range.new.self) (IsUtf8-string_bytes c.replace_range.new.self)

pub returns-then-ends_with-clause-ok : goal.returns-then-ends_with-clause-ok
returns-then-ends_with-clause-ok c =
    let bs = string_bytes c.self.inside.text in
    let added = c.as_str-2.result.now in
    let match = c.if-ends_with.ensures.cases in
    let size : c.len.result ≡ match.0 =
    c.len.ensures ∙ string_length c.args.text ∙ ap length (sym c.as_str-2.ensures.value) ∙ sym match.1.0 in
    let front = c.split_at.ensures.front ∙ ap (take c.self.inside.start) c.as_str.ensures.value in
    let back =
    put_back bs c.split_at.result.0.now added c.self.inside.start match.0 c.as_str-2.utf8 c.self.invariant.0
    front match.1.0 match.2 match.1.1 in
    ap (λ n. chars (drop (c.self.inside.start - n) bs)) size
    ∙ back
    ∙ ap (λ l. chars l ++ chars (drop c.self.inside.start bs)) c.as_str-2.ensures.value
    ∙ ap (λ l. chars (string_bytes c.args.text) ++ l) c.self.view_is

pub returns-clause-ok : goal.returns-clause-ok
returns-clause-ok c =
    let rest = drop c.self.inside.start (string_bytes c.self.inside.text) in
    ap chars c.in_ok-replace_range.ensures.bytes
    ∙ ap (λ l. chars (l ++ rest)) c.as_str-3.ensures.value
    ∙ chars-append (string_bytes c.args.text) rest (IsUtf8-string_bytes c.args.text)
    ∙ ap (λ l. chars (string_bytes c.args.text) ++ l) c.self.view_is

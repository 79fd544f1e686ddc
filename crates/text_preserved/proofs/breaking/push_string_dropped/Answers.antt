use Rattle.std.proofs.Common.{◌≡◌, ◌++◌, ◌∷◌, ◌≤◌, length, sym, ap, ◌∙◌, refl, chars, drop, append-nil, arith}
use Rattle.std.proofs.lemmas.Str.{chars-nil, chars_past_char}
use Rattle.text_lines.specs.Tagged.{line_items, tagged}
use Rattle.text_preserved.proofs.DropLemmas.{drop_none, letter_dropped, letter_less}
use Rattle.text_preserved.proofs.breaking.push_string_dropped.Goals as goal

pub returns-then-left-eq0-clause-items : goal.returns-then-left-eq0-clause-items
returns-then-left-eq0-clause-items g c =
    let seen = g.T.EqualCopy.seen in
    c.in_ok-push_str.ensures.ok
    ∙ ap (λ n. line_items seen c.loop-after.line ++ drop n (tagged (chars c.loop-after.rest.now)
    (seen c.args.string.now.tag))) (sym c.if-left-eq0.true) ∙ c.loop-after.invariant.items

pub loop-after-preserved : goal.loop-after-preserved
loop-after-preserved g c =
    let seen = g.T.EqualCopy.seen in
    let split : chars c.loop-after.rest.now ≡ c.in-Some.field-0-0 ∷ chars c.in-Some.after.now
    = chars_past_char c.loop-after.rest.now c.in-Some.after.now c.in-Some.field-0-0 c.loop-after.invariant.text
    c.in-Some.ensures.first in
    let some : 1 ≤ c.loop-after.left = omega (arith, c.if-left-eq0.false) in
    record {
      text = c.in-Some.ensures.texts.1;
      items = ap (λ items. line_items seen c.loop-after.line ++ items)
          (letter_dropped c.loop-after.left (chars c.loop-after.rest.now) (chars c.in-Some.after.now)
          c.in-Some.field-0-0 (seen c.args.string.now.tag) some split) ∙ c.loop-after.invariant.items;
      left = letter_less c.loop-after.left _ (chars c.loop-after.rest.now) (chars c.in-Some.after.now)
          c.in-Some.field-0-0 some split c.loop-after.invariant.left;
      joined = c.loop-after.invariant.joined;
    }

pub returns-clause-items : goal.returns-clause-items
returns-clause-items g c =
    let seen = g.T.EqualCopy.seen in
    let none = ap chars (c.in_default.ensures.none refl) ∙ chars-nil in
    sym (ap (λ cs. line_items seen c.loop-after.line ++ drop c.loop-after.left (tagged cs
    (seen c.args.string.now.tag))) none
    ∙ ap (λ items. line_items seen c.loop-after.line ++ items) (drop_none c.loop-after.left)
    ∙ append-nil (line_items seen c.loop-after.line)) ∙ c.loop-after.invariant.items

pub returns-clause-left : goal.returns-clause-left
returns-clause-left g c =
    let none = ap chars (c.in_default.ensures.none refl) ∙ chars-nil in
    omega (arith, ap length none, c.loop-after.invariant.left)

use Rattle.std.proofs.Common.{refl, sym, ap, ◌∙◌, chars}
use Rattle.std.proofs.lemmas.Str.{chars-nil}
use Rattle.text_pieces.specs.Sources.{is_filled}
use Rattle.text_preserved.specs.Trimming.{has_solid_text, solid_text}
use Rattle.text_preserved.proofs.TrimLemmas.{bare_goes, bare_has, chars_last, filled_last, front_before, solid_has}
use Rattle.text_preserved.proofs.TrimLemmas.{solid_stays, whole_front}
use Rattle.text_preserved.proofs.reading.solid_front.Goals as goal

pub returns-then-is_solid-clause-front : goal.returns-then-is_solid-clause-front
returns-then-is_solid-clause-front c =
    let last = chars_last c.loop-before.rest.now c.in-Some.before.now c.in-Some.c c.in-Some.ensures.last
    c.in-Some.ensures.texts.0 c.in-Some.ensures.texts.1 in
    last ∙ sym (ap (solid_text c.args.width c.args.wraps) last
    ∙ solid_stays c.args.width c.args.wraps (chars c.in-Some.before.now) c.in-Some.c
    (sym c.is_solid.ensures ∙ c.if-is_solid.true)) ∙ c.loop-before.invariant.front

pub returns-then-is_solid-clause-some : goal.returns-then-is_solid-clause-some
returns-then-is_solid-clause-some c =
    let last = chars_last c.loop-before.rest.now c.in-Some.before.now c.in-Some.c c.in-Some.ensures.last
    c.in-Some.ensures.texts.0 c.in-Some.ensures.texts.1 in
    ap is_filled c.in-Some.ensures.last ∙ filled_last c.in-Some.before.now c.in-Some.c c.in-Some.ensures.texts.1
    ∙ sym (solid_has c.args.width c.args.wraps (chars c.in-Some.before.now) c.in-Some.c
    (sym c.is_solid.ensures ∙ c.if-is_solid.true))
    ∙ ap (has_solid_text c.args.width c.args.wraps) (sym last) ∙ c.loop-before.invariant.some

pub loop-before-init : goal.loop-before-init
loop-before-init c =
    record { text = c.utf8.text; front = refl; some = refl; front_of = whole_front c.args.text.now }

pub loop-before-preserved : goal.loop-before-preserved
loop-before-preserved c =
    let last = chars_last c.loop-before.rest.now c.in-Some.before.now c.in-Some.c c.in-Some.ensures.last
    c.in-Some.ensures.texts.0 c.in-Some.ensures.texts.1 in
    let bare = sym c.is_solid.ensures ∙ c.if-is_solid.false in
    record {
      text = c.in-Some.ensures.texts.0;
      front = sym (bare_goes c.args.width c.args.wraps (chars c.in-Some.before.now) c.in-Some.c bare)
          ∙ ap (solid_text c.args.width c.args.wraps) (sym last) ∙ c.loop-before.invariant.front;
      some = sym (bare_has c.args.width c.args.wraps (chars c.in-Some.before.now) c.in-Some.c bare)
          ∙ ap (has_solid_text c.args.width c.args.wraps) (sym last) ∙ c.loop-before.invariant.some;
      front_of = front_before c.args.text.now c.loop-before.rest.now c.in-Some.before.now c.in-Some.c c.utf8.text
          c.loop-before.invariant.front_of c.in-Some.ensures.last c.in-Some.ensures.texts.0;
    }

pub returns-clause-front : goal.returns-clause-front
returns-clause-front c =
    let none = ap chars (c.in_default.ensures.none refl) ∙ chars-nil in
    none ∙ sym (ap (solid_text c.args.width c.args.wraps) none) ∙ c.loop-before.invariant.front

pub returns-clause-some : goal.returns-clause-some
returns-clause-some c =
    let none = c.in_default.ensures.none refl in
    ap is_filled none ∙ sym (ap (λ t. has_solid_text c.args.width c.args.wraps t) (ap chars none ∙ chars-nil))
    ∙ c.loop-before.invariant.some

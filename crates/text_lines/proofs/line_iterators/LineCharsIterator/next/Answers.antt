use Rattle.std.proofs.Common.{◌≡◌, ◌<◌, [], ◌∷◌, length, sym, ◌∙◌, subst, arith}
use Rattle.std.specs.Iterator.{YieldsFirst}
use Rattle.std.proofs.lemmas.Str.{IsUtf8-had}
use Rattle.std.proofs.lemmas.List.{nil_from_length}
use Rattle.std.proofs.lemmas.Bool.Decides.{nat_tests}
use Rattle.text_lines.specs.Elements.{elements_text}
use Rattle.text_lines.specs.Iterating.{chars_left}
use Rattle.text_lines.proofs.Yielding.{none_left, next_text, char_taken, progress}
use Rattle.text_lines.proofs.line_iterators.LineCharsIterator.next.Goals as goal

pub returns-in_err-first-clause-steps : goal.returns-in_err-first-clause-steps
returns-in_err-first-clause-steps g c =
    let s = c.loop-first.self in
    let no_text : s.text.now ≡ [] = nil_from_length s.text.now (grind (arith, nat_tests)) in
    let none : s.elements.now ≡ [] = nil_from_length s.elements.now c.in_err-first.ensures.cases in
    let empty : chars_left s ≡ [] = none_left s.text.now s.elements.now no_text none in
    subst (λ r. YieldsFirst chars_left c.args.self.now r s) (sym c.from_residual.ensures) (
      sym c.loop-first.invariant
          ∙ empty,
      empty,
    )

pub loop-first-preserved : goal.loop-first-preserved
loop-first-preserved g c =
    let s = c.loop-first.self in
    let no_text : s.text.now ≡ [] = nil_from_length s.text.now (grind (arith, nat_tests)) in
    let split : s.elements.now ≡ c.in_ok-first.first.now ∷ c.in_ok-first.others.now = c.in_ok-first.ensures.cases.0 in
    next_text s.text.now c.as_str-self.result.now s.elements.now c.in_ok-first.others.now c.in_ok-first.first.now
    no_text split c.as_str-self.ensures ∙ c.loop-first.invariant

pub returns-clause-steps : goal.returns-clause-steps
returns-clause-steps g c =
    let s = c.loop-first.self in
    let some : 0 < length s.text.now = grind (arith, nat_tests) in
    char_taken _ c.next-next.result s.text.now c.chars-chars.result.rest.now c.next-next.new.self.rest.now
    c.as_str-self-2.result.now (elements_text s.elements.now) (chars_left c.args.self.now)
    c.chars-chars.ensures.rest c.as_str-self-2.ensures (IsUtf8-had s.text.now s.utf8) some
    (sym c.loop-first.invariant) c.next-next.ensures.steps.0

pub returns-clause-goes : goal.returns-clause-goes
returns-clause-goes g c = progress _ (λ x. x) chars_left c.args.self.now _ c.next-next.result tt
    (returns-clause-steps g c)

use Rattle.std.proofs.Common.{◌≤◌, ◌<◌, ◌∷◌, [], sym, ap, arith, ◌∙◌, chars, drop, length, map, string_bytes, take}
use Rattle.std.proofs.lemmas.Iterator.{YieldsList-from_chars}
use Rattle.std.proofs.lemmas.Iterator.Consumers.{YieldsList-turn, YieldsList-end}
use Rattle.std.proofs.lemmas.List.{drop_all, length_push, take_all}
use Rattle.std.proofs.lemmas.Str.{IsUtf8-string_bytes, chars-nil, scalars-chars}
use Rattle.test_fields.proofs.AddedLemmas.{one_more}
use Rattle.test_fields.proofs.TurnLemmas.{all_taken, next_in_back, next_in_front, none_in_back, none_in_front}
use Rattle.test_fields.proofs.TurnLemmas.{turn_scalar}
use Rattle.test_fields.proofs.pieces.halves.Goals as goal

pub loop-c-init : goal.loop-c-init
loop-c-init c = record {
  left = omega arith;
  front = ap chars c.new-front.ensures.bytes ∙ chars-nil ∙ sym (take_all c.args.count [] (omega arith));
  back = ap chars c.new-back.ensures.bytes ∙ chars-nil ∙ sym (drop_all c.args.count [] (omega arith));
}

pub loop-c-preserved-in_ok-push : goal.loop-c-preserved-in_ok-push
loop-c-preserved-in_ok-push c =
    let text = c.args.text.now in
    let read = c.loop-c.yielded in
    let turn = YieldsList-turn (YieldsList-from_chars text c.utf8.text cc) read _
    c.loop-c.yielded_by _ _ c.in-Some.c c.in-Some.is c.next.ensures.steps in
    let more : length read < c.args.count = omega (arith, c.loop-c.invariant.left, c.if-left-gt0.true) in
    record {
      left = omega (arith, c.loop-c.invariant.left, length_push read c.in-Some.c);
      front = one_more (string_bytes c.loop-c.front) (string_bytes c.push.new.self)
          (take c.args.count (take (length read) (chars text))) c.in-Some.c
          (turn_scalar (chars text) read c.in-Some.c turn (scalars-chars text c.utf8.text))
          (IsUtf8-string_bytes c.loop-c.front) c.in_ok-push.ensures.bytes c.loop-c.invariant.front
          ∙ sym (next_in_front (chars text) read c.in-Some.c turn c.args.count more);
      back = c.loop-c.invariant.back ∙ sym (none_in_back (chars text) read c.in-Some.c turn c.args.count more);
    }

pub loop-c-preserved : goal.loop-c-preserved
loop-c-preserved c =
    let text = c.args.text.now in
    let read = c.loop-c.yielded in
    let turn = YieldsList-turn (YieldsList-from_chars text c.utf8.text cc) read _
    c.loop-c.yielded_by _ _ c.in-Some.c c.in-Some.is c.next.ensures.steps in
    let full : c.args.count ≤ length read = omega (arith, c.loop-c.invariant.left, c.if-left-gt0.false) in
    record {
      left = omega (arith, c.loop-c.invariant.left, c.if-left-gt0.false, length_push read c.in-Some.c);
      front = c.loop-c.invariant.front ∙ sym (none_in_front (chars text) read c.in-Some.c turn c.args.count full);
      back = one_more (string_bytes c.loop-c.back) (string_bytes c.push-else-left-gt0.new.self)
          (drop c.args.count (take (length read) (chars text))) c.in-Some.c
          (turn_scalar (chars text) read c.in-Some.c turn (scalars-chars text c.utf8.text))
          (IsUtf8-string_bytes c.loop-c.back) c.in_ok-push-2.ensures.bytes c.loop-c.invariant.back
          ∙ sym (next_in_back (chars text) read c.in-Some.c turn c.args.count full);
    }

pub returns : goal.returns
returns c =
    let text = c.args.text.now in
    let all = all_taken (chars text) c.loop-c.yielded (YieldsList-end (YieldsList-from_chars text c.utf8.text cc)
    c.loop-c.yielded _ c.loop-c.yielded_by _ _ c.in-None.is c.next.ensures.steps).1 in
    ap (map (λ piece. chars (string_bytes piece))) c.in_ok-vec.ensures.items
    ∙ ap (λ front. front ∷ chars (string_bytes c.loop-c.back) ∷ [])
    (c.loop-c.invariant.front ∙ ap (take c.args.count) all)
    ∙ ap (λ back. take c.args.count (chars text) ∷ back ∷ []) (c.loop-c.invariant.back ∙ ap (drop c.args.count) all)

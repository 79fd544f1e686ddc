use Rattle.std.proofs.Common.{arith, ap, subst, sym, ◌∙◌, ◌+◌, ◌*◌, ◌%◌, IsUtf8, chars, map}
use Rattle.std.proofs.lemmas.List.{nil_from_length}
use Rattle.std.proofs.lemmas.Str.{IsUtf8-past_char, chars-nil, chars_past_char}
use Rattle.std.specs.Char.{to_ascii_lowercase}
use Rattle.std.specs.Str.Iter.{chars_rest}
use Rattle.tree_names.specs.Counts.{share_of}
use Rattle.tree_names.proofs.counts.shared_place.Goals as goal

pub loop-c-init : goal.loop-c-init
loop-c-init c =
    let same = ap chars_rest c.into_iter-c-iterator.ensures.into_iter_gives ∙ c.chars-c-items.ensures.rest in record {
      utf8 = subst IsUtf8 (sym same) c.utf8.word;
      within = omega arith;
      same = ap (λ bs. share_of 0 (map to_ascii_lowercase (chars bs))) same;
    }

pub loop-c-preserved : goal.loop-c-preserved
loop-c-preserved c =
    let rest = chars_rest c.next.new.self in
    let step = chars_past_char (chars_rest c.loop-c.c-iterator) rest c.in-Some.c c.loop-c.invariant.utf8
    c.in-Some.ensures.steps.0 in record {
      utf8 = IsUtf8-past_char (chars_rest c.loop-c.c-iterator) rest c.in-Some.c c.loop-c.invariant.utf8
          c.in-Some.ensures.steps.0;
      within = omega arith;
      same = ap (λ k. share_of ((c.loop-c.share * 31 + k) % 128) (map to_ascii_lowercase (chars rest)))
          (c.from.ensures ∙ c.to_ascii_lowercase.ensures.value)
          ∙ ap (λ cs. share_of c.loop-c.share (map to_ascii_lowercase cs)) (sym step) ∙ c.loop-c.invariant.same;
    }

pub returns : goal.returns
returns c =
    let none = ap chars (nil_from_length (chars_rest c.loop-c.c-iterator) c.in-None.ensures.steps.0.0) ∙ chars-nil in
    ap (λ k. 60 + k) (ap (λ cs. share_of c.loop-c.share (map to_ascii_lowercase cs)) (sym none)
    ∙ c.loop-c.invariant.same)

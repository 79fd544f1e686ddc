use Rattle.std.proofs.Common.{◌+◌, None, take, chars, sym, ap, subst, ◌∙◌, arith}
use Rattle.std.proofs.lemmas.Str.{IsUtf8-nil, chars-nil}
use Rattle.std.specs.Option.{option_or}
use Rattle.lex_base.specs.Lookup.{HasNameBeginning}
use Rattle.lex_base.proofs.LongestNames.{Longest, none_longest, grown_longest, stopped_longest, named_text}
use Rattle.lex_base.proofs.SoundReferences.{none_empty}
use Rattle.lex_base.proofs.TextFronts.{read_on}
use Rattle.lex_base.proofs.table.ReferenceTable.longest_name.Goals as goal

pub loop-c-init : goal.loop-c-init
loop-c-init c = record {
  fits = omega arith;
  left = ap (λ i. i.rest.now) c.into_iter-c-iterator.ensures.into_iter_gives ∙ c.chars-c-items.ensures.rest;
  read = IsUtf8-nil;
  found = subst (λ read. Longest c.args.self.now read None) (sym chars-nil)
      (none_longest c.args.self.now None (none_empty c.args.self.now c.names_are_names.ensures));
  can_next = tt;
  is_finite = tt;
}

pub split_at-requires : goal.split_at-requires
split_at-requires c =
    let step =
    read_on c.args.text.now c.loop-c.c-iterator.rest.now c.next.new.self.rest.now c.loop-c.length c.in-Some.c
    c.len_utf8-length.result
    c.utf8.text c.loop-c.invariant.fits c.loop-c.invariant.read c.loop-c.invariant.left c.in-Some.ensures.steps.0
    c.len_utf8-length.ensures.value in
    step.seam

pub loop-c-preserved : goal.loop-c-preserved
loop-c-preserved c =
    let step =
    read_on c.args.text.now c.loop-c.c-iterator.rest.now c.next.new.self.rest.now c.loop-c.length c.in-Some.c
    c.len_utf8-length.result
    c.utf8.text c.loop-c.invariant.fits c.loop-c.invariant.read c.loop-c.invariant.left c.in-Some.ensures.steps.0
    c.len_utf8-length.ensures.value in
    record {
      fits = step.seam.0;
      left = step.left;
      read = step.read;
      found =
          subst (Longest c.args.self.now (chars (take (c.loop-c.length + c.len_utf8-length.result) c.args.text.now)))
          (sym c.or-longest.ensures)
          (subst (λ read. Longest c.args.self.now read (option_or c.in-Some-begun.named c.loop-c.longest))
          (sym step.text)
          (grown_longest c.args.self.now (chars (take c.loop-c.length c.args.text.now)) c.in-Some.c
          c.in-Some-begun.named c.loop-c.longest
          (named_text c.args.self.now c.split_at.result.0.now _ c.in-Some-begun.named
          (ap chars c.split_at.ensures.front ∙ step.text) c.in-Some-begun.ensures) c.loop-c.invariant.found));
      can_next = tt;
      is_finite = tt;
    }

pub returns-in_default : goal.returns-in_default
returns-in_default c =
    let step =
    read_on c.args.text.now c.loop-c.c-iterator.rest.now c.next.new.self.rest.now c.loop-c.length c.in-Some.c
    c.len_utf8-length.result
    c.utf8.text c.loop-c.invariant.fits c.loop-c.invariant.read c.loop-c.invariant.left c.in-Some.ensures.steps.0
    c.len_utf8-length.ensures.value in
    stopped_longest c.args.self.now (chars (take c.loop-c.length c.args.text.now)) (chars c.next.new.self.rest.now)
    (chars c.args.text.now) c.in-Some.c c.loop-c.longest step.whole
    (λ has. c.in_default.ensures
    (subst (HasNameBeginning c.args.self.now) (sym (ap chars c.split_at.ensures.front ∙ step.text)) has))
    c.loop-c.invariant.found

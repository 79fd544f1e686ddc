use Rattle.std.proofs.Common.{refl, ap, sym, ◌∙◌, chars}
use Rattle.token_grammar.proofs.MarkLemmas.{shorter}
use Rattle.token_grammar.proofs.SliceLemmas.{rest_off, rest_on}
use Rattle.rules_table.specs.Encodings.{is_white_space, without_white_space}
use Rattle.rules_table.proofs.encodings.without_white_space.Goals as goal

pub spaces-init : goal.spaces-init
spaces-init c = record { text = c.utf8.text; same = refl }

pub spaces-smaller : goal.spaces-smaller
spaces-smaller c =
    shorter _ _ _ c.spaces.invariant.text c.in-Some.ensures.utf8 c.in-Some.ensures.value

pub spaces-preserved : goal.spaces-preserved
spaces-preserved c = record {
  text = c.in-Some.ensures.utf8;
  same = sym (ap without_white_space c.in-Some.ensures.value
      ∙ rest_on is_white_space c.in-Some.c (chars c.in-Some.later.now)
      (sym c.is_white_space.ensures ∙ c.if-not-is_white_space.false))
      ∙ c.spaces.invariant.same;
}

pub returns-then-not-is_white_space : goal.returns-then-not-is_white_space
returns-then-not-is_white_space c = c.in-Some.ensures.value
    ∙ sym (ap without_white_space c.in-Some.ensures.value
    ∙ rest_off is_white_space c.in-Some.c (chars c.in-Some.later.now)
    (sym c.is_white_space.ensures ∙ c.if-not-is_white_space.true))
    ∙ c.spaces.invariant.same

pub returns : goal.returns
returns c = c.in_default.ensures.value ∙ sym (ap without_white_space c.in_default.ensures.value)
    ∙ c.spaces.invariant.same

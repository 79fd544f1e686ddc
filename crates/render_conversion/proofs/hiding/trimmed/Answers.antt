use Rattle.std.proofs.Common.{refl, ap, sym, ◌∙◌, chars}
use Rattle.std.specs.Char.{is_ascii_whitespace}
use Rattle.token_grammar.proofs.MarkLemmas.{shorter}
use Rattle.token_grammar.proofs.SliceLemmas.{rest_on}
use Rattle.render_conversion.specs.Hiding.{trimmed}
use Rattle.render_conversion.proofs.hiding.trimmed.Goals as goal

pub spaces-init : goal.spaces-init
spaces-init c = record { text = c.utf8.text; same = refl }

pub spaces-smaller : goal.spaces-smaller
spaces-smaller c =
    shorter _ _ _ c.spaces.invariant.text c.in-Some.ensures.utf8 c.in-Some.ensures.value

pub spaces-preserved : goal.spaces-preserved
spaces-preserved c = record {
  text = c.in-Some.ensures.utf8;
  same = sym (ap trimmed c.in-Some.ensures.value
      ∙ rest_on is_ascii_whitespace c.in-Some.c (chars c.in-Some.later.now)
      (sym c.is_ascii_whitespace.ensures.value ∙ c.if-not-is_ascii_whitespace.false))
      ∙ c.spaces.invariant.same;
}

use Rattle.std.proofs.Common.{refl, sym, ap, ◌∙◌}
use Rattle.token_states.specs.Goings.{has_end_tag}
use Rattle.token_states.proofs.EndTagLemmas.{slash_before}
use Rattle.token_states.proofs.raw_text_turns.at_slash.Goals as goal

pub returns-else-has_end_tag : goal.returns-else-has_end_tag
returns-else-has_end_tag c =
    λ table foreign mode e. (
      refl,
      slash_before table mode c.args.kind c.requires
          (ap has_end_tag e ∙ sym c.has_end_tag.ensures ∙ c.if-has_end_tag.false),
    )

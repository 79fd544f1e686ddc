use Rattle.render_sizes.proofs.laws.values_ask_for_no_more_at_least.Goals as goal

pub returns : goal.returns
returns c m values = (c.measured_is_sound.ensures.sound m values).content

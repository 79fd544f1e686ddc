use Rattle.std.proofs.Common.{chars, refl, ◌∙◌}
use Rattle.block_trait.proofs.ImageLemmas.{name_after, name_alone}
use Rattle.block_trait.proofs.images.file_name.Goals as goal

pub loop-front-init : goal.loop-front-init
loop-front-init c = record { text = c.utf8.src; rest = refl }

pub loop-front-preserved : goal.loop-front-preserved
loop-front-preserved c = record {
  text = c.in-Some.ensures.texts.1;
  rest = name_after (chars c.loop-front.name.now) (chars c.in-Some._front.now) (chars c.in-Some.trailing.now)
      c.in-Some.ensures.parts ∙ c.loop-front.invariant.rest;
}

pub returns : goal.returns
returns c = name_alone (chars c.loop-front.name.now) (c.in_default.ensures.none refl) ∙ c.loop-front.invariant.rest

use Rattle.std.proofs.Common.{refl}
use Rattle.text_wrapping.proofs.NormalBlocks.{added_normal}
use Rattle.text_wrapping.proofs.laws.normal_text_is_kept.Goals as goal

pub returns-clause-empty : goal.returns-clause-empty
returns-clause-empty g c = λ width overflow. refl

pub returns-clause-added : goal.returns-clause-added
returns-clause-added g c = λ width overflow source cs main further.
    added_normal width overflow source cs main further

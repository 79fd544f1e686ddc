-- The texts of refusals.
use Rattle.std.specs.Prelude.{ℕ, List, codes}
use Rattle.text_pieces.specs.declared.fault.BlockError.{BlockError}
use Rattle.text_pieces.specs.declared.fault.BlockError.TheVariants.{TooNarrow, Memory, Failed}

abbrev pub narrow_text : List ℕ
narrow_text = codes "output width not wide enough"

abbrev pub fault_text : BlockError → List ℕ
fault_text TooNarrow = narrow_text
fault_text Memory = codes "out of memory"
fault_text Failed = codes "refused after an earlier refusal"

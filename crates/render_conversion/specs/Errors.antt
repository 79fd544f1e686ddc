-- What errors say.
use Rattle.std.specs.Prelude.{ℕ, List, codes}
use Rattle.render_conversion.specs.declared.error.RenderError.{RenderError}
use Rattle.render_conversion.specs.declared.error.RenderError.TheVariants.{Fail, Memory, TooNarrow}

abbrev pub error_text : RenderError → List ℕ
error_text TooNarrow = codes "output width not wide enough"
error_text Fail = codes "nothing to render"
error_text Memory = codes "out of memory"

-- Errors: their texts, and what a refusal of a lower layer is to the callers of this one.
use Rattle.std.specs.Prelude.{ℕ, List, Result, Ok, Err, codes}
use Rattle.page_config.specs.declared.error.Error.{Error}
use Rattle.page_config.specs.declared.error.Error.TheVariants as errors
use Rattle.page_reading.specs.declared.fault.PageFault.{PageFault}
use Rattle.page_reading.specs.declared.fault.PageFault.TheVariants as pages
use Rattle.page_reading.specs.declared.fault.ReadFault.{ReadFault}
use Rattle.page_reading.specs.declared.fault.ReadFault.TheVariants as reading
use Rattle.render_conversion.specs.declared.error.RenderError.{RenderError}
use Rattle.render_conversion.specs.declared.error.RenderError.TheVariants as rendering

-- what is wrong, in words
abbrev pub error_text : Error → List ℕ
error_text errors.TooNarrow = codes "output width not wide enough"
error_text errors.Fail = codes "nothing to render"
error_text errors.IoError = codes "read or write failed"
error_text errors.TooLong = codes "page too long"
error_text errors.Memory = codes "out of memory"

abbrev pub error_of_read : ReadFault → Error
error_of_read reading.IoError = errors.IoError
error_of_read reading.TooLong = errors.TooLong
error_of_read reading.Memory = errors.Memory

-- a reader of a page that was refused before answers no more
abbrev pub error_of_page : PageFault → Error
error_of_page pages.TooLong = errors.TooLong
error_of_page pages.Memory = errors.Memory
error_of_page pages.Failed = errors.Fail

abbrev pub error_of_render : RenderError → Error
error_of_render rendering.TooNarrow = errors.TooNarrow
error_of_render rendering.Fail = errors.Fail
error_of_render rendering.Memory = errors.Memory

-- Lines, or that the page or its width is refused: what is answered of a whole page that was read, and not of a fault,
-- a page too long or allocation failure.
abbrev pub IsAnswer : {T : Type 0} → Result T Error → Type 0
IsAnswer (Ok lines) = Unit {0}
IsAnswer (Err errors.TooNarrow) = Unit {0}
IsAnswer (Err errors.Fail) = Unit {0}
IsAnswer (Err errors.IoError) = ⊥
IsAnswer (Err errors.TooLong) = ⊥
IsAnswer (Err errors.Memory) = ⊥

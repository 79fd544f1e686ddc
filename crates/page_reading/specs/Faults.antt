-- What a refusal of a parser is to a reader of pages.
use Rattle.html_lexemes.specs.declared.fault.ParseFault.{ParseFault}
use Rattle.html_lexemes.specs.declared.fault.ParseFault.TheVariants as parsing
use Rattle.page_reading.specs.declared.fault.PageFault.{PageFault}
use Rattle.page_reading.specs.declared.fault.PageFault.TheVariants as pages

abbrev pub fault_of : ParseFault → PageFault
fault_of parsing.Memory = pages.Memory
fault_of parsing.Failed = pages.Failed

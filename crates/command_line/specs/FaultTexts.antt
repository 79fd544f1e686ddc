-- What is reported of words that are no request.
use Rattle.std.specs.Prelude.{ℕ, List, codes, string_bytes}
use Rattle.std.specs.Str.{trim_end}
use Rattle.command_line.specs.declared.words.WordFault.{WordFault}
use Rattle.command_line.specs.declared.words.WordFault.TheVariants as faults

-- clap's text without white space at its end, or a text of this program
abbrev pub fault_text : WordFault → List ℕ
fault_text (faults.Help text) = string_bytes text
fault_text (faults.Words text) = trim_end (string_bytes text)
fault_text faults.NotUtf8 = codes "a word of the command line is not UTF-8"
fault_text faults.Memory = codes "out of memory"

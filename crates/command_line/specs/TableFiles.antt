-- Tables of references in files.
use Rattle.std.specs.Prelude.{◌≡◌, ℕ, List, Ok, codes}
use Rattle.std.specs.Str.{IsUtf8}
use Rattle.lex_base.specs.Json.{table_of_json}
use Rattle.lex_base.specs.References.{References}
use Rattle.lex_base.specs.declared.table_error.TableError.{TableError}
use Rattle.lex_base.specs.declared.table_error.TableError.TheVariants as errors
use Rattle.command_line.specs.declared.table_fault.TableFault.{TableFault}
use Rattle.command_line.specs.declared.table_fault.TableFault.TheVariants as faults

-- the bytes are a text in UTF-8, and that is the JSON text of this table (WHATWG HTML, 13.5)
abbrev pub IsTableText : List ℕ → References → Type 0
IsTableText bytes table = IsUtf8 bytes × (table_of_json bytes ≡ Ok table)

-- they are that of none
abbrev pub IsNoTable : List ℕ → Type 0
IsNoTable bytes = (table : References) → IsTableText bytes table → ⊥

abbrev pub fault_of_table : TableError → TableFault
fault_of_table errors.Memory = faults.Memory
fault_of_table _ = faults.Refused

-- what is wrong, in words
abbrev pub fault_text : TableFault → List ℕ
fault_text faults.NotRead = codes "bad reference table"
fault_text faults.Refused = codes "bad reference table"
fault_text faults.Memory = codes "out of memory"

use Rattle.std.proofs.Common.{true}
use Rattle.tree_serializer.specs.Escapes.{escaped}
use Rattle.document_laws.proofs.ReadValues.{cut_at_quote, read_value}
use Rattle.document_laws.proofs.escaped.an_escaped_value_is_read_back.Goals as goal

pub returns-clause-slice : goal.returns-clause-slice
returns-clause-slice c = λ cs rest. cut_at_quote (escaped true cs) rest (c.an_escape_holds_no_markup.ensures.quote cs)

pub returns-clause-value : goal.returns-clause-value
returns-clause-value c = λ table cs knows h. read_value table knows cs h

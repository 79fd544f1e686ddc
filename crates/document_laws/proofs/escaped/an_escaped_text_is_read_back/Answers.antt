-- What is read after a text is read after its escape, and a text has one reading.
use Rattle.std.proofs.Common.{◌++◌, false, subst}
use Rattle.token_grammar.specs.Items.{characters}
use Rattle.token_grammar.specs.Reading.{Reading}
use Rattle.tree_serializer.specs.Escapes.{escaped}
use Rattle.document_laws.proofs.ReadTexts.{emitted_text}
use Rattle.document_laws.proofs.escaped.an_escaped_text_is_read_back.Goals as goal

pub returns : goal.returns
returns g c = λ table mode state cs rest final knows h reads.
    let means = g.S.TokenSink.means in
    let lawful = g.met.S.TokenSink.lawful in
    let trailing = means.step state (characters cs) in (
      λ whole.
          let some = c.some_reading.ensures table mode trailing rest in
          let back = emitted_text table knows means lawful mode reads rest some.0 state cs h some.1 in
          let same = c.one_reading.ensures table mode state (escaped false cs ++ rest) some.0 final back whole in
          subst (λ f. Reading table means mode trailing rest f) same some.1,
      λ r. emitted_text table knows means lawful mode reads rest final state cs h r,
    )

-- When a tokenizer may be called.
use Rattle.token_grammar.specs.Items.{Item}
use Rattle.token_grammar.specs.Kinds.{IsReadyFor}
use Rattle.token_states.specs.PlaceKinds.{IsPlaceOf}
use Rattle.html_tokenizer.specs.declared.reader.Reader.{Reader}

-- The sink is ready for the text that is read, and what is held back is of that text.
pub record IsFitReader {A : Type 0} (ready : A → Type 0) (welcomes : A → Item → Type 0) (reader : Reader)
    (state : A) : Type 0 where
  pub is_ready : IsReadyFor ready welcomes reader.mode.text state
  pub is_placed : IsPlaceOf reader.mode.text reader.pending.place

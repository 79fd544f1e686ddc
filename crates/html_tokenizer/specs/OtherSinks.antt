-- A tokenizer whose sink was changed from outside, but for its state: it goes on as it would have.
use Rattle.std.specs.Prelude.{◌≡◌, ℕ, List}
use Rattle.token_grammar.specs.Items.{Item}
use Rattle.token_grammar.specs.Meaning.{Meaning}
use Rattle.html_tokenizer.specs.Completes.{Completes, IsFit, has_failed}
use Rattle.html_tokenizer.specs.Holdings.{HoldsUnless}
use Rattle.html_tokenizer.specs.declared.tokenizer.Tokenizer.{Tokenizer}

-- what a tokenizer knows of what it holds, which is proved anew where its sink was lent
abbrev pub HoldsIn : {S : Type 0} → Tokenizer S → Type 0
HoldsIn tokenizer = HoldsUnless tokenizer.is_over tokenizer.table tokenizer.reader

abbrev pub with_sink : {S : Type 0} → S → (tokenizer : Tokenizer S) → HoldsIn tokenizer → Tokenizer S
with_sink sink tokenizer holds = record tokenizer { sink = sink; holds = holds }

pub record GoesOnAs {S A H : Type 0} (state : S → A) (means : Meaning A H) (ready : A → Type 0)
    (welcomes : A → Item → Type 0) (old new : Tokenizer S) : Type 0 where
  pub works : has_failed new ≡ has_failed old
  pub fit : IsFit state ready welcomes old → IsFit state ready welcomes new
  pub completes : (rest : List ℕ) (final : A) → Completes state means new rest final →
      Completes state means old rest final

-- What a tokenizer does depends on its sink's state alone.
use Rattle.std.proofs.Common.{◌≡◌, refl, subst, sym}
use Rattle.token_grammar.specs.Items.{Item}
use Rattle.token_grammar.specs.Meaning.{Meaning}
use Rattle.html_tokenizer.specs.Completes.{Completes, IsFit, has_failed}
use Rattle.html_tokenizer.specs.Fits.{IsFitReader}
use Rattle.html_tokenizer.specs.OtherSinks.{GoesOnAs, HoldsIn, with_sink}
use Rattle.html_tokenizer.specs.PageRest.{page_rest}
use Rattle.html_tokenizer.specs.Reads.{Reads}
use Rattle.html_tokenizer.specs.declared.tokenizer.Tokenizer.{Tokenizer}

pub goes_on_as : {S A H : Type 0} (state : S → A) (means : Meaning A H) (ready : A → Type 0)
    (welcomes : A → Item → Type 0) (tokenizer : Tokenizer S) (sink : S) (holds : HoldsIn tokenizer) →
    state sink ≡ state tokenizer.sink →
    GoesOnAs state means ready welcomes tokenizer (with_sink sink tokenizer holds)
unfolding Completes IsFit has_failed
goes_on_as state means ready welcomes tokenizer sink holds same =
    record {
      works = refl;
      fit = λ fit goes_on. subst (λ now. IsFitReader ready welcomes tokenizer.reader now) (sym same) (fit goes_on);
      completes = λ rest final does. subst
          (λ now. Reads tokenizer.table means tokenizer.reader now (page_rest tokenizer.line_ends rest) final) same
          does;
    }

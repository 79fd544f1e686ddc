-- What a sink means: its state after an item, its reply to it, and whether the adjusted current node is foreign.
use Rattle.std.specs.Prelude.{Bool}
use Rattle.html_lexemes.specs.declared.token.TokenSinkResult.{TokenSinkResult}
use Rattle.token_grammar.specs.Items.{Item}

pub record Meaning (A H : Type 0) : Type 0 where
  pub step : A → Item → A
  pub reply : A → Item → TokenSinkResult H
  pub foreign : A → Bool

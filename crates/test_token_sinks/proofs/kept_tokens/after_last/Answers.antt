use Rattle.std.proofs.Common.{◌++◌, ◌∷◌, [], ap, ◌∙◌}
use Rattle.html_lexemes.specs.declared.token.Token.{Token}
use Rattle.test_token_sinks.proofs.KeptLemmas.{after_text, after_other}
use Rattle.test_token_sinks.proofs.kept_tokens.after_last.Goals as goal

pub returns-in_ok-push_str-in-CharacterTokens : goal.returns-in_ok-push_str-in-CharacterTokens
returns-in_ok-push_str-in-CharacterTokens c =
    let ds = c.in-CharacterTokens.last in
    after_text c.args.tokens.now.items c.pop.new.self.items ds c.args.text c.push_str.new.self
    (c.in-Some.ensures.items ∙ ap (λ (token : Token). c.pop.new.self.items ++ token ∷ []) c.in-CharacterTokens.is)
    (c.in_ok-push_str-in-CharacterTokens.ensures.ok ∙ ap (λ l. ds ++ l) c.as_str.ensures)

pub returns-in_ok-push-in_default-last : goal.returns-in_ok-push-in_default-last
returns-in_ok-push-in_default-last c =
    after_other c.args.tokens.now.items c.push.new.self.items c.pop.new.self.items c.in-Some.last c.args.text
    c.in-Some.ensures.items c.in_ok-push-in_default-last.ensures.items c.in_default-last.not-CharacterTokens

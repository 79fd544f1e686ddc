use Rattle.std.proofs.Common.{ℕ, List, [], ◌∷◌, ◌++◌, string_bytes, ap, ◌∙◌}
use lib.Utf8.{encode}
use Rattle.text_decorators.proofs.Characters.{heading}
use Rattle.text_decorators.proofs.prefixes.header_prefix.Goals as goal

pub returns : goal.returns
unfolding encode
returns c = heading c.args.level (string_bytes c.push.new.self)
    (c.in_ok-push.ensures.bytes ∙ ap (λ (bs : List ℕ). bs ++ (0x20 ∷ [])) c.in_ok-prefix.ensures.bytes)

use Rattle.std.proofs.Common.{◌++◌, List, ℕ, ap, ◌∙◌, chars}
use Rattle.std.proofs.lemmas.Str.{chars-nil}
use Rattle.layout_state.specs.Items.{spaces}
use Rattle.layout_state.proofs.parts.spaces.Goals as goal

pub returns : goal.returns
returns c = c.in_ok-push_spaces.ensures
    ∙ ap (λ (bs : List ℕ). chars bs ++ spaces c.args.columns) c.new-text.ensures.bytes
    ∙ ap (λ (cs : List ℕ). cs ++ spaces c.args.columns) chars-nil

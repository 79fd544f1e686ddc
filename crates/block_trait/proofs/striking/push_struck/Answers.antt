use Rattle.std.proofs.Common.{◌∷◌, ◌++◌, [], ap, ◌∙◌, chars, string_bytes, replicate}
use Rattle.std.proofs.lemmas.List.{append_assoc}
use Rattle.std.proofs.lemmas.Result.{on_ok_weaker}
use Rattle.block_trait.proofs.striking.push_struck.Goals as goal

pub returns : goal.returns
returns c =
    let old = chars (string_bytes c.args.struck.now) in
    on_ok_weaker c.push_strokes.result (λ h. h
    ∙ ap (λ front. front ++ replicate c.strokes_of.result 0x336) c.in_ok-push_character.ensures
    ∙ append_assoc old (c.args.c ∷ []) (replicate c.strokes_of.result 0x336)
    ∙ ap (λ n. old ++ (c.args.c ∷ replicate n 0x336)) c.strokes_of.ensures) c.push_strokes.ensures

-- A quote's lines, step by step.
use Rattle.std.proofs.Common.{◌≡◌, ℕ, List, [], ◌++◌, Option, Some, sym, ap, ◌∙◌}
use Rattle.std.specs.Option.{option_and_then, option_map}
use Rattle.article_layout.specs.Walks.{At, after_quote, with_quote}
use Rattle.article_definitions.specs.Layouts.{Line, Options, parted, prefixed, quote_prefix, room}

-- what it holds is laid out in the room that its prefix leaves, and put after the prefix
pub quoted : (o : Options) (w least within : ℕ) (inside : ℕ → At → Option At) (s inner : At) (lines : List Line) →
    room w 2 least ≡ Some within → inside within (record s { lines = [] }) ≡ Some inner →
    lines ≡ parted o w s.lines ++ prefixed o w quote_prefix quote_prefix inner.lines →
    with_quote o w least inside s ≡ Some (record inner { lines = lines })
quoted o w least within inside s inner lines fits laid put =
    ap (λ x. option_map (after_quote o w s)
    (option_and_then (λ within. inside within (record s { lines = [] })) x)) fits
    ∙ ap (option_map (after_quote o w s)) laid
    ∙ ap (λ ls. let at : Option At = Some (record inner { lines = ls }) in at) (sym put)

-- Rows of nodes before others.
use Rattle.std.proofs.Common.{◌≡◌, ℕ, List, [], ◌∷◌, ◌++◌, sym, ap, ◌∙◌}
use Rattle.std.proofs.lemmas.List.{reverse-append}
use Rattle.std.specs.Prelude.{reverse}
use Rattle.html_render_dom.specs.Numbers.{number_of}
use Rattle.html_render_dom.specs.ChildNodes.{children_left}
use Rattle.render_conversion.specs.Waiting.{numbers_in}
use Rattle.render_conversion.specs.declared.waiting.Row.{Row}

-- a row that is put last is read first
last_first : (old new : List Row) (r : Row) → new ≡ old ++ r ∷ []
    → numbers_in (reverse new) ≡ number_of r.first ∷ (children_left r.others ++ numbers_in (reverse old))
last_first old new r e = ap (λ l. numbers_in (reverse l)) e ∙ ap numbers_in (reverse-append old (r ∷ []))

pub put_first : (old new : List Row) (ns : List ℕ) (r : Row) → ns ≡ number_of r.first ∷ children_left r.others
    → new ≡ old ++ r ∷ [] → numbers_in (reverse new) ≡ ns ++ numbers_in (reverse old)
put_first old new ns r e put = last_first old new r put ∙ ap (λ l. l ++ numbers_in (reverse old)) (sym e)

pub taken_first : (old new : List Row) (r : Row) → old ≡ new ++ r ∷ []
    → numbers_in (reverse old) ≡ number_of r.first ∷ (children_left r.others ++ numbers_in (reverse new))
taken_first old new r e = last_first new old r e

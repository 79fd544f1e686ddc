-- Lines that are emitted are those of the article's answer.
use Rattle.std.proofs.Common.{◌≡◌, ℕ, List, [], ◌∷◌, map, Option, None, Some, refl, sym, ap, subst, ◌∙◌}
use Rattle.std.specs.Option.{option_map}
use Rattle.std.specs.Prelude.{Err, Result, Vec}
use Rattle.std.proofs.lemmas.Option.{none-some, same_Some}
use Rattle.article_answers.specs.ArticleAnswers.{answer_of, shown_of}
use Rattle.article_layout.specs.Seen.{Emitted, emitted, emitted_of}
use Rattle.article_layout.specs.declared.layout.ArticleLine.{ArticleLine}
use Rattle.article_definitions.specs.Layouts.{Line, Options, article_lines}
use Rattle.article_page_laws.specs.ArticlesLaid.{shown_lines}
use Rattle.article_values.specs.Articles.{Blocks}
use Rattle.page_config.specs.PageAnswers.{lines, too_narrow}
use Rattle.page_config.specs.declared.error.Error.{Error}
use Rattle.std.specs.Global.{Global}

items_of : (ls : List Line) → map (λ t. t.items) (map emitted ls) ≡ map (λ l. l.items) ls
items_of [] = refl
items_of (l ∷ ls) = ap (λ rest. l.items ∷ rest) (items_of ls)

items_shown : (ls : List ArticleLine) → map (λ t. t.items) (map emitted_of ls) ≡ shown_of ls
items_shown [] = refl
items_shown (l ∷ ls) = ap (λ rest. (emitted_of l).items ∷ rest) (items_shown ls)

answer_emitted : (found : Option (List Line)) (shown : List ArticleLine) →
    option_map (map emitted) found ≡ Some (map emitted_of shown) →
    answer_of (option_map (map (λ l. l.items)) found) ≡ lines (shown_of shown)
answer_emitted None shown h = absurd (none-some (map emitted_of shown) h)
answer_emitted (Some ls) shown h =
    ap lines (sym (items_of ls) ∙ ap (map (λ (t : Emitted). t.items))
    (same_Some (map emitted ls) (map emitted_of shown) h)
    ∙ items_shown shown)

-- by the options and the blocks that are handed on
pub emitted_answer : (o given : Options) (width : ℕ) (blocks lent : Blocks) (shown : List ArticleLine) → given ≡ o →
    lent ≡ blocks → option_map (map emitted) (article_lines given width lent) ≡ Some (map emitted_of shown) →
    answer_of (shown_lines o width blocks) ≡ lines (shown_of shown)
emitted_answer o given width blocks lent shown same its h = answer_emitted (article_lines o width blocks) shown
    (subst (λ bs. option_map (map emitted) (article_lines o width bs) ≡ Some (map emitted_of shown)) its
    (subst (λ os. option_map (map emitted) (article_lines os width lent) ≡ Some (map emitted_of shown)) same h))

pub emitted_narrow : (o given : Options) (width : ℕ) (blocks lent : Blocks) → given ≡ o → lent ≡ blocks →
    article_lines given width lent ≡ None → answer_of (shown_lines o width blocks) ≡ too_narrow
emitted_narrow o given width blocks lent same its h =
    ap (λ found. answer_of (option_map (map (λ (l : Line). l.items)) found))
    (sym (ap (λ os. article_lines os width blocks) same) ∙ (sym (ap (λ bs. article_lines given width bs) its) ∙ h))

pub same_error : (a b : Error) → (let r : Result (Vec ArticleLine Global) Error = Err a in r) ≡ Err b → a ≡ b
same_error a b same = cc

-- How the values of an article are rendered: as the lines of the article.
use Rattle.std.specs.Prelude.{◌≡◌, ℕ, Bool, List, Option, map}
use Rattle.std.specs.Option.{option_map}
use Rattle.article_definitions.specs.Layouts.{Options, Tag, article_lines}
use Rattle.article_values.specs.Articles.{Blocks}
use Rattle.article_page_laws.specs.Pages.{options_of}
use Rattle.html_render_tree.specs.PageLines.{Setting, page_lines}
use Rattle.render_values.specs.Values.{Values}
use Rattle.text_lines.specs.Tagged.{Item}
use Rattle.text_block_renderer.specs.PlainText.{plain_closes, plain_marking}

-- what matters to an article of how pages are rendered, and whether spans are marked
abbrev pub options_by : {H : Type 0} → Setting H → (decorates : Bool) → Options
options_by c decorates = options_of c.options decorates c.min_wrap

-- what stands on an article's lines, where it has some at a width
abbrev pub shown_lines : Options → (width : ℕ) → Blocks → Option (List (List (Item Tag)))
shown_lines o width blocks = option_map (map (λ l. l.items)) (article_lines o width blocks)

-- Values are rendered as these lines, and a width is too narrow for them where there are none.
abbrev pub AreLaidAs : Setting (Unit {0}) → (width : ℕ) → Option (List (List (Item Tag))) → Values → Type 0
AreLaidAs c width shown values = page_lines plain_marking (λ _. tt) plain_closes c width values ≡ shown

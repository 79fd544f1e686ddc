-- A small model of a tree builder: its open elements, the text of the page, and the rule that a line feed right after
-- the start tag of `pre` is left out (WHATWG HTML, 13.2.6.4.7).
use Rattle.std.specs.Prelude.{ℕ, Bool, false, ◌==◌, ◌&&◌, if◌then◌else◌, List, [], ◌∷◌, ◌++◌, codes, length, ◌<◌}
use Rattle.std.specs.Str.{bytes_eq}
use Rattle.html_lexemes.specs.declared.token.TagKind.{TagKind}
use Rattle.html_lexemes.specs.declared.token.TagKind.TheVariants.{StartTag, EndTag}
use Rattle.html_lexemes.specs.declared.token.TokenSinkResult.TheVariants.{Continue}
use Rattle.token_grammar.specs.Items.{Item, characters, tag}
use Rattle.token_grammar.specs.Meaning.{Meaning}

-- the names of the open elements, the innermost first; whether a line feed is left out next; and the text
pub record Page : Type 0 where
  pub elements : List (List ℕ)
  pub skips_line_feed : Bool
  pub text : List ℕ

-- an element is open: the first is never closed
abbrev pub HasOpen : Page → Type 0
HasOpen page = 0 < length page.elements

abbrev pub settled : Page → Page
settled page = record page { skips_line_feed = false }

abbrev pub said : Page → List ℕ → Page
said page [] = page
said page (c ∷ cs) =
    record page {
      skips_line_feed = false;
      text = page.text ++ (if page.skips_line_feed && c == 10 then cs
          else c ∷ cs);
    }

-- without the innermost, unless it is the last
abbrev pub closed : List (List ℕ) → List (List ℕ)
closed [] = []
closed (name ∷ []) = name ∷ []
closed (name ∷ other ∷ names) = other ∷ names

abbrev pub after_tag : TagKind → List ℕ → Page → Page
after_tag StartTag name page =
    record page { elements = name ∷ page.elements; skips_line_feed = bytes_eq name (codes "pre") }
after_tag EndTag name page = record page { elements = closed page.elements; skips_line_feed = false }

-- An error ends the rule too, as in html5ever: the standard knows no error between two tokens.
abbrev pub page_after : Page → Item → Page
page_after page (characters cs) = said page cs
page_after page (tag t) = after_tag t.kind t.name page
page_after page _ = settled page

abbrev pub is_named : List ℕ → List (List ℕ) → Bool
is_named name [] = false
is_named name (innermost ∷ names) = bytes_eq innermost name

-- the current node is foreign: here, where it is named `svg`
abbrev pub is_in_svg : Page → Bool
is_in_svg page = is_named (codes "svg") page.elements

abbrev pub page_meaning : {H : Type 0} → Meaning Page H
page_meaning = record { step = page_after; reply = λ _ _. Continue; foreign = is_in_svg }

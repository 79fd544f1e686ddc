-- What is held of comments, doctypes and declarations.
use Rattle.std.specs.Prelude.{◌≡◌, ℕ, Bool, true, false, not, ◌==◌, ◌&&◌, ◌||◌, List, [], ◌∷◌, codes, None, IsTrue}
use Rattle.std.specs.Char.{to_ascii_lowercase}
use Rattle.std.specs.List.{list_all}
use Rattle.token_grammar.specs.Comments.{comment_mark}
use Rattle.token_grammar.specs.Slices.{begins, cut}

-- no `>` is held
abbrev pub HasNoGreater : List ℕ → Type 0
HasNoGreater held = IsTrue (list_all (λ c. not (c == 62)) held)

-- a comment that has not come to its end: no `>` or `->` at its front, and no end mark
pub record IsOpenComment (held : List ℕ) : Type 0 where
  pub no_greater : begins (codes ">") held ≡ false
  pub no_arrow : begins (codes "->") held ≡ false
  pub no_mark : cut comment_mark held ≡ None

-- a text is a beginning of a mark, and not all of it; and of a word, ASCII case aside
abbrev pub is_begun : List ℕ → List ℕ → Bool
is_begun [] cs = false
is_begun (m ∷ ms) [] = true
is_begun (m ∷ ms) (c ∷ cs) = c == m && is_begun ms cs

abbrev pub is_begun_word : List ℕ → List ℕ → Bool
is_begun_word [] cs = false
is_begun_word (w ∷ ws) [] = true
is_begun_word (w ∷ ws) (c ∷ cs) = to_ascii_lowercase c == w && is_begun_word ws cs

-- after `<!`, the beginning of what opens a comment, a doctype or a section
abbrev pub is_begun_declaration : List ℕ → Bool
is_begun_declaration held = is_begun (codes "--") held || is_begun_word (codes "doctype") held
    || is_begun (codes "[CDATA[") held

-- in a section, the beginning of its end mark
abbrev pub is_begun_section_end : List ℕ → Bool
is_begun_section_end held = is_begun (codes "]]>") held

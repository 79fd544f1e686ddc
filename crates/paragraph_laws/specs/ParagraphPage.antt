-- Pages that are lists of paragraphs with nothing between them (WHATWG HTML, 13.1, of which this is a small part). A
-- page is a text, a list of code points.
use Rattle.std.specs.Prelude.{◌≡◌, ◌≢◌, ℕ, List, [], ◌∷◌, ◌++◌, ◌⊎◌, codes, Contains}
use Rattle.lex_base.specs.References.{basic_references}

-- A reference: `&` and a name of the basic table, which stands for its character.
abbrev pub IsReference : List ℕ → ℕ → Type 0
IsReference source c = (name : List ℕ) × (source ≡ 38 ∷ name) × Contains basic_references (name, c ∷ [])

-- The text begins with a name of the basic table, which stands for this character, and goes on with the rest.
pub record BeginsWithName (text : List ℕ) (c : ℕ) (rest : List ℕ) : Type 0 where
  pub name : List ℕ
  pub whole : text ≡ name ++ rest
  pub stands : Contains basic_references (name, c ∷ [])

-- A character as it is written: itself, where it is no `<`, no `&` and no NUL, or a reference.
abbrev pub IsCharacter : List ℕ → ℕ → Type 0
IsCharacter source c = ((source ≡ c ∷ []) × (c ≢ 60) × (c ≢ 38) × (c ≢ 0)) ⊎ IsReference source c

-- A text as it is written: its characters, one after the other.
abbrev pub IsText : List ℕ → List ℕ → Type 0
IsText source [] = source ≡ []
IsText source (c ∷ cs) =
    (first : List ℕ) × (rest : List ℕ) × (source ≡ first ++ rest) × IsCharacter first c × IsText rest cs

abbrev pub start_tag : List ℕ
start_tag = codes "<p>"

abbrev pub end_tag : List ℕ
end_tag = codes "</p>"

-- A page of paragraphs with these texts: each `<p>`, its text, and `</p>`.
abbrev pub IsParagraphPage : List ℕ → List (List ℕ) → Type 0
IsParagraphPage page [] = page ≡ []
IsParagraphPage page (text ∷ texts) =
    (source : List ℕ) × (rest : List ℕ) × (page ≡ start_tag ++ (source ++ (end_tag ++ rest)))
    × IsText source text × IsParagraphPage rest texts

-- no two lists of texts are the page
abbrev pub HasOneList : List ℕ → Type 0
HasOneList page =
    (texts others : List (List ℕ)) → IsParagraphPage page texts → IsParagraphPage page others → texts ≡ others

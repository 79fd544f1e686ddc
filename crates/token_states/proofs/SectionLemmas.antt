-- A further character of a CDATA section.
use Rattle.std.proofs.Common.{◌≡◌, ◌≢◌, ◌==◌, [], ◌∷◌, ◌++◌, ◌⊎◌, ◌∙◌, IsTrue, IsUtf8, List, None, Option, Some, ap}
use Rattle.std.proofs.Common.{codes, false, inl, inr, option_map, refl, subst, sym, true, ℕ}
use Rattle.std.specs.Str.{bytes_eq, chars}
use Rattle.std.proofs.lemmas.Bool.{false≢true, eqb-true, ne_eqb, and_parts}
use Rattle.std.proofs.lemmas.Slice.Eq.{bytes_eq-Decides}
use lib.Utf8.{encode}
use Rattle.lex_base.proofs.Utf8Order.{same_by_bytes}
use Rattle.token_grammar.specs.Lexemes.{cdata_lexeme, ordinary_item}
use Rattle.token_grammar.specs.Slices.{Cut, after, cut, cut_here, cut_or_all, longer}
use Rattle.token_grammar.specs.declared.modes.Mode.{Mode}
use Rattle.token_states.specs.MarkupSound.{is_begun_section_end}
use Rattle.token_states.specs.SectionTurns.{SectionTurns, section_lexeme, with_items}
use Rattle.token_states.specs.declared.section_turns.SectionTurn.TheVariants.{Goes, Shifts, Text}

-- ---- a character at which no end mark begins

more : (mode : Mode) (c : ℕ) (later : Option Cut) (cs : List ℕ)
    → cdata_lexeme mode (cut_or_all (option_map (longer c) later) (c ∷ cs))
    ≡ with_items (ordinary_item c ∷ []) (cdata_lexeme mode (cut_or_all later cs))
more mode c None cs = refl
more mode c (Some later) cs = refl

no_mark : (mode : Mode) (c : ℕ) (cs : List ℕ) → after (codes "]]>") (c ∷ cs) ≡ None →
    section_lexeme mode (c ∷ cs) ≡ with_items (ordinary_item c ∷ []) (section_lexeme mode cs)
no_mark mode c cs e =
    let mark : List ℕ → Option (List ℕ) = after (codes "]]>") in
    ap (λ o. cdata_lexeme mode (cut_or_all (cut_here c o (cut mark cs)) (c ∷ cs))) e ∙ more mode c (cut mark cs) cs

first_differs : (c : ℕ) (cs : List ℕ) → (c == 93) ≡ false → after (codes "]]>") (c ∷ cs) ≡ None
first_differs c cs e = rw e refl

second_differs : (c : ℕ) (cs : List ℕ) → (c == 93) ≡ false → after (codes "]]>") (93 ∷ c ∷ cs) ≡ None
second_differs c cs e = rw e refl

third_differs : (c : ℕ) (cs : List ℕ) → (c == 62) ≡ false → after (codes "]]>") (93 ∷ 93 ∷ c ∷ cs) ≡ None
third_differs c cs e = rw e refl

-- ---- text

text-none : (mode : Mode) (c : ℕ) → (c == 93) ≡ false → SectionTurns mode [] c Text []
text-none mode c e = (refl, λ rest. no_mark mode c rest (first_differs c rest e))

text-one : (mode : Mode) (c : ℕ) → (c == 93) ≡ false → SectionTurns mode (93 ∷ []) c Text (93 ∷ [])
text-one mode c e = (
  refl,
  λ rest.
      no_mark mode 93 (c ∷ rest) (second_differs c rest e) ∙ ap (with_items (ordinary_item 93 ∷ []))
      (no_mark mode c rest (first_differs c rest e)),
)

pub text-two : (mode : Mode) (c : ℕ) → c ≢ 93 → c ≢ 62 → SectionTurns mode (93 ∷ 93 ∷ []) c Text (93 ∷ 93 ∷ [])
text-two mode c no_bracket no_end = (
  refl,
  λ rest.
      no_mark mode 93 (93 ∷ c ∷ rest) (third_differs c rest (ne_eqb c 62 no_end))
      ∙ ap (with_items (ordinary_item 93 ∷ [])) ((text-one mode c (ne_eqb c 93 no_bracket)).1 rest),
)

pub shifts : (mode : Mode) (c : ℕ) → c ≡ 93 → SectionTurns mode (93 ∷ 93 ∷ []) c Shifts (93 ∷ 93 ∷ [])
shifts mode c e =
    (refl, λ rest. ap (λ d. section_lexeme mode (93 ∷ 93 ∷ d ∷ rest)) e ∙ no_mark mode 93 (93 ∷ 93 ∷ rest) refl)

-- ---- what is held, short of two brackets

pub is_one : (b : ℕ) → IsTrue (is_begun_section_end (b ∷ [])) → b ≡ 93
is_one b begun = eqb-true b 93 (and_parts _ _ begun).0

pub are_two : (b d : ℕ) → IsTrue (is_begun_section_end (b ∷ d ∷ [])) → b ∷ d ∷ [] ≡ 93 ∷ 93 ∷ []
are_two b d begun =
    let parts = and_parts (b == 93) _ begun in
    let first : b ≡ 93 = eqb-true b 93 parts.0 in
    let second : d ≡ 93 = eqb-true d 93 (and_parts (d == 93) _ parts.1).0 in cc

short : (held : List ℕ) → IsTrue (is_begun_section_end held) → bytes_eq held (93 ∷ 93 ∷ []) ≡ false →
    (held ≡ []) ⊎ (held ≡ 93 ∷ [])
short [] begun not_two = inl refl
short (b ∷ []) begun not_two = inr (ap (λ x. x ∷ []) (is_one b begun))
short (b ∷ d ∷ []) begun not_two = let two : b ∷ d ∷ [] ≡ 93 ∷ 93 ∷ [] = are_two b d begun in absurd (false≢true (sym not_two ∙ ap (λ l. bytes_eq l (93 ∷ 93 ∷ [])) two))
short (b ∷ d ∷ e ∷ held) begun not_two =
    absurd (false≢true (and_parts (e == 62) _ (and_parts (d == 93) _ (and_parts (b == 93) _ begun).1).1).1)

module _ (held : List ℕ) (c : ℕ) (mode : Mode) (begun : IsTrue (is_begun_section_end held))
    (not_two : bytes_eq held (93 ∷ 93 ∷ []) ≡ false) where
  pub text-short : c ≢ 93 → SectionTurns mode held c Text held
  text-short other = elim (short held begun not_two) [
    | inl e ↦ subst (λ h. SectionTurns mode h c Text h) (sym e) (text-none mode c (ne_eqb c 93 other))
    | inr e ↦ subst (λ h. SectionTurns mode h c Text h) (sym e) (text-one mode c (ne_eqb c 93 other))
  ]

  pub bracket-goes : (now : List ℕ) → c ≡ 93 → now ≡ held ++ c ∷ [] → SectionTurns mode held c Goes now
  bracket-goes now bracket pushed = (
    pushed,
    elim (short held begun not_two) [
      | inl e ↦ let one : now ≡ 93 ∷ [] = pushed ∙ ap (λ h. h ++ c ∷ []) e ∙ ap (λ x. x ∷ []) bracket in subst (λ h. IsTrue (is_begun_section_end h)) (sym one) refl
      | inr e ↦ let two : now ≡ 93 ∷ 93 ∷ [] = pushed ∙ ap (λ h. h ++ c ∷ []) e ∙ ap (λ x. 93 ∷ x ∷ []) bracket in subst (λ h. IsTrue (is_begun_section_end h)) (sym two) refl
    ],
  )

-- ---- whether two brackets are held, by the bytes that are seen

brackets : chars (93 ∷ 93 ∷ []) ≡ 93 ∷ 93 ∷ []
unfolding chars
brackets = refl

brackets_are_text : IsUtf8 (93 ∷ 93 ∷ [])
unfolding encode
brackets_are_text = (93 ∷ 93 ∷ [], (refl, refl))

module _ (bytes seen : List ℕ) (is : seen ≡ bytes) where
  pub two-held : true ≡ bytes_eq seen (93 ∷ 93 ∷ []) → chars bytes ≡ 93 ∷ 93 ∷ []
  two-held e = ap chars (sym is ∙ (bytes_eq-Decides seen (93 ∷ 93 ∷ [])).0 (sym e)) ∙ brackets

  pub not_two-held : IsUtf8 bytes → false ≡ bytes_eq seen (93 ∷ 93 ∷ []) → bytes_eq (chars bytes) (93 ∷ 93 ∷ []) ≡ false
  not_two-held text e =
      ap (bytes_eq (chars bytes)) (sym brackets) ∙ sym (same_by_bytes bytes (93 ∷ 93 ∷ []) text brackets_are_text)
      ∙ ap (λ bs. bytes_eq bs (93 ∷ 93 ∷ [])) (sym is) ∙ sym e

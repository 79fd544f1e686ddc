-- An escaped text is read as the text.
use Rattle.std.proofs.Common.{◌≡◌, ◌==◌, ◌&&◌, [], ◌∷◌, ◌++◌, if◌then◌else◌, ◌∙◌, Bool, List, Option, Some, ap}
use Rattle.std.proofs.Common.{append_assoc, arith, drop, false, refl, subst, sym, true, ℕ}
use Rattle.std.proofs.lemmas.Bool.Decides.{nat_tests}
use Rattle.tree_forest.specs.Forest.{is_in}
use Rattle.token_grammar.specs.Characters.{shown}
use Rattle.token_grammar.specs.Items.{characters, null_character}
use Rattle.token_grammar.specs.Lexemes.{emitted, ends_raw_text, lexeme, lexeme_in, markup, one_character, ordinary_item}
use Rattle.token_grammar.specs.Lexemes.{reference_lexeme, tag_lexeme}
use Rattle.token_grammar.specs.Meaning.{Meaning}
use Rattle.token_grammar.specs.Reading.{IsLawful, Reading, goes}
use Rattle.token_grammar.specs.References.{named, reference}
use Rattle.token_grammar.specs.Slices.{begins}
use Rattle.token_grammar.specs.Tags.{tag_at}
use Rattle.token_grammar.specs.declared.modes.Mode.{Mode}
use Rattle.token_grammar.specs.declared.modes.TextKind.{TextKind}
use Rattle.token_grammar.specs.declared.modes.TextKind.TheVariants.{Ordinary, Plain, Raw}
use Rattle.lex_base.specs.References.{References}
use Rattle.html_lexemes.specs.declared.states.RawKind.TheVariants.{Rcdata, Rawtext, ScriptData, ScriptDataEscaped}
use Rattle.html_lexemes.specs.declared.token.TagKind.TheVariants.{EndTag}
use Rattle.tree_serializer.specs.Escapes.{escaped, escaped_character}
use Rattle.document_laws.specs.Escaped.{HasNoNul, KnowsEscapes, ReadsReferences}
use Rattle.document_laws.proofs.NamedReferences.{Written, as_itself, by_name, found, written}

-- a character that isn't in a text is neither its first nor a later one
pub no_first : (b rest : Bool) → (if b then true else rest) ≡ false → (b ≡ false) × (rest ≡ false)
no_first true rest h = cc
no_first false rest h = (refl, h)

pub other_way : (n c : ℕ) → (n == c) ≡ false → (c == n) ≡ false
other_way n c h = grind (arith, nat_tests)

pub first_no_nul : (c : ℕ) (cs : List ℕ) → HasNoNul (c ∷ cs) → (c == 0) ≡ false
first_no_nul c cs h = other_way 0 c (no_first (0 == c) (is_in 0 cs) h).0

pub later_no_nul : (c : ℕ) (cs : List ℕ) → HasNoNul (c ∷ cs) → HasNoNul cs
later_no_nul c cs h = (no_first (0 == c) (is_in 0 cs) h).1

pub is_reference : (table : References) (c : ℕ) (name rest : List ℕ) → begins (35 ∷ []) (name ++ rest) ≡ false →
    named table (name ++ rest) ≡ Some (found c rest) → reference table (name ++ rest) ≡ Some (found c rest)
is_reference table c name rest n h = grind (arith, n, h)

itself_in : (table : References) (foreign : Bool) (text : TextKind) (last : Option (List ℕ)) (c : ℕ) (rest : List ℕ) →
    (c == 0) ≡ false → (c == 38) ≡ false → (c == 60) ≡ false → ReadsReferences text →
    lexeme_in table foreign text (record { text = text; last_start_tag = last }) c rest
    ≡ one_character (record { text = text; last_start_tag = last }) c rest
itself_in table foreign Ordinary last c rest z a l h =
    let mode : Mode = record { text = Ordinary; last_start_tag = last } in
    ap (λ b. if b then markup table foreign mode rest
    else (if c == 38 then reference_lexeme mode rest (reference table rest)
    else emitted (ordinary_item c ∷ []) mode rest)) l
    ∙ ap (λ b. if b then reference_lexeme mode rest (reference table rest)
    else emitted (ordinary_item c ∷ []) mode rest) a
    ∙ ap (λ b. emitted ((if b then null_character else characters (c ∷ [])) ∷ []) mode rest) z
itself_in table foreign (Raw Rcdata) last c rest z a l h =
    let mode : Mode = record { text = Raw Rcdata; last_start_tag = last } in
    ap (λ b. if b && true && ends_raw_text last rest then tag_lexeme (tag_at table EndTag (drop 1 rest))
    else (if c == 38 && true then reference_lexeme mode rest (reference table rest)
    else one_character mode (shown c) rest)) l
    ∙ ap (λ b. if b && true then reference_lexeme mode rest (reference table rest)
    else one_character mode (shown c) rest) a
    ∙ ap (λ b. one_character mode (if b then 0xFFFD else c) rest) z
itself_in table foreign Plain last c rest z a l h = absurd h
itself_in table foreign (Raw Rawtext) last c rest z a l h = absurd h
itself_in table foreign (Raw ScriptData) last c rest z a l h = absurd h
itself_in table foreign (Raw (ScriptDataEscaped kind)) last c rest z a l h = absurd h

reference_in : (table : References) (foreign : Bool) (text : TextKind) (last : Option (List ℕ)) (cs : List ℕ) →
    ReadsReferences text →
    lexeme_in table foreign text (record { text = text; last_start_tag = last }) 38 cs
    ≡ reference_lexeme (record { text = text; last_start_tag = last }) cs (reference table cs)
reference_in table foreign Ordinary last cs h = refl
reference_in table foreign (Raw Rcdata) last cs h = refl
reference_in table foreign Plain last cs h = absurd h
reference_in table foreign (Raw Rawtext) last cs h = absurd h
reference_in table foreign (Raw ScriptData) last cs h = absurd h
reference_in table foreign (Raw (ScriptDataEscaped kind)) last cs h = absurd h

-- one escaped character is one lexeme
one_lexeme : (table : References) (foreign : Bool) (mode : Mode) (c : ℕ) (text rest : List ℕ) → Written table c text →
    (c == 0) ≡ false → ReadsReferences mode.text → lexeme table foreign mode (text ++ rest) ≡ one_character mode c rest
one_lexeme table foreign mode c _ rest (as_itself a l) z h =
    itself_in table foreign mode.text mode.last_start_tag c rest z a l h
one_lexeme table foreign mode c _ rest (by_name name n is) z h =
    reference_in table foreign mode.text mode.last_start_tag (name ++ rest) h
    ∙ ap (reference_lexeme mode (name ++ rest)) (is_reference table c name rest (n rest) (is rest))

module _ {A H : Type 0} (table : References) (knows : KnowsEscapes table) (means : Meaning A H) {ready : A → Type 0}
    (lawful : IsLawful means ready) (mode : Mode) (reads : ReadsReferences mode.text) (rest : List ℕ) (final : A) where
  -- The characters of a text are emitted one by one, which is as if they were emitted together.
  pub emitted_text : (state : A) (cs : List ℕ) → HasNoNul cs →
      Reading table means mode (means.step state (characters cs)) rest final →
      Reading table means mode state (escaped false cs ++ rest) final
  emitted_text state [] h r = subst (λ s. Reading table means mode s rest final) (lawful.skips state) r
  emitted_text state (c ∷ cs) h r =
      let one = one_lexeme table (means.foreign state) mode c (escaped_character false c) (escaped false cs ++ rest)
      (written table knows false c) (first_no_nul c cs h) reads in
      let others = emitted_text (means.step state (characters (c ∷ []))) cs (later_no_nul c cs h)
      (subst (λ s. Reading table means mode s rest final) (sym (lawful.joins state (c ∷ []) cs)) r) in
      subst (λ t. Reading table means mode state t final)
      (sym (append_assoc (escaped_character false c) (escaped false cs) rest))
      (goes mode state (escaped_character false c ++ (escaped false cs ++ rest)) (characters (c ∷ []) ∷ []) mode
      (escaped false cs ++ rest) final one others)

-- A text has one reading.
use Rattle.std.proofs.Common.{◌≡◌, ℕ, zero, suc, ◌<◌, Bool, List, length, refl, sym, ap, ◌∙◌, subst, arith}
use Rattle.std.specs.List.{fold}
use Rattle.lex_base.specs.References.{References}
use Rattle.html_lexemes.specs.declared.token.Tag.{Tag}
use Rattle.token_grammar.specs.Items.{Item, tag, end_of_file}
use Rattle.token_grammar.specs.Lexemes.{Lexeme, lexeme, nothing, emitted, tagged}
use Rattle.token_grammar.specs.Meaning.{Meaning}
use Rattle.token_grammar.specs.Modes.{next_mode}
use Rattle.token_grammar.specs.Reading.{Reading, ends, goes, tags}
use Rattle.token_grammar.specs.declared.modes.Mode.{Mode}
use Rattle.token_grammar.proofs.Shorter.{After, shorter}

module _ {A H : Type 0} (table : References) (means : Meaning A H) where
  abbrev Reads : Mode → A → List ℕ → A → Type 0
  Reads mode state cs final = Reading table means mode state cs final

  pub at_end : (mode : Mode) (state : A) (cs : List ℕ) (final : A) → Reads mode state cs final →
      lexeme table (means.foreign state) mode cs ≡ nothing → final ≡ means.step state end_of_file
  at_end mode state cs final (ends _ _ _ _ e p) h = p
  at_end mode state cs final (goes _ _ _ items trailing rest _ e r) h =
      absurd (let k : emitted items trailing rest ≡ nothing = sym e ∙ h in cc)
  at_end mode state cs final (tags _ _ _ t rest _ e r) h = absurd (let k : tagged t rest ≡ nothing = sym e ∙ h in cc)

  pub after_items : (mode : Mode) (state : A) (cs : List ℕ) (final : A) (items : List Item) (trailing : Mode)
      (rest : List ℕ) → Reads mode state cs final → lexeme table (means.foreign state) mode cs
      ≡ emitted items trailing rest → Reads trailing (fold means.step state items) rest final
  after_items mode state cs final items trailing rest (ends _ _ _ _ e p) h =
      absurd (let k : nothing ≡ emitted items trailing rest = sym e ∙ h in cc)
  after_items mode state cs final items trailing rest (goes _ _ _ items' trailing' rest' _ e r) h =
      let k : emitted items' trailing' rest' ≡ emitted items trailing rest = sym e ∙ h in
      let i : items' ≡ items = cc in
      let b : trailing' ≡ trailing = cc in
      let t : rest' ≡ rest = cc in
      subst (λ x. Reads trailing (fold means.step state x) rest final) i
      (subst (λ x. Reads x (fold means.step state items') rest final) b
      (subst (λ x. Reads trailing' (fold means.step state items') x final) t r))
  after_items mode state cs final items trailing rest (tags _ _ _ t rest' _ e r) h =
      absurd (let k : tagged t rest' ≡ emitted items trailing rest = sym e ∙ h in cc)

  pub after_tag : (mode : Mode) (state : A) (cs : List ℕ) (final : A) (t : Tag) (rest : List ℕ) →
      Reads mode state cs final → lexeme table (means.foreign state) mode cs ≡ tagged t rest →
      Reads (next_mode mode t (means.reply state (tag t))) (means.step state (tag t)) rest final
  after_tag mode state cs final t rest (ends _ _ _ _ e p) h =
      absurd (let k : nothing ≡ tagged t rest = sym e ∙ h in cc)
  after_tag mode state cs final t rest (goes _ _ _ items trailing rest' _ e r) h =
      absurd (let k : emitted items trailing rest' ≡ tagged t rest = sym e ∙ h in cc)
  after_tag mode state cs final t rest (tags _ _ _ t' rest' _ e r) h =
      let k : tagged t' rest' ≡ tagged t rest = sym e ∙ h in
      let i : t' ≡ t = cc in
      let j : rest' ≡ rest = cc in
      subst (λ x. Reads (next_mode mode x (means.reply state (tag x))) (means.step state (tag x)) rest final) i
      (subst (λ x. Reads (next_mode mode t' (means.reply state (tag t'))) (means.step state (tag t')) x final) j
      r)

  pub one : (mode : Mode) (state : A) (cs : List ℕ) (final other : A) → Reads mode state cs final →
      Reads mode state cs other → final ≡ other
  one mode state cs final other (ends _ _ _ _ e p) q = p ∙ sym (at_end mode state cs other q e)
  one mode state cs final other (goes _ _ _ items trailing rest _ e r) q =
      one trailing (fold means.step state items) rest final other r
      (after_items mode state cs other items trailing rest q e)
  one mode state cs final other (tags _ _ _ t rest _ e r) q =
      one (next_mode mode t (means.reply state (tag t))) (means.step state (tag t)) rest final other r
      (after_tag mode state cs other t rest q e)

  -- each text that is shorter than a number has a reading
  abbrev HasReading : Mode → A → List ℕ → Type 0
  HasReading mode state cs = (final : A) × Reads mode state cs final

  by_lexeme : (n : ℕ) (mode : Mode) (state : A) (cs : List ℕ) →
      ((trailing : Mode) (next : A) (rest : List ℕ) → length rest < n → HasReading trailing next rest) →
      (l : Lexeme) → lexeme table (means.foreign state) mode cs ≡ l → After n l → HasReading mode state cs
  by_lexeme n mode state cs further nothing e h =
      (means.step state end_of_file, ends mode state cs (means.step state end_of_file) e refl)
  by_lexeme n mode state cs further (emitted items trailing rest) e h =
      let r = further trailing (fold means.step state items) rest h in (
        r.0,
        goes mode state cs items trailing rest r.0 e r.1,
      )
  by_lexeme n mode state cs further (tagged t rest) e h =
      let r = further (next_mode mode t (means.reply state (tag t))) (means.step state (tag t)) rest h in (
        r.0,
        tags mode state cs t rest r.0 e r.1,
      )

  some_below : (n : ℕ) (mode : Mode) (state : A) (cs : List ℕ) → length cs < n → HasReading mode state cs
  some_below zero mode state cs h = absurd (omega arith)
  some_below (suc n) mode state cs h =
      by_lexeme (length cs) mode state cs (λ trailing next rest l. some_below n trailing next rest (omega arith))
      (lexeme table (means.foreign state) mode cs) refl (shorter table (means.foreign state) mode cs)

  pub some : (mode : Mode) (state : A) (cs : List ℕ) → HasReading mode state cs
  some mode state cs = some_below (suc (length cs)) mode state cs (omega arith)

  -- a means.step of a reader from what it found, in place of the state that it emitted to
  pub emitted_on : (mode : Mode) (state next : A) (cs : List ℕ) (items : List Item) (trailing : Mode) (rest : List ℕ)
      (final : A) → lexeme table (means.foreign state) mode cs ≡ emitted items trailing rest →
      next ≡ fold means.step state items → Reads trailing next rest final → Reads mode state cs final
  emitted_on mode state next cs items trailing rest final e n r =
      goes mode state cs items trailing rest final e (subst (λ s. Reads trailing s rest final) n r)

  pub tagged_on : (mode : Mode) (state next : A) (cs : List ℕ) (t : Tag) (trailing : Mode) (rest : List ℕ) (final : A) →
      lexeme table (means.foreign state) mode cs ≡ tagged t rest →
      next ≡ means.step state (tag t) → trailing ≡ next_mode mode t (means.reply state (tag t)) →
      Reads trailing next rest final → Reads mode state cs final
  tagged_on mode state next cs t trailing rest final e n b r =
      tags mode state cs t rest final e (subst (λ m. Reads m (means.step state (tag t)) rest final) b
      (subst (λ s. Reads trailing s rest final) n r))

pub shrinks_emitted : (table : References) (foreign : Bool) (mode : Mode) (cs : List ℕ) (items : List Item) (trailing : Mode)
    (rest : List ℕ) → lexeme table foreign mode cs ≡ emitted items trailing rest → length rest < length cs
shrinks_emitted table foreign mode cs items trailing rest e = subst (After (length cs)) e (shorter table foreign mode cs)

pub shrinks_tagged : (table : References) (foreign : Bool) (mode : Mode) (cs : List ℕ) (t : Tag) (rest : List ℕ) →
    lexeme table foreign mode cs ≡ tagged t rest → length rest < length cs
shrinks_tagged table foreign mode cs t rest e = subst (After (length cs)) e (shorter table foreign mode cs)

-- the lexeme of a text, from what a reader found there
pub found_lexeme : (table : References) (asked foreign : Bool) (mode : Mode) (cs : List ℕ) (l k : Lexeme) →
    asked ≡ foreign → l ≡ lexeme table asked mode cs → l ≡ k → lexeme table foreign mode cs ≡ k
found_lexeme table asked foreign mode cs l k a e i = ap (λ f. lexeme table f mode cs) (sym a) ∙ (sym e ∙ i)

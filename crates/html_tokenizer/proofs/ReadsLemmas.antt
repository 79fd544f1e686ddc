-- What a text that goes on does to a sink.
use Rattle.std.proofs.Common.{◌≡◌, ◌==◌, ◌&&◌, ◌||◌, [], ◌∷◌, ◌++◌, ◌∙◌, if◌then◌else◌, Bool, Err, IsTrue, IsUtf8, List}
use Rattle.std.proofs.Common.{Ok, OnOk, Result, String, ap, arith, encode_utf8, false, length, not, refl, string_bytes}
use Rattle.std.proofs.Common.{subst, sym, true, ℕ}
use Rattle.std.proofs.lemmas.Bool.Decides.{nat_tests}
use Rattle.std.proofs.lemmas.Str.{chars-append}
use Rattle.std.specs.Char.{IsScalar}
use Rattle.std.specs.List.{fold, list_all}
use Rattle.std.specs.Str.{chars}
use Rattle.std.specs.String.{string_len}
use Rattle.lex_base.specs.References.{References}
use Rattle.html_lexemes.specs.declared.states.RawKind.{RawKind}
use Rattle.html_lexemes.specs.declared.states.RawKind.TheVariants.{Rcdata, Rawtext, ScriptData, ScriptDataEscaped}
use Rattle.html_lexemes.specs.declared.token.Tag.{Tag}
use Rattle.token_grammar.specs.Characters.{shown}
use Rattle.token_grammar.specs.Items.{Item, characters, null_character, tag}
use Rattle.token_grammar.specs.Lexemes.{Lexeme, emitted, has_references, in_kind, lexeme, lexeme_in, markup, nothing}
use Rattle.token_grammar.specs.Lexemes.{ordinary_item, reference_lexeme, tagged}
use Rattle.token_grammar.specs.Meaning.{Meaning}
use Rattle.token_grammar.specs.Modes.{next_mode}
use Rattle.token_grammar.specs.References.{reference}
use Rattle.token_grammar.specs.Reading.{Reading, ends, goes, tags}
use Rattle.token_grammar.specs.declared.modes.Mode.{Mode}
use Rattle.token_grammar.specs.declared.modes.TextKind.{TextKind}
use Rattle.token_grammar.specs.declared.modes.TextKind.TheVariants.{Ordinary, Plain, Raw}
use Rattle.token_grammar.proofs.MarkLemmas.{chars-encode}
use Rattle.token_states.specs.Goings.{may_begin}
use Rattle.token_states.specs.Places.{place_lexeme}
use Rattle.token_states.specs.RawSound.{is_escaped}
use Rattle.html_tokenizer.specs.Reads.{Follows, Leaves}
use Rattle.token_states.specs.Sound.{IsSound}
use Rattle.token_states.specs.Turns.{IsOver, LeavesText, is_raw_text, is_text, with_more}
use Rattle.html_tokenizer.specs.declared.pending.Pending.{Pending}
use Rattle.token_states.specs.declared.place.LexemeState.{LexemeState}
use Rattle.token_states.specs.declared.place.LexemeState.TheVariants.{Text, RawText}
use Rattle.token_states.specs.declared.place.RawPlace.{RawPlace}
use Rattle.token_states.proofs.FirstLemmas.{raw_first_in}

length_none : (b : Bool) (n : ℕ) → b ≡ (n == 0) → b ≡ true → n ≡ 0
length_none b n e h = grind (arith, nat_tests)

nothing_left : (bs : List ℕ) → length bs ≡ 0 → bs ≡ []
nothing_left [] e = refl
nothing_left (b ∷ bs) e = absurd (omega arith)

pub empty_bytes : {Z : Type 0} (s : String Z) (b : Bool) → b ≡ (string_len s == 0) → b ≡ true → string_bytes s ≡ []
empty_bytes s b e h = nothing_left (string_bytes s) (sym s.bytes.ok.0 ∙ length_none b (string_len s) e h)

-- nothing is held before a lexeme
pub held_none : (p : Pending) → p.place ≡ Text → chars (string_bytes p.held) ≡ []
held_none p e = subst (λ x. IsSound x (chars (string_bytes p.held))) e p.sound

pub pushed_one : (old new : List ℕ) (c : ℕ) → IsUtf8 old → IsScalar c → new ≡ old ++ encode_utf8 c →
    chars new ≡ chars old ++ c ∷ []
pushed_one old new c u s e =
    ap chars e ∙ (chars-append old (encode_utf8 c) u ∙ ap (λ l. chars old ++ l) (chars-encode c s))

-- a character that is text by itself
none_of_three : (a b d : Bool) → IsTrue (not (a || b || d)) → (a ≡ false) × ((b ≡ false) × (d ≡ false))
none_of_three true b d h = absurd (let k : false ≡ true = h in cc)
none_of_three false true d h = absurd (let k : false ≡ true = h in cc)
none_of_three false false true h = absurd (let k : false ≡ true = h in cc)
none_of_three false false false h = (refl, (refl, refl))

none_of_four : (a b d e : Bool) → IsTrue (not (a || b || d || e)) →
    (a ≡ false) × ((b ≡ false) × ((d ≡ false) × (e ≡ false)))
none_of_four true b d e h = absurd (let k : false ≡ true = h in cc)
none_of_four false true d e h = absurd (let k : false ≡ true = h in cc)
none_of_four false false true e h = absurd (let k : false ≡ true = h in cc)
none_of_four false false false true h = absurd (let k : false ≡ true = h in cc)
none_of_four false false false false h = (refl, (refl, (refl, refl)))

and_none : (b : Bool) → (b && false) ≡ false
and_none true = refl
and_none false = refl

and_false : (a b : Bool) → a ≡ false → (a && b) ≡ false
and_false a b e = ap (λ x. x && b) e

raw_text_is : (kind : RawKind) (c : ℕ) → IsTrue (is_raw_text kind c) → ((c == 0) ≡ false)
    × (((c == 60) ≡ false) × (((c == 38) ≡ false) × ((c == 45 && is_escaped kind) ≡ false)))
raw_text_is Rcdata c h = let n = none_of_three (c == 0) (c == 60) (c == 38) h in (n.0, (n.1.0, (n.1.1, and_none (c == 45))))
raw_text_is Rawtext c h = let n = none_of_three (c == 0) (c == 60) (c == 38) h in (n.0, (n.1.0, (n.1.1, and_none (c == 45))))
raw_text_is ScriptData c h = let n = none_of_three (c == 0) (c == 60) (c == 38) h in (n.0, (n.1.0, (n.1.1, and_none (c == 45))))
raw_text_is (ScriptDataEscaped k) c h = let n = none_of_four (c == 0) (c == 60) (c == 38) (c == 45) h in (n.0, (n.1.0, (n.1.1.0, and_false (c == 45) true n.1.1.1)))

shown_same : (c : ℕ) → (c == 0) ≡ false → c ≡ shown c
shown_same c e = rw e refl

text_character_of : (table : References) (foreign : Bool) (text : TextKind) (mode : Mode) (c : ℕ) (rest : List ℕ) →
    mode.text ≡ text → IsTrue (is_text text c) → lexeme table foreign mode (c ∷ rest)
    ≡ emitted (characters (c ∷ []) ∷ []) mode rest
text_character_of table foreign Ordinary mode c rest m h =
    let n = none_of_three (c == 0) (c == 60) (c == 38) h in
    ap (λ t. lexeme_in table foreign t mode c rest) m
    ∙ (ap (λ b. if b then markup table foreign mode rest
    else (if c == 38 then reference_lexeme mode rest (reference table rest)
    else emitted (ordinary_item c ∷ []) mode rest)) n.1.0
    ∙ (ap (λ b. if b then reference_lexeme mode rest (reference table rest)
    else emitted (ordinary_item c ∷ []) mode rest) n.1.1
    ∙ ap (λ b. emitted ((if b then null_character else characters (c ∷ [])) ∷ []) mode rest) n.0))
text_character_of table foreign Plain mode c rest m h =
    let n = none_of_three (c == 0) (c == 60) (c == 38) h in
    ap (λ t. lexeme_in table foreign t mode c rest) m ∙ ap (λ x. emitted (characters (x ∷ []) ∷ []) mode rest)
    (sym (shown_same c n.0))
text_character_of table foreign (Raw kind) mode c rest m h =
    let n = raw_text_is kind c h in
    raw_first_in table foreign mode.last_start_tag kind mode c c rest (shown_same c n.0)
    (and_false (c == 60) (may_begin mode.last_start_tag kind) n.1.0)
    (and_false (c == 38) (has_references kind) n.1.1.0) n.1.1.1 m refl

pub text_character : (table : References) (foreign : Bool) (mode : Mode) (c : ℕ) (rest : List ℕ) →
    IsTrue (is_text mode.text c) → lexeme table foreign mode (c ∷ rest) ≡ emitted (characters (c ∷ []) ∷ []) mode rest
text_character table foreign mode c rest h = text_character_of table foreign mode.text mode c rest refl h

and_both : (a b : Bool) → IsTrue (a && b) → IsTrue a × IsTrue b
and_both true b h = (refl, h)
and_both false b h = absurd (let k : false ≡ true = h in cc)

pub on_ok_two : {X E : Type 0} {P Q R : Type 0} (r : Result X E) → OnOk r P → OnOk r Q → (P → Q → R) → OnOk r R
on_ok_two (Ok x) p q f = f p q
on_ok_two (Err e) p q f = tt

pub on_ok_four : {X E : Type 0} {P Q R S T : Type 0} (r : Result X E) → OnOk r P → OnOk r Q → OnOk r R → OnOk r S →
    (P → Q → R → S → T) → OnOk r T
on_ok_four (Ok x) p q a b f = f p q a b
on_ok_four (Err e) p q a b f = tt

pub on_ok_map : {X E : Type 0} {P Q : Type 0} (r : Result X E) → OnOk r P → (P → Q) → OnOk r Q
on_ok_map (Ok x) p f = f p
on_ok_map (Err e) p f = tt

-- the lexeme of a place, from what was found there
pub found_from : (table : References) (asked f : Bool) (mode now : Mode) (place : LexemeState) (text held : List ℕ)
    (l k : Lexeme) → asked ≡ f → now ≡ mode → text ≡ held → l ≡ place_lexeme table asked now place text → l ≡ k →
    place_lexeme table f mode place held ≡ k
found_from table asked f mode now place text held l k a m t e i =
    ap (λ x. place_lexeme table x mode place held) (sym a)
    ∙ (ap (λ x. place_lexeme table asked x place held) (sym m)
    ∙ (ap (λ x. place_lexeme table asked now place x) (sym t) ∙ (sym e ∙ i)))

module _ {A H : Type 0} (table : References) (means : Meaning A H) where
  abbrev Reads : Mode → A → List ℕ → A → Type 0
  Reads mode state cs final = Reading table means mode state cs final

  abbrev Stays : Mode → LexemeState → List ℕ → A → A → Type 0
  Stays mode place cs state final = Leaves table means mode place cs state final

  abbrev Joins : Type 0
  Joins = (state : A) (cs ds : List ℕ) → means.step (means.step state (characters cs)) (characters ds)
      ≡ means.step state (characters (cs ++ ds))

  abbrev Skips : Type 0
  Skips = (state : A) → means.step state (characters []) ≡ state

  pub of_lexeme : (mode : Mode) (cs : List ℕ) (s final : A) (l : Lexeme) → lexeme table (means.foreign s) mode cs ≡ l →
      Follows table means mode l s final → Reads mode s cs final
  of_lexeme mode cs s final nothing e p = ends mode s cs final e p
  of_lexeme mode cs s final (emitted items trailing rest) e r = goes mode s cs items trailing rest final e r
  of_lexeme mode cs s final (tagged t rest) e r = tags mode s cs t rest final e r

  -- a reading is what follows the first lexeme
  pub reading_of : (mode : Mode) (place : LexemeState) (held cs : List ℕ) (s final : A) → place ≡ Text → held ≡ [] →
      Stays mode place (held ++ cs) s final → Reads mode s cs final
  reading_of mode place held cs s final e h l =
      of_lexeme mode cs s final (lexeme table (means.foreign s) mode cs) refl
      (subst (λ x. Follows table means mode (place_lexeme table (means.foreign s) mode Text (x ++ cs)) s final) h
      (subst (λ p. Follows table means mode (place_lexeme table (means.foreign s) mode p (held ++ cs)) s final) e l))

  -- from a lexeme that is known
  pub leaves_of : (mode : Mode) (place : LexemeState) (held cs : List ℕ) (s final : A) (l : Lexeme) → place ≡ Text →
      held ≡ [] → lexeme table (means.foreign s) mode cs ≡ l → Follows table means mode l s final →
      Stays mode place (held ++ cs) s final
  leaves_of mode place held cs s final l e h k r =
      subst (λ p. Follows table means mode (place_lexeme table (means.foreign s) mode p (held ++ cs)) s final) (sym e)
      (subst (λ x. Follows table means mode (place_lexeme table (means.foreign s) mode Text (x ++ cs)) s final) (sym h)
      (subst (λ x. Follows table means mode x s final) (sym k) r))

  pub text_read : (mode : Mode) (place : LexemeState) (held : List ℕ) (c d : ℕ) (rest : List ℕ) (s1 s2 final : A) →
      place ≡ Text → held ≡ [] → s2 ≡ means.step s1 (characters (d ∷ [])) →
      ((f : Bool) → lexeme table f mode (c ∷ rest) ≡ emitted (characters (d ∷ []) ∷ []) mode rest) →
      Stays mode place (held ++ rest) s2 final → Stays mode place (held ++ c ∷ rest) s1 final
  text_read mode place held c d rest s1 s2 final e h t k l =
      leaves_of mode place held (c ∷ rest) s1 final (emitted (characters (d ∷ []) ∷ []) mode rest) e h
      (k (means.foreign s1))
      (subst (λ x. Reads mode x rest final) t (reading_of mode place held rest s2 final e h l))

  pub null_read : (mode : Mode) (place : LexemeState) (held : List ℕ) (c : ℕ) (rest run : List ℕ) (s1 s2 final : A) → Skips →
      place ≡ Text → held ≡ [] → run ≡ [] →
      ((f : Bool) → lexeme table f mode (c ∷ rest) ≡ emitted (null_character ∷ []) mode rest) →
      s2 ≡ means.step s1 null_character →
      Stays mode place (held ++ rest) (means.step s2 (characters run)) final →
      Stays mode place (held ++ c ∷ rest) s1 final
  null_read mode place held c rest run s1 s2 final k e h n x t l =
      let same : means.step s2 (characters run) ≡ means.step s1 null_character =
      ap (λ r. means.step s2 (characters r)) n ∙ (k s2 ∙ t) in
      leaves_of mode place held (c ∷ rest) s1 final (emitted (null_character ∷ []) mode rest) e h (x (means.foreign s1))
      (subst (λ x. Reads mode x rest final) same (reading_of mode place held rest
      (means.step s2 (characters run)) final e h l))

  -- text that a lexeme left
  pub run_read : (mode : Mode) (left cs : List ℕ) (s final : A) → Joins → Skips →
      IsTrue (list_all (is_text mode.text) left) → Reads mode (means.step s (characters left)) cs final →
      Reads mode s (left ++ cs) final
  run_read mode [] cs s final j k h r = subst (λ x. Reads mode x cs final) (k s) r
  run_read mode (c ∷ left) cs s final j k h r =
      let both = and_both (is_text mode.text c) (list_all (is_text mode.text) left) h in
      goes mode s (c ∷ (left ++ cs)) (characters (c ∷ []) ∷ []) mode (left ++ cs) final
      (text_character table (means.foreign s) mode c (left ++ cs) both.0)
      (run_read mode left cs (means.step s (characters (c ∷ []))) final j k both.1
      (subst (λ x. Reads mode x cs final) (sym (j s (c ∷ []) left)) r))

  -- a character of an element's text is held
  pub raw_opened : (mode : Mode) (kind : RawKind) (at : RawPlace) (place now : LexemeState) (held after : List ℕ) (c : ℕ)
      (rest : List ℕ) (s final : A) → mode.text ≡ Raw kind → place ≡ Text → held ≡ [] → now ≡ RawText kind at →
      after ≡ c ∷ [] →
      Stays mode now (after ++ rest) s final → Stays mode place (held ++ c ∷ rest) s final
  raw_opened mode kind at place now held after c rest s final m e h n a l =
      let same : in_kind mode kind ≡ mode = ap (λ t. record mode { text = t }) (sym m) in
      leaves_of mode place held (c ∷ rest) s final (lexeme table (means.foreign s) (in_kind mode kind) (c ∷ rest)) e h
      (ap (λ x. lexeme table (means.foreign s) x (c ∷ rest)) (sym same))
      (subst (λ x. Follows table means mode (place_lexeme table (means.foreign s) mode (RawText kind at) (x ++ rest)) s
      final) a
      (subst (λ p. Follows table means mode (place_lexeme table (means.foreign s) mode p (after ++ rest)) s final) n l))

  -- what stands after an opening
  pub opened_read : (mode : Mode) (at place now : LexemeState) (held after : List ℕ) (c : ℕ) (rest : List ℕ) (s final : A) →
      place ≡ Text → held ≡ [] → now ≡ at → after ≡ [] →
      ((f : Bool) → lexeme table f mode (c ∷ rest) ≡ place_lexeme table f mode at rest) →
      Stays mode now (after ++ rest) s final → Stays mode place (held ++ c ∷ rest) s final
  opened_read mode at place now held after c rest s final e h n a k l =
      leaves_of mode place held (c ∷ rest) s final (place_lexeme table (means.foreign s) mode at rest) e h
      (k (means.foreign s))
      (subst (λ x. Follows table means mode (place_lexeme table (means.foreign s) mode at (x ++ rest)) s final) a
      (subst (λ p. Follows table means mode (place_lexeme table (means.foreign s) mode p (after ++ rest)) s final) n l))

  -- a lexeme that is over was emitted, with the text that it left
  pub emitted_over : (mode trailing : Mode) (place now : LexemeState) (held after follow rest left run : List ℕ)
      (items : List Item) (s emitted_to final : A) → Joins → Skips →
      IsOver table (means.foreign s) mode place held follow → place_lexeme table (means.foreign s) mode place held
      ≡ emitted items trailing left → emitted_to ≡ fold means.step s items → now ≡ Text → after ≡ [] → run ≡ left →
      Stays trailing now (after ++ (follow ++ rest)) (means.step emitted_to (characters run)) final →
      Stays mode place (held ++ (follow ++ rest)) s final
  emitted_over mode trailing place now held after follow rest left run items s emitted_to final j k over e t n a r l =
      let text : IsTrue (list_all (is_text trailing.text) left) = subst LeavesText e over.left in
      let reads : Reads trailing (means.step emitted_to (characters run)) (follow ++ rest) final =
      reading_of trailing now after (follow ++ rest) (means.step emitted_to (characters run)) final n a l in
      let further : Reads trailing emitted_to (left ++ (follow ++ rest)) final =
      run_read trailing left (follow ++ rest) emitted_to final j k text
      (subst (λ x. Reads trailing (means.step emitted_to (characters x)) (follow ++ rest) final) r reads) in
      let whole : place_lexeme table (means.foreign s) mode place (held ++ (follow ++ rest))
      ≡ emitted items trailing (left ++ (follow ++ rest)) = over.settled rest ∙ ap (with_more (follow ++ rest)) e in
      subst (λ x. Follows table means mode x s final) (sym whole)
      (subst (λ x. Reads trailing x (left ++ (follow ++ rest)) final) t further)

  pub tagged_over : (mode trailing : Mode) (place now : LexemeState) (held after follow rest left run : List ℕ) (t : Tag)
      (s emitted_to final : A) → Skips →
      IsOver table (means.foreign s) mode place held follow → place_lexeme table (means.foreign s) mode place held
      ≡ tagged t left → emitted_to ≡ means.step s (tag t) → trailing ≡ next_mode mode t (means.reply s (tag t)) →
      now ≡ Text → after ≡ [] → run ≡ [] →
      Stays trailing now (after ++ (follow ++ rest)) (means.step emitted_to (characters run)) final →
      Stays mode place (held ++ (follow ++ rest)) s final
  tagged_over mode trailing place now held after follow rest left run t s emitted_to final k over e p b n a r l =
      let none : left ≡ [] = subst LeavesText e over.left in
      let reads : Reads trailing (means.step emitted_to (characters run)) (follow ++ rest) final =
      reading_of trailing now after (follow ++ rest) (means.step emitted_to (characters run)) final n a l in
      let same : means.step emitted_to (characters run) ≡ means.step s (tag t) =
      ap (λ x. means.step emitted_to (characters x)) r ∙ (k emitted_to ∙ p) in
      let further : Reads (next_mode mode t (means.reply s (tag t))) (means.step s (tag t)) (follow ++ rest) final =
      subst (λ m. Reads m (means.step s (tag t)) (follow ++ rest) final) b
      (subst (λ x. Reads trailing x (follow ++ rest) final) same reads) in
      let whole : place_lexeme table (means.foreign s) mode place (held ++ (follow ++ rest))
      ≡ tagged t (follow ++ rest) =
      over.settled rest ∙ (ap (with_more (follow ++ rest)) e ∙ ap (λ x. tagged t (x ++ (follow ++ rest))) none)
      in
      subst (λ x. Follows table means mode x s final) (sym whole) further

  pub never_nothing : (mode : Mode) (place : LexemeState) (held follow : List ℕ) (f : Bool) →
      IsOver table f mode place held follow → place_lexeme table f mode place held ≡ nothing → ⊥
  never_nothing mode place held follow f over e = subst LeavesText e over.left

  -- a character was taken at another place

  -- the same, where parts are equal
  pub leaves_same : (mode now : Mode) (p q : Pending) (cs : List ℕ) (s t final : A) → now ≡ mode → q ≡ p → t ≡ s →
      Stays now q.place (chars (string_bytes q.held) ++ cs) t final →
      Stays mode p.place (chars (string_bytes p.held) ++ cs) s final
  leaves_same mode now p q cs s t final m e k l =
      subst (λ x. Stays x p.place (chars (string_bytes p.held) ++ cs) s final) m
      (subst (λ x. Stays now x.place (chars (string_bytes x.held) ++ cs) s final) e
      (subst (λ x. Stays now q.place (chars (string_bytes q.held) ++ cs) x final) k l))

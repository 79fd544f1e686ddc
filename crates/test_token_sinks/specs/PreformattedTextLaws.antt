-- The small model of a tree builder is lawful: texts that follow each other are as one, an element stays open, and an
-- error ends at most the rule of the line feed.
use Rattle.std.specs.Prelude.{◌≡◌, ◌<◌, ◌==◌, ◌&&◌, if◌then◌else◌, [], ◌∷◌, ◌++◌, Bool, List, false, length, refl, true}
use Rattle.std.specs.Prelude.{ℕ}
use Rattle.std.proofs.Common.{sym, ap, ◌∙◌, append_assoc, append-nil, arith}
use Rattle.std.proofs.lemmas.Bool.{ne_eqb}
use Rattle.html_lexemes.specs.declared.token.TagKind.{TagKind}
use Rattle.html_lexemes.specs.declared.token.TagKind.TheVariants.{StartTag, EndTag}
use Rattle.token_grammar.specs.Items.{Item, characters, error, null_character, tag, comment, doctype, end_of_file}
use Rattle.token_grammar.specs.Reading.{IsAfterError, IsLawful}
use Rattle.test_token_sinks.specs.PreformattedText.{HasOpen, Page, after_tag, closed, page_after, page_meaning, said}
use Rattle.test_token_sinks.specs.PreformattedText.{settled}

abbrev with_text : Page → List ℕ → Page
with_text page text = record page { skips_line_feed = false; text = text }

shown_after : (b : Bool) (c : ℕ) (cs ds : List ℕ)
    → (if b then cs else c ∷ cs) ++ ds ≡ (if b then cs ++ ds else c ∷ (cs ++ ds))
shown_after true c cs ds = refl
shown_after false c cs ds = refl

said-joins : (page : Page) (cs ds : List ℕ) → said (said page cs) ds ≡ said page (cs ++ ds)
said-joins page [] ds = refl
said-joins page (c ∷ cs) [] = ap (λ l. said page (c ∷ l)) (sym (append-nil cs))
said-joins page (c ∷ cs) (d ∷ ds) =
    let is_left_out = page.skips_line_feed && c == 10 in
    ap (with_text page) (append_assoc page.text (if is_left_out then cs else c ∷ cs) (d ∷ ds)
    ∙ ap (λ l. page.text ++ l) (shown_after is_left_out c cs (d ∷ ds)))

closed_stays : (names : List (List ℕ)) → 0 < length names → 0 < length (closed names)
closed_stays [] h = h
closed_stays (name ∷ []) h = h
closed_stays (name ∷ outer ∷ names) h = omega arith

after_tag-keeps : (kind : TagKind) (name : List ℕ) (page : Page) → HasOpen page → HasOpen (after_tag kind name page)
after_tag-keeps StartTag name page h = omega arith
after_tag-keeps EndTag name page h = closed_stays page.elements h

said-keeps : (cs : List ℕ) (page : Page) → HasOpen page → HasOpen (said page cs)
said-keeps [] page h = h
said-keeps (c ∷ cs) page h = h

page_after-keeps : (page : Page) (item : Item) → HasOpen page → HasOpen (page_after page item)
page_after-keeps page (characters cs) h = said-keeps cs page h
page_after-keeps page (tag t) h = after_tag-keeps t.kind t.name page h
page_after-keeps page error h = h
page_after-keeps page null_character h = h
page_after-keeps page (comment cs) h = h
page_after-keeps page (doctype d) h = h
page_after-keeps page end_of_file h = h

after_tag-forgets : (kind : TagKind) (name : List ℕ) (page : Page)
    → after_tag kind name (settled page) ≡ after_tag kind name page
after_tag-forgets StartTag name page = refl
after_tag-forgets EndTag name page = refl

no_line_feed : (b : Bool) (c : ℕ) → ¬ (c ≡ 10) → false ≡ (b && c == 10)
no_line_feed true c h = sym (ne_eqb c 10 h)
no_line_feed false c h = refl

page_after-forgets : (page : Page) (item : Item) → IsAfterError item
    → page_after (page_after page error) item ≡ page_after page item
page_after-forgets page (characters []) h = absurd h
page_after-forgets page (characters (c ∷ cs)) h =
    ap (λ (b : Bool). with_text page (page.text ++ (if b then cs else c ∷ cs))) (no_line_feed page.skips_line_feed c h)
page_after-forgets page (tag t) h = after_tag-forgets t.kind t.name page
page_after-forgets page error h = refl
page_after-forgets page null_character h = refl
page_after-forgets page (comment cs) h = refl
page_after-forgets page (doctype d) h = refl
page_after-forgets page end_of_file h = refl

pub page_meaning-lawful : {H : Type 0} → IsLawful {H = H} page_meaning HasOpen
page_meaning-lawful = record {
  joins = said-joins;
  skips = λ _. refl;
  answers = λ _ _ _. refl;
  keeps = page_after-keeps;
  forgets = page_after-forgets;
  still_answers = λ _ _. refl;
  still_foreign = λ _. refl;
}

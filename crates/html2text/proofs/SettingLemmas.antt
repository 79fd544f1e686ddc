-- The configurations that the program makes for a request, and what they give.
use Rattle.std.proofs.Common.{◌≡◌, ◌∙◌, ℕ, Bool, true, false, List, [], refl, sym, ap, subst}
use Rattle.std.specs.Prelude.{not, ◌&&◌, ◌||◌, if◌then◌else◌}
use Rattle.command_line.specs.CommandWords.{Asked}
use Rattle.html2text.specs.Written.{EitherLook, HasAskedText, IsOtherPage, IsSetting, IsTooNarrowPage, is_decorated}
use Rattle.lex_base.specs.References.{References}
use Rattle.page_config.specs.RichPages.{rich_view}
use Rattle.page_config.specs.PageAnswers.{Answers, IsEmitted, PageAnswer, fail, too_narrow}
use Rattle.page_config.specs.PlainPages.{IsPlain, plain_view}
use Rattle.page_config.specs.Settings.{PageSetting, by_default, rendered_with}
use Rattle.render_conversion.specs.Decorating.{decorating_rules}
use Rattle.block_trait.specs.Defaults.{default_options}
use Rattle.block_trait.specs.declared.options.RenderOptions.{RenderOptions}
use Rattle.text_decorators.specs.Annotations.{RichTag, rich_tag}
use Rattle.text_decorators.specs.Laws.{rich_mark_tag, rich_tag_fits}

no_marks : (rich decorate : Bool) → (rich ≡ true) → (not rich && decorate) ≡ false
no_marks true decorate e = refl
no_marks false decorate e = cc

plain_marks : (rich decorate : Bool) → rich ≡ false → (not rich && decorate) ≡ decorate
plain_marks true decorate e = cc
plain_marks false decorate e = refl

-- as pages are where nothing else is said, with the targets of links or without, each once or not
abbrev pub bare : References → Asked → PageSetting (Unit {0})
bare names asked = record (by_default names tt) {
  rendering = record (by_default names tt).rendering {
    options = record default_options {
      include_link_footnotes = asked.footnotes;
      shared_footnotes = asked.shared_footnotes;
    };
  };
}

-- with these targets, each once or not
abbrev pub targets_by : Asked → (marked : Bool) → RenderOptions
targets_by asked marked = record default_options {
  include_link_footnotes = marked || asked.footnotes;
  shared_footnotes = asked.shared_footnotes;
}

bare_is : (asked : Asked) (names : References) → is_decorated asked ≡ false → IsSetting asked names (bare names asked)
bare_is asked names none = record {
  table = refl;
  parsing = refl;
  conversion = refl;
  rules = ap (λ marked. if marked then decorating_rules else []) (sym none);
  options = ap (targets_by asked) (sym none);
  min_wrap = refl;
}

pub rich_setting : (asked : Asked) (names : References) (c : PageSetting (Unit {0})) → asked.rich ≡ true
    → c ≡ bare names asked → IsSetting asked names c
rich_setting asked names c rich is =
    subst (IsSetting asked names) (sym is) (bare_is asked names (no_marks asked.rich asked.decorate rich))

pub plain_setting : (asked : Asked) (names : References) (c : PageSetting (Unit {0})) → asked.rich ≡ false
    → asked.decorate ≡ false → c ≡ bare names asked → IsSetting asked names c
plain_setting asked names c rich decorate is = subst (IsSetting asked names) (sym is)
    (bare_is asked names (plain_marks asked.rich asked.decorate rich ∙ decorate))

-- the same with each target once, where that is asked for
abbrev pub sharing : Asked → PageSetting (Unit {0}) → PageSetting (Unit {0})
sharing asked c = rendered_with c (record c.rendering.options { shared_footnotes = asked.shared_footnotes })

sharing_is : (asked : Asked) (names : References) (c : PageSetting (Unit {0})) → asked.rich ≡ false
    → asked.decorate ≡ true → IsPlain names c → IsSetting asked names (sharing asked c)
sharing_is asked names c rich decorate plain =
    let marked : true ≡ is_decorated asked = sym (plain_marks asked.rich asked.decorate rich ∙ decorate) in
    record {
      table = plain.table;
      parsing = plain.parsing;
      conversion = plain.conversion;
      rules = plain.rules ∙ ap (λ marked. if marked then decorating_rules else []) marked;
      options = ap (λ (o : RenderOptions). record o { shared_footnotes = asked.shared_footnotes }) plain.options
          ∙ ap (targets_by asked) marked;
      min_wrap = plain.min_wrap;
    }

pub decorated_setting : (asked : Asked) (names : References) (c base : PageSetting (Unit {0})) → asked.rich ≡ false
    → asked.decorate ≡ true → IsPlain names base → c ≡ sharing asked base → IsSetting asked names c
decorated_setting asked names c base rich decorate plain is =
    subst (IsSetting asked names) (sym is) (sharing_is asked names base rich decorate plain)

-- ---- what they give

abbrev pub IsRichEmitted : PageSetting (Unit {0}) → ℕ → List ℕ → List ℕ → Type 0
IsRichEmitted c width bytes emitted = IsEmitted rich_tag rich_view c width bytes emitted

abbrev pub RichAnswers : PageSetting (Unit {0}) → ℕ → List ℕ → PageAnswer RichTag → Type 0
RichAnswers c width bytes answer = Answers rich_tag rich_view c width bytes answer

abbrev pub IsPlainEmitted : PageSetting (Unit {0}) → ℕ → List ℕ → List ℕ → Type 0
IsPlainEmitted c width bytes emitted = IsEmitted {A = Unit {0}} (λ _. tt) plain_view c width bytes emitted

abbrev pub PlainAnswers : PageSetting (Unit {0}) → ℕ → List ℕ → PageAnswer (Unit {0}) → Type 0
PlainAnswers c width bytes answer = Answers {A = Unit {0}} (λ _. tt) plain_view c width bytes answer

rich_look : (look : Bool) (R P : Type 0) → look ≡ true → R → EitherLook look R P
rich_look true R P e r = r
rich_look false R P e r = cc

plain_look : (look : Bool) (R P : Type 0) → look ≡ false → P → EitherLook look R P
plain_look true R P e p = cc
plain_look false R P e p = p

module _ (asked : Asked) (names : References) (c : PageSetting (Unit {0})) (is : IsSetting asked names c) where
  pub rich_has : asked.rich ≡ true → (page emitted : List ℕ) → IsRichEmitted c asked.width page emitted
      → HasAskedText asked names page emitted
  rich_has rich page emitted has = record {
    setting = c;
    is = is;
    has = rich_look asked.rich _ _ rich
        (has (λ _ m. rich_mark_tag m) (λ h m a given. rich_tag_fits m a given));
  }

  pub rich_narrow : asked.rich ≡ true → (page : List ℕ) → RichAnswers c asked.width page too_narrow
      → IsTooNarrowPage asked names page
  rich_narrow rich page has = record {
    setting = c;
    is = is;
    has = rich_look asked.rich _ _ rich
        (has (λ _ m. rich_mark_tag m) (λ h m a given. rich_tag_fits m a given));
  }

  pub rich_nothing : asked.rich ≡ true → (page : List ℕ) → RichAnswers c asked.width page fail
      → IsOtherPage asked names page
  rich_nothing rich page has = record {
    setting = c;
    is = is;
    has = rich_look asked.rich _ _ rich
        (has (λ _ m. rich_mark_tag m) (λ h m a given. rich_tag_fits m a given));
  }

  pub plain_has : asked.rich ≡ false → (page emitted : List ℕ) → IsPlainEmitted c asked.width page emitted
      → HasAskedText asked names page emitted
  plain_has plain page emitted has = record {
    setting = c;
    is = is;
    has = plain_look asked.rich _ _ plain (has (λ _ _. tt) (λ h m a given. refl));
  }

  pub plain_narrow : asked.rich ≡ false → (page : List ℕ) → PlainAnswers c asked.width page too_narrow
      → IsTooNarrowPage asked names page
  plain_narrow plain page has = record {
    setting = c;
    is = is;
    has = plain_look asked.rich _ _ plain (has (λ _ _. tt) (λ h m a given. refl));
  }

  pub plain_nothing : asked.rich ≡ false → (page : List ℕ) → PlainAnswers c asked.width page fail
      → IsOtherPage asked names page
  plain_nothing plain page has = record {
    setting = c;
    is = is;
    has = plain_look asked.rich _ _ plain (has (λ _ _. tt) (λ h m a given. refl));
  }

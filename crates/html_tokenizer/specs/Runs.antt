-- Runs of text that are taken from the queue at once.
use Rattle.std.specs.Prelude.{◌≡◌, ℕ, List, [], ◌∷◌, ◌++◌, Option, MatchOption}
use Rattle.html_lexemes.specs.Queue.{Queue, Takes}
use Rattle.html_tokenizer.specs.Completes.{TakesEach}

-- Some characters were taken from the front, each by itself, and what completes the reading after them completes it
-- with them before it; then this character was taken, or none was left.
pub record TakesRun {A : Type 0} (completes now : List ℕ → A → Type 0) (old : Queue) (trailing : Option ℕ)
    (new : Queue) : Type 0 where
  pub between : Queue
  pub taken : List ℕ
  pub takes : TakesEach old taken between
  pub reads : (rest : List ℕ) (final : A) → now rest final → completes (taken ++ rest) final
  pub character : MatchOption trailing ((between.text ≡ []) × (new ≡ between)) (λ c. Takes between (c ∷ []) new)

-- Some characters were taken from the front at once, perhaps none, and what completes the reading after them completes
-- it with them before it.
pub record TakesFront {A : Type 0} (completes now : List ℕ → A → Type 0) (old new : Queue) : Type 0 where
  pub taken : List ℕ
  pub takes : Takes old taken new
  pub reads : (rest : List ℕ) (final : A) → now rest final → completes (taken ++ rest) final

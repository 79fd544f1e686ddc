-- What taking a character of a set, or a run without one, does and answers.
use Rattle.std.specs.Prelude.{◌≡◌, ℕ, ◌<◌, IsTrue, List, [], ◌∷◌, ◌++◌, length, chars, string_bytes, Option, Some, None}
use Rattle.html_lexemes.specs.declared.queue.SetResult.{SetResult}
use Rattle.html_lexemes.specs.declared.queue.SetResult.TheVariants.{FromSet, NotFromSet}
use Rattle.html_lexemes.specs.Queue.{Queue, Takes, is_in, is_free_of}

-- nothing from an empty queue; a character of the set; or a run of characters outside it, at least one
abbrev pub PopsExcept : List ℕ → Queue → Option SetResult → Queue → Type 0
PopsExcept set old None new = (old.text ≡ []) × (new ≡ old)
PopsExcept set old (Some (FromSet c)) new = Takes old (c ∷ []) new × IsTrue (is_in set c)
PopsExcept set old (Some (NotFromSet run)) new =
    Takes old (chars (string_bytes run)) new × (0 < length (chars (string_bytes run)))
    × IsTrue (is_free_of set (chars (string_bytes run)))

-- a run of characters outside the set was taken, and stands after what the text was before
pub record PopsRun (set : List ℕ) (old : Queue) (before : List ℕ) (new : Queue) (trailing : List ℕ) : Type 0 where
  pub cs : List ℕ
  pub takes : Takes old cs new
  pub appended : chars trailing ≡ chars before ++ cs
  pub free : IsTrue (is_free_of set cs)

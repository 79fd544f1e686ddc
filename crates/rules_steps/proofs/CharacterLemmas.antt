-- U+FFFD as the bytes of a text.
use Rattle.std.proofs.Common.{◌≡◌, [], ◌∷◌, refl}
use Rattle.std.specs.Str.{chars}

pub replacement_is : chars (239 ∷ 191 ∷ 189 ∷ []) ≡ 65533 ∷ []
unfolding chars
replacement_is = refl

use Rattle.std.proofs.Common.{◌≡◌, chars, length}
use denote.Text.{Utf8}
use denote.Shadow.{shadow}
use Rattle.block_trait.specs.Renderers.{file_name}
use Rattle.block_trait.proofs.images.file_name.Given as goal

abbrev pub invariant-loop-front : goal.invariant-loop-front
invariant-loop-front l =
    record {
      text : shadow (Utf8 l.name);
      rest : file_name (chars l.name) ≡ file_name (chars l.src);
    }

abbrev pub decreases-loop-front : goal.decreases-loop-front
decreases-loop-front l = length l.name

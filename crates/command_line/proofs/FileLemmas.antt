-- What a loop of reads has read of a device so far.
use Rattle.std.proofs.Common.{◌≡◌, ◌∙◌, ◌++◌, [], IfSome, List, None, Option, Some, ap, append-nil, append_assoc, refl}
use Rattle.std.proofs.Common.{sym, ℕ}
use Rattle.std.specs.Io.KnownBytes.{Consumes, IsAtEnd}

pub consumes_more : (all now next : Option (List ℕ)) (read piece : List ℕ) → Consumes all now read
    → Consumes now next piece → Consumes all next (read ++ piece)
consumes_more None now next read piece a b = tt
consumes_more (Some bytes) None next read piece a b = absurd a
consumes_more (Some bytes) (Some rest) None read piece a b = absurd b
consumes_more (Some bytes) (Some rest) (Some after) read piece a b =
    a ∙ ap (λ more. read ++ more) b ∙ sym (append_assoc read piece after)

pub consumes_none : (all : Option (List ℕ)) → Consumes all all []
consumes_none None = tt
consumes_none (Some bytes) = refl

pub consumed_all : (all now next : Option (List ℕ)) (read : List ℕ) → Consumes all now read → Consumes now next []
    → IsAtEnd next → IfSome all (λ bytes. bytes ≡ read)
consumed_all None now next read a b end = tt
consumed_all (Some bytes) None next read a b end = absurd a
consumed_all (Some bytes) (Some rest) None read a b end = absurd b
consumed_all (Some bytes) (Some rest) (Some after) read a b end =
    a ∙ ap (λ more. read ++ more) (b ∙ end) ∙ append-nil read

-- A document, emitted.
use Rattle.std.proofs.Common.{◌≡◌, ℕ, List, [], ◌∷◌, Option, codes}
use Rattle.std.specs.Prelude.{Result, Ok, Err}
use Rattle.tree_serializer.specs.Calls.{Call, Reply, doctype_of, finish, reply_of, start}
use Rattle.tree_serializer.specs.Emitted.{IsEmitted, all}
use Rattle.tree_serializer.specs.declared.fault.SerializeFault.{SerializeFault}
use Rattle.document_laws.specs.Contents.{Content}
use Rattle.document_laws.specs.Planted.{of_html}
use Rattle.written_document_laws.specs.Emissions.{calls_and, document_calls, root_content}
use Rattle.article_writing.specs.Emits.{Emits}
use Rattle.article_writing.proofs.Emitting.{handed_on, one_emitted, then_emitted}

module _ {S : Type 0} (means : S → Call → Reply → S → Type 0) where
  -- nothing is left to emit
  whole_emitted : {A : Type 0} (s t : S) (r : Result A SerializeFault) (every : List Call → List Call) →
      Emits means s t r every (λ more. more) → IsEmitted means s (every []) (reply_of r) t
  whole_emitted s t (Ok value) every emitted = emitted [] _ t (all t)
  whole_emitted s t (Err fault) every emitted = emitted []

  pub document_refused : {A B : Type 0} (s t : S) (a : Result A SerializeFault) (r : Result B SerializeFault)
      (fault other : SerializeFault) (title : Option (List ℕ)) (content : Content) → a ≡ Err fault → r ≡ Err other →
      other ≡ fault → means s (doctype_of (codes "html")) (reply_of a) t →
      IsEmitted means s (document_calls title content) (reply_of r) t
  document_refused s t a r fault other title content is same e emitted =
      whole_emitted s t r (λ more. doctype_of (codes "html") ∷ start (of_html (codes "html")) []
      ∷ calls_and (root_content title content) (finish (of_html (codes "html")) ∷ more))
      (handed_on means s t a r fault other (λ more. doctype_of (codes "html") ∷ more) (λ more. more) (λ more. more)
      (λ more. start (of_html (codes "html")) []
      ∷ calls_and (root_content title content) (finish (of_html (codes "html")) ∷ more)) is same e
      (one_emitted means s t (doctype_of (codes "html")) (λ more. more) a emitted))

  pub document_emitted : {A B : Type 0} (s t u : S) (a : Result A SerializeFault) (value : A)
      (r : Result B SerializeFault)
      (title : Option (List ℕ)) (content : Content) → a ≡ Ok value →
      means s (doctype_of (codes "html")) (reply_of a) t →
      Emits means t u r (λ more. start (of_html (codes "html")) []
      ∷ calls_and (root_content title content) (finish (of_html (codes "html")) ∷ more)) (λ more. more) →
      IsEmitted means s (document_calls title content) (reply_of r) u
  document_emitted s t u a value r title content is begun emitted =
      whole_emitted s u r (λ more. doctype_of (codes "html") ∷ start (of_html (codes "html")) []
      ∷ calls_and (root_content title content) (finish (of_html (codes "html")) ∷ more))
      (then_emitted means s t u a value r (λ more. doctype_of (codes "html") ∷ more) (λ more. more) (λ more. more)
      (λ more. start (of_html (codes "html")) []
      ∷ calls_and (root_content title content) (finish (of_html (codes "html")) ∷ more)) is
      (one_emitted means s t (doctype_of (codes "html")) (λ more. more) a begun) emitted)

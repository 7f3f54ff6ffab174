-- Document 000's example is read as before where its URI is asked for, and is refused with 16 where any other is. Assumes nothing.
use mathlib.Core.Bool.{Bool, true, true≢false}
use mathlib.Core.List.{List, [], ◌∷◌}
use mathlib.Core.Path.{◌≡◌, sym, ap, ◌∙◌}
use Prim.Native.Nat.{ℕ}
use lib.ListN.{length, replicate}
use Rattle.octets.specs.Octets.{octets}
use Rattle.sections.specs.Reading.{last}
use Rattle.stream.specs.Buffers.{head_bytes}
use Rattle.stream.specs.Bytes.{same}
use Rattle.stream.specs.Events.{refused}
use Rattle.stream.specs.Stream.{plain_reading}
use Rattle.stream.proofs.Example.{terms, ring}
use Rattle.stream.proofs.Truth.{same_self}
use Rattle.exactness.specs.AskedFor.{uri_of}
use Rattle.examples.proofs.AskedExample.{stream, example_asked}
use Rattle.kept.specs.Kept.{as_another_show}
use Rattle.kept.proofs.OtherShow.{refused_where_not}
use Rattle.kept.proofs.SameShow.{same_where_asked}

-- what is said of streams with the asked URI is said of this one
pub example_uri : uri_of stream ≡ terms.uri
example_uri = (example_asked true).same_uri

-- whatever else is asked for, there is one event, refusal 16 at the head's last byte
pub example_refused : (uri : List ℕ) → (uri ≡ terms.uri → ⊥) → (told : Bool)
    → plain_reading (record { ring = ring; uri = uri }) stream (replicate 4 true) told ≡ (length (head_bytes stream), last (refused 16 0)) ∷ []
unfolding as_another_show
example_refused uri other told =
    refused_where_not (record { ring = ring; uri = uri }) stream (replicate 4 true) told (λ e. other (sym e ∙ example_uri))
    ∙ ap as_another_show (sym (same_where_asked terms stream (replicate 4 true) told example_uri) ∙ sym (example_asked told).asked)

same_test : (uri : List ℕ) → uri ≡ terms.uri → true ≡ same uri terms.uri
same_test uri e = sym (same_self terms.uri) ∙ ap (λ (u : List ℕ). same u terms.uri) (sym e)

-- and a beginning of its URI, and its URI in another case, are others
pub other_uris : (octets "https://example.com/hell" ≡ terms.uri → ⊥) × (octets "https://example.com/Hello" ≡ terms.uri → ⊥)
unfolding same
other_uris = (λ e. true≢false (same_test (octets "https://example.com/hell") e), λ e. true≢false (same_test (octets "https://example.com/Hello") e))

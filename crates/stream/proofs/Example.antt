-- Document 000's example as a stream: block size 5, the body `Hello world!`; the listed names are in lower case, and the trailer has no
-- fields. The key and the signatures are texts of the right form; nothing here asks whether they are true. Assumes nothing.
use mathlib.Core.List.{List, [], ◌∷◌, ◌++◌}
use Prim.Native.Nat.{ℕ}
use lib.ListN.{replicate}
use Rattle.octets.specs.Octets.{octets}
use Rattle.stream.specs.Head.{head_of}
use Rattle.stream.specs.Ring.{Ring}
use Rattle.stream.specs.Stream.{Show}
use Rattle.stream.specs.Terms.{Terms}

-- 32 zero bytes, and 64
abbrev pub key : List ℕ
key = octets "AAAAAAAAAAAAAAAAAAAAAAAAAAAAAAAAAAAAAAAAAAA="

abbrev pub signature : List ℕ
signature = octets "AAAAAAAAAAAAAAAAAAAAAAAAAAAAAAAAAAAAAAAAAAAAAAAAAAAAAAAAAAAAAAAAAAAAAAAAAAAAAAAAAAAAAA=="

-- the example's head, with these lines before its fields, these names at the end of its list, another injection and another block size
abbrev pub head_from : List ℕ → List ℕ → List ℕ → List ℕ → List ℕ
head_from lines names injection size =
    octets "HTTP/1.1 200 OK\r\n"
    ++ (lines
    ++ (octets "X-Ouinet-Version: 4\r\nX-Ouinet-URI: https://example.com/hello\r\nX-Ouinet-Injection: "
    ++ (injection
    ++ (octets "\r\nDate: Sat, 21 Mar 2020 00:00:00 GMT\r\nContent-Type: text/plain\r\nX-Ouinet-Sig0: keyId=\"ed25519="
    ++ (key
    ++ (octets
    "\",algorithm=\"hs2019\",created=1584748800, headers=\"(response-status) (created) x-ouinet-version x-ouinet-uri x-ouinet-injection date content-type"
    ++ (names
    ++ (octets "\",signature=\""
    ++ (signature
    ++ (octets "\"\r\nX-Ouinet-BSigs: keyId=\"ed25519="
    ++ (key
    ++ (octets "\",algorithm=\"hs2019\",size="
    ++ (size ++ octets "\r\nTransfer-Encoding: chunked\r\nTrailer: Digest, X-Ouinet-Data-Size, X-Ouinet-Sig1\r\n\r\n")))))))))))))

abbrev pub head_with : List ℕ → List ℕ → List ℕ
head_with injection size = head_from [] [] injection size

abbrev pub injection : List ℕ
injection = octets "id=qwertyuiop-12345,ts=1584748800"

abbrev pub example_head : List ℕ
example_head = head_with injection (octets "5")

-- the line's size, and the signature of the block before it
abbrev pub signed_line : List ℕ → List ℕ
signed_line size = size ++ (octets ";ouisig=" ++ (signature ++ octets "\r\n"))

abbrev pub example_body : List ℕ
example_body =
    octets "5\r\nHello\r\n"
    ++ (signed_line (octets "5")
    ++ (octets " worl\r\n" ++ (signed_line (octets "2") ++ (octets "d!\r\n" ++ (signed_line (octets "0") ++ octets "\r\n")))))

-- a ring that trusts the example's key from the first second to the example's
abbrev pub ring : Ring
ring = record { key = replicate 32 0; first = 0; last = 1_584_748_800 } ∷ []

-- its URI is asked for
abbrev pub terms : Terms
terms = record { ring = ring; uri = octets "https://example.com/hello" }

-- a show whose head has no fields, for sections after it
abbrev pub show : Show
show = record { id = octets "qwertyuiop-12345"; size = 16; key_number = 0; head = head_of [] }

-- Numbers and runs of bytes in a buffer. Assumes nothing.
use Rattle.std.specs.Prelude.{List, [], ◌∷◌, ◌++◌, ℕ, zero, suc, ◌+◌, ◌*◌, ◌/◌, ◌%◌, leb, length, get_or}
use Rattle.std.proofs.lemmas.List.Edits.{sets}
use Rattle.octets.specs.Choice.{pick}

-- a number as k bytes, the lowest first
unfoldable pub little_endian : ℕ → ℕ → List ℕ
little_endian zero n = []
little_endian (suc k) n = n % 256 ∷ little_endian k (n / 256)

-- numbers of 8 bytes each
unfoldable pub all_bytes : List ℕ → List ℕ
all_bytes [] = []
all_bytes (n ∷ ns) = little_endian 8 n ++ all_bytes ns

-- the number that bytes write, the lowest first
unfoldable pub number : List ℕ → ℕ
number [] = 0
number (x ∷ xs) = x + 256 * number xs

-- f at 0, 1 and so on, n of them
unfoldable pub up_to : {A : Type 0} → (ℕ → A) → ℕ → List A
up_to f zero = []
up_to f (suc n) = up_to f n ++ (f n ∷ [])

-- k bytes from the place `at` on; those that are missing count as 0
abbrev pub part : List ℕ → ℕ → ℕ → List ℕ
part l at k = up_to (λ i. get_or l (at + i) 0) k

-- the number of 8 bytes from the place `at` on
unfoldable pub number_at : List ℕ → ℕ → ℕ
number_at l at = number (part l at 8)

-- k words from the place `at` on, each a number of 8 bytes; of one that is too large for a word its lowest bits count
abbrev pub words_at : List ℕ → ℕ → ℕ → List ℕ
words_at l at k = up_to (λ i. number_at l (at + 8 * i) % 4294967296) k

-- how many bytes there are, and the buffer after them
pub record Placed : Type 0 where
  pub count : ℕ
  pub buffer : List ℕ

abbrev pub placing : ℕ → List ℕ → Placed
placing n l = record { count = n; buffer = l }

-- written over the front of a buffer where they fit whole; else it is left as it is
abbrev pub placed : List ℕ → List ℕ → Placed
placed s l = placing (length s) (pick (leb (length s) (length l)) (sets l 0 s) l)
